-- How far a source is read, and what is still to come.
use Rattle.std.specs.Prelude.{◌≡◌, ℕ, ◌+◌, ◌≤◌, Bool, nat_le, ◌==◌, List, [], ◌∷◌, ◌++◌, length, take, drop, Option, Some, None, if◌then◌else◌}
use Rattle.tu_base.specs.declared.limits.TheConstants.{MOST_OPEN, MOST_TOKENS}
use Rattle.tu_token.specs.declared.class.Class.{Class}
use Rattle.tu_token.specs.declared.fault.LexError.{LexError}
use Rattle.tu_token.specs.declared.fault.LexError.TheVariants.{BadByte as bad_byte, TooMany as too_many, TooDeep as too_deep}
use Rattle.tu_token.specs.Lexemes.{IsSplit, size_of, line_after, tokens_of}
use Rattle.tu_token.specs.Nests.{nest_after, depth}
use Rattle.tu_token.specs.LexFaults.{FaultKind, Reading, reading_after, at_start, IsFault, HasFault}
use Rattle.tu_lex.specs.declared.lexer.Progress.{Progress}

-- the bytes behind a gap
abbrev pub passed : Progress → List ℕ → Progress
passed p gap = record { tokens = p.tokens; nest = p.nest; place = p.place + length gap; line = line_after p.line gap }

-- a token is taken
abbrev pub taken : Progress → Class → List ℕ → Progress
taken p class text = record {
  tokens = record { items = p.tokens.items ++ record { class = class; text = text; start = p.place; length = length text; line = p.line } ∷ []; start = p.tokens.start; line = p.tokens.line };
  nest = nest_after p.nest class;
  place = p.place + length text;
  line = p.line;
}

-- why a token may not be taken, where its bytes may be those of a text that may not stand there
abbrev pub refusal_of : Progress → Class → Bool → Option LexError
refusal_of p class bad =
    if length p.tokens.items == MOST_TOKENS then Some (too_many p.line)
    else if bad then Some (bad_byte p.line)
    else if nat_le (depth (nest_after p.nest class)) MOST_OPEN then None
    else Some (too_deep p.line)

-- a fault in bytes from a place on
pub record HasFaultFrom (reading : Reading) (source : List ℕ) (kind : FaultKind) (place : ℕ) : Type 0 where
  pub pieces : List (List ℕ)
  pub rest : List ℕ
  pub offset : ℕ
  pub split : IsSplit pieces source rest
  pub fault : IsFault (reading_after reading pieces) kind offset rest
  pub place_is : place ≡ size_of pieces + offset

abbrev pub reading_of : Progress → Reading
reading_of p = record { count = length p.tokens.items; nest = p.nest }

-- the source up to the place is read without a fault
pub record Reads (source : List ℕ) (p : Progress) : Type 0 where
  pub pieces : List (List ℕ)
  pub split : IsSplit pieces source (drop p.place source)
  pub place : p.place ≡ size_of pieces
  pub within : p.place ≤ length source
  pub line : p.line ≡ line_after 1 (take p.place source)
  pub items : p.tokens.items ≡ tokens_of 0 1 pieces
  pub reading : reading_after at_start pieces ≡ reading_of p
  pub faults : (kind : FaultKind) (place : ℕ) → HasFault source kind place → (offset : ℕ) × (place ≡ p.place + offset) × HasFaultFrom (reading_of p) (drop p.place source) kind offset
