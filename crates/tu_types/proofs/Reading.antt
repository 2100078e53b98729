-- Texts as trees whose names are resolved. Lexemes stand between blanks and line ends.
use Rattle.std.specs.Prelude.{ℕ, List, [], ◌∷◌, Option, Some, None, reverse, ◌==◌, ◌||◌, ◌&&◌, Bool, true, false, if◌then◌else◌}
use Rattle.grammar.specs.Description.{rule, Derivation}
use Rattle.grammar.specs.Placed.{marked}
use Rattle.grammar.specs.Reading.{Outcome, found, read}
use Rattle.tu_token.specs.ClassNumbers.{lexemes, places}
use Rattle.tu_token.specs.Lexemes.{tokens_of}
use Rattle.tu_token.specs.Rules.{r-program, body}
use Rattle.tu_token.specs.Syntax.{Of}
use Rattle.tu_token.specs.Table.{table}
use Rattle.tu_token.specs.declared.token.Token.{Token}
use Rattle.tu_scope_rules.specs.declared.event.Context.TheVariants.{Elsewhere}
use Rattle.tu_scope_rules.specs.Uses.{uses_of}
use Rattle.tu_scope_parts.specs.Walk.{events}
use Rattle.tu_core.specs.Core.{Program}
use Rattle.tu_core.specs.WellFormed.{is_well_formed}
use Rattle.tu_type_base.specs.declared.fault.FaultKind.{FaultKind}
use Rattle.tu_type_base.specs.Checked.{Checked, Good, Faulty, least, kind_number}
use Rattle.tu_types.specs.Programs.{program}

-- blanks and line ends, and what stands between two of them; what has been read of the next piece is given backwards
abbrev pub split : (piece : List ℕ) → List ℕ → List (List ℕ)
split piece [] = reverse piece ∷ []
split piece (b ∷ rest) = if (b == 32) || (b == 10) then reverse piece ∷ (b ∷ []) ∷ split [] rest else split (b ∷ piece) rest

abbrev pub of_tree : Of r-program → Checked Program
of_tree tree = program (uses_of (reverse (events Elsewhere tree))) tree

abbrev pub of_reading : List Token → Outcome (Derivation body (rule r-program)) → Option (Checked Program)
of_reading tokens (found x []) = Some (of_tree ((marked table x (record { places = places tokens; end = record { start = 0; line = 0 }; number = 0 })).0))
of_reading tokens other = None

-- what a text comes to; nothing for a text that is no program
unfoldable pub checked : (source : List ℕ) → Option (Checked Program)
unfolding read
checked source = let tokens = tokens_of 0 1 (split [] source) in of_reading tokens (read table (rule r-program) (lexemes tokens))

-- no program, a core with whether it is well formed, or the number of a kind of fault and its place
pub data Verdict : Type 0 where
  NoProgram : Verdict
  Accepted : Bool → Verdict
  Refused : (kind start : ℕ) → Verdict

abbrev pub verdict_of : Option (Checked Program) → Verdict
verdict_of None = NoProgram
verdict_of (Some (Good p)) = Accepted (is_well_formed p)
verdict_of (Some (Faulty f fs)) = Refused (kind_number (least f fs).kind) (least f fs).start

abbrev pub is_same : Verdict → Verdict → Bool
is_same (Accepted a) (Accepted b) = a && b
is_same (Refused k m) (Refused l n) = (k == l) && (m == n)
is_same a b = false

-- accepted, with a well formed core
abbrev pub accepts : (source : List ℕ) → Bool
accepts source = is_same (verdict_of (checked source)) (Accepted true)

-- refused for a fault at the first token that has it
abbrev pub refuses : (source : List ℕ) → FaultKind → (start : ℕ) → Bool
refuses source kind start = is_same (verdict_of (checked source)) (Refused (kind_number kind) start)
