-- The reader on lists of lexemes, by one lexeme ahead.
use Rattle.std.specs.Prelude.{◌≡◌, ℕ, zero, suc, ◌+◌, ◌*◌, cond, not, Bool, ◌&&◌, ◌==◌, List, [], ◌∷◌, length, Option, Some, None}
use Rattle.grammar.specs.Classes.{starts}
use Rattle.grammar.specs.Description.{Lexeme, Description, token, empty, sequence, choice, repetition, rule, span, Derivation, d-token, d-empty, d-sequence, d-left, d-right, d-none, d-more, d-rule, d-span, d-short}
use Rattle.grammar.specs.Grammar.{Grammar, nullable, first}

pub data Outcome (A : Type 0) : Type 0 where
  -- what was read, and the lexemes behind it
  found : A → List Lexeme → Outcome A
  -- the lexemes from the fault on
  fault : List Lexeme → Outcome A
  unfinished : Outcome A

abbrev pub and_then : {A B : Type 0} → Outcome A → (A → List Lexeme → Outcome B) → Outcome B
and_then (found x rest) go_on = go_on x rest
and_then (fault rest) go_on = fault rest
and_then unfinished go_on = unfinished

-- what was read, as part of something else
abbrev pub as_part : {A B : Type 0} → (A → B) → Outcome A → Outcome B
as_part make o = and_then o (λ x rest. found (make x) rest)

module _ {Rule : Type 0} {body : Rule → Description Rule} (g : Grammar body) where
  abbrev pub Reader : Description Rule → Type 0
  Reader d = List Lexeme → Outcome (Derivation body d)

  abbrev pub read_token : (c : ℕ) → Reader (token c)
  read_token c [] = fault []
  read_token c (x ∷ u) = cond (x.0 == c) (found (d-token x.1) u) (fault (x ∷ u))

  -- whether another turn of a repetition is read
  abbrev pub goes_on : Description Rule → List Lexeme → Bool
  goes_on a u = not (nullable g a) && starts (first g a) u

  abbrev pub read_shortened : (long short : Rule) (b : Description Rule) → Option (Derivation body (rule short)) → Reader (span long short b)
  read_shortened long short b None rest = fault rest
  read_shortened long short b (Some z) rest = found (d-short z) rest

  -- behind a long rule: more, where it begins, else the long rule is a short one
  abbrev pub read_behind : (long short : Rule) (b : Description Rule) → Reader b → Derivation body (rule long) → Reader (span long short b)
  read_behind long short b Q x rest = cond (starts (first g b) rest) (as_part (d-span x) (Q rest)) (read_shortened long short b (g.shorten long short x) rest)

  -- the reader down to rules and further turns, which P reads
  abbrev pub step : ((d : Description Rule) → Reader d) → (d : Description Rule) → Reader d
  step P (token c) u = read_token c u
  step P empty u = found d-empty u
  step P (sequence a b) u = and_then (step P a u) (λ x rest. as_part (d-sequence x) (step P b rest))
  step P (choice a b) u = cond (starts (first g a) u) (as_part d-left (step P a u)) (as_part d-right (step P b u))
  step P (repetition a) u = cond (goes_on a u) (and_then (step P a u) (λ x rest. as_part (d-more x) (P (repetition a) rest))) (found d-none u)
  step P (rule n) u = as_part d-rule (P (body n) u)
  step P (span long short b) u = and_then (as_part d-rule (P (body long) u)) (read_behind long short b (step P b))

  abbrev pub read_within : ℕ → (d : Description Rule) → Reader d
  read_within zero d u = unfinished
  read_within (suc depth) d u = step (read_within depth) d u

  -- the reader, with a depth that suffices
  unfoldable pub read : (d : Description Rule) → Reader d
  read d u = read_within ((g.ranks + 1) * length u + g.ranks + 1) d u

-- the reader finds no whole derivation of u, and stops at place k
abbrev pub StopsAt : {A : Type 0} → Outcome A → List Lexeme → ℕ → Type 0
StopsAt (found x []) u k = ⊥
StopsAt (found x (y ∷ rest)) u k = k + length (y ∷ rest) ≡ length u
StopsAt (fault rest) u k = k + length rest ≡ length u
StopsAt unfinished u k = ⊥
