-- Trees: derivations with a mark at each rule, and with the place of each text.
use Rattle.std.specs.Prelude.{◌≡◌, ℕ, ◌+◌, max, List, [], ◌∷◌}
use Rattle.grammar.specs.Description.{Lexeme, Description, token, empty, sequence, choice, repetition, rule, span, Derivation, d-token, d-empty, d-sequence, d-left, d-right, d-none, d-more, d-rule, d-span, d-short, print}

-- a node's number, and the start and line of its first token
pub record Mark : Type 0 where
  pub number : ℕ
  pub start : ℕ
  pub line : ℕ

-- the mark of a rule that has none
abbrev pub no_mark : Mark
no_mark = record { number = 0; start = 0; line = 0 }

pub data Node {Rule : Type 0} (body : Rule → Description Rule) : Description Rule → Type 0 where
  n-token : {c : ℕ} → Node body (token c)
  -- a text with its start and line
  n-text : {c : ℕ} → List ℕ → ℕ → ℕ → Node body (token c)
  n-empty : Node body empty
  n-sequence : {a b : Description Rule} → Node body a → Node body b → Node body (sequence a b)
  n-left : {a b : Description Rule} → Node body a → Node body (choice a b)
  n-right : {a b : Description Rule} → Node body b → Node body (choice a b)
  n-none : {a : Description Rule} → Node body (repetition a)
  n-more : {a : Description Rule} → Node body a → Node body (repetition a) → Node body (repetition a)
  n-rule : {n : Rule} → Mark → Node body (body n) → Node body (rule n)
  n-span : {long short : Rule} {b : Description Rule} → Node body (rule long) → Node body b → Node body (span long short b)
  n-short : {long short : Rule} {b : Description Rule} → Node body (rule short) → Node body (span long short b)

-- the derivation without marks and places
abbrev pub erase : {Rule : Type 0} {body : Rule → Description Rule} {d : Description Rule} → Node body d → Derivation body d
erase n-token = d-token []
erase (n-text text start line) = d-token text
erase n-empty = d-empty
erase (n-sequence x y) = d-sequence (erase x) (erase y)
erase (n-left x) = d-left (erase x)
erase (n-right y) = d-right (erase y)
erase n-none = d-none
erase (n-more x xs) = d-more (erase x) (erase xs)
erase (n-rule mark x) = d-rule (erase x)
erase (n-span x y) = d-span (erase x) (erase y)
erase (n-short z) = d-short (erase z)

-- the tree spells the lexemes
abbrev pub Spells : {Rule : Type 0} {body : Rule → Description Rule} {d : Description Rule} → Node body d → List Lexeme → Type 0
Spells x u = print (erase x) ≡ u

-- how many rules and turns of repetitions lie inside one another
abbrev pub height : {Rule : Type 0} {body : Rule → Description Rule} {d : Description Rule} → Node body d → ℕ
height n-token = 0
height (n-text text start line) = 0
height n-empty = 0
height (n-sequence x y) = max (height x) (height y)
height (n-left x) = height x
height (n-right y) = height y
height n-none = 0
height (n-more x xs) = max (height x) (height xs + 1)
height (n-rule mark x) = height x + 1
height (n-span x y) = max (height x) (height y)
height (n-short z) = height z

-- a list of parts, each shown as a node
abbrev pub repeated : {Rule A : Type 0} {body : Rule → Description Rule} (d : Description Rule) → (A → Node body d) → List A → Node body (repetition d)
repeated d show [] = n-none
repeated d show (x ∷ xs) = n-more (show x) (repeated d show xs)
