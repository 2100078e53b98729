-- Descriptions of lists of lexemes, their derivations, and what a derivation prints.
use Rattle.std.specs.Prelude.{ℕ, List, [], ◌∷◌, ◌++◌}

-- a class and a text
abbrev pub Lexeme : Type 0
Lexeme = ℕ × List ℕ

pub data Description (Rule : Type 0) : Type 0 where
  -- one lexeme of a class
  token : ℕ → Description Rule
  empty : Description Rule
  sequence : Description Rule → Description Rule → Description Rule
  choice : Description Rule → Description Rule → Description Rule
  -- any number of times
  repetition : Description Rule → Description Rule
  rule : Rule → Description Rule
  -- a long rule and then more, or a short rule, whose lists the long rule spells too
  span : Rule → Rule → Description Rule → Description Rule

-- a derivation of a description, where each rule is described by its body
pub data Derivation {Rule : Type 0} (body : Rule → Description Rule) : Description Rule → Type 0 where
  d-token : {c : ℕ} → List ℕ → Derivation body (token c)
  d-empty : Derivation body empty
  d-sequence : {a b : Description Rule} → Derivation body a → Derivation body b → Derivation body (sequence a b)
  d-left : {a b : Description Rule} → Derivation body a → Derivation body (choice a b)
  d-right : {a b : Description Rule} → Derivation body b → Derivation body (choice a b)
  d-none : {a : Description Rule} → Derivation body (repetition a)
  d-more : {a : Description Rule} → Derivation body a → Derivation body (repetition a) → Derivation body (repetition a)
  d-rule : {n : Rule} → Derivation body (body n) → Derivation body (rule n)
  d-span : {long short : Rule} {b : Description Rule} → Derivation body (rule long) → Derivation body b → Derivation body (span long short b)
  d-short : {long short : Rule} {b : Description Rule} → Derivation body (rule short) → Derivation body (span long short b)

-- the lexemes of a derivation
abbrev pub print : {Rule : Type 0} {body : Rule → Description Rule} {d : Description Rule} → Derivation body d → List Lexeme
print (d-token {c = c} text) = (c, text) ∷ []
print d-empty = []
print (d-sequence x y) = print x ++ print y
print (d-left x) = print x
print (d-right y) = print y
print d-none = []
print (d-more x xs) = print x ++ print xs
print (d-rule x) = print x
print (d-span x y) = print x ++ print y
print (d-short z) = print z
