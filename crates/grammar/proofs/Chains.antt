-- A repetition of which some turns were read, as a loop keeps it.
use Rattle.std.proofs.Common.{◌≡◌, true, false, List, [], ◌∷◌, ◌++◌, refl, sym, ◌∙◌, ap}
use Rattle.grammar.specs.Description.{Lexeme, Description, repetition, Derivation, d-none, d-more}
use Rattle.grammar.specs.Grammar.{Grammar, IsLl1}
use Rattle.grammar.specs.Reading.{Outcome, found, fault, unfinished, as_part, goes_on, read}
use Rattle.grammar.specs.Tree.{Node, erase, repeated}
use Rattle.grammar.proofs.Steps.{none_found, more_read, more_fault, rule_found, rule_fault, read_empty, sequence_found, sequence_fault, sequence_fault_behind, left_found, left_fault, right_found, right_fault, span_found, span_fault, span_fault_behind, short_found, short_fault}

-- the turns, each shown as a node, and then more
abbrev joined : {Rule A : Type 0} {body : Rule → Description Rule} (d : Description Rule) → (A → Node body d) → List A → Derivation body (repetition d) → Derivation body (repetition d)
joined d show [] y = y
joined d show (x ∷ xs) y = d-more (erase (show x)) (joined d show xs y)

joined_more : {Rule A : Type 0} {body : Rule → Description Rule} (d : Description Rule) (show : A → Node body d) (xs : List A) (x : A) (y : Derivation body (repetition d))
    → joined d show (xs ++ x ∷ []) y ≡ joined d show xs (d-more (erase (show x)) y)
joined_more d show [] x y = refl
joined_more d show (z ∷ xs) x y = ap (d-more (erase (show z))) (joined_more d show xs x y)

joined_repeated : {Rule A : Type 0} {body : Rule → Description Rule} (d : Description Rule) (show : A → Node body d) (xs : List A) → joined d show xs d-none ≡ erase (repeated d show xs)
joined_repeated d show [] = refl
joined_repeated d show (x ∷ xs) = ap (d-more (erase (show x))) (joined_repeated d show xs)

-- From start on the turns xs were read, up to here.
pub record Chain {Rule A : Type 0} {body : Rule → Description Rule} (g : Grammar body) (d : Description Rule) (show : A → Node body d) (xs : List A) (start here : List Lexeme) : Type 0 where
  pub is : read g (repetition d) start ≡ as_part (joined d show xs) (read g (repetition d) here)

pub chain_start : {Rule A : Type 0} {body : Rule → Description Rule} (g : Grammar body) (d : Description Rule) (show : A → Node body d) (u : List Lexeme) → Chain g d show [] u u
chain_start {body = body} g d show u = record { is = by (read g (repetition d) u) }
  where
    by : (o : Outcome (Derivation body (repetition d))) → o ≡ as_part (joined d show []) o
    by (found x rest) = refl
    by (fault rest) = refl
    by unfinished = refl

module _ {Rule A : Type 0} {body : Rule → Description Rule} (g : Grammar body) (l : IsLl1 g) (d : Description Rule) (show : A → Node body d) (xs : List A) (u v : List Lexeme) where
  pub chain_more : (w : List Lexeme) (x : A) → Chain g d show xs u v → goes_on g d v ≡ true → read g d v ≡ found (erase (show x)) w → Chain g d show (xs ++ x ∷ []) u w
  chain_more w x c e h = record { is = c.is ∙ ap (as_part (joined d show xs)) (more_read g l d v w (erase (show x)) e h) ∙ by (read g (repetition d) w) }
    where
      by : (o : Outcome (Derivation body (repetition d))) → as_part (joined d show xs) (as_part (d-more (erase (show x))) o) ≡ as_part (joined d show (xs ++ x ∷ [])) o
      by (found y rest) = ap (λ z. found z rest) (sym (joined_more d show xs x y))
      by (fault rest) = refl
      by unfinished = refl

  pub chain_fault : (s : List Lexeme) → Chain g d show xs u v → goes_on g d v ≡ true → read g d v ≡ fault s → read g (repetition d) u ≡ fault s
  chain_fault s c e h = c.is ∙ ap (as_part (joined d show xs)) (more_fault g l d v s e h)

  pub chain_end : Chain g d show xs u v → goes_on g d v ≡ false → read g (repetition d) u ≡ found (erase (repeated d show xs)) v
  chain_end c e = c.is ∙ ap (as_part (joined d show xs)) (none_found g l d v e) ∙ ap (λ z. found z v) (joined_repeated d show xs)

-- what a search backwards needs, with a proof of IsLl1
pub ruleset reading = (rule_found, rule_fault, read_empty, sequence_found, sequence_fault, sequence_fault_behind, left_found, left_fault, right_found, right_fault, span_found, span_fault, span_fault_behind, short_found, short_fault, chain_start, chain_more, chain_fault, chain_end)
