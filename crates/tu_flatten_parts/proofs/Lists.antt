-- Lists of parts, written one behind the other.
use Rattle.std.specs.Prelude.{◌≡◌, ℕ, zero, suc, ◌+◌, ◌<◌, ◌≤◌, List, ◌∷◌, ◌++◌, length, drop}
use Rattle.std.proofs.Common.{sym, ap, ◌∙◌, get_or, append_assoc}
use Rattle.std.proofs.lemmas.List.{append-nil, drop_more, at_drop_all}
use Rattle.grammar.specs.Description.{Lexeme, Description, rule, print}
use Rattle.grammar.specs.Tree.{erase, repeated}
use Rattle.tu_token.specs.declared.class.Class.TheVariants.{SignComma}
use Rattle.tu_token.specs.Rules.{Rule}
use Rattle.tu_token.specs.Syntax.{Of}
use Rattle.tu_expr.specs.Parts.{Part, chain, any_listing}
use Rattle.tu_flatten_parts.specs.Writes.{Writes}

-- what a list of parts spells
abbrev spelled : {A : Type 0} (d : Description Rule) → (A → Part d) → List A → List Lexeme
spelled d show xs = print (erase (repeated d show xs))

-- the first k parts of a list were written
pub record Turns {A : Type 0} (d : Description Rule) (show : A → Part d) (xs : List A) (k : ℕ) (old new : List Lexeme) : Type 0 where
  pub is : new ++ print (erase (repeated d show (drop k xs))) ≡ old ++ print (erase (repeated d show xs))

-- one more
pub turn : {A : Type 0} {d : Description Rule} {show : A → Part d} {xs : List A} {k : ℕ} {u v w : List Lexeme} {x : A} → Turns d show xs k u v → k < length xs → x ≡ get_or xs k x → Writes (show x) v w → Turns d show xs (k + 1) u w
turn {d = d} {show = show} {xs = xs} {k = k} {u = u} {v = v} {w = w} {x = x} t lt e p =
    let rest = spelled d show (drop (k + 1) xs) in
    let next : drop k xs ≡ x ∷ drop (k + 1) xs = drop_more xs k x lt ∙ ap (λ z. z ∷ drop (k + 1) xs) (sym e) in
    record { is = ap (λ (z : List Lexeme). z ++ rest) p.is ∙ append_assoc v (print (erase (show x))) rest ∙ ap (λ z. v ++ spelled d show z) (sym next) ∙ t.is }

-- all of them
pub turned : {A : Type 0} {d : Description Rule} {show : A → Part d} {xs ys : List A} {k : ℕ} {u v : List Lexeme} → Turns d show xs k u v → length xs ≤ k → xs ≡ ys → Writes (repeated d show ys) u v
turned {d = d} {show = show} {xs = xs} {k = k} {u = u} {v = v} t le e =
    record { is = sym (append-nil v) ∙ ap (λ z. v ++ z) (sym (at_drop_all (spelled d show) xs k le)) ∙ t.is ∙ ap (λ z. u ++ spelled d show z) e }

-- what is left of parts with commas between, behind the first k
abbrev pub left_of : (n : Rule) → ℕ → List (Of n) → List Lexeme
left_of n zero xs = print (erase (any_listing n xs))
left_of n (suc k) xs = print (erase (chain SignComma (rule n) xs))

-- the first k parts of a list were written with commas between
pub record Listed (n : Rule) (xs : List (Of n)) (k : ℕ) (old new : List Lexeme) : Type 0 where
  pub is : new ++ left_of n k (drop k xs) ≡ old ++ print (erase (any_listing n xs))
