-- The arms of a `case`, each of which holds those behind it.
use Rattle.std.specs.Prelude.{◌≡◌, ℕ, ◌+◌, ◌<◌, ◌≤◌, List, ◌∷◌, ◌++◌, length, drop, Option, refl}
use Rattle.std.proofs.Common.{sym, ap, ◌∙◌, get_or, append_assoc}
use Rattle.std.proofs.lemmas.List.{drop_more, at_drop_all}
use Rattle.grammar.specs.Description.{Lexeme, print}
use Rattle.grammar.specs.Tree.{erase}
use Rattle.tu_tree.specs.declared.statement.Arm.{Arm}
use Rattle.tu_tree.specs.declared.statement.Otherwise.{Otherwise}
use Rattle.tu_tree.specs.StatementViews.{arms_view, last_arm_view}
use Rattle.tu_flatten.specs.Statements.{labelled_view}
use Rattle.tu_flatten_parts.specs.Writes.{Writes}

-- the first k arms were written
pub record Arms (xs : List Arm) (k : ℕ) (old new : List Lexeme) : Type 0 where
  pub is : (otherwise : Option Otherwise) → new ++ print (erase (arms_view (drop k xs) otherwise)) ≡ old ++ print (erase (arms_view xs otherwise))

pub no_arms : {xs : List Arm} {u : List Lexeme} → Arms xs 0 u u
no_arms = record { is = λ otherwise. refl }

-- one more
pub arm_more : {xs : List Arm} {k : ℕ} {u v w : List Lexeme} {x : Arm} → Arms xs k u v → k < length xs → x ≡ get_or xs k x → Writes (labelled_view x) v w → Arms xs (k + 1) u w
arm_more {xs = xs} {k = k} {u = u} {v = v} {w = w} {x = x} t lt e p = record {
  is = λ otherwise.
      let rest = arms_view (drop (k + 1) xs) otherwise in
      let next : drop k xs ≡ x ∷ drop (k + 1) xs = drop_more xs k x lt ∙ ap (λ z. z ∷ drop (k + 1) xs) (sym e) in
      let joined : print (erase (labelled_view x)) ++ print (erase rest) ≡ print (erase (arms_view (x ∷ drop (k + 1) xs) otherwise)) = simp append_assoc in
      ap (λ (z : List Lexeme). z ++ print (erase rest)) p.is ∙ append_assoc v (print (erase (labelled_view x))) (print (erase rest))
      ∙ ap (λ (z : List Lexeme). v ++ z) joined ∙ ap (λ z. v ++ print (erase (arms_view z otherwise))) (sym next) ∙ t.is otherwise;
}

-- all of them, and the arm without labels
pub all_arms : {xs ys : List Arm} {k : ℕ} {u v w : List Lexeme} (otherwise : Option Otherwise) → Arms xs k u v → length xs ≤ k → xs ≡ ys → Writes (last_arm_view otherwise) v w → Writes (arms_view ys otherwise) u w
all_arms {xs = xs} {k = k} {u = u} {v = v} otherwise t le e p =
    record { is = p.is ∙ ap (λ (z : List Lexeme). v ++ z) (sym (at_drop_all (λ z. print (erase (arms_view z otherwise))) xs k le)) ∙ t.is otherwise ∙ ap (λ z. u ++ print (erase (arms_view z otherwise))) e }
