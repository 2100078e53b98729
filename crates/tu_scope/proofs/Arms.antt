-- The arms of a `case`, each of which holds those behind it.
use Rattle.std.specs.Prelude.{◌≡◌, ℕ, ◌+◌, ◌<◌, ◌≤◌, List, ◌∷◌, ◌++◌, length, drop, Option, refl}
use Rattle.std.proofs.Common.{sym, ap, ◌∙◌, get_or, append_assoc}
use Rattle.std.proofs.lemmas.List.{drop_more, at_drop_all}
use Rattle.grammar.specs.Tree.{n-sequence}
use Rattle.tu_token.specs.Rules.{r-expr}
use Rattle.tu_expr.specs.Parts.{listing}
use Rattle.tu_tree.specs.declared.statement.Arm.{Arm}
use Rattle.tu_tree.specs.declared.statement.Otherwise.{Otherwise}
use Rattle.tu_tree.specs.StatementViews.{arms_view, last_arm_view}
use Rattle.tu_scope_rules.specs.declared.event.Context.TheVariants.{Elsewhere}
use Rattle.tu_scope_rules.specs.declared.event.Event.{Event}
use Rattle.tu_scope_parts.specs.Adds.{Adds, Extends}
use Rattle.tu_scope_parts.specs.Walk.{events}

-- what arms do
abbrev all : Option Otherwise → List Arm → List Event
all otherwise arms = events Elsewhere (arms_view arms otherwise)

-- the events of the first k arms were added
pub record Arms (xs : List Arm) (k : ℕ) (old new : List Event) : Type 0 where
  pub is : (otherwise : Option Otherwise) → new ++ events Elsewhere (arms_view (drop k xs) otherwise) ≡ old ++ events Elsewhere (arms_view xs otherwise)

pub no_arms : {xs : List Arm} {u : List Event} → Arms xs 0 u u
no_arms = record { is = λ otherwise. refl }

-- one more
pub arm_more : {xs : List Arm} {k : ℕ} {u v w : List Event} {x : Arm} → Arms xs k u v → k < length xs → x ≡ get_or xs k x → Adds Elsewhere (n-sequence (listing r-expr x.first x.more) x.block) v w → Arms xs (k + 1) u w
arm_more {xs = xs} {k = k} {u = u} {v = v} {w = w} {x = x} before below e p = record {
  is = λ otherwise.
      let labels = events Elsewhere (listing r-expr x.first x.more) in
      let block = events Elsewhere x.block in
      let rest = all otherwise (drop (k + 1) xs) in
      let next : drop k xs ≡ x ∷ drop (k + 1) xs = drop_more xs k x below ∙ ap (λ z. z ∷ drop (k + 1) xs) (sym e) in
      ap (λ (z : List Event). z ++ rest) p.is ∙ append_assoc v (labels ++ block) rest
      ∙ ap (λ (z : List Event). v ++ z) (append_assoc labels block rest) ∙ ap (λ z. v ++ all otherwise z) (sym next) ∙ before.is otherwise;
}

-- all of them, and the arm without labels
pub all_arms : {xs ys : List Arm} {k : ℕ} {u v w : List Event} (otherwise : Option Otherwise) → Arms xs k u v → length xs ≤ k → xs ≡ ys → Adds Elsewhere (last_arm_view otherwise) v w → Extends (events Elsewhere (arms_view ys otherwise)) u w
all_arms {xs = xs} {k = k} {u = u} {v = v} otherwise arms past same p =
    record { is = p.is ∙ ap (λ (z : List Event). v ++ z) (sym (at_drop_all (all otherwise) xs k past)) ∙ arms.is otherwise ∙ ap (λ z. u ++ all otherwise z) same }
