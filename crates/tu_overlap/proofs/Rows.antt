-- The first faults of actuals in a row, from the last one on.
use Rattle.std.proofs.Common.{◌≡◌, ℕ, ◌+◌, ◌-◌, ◌<◌, ◌≤◌, Bool, List, ◌∷◌, length, get_or, drop, sym, ◌∙◌, ap, subst, arith, inr, ◌⊎◌, ⊎_elim, Option, Some, None}
use Rattle.std.proofs.lemmas.List.{drop_more}
use Rattle.tu_core.specs.declared.names.At.{At}
use Rattle.tu_core.specs.Core.{Path, Program}
use Rattle.tu_core.specs.Acts.{Subject, subject_of}
use Rattle.tu_core.specs.Overlap.{ImportedIn, OfSubject, SharedIn, SharedWith}
use Rattle.tu_core_expressions.specs.declared.call.Actual.{Actual}
use Rattle.tu_core_expressions.specs.declared.call.Actual.TheVariants as actual
use Rattle.tu_core_expressions.specs.ExpressionViews.{actuals_view}
use Rattle.tu_effects.specs.Least.{earlier, IsLeast}
use Rattle.tu_effects.proofs.FirstPlace.{least_or, least_same}
use Rattle.tu_overlap.specs.Faults.{ImportedOne, SharedBehind, SharedWithOne}

-- F holds of a list at a place where One holds of its first element there, or F of the others
abbrev pub IsRow : {A : Type 0} → (F : List A → At → Type 0) → (One : A → List A → At → Type 0) → Type 0
IsRow {A} F One = (x : A) (xs : List A) (first second : Option At) → IsLeast (One x xs) first → IsLeast (F xs) second → IsLeast (F (x ∷ xs)) (earlier first second)

-- One more element was looked at.
pub row_more : {A : Type 0} (F : List A → At → Type 0) (One : A → List A → At → Type 0) → IsRow F One → (xs : List A) (place : ℕ) (x : A) (first second next : Option At) →
    0 < place → place ≤ length xs → x ≡ get_or xs (place - 1) x → next ≡ earlier first second → IsLeast (One x (drop place xs)) first → IsLeast (F (drop place xs)) second → IsLeast (F (drop (place - 1) xs)) next
row_more F One row xs place x first second next some le is e g h =
    let k = place - 1 in
    let lt : k < length xs = omega arith in
    let whole : k + 1 ≡ place = omega arith in
    let cut : drop k xs ≡ x ∷ drop place xs = drop_more xs k x lt ∙ ap (λ n. get_or xs k x ∷ drop n xs) whole ∙ ap (λ z. z ∷ drop place xs) (sym is) in
    subst (λ o. IsLeast (F (drop k xs)) o) (sym e) (subst (λ ys. IsLeast (F ys) (earlier first second)) (sym cut) (row x (drop place xs) first second g h))

nothing_or : (P : At → Type 0) (first second : Option At) → IsLeast (λ a. ⊥) first → IsLeast P second → IsLeast P (earlier first second)
nothing_or P first second g h = least_same (λ a. ⊥ ⊎ P a) P (λ a k. ⊎_elim (λ n. absurd n) (λ p. p) k) (λ a p. inr p) (earlier first second) (least_or (λ a. ⊥) P first second g h)

abbrev pub shared_with : Bool → Path → List Actual → At → Type 0
shared_with is_var p xs at = SharedWith is_var p (actuals_view xs) at

abbrev pub shared_one : Bool → Path → Actual → List Actual → At → Type 0
shared_one is_var p x xs at = SharedWithOne is_var p x at

pub shared_row : (is_var : Bool) (p : Path) → IsRow (shared_with is_var p) (shared_one is_var p)
shared_row is_var p (actual.Given place size e) xs first second g h = nothing_or (shared_with is_var p xs) first second g h
shared_row is_var p (actual.Lent place other_is_var bounds q) xs first second g h = least_or (SharedWithOne is_var p (actual.Lent place other_is_var bounds q)) (shared_with is_var p xs) first second g h

abbrev pub shared_all : List Actual → At → Type 0
shared_all xs at = SharedIn (actuals_view xs) at

abbrev pub shared_behind : Actual → List Actual → At → Type 0
shared_behind x xs at = SharedBehind x (actuals_view xs) at

pub shared_rows : IsRow shared_all shared_behind
shared_rows (actual.Given place size e) xs first second g h = nothing_or (shared_all xs) first second g h
shared_rows (actual.Lent place is_var bounds p) xs first second g h = least_or (shared_with is_var p xs) (shared_all xs) first second g h

abbrev pub imported_all : Program → ℕ → List Actual → At → Type 0
imported_all program callee xs at = ImportedIn program callee (actuals_view xs) at

abbrev pub imported_first : Program → ℕ → Actual → List Actual → At → Type 0
imported_first program callee x xs at = ImportedOne program callee x at

pub imported_row : (program : Program) (callee : ℕ) → IsRow (imported_all program callee) (imported_first program callee)
imported_row program callee (actual.Given place size e) xs first second g h = nothing_or (imported_all program callee xs) first second g h
imported_row program callee (actual.Lent place is_var bounds p) xs first second g h = least_or (ImportedOne program callee (actual.Lent place is_var bounds p)) (imported_all program callee xs) first second g h

-- P of the subject that is there
abbrev OfSome : (Subject → Type 0) → Option Subject → Type 0
OfSome P None = ⊥
OfSome P (Some y) = P y

pub of_subject : (P : Subject → Type 0) (path : Path) (x : Subject) → subject_of path ≡ Some x → OfSubject P path → P x
of_subject P path x e h = subst (OfSome P) e h

pub to_subject : (P : Subject → Type 0) (path : Path) (x : Subject) → subject_of path ≡ Some x → P x → OfSubject P path
to_subject P path x e h = subst (OfSome P) (sym e) h
