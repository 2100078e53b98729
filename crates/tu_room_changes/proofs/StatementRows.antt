-- Rows of statements without blocks as the locals that their elements change.
use Rattle.std.specs.Prelude.{◌≡◌, ℕ, List, [], ◌∷◌, ◌++◌}
use Rattle.std.proofs.Common.{ap, ◌∙◌, sym, refl, append_assoc}
use Rattle.tu_core.specs.Core.{Path, Scalar, Start, Named}
use Rattle.tu_core.specs.Measures.{of_scalar, of_text, of_path, of_optional, of_start, of_starts, of_shown, of_taken, of_named}
use Rattle.tu_core_types.specs.declared.plain.Shown.{Shown}
use Rattle.tu_core_types.specs.declared.plain.Shown.TheVariants as shown
use Rattle.tu_core_types.specs.declared.plain.Taken.{Taken}
use Rattle.tu_core_types.specs.declared.plain.Taken.TheVariants as taken
use Rattle.tu_core_expressions.specs.ExpressionViews.{optional_view}
use Rattle.tu_core_types.specs.StatementViews.{starts_view, shown_view, taken_view}
use Rattle.tu_room_counts.specs.StatementRows.{one_shown, one_taken, one_named}
use Rattle.tu_room_changes.specs.Changed.{changed, root_of}
use Rattle.tu_room_changes.proofs.Grown.{Rows}

abbrev pub all_starts : List Start → List ℕ
all_starts xs = of_starts changed (starts_view xs)

pub rows_of_starts : Rows all_starts (of_start changed) []
rows_of_starts = record { none = refl; more = λ x xs. refl }

abbrev pub all_named : List Named → List ℕ
all_named xs = of_named changed xs

pub rows_of_named : Rows all_named (one_named changed) []
rows_of_named = record { none = refl; more = λ x xs. refl }

abbrev pub all_shown : List Shown → List ℕ
all_shown xs = of_shown changed (shown_view xs)

more_shown : (x : Shown) (xs : List Shown) → all_shown (x ∷ xs) ≡ one_shown changed x ++ all_shown xs
more_shown (shown.ShowInt e width) xs = sym (append_assoc (of_scalar changed e) (of_optional changed (optional_view width)) (all_shown xs))
more_shown (shown.ShowTruth e width) xs = sym (append_assoc (of_scalar changed e) (of_optional changed (optional_view width)) (all_shown xs))
more_shown (shown.ShowText e width) xs = sym (append_assoc (of_text changed e) (of_optional changed (optional_view width)) (all_shown xs))

pub rows_of_shown : Rows all_shown (one_shown changed) []
rows_of_shown = record { none = refl; more = more_shown }

abbrev pub all_taken : List Taken → List ℕ
all_taken xs = of_taken changed (taken_view xs)

-- a root, what its place changes, and what stands behind
behind : (p : Path) (xs : List Taken) → root_of p ++ (of_path changed p ++ all_taken xs) ≡ (root_of p ++ of_path changed p) ++ all_taken xs
behind p xs = sym (append_assoc (root_of p) (of_path changed p) (all_taken xs))

behind_count : (p : Path) (e : Scalar) (xs : List Taken) → root_of p ++ (of_path changed p ++ (of_scalar changed e ++ all_taken xs)) ≡ (root_of p ++ (of_path changed p ++ of_scalar changed e)) ++ all_taken xs
behind_count p e xs =
    ap (λ z. root_of p ++ z) (sym (append_assoc (of_path changed p) (of_scalar changed e) (all_taken xs)))
    ∙ sym (append_assoc (root_of p) (of_path changed p ++ of_scalar changed e) (all_taken xs))

more_taken : (x : Taken) (xs : List Taken) → all_taken (x ∷ xs) ≡ one_taken changed x ++ all_taken xs
more_taken (taken.TakeInt s p) xs = behind p xs
more_taken (taken.TakeTruth p) xs = behind p xs
more_taken (taken.TakeToken size p) xs = behind p xs
more_taken (taken.TakeLine size p) xs = behind p xs
more_taken (taken.TakeCount size p e) xs = behind_count p e xs

pub rows_of_taken : Rows all_taken (one_taken changed) []
rows_of_taken = record { none = refl; more = more_taken }
