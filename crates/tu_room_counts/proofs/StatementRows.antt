-- Rows of statements are sums of their elements.
use Rattle.std.specs.Prelude.{◌≡◌, ℕ, ◌+◌, ◌≤◌, List, ◌∷◌, Option, Some, None}
use Rattle.std.proofs.Common.{ap, ◌∙◌, refl, arith}
use Rattle.tu_core.specs.Core.{Start, Named, Block, Empty, Then, Declare, Bind}
use Rattle.tu_core.specs.Measures.{of_scalar, of_text, of_path, of_optional, of_start, of_starts, of_shown, of_taken, of_named, of_block, of_otherwise, of_arms}
use Rattle.tu_core_types.specs.declared.plain.Shown.{Shown}
use Rattle.tu_core_types.specs.declared.plain.Shown.TheVariants as shown
use Rattle.tu_core_types.specs.declared.plain.Taken.{Taken}
use Rattle.tu_core_types.specs.declared.plain.Taken.TheVariants as taken
use Rattle.tu_core_types.specs.declared.statement.Elsif.{Elsif}
use Rattle.tu_core_types.specs.declared.statement.Arm.{Arm}
use Rattle.tu_core_types.specs.declared.statement.Part.{Part}
use Rattle.tu_core_types.specs.declared.statement.Part.TheVariants as part
use Rattle.tu_core_expressions.specs.ExpressionViews.{optional_view}
use Rattle.tu_core_types.specs.StatementViews.{starts_view, shown_view, taken_view, elsifs_view, last_view, arms_view, parts_view}
use Rattle.tu_room_parts.specs.declared.capped.TheConstants.{MOST_ROOM}
use Rattle.tu_room_parts.specs.declared.count.Count.{Count}
use Rattle.tu_room_parts.specs.declared.count.Count.TheVariants as count
use Rattle.tu_room_parts.specs.Capped.{capped}
use Rattle.tu_room_parts.specs.Counts.{where_nodes, counting}
use Rattle.tu_room_counts.specs.StatementRows.{one_shown, one_taken, one_named, one_elsif, one_arm, one_part}
use Rattle.tu_room_parts.proofs.Sums.{Sums, regrouped}

-- four numbers grouped to either side
regrouped_four : (a b c d : ℕ) → capped (a + capped (b + capped (c + d))) ≡ capped (capped (a + capped (b + c)) + d)
regrouped_four a b c d = ap (λ n. capped (a + n)) (regrouped b c d) ∙ regrouped a (capped (b + c)) d

module _ (c : Count) where
  abbrev pub all_starts : List Start → ℕ
  all_starts xs = of_starts (counting c) (starts_view xs)

  pub sum_starts : Sums all_starts (of_start (counting c)) 0
  sum_starts = record { none = refl; more = λ x xs. refl }

  abbrev pub all_named : List Named → ℕ
  all_named xs = of_named (counting c) xs

  pub sum_named : Sums all_named (one_named (counting c)) 0
  sum_named = record { none = refl; more = λ x xs. refl }

  abbrev pub all_shown : List Shown → ℕ
  all_shown xs = of_shown (counting c) (shown_view xs)

  more_shown : (x : Shown) (xs : List Shown) → all_shown (x ∷ xs) ≡ capped (one_shown (counting c) x + all_shown xs)
  more_shown (shown.ShowInt e width) xs = regrouped (of_scalar (counting c) e) (of_optional (counting c) (optional_view width)) (all_shown xs)
  more_shown (shown.ShowTruth e width) xs = regrouped (of_scalar (counting c) e) (of_optional (counting c) (optional_view width)) (all_shown xs)
  more_shown (shown.ShowText e width) xs = regrouped (of_text (counting c) e) (of_optional (counting c) (optional_view width)) (all_shown xs)

  pub sum_shown : Sums all_shown (one_shown (counting c)) 0
  sum_shown = record { none = refl; more = more_shown }

  abbrev pub all_taken : List Taken → ℕ
  all_taken xs = of_taken (counting c) (taken_view xs)

  abbrev pub all_elsifs : Block → List Elsif → ℕ
  all_elsifs last xs = of_otherwise (counting c) (elsifs_view xs last)

  pub sum_elsifs : (last : Block) → Sums (all_elsifs last) (one_elsif (counting c)) (of_block (counting c) last)
  sum_elsifs last = record { none = refl; more = λ x xs. regrouped_four (where_nodes c 1) (of_scalar (counting c) x.condition) (of_block (counting c) x.block) (all_elsifs last xs) }

  abbrev pub all_arms : Option Block → List Arm → ℕ
  all_arms last xs = of_arms (counting c) (arms_view xs last)

  pub sum_arms : (last : Option Block) → Sums (all_arms last) (one_arm (counting c)) (of_arms (counting c) (last_view last))
  sum_arms last = record { none = refl; more = λ x xs. regrouped (where_nodes c 1) (of_block (counting c) x.block) (all_arms last xs) }

  abbrev pub all_parts : List Part → ℕ
  all_parts xs = of_block (counting c) (parts_view xs)

  more_parts : (x : Part) (xs : List Part) → all_parts (x ∷ xs) ≡ capped (one_part (counting c) x + all_parts xs)
  more_parts (part.Then s) xs = refl
  more_parts (part.Declare at d) xs = refl
  more_parts (part.Bind at x is_var p) xs = regrouped (where_nodes c 1) (of_path (counting c) p) (all_parts xs)

  pub sum_parts : Sums all_parts (one_part (counting c)) 0
  sum_parts = record { none = refl; more = more_parts }

  pub block_low : (b : Block) → of_block (counting c) b ≤ MOST_ROOM
  block_low Empty = omega arith
  block_low (Then s more) = omega arith
  block_low (Declare at d more) = omega arith
  block_low (Bind at x is_var p more) = omega arith

  pub default_low : (last : Option Block) → of_arms (counting c) (last_view last) ≤ MOST_ROOM
  default_low None = omega arith
  default_low (Some b) = omega arith

more_taken : (c : Count) (x : Taken) (xs : List Taken) → all_taken c (x ∷ xs) ≡ capped (one_taken (counting c) x + all_taken c xs)
more_taken c (taken.TakeInt s p) xs = regrouped (where_nodes c 0) (of_path (counting c) p) (all_taken c xs)
more_taken c (taken.TakeTruth p) xs = regrouped (where_nodes c 0) (of_path (counting c) p) (all_taken c xs)
more_taken c (taken.TakeToken size p) xs = regrouped (where_nodes c 0) (of_path (counting c) p) (all_taken c xs)
more_taken c (taken.TakeLine size p) xs = regrouped (where_nodes c 1) (of_path (counting c) p) (all_taken c xs)
more_taken c (taken.TakeCount size p e) xs = regrouped_four (where_nodes c 0) (of_path (counting c) p) (of_scalar (counting c) e) (all_taken c xs)

pub sum_taken : (c : Count) → Sums (all_taken c) (one_taken (counting c)) 0
sum_taken c = record { none = refl; more = more_taken c }

-- a number that is cut off already
pub of_capped : (c : Count) (n : ℕ) → where_nodes c (capped n) ≡ where_nodes c n
of_capped count.Nodes n = omega arith
of_capped (count.Results known) n = refl
