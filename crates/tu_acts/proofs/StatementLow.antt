-- How low the elements of a row of statements lie.
use Rattle.std.specs.Prelude.{◌≡◌, ℕ, ◌+◌, ◌<◌, ◌≤◌, List, [], ◌∷◌, length, Option}
use Rattle.std.proofs.Common.{get_or, arith}
use Rattle.tu_core.specs.Core.{Start, Block}
use Rattle.tu_core_types.specs.declared.statement.Elsif.{Elsif}
use Rattle.tu_core_types.specs.declared.statement.Arm.{Arm}
use Rattle.tu_core_types.specs.declared.statement.Part.{Part}
use Rattle.tu_core_types.specs.declared.statement.Part.TheVariants as part
use Rattle.tu_core_types.specs.StatementHeights.{height_of_start, height_of_starts, height_of_block, height_of_otherwise, height_of_arms}
use Rattle.tu_core_types.specs.StatementViews.{starts_view, elsifs_view, last_view, arms_view, parts_view}
use Rattle.tu_acts.proofs.Low.{low}

pub start_low : (xs : List Start) (i : ℕ) (x : Start) → i < length xs → x ≡ get_or xs i x → height_of_start x + 1 ≤ height_of_starts (starts_view xs)
start_low = low (λ x. height_of_start x + 1) (λ xs. height_of_starts (starts_view xs)) (λ x xs. omega arith) (λ x xs. omega arith)

pub elsif_low : (last : Block) (xs : List Elsif) (i : ℕ) (x : Elsif) → i < length xs → x ≡ get_or xs i x → height_of_block x.block + 1 ≤ height_of_otherwise (elsifs_view xs last)
elsif_low last = low (λ (x : Elsif). height_of_block x.block + 1) (λ xs. height_of_otherwise (elsifs_view xs last)) (λ x xs. omega arith) (λ x xs. omega arith)

pub arm_low : (last : Option Block) (xs : List Arm) (i : ℕ) (x : Arm) → i < length xs → x ≡ get_or xs i x → height_of_block x.block + 1 ≤ height_of_arms (arms_view xs last)
arm_low last = low (λ (x : Arm). height_of_block x.block + 1) (λ xs. height_of_arms (arms_view xs last)) (λ x xs. omega arith) (λ x xs. omega arith)

pub last_low : (last : Block) (xs : List Elsif) → height_of_block last + 1 ≤ height_of_otherwise (elsifs_view xs last)
last_low last [] = omega arith
last_low last (x ∷ xs) = omega (arith, last_low last xs)

pub default_low : (last : Option Block) (xs : List Arm) → height_of_arms (last_view last) ≤ height_of_arms (arms_view xs last)
default_low last [] = omega arith
default_low last (x ∷ xs) = omega (arith, default_low last xs)

parts_high : (xs : List Part) → 1 ≤ height_of_block (parts_view xs)
parts_high [] = omega arith
parts_high (part.Then s ∷ xs) = omega arith
parts_high (part.Declare at d ∷ xs) = omega arith
parts_high (part.Bind at x is_var p ∷ xs) = omega arith

part_one : (x : Part) (xs : List Part) → height_of_block (parts_view (x ∷ [])) ≤ height_of_block (parts_view (x ∷ xs))
part_one (part.Then s) xs = omega (arith, parts_high xs)
part_one (part.Declare at d) xs = omega (arith, parts_high xs)
part_one (part.Bind at x is_var p) xs = omega (arith, parts_high xs)

part_more : (x : Part) (xs : List Part) → height_of_block (parts_view xs) ≤ height_of_block (parts_view (x ∷ xs))
part_more (part.Then s) xs = omega arith
part_more (part.Declare at d) xs = omega arith
part_more (part.Bind at x is_var p) xs = omega arith

pub part_low : (xs : List Part) (i : ℕ) (x : Part) → i < length xs → x ≡ get_or xs i x → height_of_block (parts_view (x ∷ [])) ≤ height_of_block (parts_view xs)
part_low = low (λ x. height_of_block (parts_view (x ∷ []))) (λ xs. height_of_block (parts_view xs)) part_one part_more
