-- Blocks lie no higher than the statements that hold them.
use Rattle.std.specs.Prelude.{◌≡◌, ℕ, zero, suc, ◌<◌, ◌≤◌, List, [], ◌∷◌, length, Option}
use Rattle.std.proofs.Common.{ap, subst, get_or, arith}
use Rattle.grammar.specs.Tree.{height}
use Rattle.tu_token.specs.Rules.{r-elsif}
use Rattle.tu_token.specs.Syntax.{Of}
use Rattle.tu_tree.specs.declared.statement.Arm.{Arm}
use Rattle.tu_tree.specs.declared.statement.Otherwise.{Otherwise}
use Rattle.tu_tree.specs.StatementViews.{arms_view, elsifs_view, last_arm_view}

-- what holds at an element of a list holds at an element of the same list
at_element : {A : Type 0} (f : A → ℕ) (n : ℕ) (xs : List A) (k : ℕ) (x : A) → ((k : ℕ) → k < length xs → f (get_or xs k x) ≤ n) → k < length xs → x ≡ get_or xs k x → f x ≤ n
at_element f n xs k x h lt e = let y : f x ≡ f (get_or xs k x) = ap f e in omega (arith, y, h k lt)

elsif_at : (xs : List (Of r-elsif)) (d : Of r-elsif) (k : ℕ) → k < length xs → height (get_or xs k d) ≤ height (elsifs_view xs)
elsif_at [] d k lt = absurd (omega arith)
elsif_at (x ∷ xs) d zero lt = omega arith
elsif_at (x ∷ xs) d (suc k) lt = omega (arith, elsif_at xs d k (omega arith))

pub elsif_low : (x : Of r-elsif) (xs ys : List (Of r-elsif)) (k : ℕ) → k < length xs → x ≡ get_or xs k x → xs ≡ ys → height x ≤ height (elsifs_view ys)
elsif_low x xs ys k lt e same =
    let P : List (Of r-elsif) → Type 0 = λ z. height x ≤ height (elsifs_view z) in
    subst P same (at_element (λ z. height z) (height (elsifs_view xs)) xs k x (elsif_at xs x) lt e)

arm_at : (xs : List Arm) (otherwise : Option Otherwise) (d : Arm) (k : ℕ) → k < length xs → height (get_or xs k d).block ≤ height (arms_view xs otherwise)
arm_at [] otherwise d k lt = absurd (omega arith)
arm_at (x ∷ xs) otherwise d zero lt = omega arith
arm_at (x ∷ xs) otherwise d (suc k) lt = omega (arith, arm_at xs otherwise d k (omega arith))

pub arm_low : (x : Arm) (xs ys : List Arm) (otherwise : Option Otherwise) (k : ℕ) → k < length xs → x ≡ get_or xs k x → xs ≡ ys → height x.block ≤ height (arms_view ys otherwise)
arm_low x xs ys otherwise k lt e same =
    let P : List Arm → Type 0 = λ z. height x.block ≤ height (arms_view z otherwise) in
    subst P same (at_element (λ (z : Arm). height z.block) (height (arms_view xs otherwise)) xs k x (arm_at xs otherwise x) lt e)

pub last_arm_low : (xs : List Arm) (otherwise : Option Otherwise) → height (last_arm_view otherwise) ≤ height (arms_view xs otherwise)
last_arm_low [] otherwise = omega arith
last_arm_low (x ∷ xs) otherwise = omega (arith, last_arm_low xs otherwise)
