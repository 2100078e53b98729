-- Flags of locals, which stand in the order of their numbers from a first one on.
use Rattle.std.specs.Prelude.{ℕ, suc, ◌+◌, ◌==◌, Bool, true, false, List, [], ◌∷◌, nat_lt, count_by, if◌then◌else◌}
use Rattle.tu_core.specs.Rooms.{one_if}
use Rattle.tu_room_changes.specs.Changed.{times}

-- the flag of a local, which those of other numbers do not have
abbrev pub flag_at : (first x : ℕ) → List Bool → Bool
flag_at n x [] = false
flag_at n x (f ∷ fs) = if n == x then f else flag_at (suc n) x fs

abbrev pub with_flag : (first x : ℕ) → Bool → List Bool → List Bool
with_flag n x new [] = []
with_flag n x new (f ∷ fs) = (if n == x then new else f) ∷ with_flag (suc n) x new fs

abbrev pub stands : ℕ → List ℕ → Bool
stands x xs = nat_lt 0 (times x xs)

-- a flag of a local that was met or not, and then restored or not
abbrev pub flag_left : (flag is_met is_restored : Bool) → Bool
flag_left flag false is_restored = flag
flag_left flag true false = false
flag_left flag true true = flag

abbrev pub left : (first : ℕ) → List Bool → (list restored : List ℕ) → List Bool
left n [] xs ys = []
left n (f ∷ fs) xs ys = flag_left f (stands n xs) (stands n ys) ∷ left (suc n) fs xs ys

abbrev pub both : Bool → Bool → Bool
both true b = b
both false b = false

-- how many locals with a flag stand in a list
abbrev pub hits : (first : ℕ) → List Bool → List ℕ → ℕ
hits n [] xs = 0
hits n (f ∷ fs) xs = one_if (both f (stands n xs)) + hits (suc n) fs xs

-- the locals with a flag, by their numbers
abbrev pub flagged : (first : ℕ) → List Bool → List ℕ
flagged n [] = []
flagged n (f ∷ fs) = if f then n ∷ flagged (suc n) fs else flagged (suc n) fs

abbrev pub scalars_in : ℕ × List Bool → List ℕ
scalars_in s = flagged s.0 s.1

abbrev pub met : ℕ × List Bool → List ℕ → ℕ
met s xs = count_by (λ x. stands x xs) (scalars_in s)
