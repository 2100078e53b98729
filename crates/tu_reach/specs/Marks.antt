-- The marks of a search, and the texts that it has still to follow.
use Rattle.std.specs.Prelude.{◌≡◌, ◌↔◌, ℕ, ◌+◌, Bool, true, false, not, List, [], ◌∷◌, ◌++◌, length, slice_index_or, slice_set, ◌⊎◌, if◌then◌else◌, count_by}
use Rattle.std.specs.List.{Contains}
use Rattle.tu_reach.specs.Rows.{IsCaller, LeadsToOne}

abbrev pub is_marked : List Bool → ℕ → Bool
is_marked marks a = slice_index_or marks a false

abbrev pub IsMarked : List Bool → ℕ → Type 0
IsMarked marks a = is_marked marks a ≡ true

abbrev pub IsUnmarked : List Bool → Type 0
IsUnmarked marks = (a : ℕ) → is_marked marks a ≡ false

-- all that are marked are in a list
abbrev pub IsListed : List Bool → List ℕ → Type 0
IsListed marks found = (a : ℕ) → IsMarked marks a → Contains found a

abbrev pub unmarked : List Bool → ℕ
unmarked marks = count_by not marks

-- a text is marked, and is to be followed where it was not marked
pub record HasMarked (marks : List Bool) (work : List ℕ) (marks' : List Bool) (work' : List ℕ) (a : ℕ) : Type 0 where
  pub marks_are : marks' ≡ slice_set marks a true
  pub work_is : work' ≡ (if is_marked marks a then work else work ++ a ∷ [])

-- texts are marked, and are to be followed where they were not marked
pub record HasMarkedAll (marks : List Bool) (work : List ℕ) (marks' : List Bool) (work' : List ℕ) (texts : List ℕ) : Type 0 where
  pub same_length : length marks' ≡ length marks
  pub marks_kept : (a : ℕ) → IsMarked marks a → IsMarked marks' a
  pub work_kept : (a : ℕ) → Contains work a → Contains work' a
  pub texts_marked : (a : ℕ) → Contains texts a → IsMarked marks' a
  pub only : (a : ℕ) → IsMarked marks' a → IsMarked marks a ⊎ Contains texts a
  pub to_do : (a : ℕ) → IsMarked marks' a → IsMarked marks a ⊎ Contains work' a
  pub listed : (a : ℕ) → Contains work' a → Contains work a ⊎ IsMarked marks' a
  pub fuel : unmarked marks' + length work' ≡ unmarked marks + length work

-- Each marked text leads to one of these, and its callers are marked unless it is still to be followed.
pub record IsSearch (callers : List (List ℕ)) (texts : List ℕ) (marks : List Bool) (work : List ℕ) : Type 0 where
  pub kept : (a : ℕ) → Contains texts a → IsMarked marks a
  pub sound : (a : ℕ) → IsMarked marks a → LeadsToOne callers texts a
  pub closed : (b : ℕ) → IsMarked marks b → Contains work b ⊎ ((a : ℕ) → IsCaller callers a b → IsMarked marks a)
  pub listed : (a : ℕ) → Contains work a → IsMarked marks a

-- just those are marked that lead to one of these
abbrev pub IsFound : (callers : List (List ℕ)) → (texts : List ℕ) → List Bool → Type 0
IsFound callers texts marks = (a : ℕ) → IsMarked marks a ↔ LeadsToOne callers texts a
