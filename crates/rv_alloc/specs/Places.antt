-- The places of a routine's values.
use Rattle.std.specs.Prelude.{◌≡◌, ℕ, ◌+◌, ◌*◌, Option, Some, None, nat_eq, if◌then◌else◌}
use Rattle.std.specs.HashMap.{get}
use Rattle.std.specs.Option.{is_some}
use Rattle.rv_alloc.specs.declared.place.Place.{Place}
use Rattle.rv_alloc.specs.declared.place.Place.TheVariants.{Slot, Register}
use Rattle.rv_alloc.specs.declared.place.Places.{Places}

-- where a value is kept, if it has a place
abbrev pub place_of : Places → ℕ → Option Place
place_of p v = get nat_eq p.by_value v

-- the number of a place; a value with no place has 0, which no place has
abbrev pub number_of : Option Place → ℕ
number_of None = 0
number_of (Some (Slot slot)) = 2 * slot + 1
number_of (Some (Register register)) = 2 * register + 2

abbrev pub number_at : Places → ℕ → ℕ
number_at p v = number_of (place_of p v)

-- a value without a place gets the next slot, and all else stays
pub record GivesSlot (before after : Places) (value : ℕ) : Type 0 where
  pub places : (v : ℕ) → place_of after v ≡ (if nat_eq value v then (if is_some (place_of before v) then place_of before v else Some (Slot before.slots)) else place_of before v)
  pub slots : after.slots ≡ (if is_some (place_of before value) then before.slots else before.slots + 1)
