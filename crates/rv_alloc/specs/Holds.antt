-- When places are right for linear code.
use Rattle.std.specs.Prelude.{◌≡◌, ℕ, ◌+◌, ◌<◌, ◌≤◌, List, All, Contains, IsSome, Some, nat_eq}
use Rattle.std.specs.List.{AllZip}
use Rattle.std.specs.Set.{distinct_count}
use Rattle.rv_flat.specs.declared.linear.LinearRoutine.{LinearRoutine}
use Rattle.rv_flat.specs.declared.linear.Linear.{Linear}
use Rattle.rv_flat.specs.Parts.{linear_numbers}
use Rattle.rv_alloc.specs.declared.place.Place.TheVariants.{Slot}
use Rattle.rv_alloc.specs.declared.place.Places.{Places}
use Rattle.rv_alloc.specs.declared.assigned.Assigned.{Assigned}
use Rattle.rv_alloc.specs.Places.{place_of}

-- no two of these values share a place
pub record ShareNone (values : List ℕ) (p : Places) : Type 0 where
  pub apart : (v w : ℕ) → Contains values v → Contains values w → place_of p v ≡ place_of p w → v ≡ w

-- each value that a routine names has a place, and no two of them the same one
pub record HoldsRoutine (r : LinearRoutine) (p : Places) : Type 0 where
  pub placed : All (λ v. IsSome (place_of p v)) (linear_numbers r)
  pub apart : ShareNone (linear_numbers r) p

-- the code, and what it keeps of its unit, are those of the linear code, and each routine has places that are right for it
pub record Holds (l : Linear) (a : Assigned) : Type 0 where
  pub code : a.linear ≡ l
  pub routines : AllZip HoldsRoutine l.routines a.places

-- a value is in a slot, below a number
pub record IsSlotBelow (slots : ℕ) (p : Places) (v : ℕ) : Type 0 where
  pub slot : ℕ
  pub place : place_of p v ≡ Some (Slot slot)
  pub below : slot < slots

-- Each value that a routine names is in a slot, and there are as many slots as different values.
pub record IsSlotted (r : LinearRoutine) (p : Places) : Type 0 where
  pub slots : p.slots ≡ distinct_count nat_eq (linear_numbers r)
  pub each : All (IsSlotBelow p.slots p) (linear_numbers r)

-- the slots are there in the routine's room, beside its words and 32 more
pub record HasRoom (r : LinearRoutine) (p : Places) : Type 0 where
  pub room : r.words + p.slots + 32 ≤ r.room
