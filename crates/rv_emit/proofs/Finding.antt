-- A routine by its number.
use Rattle.std.proofs.Common.{◌≡◌, ◌≤◌, ℕ, zero, suc, length, arith, List, [], ◌∷◌, Option, Some, None, refl}
use Rattle.std.specs.Prelude.{slice_get}
use Rattle.rv_flat.specs.declared.linear.LinearRoutine.{LinearRoutine}
use Rattle.rv_alloc.specs.declared.place.Places.{Places}
use Rattle.rv_alloc.specs.Places.{number_at}
use Rattle.rv_alloc.specs.Renamed.{renamed_routine}
use Rattle.rv_alloc.specs.Assigned.{placed_routines}

abbrev pub joined : Option LinearRoutine → Option Places → Option LinearRoutine
joined None places = None
joined (Some r) None = None
joined (Some r) (Some p) = Some (renamed_routine (number_at p) r)

joined_none : (r : Option LinearRoutine) → None ≡ joined r None
joined_none None = refl
joined_none (Some r) = refl

pub placed_get : (rs : List LinearRoutine) (ps : List Places) (k : ℕ) → slice_get (placed_routines rs ps) k ≡ joined (slice_get rs k) (slice_get ps k)
placed_get [] ps k = refl
placed_get (r ∷ rs) [] k = joined_none (slice_get (r ∷ rs) k)
placed_get (r ∷ rs) (p ∷ ps) zero = refl
placed_get (r ∷ rs) (p ∷ ps) (suc k) = placed_get rs ps k

pub fewer : (rs : List LinearRoutine) (ps : List Places) → length (placed_routines rs ps) ≤ length rs
fewer [] ps = omega arith
fewer (r ∷ rs) [] = omega arith
fewer (r ∷ rs) (p ∷ ps) = let ih = fewer rs ps in omega arith
