-- The meaning of assigned code: its linear code over the numbers of the places.
use Rattle.std.specs.Prelude.{ℕ, List, [], ◌∷◌}
use Rattle.rv_image.specs.Streams.{Folder}
use Rattle.ir_form.specs.Place.{Place}
use Rattle.ir_form.specs.Units.{Meant}
use Rattle.rv_flat.specs.declared.linear.LinearRoutine.{LinearRoutine}
use Rattle.rv_flat.specs.declared.linear.Linear.{Linear}
use Rattle.rv_flat.specs.Units.{linear_meaning}
use Rattle.rv_flat.specs.Size.{linear_size}
use Rattle.rv_alloc.specs.declared.place.Places.{Places}
use Rattle.rv_alloc.specs.declared.assigned.Assigned.{Assigned}
use Rattle.rv_alloc.specs.Places.{number_at}
use Rattle.rv_alloc.specs.Renamed.{renamed_routine}

-- each routine over its places; one with no table of places is not there
abbrev pub placed_routines : List LinearRoutine → List Places → List LinearRoutine
placed_routines [] places = []
placed_routines (r ∷ rs) [] = []
placed_routines (r ∷ rs) (p ∷ ps) = renamed_routine (number_at p) r ∷ placed_routines rs ps

abbrev pub placed_code : Assigned → Linear
placed_code a = record a.linear { routines = placed_routines a.linear.routines a.places }

-- what assigned code means where things lie so, on this input and over this folder, within t turns and s other rounds
abbrev pub assigned_meaning : Assigned → Place → List ℕ → Folder → ℕ → ℕ → Meant
assigned_meaning a place input folder t s = linear_meaning (placed_code a) place input folder t s

-- how many words of text it takes at most
abbrev pub assigned_size : Assigned → ℕ
assigned_size a = linear_size a.linear
