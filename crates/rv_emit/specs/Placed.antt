-- Routines over the places of their values.
use Rattle.std.specs.Prelude.{ℕ, List, map, Option, Some, None, min}
use Rattle.ir_form.specs.Units.{Head}
use Rattle.rv_flat.specs.declared.linear.LinearRoutine.{LinearRoutine}
use Rattle.rv_flat.specs.Units.{head_of}
use Rattle.rv_alloc.specs.declared.place.Places.{Places}
use Rattle.rv_alloc.specs.Places.{number_at}
use Rattle.rv_alloc.specs.declared.assigned.Assigned.{Assigned}
use Rattle.rv_alloc.specs.Assigned.{placed_code}
use Rattle.rv_layout.specs.Rooms.{head_in}
use Rattle.rv_text.specs.Lengths.{routine_length}
use Rattle.rv_alloc.specs.Renamed.{renamed_routine}
use Rattle.rv_emit.specs.declared.frame.Frame.{Frame}

-- the head of a routine whose values have these places
abbrev pub head_over : LinearRoutine → Places → Head
head_over r places = head_of (renamed_routine (number_at places) r)

abbrev pub frame_head : Frame → Head
frame_head f = head_over f.routine.now f.places.now

-- the number of a value's place
abbrev pub number_in : Frame → ℕ → ℕ
number_in f value = number_at f.places.now value

-- of a routine that may not be there
abbrev pub head_of_callee : Option Frame → Head
head_of_callee None = head_in None
head_of_callee (Some f) = frame_head f

abbrev pub numbers_in : Frame → List ℕ → List ℕ
numbers_in f values = map (number_in f) values

-- all routines of assigned code
abbrev pub routines_of : Assigned → List LinearRoutine
routines_of a = (placed_code a).routines

-- a count that stands still at the end of its type
abbrev pub capped : ℕ → ℕ
capped n = min n 18446744073709551615

-- a routine over its places
abbrev pub placed_routine : Frame → LinearRoutine
placed_routine f = renamed_routine (number_at f.places.now) f.routine.now

abbrev pub routine_in : Option Frame → Option LinearRoutine
routine_in None = None
routine_in (Some f) = Some (placed_routine f)

-- how many words a routine takes, if it is there
abbrev pub length_in : List LinearRoutine → Option LinearRoutine → ℕ
length_in rs None = 0
length_in rs (Some r) = routine_length rs r
