-- A unit that ends at once is ready.
use Rattle.std.proofs.Common.{◌≢◌, ℕ, List, [], ◌∷◌, arith, rules}
use Rattle.std.proofs.lemmas.List.Elements.{All-nil, All-cons}
use Rattle.rv_image.specs.Streams.{Folder}
use Rattle.ir_form.specs.Place.{Place}
use Rattle.ir_form.specs.State.{Stuck}
use Rattle.ir_form.specs.Units.{head_of, unit_run, meaning}
use Rattle.ir_form.specs.Valid.{IsValid}
use Rattle.ir_form.specs.Values.{marks_of}
use Rattle.ir_form.specs.Lawful.{IsSound, IsSoundUnit, plains_list, routine_numbers}
use Rattle.ir_form.specs.declared.unit.Routine.{Routine}
use Rattle.rv_flat.specs.Parts.{IsUnguardedUnit}
use Rattle.tu_compile.specs.Ready.{IsReadyUnit}
use Rattle.tu_rows.specs.Example.{ending_routine, ending_unit}

never_stuck : (place : Place) (input : List ℕ) (folder : Folder) (t s : ℕ) → (meaning ending_unit place input folder t s).verdict ≢ Stuck
unfolding unit_run
never_stuck place input folder t s = λ e. cc

valid : IsValid ending_unit
valid = search rules

abbrev IsSoundHere : Routine → Type 0
IsSoundHere r = IsSound 0 0 (0 ∷ []) (head_of r) (plains_list r.body.ops) (routine_numbers r) (marks_of r)

-- no values and no marks are named
routine_sound : IsSoundHere ending_routine
routine_sound = record { depth = omega arith; small = λ deep. omega arith; there = search rules; values = []; known = search rules; marks = []; marked = search rules; few = omega arith }

sound : IsSoundUnit ending_unit
sound = record {
  globals = omega arith;
  main = search rules;
  routines = All-cons IsSoundHere ending_routine [] routine_sound (All-nil IsSoundHere);
}

unguarded : IsUnguardedUnit ending_unit
unguarded = search rules

pub ending_ready : IsReadyUnit ending_unit
ending_ready = record {
  valid = valid;
  lawful = record { sound = sound; never_stuck = λ place input folder t s fits. never_stuck place input folder t s };
  unguarded = unguarded;
  weight = omega arith;
  texts = omega arith;
}
