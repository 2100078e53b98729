-- A unit that ends at once.
use Rattle.std.specs.Prelude.{[], ◌∷◌}
use Rattle.ir_form.specs.declared.unit.Routine.{Routine}
use Rattle.ir_form.specs.declared.unit.Unit.{Unit as RegionUnit}

abbrev pub ending_routine : Routine
ending_routine = record { body = record { parameters = []; ops = []; results = [] }; results = 0; room = 32; words = 0; depth = 0 }

abbrev pub ending_unit : RegionUnit
ending_unit = record {
  globals = 0;
  main = 0;
  routines = ending_routine ∷ [];
  texts = [];
}
