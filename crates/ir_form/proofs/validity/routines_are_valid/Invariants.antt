use Rattle.std.proofs.Common.{◌≡◌, drop}
use Rattle.std.specs.List.{list_all}
use Rattle.ir_form.specs.Tests.{is_valid_routine}
use Rattle.ir_form.proofs.validity.routines_are_valid.Given as goal

abbrev pub invariant-loop-routine : goal.invariant-loop-routine
invariant-loop-routine l = list_all (is_valid_routine l.unit) (drop l.routine-index l.routine-items) ≡ list_all (is_valid_routine l.unit) l.unit.routines
