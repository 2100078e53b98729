use Rattle.std.proofs.Common.{◌≡◌, ◌≤◌, take, drop}
use Rattle.ir_form.specs.Valid.{with, given_list}
use Rattle.ir_form.specs.Tests.{scope_of, fits_list, fits_each}
use Rattle.ir_form.proofs.validity.+fits.Given as goal

abbrev pub invariant-arms_fit-loop-arm : goal.invariant-arms_fit-loop-arm
invariant-arms_fit-loop-arm l = fits_each l.unit l.routine (scope_of l.around) l.taken (drop l.arm-index l.arms) ≡ fits_each l.unit l.routine (scope_of l.around) l.taken l.arms

abbrev pub invariant-region_fits-loop-i : goal.invariant-region_fits-loop-i
invariant-region_fits-loop-i l = record {
  within : l.giving ≤ l.i;
  giving : given_list (take l.giving l.ops) ≡ given_list (take l.i l.ops);
  fits : fits_list l.unit l.routine (with (with (scope_of l.around) l.region.parameters) (given_list (take l.i l.ops))) (drop l.i l.ops) ≡ fits_list l.unit l.routine (with (scope_of l.around) l.region.parameters) l.region.ops;
}
