use Rattle.std.proofs.Common.{◌≡◌, drop}
use Rattle.std.specs.List.{list_all}
use Rattle.ir_form.specs.Values.{values_of}
use Rattle.ir_form.specs.Tests.{is_once}
use Rattle.ir_form.proofs.tally.once_values.Given as goal

abbrev pub invariant-loop-value : goal.invariant-loop-value
invariant-loop-value l = list_all (is_once (values_of l.routine)) (drop l.value-index l.values) ≡ list_all (is_once (values_of l.routine)) l.values
