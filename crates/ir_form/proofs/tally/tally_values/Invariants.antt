use Rattle.std.proofs.Common.{◌≡◌, drop}
use Rattle.ir_form.specs.Tests.{tally_of}
use Rattle.ir_form.proofs.tally.tally_values.Given as goal

abbrev pub invariant-loop-value : goal.invariant-loop-value
invariant-loop-value l = tally_of l.tally (drop l.value-index l.values) ≡ tally_of l.fn.before l.values
