use Rattle.std.proofs.Common.{◌∙◌, ap}
use Rattle.ir_form.specs.declared.tally.Tally.{Tally}
use Rattle.ir_form.specs.Values.{values_of}
use Rattle.ir_form.specs.Tests.{tally_of}
use Rattle.ir_form.proofs.Tallies.{values-started}
use Rattle.ir_form.proofs.tally.number_of_values.Goals as goal

pub returns : goal.returns
returns c =
    let e = ap (λ t. tally_of t (values_of c.args.routine.now)) c.new.ensures in
    ap (λ (t : Tally). t.values) (c.tally_region.ensures ∙ e) ∙ values-started 0 (values_of c.args.routine.now)
