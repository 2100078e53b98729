use Rattle.std.proofs.Common.{◌∙◌, ap}
use Rattle.ir_form.specs.declared.tally.Tally.{Tally}
use Rattle.ir_form.specs.Values.{values_of}
use Rattle.ir_form.specs.Tests.{tally_of}
use Rattle.ir_form.proofs.Tallies.{found-started}
use Rattle.ir_form.proofs.tally.times.Goals as goal

pub returns : goal.returns
returns c =
    let e = ap (λ t. tally_of t (values_of c.args.routine.now)) c.new.ensures in
    ap (λ (t : Tally). t.found) (c.tally_region.ensures ∙ e) ∙ found-started c.args.value (values_of c.args.routine.now)
