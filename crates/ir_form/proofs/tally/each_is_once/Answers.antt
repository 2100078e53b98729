use Rattle.std.proofs.Common.{◌∙◌, ap, sym}
use Rattle.ir_form.specs.declared.tally.Tally.{Tally}
use Rattle.ir_form.specs.Values.{values_of}
use Rattle.ir_form.proofs.Tallies.{rising_once}
use Rattle.ir_form.proofs.tally.each_is_once.Goals as goal

pub returns-then-tally_region : goal.returns-then-tally_region
returns-then-tally_region c =
    let e = ap (λ (t : Tally). t.rises) (sym c.tally_region.ensures) in
    c.if-tally_region.true ∙ sym (rising_once c.new.result (values_of c.args.routine.now) (e ∙ c.if-tally_region.true))
