use Rattle.std.proofs.Common.{◌∙◌, ap, sym, false}
use Rattle.ir_form.proofs.Sights.{leaves_or, leaves-last}
use Rattle.ir_form.proofs.validity.leaves_at_end.Goals as goal

pub returns-in-Some : goal.returns-in-Some
returns-in-Some c = c.leaves_region.ensures ∙ ap (leaves_or false) c.in-Some.ensures.value ∙ sym (leaves-last c.args.ops.now)
