use Rattle.std.proofs.Common.{arith, subst, ◌∙◌}
use Rattle.tu_effects.specs.Least.{IsLeast}
use Rattle.tu_effects.proofs.Deeds.{IsUnlisted, unlisted_all}
use Rattle.tu_effects.proofs.FirstPlace.{least_behind, least_behind_all, least_one}
use Rattle.tu_effects.proofs.unlisted.unlisted_write.Goals as goal

pub loop-acts-init : goal.loop-acts-init
loop-acts-init c =
    least_one IsUnlisted c.args.texts.now.main c.unlisted_in_text-least.result
    (subst (λ xs. IsLeast (IsUnlisted xs) c.unlisted_in_text-least.result) c.as_slice.ensures c.unlisted_in_text-least.ensures)

pub loop-acts-preserved : goal.loop-acts-preserved
loop-acts-preserved c =
    least_behind IsUnlisted c.args.texts.now.main c.as_slice-acts-items.result.now c.loop-acts.acts-index c.acts-item.result c.loop-acts.least c.unlisted_in_text.result c.earlier-least.result
    (omega arith) c.acts-item.is c.earlier-least.ensures c.loop-acts.invariant
    (subst (λ xs. IsLeast (IsUnlisted xs) c.unlisted_in_text.result) c.as_slice-in-loop-acts.ensures c.unlisted_in_text.ensures)

pub returns : goal.returns
returns c =
    unlisted_all c.args.program.now c.args.texts.now.main c.as_slice-acts-items.result.now c.loop-acts.least c.requires.0 (c.as_slice-acts-items.ensures ∙ c.requires.1)
    (least_behind_all IsUnlisted c.args.texts.now.main c.as_slice-acts-items.result.now c.loop-acts.acts-index c.loop-acts.least (omega arith) c.loop-acts.invariant)
