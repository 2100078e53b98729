use Rattle.std.proofs.Common.{ap, refl, ◌∙◌}
use Rattle.std.specs.Prelude.{Some, None}
use Rattle.rv_machine.proofs.Texts.{came_to}
use Rattle.rv_machine.proofs.step.step.Goals as goal

pub returns-in-None-clause-is : goal.returns-in-None-clause-is
returns-in-None-clause-is c = came_to _ _ c.fetch.result None _ c.fetch.ensures.is c.in-None.is refl

pub returns-in-Some-None-clause-is : goal.returns-in-Some-None-clause-is
returns-in-Some-None-clause-is c = came_to _ _ c.fetch.result (Some None) _ c.fetch.ensures.is (c.in-Some-None.is ∙ ap Some c.in-Some-None.field-0-is) refl

pub returns-in-Some-Some-clause-is : goal.returns-in-Some-Some-clause-is
returns-in-Some-Some-clause-is c =
    came_to _ _ c.fetch.result (Some (Some c.in-Some-Some.op)) _ c.fetch.ensures.is (c.in-Some-Some.is ∙ ap Some c.in-Some-Some.field-0-is) c.run_one.ensures.is
