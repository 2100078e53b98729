use Rattle.std.proofs.Common.{ap, ◌∙◌}
use Rattle.tu_type_operands.specs.Tables.{entity_in}
use Rattle.tu_type_operands.proofs.Lookups.{found}
use Rattle.tu_type_operands.proofs.entities.Entities.find.Goals as goal

pub returns : goal.returns
returns c = c.get.ensures.value ∙ (found c.args.number c.self.inside.by_number.entries ∙ ap (λ es. entity_in es c.args.number) c.self.view_is)
