use Rattle.std.proofs.Common.{ap, ◌∙◌, sym}
use Rattle.std.specs.Option.{option_copied}
use Rattle.tu_type_operands.specs.Tables.{declaration_or, declaration_at}
use Rattle.tu_type_operands.proofs.Lookups.{found}
use Rattle.tu_type_operands.proofs.uses.Uses.declaration.Goals as goal

pub returns-in-Some : goal.returns-in-Some
returns-in-Some c =
    ap (λ r. declaration_or (option_copied r)) (sym c.in-Some.is)
    ∙ ap declaration_or (c.get.ensures.value ∙ found c.args.start c.self.inside.by_start.entries) ∙ ap (λ es. declaration_at es c.args.start) c.self.view_is

pub returns-in-None : goal.returns-in-None
returns-in-None c =
    ap (λ r. declaration_or (option_copied r)) (sym c.in-None.is)
    ∙ ap declaration_or (c.get.ensures.value ∙ found c.args.start c.self.inside.by_start.entries) ∙ ap (λ es. declaration_at es c.args.start) c.self.view_is
