use Rattle.std.proofs.Common.{ap, ◌∙◌, refl}
use Rattle.tu_room_parts.specs.Capped.{capped}
use Rattle.tu_room_joins.specs.Flags.{met, scalars_in}
use Rattle.tu_room_joins.proofs.Joined.{joins_are, own_of_form}
use Rattle.tu_room_joins.proofs.statements.own_joins.Goals as goal

pub returns-in-If-clause-joins : goal.returns-in-If-clause-joins
returns-in-If-clause-joins c = c.count_in.ensures.count ∙ ap (λ l. capped (met c.args.scalars.now l)) c.requires ∙ ap capped (joins_are (scalars_in c.args.scalars.now) c.args.s.now ∙ own_of_form (scalars_in c.args.scalars.now) c.s.inside.at c.s.inside.form _ c.args.s.now c.s.view_is c.in-If.is refl)

pub returns-in-Loop-clause-joins : goal.returns-in-Loop-clause-joins
returns-in-Loop-clause-joins c = c.count_in-in-Loop.ensures.count ∙ ap (λ l. capped (met c.args.scalars.now l)) c.requires ∙ ap capped (joins_are (scalars_in c.args.scalars.now) c.args.s.now ∙ own_of_form (scalars_in c.args.scalars.now) c.s.inside.at c.s.inside.form _ c.args.s.now c.s.view_is c.in-Loop.is refl)

pub returns-in-For-clause-joins : goal.returns-in-For-clause-joins
returns-in-For-clause-joins c = c.count_in-in-For.ensures.count ∙ ap (λ l. capped (met c.args.scalars.now l)) c.requires ∙ ap capped (joins_are (scalars_in c.args.scalars.now) c.args.s.now ∙ own_of_form (scalars_in c.args.scalars.now) c.s.inside.at c.s.inside.form _ c.args.s.now c.s.view_is c.in-For.is refl)

pub returns-in-Case-clause-joins : goal.returns-in-Case-clause-joins
returns-in-Case-clause-joins c = c.count_in-in-Case.ensures.count ∙ ap (λ l. capped (met c.args.scalars.now l)) c.requires ∙ ap capped (joins_are (scalars_in c.args.scalars.now) c.args.s.now ∙ own_of_form (scalars_in c.args.scalars.now) c.s.inside.at c.s.inside.form _ c.args.s.now c.s.view_is c.in-Case.is refl)

pub returns-in-Begin-clause-joins : goal.returns-in-Begin-clause-joins
returns-in-Begin-clause-joins c = c.count_in-in-Begin.ensures.count ∙ ap (λ l. capped (met c.args.scalars.now l)) c.requires ∙ ap capped (joins_are (scalars_in c.args.scalars.now) c.args.s.now ∙ own_of_form (scalars_in c.args.scalars.now) c.s.inside.at c.s.inside.form _ c.args.s.now c.s.view_is c.in-Begin.is refl)
