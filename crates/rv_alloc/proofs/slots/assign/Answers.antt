use Rattle.std.specs.List.{AllZip}
use Rattle.std.proofs.lemmas.Result.{IfOk-weaker}
use Rattle.rv_flat.specs.Lawful.{IsLawful as IsLawfulLinear}
use Rattle.rv_alloc.specs.declared.assigned.Assigned.{Assigned}
use Rattle.rv_alloc.specs.Holds.{HasRoom}
use Rattle.rv_alloc.specs.Keeps.{Keeps, IsLawful}
use Rattle.rv_alloc.proofs.Whole.{holds_keep, holds_lawful}
use Rattle.rv_alloc.proofs.Room.{slots_have_room}
use Rattle.rv_alloc.proofs.slots.assign.Goals as goal

pub returns-clause-room : goal.returns-clause-room
returns-clause-room c =
    IfOk-weaker c.slotted.result _ (λ (a : Assigned). IsLawfulLinear c.args.linear.now → AllZip HasRoom c.args.linear.now.routines a.places) (λ a h. slots_have_room c.args.linear.now a.places h) c.slotted.ensures.slots

pub returns-clause-keeps : goal.returns-clause-keeps
returns-clause-keeps c = IfOk-weaker c.slotted.result _ (Keeps c.args.linear.now) (λ a h. holds_keep c.args.linear.now a h) c.slotted.ensures.holds

pub returns-clause-lawful : goal.returns-clause-lawful
returns-clause-lawful c = IfOk-weaker c.slotted.result _ (λ (a : Assigned). IsLawfulLinear c.args.linear.now → IsLawful a) (λ a h. holds_lawful c.args.linear.now a h) c.slotted.ensures.holds
