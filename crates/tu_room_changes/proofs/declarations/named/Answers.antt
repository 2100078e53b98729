use Rattle.std.proofs.Common.{◌++◌, ap, ◌∙◌}
use Rattle.tu_core.specs.Core.{Named}
use Rattle.tu_core.specs.Measures.{of_start}
use Rattle.tu_room_changes.specs.Changed.{changed}
use Rattle.tu_room_changes.proofs.Grown.{begun, next, all}
use Rattle.tu_room_changes.proofs.StatementRows.{rows_of_named}
use Rattle.tu_room_changes.proofs.declarations.named.Goals as goal

pub loop-x-init : goal.loop-x-init
loop-x-init c = begun

pub loop-x-preserved : goal.loop-x-preserved
loop-x-preserved c = next rows_of_named c.args.xs.now c.loop-x.x-index c.args.found.now c.loop-x.found c.start.new.found c.x-item.result c.loop-x.invariant c.loop-x-test.true c.x-item.is (c.in_ok-start.ensures ∙ ap (λ (x : Named). c.loop-x.found ++ of_start changed x.start) c.x.view_is)

pub returns : goal.returns
returns c = all rows_of_named c.args.xs.now c.loop-x.x-index c.args.found.now c.loop-x.found c.loop-x.invariant c.loop-x-test.false
