use Rattle.tu_room_changes.proofs.Grown.{begun, next, all}
use Rattle.tu_room_changes.proofs.StatementRows.{rows_of_shown}
use Rattle.tu_room_changes.proofs.statements.shown.Goals as goal

pub loop-x-init : goal.loop-x-init
loop-x-init c = begun

pub loop-x-preserved : goal.loop-x-preserved
loop-x-preserved c = next rows_of_shown c.args.xs.now c.loop-x.x-index c.args.found.now c.loop-x.found c.one_shown.new.found c.x-item.result c.loop-x.invariant c.loop-x-test.true c.x-item.is c.in_ok-one_shown.ensures

pub returns : goal.returns
returns c = all rows_of_shown c.args.xs.now c.loop-x.x-index c.args.found.now c.loop-x.found c.loop-x.invariant c.loop-x-test.false
