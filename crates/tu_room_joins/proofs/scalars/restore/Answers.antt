use Rattle.tu_room_joins.proofs.Flags.{restored_next, restored_all}
use Rattle.tu_room_joins.proofs.scalars.restore.Goals as goal

pub loop-x-preserved : goal.loop-x-preserved
loop-x-preserved c = restored_next c.args.first c.args.flags.now c.args.list.now c.loop-x.x-index c.loop-x.unmet c.set_flag.new.flags c.flag.result c.loop-x.invariant c.loop-x-test.true c.flag.ensures c.set_flag.ensures

pub returns : goal.returns
returns c = restored_all c.args.first c.args.flags.now c.args.list.now c.loop-x.x-index c.loop-x.unmet c.loop-x.invariant c.loop-x-test.false
