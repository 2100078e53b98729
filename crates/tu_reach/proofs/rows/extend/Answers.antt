use Rattle.tu_reach.proofs.Rowing.{extended_none}
use Rattle.tu_reach.proofs.rows.extend.Goals as goal

pub loop-alloc-init : goal.loop-alloc-init
loop-alloc-init c = extended_none c.args.rows.now.items
