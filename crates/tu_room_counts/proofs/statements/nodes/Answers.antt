use Rattle.std.proofs.Common.{◌∙◌}
use Rattle.tu_room_counts.proofs.StatementFusion.{fuse_block}
use Rattle.tu_room_counts.proofs.Measured.{nodes_fuse}
use Rattle.tu_room_counts.proofs.statements.nodes.Goals as goal

pub returns : goal.returns
returns c = c.block.ensures ∙ fuse_block nodes_fuse c.args.b.now
