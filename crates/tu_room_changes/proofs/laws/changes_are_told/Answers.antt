use Rattle.std.proofs.Common.{sym}
use Rattle.tu_room_counts.proofs.StatementFusion.{fuse_block}
use Rattle.tu_room_changes.proofs.Counted.{changes_fuse}
use Rattle.tu_room_changes.proofs.laws.changes_are_told.Goals as goal

pub returns : goal.returns
returns c x text = sym (fuse_block (changes_fuse x) text)
