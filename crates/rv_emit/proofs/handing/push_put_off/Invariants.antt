use Rattle.std.proofs.Common.{◌≡◌, ◌++◌, vec_len}
use Rattle.std.specs.Prelude.{All}
use Rattle.rv_runs.specs.Stands.{codes_of}
use Rattle.rv_emit.specs.Mixed.{put_off, IsReached}
use Rattle.rv_emit.proofs.handing.push_put_off.Given as goal

abbrev pub invariant-loop-copy : goal.invariant-loop-copy
invariant-loop-copy l = record {
  words : l.out ++ codes_of (put_off l.near l.left.items) ≡ l.fn.out ++ codes_of (put_off l.near l.initial.left.items);
  reached : All (IsReached l.near) l.left.items;
}

abbrev pub decreases-loop-copy : goal.decreases-loop-copy
decreases-loop-copy l = vec_len l.left
