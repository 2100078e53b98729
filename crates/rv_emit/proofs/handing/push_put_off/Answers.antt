use Rattle.std.proofs.lemmas.List.Elements.{All-pop}
use Rattle.rv_runs.specs.Stands.{codes_of}
use Rattle.rv_emit.specs.Mixed.{put_off, IsReached}
use Rattle.rv_emit.proofs.PuttingOff.{put_off_done}
use Rattle.rv_emit.proofs.handing.push_put_off.Goals as goal

pub loop-copy-preserved : goal.loop-copy-preserved
loop-copy-preserved c = record {
  words = put_off_done c.args.near c.loop-copy.left.items c.pop.new.self.items c.in-Some.copy c.loop-copy.out c.push_mixed_copy.new.self c.args.out.now (codes_of (put_off c.args.near c.args.copies.items))
      c.in-Some.ensures.items c.loop-copy.invariant.words c.in_ok-push_mixed_copy.ensures;
  reached = (All-pop (IsReached c.args.near) c.loop-copy.left.items c.pop.new.self.items c.pop.result c.pop.ensures.items c.loop-copy.invariant.reached).0;
}
