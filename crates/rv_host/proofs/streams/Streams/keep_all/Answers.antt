use Rattle.std.proofs.Common.{arith, ◌∙◌}
use Rattle.rv_host.proofs.Keeping.{kept_next, kept_part, some_open}
use Rattle.rv_host.proofs.streams.Streams.keep_all.Goals as goal

pub returns-in-Err-clause-part : goal.returns-in-Err-clause-part
returns-in-Err-clause-part g c =
    kept_part _ _ c.self.inside.slots _ c.loop-stream.stream-index c.self.view_is (c.in-Err.ensures.same ∙ c.loop-stream.invariant.so_far)

pub returns-in-Err-clause-open : goal.returns-in-Err-clause-open
returns-in-Err-clause-open g c =
    some_open c.self.inside.slots _ c.loop-stream.stream-index c.stream-item.result c.self.view_is c.self.invariant c.loop-stream-test.true c.in-Err.ensures.open

pub loop-stream-preserved : goal.loop-stream-preserved
loop-stream-preserved g c = record {
  so_far = kept_next _ _ _ c.self.inside.slots c.loop-stream.stream-index c.stream-item.result c.loop-stream.invariant.so_far c.in-Ok.ensures.kept c.self.invariant c.loop-stream-test.true;
  later = omega (arith, c.in-Ok.ensures.cause.later, c.loop-stream.invariant.later);
}

pub returns-clause-part : goal.returns-clause-part
returns-clause-part g c = kept_part _ _ c.self.inside.slots _ c.loop-stream.stream-index c.self.view_is c.loop-stream.invariant.so_far
