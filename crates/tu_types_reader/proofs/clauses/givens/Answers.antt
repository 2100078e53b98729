use Rattle.std.proofs.Common.{arith, refl}
use Rattle.tu_reader.proofs.Steps.{◌▸◌, ◌▹◌, first_stops, spot_takes, spot_stops, no_turns, turns_more, turns_stop, turns_end, exits}
use Rattle.tu_types_reader.proofs.clauses.givens.Goals as goal

pub returns-in_err-expect-clause-reads : goal.returns-in_err-expect-clause-reads
returns-in_err-expect-clause-reads c = exits _ _ _ _ c.from_residual.ensures.1 (spot_stops (first_stops c.in_err-expect.ensures.reads))

pub returns-in_err-first-clause-reads : goal.returns-in_err-first-clause-reads
returns-in_err-first-clause-reads c = exits _ _ _ _ c.from_residual-in_err-first.ensures.1 (spot_stops (c.in_ok-expect.ensures.reads ▹ first_stops c.in_err-first.ensures.reads))

pub loop-alloc-init : goal.loop-alloc-init
loop-alloc-init c = (no_turns c.new-more.ensures, omega arith)

pub returns-in_err-next-clause-reads : goal.returns-in_err-next-clause-reads
returns-in_err-next-clause-reads c = exits _ _ _ _ c.from_residual-in_err-next.ensures.1 (spot_stops (c.in_ok-expect.ensures.reads ▹ c.in_ok-first.ensures.reads ▹ turns_stop refl c.loop-alloc.invariant.0 c.loop-alloc-test.ensures.eats.0 (c.loop-alloc-test.ensures.eats.1 ▹ c.in_err-next.ensures.reads)))

pub loop-alloc-preserved : goal.loop-alloc-preserved
loop-alloc-preserved c = (turns_more c.in_ok-push.ensures.ok refl c.loop-alloc.invariant.0 (c.loop-alloc-test.ensures.eats.1 ▸ c.in_ok-next.ensures.reads), omega (arith, c.loop-alloc.invariant.1, c.loop-alloc-test.ensures.less, c.in_ok-next.ensures.less))

pub returns-clause-reads : goal.returns-clause-reads
returns-clause-reads c = spot_takes refl c.spot-spot.ensures (c.in_ok-expect.ensures.reads ▸ ((c.in_ok-first.ensures.reads ▸ turns_end refl c.loop-alloc.invariant.0 c.loop-alloc-test.ensures.eats.0 c.loop-alloc-test.ensures.eats.1)))
