use Rattle.std.proofs.Common.{arith, refl}
use Rattle.tu_reader.proofs.Steps.{◌▸◌, ◌▹◌, first_stops, none_takes, exits, optional_stops}
use Rattle.tu_reader.proofs.Choices.{seen_at, begins_at}
use Rattle.tu_reader.proofs.Lists.{listed_first, listed_more, any_listed_takes, any_listed_stops}
use Rattle.tu_reader.proofs.Tokens.{nothing_taken}
use Rattle.tu_token.specs.declared.class.Class.TheVariants.{SignRightBracket}
use Rattle.tu_types_reader.proofs.imports.bracketed_imports.Goals as goal

pub returns-then-sees-clause-reads : goal.returns-then-sees-clause-reads
returns-then-sees-clause-reads c = rw c.new-items.ensures (none_takes (begins_at (seen_at {k = SignRightBracket} c.if-sees.ensures) _) (nothing_taken _ _ refl) ▸ c.skip.ensures.takes)

pub returns-in_err-first-clause-reads : goal.returns-in_err-first-clause-reads
returns-in_err-first-clause-reads c = exits _ _ _ _ c.from_residual.ensures.1 (optional_stops refl refl c.if-sees.ensures (first_stops c.in_err-first.ensures.reads))

pub loop-alloc-init : goal.loop-alloc-init
loop-alloc-init c = (listed_first c.new-items.ensures c.in_ok-push.ensures.ok c.in_ok-first.ensures.reads, omega arith)

pub returns-in_err-next-clause-reads : goal.returns-in_err-next-clause-reads
returns-in_err-next-clause-reads c = exits _ _ _ _ c.from_residual-in_err-next.ensures.1 (first_stops (any_listed_stops refl c.loop-alloc.invariant.0 c.loop-alloc-test.ensures.eats.0 (c.loop-alloc-test.ensures.eats.1 ▹ c.in_err-next.ensures.reads)))

pub loop-alloc-preserved : goal.loop-alloc-preserved
loop-alloc-preserved c = (listed_more c.in_ok-push-2.ensures.ok c.loop-alloc.invariant.0 (c.loop-alloc-test.ensures.eats.1 ▸ c.in_ok-next.ensures.reads), omega (arith, c.loop-alloc.invariant.1, c.loop-alloc-test.ensures.less, c.in_ok-next.ensures.less))

pub returns-in_err-expect-clause-reads : goal.returns-in_err-expect-clause-reads
returns-in_err-expect-clause-reads c = exits _ _ _ _ c.from_residual-in_err-expect.ensures.1 (any_listed_takes refl c.loop-alloc.invariant.0 c.loop-alloc-test.ensures.eats.0 c.loop-alloc-test.ensures.eats.1 ▹ c.in_err-expect.ensures.reads)

pub returns-clause-reads : goal.returns-clause-reads
returns-clause-reads c = any_listed_takes refl c.loop-alloc.invariant.0 c.loop-alloc-test.ensures.eats.0 c.loop-alloc-test.ensures.eats.1 ▸ c.in_ok-expect.ensures.reads
