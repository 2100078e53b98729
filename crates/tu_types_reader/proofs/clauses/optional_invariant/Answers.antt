use Rattle.std.proofs.Common.{refl}
use Rattle.tu_reader.proofs.Steps.{left_takes, none_takes, left_stops, exits}
use Rattle.tu_reader.proofs.Tokens.{nothing_taken}
use Rattle.tu_types_reader.proofs.clauses.optional_invariant.Goals as goal

pub returns-in_err-clause-clause-reads : goal.returns-in_err-clause-clause-reads
returns-in_err-clause-clause-reads c = exits _ _ _ _ c.from_residual.ensures.1 (left_stops c.if-sees.ensures c.in_err-clause.ensures.reads)

pub returns-then-sees-clause-reads : goal.returns-then-sees-clause-reads
returns-then-sees-clause-reads c = left_takes refl c.in_ok-clause.ensures.reads

pub returns-clause-reads : goal.returns-clause-reads
returns-clause-reads c = none_takes c.if-sees.ensures (nothing_taken _ _ refl)
