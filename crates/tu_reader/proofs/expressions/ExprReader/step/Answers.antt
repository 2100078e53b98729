use Rattle.tu_token.specs.declared.class.Class.TheVariants.{SignDot, SignLeftBracket}
use Rattle.std.proofs.Common.{refl}
use Rattle.tu_reader.proofs.Steps.{◌▸◌, ◌▹◌, left_takes, right_takes, left_stops, right_stops, exits, starts_neither}
use Rattle.tu_reader.proofs.Choices.{seen_at, begins_at}
use Rattle.tu_reader.proofs.Tokens.{nothing_taken}
use Rattle.tu_reader.proofs.expressions.ExprReader.step.Goals as goal

pub returns-in_err-name-clause-tries : goal.returns-in_err-name-clause-tries
returns-in_err-name-clause-tries g c = exits _ _ _ _ c.from_residual.ensures.1 ((begins_at (seen_at {k = SignDot} c.if-sees.ensures) _, left_stops c.if-sees.ensures (c.skip.ensures.takes ▹ c.in_err-name.ensures.reads)))

pub returns-then-sees-clause-tries : goal.returns-then-sees-clause-tries
returns-then-sees-clause-tries g c = left_takes refl (c.skip.ensures.takes ▸ c.in_ok-name.ensures.reads)

pub returns-in_err-args-clause-tries : goal.returns-in_err-args-clause-tries
returns-in_err-args-clause-tries g c = exits _ _ _ _ c.from_residual-in_err-args.ensures.1 ((begins_at (seen_at {k = SignLeftBracket} c.if-sees-2.ensures) _, right_stops c.if-sees.ensures (c.skip-then-sees-2.ensures.takes ▹ c.in_err-args.ensures.reads)))

pub returns-then-sees-2-clause-tries : goal.returns-then-sees-2-clause-tries
returns-then-sees-2-clause-tries g c = right_takes refl refl (c.skip-then-sees-2.ensures.takes ▸ c.in_ok-args.ensures.reads)

pub returns-clause-tries : goal.returns-clause-tries
returns-clause-tries g c = (starts_neither c.if-sees.ensures c.if-sees-2.ensures, nothing_taken _ _ refl)
