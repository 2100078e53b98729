use Rattle.std.proofs.Common.{◌≡◌, ◌≤◌, drop}
use Rattle.tu_run.specs.Command.{value_behind}
use Rattle.tu_run.proofs.command.value.Given as goal

abbrev pub invariant-loop-digit : goal.invariant-loop-digit
invariant-loop-digit l = record {
  value : value_behind l.number (drop l.digit-index l.digits) ≡ value_behind 0 l.digits;
  bound : l.number ≤ 9223372036854775807;
}
