use Rattle.std.proofs.Common.{◌≡◌, ◌≤◌, drop}
use Rattle.tu_token.specs.LexFaults.{value_after}
use Rattle.ir_build.proofs.literals.number_of.Given as goal

abbrev pub invariant-loop-digit : goal.invariant-loop-digit
invariant-loop-digit l = record {
  value : value_after l.number (drop l.digit-index l.digits) ≡ value_after 0 l.digits;
  bound : l.number ≤ 2147483647;
}
