use Rattle.std.proofs.Common.{◌≡◌, ◌^◌, ◌≤◌}
use Rattle.tu_type_constants.proofs.power.magnitude.Given as goal

abbrev pub invariant-loop-round : goal.invariant-loop-round
invariant-loop-round l = (l.product ≡ l.base ^ l._round) × (l.product ≤ 2147483647)
