use Rattle.std.proofs.Common.{◌≡◌, ◌+◌, ◌*◌, ◌≤◌, drop}
use Rattle.ir_build.specs.Code.{made, code_sum, code_terms, code_term, code_factors}
use Rattle.ir_build.specs.Tokens.{tokens_in}
use Rattle.ir_build.proofs.Operands.{terms, factors}
use Rattle.ir_build.proofs.expressions.+code.Given as goal

abbrev pub invariant-terms-loop-sign : goal.invariant-terms-loop-sign
invariant-terms-loop-sign l = record {
  rest : code_terms l.environment.fixed l.environment.names.now l.line (made l.code l.value) (terms (drop l.sign-index l.sign-items)) ≡ code_sum l.environment.fixed l.environment.names.now l.line l.sum l.fn.code;
  next : l.code.next + 12 * tokens_in (terms (drop l.sign-index l.sign-items)) ≤ l.fn.code.next + 12 * tokens_in l.sum;
}

abbrev pub invariant-factors-loop-operator : goal.invariant-factors-loop-operator
invariant-factors-loop-operator l = record {
  rest : code_factors l.environment.fixed l.environment.names.now l.line (made l.code l.value) (factors (drop l.operator-index l.operator-items)) ≡ code_term l.environment.fixed l.environment.names.now l.line l.term l.fn.code;
  next : l.code.next + 12 * tokens_in (factors (drop l.operator-index l.operator-items)) ≤ l.fn.code.next + 12 * tokens_in l.term;
}
