use Rattle.std.proofs.Common.{◌≡◌, ◌+◌, ◌*◌, ◌≤◌, drop}
use Rattle.ir_build.specs.Tokens.{tokens_in}
use Rattle.ir_stmt.specs.Code.{code_shown, code_shown_more}
use Rattle.ir_stmt.proofs.Lists.{shown}
use Rattle.ir_stmt.proofs.printing.all_shown.Given as goal

abbrev pub invariant-loop-part : goal.invariant-loop-part
invariant-loop-part l = record {
  rest : code_shown_more l.environment.fixed l.environment.names.now l.line (shown (drop l.part-index l.more)) l.code ≡ code_shown_more l.environment.fixed l.environment.names.now l.line (shown l.more) (code_shown l.environment.fixed l.environment.names.now l.line l.first l.fn.code);
  next : l.code.next + 12 * tokens_in (shown (drop l.part-index l.more)) ≤ l.fn.code.next + 12 * (tokens_in l.first + tokens_in (shown l.more));
}
