use Rattle.std.proofs.Common.{◌≡◌, ◌+◌, ◌*◌, ◌≤◌, true, length, drop}
use Rattle.tu_tree_meaning.specs.Interpreter.{more_names, names_of}
use Rattle.ir_build.specs.Keeps.{variables_of}
use Rattle.ir_build.specs.Tokens.{tokens_in}
use Rattle.ir_stmt.specs.Built.{are_new}
use Rattle.ir_stmt.specs.Code.{declare_all}
use Rattle.ir_stmt.specs.Made.{declared}
use Rattle.ir_stmt.proofs.Declaring.{listed}
use Rattle.ir_stmt.proofs.declarations.declare_listed.Given as goal

abbrev pub invariant-loop-name : goal.invariant-loop-name
invariant-loop-name l = record {
  rest : declare_all l.fixed (more_names (listed (drop l.name-index l.name-items))) (declared l.code l.names) ≡ declare_all l.fixed (names_of l.listed) (declared l.fn.code l.fn.names);
  new : are_new (variables_of l.names) (more_names (listed (drop l.name-index l.name-items))) ≡ true;
  next : l.code.next + 12 * tokens_in (listed (drop l.name-index l.name-items)) ≤ l.fn.code.next + 12 * tokens_in l.listed;
  words : length l.names + 12 * tokens_in (listed (drop l.name-index l.name-items)) ≤ length l.fn.names + 12 * tokens_in l.listed;
}
