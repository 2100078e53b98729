use Rattle.std.proofs.Common.{◌≡◌, ◌+◌, ◌*◌, ◌≤◌, true, length, drop}
use Rattle.ir_build.specs.Keeps.{variables_of}
use Rattle.ir_build.specs.Tokens.{tokens_in}
use Rattle.ir_stmt.specs.Built.{are_items_built}
use Rattle.ir_stmt.specs.Code.{code_items}
use Rattle.ir_stmt.specs.Made.{declared}
use Rattle.ir_stmt.specs.Unit.{code_program}
use Rattle.ir_stmt.proofs.Programs.{items}
use Rattle.ir_stmt.proofs.program.unit_of.Given as goal

abbrev pub invariant-loop-part : goal.invariant-loop-part
invariant-loop-part l = record {
  rest : code_items l.fixed (items (drop l.part-index l.part-items)) (declared l.code l.names) ≡ code_program l.tree;
  built : are_items_built (variables_of l.names) (items (drop l.part-index l.part-items)) ≡ true;
  next : l.code.next + 12 * tokens_in (items (drop l.part-index l.part-items)) ≤ 2 + 12 * 65536;
  words : length l.names + 12 * tokens_in (items (drop l.part-index l.part-items)) ≤ 12 * 65536;
}
