use Rattle.std.proofs.Common.{◌≡◌, ◌+◌, ◌*◌, ◌≤◌, drop}
use Rattle.tu_tree.specs.StatementViews.{block_view, elsifs_view}
use Rattle.ir_build.specs.Tokens.{tokens_in}
use Rattle.ir_stmt.specs.Code.{code_block, code_elsifs, code_parts}
use Rattle.ir_stmt.proofs.statements.+code.Given as goal

abbrev pub invariant-further_arms-loop-elsif : goal.invariant-further_arms-loop-elsif
invariant-further_arms-loop-elsif l = record {
  rest : code_elsifs l.environment.fixed l.environment.names.now l.outside (elsifs_view (drop l.elsif-index l.elsifs)) l.code ≡ code_elsifs l.environment.fixed l.environment.names.now l.outside (elsifs_view l.elsifs) l.fn.code;
  next : l.code.next + 12 * tokens_in (elsifs_view (drop l.elsif-index l.elsifs)) ≤ l.fn.code.next + 12 * tokens_in (elsifs_view l.elsifs);
  depth : tokens_in (elsifs_view (drop l.elsif-index l.elsifs)) ≤ tokens_in (elsifs_view l.elsifs);
}

abbrev pub invariant-block-loop-part : goal.invariant-block-loop-part
invariant-block-loop-part l = record {
  rest : code_parts l.environment.fixed l.environment.names.now l.outside (block_view (drop l.part-index l.part-items)) l.code ≡ code_block l.environment.fixed l.environment.names.now l.outside l.block l.fn.code;
  next : l.code.next + 12 * tokens_in (block_view (drop l.part-index l.part-items)) ≤ l.fn.code.next + 12 * tokens_in l.block;
  depth : tokens_in (block_view (drop l.part-index l.part-items)) ≤ tokens_in l.block;
}
