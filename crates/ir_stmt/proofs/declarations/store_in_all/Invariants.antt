use Rattle.std.proofs.Common.{◌≡◌, drop}
use Rattle.tu_tree_meaning.specs.Interpreter.{more_names, names_of}
use Rattle.tu_value.specs.declared.pieces.Fixed.{Fixed}
use Rattle.ir_stmt.specs.Code.{store_all}
use Rattle.ir_stmt.proofs.Declaring.{listed}
use Rattle.ir_stmt.proofs.declarations.store_in_all.Given as goal

abbrev pub invariant-loop-name : goal.invariant-loop-name
invariant-loop-name l = record {
  rest : (k : Fixed) → store_all k l.names l.from (more_names (listed (drop l.name-index l.name-items))) l.code ≡ store_all k l.names l.from (names_of l.listed) l.fn.code;
  next : l.code.next ≡ l.fn.code.next;
}
