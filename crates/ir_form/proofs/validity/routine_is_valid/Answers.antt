use Rattle.std.proofs.Common.{arith}
use Rattle.ir_form.proofs.validity.routine_is_valid.Goals as goal

pub returns-then-each_is_once : goal.returns-then-each_is_once
returns-then-each_is_once c = grind (arith)
