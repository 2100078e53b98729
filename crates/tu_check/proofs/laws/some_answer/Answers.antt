use Rattle.tu_check.proofs.Answering.{either_way}
use Rattle.tu_check.proofs.laws.some_answer.Goals as goal

pub returns : goal.returns
returns c = either_way (record { lexed = c.tokens_or_fault.ensures; parsed = c.tree_or_fault.ensures })
