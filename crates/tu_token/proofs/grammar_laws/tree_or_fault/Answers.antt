use Rattle.tu_token.proofs.Programs.{tree_or_fault}
use Rattle.tu_token.proofs.grammar_laws.tree_or_fault.Goals as goal

pub returns : goal.returns
returns c = tree_or_fault
