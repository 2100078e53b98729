use Rattle.tu_lex.proofs.Whole.{tokens_or_fault}
use Rattle.tu_lex.proofs.laws.tokens_or_fault.Goals as goal

pub returns : goal.returns
returns c = tokens_or_fault
