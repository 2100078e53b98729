use Rattle.tu_token.proofs.Programs.{one_place, no_tree}
use Rattle.tu_token.proofs.grammar_laws.one_syntax_fault.Goals as goal

pub returns-clause-place : goal.returns-clause-place
returns-clause-place c = one_place

pub returns-clause-no_tree : goal.returns-clause-no_tree
returns-clause-no_tree c = no_tree
