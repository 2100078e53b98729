use Rattle.tu_lex.proofs.Whole.{tokens_are_within_limits}
use Rattle.tu_lex.proofs.laws.tokens_within_limits.Goals as goal

pub returns : goal.returns
returns c = tokens_are_within_limits c.one_token_list.ensures
