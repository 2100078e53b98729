use Rattle.rv_alloc.proofs.Whole.{holds_keep, holds_lawful}
use Rattle.rv_alloc.proofs.laws.holding_keeps.Goals as goal

pub returns-clause-keeps : goal.returns-clause-keeps
returns-clause-keeps c = holds_keep

pub returns-clause-lawful : goal.returns-clause-lawful
returns-clause-lawful c = holds_lawful
