use Rattle.tu_effects.proofs.Leading.{callers_are}
use Rattle.tu_effects.proofs.finding.callers_in.Goals as goal

pub returns-clause-added : goal.returns-clause-added
returns-clause-added c = callers_are c.args.texts.now _ _ c.in_ok-rows.ensures.added c.in_ok-add_texts.ensures.added
