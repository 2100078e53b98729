use Rattle.std.proofs.Common.{◌∙◌}
use Rattle.tu_effects.proofs.Found.{effects_are}
use Rattle.tu_effects.proofs.relations.Effects.of.Goals as goal

pub returns : goal.returns
returns c = λ program are.
    effects_are program c.as_slice-texts.result.now (c.as_slice-texts.ensures ∙ are.1) _
    c.in_ok-callers.ensures.texts c.in_ok-callers.ensures.added
    c.in_ok-touched_variables.ensures.texts c.in_ok-touched_variables.ensures.added
    c.in_ok-touched_collections.ensures.texts c.in_ok-touched_collections.ensures.added
    c.in_ok-changed_variables.ensures.texts c.in_ok-changed_variables.ensures.added
    c.in_ok-changed_collections.ensures.texts c.in_ok-changed_collections.ensures.added
    c.in_ok-writes.ensures c.in_ok-talks.ensures
