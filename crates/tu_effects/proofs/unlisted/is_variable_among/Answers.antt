use Rattle.std.proofs.Common.{sym}
use Rattle.tu_core.specs.Acts.{AVariable}
use Rattle.tu_core.specs.Effects.{is_one}
use Rattle.tu_acts.specs.ActViews.{subject_view}
use Rattle.tu_effects.proofs.Deeds.{any_mapped}
use Rattle.tu_effects.proofs.unlisted.is_variable_among.Goals as goal

pub returns-then-is_one : goal.returns-then-is_one
returns-then-is_one c = sym (any_mapped (is_one (subject_view c.args.x)) AVariable c.args.variables.now c.loop-y.y-index _ c.loop-y-test.true (sym c.if-is_one.ensures))
