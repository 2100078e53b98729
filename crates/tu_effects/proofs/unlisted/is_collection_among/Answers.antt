use Rattle.std.proofs.Common.{sym}
use Rattle.tu_core.specs.Acts.{ACollection}
use Rattle.tu_core.specs.Effects.{is_one}
use Rattle.tu_acts.specs.ActViews.{subject_view}
use Rattle.tu_effects.proofs.Deeds.{any_mapped}
use Rattle.tu_effects.proofs.unlisted.is_collection_among.Goals as goal

pub returns-then-is_one : goal.returns-then-is_one
returns-then-is_one c = sym (any_mapped (is_one (subject_view c.args.x)) ACollection c.args.collections.now c.loop-c.c-index _ c.loop-c-test.true (sym c.if-is_one.ensures))
