use Rattle.std.specs.Prelude.{◌≡◌, false, map, take}
use Rattle.std.specs.List.{list_any}
use Rattle.tu_core.specs.Acts.{ACollection}
use Rattle.tu_core.specs.Effects.{is_one}
use Rattle.tu_acts.specs.ActViews.{subject_view}
use Rattle.tu_effects.proofs.unlisted.is_collection_among.Given as goal

abbrev pub invariant-loop-c : goal.invariant-loop-c
invariant-loop-c l = list_any (is_one (subject_view l.x)) (map ACollection (take l.c-index l.collections)) ≡ false
