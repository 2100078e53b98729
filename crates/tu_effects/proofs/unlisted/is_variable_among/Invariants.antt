use Rattle.std.specs.Prelude.{◌≡◌, false, map, take}
use Rattle.std.specs.List.{list_any}
use Rattle.tu_core.specs.Acts.{AVariable}
use Rattle.tu_core.specs.Effects.{is_one}
use Rattle.tu_acts.specs.ActViews.{subject_view}
use Rattle.tu_effects.proofs.unlisted.is_variable_among.Given as goal

abbrev pub invariant-loop-y : goal.invariant-loop-y
invariant-loop-y l = list_any (is_one (subject_view l.x)) (map AVariable (take l.y-index l.variables)) ≡ false
