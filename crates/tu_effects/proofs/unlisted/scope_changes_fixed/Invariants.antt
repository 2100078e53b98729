use Rattle.std.specs.Prelude.{◌++◌, map, take}
use Rattle.tu_core.specs.Acts.{ACollection, AVariable}
use Rattle.tu_core.specs.Effects.{Among, ChangesFixed}
use Rattle.tu_effects.specs.Least.{IsLeast}
use Rattle.tu_effects.proofs.unlisted.scope_changes_fixed.Given as goal

abbrev pub invariant-loop-act : goal.invariant-loop-act
invariant-loop-act l = IsLeast (Among (ChangesFixed (map AVariable l.variables ++ map ACollection l.collections)) (take l.act-index l.acts)) l.least
