use Rattle.std.specs.Prelude.{◌≡◌, ◌++◌, take}
use Rattle.std.specs.List.{flat_map}
use Rattle.tu_overlap.specs.Pairs.{tests_of_act, tests_view}
use Rattle.tu_overlap.proofs.answer.tests.Given as goal

abbrev pub invariant-loop-acts : goal.invariant-loop-acts
invariant-loop-acts l = tests_view l.tests ≡ flat_map tests_of_act l.texts.main ++ flat_map (flat_map tests_of_act) (take l.acts-index l.acts-items)
