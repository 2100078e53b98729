use Rattle.std.specs.Prelude.{◌≡◌, ◌++◌, take}
use Rattle.std.specs.List.{flat_map}
use Rattle.tu_overlap.specs.Pairs.{tests_of_act, tests_view}
use Rattle.tu_overlap.proofs.answer.add_tests.Given as goal

abbrev pub invariant-loop-act : goal.invariant-loop-act
invariant-loop-act l = tests_view l.tests ≡ tests_view l.initial.tests ++ flat_map tests_of_act (take l.act-index l.acts)
