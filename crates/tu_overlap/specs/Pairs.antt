-- The pairs of actuals that are tested, at each call.
use Rattle.std.specs.Prelude.{ℕ, suc, Bool, List, [], ◌∷◌, map}
use Rattle.std.specs.List.{flat_map}
use Rattle.tu_core.specs.Core.{Path, Calls, Actuals, Program}
use Rattle.tu_core.specs.Acts.{Act, Calling}
use Rattle.tu_core.specs.Effects.{texts_of}
use Rattle.tu_core.specs.Walk as core
use Rattle.tu_core_expressions.specs.declared.call.Actual.{Actual}
use Rattle.tu_core_expressions.specs.declared.call.Actual.TheVariants as actual
use Rattle.tu_overlap.specs.declared.pairing.Pair.{Pair}
use Rattle.tu_overlap.specs.Verdicts.{noted_view}

abbrev pub pair_view : Pair → core.Pair
pair_view p = record { first = p.first; second = p.second; tests = map noted_view p.tests }

-- of an actual at a path with one behind it
abbrev pub pairs_of_one : (first second : ℕ) → (is_var : Bool) → Path → Actual → List core.Pair
pairs_of_one first second is_var p (actual.Given at size e) = []
pairs_of_one first second is_var p (actual.Lent at other_is_var bounds q) = core.pair_of first second is_var other_is_var p q

-- of an actual with all behind it
abbrev pub pairs_behind : (first : ℕ) → Actual → Actuals → List core.Pair
pairs_behind first (actual.Given at size e) later = []
pairs_behind first (actual.Lent at is_var bounds p) later = core.pairs_with first is_var p (suc first) later

-- the pairs of a call
abbrev pub tests_of_act : Act → List (List core.Pair)
tests_of_act (Calling (Calls at callee invariant actuals)) = core.pairs_of actuals ∷ []
tests_of_act act = []

-- those of all calls of a program, text by text, each text in its order
abbrev pub tests_of : Program → List (List core.Pair)
tests_of program = flat_map (flat_map tests_of_act) (texts_of program)

abbrev pub tests_view : List (List Pair) → List (List core.Pair)
tests_view tests = map (map pair_view) tests
