-- What is asked of acts. Each answer is the number of a routine, of a variable or of a collection.
use Rattle.std.specs.Prelude.{ℕ, List, Option, Some, None, option_to_list, if◌then◌else◌}
use Rattle.std.specs.List.{flat_map}
use Rattle.tu_core.specs.declared.names.Variable.TheVariants.{Global, Local}
use Rattle.tu_core.specs.Core.{Calls}
use Rattle.tu_core.specs.Acts.{Subject, AVariable, ACollection, Act, Reading, Changing, Calling, Declaring, Defining}
use Rattle.tu_core.specs.Effects.{talks}
use Rattle.tu_effects.specs.declared.question.Question.{Question}
use Rattle.tu_effects.specs.declared.question.Question.TheVariants as asks

-- what an act changes
abbrev pub changed : Act → Option Subject
changed (Changing at x) = Some x
changed (Declaring at x) = Some (AVariable x)
changed (Defining at x) = Some (AVariable x.name)
changed act = None

-- what an act reads or changes
abbrev pub touched : Act → Option Subject
touched (Reading at x) = Some x
touched act = changed act

abbrev pub callee_of : Act → Option ℕ
callee_of (Calling (Calls at callee invariant actuals)) = Some callee
callee_of act = None

abbrev pub invariant_of : Act → Option ℕ
invariant_of (Calling (Calls at callee invariant actuals)) = invariant
invariant_of act = None

-- of a variable of the program or of a module
abbrev pub variable_number : Option Subject → Option ℕ
variable_number (Some (AVariable (Global x))) = Some x
variable_number (Some (AVariable (Local x))) = None
variable_number (Some (ACollection c)) = None
variable_number None = None

abbrev pub collection_number : Option Subject → Option ℕ
collection_number (Some (AVariable x)) = None
collection_number (Some (ACollection c)) = Some c
collection_number None = None

-- 0 of each of these
abbrev pub outer_number : Option Subject → Option ℕ
outer_number (Some (AVariable (Global x))) = Some 0
outer_number (Some (AVariable (Local x))) = None
outer_number (Some (ACollection c)) = Some 0
outer_number None = None

abbrev pub number : Question → Act → Option ℕ
number asks.Calls act = callee_of act
number asks.CallsInvariant act = invariant_of act
number asks.TouchesVariable act = variable_number (touched act)
number asks.TouchesCollection act = collection_number (touched act)
number asks.ChangesVariable act = variable_number (changed act)
number asks.ChangesCollection act = collection_number (changed act)
number asks.ChangesOuter act = outer_number (changed act)
number asks.Talks act = if talks act then Some 0 else None

abbrev pub numbers : Question → Act → List ℕ
numbers question act = option_to_list (number question act)

-- the answers of acts
abbrev pub asked : Question → List Act → List ℕ
asked question acts = flat_map (numbers question) acts
