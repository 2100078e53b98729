-- The meaning of a program within a number of turns.
use Rattle.std.specs.Prelude.{ℕ, List, [], Option}
use Rattle.tu_base.specs.Files.{Files}
use Rattle.tu_token.specs.Rules.{r-program}
use Rattle.tu_token.specs.Syntax.{Of}
use Rattle.tu_tree_meaning.specs.Interpreter.{execute_program}
use Rattle.tu_tree_meaning.specs.Meaning.{Meant, meant}
use Rattle.tu_tree_meaning.specs.Rooms.{room_of}
use Rattle.tu_tree_meaning.specs.Steps.{Added, State, Outcome}
use Rattle.tu_tree_meaning.specs.Store.{Store, unset_store, by_copying}

-- No turn has begun, all variables are unset, and the main program's room is in use. The variables of a program are no locals.
abbrev pub start : Of r-program → (input : List ℕ) → (files : Option Files) → State Store
start program input files = record { store = unset_store; counts = record { turns = 0; rooms = room_of [] program }; outside = record { input = input; files = files } }

-- what a program does within t turns, with at most so many rounds of each loop
abbrev pub execution : Of r-program → (input : List ℕ) → (files : Option Files) → (t depth : ℕ) → Added × Outcome Store (Unit {0})
execution program input files t depth = execute_program Store by_copying t depth [] program (start program input files)

-- the meaning within t turns, on an input and with files that can be opened, or with none that can where all files are closed
abbrev pub meaning : Of r-program → (input : List ℕ) → (files : Option Files) → (t : ℕ) → Meant
meaning program input files t = meant (execution program input files t t)
