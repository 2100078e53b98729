-- The meaning of a program within a number of turns.
use Rattle.std.specs.Prelude.{ℕ, List, Option, Some, None}
use Rattle.std.specs.FinMap as map
use Rattle.tu_base.specs.Files.{Files}
use Rattle.tu_base.specs.Shapes.{all_words}
use Rattle.tu_base.specs.Streams.{Folder, outside_of}
use Rattle.tu_base.specs.Heap.{empty_heap}
use Rattle.tu_core.specs.Core.{Program}
use Rattle.tu_core.specs.Rooms.{main_room, scalars_from}
use Rattle.tu_meaning.specs.Subprograms.{execute_text, calls}
use Rattle.tu_meaning.specs.Meaning.{Meant, meant}
use Rattle.tu_meaning.specs.Words.{Flow}
use Rattle.tu_meaning.specs.Steps.{Step, Added, State, Outcome}
use Rattle.tu_meaning.specs.Store.{Passing, Store, unset_store, by_copying}
use Rattle.tu_meaning.specs.References.{Cells, unset_cells, by_reference}

-- the files of a finite map, by their names
abbrev pub folder_of : Option Files → Option Folder
folder_of None = None
folder_of (Some files) = Some (λ name. map.get files name)

-- No turn has begun, and the main program's room is in use.
abbrev pub start : {S : Type 0} → S → (words : List ℕ) → Program → (input : List ℕ) → (files : Option Folder) → State S
start store words p input files = record { store = store; counts = record { turns = 0; rooms = main_room words p }; world = record { heap = empty_heap; outside = outside_of input files } }

-- the main program, with calls at most so deep
abbrev pub run : (S : Type 0) → Passing S → (t depth : ℕ) → (words : List ℕ) → Program → Step S Flow
run S passing t depth words p = execute_text S passing t p words depth (calls S passing t p words depth) (scalars_from p.shapes 0 p.locals) None p.main

-- what a program does within t turns, with at most so many rounds of each loop and calls so deep, over a store and from a beginning of it
abbrev pub execution_over : (S : Type 0) → Passing S → S → Program → (input : List ℕ) → (files : Option Folder) → (t depth : ℕ) → Added × Outcome S Flow
execution_over S passing store p input files t depth = run S passing t depth (all_words p.shapes) p (start store (all_words p.shapes) p input files)

-- what a program means within t turns over a store
abbrev pub meaning_over : (S : Type 0) → Passing S → S → Program → (input : List ℕ) → (files : Option Folder) → (t : ℕ) → Meant
meaning_over S passing store p input files t = meant (execution_over S passing store p input files t t)

-- The meaning of a program: values are copied. It is given an input, and files that can be opened, or none where all are closed.
abbrev pub meaning : Program → (input : List ℕ) → (files : Option Folder) → (t : ℕ) → Meant
meaning p input files t = meaning_over Store by_copying unset_store p input files t

-- The reference meaning: what is lent or bound is a location. Storage and units are those of the meaning.
abbrev pub reference_meaning : Program → (input : List ℕ) → (files : Option Folder) → (t : ℕ) → Meant
reference_meaning p input files t = meaning_over Cells by_reference unset_cells p input files t
