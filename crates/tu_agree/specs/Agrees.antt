-- When an image does what a program means. The meaning is a function of the input, of what can be opened and of the number of turns, so
-- that this is the same for every language.
use Rattle.std.specs.Prelude.{◌≡◌, ◌≢◌, ℕ, ◌+◌, ◌*◌, ◌≤◌, List, Option, Some, None}
use Rattle.tu_base.specs.Files.{Files}
use Rattle.tu_base.specs.declared.event.Verdict.TheVariants.{Going as verdict_going}
use Rattle.rv_isa.specs.declared.service.FaultKind.{FaultKind}
use Rattle.rv_image.specs.Picture.{Picture}
use Rattle.rv_image.specs.Streams.{Folder, Closed, Holding}
use Rattle.rv_image.specs.Run.{Fault, Going, IsOver, machine_verdict, Ran, machine_run}
use Rattle.tu_tree_meaning.specs.Meaning.{Meant}
use Rattle.tu_tree_meaning.specs.Laws.{Meaning}
use Rattle.tu_base.specs.Prefix.{IsPrefix}

-- the files that can be opened, if any can
abbrev pub files_in : Folder → Option Files
files_in Closed = None
files_in (Holding files) = Some files

-- a meaning over files, as one over a folder
abbrev pub over_folder : Meaning (Option Files) → Meaning Folder
over_folder meaning input folder = meaning input (files_in folder)

-- The run and the meaning are over in the same way. The files that they leave are the same too, since `files_of` makes them of the trace.
pub record SameEnd (run : Ran) (meant : Meant) : Type 0 where
  pub trace : meant.trace ≡ run.world.trace
  pub verdict : machine_verdict meant.verdict ≡ run.verdict

-- n instructions are enough for what costs so many units
abbrev pub IsEnough : (n units : ℕ) → Type 0
IsEnough n units = 1000 * units + 10000 ≤ n

-- a run of at most n instructions against what is meant within each number of turns
pub record AgreesWithin (meant : ℕ → Meant) (run : Ran) (n : ℕ) : Type 0 where
  -- where the run is over, the meaning within n turns is over in the same way
  pub same_end : IsOver run.verdict → SameEnd run (meant n)
  pub no_fault : (kind : FaultKind) (pc : ℕ) → run.verdict ≢ Fault kind pc
  -- the run is spent only where the meaning is not over at a cost for which n instructions are enough
  pub spent : run.verdict ≡ Going → (t : ℕ) → IsEnough n (meant t).units → (meant t).verdict ≡ verdict_going
  -- the run does nothing else than the meaning, and holds back nothing for which n instructions are enough
  pub output : IsPrefix run.world.trace (meant n).trace × ((t : ℕ) → IsEnough n (meant t).units → IsPrefix (meant t).trace run.world.trace)

-- the image does what is meant, on every input, with whatever can be opened, and at every number of instructions
abbrev pub Agrees : (meaning : List ℕ → Folder → ℕ → Meant) → Picture → Type 0
Agrees meaning image = (input : List ℕ) (folder : Folder) (n : ℕ) → AgreesWithin (meaning input folder) (machine_run image input folder n) n
