-- The unit of a program, and what it keeps of the program's meaning.
use Rattle.std.specs.Prelude.{◌≡◌, ℕ, ◌+◌, ◌*◌, ◌≤◌, List, [], ◌∷◌, length, All, Option}
use Rattle.tu_base.specs.Files.{Files}
use Rattle.tu_base.specs.Kind.{kind_number}
use Rattle.tu_base.specs.declared.event.Verdict.{Verdict}
use Rattle.tu_base.specs.declared.event.Verdict.TheVariants.{Ended, Stopped, Going}
use Rattle.rv_image.specs.Streams.{Folder}
use Rattle.ir_form.specs.declared.unit.Routine.{Routine}
use Rattle.ir_form.specs.declared.unit.Unit.{Unit as RegionUnit}
use Rattle.ir_form.specs.Place.{Place, IsPlace}
use Rattle.ir_form.specs.State as region
use Rattle.ir_form.specs.Units.{meaning}
use Rattle.ir_form.specs.Values.{marks_of}
use Rattle.tu_token.specs.Rules.{r-program}
use Rattle.tu_token.specs.Syntax.{Of}
use Rattle.tu_tree.specs.Forms.{Program}
use Rattle.rt_stream.specs.Routines.{put_int_routine, put_line_routine}
use Rattle.tu_tree_meaning.specs.Programs.{meaning as program_meaning}
use Rattle.tu_value.specs.Pieces.{fixed_from, fixed_code}
use Rattle.ir_build.specs.Keeps.{factor, exception_most}
use Rattle.ir_stmt.specs.Code.{Declared, code_items}

-- The main program begins with the two fixed values, which are its values 0 and 1.
abbrev pub begun : Declared
begun = record { code = record { ops = fixed_code 0; next = 2 }; names = [] }

abbrev pub code_program : Of r-program → Declared
code_program (Program m items) = code_items (fixed_from 0) items begun

-- its room is that of its values
abbrev pub main_routine : Declared → Routine
main_routine d = record { body = record { parameters = []; ops = d.code.ops; results = [] }; results = 0; room = d.code.next + 32; words = 0; depth = 0 }

-- The routines of the run time come first.
abbrev pub unit_of : Of r-program → RegionUnit
unit_of tree =
    let d = code_program tree in
    record { globals = length d.names; main = 2; routines = put_int_routine ∷ put_line_routine ∷ main_routine d ∷ []; texts = [] }

-- what a unit costs beside its statements: its fixed values and its end, and an exception
abbrev pub start : ℕ
start = 300 + exception_most

abbrev pub region_verdict : Verdict → region.Verdict
region_verdict Ended = region.Ended
region_verdict (Stopped kind line) = region.Stopped (kind_number kind) line
region_verdict Going = region.Going

-- The unit does what the program does within t turns, where there are enough of other rounds. Nothing of the input is read, and no file is opened.
pub record KeepsProgram (tree : Of r-program) (unit : RegionUnit) (place : Place) (input : List ℕ) (folder : Folder) (files : Option Files) (t s : ℕ) : Type 0 where
  pub trace : (meaning unit place input folder t s).trace ≡ (program_meaning tree input files t).trace
  pub verdict : (meaning unit place input folder t s).verdict ≡ region_verdict (program_meaning tree input files t).verdict
  pub cost : (meaning unit place input folder t s).cost ≤ factor * (program_meaning tree input files t).units + start

-- no routine has a Guard
abbrev pub HasNoGuards : RegionUnit → Type 0
HasNoGuards unit = All (λ r. marks_of r ≡ []) unit.routines

abbrev pub IsKept : Of r-program → RegionUnit → Type 0
IsKept tree unit = (place : Place) (input : List ℕ) (folder : Folder) (files : Option Files) (t s : ℕ) → IsPlace place (length unit.texts) →
    factor * (program_meaning tree input files t).units + start ≤ s → KeepsProgram tree unit place input folder files t s
