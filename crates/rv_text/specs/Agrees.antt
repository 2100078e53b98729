-- When an image does what linear code means.
use Rattle.std.specs.Prelude.{◌≡◌, ◌≢◌, ℕ, ◌+◌, ◌/◌, ◌≤◌, List, length}
use Rattle.rv_isa.specs.declared.service.FaultKind.{FaultKind}
use Rattle.rv_isa.specs.declared.service.FaultKind.TheVariants.{Illegal}
use Rattle.rv_image.specs.Picture.{InRange}
use Rattle.rv_image.specs.Streams.{Folder}
use Rattle.rv_image.specs.Run.{MachineVerdict, Ended, Stopped, Fault, Going, IsOver, Ran, machine_run}
use Rattle.tu_base.specs.Prefix.{IsPrefix}
use Rattle.ir_form.specs.Place.{IsPlace}
use Rattle.ir_form.specs.State.{Verdict, Ended as verdict_ended, Stopped as verdict_stopped, Going as verdict_going, Stuck}
use Rattle.ir_form.specs.Units.{Meant}
use Rattle.rv_flat.specs.declared.linear.Linear.{Linear}
use Rattle.rv_flat.specs.Size.{linear_size}
use Rattle.rv_flat.specs.Units.{linear_meaning}
use Rattle.rv_text.specs.Lengths.{routines_length}
use Rattle.rv_text.specs.Text.{text_of, image_of, place_of_image}
use Rattle.rv_text.specs.Ready.{IsReady}

-- The verdict of code as a machine gives it. No lawful code is stuck, so no run of it faults.
abbrev pub code_verdict : Verdict → MachineVerdict
code_verdict verdict_ended = Ended
code_verdict (verdict_stopped kind line) = Stopped kind line
code_verdict verdict_going = Going
code_verdict Stuck = Fault Illegal 0

-- the same actions and the same verdict
pub record SameAnswer (run : Ran) (meant : Meant) : Type 0 where
  pub trace : meant.trace ≡ run.world.trace
  pub verdict : code_verdict meant.verdict ≡ run.verdict

-- how many instructions a run takes beside those that are meant, at most
abbrev pub most_extra : ℕ
most_extra = 12

-- a run of at most n instructions against what is meant within each number of turns and of other rounds
pub record RunAgrees (n : ℕ) (meant : (t s : ℕ) → Meant) (run : Ran) : Type 0 where
  -- where the run is over, what is meant within n turns is over in the same way
  pub same_end : IsOver run.verdict → (s : ℕ) → n ≤ s → SameAnswer run (meant n s)
  pub no_fault : (kind : FaultKind) (pc : ℕ) → run.verdict ≢ Fault kind pc
  -- the run is spent only where what is meant is not over at a cost for which n instructions are enough
  pub spent : run.verdict ≡ Going → (t s : ℕ) → (meant t s).cost + most_extra ≤ n → (meant t s).verdict ≡ verdict_going
  -- the run does nothing else than what is meant, and holds back nothing for which n instructions are enough
  pub nothing_else : (s : ℕ) → n ≤ s → IsPrefix run.world.trace (meant n s).trace
  pub nothing_held_back : (t s : ℕ) → (meant t s).cost + most_extra ≤ n → IsPrefix (meant t s).trace run.world.trace
  -- it costs one for each instruction
  pub paid : run.verdict ≡ Going → run.count ≡ n

abbrev pub ImageAgrees : Linear → Type 0
ImageAgrees l = (input : List ℕ) (folder : Folder) (n : ℕ) → RunAgrees n (λ t s. linear_meaning l (place_of_image l) input folder t s) (machine_run (image_of l) input folder n)

-- no run of it is stuck where an image has it
abbrev pub IsNeverStuck : Linear → Type 0
IsNeverStuck l = (input : List ℕ) (folder : Folder) (t s : ℕ) → (linear_meaning l (place_of_image l) input folder t s).verdict ≢ Stuck

-- the image of code that is ready and never stuck does on every input, over every folder and with every number of instructions what it means
abbrev pub ImagesAgree : Type 0
ImagesAgree = (l : Linear) → IsReady l → IsNeverStuck l → ImageAgrees l

-- the image of code that is ready can be made, and things lie in it where they may
abbrev pub ImagesAreInRange : Type 0
ImagesAreInRange = (l : Linear) → IsReady l → InRange (image_of l)

abbrev pub ImagesArePlaces : Type 0
ImagesArePlaces = (l : Linear) → IsReady l → IsPlace (place_of_image l) (length l.texts)

-- how many words the text has: those around, those of the routines and those of the texts
abbrev pub TextsAreLong : Type 0
TextsAreLong = (l : Linear) → length (text_of l) ≡ 20 + routines_length l.routines l.routines + (length l.texts + 3) / 4

-- the words of the code are not more than its size, where there is a routine
abbrev pub TextsAreSmall : Type 0
TextsAreSmall = (l : Linear) → 1 ≤ length l.routines → length (text_of l) ≤ linear_size l + (length l.texts + 3) / 4
