-- What follows where an image agrees with a meaning.
use Rattle.std.specs.Prelude.{◌≡◌, ◌≢◌, ℕ, ◌≤◌, List}
use Rattle.tu_base.specs.declared.event.Verdict.TheVariants.{Going as verdict_going}
use Rattle.rv_image.specs.Picture.{Picture}
use Rattle.rv_image.specs.Streams.{Folder}
use Rattle.rv_image.specs.Run.{Going, machine_run, IsOver}
use Rattle.tu_tree_meaning.specs.Laws.{Meaning, IsFinal}
use Rattle.tu_agree.specs.Agrees.{Agrees, SameEnd, IsEnough}
use Rattle.tu_agree.specs.Keep.{KeepsInstructions}
use Rattle.tu_agree.specs.Outcomes.{program_meant, image_meant}

-- a run that is over has the trace and the verdict of the meaning
abbrev pub RunIsMeant : Type 0
RunIsMeant = (meaning : Meaning Folder) (image : Picture) → Agrees meaning image → (input : List ℕ) (folder : Folder) (n : ℕ) →
    let run = machine_run image input folder n in
    IsOver run.verdict → SameEnd run (meaning input folder n)

-- where the meaning is over at a cost for which n instructions are enough, the run is over, with its trace and its verdict
abbrev pub MeaningIsRun : Type 0
MeaningIsRun = (meaning : Meaning Folder) (image : Picture) → IsFinal meaning → Agrees meaning image → (input : List ℕ) (folder : Folder) (n t : ℕ) →
    let run = machine_run image input folder n in
    (meaning input folder t).verdict ≢ verdict_going → IsEnough n (meaning input folder t).units → IsOver run.verdict × SameEnd run (meaning input folder t)

-- where passes from a program to an image keep the meaning, at numbers that are small enough, the image agrees with the program
abbrev pub KeptIsAgreed : Type 0
KeptIsAgreed = (meaning : Meaning Folder) (image : Picture) (slow start : ℕ) → slow ≤ 1000 → start ≤ 10000 → KeepsInstructions slow start (program_meant meaning) (image_meant image) → Agrees meaning image

-- a run that is not over has counted all instructions that it was given
abbrev pub GoingCountsAll : Type 0
GoingCountsAll = (image : Picture) (input : List ℕ) (folder : Folder) (n : ℕ) →
    let run = machine_run image input folder n in
    run.verdict ≡ Going → run.count ≡ n
