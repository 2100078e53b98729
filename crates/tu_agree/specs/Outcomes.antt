-- What codes mean, from the tree of a program to an image, in one form, so that a pass from one to the next can speak of both.
use Rattle.std.specs.Prelude.{ℕ, Bool, true, List}
use Rattle.tu_base.specs.Trace.{Trace}
use Rattle.rv_image.specs.Picture.{Picture}
use Rattle.rv_image.specs.Streams.{Folder}
use Rattle.rv_image.specs.Run.{MachineVerdict, Ran, machine_run, machine_verdict}
use Rattle.tu_tree_meaning.specs.Meaning.{Meant}
use Rattle.tu_tree_meaning.specs.Laws.{Meaning}

-- What a code does, how it then stands, what that cost, and how many turns and other rounds have begun. The files that it leaves are those that
-- `files_of` makes of the trace. What no lawful code comes to is a Fault.
pub record CodeOutcome : Type 0 where
  pub trace : Trace
  pub verdict : MachineVerdict
  pub cost : ℕ
  pub begun : ℕ

-- A code may lie at some pairs of addresses, that of the first global and that of the first byte of the texts. There it has an outcome on
-- each input, with what can be opened, within t turns and s other rounds.
pub record CodeMeaning : Type 0 where
  pub fits : (first_global texts_at : ℕ) → Bool
  pub outcome : (first_global texts_at : ℕ) → (input : List ℕ) → (folder : Folder) → (t s : ℕ) → CodeOutcome

-- a code that has no addresses and no other rounds
abbrev pub by_turns : (List ℕ → Folder → ℕ → CodeOutcome) → CodeMeaning
by_turns run = record { fits = λ first_global texts_at. true; outcome = λ first_global texts_at input folder t s. run input folder t }

-- No pass makes a program, so none has to say how many of its turns have begun.
abbrev pub outcome_of : Meant → CodeOutcome
outcome_of meant = record { trace = meant.trace; verdict = machine_verdict meant.verdict; cost = meant.units; begun = 0 }

-- a program, which costs its units
abbrev pub program_meant : Meaning Folder → CodeMeaning
program_meant meaning = by_turns (λ input folder t. outcome_of (meaning input folder t))

abbrev pub outcome_ran : Ran → CodeOutcome
outcome_ran run = record { trace = run.world.trace; verdict = run.verdict; cost = run.count; begun = run.count }

-- an image, whose turns are its instructions
abbrev pub image_meant : Picture → CodeMeaning
image_meant image = by_turns (λ input folder n. outcome_ran (machine_run image input folder n))
