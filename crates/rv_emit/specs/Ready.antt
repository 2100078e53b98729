-- Assigned code whose image does what the code means.
use Rattle.std.specs.Prelude.{ℕ, ◌+◌, ◌/◌, ◌≤◌, List, All, length}
use Rattle.std.specs.List.{AllZip}
use Rattle.rv_image.specs.Picture.{Picture}
use Rattle.rv_image.specs.Streams.{Folder}
use Rattle.rv_image.specs.Run.{machine_run}
use Rattle.rv_flat.specs.declared.linear.LinearRoutine.{LinearRoutine}
use Rattle.rv_flat.specs.Parts.{IsUnguarded}
use Rattle.rv_alloc.specs.declared.assigned.Assigned.{Assigned}
use Rattle.rv_alloc.specs.Assigned.{placed_code, assigned_meaning, assigned_size}
use Rattle.rv_alloc.specs.Holds.{HoldsRoutine, IsSlotted, HasRoom}
use Rattle.rv_alloc.specs.Keeps.{IsLawful}
use Rattle.rv_text.specs.Agrees.{RunAgrees}
use Rattle.rv_layout.specs.Ready.{IsSmall}
use Rattle.rv_text.specs.Text.{text_of, place_of_image}
use Rattle.rv_emit.specs.declared.emitter.Emitted.{Emitted}

-- lawful code without guards, whose values are each in a slot of its own, for which there is room
pub record IsReadyToEmit (a : Assigned) : Type 0 where
  pub lawful : IsLawful a
  pub unguarded : IsUnguarded a.linear
  pub places : AllZip HoldsRoutine a.linear.routines a.places
  pub slots : AllZip IsSlotted a.linear.routines a.places
  pub room : AllZip HasRoom a.linear.routines a.places

-- all numbers in the code are in range
abbrev pub AllSmall : List LinearRoutine → Type 0
AllSmall routines = All (λ (r : LinearRoutine). All IsSmall r.code) routines

-- the image of these parts
abbrev pub picture_of : Emitted → Picture
picture_of e = record { text = e.text; globals = e.globals; entry = e.entry }

-- the run of an image does, on every input, over every folder and with every number of instructions, what assigned code means where things lie
-- as its image has them
abbrev pub AgreesWith : Assigned → Picture → Type 0
AgreesWith a image = (input : List ℕ) (folder : Folder) (n : ℕ) → RunAgrees n (λ t s. assigned_meaning a (place_of_image (placed_code a)) input folder t s) (machine_run image input folder n)

-- the text of code with a routine has at most as many words as the code's size, and one more for each four bytes of the texts
abbrev pub TextIsBounded : Type 0
TextIsBounded = (a : Assigned) → 1 ≤ length a.linear.routines → length (text_of (placed_code a)) ≤ assigned_size a + (length a.linear.texts + 3) / 4
