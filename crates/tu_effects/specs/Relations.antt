-- What the effects of a program say.
use Rattle.std.specs.Prelude.{◌≡◌, ◌↔◌, ℕ, ◌<◌, Bool, List, [], length, slice_index_or, ◌⊎◌}
use Rattle.std.specs.List.{Contains, flat_map}
use Rattle.tu_core.specs.Core.{Program}
use Rattle.tu_core.specs.Acts.{Act, Subject}
use Rattle.tu_core.specs.Effects.{Leads, CallsOne, Reads, Writes, Talks, WritesAny, acts_of, called}
use Rattle.tu_reach.specs.Rows.{HasNumber, IsCaller, RowsOf}
use Rattle.tu_reach.specs.Marks.{IsMarked}
use Rattle.tu_effects.specs.Questions.{asked}
use Rattle.tu_effects.specs.declared.question.Question.{Question}
use Rattle.tu_effects.specs.declared.question.Question.TheVariants as asks
use Rattle.tu_effects.specs.declared.relations.Effects.{Effects}

-- a text is added to some rows
pub record HasAdded (old new : List (List ℕ)) (text : ℕ) (ks : List ℕ) : Type 0 where
  pub added : (k : ℕ) → Contains ks k → HasNumber new k text
  pub kept : (k p : ℕ) → HasNumber old k p → HasNumber new k p
  pub only : (k p : ℕ) → HasNumber new k p → HasNumber old k p ⊎ ((p ≡ text) × Contains ks k)

abbrev pub text_at : List (List Act) → ℕ → List Act
text_at texts p = slice_index_or texts p []

-- the first n texts are added to the rows of their answers
pub record HasAddedBelow (old new : List (List ℕ)) (question : Question) (texts : List (List Act)) (n : ℕ) : Type 0 where
  pub added : (k p : ℕ) → p < n → Contains (asked question (text_at texts p)) k → HasNumber new k p
  pub kept : (k p : ℕ) → HasNumber old k p → HasNumber new k p
  pub only : (k p : ℕ) → HasNumber new k p → HasNumber old k p ⊎ Contains (asked question (text_at texts p)) k

pub record HasAddedAll (old new : List (List ℕ)) (question : Question) (texts : List (List Act)) : Type 0 where
  pub added : (k p : ℕ) → Contains (asked question (text_at texts p)) k → HasNumber new k p
  pub kept : (k p : ℕ) → HasNumber old k p → HasNumber new k p
  pub only : (k p : ℕ) → HasNumber new k p → HasNumber old k p ⊎ Contains (asked question (text_at texts p)) k

-- the texts that call each
abbrev pub AreCallersIn : List (List Act) → List (List ℕ) → Type 0
AreCallersIn texts rows = (p q : ℕ) → IsCaller rows p q ↔ Contains (flat_map called (text_at texts p)) q

-- the texts from which calls lead to one that answers 0
abbrev pub LeadsToAnswer : (callers : List (List ℕ)) → List (List Act) → Question → (marks : List Bool) → Type 0
LeadsToAnswer callers texts question marks = (p : ℕ) → IsMarked marks p ↔ ((q : ℕ) × Leads (IsCaller callers) p q × Contains (asked question (text_at texts q)) 0)

-- the routines that answer a question with a number themselves, by the number
abbrev pub AreAnswers : Program → Question → RowsOf → Type 0
AreAnswers program question rows = (rows.texts ≡ length program.routines) × ((k p : ℕ) → HasNumber rows.rows k p ↔ Contains (asked question (acts_of program p)) k)

-- the routines that call each
abbrev pub AreCallers : Program → RowsOf → Type 0
AreCallers program rows = (rows.texts ≡ length program.routines) × ((p q : ℕ) → IsCaller rows.rows p q ↔ CallsOne program p q)

-- what a program reads or changes, by calls too
abbrev pub Touches : Program → ℕ → Subject → Type 0
Touches program p x = Reads program p x ⊎ Writes program p x

pub record IsEffects (program : Program) (effects : Effects) : Type 0 where
  pub callers : AreCallers program effects.callers
  pub touched_variables : AreAnswers program asks.TouchesVariable effects.touched_variables
  pub touched_collections : AreAnswers program asks.TouchesCollection effects.touched_collections
  pub changed_variables : AreAnswers program asks.ChangesVariable effects.changed_variables
  pub changed_collections : AreAnswers program asks.ChangesCollection effects.changed_collections
  pub writes : (p : ℕ) → IsMarked effects.writes p ↔ WritesAny program p
  pub talks : (p : ℕ) → IsMarked effects.talks p ↔ Talks program p

-- For each program with these effects just the routines are marked that read or change a subject, or that change it.
abbrev pub FindsTouching : Effects → Subject → (marks : List Bool) → Type 0
FindsTouching effects x marks = (program : Program) → IsEffects program effects → (p : ℕ) → IsMarked marks p ↔ Touches program p x

abbrev pub FindsChanging : Effects → Subject → (marks : List Bool) → Type 0
FindsChanging effects x marks = (program : Program) → IsEffects program effects → (p : ℕ) → IsMarked marks p ↔ Writes program p x
