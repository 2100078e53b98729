-- What the rules on overlap are for.
use Rattle.std.specs.Prelude.{◌≡◌, ℕ, true, false, List, Option, Some}
use Rattle.std.specs.List.{Contains}
use Rattle.tu_base.specs.Streams.{Folder}
use Rattle.tu_core.specs.Core.{Calls, Actuals, NoActual, Given, Lent, Program}
use Rattle.tu_core.specs.declared.names.At.{At}
use Rattle.tu_core.specs.Acts.{Subject, subject_of, Act, Calling}
use Rattle.tu_core.specs.Effects.{Reads, Writes, texts_of}
use Rattle.tu_core.specs.WellFormed.{is_well_formed}
use Rattle.tu_core.specs.Rules.{KeepsTheRules}
use Rattle.tu_meaning.specs.Programs.{meaning, reference_meaning}
use Rattle.tu_meaning.specs.Store.{Store, unset_store, by_copying}
use Rattle.tu_meaning.specs.References.{Cells, unset_cells, by_reference}
use Rattle.tu_alias.specs.Guarded.{guarded_meaning}

-- By reference equals by copying: in a program that keeps the rules no input, no files and no number of turns tell a location from a copy.
abbrev pub ReferenceIsCopying : Program → Type 0
ReferenceIsCopying program = is_well_formed program ≡ true → KeepsTheRules program → (input : List ℕ) (files : Option Folder) (t : ℕ) → reference_meaning program input files t ≡ meaning program input files t

-- What is lent as `var` is no part of what the callee reads or changes by its own names, and what is lent to a constant formal no part of
-- what it changes by them.
abbrev pub AreUnreached : Program → (callee : ℕ) → Actuals → Type 0
AreUnreached program p NoActual = Unit {0}
AreUnreached program p (Given at size e more) = AreUnreached program p more
AreUnreached program p (Lent at true bounds path more) = ((x : Subject) → subject_of path ≡ Some x → (Reads program p x → ⊥) × (Writes program p x → ⊥)) × AreUnreached program p more
AreUnreached program p (Lent at false bounds path more) = ((x : Subject) → subject_of path ≡ Some x → Writes program p x → ⊥) × AreUnreached program p more

-- at each call in a text of the program
abbrev pub LentIsUnreached : Program → Type 0
LentIsUnreached program = KeepsTheRules program → (acts : List Act) → Contains (texts_of program) acts → (at : At) (callee : ℕ) (invariant : Option ℕ) (actuals : Actuals) → Contains acts (Calling (Calls at callee invariant actuals)) → AreUnreached program callee actuals

-- At each call of a run, once its tests have found nothing, no two lent places overlap of which one is `var`: no run is stuck for it, in
-- neither meaning.
pub record RunsApart (program : Program) (input : List ℕ) (files : Option Folder) (t : ℕ) : Type 0 where
  pub by_copies : guarded_meaning Store by_copying unset_store program input files t ≡ meaning program input files t
  pub by_locations : guarded_meaning Cells by_reference unset_cells program input files t ≡ reference_meaning program input files t

abbrev pub CallsAreApart : Program → Type 0
CallsAreApart program = is_well_formed program ≡ true → KeepsTheRules program → (input : List ℕ) (files : Option Folder) (t : ℕ) → RunsApart program input files t
