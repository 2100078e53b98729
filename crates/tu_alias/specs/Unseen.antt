-- What a routine neither reads nor changes it does not see, so that what is lent to it is seen by way of its formals alone.
use Rattle.std.specs.Prelude.{◌≡◌, ◌≢◌, ℕ, ◌≤◌, ◌+◌, true, List, Option, None, Some, slice_get}
use Rattle.tu_core.specs.Core.{Routine, Program}
use Rattle.tu_core.specs.declared.names.Variable.TheVariants.{Global, Local}
use Rattle.tu_core.specs.WellFormed.{is_well_formed}
use Rattle.tu_core.specs.Acts.{Subject, AVariable, ACollection}
use Rattle.tu_core.specs.Effects.{is_outer, Reads, Writes}
use Rattle.tu_core.specs.Rules.{KeepsTheRules}
use Rattle.tu_meaning.specs.Steps.{State, Outcome, Done, Raised, Going, NoRule}
use Rattle.tu_meaning.specs.Store.{Root, OfProgram, OfActivation, OfCall, OfCollection, Store, held, by_copying}
use Rattle.tu_meaning.specs.Words.{Back}
use Rattle.tu_meaning.specs.Subprograms.{run_routine, calls}

abbrev pub subject_at : Root → Option Subject
subject_at (OfProgram x) = Some (AVariable (Global x))
subject_at (OfActivation x) = Some (AVariable (Local x))
subject_at (OfCall k) = None
subject_at (OfCollection c k) = Some (ACollection c)

-- These two differ in what x holds alone, which is what it held in those two, and no array of the program has got other bounds.
pub record DifferAt (x : Subject) (before before' now now' : Store) : Type 0 where
  pub same : (r : Root) → subject_at r ≢ Some x → held now r ≡ held now' r
  pub kept : (r : Root) → subject_at r ≡ Some x → held now r ≡ held before r
  pub kept' : (r : Root) → subject_at r ≡ Some x → held now' r ≡ held before' r
  pub bounds : (y : ℕ) → (held now (OfProgram y)).bounds ≡ (held before (OfProgram y)).bounds

abbrev pub EndAlike : Subject → (before before' : Store) → Outcome Store Back → Outcome Store Back → Type 0
EndAlike x before before' (Done b s) o = (now' : Store) × (o ≡ Done b (record s { store = now' })) × DifferAt x before before' s.store now'
EndAlike x before before' (Raised kind line s) o = (now' : Store) × (o ≡ Raised kind line (record s { store = now' })) × DifferAt x before before' s.store now'
EndAlike x before before' (Going s) o = (s' : State Store) × (o ≡ Going s')
EndAlike x before before' (NoRule s) o = (now' : Store) × (o ≡ NoRule (record s { store = now' }))

-- A routine that has received its actuals, and neither reads nor changes x, itself or by calls, does the same whatever x holds, and x keeps it.
-- Its calls may be so deep as there are turns left.
abbrev pub NothingLentIsSeen : Program → Type 0
NothingLentIsSeen program =
    is_well_formed program ≡ true → KeepsTheRules program → (callee : ℕ) (r : Routine) → slice_get program.routines callee ≡ Some r → (x : Subject) → is_outer x ≡ true → (Reads program callee x → ⊥) → (Writes program callee x → ⊥) →
    (words : List ℕ) (t n : ℕ) (s : State Store) (before' : Store) → ((root : Root) → (held s.store root).bounds ≡ (held before' root).bounds) → ((root : Root) → subject_at root ≢ Some x → held s.store root ≡ held before' root) → t ≤ n + s.counts.turns → s.counts.turns ≤ t →
    let run = run_routine Store by_copying t program words n (calls Store by_copying t program words n) r in
    ((run s).0 ≡ (run (record s { store = before' })).0) × EndAlike x s.store before' (run s).1 (run (record s { store = before' })).1
