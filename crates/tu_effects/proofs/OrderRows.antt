-- Rows of what acts answer, and of which fault is told.
use Rattle.std.proofs.Common.{◌≡◌, ℕ, [], ◌∷◌, Some, None, refl}
use Rattle.tu_core.specs.declared.names.At.{At}
use Rattle.tu_core.specs.declared.names.Variable.TheVariants.{Global, Local}
use Rattle.tu_core.specs.Core.{Calls, NoActual}
use Rattle.tu_core.specs.Acts.{AVariable, ACollection, Reading, Changing, Naming, Talking, Calling, Declaring}
use Rattle.tu_effects.specs.declared.fault.EffectKind.{EffectKind}
use Rattle.tu_effects.specs.declared.fault.EffectKind.TheVariants.{FunctionVar, FunctionWrites, FunctionTalks, UnlistedWrite}
use Rattle.tu_effects.specs.declared.fault.Fault.{Fault}
use Rattle.tu_effects.specs.declared.question.Question.TheVariants.{Calls as WhichIsCalled, CallsInvariant, TouchesVariable, TouchesCollection, ChangesVariable, ChangesOuter, Talks}
use Rattle.tu_effects.specs.Faults.{sooner}
use Rattle.tu_effects.specs.Questions.{asked}

abbrev on : (start line : ℕ) → At
on start line = record { start = start; line = line }

abbrev fault : EffectKind → At → Fault
fault kind at = record { kind = kind; at = at }

-- a call that is also one of an invariant
called : asked WhichIsCalled (Talking (on 0 1) ∷ (Calling (Calls (on 4 1) 3 (Some 5) NoActual) ∷ [])) ≡ 3 ∷ []
called = refl

invariant_called : asked CallsInvariant (Calling (Calls (on 4 1) 3 (Some 5) NoActual) ∷ (Calling (Calls (on 9 1) 3 None NoActual) ∷ [])) ≡ 5 ∷ []
invariant_called = refl

-- A name of the text itself is none of these, and `nil (C)` neither reads nor changes C.
touched : asked TouchesVariable (Reading (on 0 1) (AVariable (Global 7)) ∷ (Changing (on 2 1) (AVariable (Local 7)) ∷ (Declaring (on 4 1) (Global 2) ∷ []))) ≡ 7 ∷ (2 ∷ [])
touched = refl

named : asked TouchesCollection (Naming (on 0 1) (ACollection 1) ∷ (Changing (on 2 1) (ACollection 4) ∷ [])) ≡ 4 ∷ []
named = refl

changed : asked ChangesVariable (Reading (on 0 1) (AVariable (Global 7)) ∷ (Changing (on 2 1) (AVariable (Global 1)) ∷ [])) ≡ 1 ∷ []
changed = refl

outer : asked ChangesOuter (Changing (on 0 1) (AVariable (Local 7)) ∷ (Changing (on 2 1) (ACollection 4) ∷ [])) ≡ 0 ∷ []
outer = refl

talking : asked Talks (Reading (on 0 1) (AVariable (Global 7)) ∷ (Talking (on 2 1) ∷ [])) ≡ 0 ∷ []
talking = refl

-- the earlier place, whichever was found first
earlier_told : sooner (Some (fault FunctionVar (on 9 2))) UnlistedWrite (Some (on 5 1)) ≡ Some (fault UnlistedWrite (on 5 1))
earlier_told = refl

later_not_told : sooner (Some (fault FunctionTalks (on 5 1))) UnlistedWrite (Some (on 9 2)) ≡ Some (fault FunctionTalks (on 5 1))
later_not_told = refl

-- on one place the first kind
first_kind_told : sooner (Some (fault FunctionWrites (on 5 1))) FunctionTalks (Some (on 5 1)) ≡ Some (fault FunctionWrites (on 5 1))
first_kind_told = refl

first_kind_told_again : sooner (Some (fault FunctionTalks (on 5 1))) FunctionWrites (Some (on 5 1)) ≡ Some (fault FunctionWrites (on 5 1))
first_kind_told_again = refl
