-- When two places overlap, and the faults of overlap, each with its places.
use Rattle.std.specs.Prelude.{◌≡◌, ◌⊎◌, ℕ, Bool, true, false, List, take, Some, None}
use Rattle.std.specs.List.{Contains}
use Rattle.tu_core.specs.Core.{Path, Call, Calls, Actuals, NoActual, Given, Lent, Program}
use Rattle.tu_core.specs.declared.names.At.{At}
use Rattle.tu_core.specs.Walk.{Same, walk}
use Rattle.tu_core.specs.Acts.{Subject, AVariable, subject_of, Act, Reading, Changing, Naming, Calling, Binding, Declaring, Defining}
use Rattle.tu_core.specs.Effects.{is_one, called_by, Reads, Writes, Among, tails, texts_of}

-- two actuals are compared where one of them is `var`
abbrev pub are_compared : (is_var other_is_var : Bool) → Bool
are_compared true other = true
are_compared false other = other

-- a later actual that always is the same place
abbrev pub SharedWith : (is_var : Bool) → Path → Actuals → At → Type 0
SharedWith is_var p NoActual at = ⊥
SharedWith is_var p (Given place size e more) at = SharedWith is_var p more at
SharedWith is_var p (Lent place other_is_var bounds q more) at = ((are_compared is_var other_is_var ≡ true) × (walk p q ≡ Same) × (at ≡ place)) ⊎ SharedWith is_var p more at

abbrev pub SharedIn : Actuals → At → Type 0
SharedIn NoActual at = ⊥
SharedIn (Given place size e more) at = SharedIn more at
SharedIn (Lent place is_var bounds p more) at = SharedWith is_var p more at ⊎ SharedIn more at

-- of the subject of a path, where it has one
abbrev pub OfSubject : (Subject → Type 0) → Path → Type 0
OfSubject P path = elim (subject_of path) [ None ↦ ⊥ | Some x ↦ P x ]

-- the callee may see what is lent in another way: a `var` actual that it reads or changes, or a structured constant one that it changes
abbrev pub IsImported : Program → (callee : ℕ) → (is_var : Bool) → Path → Type 0
IsImported program p true path = OfSubject (λ x. Reads program p x ⊎ Writes program p x) path
IsImported program p false path = OfSubject (Writes program p) path

abbrev pub ImportedIn : Program → (callee : ℕ) → Actuals → At → Type 0
ImportedIn program p NoActual at = ⊥
ImportedIn program p (Given place size e more) at = ImportedIn program p more at
ImportedIn program p (Lent place is_var bounds path more) at = (IsImported program p is_var path × (at ≡ place)) ⊎ ImportedIn program p more at

abbrev pub SharedOf : Act → At → Type 0
SharedOf (Calling (Calls place callee invariant actuals)) at = SharedIn actuals at
SharedOf act at = ⊥

abbrev pub ImportedOf : Program → Act → At → Type 0
ImportedOf program (Calling (Calls place callee invariant actuals)) at = ImportedIn program callee actuals at
ImportedOf program act at = ⊥

-- a call of a routine of which P holds, where it stands
abbrev pub CallsAny : (ℕ → Type 0) → Call → At → Type 0
CallsAny P (Calls place callee invariant actuals) at = ((p : ℕ) × Contains (called_by (Calls place callee invariant actuals)) p × P p) × (at ≡ place)

-- the place of an act that changes a subject
abbrev pub ChangesAt : Subject → Act → At → Type 0
ChangesAt x (Changing place y) at = (is_one x y ≡ true) × (at ≡ place)
ChangesAt x (Declaring place y) at = (is_one x (AVariable y) ≡ true) × (at ≡ place)
ChangesAt x (Defining place y) at = (is_one x (AVariable y.name) ≡ true) × (at ≡ place)
ChangesAt x act at = ⊥

-- what may not stand in the scope of a `bind var` to a part of x: its name, and a call of what reads or changes it
abbrev pub IsHidden : Program → Subject → Act → At → Type 0
IsHidden program x (Reading place y) at = (is_one x y ≡ true) × (at ≡ place)
IsHidden program x (Naming place y) at = (is_one x y ≡ true) × (at ≡ place)
IsHidden program x (Calling call) at = CallsAny (λ p. Reads program p x ⊎ Writes program p x) call at
IsHidden program x act at = ChangesAt x act at

-- what may not stand in the scope of another `bind` to a part of x: a change of it, and a call of what changes it
abbrev pub IsChanged : Program → Subject → Act → At → Type 0
IsChanged program x (Calling call) at = CallsAny (λ p. Writes program p x) call at
IsChanged program x act at = ChangesAt x act at

abbrev pub HiddenIn : Program → Act × List Act → At → Type 0
HiddenIn program (Binding place name true path extent, behind) at = OfSubject (λ x. Among (IsHidden program x) (take extent behind) at) path
HiddenIn program (act, behind) at = ⊥

abbrev pub ChangedIn : Program → Act × List Act → At → Type 0
ChangedIn program (Binding place name false path extent, behind) at = OfSubject (λ x. Among (IsChanged program x) (take extent behind) at) path
ChangedIn program (act, behind) at = ⊥

-- the later one of two actuals that always are the same place
abbrev pub SharedActual : Program → At → Type 0
SharedActual program at = Among (Among SharedOf) (texts_of program) at

abbrev pub ImportedActual : Program → At → Type 0
ImportedActual program at = Among (Among (ImportedOf program)) (texts_of program) at

abbrev pub HiddenRoot : Program → At → Type 0
HiddenRoot program at = Among (λ acts. Among (HiddenIn program) (tails acts)) (texts_of program) at

abbrev pub ChangedBound : Program → At → Type 0
ChangedBound program at = Among (λ acts. Among (ChangedIn program) (tails acts)) (texts_of program) at
