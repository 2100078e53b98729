-- What a routine reads and changes, itself or by the routines that it calls, and the faults of effects, each with its places.
use Rattle.std.specs.Prelude.{◌≡◌, ℕ, ◌==◌, Bool, true, false, not, ◌||◌, List, [], ◌∷◌, map, take, option_to_list, slice_get, Some, None}
use Rattle.std.specs.List.{Contains, flat_map, list_any}
use Rattle.tu_core.specs.Core.{Call, Calls, Routine, Program}
use Rattle.tu_core.specs.declared.names.At.{At}
use Rattle.tu_core.specs.declared.names.Variable.TheVariants.{Global, Local}
use Rattle.tu_core.specs.declared.names.Formal.{Formal}
use Rattle.tu_core.specs.declared.names.Formal.TheVariants.{ByValue, ByCopy, ByVar}
use Rattle.tu_core.specs.Rooms.{is_same}
use Rattle.tu_core.specs.Places.{gives_nothing}
use Rattle.tu_core.specs.Acts.{Subject, AVariable, ACollection, Act, Reading, Changing, Talking, Calling, Declaring, Defining, Fixing, routine_acts, main_acts}

abbrev pub is_one : Subject → Subject → Bool
is_one (AVariable x) (AVariable y) = is_same x y
is_one (AVariable x) (ACollection d) = false
is_one (ACollection c) (AVariable y) = false
is_one (ACollection c) (ACollection d) = c == d

-- a variable or collection of the program or of a module
abbrev pub is_outer : Subject → Bool
is_outer (AVariable (Global x)) = true
is_outer (AVariable (Local x)) = false
is_outer (ACollection c) = true

abbrev pub reads : Subject → Act → Bool
reads x (Reading at y) = is_one x y
reads x act = false

-- A declaration changes what it declares.
abbrev pub changes : Subject → Act → Bool
changes x (Changing at y) = is_one x y
changes x (Declaring at y) = is_one x (AVariable y)
changes x (Defining at y) = is_one x (AVariable y.name)
changes x act = false

abbrev pub talks : Act → Bool
talks (Talking at) = true
talks act = false

-- a call of a subprogram of a module calls the invariant of the module too
abbrev pub called_by : Call → List ℕ
called_by (Calls at callee invariant actuals) = callee ∷ option_to_list invariant

abbrev pub called : Act → List ℕ
called (Calling call) = called_by call
called act = []

abbrev pub acts_of : Program → (routine : ℕ) → List Act
acts_of program p = elim (slice_get program.routines p) [ None ↦ [] | Some r ↦ routine_acts r ]

-- a sequence of steps, which may be empty, leads from one number to another
pub data Leads (Step : ℕ → ℕ → Type 0) : ℕ → ℕ → Type 0 where
  here : {a : ℕ} → Leads Step a a
  step : {a b c : ℕ} → Step a b → Leads Step b c → Leads Step a c

-- the text of routine p calls routine q
abbrev pub CallsOne : Program → ℕ → ℕ → Type 0
CallsOne program p q = Contains (flat_map called (acts_of program p)) q

-- a sequence of calls leads from routine p to a text with an act that passes a test
abbrev pub Does : Program → (Act → Bool) → ℕ → Type 0
Does program test p = (q : ℕ) × Leads (CallsOne program) p q × (list_any test (acts_of program q) ≡ true)

abbrev pub Reads : Program → ℕ → Subject → Type 0
Reads program p x = (is_outer x ≡ true) × Does program (reads x) p

abbrev pub Writes : Program → ℕ → Subject → Type 0
Writes program p x = (is_outer x ≡ true) × Does program (changes x) p

abbrev pub Talks : Program → ℕ → Type 0
Talks program p = Does program talks p

-- A fault is a relation: it holds of the places where the fault is. It is that of one of a list.
abbrev pub Among : {X : Type 0} → (X → At → Type 0) → List X → At → Type 0
Among {X} Has xs at = (x : X) × Contains xs x × Has x at

-- each with those behind it
abbrev pub tails : {X : Type 0} → List X → List (X × List X)
tails [] = []
tails (x ∷ more) = (x, more) ∷ tails more

-- A function, or an invariant. All other routines are procedures.
abbrev pub is_function : Routine → Bool
is_function r = r.is_invariant || not (gives_nothing r.gives)

abbrev pub IsProcedure : Program → ℕ → Type 0
IsProcedure program p = (r : Routine) × (slice_get program.routines p ≡ Some r) × (is_function r ≡ false)

-- at a call of a procedure of which P holds
abbrev pub CallsProcedure : Program → (ℕ → Type 0) → Call → At → Type 0
CallsProcedure program P (Calls place callee invariant actuals) at = IsProcedure program callee × P callee × (at ≡ place)

abbrev pub WritesAny : Program → ℕ → Type 0
WritesAny program p = (x : Subject) × Writes program p x

-- a change of what is no name of the text, or a call of a procedure that changes such
abbrev pub ChangesOutside : Program → Act → At → Type 0
ChangesOutside program (Changing place x) at = (is_outer x ≡ true) × (at ≡ place)
ChangesOutside program (Declaring place x) at = (is_outer (AVariable x) ≡ true) × (at ≡ place)
ChangesOutside program (Defining place x) at = (is_outer (AVariable x.name) ≡ true) × (at ≡ place)
ChangesOutside program (Calling call) at = CallsProcedure program (WritesAny program) call at
ChangesOutside program act at = ⊥

abbrev pub TalksOutside : Program → Act → At → Type 0
TalksOutside program (Talking place) at = at ≡ place
TalksOutside program (Calling call) at = CallsProcedure program (Talks program) call at
TalksOutside program act at = ⊥

abbrev pub IsVarFormal : Formal → At → Type 0
IsVarFormal (ByValue target) at = ⊥
IsVarFormal (ByCopy kind) at = ⊥
IsVarFormal (ByVar place kind) at = at ≡ place

-- `var` among the formals of a function
abbrev pub FunctionVar : Program → At → Type 0
FunctionVar program at = Among (λ r at. (is_function r ≡ true) × Among IsVarFormal r.formals at) program.routines at

abbrev pub FunctionWrites : Program → At → Type 0
FunctionWrites program at = Among (λ r at. (is_function r ≡ true) × Among (ChangesOutside program) (routine_acts r) at) program.routines at

abbrev pub FunctionTalks : Program → At → Type 0
FunctionTalks program at = Among (λ r at. (is_function r ≡ true) × Among (TalksOutside program) (routine_acts r) at) program.routines at

-- a change of one of these
abbrev pub ChangesFixed : List Subject → Act → At → Type 0
ChangesFixed fixed (Changing place x) at = (list_any (is_one x) fixed ≡ true) × (at ≡ place)
ChangesFixed fixed act at = ⊥

-- a change of a name that an import list lets be read alone
abbrev pub UnlistedIn : Act × List Act → At → Type 0
UnlistedIn (Fixing fixed extent, behind) at = Among (ChangesFixed fixed) (take extent behind) at
UnlistedIn (act, behind) at = ⊥

-- the texts of a program: its own, and those of its routines
abbrev pub texts_of : Program → List (List Act)
texts_of program = main_acts program ∷ map routine_acts program.routines

abbrev pub UnlistedWrite : Program → At → Type 0
UnlistedWrite program at = Among (λ acts. Among UnlistedIn (tails acts)) (texts_of program) at
