-- What the check of types gives beside a well formed core, as far as the rules on overlap rest on it: what is changed is a variable, what
-- is written as a constant has its value, and paths that begin alike go on alike.
use Rattle.std.specs.Prelude.{◌≡◌, ◌≢◌, ℕ, Bool, true, false, List, take, slice_get, is_some, Option, Some, None, ℤ}
use Rattle.std.specs.List.{Contains}
use Rattle.tu_core.specs.Core.{Path, Name, OpenItem, Element, ResultOf, Selectors, End, Field, VariantField, Item, Subscripts, NoSubscript, Subscript, Call, Calls, Actuals, NoActual, Given, Lent, AScalar, Start, WithValue, Named, Routine, Program}
use Rattle.tu_core.specs.declared.names.Variable.{Variable}
use Rattle.tu_core.specs.declared.names.Variable.TheVariants.{Global, Local}
use Rattle.tu_core.specs.declared.names.Formal.{Formal}
use Rattle.tu_core.specs.declared.names.Formal.TheVariants.{ByValue, ByCopy, ByVar}
use Rattle.tu_core.specs.declared.names.LocalName.{LocalName}
use Rattle.tu_core.specs.declared.names.LocalName.TheVariants.{Declared, DeclaredArray, BoundName, BoundText, BoundArray, Counter, Caught, ResultName}
use Rattle.tu_core.specs.declared.names.CallResult.TheVariants.{Nothing}
use Rattle.tu_core.specs.Constants.{Known, value_of, known_in, is_declared}
use Rattle.tu_core.specs.Places.{Names, main_names, names_of, has_some, local_name}
use Rattle.tu_core.specs.Acts.{Subject, AVariable, ACollection, subject_of, Act, Changing, Calling, Binding, Declaring, Defining, routine_acts, main_acts}
use Rattle.tu_core.specs.Effects.{changes, tails}

-- with these constants
module _ (known : Known) where
  -- subscripts that are written as constants have their values
  abbrev pub HaveValues : Subscripts → Type 0
  HaveValues NoSubscript = Unit {0}
  HaveValues (Subscript None e more) = HaveValues more
  HaveValues (Subscript (Some z) e more) = (value_of known e ≡ Some z) × HaveValues more

  abbrev pub SelectorsHaveValues : Selectors → Type 0
  SelectorsHaveValues End = Unit {0}
  SelectorsHaveValues (Field n k more) = SelectorsHaveValues more
  SelectorsHaveValues (VariantField n k more) = SelectorsHaveValues more
  SelectorsHaveValues (Item n es more) = HaveValues es × SelectorsHaveValues more

  abbrev pub PathHasValues : Path → Type 0
  PathHasValues (Name at x steps) = SelectorsHaveValues steps
  PathHasValues (OpenItem at x indexes es steps) = HaveValues es × SelectorsHaveValues steps
  PathHasValues (Element at c e steps) = SelectorsHaveValues steps
  PathHasValues (ResultOf at k call steps) = SelectorsHaveValues steps

  -- a constant whose value is known gets that value
  abbrev pub StartsWith : Start → ℤ → Type 0
  StartsWith (WithValue target (AScalar e)) z = value_of known e ≡ Some z
  StartsWith start z = ⊥

  abbrev pub GetsItsValue : Named → Type 0
  GetsItsValue x = elim (known x.name) [ None ↦ Unit {0} | Some z ↦ StartsWith x.start z ]

-- Selectors from one place: they are of one form and one shape, as far as they may go to the same component.
abbrev pub SelectAlike : Selectors → Selectors → Type 0
SelectAlike End ys = Unit {0}
SelectAlike xs End = Unit {0}
SelectAlike (Field n k xs) (Field m j ys) = (k ≡ j) → SelectAlike xs ys
SelectAlike (Field n k xs) (VariantField m j ys) = k ≢ j
SelectAlike (VariantField n k xs) (Field m j ys) = k ≢ j
SelectAlike (VariantField n k xs) (VariantField m j ys) = (k ≡ j) → SelectAlike xs ys
SelectAlike (Item n ds xs) (Item m es ys) = (n ≡ m) × SelectAlike xs ys
SelectAlike xs ys = ⊥

-- two paths, where they have one root
abbrev pub AreAlike : Path → Path → Type 0
AreAlike (Name at x xs) (Name other y ys) = (x ≡ y) → SelectAlike xs ys
AreAlike (OpenItem at x indexes ds xs) (OpenItem other y others es ys) = (x ≡ y) → (indexes ≡ others) × SelectAlike xs ys
AreAlike (Element at c e xs) (Element other d f ys) = (c ≡ d) → SelectAlike xs ys
AreAlike p q = Unit {0}

abbrev pub AlikeWith : Path → Actuals → Type 0
AlikeWith p NoActual = Unit {0}
AlikeWith p (Given at size e more) = AlikeWith p more
AlikeWith p (Lent at is_var bounds q more) = AreAlike p q × AlikeWith p more

-- the lent actuals of a call: a `var` actual is a variable, and all are alike
abbrev pub LendsRight : Known → Actuals → Type 0
LendsRight known NoActual = Unit {0}
LendsRight known (Given at size e more) = LendsRight known more
LendsRight known (Lent at is_var bounds path more) = (is_var ≡ true → is_some (subject_of path) ≡ true) × PathHasValues known path × AlikeWith path more × LendsRight known more

abbrev pub is_constant : Option Formal → Bool
is_constant None = false
is_constant (Some (ByValue target)) = true
is_constant (Some (ByCopy kind)) = true
is_constant (Some (ByVar at kind)) = false

-- what a declaration, a `for`, a handler or a result names
abbrev pub is_own : LocalName → Bool
is_own (Declared shape) = true
is_own (DeclaredArray indexes component) = true
is_own (BoundName shape) = false
is_own BoundText = false
is_own (BoundArray indexes component) = false
is_own (Counter s) = true
is_own Caught = true
is_own ResultName = true

-- In a text of these names, of a routine or of the program, with these known constants.
module _ (names : Names) (is_routine : Bool) (known : Known) where
  -- no constant whose value is known, and no constant formal
  abbrev pub IsVariable : Variable → Type 0
  IsVariable (Global x) = known (Global x) ≡ None
  IsVariable (Local x) = (known (Local x) ≡ None) × (is_constant (slice_get names.formals x) ≡ false)

  -- A routine declares names of its own, which are no formals, and no names of a `bind`.
  abbrev pub IsOwn : Variable → Type 0
  IsOwn (Global x) = is_routine ≡ false
  IsOwn (Local x) = has_some is_own (local_name names x) ≡ true

  abbrev pub CanChange : Subject → Type 0
  CanChange (AVariable x) = IsVariable x
  CanChange (ACollection c) = Unit {0}

  abbrev pub CanCall : Call → Type 0
  CanCall (Calls at callee invariant actuals) = LendsRight known actuals

  abbrev pub ActIsTyped : Act → Type 0
  ActIsTyped (Changing at x) = CanChange x
  ActIsTyped (Calling call) = CanCall call
  -- a name is not visible in the path that it is bound to
  ActIsTyped (Binding at name is_var path extent) = (is_some (subject_of path) ≡ true) × (subject_of path ≢ Some (AVariable (Local name)))
  ActIsTyped (Declaring at x) = IsVariable x × IsOwn x
  ActIsTyped (Defining at x) = IsOwn x.name × GetsItsValue known x
  ActIsTyped act = Unit {0}

  -- a name of `bind` without `var` is a constant
  abbrev pub KeepsBound : Act × List Act → Type 0
  KeepsBound (Binding at name false path extent, behind) = (act : Act) → Contains (take extent behind) act → changes (AVariable (Local name)) act ≡ false
  KeepsBound (act, behind) = Unit {0}

  pub record TextIsTyped (acts : List Act) : Type 0 where
    pub each : (act : Act) → Contains acts act → ActIsTyped act
    pub bound : (rest : Act × List Act) → Contains (tails acts) rest → KeepsBound rest
    -- only a declared name is a constant
    pub declared : (x : ℕ) → known (Local x) ≢ None → has_some is_declared (local_name names x) ≡ true

-- There are values of the constants with which each text is right.
pub record IsTyped (program : Program) : Type 0 where
  pub globals : ℕ → Option ℤ
  pub locals : (routine : ℕ) → ℕ → Option ℤ
  pub main : TextIsTyped (main_names program) false (known_in globals (λ x. None)) (main_acts program)
  pub routines : (n : ℕ) (r : Routine) → slice_get program.routines n ≡ Some r → TextIsTyped (names_of program r Nothing false) true (known_in globals (locals n)) (routine_acts r)
