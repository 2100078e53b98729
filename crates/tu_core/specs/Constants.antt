-- The values of constants: of a constant expression, and of the constants that a text declares, as far as they are known before it runs.
use Rattle.std.specs.Prelude.{ℕ, Bool, true, false, List, [], ◌∷◌, Option, Some, None, ℤ, if◌then◌else◌}
use Rattle.tu_base.specs.declared.operator.Unary.{Unary}
use Rattle.tu_base.specs.declared.operator.Binary.{Binary}
use Rattle.tu_base.specs.Scalars.{Answer, Gives, Raises, unary, binary, decided, is_true, truth_number}
use Rattle.tu_core.specs.declared.names.Variable.{Variable}
use Rattle.tu_core.specs.declared.names.Variable.TheVariants.{Global, Local}
use Rattle.tu_core.specs.declared.names.LocalName.{LocalName}
use Rattle.tu_core.specs.declared.names.LocalName.TheVariants.{Declared}
use Rattle.tu_core.specs.declared.names.CallResult.TheVariants.{Nothing}
use Rattle.tu_core.specs.declared.targets.Target.TheVariants.{TakesScalar}
use Rattle.tu_core.specs.Core.{Scalar, Use, Literal, Prefixed, Chain, Links, NoLink, Link, Decide, Path, Name, End, AScalar, Start, WithValue, Routine, Program}
use Rattle.tu_core.specs.Targets.{is_within}
use Rattle.tu_core.specs.Places.{Names, has_some, local_name, names_of}
use Rattle.tu_core.specs.Rooms.{is_same}
use Rattle.tu_core.specs.Acts.{Act, Defining, routine_acts, main_acts}

-- the values of the constants of a text, where they are known
abbrev pub Known : Type 0
Known = Variable → Option ℤ

-- The value of a constant expression. One that would raise an exception has none.
abbrev pub answer_value : Answer ℤ → Option ℤ
answer_value (Gives z units) = Some z
answer_value (Raises exception units) = None

abbrev pub prefixed_value : List Unary → Option ℤ → Option ℤ
prefixed_value [] z = z
prefixed_value (operator ∷ more) z = elim (prefixed_value more z) [ None ↦ None | Some x ↦ answer_value (unary operator x) ]

abbrev pub binary_value : Binary → ℤ → Option ℤ → Option ℤ
binary_value operator x None = None
binary_value operator x (Some y) = answer_value (binary operator x y)

abbrev pub unless_decided_value : Option Bool → Option ℤ → Option ℤ
unless_decided_value None right = right
unless_decided_value (Some b) right = Some (truth_number b)

-- with these constants
module _ (known : Known) where
  abbrev pub use_value : Path → Option ℤ
  use_value (Name at x End) = known x
  use_value path = None

  abbrev mutual
    pub value_of : Scalar → Option ℤ
    value_of (Literal n z) = Some z
    value_of (Use n path) = use_value path
    value_of (Prefixed n operators e) = prefixed_value operators (value_of e)
    value_of (Chain n e links) = chain_value (value_of e) links
    value_of e = None

    pub chain_value : Option ℤ → Links → Option ℤ
    chain_value None links = None
    chain_value (Some z) NoLink = Some z
    chain_value (Some z) (Link operator e more) = chain_value (binary_value operator z (value_of e)) more
    chain_value (Some z) (Decide operator e more) = chain_value (unless_decided_value (decided operator (is_true z)) (value_of e)) more

  -- the value of a constant with this start; one that its type does not take is none
  abbrev pub start_value : Start → Option ℤ
  start_value (WithValue (TakesScalar s) (AScalar e)) = elim (value_of e) [ None ↦ None | Some z ↦ if is_within s z then Some z else None ]
  start_value start = None

abbrev pub none_known : Known
none_known x = None

abbrev pub known_in : (globals locals : ℕ → Option ℤ) → Known
known_in globals locals (Global x) = globals x
known_in globals locals (Local x) = locals x

abbrev pub with_value : Variable → Option ℤ → Known → Known
with_value x None known = known
with_value x (Some z) known = λ y. if is_same x y then Some z else known y

-- with the constants that acts define, each of which may be used by later ones
abbrev pub with_constants : Known → List Act → Known
with_constants known [] = known
with_constants known (Defining at x ∷ more) = with_constants (with_value x.name (start_value known x.start) known) more
with_constants known (act ∷ more) = with_constants known more

abbrev pub is_declared : LocalName → Bool
is_declared (Declared shape) = true
is_declared x = false

-- those of the program, by their numbers
abbrev pub globals_of : Known → ℕ → Option ℤ
globals_of known x = known (Global x)

abbrev pub global_constants : Program → ℕ → Option ℤ
global_constants p = globals_of (with_constants none_known (main_acts p))

-- those of a text of these names, each of which is declared
abbrev pub locals_of : Names → Known → ℕ → Option ℤ
locals_of names known x = if has_some is_declared (local_name names x) then known (Local x) else None

abbrev pub local_constants : Program → (globals : ℕ → Option ℤ) → Routine → ℕ → Option ℤ
local_constants p globals r = locals_of (names_of p r Nothing false) (with_constants (known_in globals (λ x. None)) (routine_acts r))

abbrev pub constants_of : Program → (globals : ℕ → Option ℤ) → Option Routine → ℕ → Option ℤ
constants_of p globals None = λ x. None
constants_of p globals (Some r) = local_constants p globals r
