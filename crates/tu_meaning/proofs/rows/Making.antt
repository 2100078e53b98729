-- Helpers by which the core of a short program reads like its source.
use Rattle.std.specs.Prelude.{ℕ, true, false, List, [], ◌∷◌, ◌++◌, map, Option, Some, None, pos}
use Rattle.tu_base.specs.Trace.{Trace, Put as put_byte, Got}
use Rattle.tu_base.specs.Streams.{Folder}
use Rattle.tu_base.specs.declared.shape.Span.{Span}
use Rattle.tu_base.specs.declared.shape.Shape.{Shape}
use Rattle.tu_base.specs.declared.shape.Shape.TheVariants.{Scalar as scalar_shape}
use Rattle.tu_base.specs.declared.operator.Relation.{Relation}
use Rattle.tu_base.specs.declared.operator.Unary.TheVariants.{Minus}
use Rattle.tu_base.specs.declared.operator.Binary.{Binary}
use Rattle.tu_base.specs.declared.operator.Binary.TheVariants.{Add, Subtract, Multiply, Compare}
use Rattle.tu_core.specs.declared.names.At.{At}
use Rattle.tu_core.specs.declared.names.Variable.{Variable}
use Rattle.tu_core.specs.declared.names.Variable.TheVariants.{Global, Local}
use Rattle.tu_core.specs.declared.names.GlobalName.TheVariants.{GlobalOf}
use Rattle.tu_core.specs.declared.names.LocalName.{LocalName}
use Rattle.tu_core.specs.declared.names.PlaceKind.TheVariants.{OfShape}
use Rattle.tu_core.specs.declared.names.Formal.{Formal}
use Rattle.tu_core.specs.declared.names.Formal.TheVariants.{ByValue, ByVar}
use Rattle.tu_core.specs.declared.names.CallResult.{CallResult}
use Rattle.tu_core.specs.declared.names.CallResult.TheVariants.{Nothing, OneValue}
use Rattle.tu_core.specs.declared.targets.Target.{Target}
use Rattle.tu_core.specs.declared.targets.Target.TheVariants.{TakesScalar}
use Rattle.tu_core.specs.declared.claim.Claim.{Claim}
use Rattle.tu_core.specs.Targets.{ints}
use Rattle.tu_core.specs.Core.{Scalar, Literal, Use, Prefixed, Chain, CallScalar, NoLink, Link, Text, Written, Absent, Path, Name, Selectors, End, Item, NoSubscript, Subscript, Calls, Actuals, Given, Lent, AScalar, Start, WithValue, Shown, ShowInt, ShowText, Assign, Give, Check, Put, Do, Constant, Variables, Started, Statement, Simply, If, Block, Empty, Then, Declare, Else, NoHandler, Routine, Program}
use Rattle.tu_core.specs.WellFormed.{is_well_formed}
use Rattle.tu_meaning.specs.Meaning.{Meant, Standing, IsStuck}
use Rattle.tu_meaning.specs.Programs.{meaning}

-- The trace, how the run stands, and the units; the log is told where a row is of it.
pub record Seen : Type 0 where
  pub trace : Trace
  pub standing : Standing
  pub units : ℕ

abbrev pub no_files : Option Folder
no_files = Some (λ name. None)

abbrev pub seen_of : Meant → Seen
seen_of m = record { trace = m.trace; standing = m.standing; units = m.units }

abbrev pub comes : Trace → Standing → (units : ℕ) → Seen
comes trace standing units = record { trace = trace; standing = standing; units = units }

-- what is seen of a well formed program; another one would be seen as stuck
abbrev pub if_formed : Program → Seen → Seen
if_formed p seen = elim (is_well_formed p) [ true ↦ seen | false ↦ comes [] IsStuck 0 ]

-- what is seen of a program on an input, with no files, within so many turns
abbrev pub within : (turns : ℕ) → Program → (input : List ℕ) → Seen
within turns p input = if_formed p (seen_of (meaning p input no_files turns))

-- what the console gets, and the same with a line end behind it
abbrev pub bytes : List ℕ → Trace
bytes text = map put_byte text

abbrev pub line : List ℕ → Trace
line text = bytes (text ++ 10 ∷ [])

-- what the console takes
abbrev pub taken : List ℕ → Trace
taken text = map Got text

-- the line alone, where no row tells the log
abbrev pub on : (line : ℕ) → At
on n = record { start = 0; line = n }

abbrev pub span : (low high : ℕ) → Span
span low high = record { low = pos low; high = pos high }

abbrev pub int_shape : Shape
int_shape = scalar_shape ints

abbrev pub an_int : Target
an_int = TakesScalar ints

abbrev pub int : ℕ → Scalar
int n = Literal 0 (pos n)

abbrev pub minus : Scalar → Scalar
minus e = Prefixed 0 (Minus ∷ []) e

abbrev pub number : Path → Scalar
number p = Use 0 p

abbrev pub calculated : Binary → Scalar → Scalar → Scalar
calculated operator a b = Chain 0 a (Link operator b NoLink)

abbrev pub plus : Scalar → Scalar → Scalar
plus a b = calculated Add a b

abbrev pub less : Scalar → Scalar → Scalar
less a b = calculated Subtract a b

abbrev pub times : Scalar → Scalar → Scalar
times a b = calculated Multiply a b

abbrev pub compare : Relation → Scalar → Scalar → Scalar
compare relation a b = calculated (Compare relation) a b

abbrev pub global : ℕ → Path
global x = Name (on 0) (Global x) End

abbrev pub local : ℕ → Path
local x = Name (on 0) (Local x) End

abbrev pub global_at : ℕ → Selectors → Path
global_at x steps = Name (on 0) (Global x) steps

abbrev pub local_at : ℕ → Selectors → Path
local_at x steps = Name (on 0) (Local x) steps

-- an element of an array of a shape, by a constant and by another expression
abbrev pub item : (shape n : ℕ) → Selectors
item shape n = Item shape (Subscript (Some (pos n)) (int n) NoSubscript) End

abbrev pub item_at : (shape : ℕ) → Scalar → Selectors
item_at shape e = Item shape (Subscript None e NoSubscript) End

abbrev pub text : List ℕ → Text
text written = Written 0 written

abbrev pub show : Scalar → Shown → Shown
show e more = ShowInt e Absent more

abbrev pub show_text : Text → Shown → Shown
show_text e more = ShowText e Absent more

-- statements, each on its line
abbrev pub put : (line : ℕ) → Shown → Statement
put n shown = Simply (on n) (Put Absent shown true)

-- `..` behind it
abbrev pub put_on : (line : ℕ) → Shown → Statement
put_on n shown = Simply (on n) (Put Absent shown false)

abbrev pub set : (line : ℕ) → Path → Scalar → Statement
set n p e = Simply (on n) (Assign an_int p (AScalar e))

abbrev pub call : (line callee : ℕ) → Actuals → Statement
call n callee actuals = Simply (on n) (Do (Calls (on n) callee None actuals))

abbrev pub gives : (line : ℕ) → Scalar → Statement
gives n e = Simply (on n) (Give an_int (AScalar e))

abbrev pub check : (line : ℕ) → Claim → Scalar → Statement
check n claim e = Simply (on n) (Check claim e)

abbrev pub only : Statement → Block
only s = Then s Empty

abbrev pub if_then : (line : ℕ) → Scalar → Block → Statement
if_then n e block = If (on n) e block (Else Empty)

abbrev pub given : Scalar → Actuals → Actuals
given e more = Given (on 0) None (AScalar e) more

-- a `var` actual, and a structured constant one
abbrev pub lent : Path → Actuals → Actuals
lent p more = Lent (on 0) true (Some []) p more

abbrev pub shared : Path → Actuals → Actuals
shared p more = Lent (on 0) false (Some []) p more

abbrev pub answer : (callee : ℕ) → Actuals → Scalar
answer callee actuals = CallScalar 0 (Calls (on 0) callee None actuals)

-- declarations, each on its line
abbrev pub var : (line : ℕ) → (shape : ℕ) → List Variable → Block → Block
var n shape xs more = Declare (on n) (Variables xs shape) more

abbrev pub from : Scalar → Start
from e = WithValue an_int (AScalar e)

abbrev pub var_from : (line : ℕ) → (shape : ℕ) → List Variable → Start → Block → Block
var_from n shape xs start more = Declare (on n) (Started xs shape start) more

abbrev pub constant : (line : ℕ) → Variable → Start → Block → Block
constant n x start more = Declare (on n) (Constant (record { name = x; start = start })) more

-- subprograms without handlers, by their formals, the locals behind these, their blocks and the line of their end
abbrev pub routine : CallResult → List Formal → List LocalName → (before body after : Block) → (end_line : ℕ) → Routine
routine answers formals locals before body after end_line = record { gives = answers; is_invariant = false; result = None; formals = formals; stars = 0; locals = locals; before = before; body = body; handler = NoHandler; after = after; end_line = end_line; fixed = []; fixed_collections = [] }

abbrev pub procedure : List Formal → List LocalName → (body : Block) → (end_line : ℕ) → Routine
procedure formals locals body end_line = routine Nothing formals locals Empty body Empty end_line

abbrev pub function : List Formal → List LocalName → (body : Block) → (end_line : ℕ) → Routine
function formals locals body end_line = routine (OneValue an_int) formals locals Empty body Empty end_line

abbrev pub by_value : Formal
by_value = ByValue an_int

-- of a place of a shape
abbrev pub by_var : (shape : ℕ) → Formal
by_var n = ByVar (on 0) (OfShape n)

-- a program by its shapes, its globals by their shapes, its subprograms, and its text
abbrev pub program : List Shape → List ℕ → List Routine → Block → Program
program shapes globals routines main = record { shapes = shapes; globals = map GlobalOf globals; collections = []; routines = routines; locals = []; main = main }

-- of ints alone
abbrev pub simple : List ℕ → List Routine → Block → Program
simple globals routines main = program (int_shape ∷ []) globals routines main
