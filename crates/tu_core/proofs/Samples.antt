-- Programs for the rows of the test of cores.
use Rattle.std.proofs.Common.{ℕ, true, false, List, [], ◌∷◌, ◌++◌, Option, Some, None, pos}
use Rattle.std.specs.Prelude.{ℤ}
use Rattle.tu_base.specs.Sets.{Base}
use Rattle.tu_base.specs.declared.shape.Span.{Span}
use Rattle.tu_base.specs.declared.shape.Shape.{Shape}
use Rattle.tu_base.specs.declared.shape.Shape.TheVariants.{Scalar as scalar_shape, Text as text_shape, Set as set_shape, Pointer as pointer_shape, Array as array_shape, Record as record_shape, Union as union_shape}
use Rattle.tu_core.specs.declared.names.At.{At}
use Rattle.tu_core.specs.declared.names.Variable.TheVariants.{Global, Local}
use Rattle.tu_core.specs.declared.names.GlobalName.{GlobalName}
use Rattle.tu_core.specs.declared.names.GlobalName.TheVariants.{GlobalOf, GlobalArray}
use Rattle.tu_core.specs.declared.names.LocalName.{LocalName}
use Rattle.tu_core.specs.declared.names.LocalName.TheVariants.{BoundName, BoundText, BoundArray, Counter, Caught, ResultName}
use Rattle.tu_core.specs.declared.names.PlaceKind.{PlaceKind}
use Rattle.tu_core.specs.declared.names.PlaceKind.TheVariants.{OfShape}
use Rattle.tu_core.specs.declared.names.Formal.{Formal}
use Rattle.tu_core.specs.declared.names.Formal.TheVariants.{ByValue, ByCopy, ByVar}
use Rattle.tu_core.specs.declared.names.CallResult.{CallResult}
use Rattle.tu_core.specs.declared.names.CallResult.TheVariants.{Nothing, OneValue, OnePlace}
use Rattle.tu_core.specs.declared.targets.Index.TheVariants.{Open}
use Rattle.tu_core.specs.declared.targets.Target.{Target}
use Rattle.tu_core.specs.declared.targets.Target.TheVariants.{TakesScalar}
use Rattle.tu_core.specs.declared.claim.Claim.TheVariants.{Keeps}
use Rattle.tu_core.specs.Core.{Scalar, Literal, Use, Text, UseText, Nil, Absent, Path, Name, Element, Selectors, End, Subscripts, NoSubscript, Subscript, Calls, NoActual, Given, Lent, Simple, AScalar, Plain, Assign, Copy, Give, GiveCopy, Check, Close, Do, Quit, Declaration, Simply, Block, Empty, Then, Declare, Bind, NoHandler, Handles, Routine, Program}

abbrev pub here : At
here = record { start = 0; line = 1 }

abbrev pub digit : Span
digit = record { low = pos 0; high = pos 9 }

abbrev pub three : Span
three = record { low = pos 1; high = pos 3 }

-- 0 a digit, 1 `string (8)`, 2 a set, 3 a pointer, 4 an array of three digits, 5 a record and 6 a union, of a digit and a text each, and 7 a
-- record of a set, a pointer and that union
abbrev pub shapes : List Shape
shapes =
    scalar_shape digit
    ∷ (text_shape 8
    ∷ (set_shape (pos 0) 4
    ∷ (pointer_shape 0
    ∷ (array_shape (three ∷ []) 0
    ∷ (record_shape (0 ∷ (1 ∷ []))
    ∷ (union_shape 0 (record { labels = pos 1 ∷ []; fields = 0 ∷ [] } ∷ (record { labels = []; fields = 1 ∷ [] } ∷ []))
    ∷ (record_shape (2 ∷ (3 ∷ (6 ∷ []))) ∷ [])))))))

abbrev pub base : Base
base = record { low = pos 0; members = 4 }

-- the globals 0 to 6, of the shape of that number each, and the global 7, an array of digits with run-time bounds
abbrev pub globals : List GlobalName
globals = GlobalOf 0 ∷ (GlobalOf 1 ∷ (GlobalOf 2 ∷ (GlobalOf 3 ∷ (GlobalOf 4 ∷ (GlobalOf 5 ∷ (GlobalOf 6 ∷ (GlobalArray (Open (pos 1) ∷ []) 0 ∷ [])))))))

-- a global, and a part of it
abbrev pub part : ℕ → Selectors → Path
part x steps = Name here (Global x) steps

abbrev pub whole : ℕ → Path
whole x = part x End

abbrev pub local : ℕ → Path
local x = Name here (Local x) End

abbrev pub one : Scalar
one = Literal 0 (pos 1)

abbrev pub at_one : Subscripts
at_one = Subscript (Some (pos 1)) one NoSubscript

abbrev pub statement : Plain → Block
statement s = Then (Simply here s) Empty

abbrev pub routine : CallResult → List Formal → List LocalName → Block → Routine
routine gives formals locals body = record { gives = gives; is_invariant = false; result = None; formals = formals; stars = 0; locals = locals; before = Empty; body = body; handler = NoHandler; after = Empty; end_line = 1; fixed = []; fixed_collections = [] }

-- 0 a function of a digit
abbrev pub same_digit : Routine
same_digit = routine (OneValue (TakesScalar digit)) (ByValue (TakesScalar digit) ∷ []) [] (statement (Give (TakesScalar digit) (AScalar (Use 0 (local 0)))))

-- 1 a procedure of a `var` and of a constant record, with a handler
abbrev pub store_record : Routine
store_record = record (routine Nothing (ByVar here (OfShape 5) ∷ (ByCopy (OfShape 5) ∷ [])) (Caught ∷ []) (statement (Copy 5 (local 0) (local 1)))) { handler = Handles here 2 (statement (Quit Absent)) }

-- 2 an invariant
abbrev pub keeps : Routine
keeps = record (routine Nothing [] [] (statement (Check Keeps one))) { is_invariant = true }

-- 3 a function that gives a record, whose result has a name
abbrev pub a_record : Routine
a_record = record (routine (OnePlace 5) [] (ResultName ∷ []) (statement (GiveCopy 5 (whole 5)))) { result = Some 0 }

-- 4 a function of no formal, which is no invariant
abbrev pub a_digit : Routine
a_digit = record keeps { is_invariant = false }

abbrev pub routines : List Routine
routines = same_digit ∷ (store_record ∷ (keeps ∷ (a_record ∷ (a_digit ∷ []))))

-- a program with this main program, whose locals are 0 an index of `for`, and 1 to 4 bound names: of a digit, of a record, of an array with
-- run-time bounds, and of a text whose size stands at the name
abbrev pub program : Block → Program
program main = record { shapes = shapes; globals = globals; collections = 5 ∷ []; routines = routines; locals = Counter digit ∷ (BoundName 0 ∷ (BoundName 5 ∷ (BoundArray (Open (pos 1) ∷ []) 0 ∷ (BoundText ∷ [])))); main = main }

-- a program with this statement, and with this declaration
abbrev pub with_statement : Plain → Program
with_statement s = program (statement s)

abbrev pub with_declaration : Declaration → Program
with_declaration d = program (Declare here d Empty)

-- `digit := e`
abbrev pub with_scalar : Scalar → Program
with_scalar e = with_statement (Assign (TakesScalar digit) (whole 0) (AScalar e))

-- a call that lends a place, with these bounds, to a `var` formal of a kind
abbrev pub with_var : PlaceKind → (bounds : Option (List ℤ)) → Path → Program
with_var kind bounds path = record (with_statement (Do (Calls here 5 None (Lent here true bounds path NoActual)))) { routines = routines ++ routine Nothing (ByVar here kind ∷ []) [] Empty ∷ [] }

-- one that lends a place as a digit, and as a record
abbrev pub with_digit : Path → Program
with_digit path = with_var (OfShape 0) (Some []) path

abbrev pub with_record : Path → Program
with_record path = with_var (OfShape 5) (Some []) path

-- a call that lends a place to a constant formal of a kind
abbrev pub with_copy : PlaceKind → (bounds : Option (List ℤ)) → Path → Program
with_copy kind bounds path = record (with_statement (Do (Calls here 5 None (Lent here false bounds path NoActual)))) { routines = routines ++ routine Nothing (ByCopy kind ∷ []) [] Empty ∷ [] }

-- such a call in a procedure with these names
abbrev pub with_caller : List Formal → List LocalName → PlaceKind → (bounds : Option (List ℤ)) → Path → Program
with_caller formals locals kind bounds path = record (program Empty) { routines = routines ++ routine Nothing (ByVar here kind ∷ []) [] Empty ∷ (routine Nothing formals locals (statement (Do (Calls here 5 None (Lent here true bounds path NoActual)))) ∷ []) }

-- a main program with one local, which is bound to a place
abbrev pub with_bound : LocalName → Path → Program
with_bound name path = record (program (Bind here 0 true path Empty)) { locals = name ∷ [] }

-- a procedure with one formal, and a local that is bound to it
abbrev pub with_bound_formal : Formal → LocalName → Program
with_bound_formal formal name = record (program Empty) { routines = routine Nothing (formal ∷ []) (name ∷ []) (Bind here 1 false (local 0) Empty) ∷ [] }

-- a call of a procedure with one formal for a value
abbrev pub with_value_of : Target → (size : Option ℕ) → Simple → Program
with_value_of target size e = record (with_statement (Do (Calls here 5 None (Given here size e NoActual)))) { routines = routines ++ routine Nothing (ByValue target ∷ []) [] Empty ∷ [] }

-- with one more shape, the shape 8
abbrev pub with_other : Shape → Program → Program
with_other s p = record p { shapes = shapes ++ s ∷ [] }

-- with a second collection
abbrev pub with_two : Program → Program
with_two p = record p { collections = 5 ∷ (5 ∷ []) }

-- a use and a text of names that are not there, and a block with it
abbrev pub lost : Scalar
lost = Use 0 (whole 8)

-- an element of a collection that is there, by a `nil` of one that is not
abbrev pub lost_element : Selectors → Path
lost_element steps = Element here 0 (Nil 0 here 1) steps

abbrev pub lost_text : Text
lost_text = UseText 0 (whole 8)

abbrev pub wrong : Block
wrong = statement (Close lost)

-- with one more routine, which is not called
abbrev pub with_routine : Routine → Program
with_routine r = record (program Empty) { routines = routines ++ r ∷ [] }

-- with one more shape
abbrev pub with_shape : Shape → Program
with_shape s = record (program Empty) { shapes = shapes ++ s ∷ [] }
