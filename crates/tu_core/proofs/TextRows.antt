-- Rows of what a text asks for as a whole, and of the test of types.
use Rattle.std.proofs.Common.{◌≡◌, ℕ, true, false, [], ◌∷◌, ◌++◌, Some, None, pos, refl}
use Rattle.std.specs.List.{list_all, list_any}
use Rattle.tu_base.specs.declared.operator.Binary.TheVariants.{Add, Divide}
use Rattle.tu_core.specs.declared.names.Variable.TheVariants.{Global, Local}
use Rattle.tu_core.specs.declared.names.GlobalName.TheVariants.{GlobalOf}
use Rattle.tu_core.specs.declared.names.LocalName.TheVariants.{Declared, BoundName, Caught}
use Rattle.tu_core.specs.declared.names.PlaceKind.TheVariants.{OfShape}
use Rattle.tu_core.specs.declared.names.Formal.TheVariants.{ByValue, ByCopy, ByVar}
use Rattle.tu_core.specs.declared.names.CallResult.TheVariants.{Nothing, OneValue, OnePlace}
use Rattle.tu_core.specs.declared.targets.Index.TheVariants.{Open}
use Rattle.tu_core.specs.declared.targets.Target.TheVariants.{TakesScalar}
use Rattle.tu_core.specs.Core.{Scalar, Literal, Use, Chain, NoLink, Link, Absent, OpenItem, ResultOf, End, Field, VariantField, Item, NoSubscript, Subscript, Calls, NoActual, Lent, AScalar, Start, WithValue, FromTo, Plain, Assign, Copy, Exit, Return, Close, Do, Constant, Variables, Mention, Simply, If, Loop, For, Case, Begin, Module, Block, Empty, Then, Declare, Bind, Else, Elsif, NoArm, Default, Labelled, Handles, Routine, Program}
use Rattle.tu_core.specs.Constants.{global_constants}
use Rattle.tu_core.specs.TypeTest.{are_alike, is_typed}
use Rattle.tu_core.specs.Leaving.{exits_leave_loops, results_differ}
use Rattle.tu_core.specs.WellFormed.{is_formed, is_well_formed}
use Rattle.tu_core.proofs.Samples.{here, digit, globals, part, whole, local, one, at_one, statement, routine, store_record, keeps, routines, program, with_var, with_caller, with_routine}

abbrev procedure : Block → Routine
procedure body = routine Nothing [] [] body

abbrev leave : Block
leave = statement (Exit Absent)

-- `return` in the body and in the handler of a procedure
returns : list_all is_well_formed (
    with_routine (procedure (statement Return))
    ∷ (with_routine (record (routine Nothing [] (Caught ∷ []) Empty) { handler = Handles here 0 (statement Return) }) ∷ [])) ≡ true
returns = refl

-- in the main program, a function, its handler, `pre`, `post` and an invariant
wrong_returns : list_any is_formed (
    program (statement Return)
    ∷ (with_routine (routine (OneValue (TakesScalar digit)) [] [] (statement Return))
    ∷ (with_routine (routine (OnePlace 5) [] [] (statement Return))
    ∷ (with_routine (record (routine (OneValue (TakesScalar digit)) [] (Caught ∷ []) Empty) { handler = Handles here 0 (statement Return) })
    ∷ (with_routine (record (procedure Empty) { before = statement Return })
    ∷ (with_routine (record (procedure Empty) { after = statement Return })
    ∷ (with_routine (record keeps { body = statement Return }) ∷ []))))))) ≡ false
wrong_returns = refl

-- `exit` in loops, and in blocks of them
exits : list_all is_well_formed (
    program (Then (Loop here None leave) Empty)
    ∷ (program (Then (For here 0 false (FromTo one one) None leave) Empty)
    ∷ (program (Then (Loop here None (Then (If here one leave (Elsif here one leave (Else leave))) Empty)) Empty)
    ∷ (program (Then (Loop here None (Then (Case here one (Labelled [] leave (Default leave))) Empty)) Empty)
    ∷ (program (Then (Loop here None (Then (Begin here (Bind here 1 false (whole 0) leave)) Empty)) Empty)
    ∷ (program (Then (Loop here None (Declare here (Mention 0) leave)) Empty)
    ∷ (with_routine (procedure (Then (Loop here None leave) Empty)) ∷ []))))))) ≡ true
exits = refl

-- An `exit` outside a loop, in each block, behind a loop, and in each block of a routine.
wrong_exits : list_any exits_leave_loops (
    program leave
    ∷ (program (Then (If here one leave (Else Empty)) Empty)
    ∷ (program (Then (If here one Empty (Else leave)) Empty)
    ∷ (program (Then (If here one Empty (Elsif here one leave (Else Empty))) Empty)
    ∷ (program (Then (If here one Empty (Elsif here one Empty (Else leave))) Empty)
    ∷ (program (Then (Case here one (Default leave)) Empty)
    ∷ (program (Then (Case here one (Labelled [] leave NoArm)) Empty)
    ∷ (program (Then (Case here one (Labelled [] Empty (Default leave))) Empty)
    ∷ (program (Then (Begin here leave) Empty)
    ∷ (program (Then (Module here [] [] None 1 leave) Empty)
    ∷ (program (Then (Loop here None Empty) leave)
    ∷ (program (Declare here (Mention 0) leave)
    ∷ (program (Bind here 1 false (whole 0) leave)
    ∷ (with_routine (procedure leave)
    ∷ (with_routine (record (procedure Empty) { before = leave })
    ∷ (with_routine (record (procedure Empty) { after = leave })
    ∷ (with_routine (record store_record { handler = Handles here 2 leave }) ∷ []))))))))))))))))) ≡ false
wrong_exits = refl

-- the result of a call by this number, which is copied
abbrev result_by : ℕ → Plain
result_by k = Copy 5 (whole 5) (ResultOf here k (Calls here 3 None NoActual) End)

abbrev two_results : (first second : ℕ) → Block
two_results k j = Then (Simply here (result_by k)) (statement (result_by j))

-- numbers that differ, and equal ones in two texts
results : list_all is_well_formed (
    program (two_results 0 1)
    ∷ (with_routine (procedure (two_results 1 0))
    ∷ (record (program (statement (result_by 0))) { routines = routines ++ procedure (statement (result_by 0)) ∷ (procedure (statement (result_by 0)) ∷ []) } ∷ []))) ≡ true
results = refl

-- equal ones in one text
wrong_results : list_any results_differ (
    program (two_results 0 0)
    ∷ (program (Then (Simply here (result_by 0)) (two_results 1 0))
    ∷ (with_routine (procedure (two_results 1 1))
    ∷ (with_routine (record (procedure (statement (result_by 0))) { before = statement (result_by 0) })
    ∷ (with_routine (record (procedure (statement (result_by 0))) { after = statement (result_by 0) })
    ∷ (with_routine (record store_record { body = statement (result_by 0); handler = Handles here 2 (statement (result_by 0)) }) ∷ [])))))) ≡ false
wrong_results = refl

abbrev value : Scalar → Start
value e = WithValue (TakesScalar digit) (AScalar e)

-- a constant of the program with this start, and then a block
abbrev const_digit : Scalar → Block → Block
const_digit e more = Declare here (Constant (record { name = Global 0; start = value e })) more

abbrev named : ℕ → Scalar
named x = Use 0 (whole x)

-- lends an element by this constant
abbrev lend_at : ℕ → Scalar → Block
lend_at n e = statement (Do (Calls here 5 None (Lent here true (Some []) (part 4 (Item 4 (Subscript (Some (pos n)) e NoSubscript) End)) NoActual)))

abbrev with_taker : Block → Program
with_taker main = record (program main) { routines = routines ++ routine Nothing (ByVar here (OfShape 0) ∷ []) [] Empty ∷ []; globals = globals ++ GlobalOf 0 ∷ [] }

-- The values of constants: one that an earlier one gives, one of a start that its type does not take, one that a later one would give, and
-- one of a start that raises an exception.
known_constant : global_constants (program (const_digit one Empty)) 0 ≡ Some (pos 1)
known_constant = refl

known_by_another : global_constants (with_taker (const_digit one (Declare here (Constant (record { name = Global 8; start = value (Chain 0 (named 0) (Link Add one NoLink)) })) Empty))) 8 ≡ Some (pos 2)
known_by_another = refl

not_taken : global_constants (program (const_digit (Literal 0 (pos 10)) Empty)) 0 ≡ None
not_taken = refl

not_by_later : global_constants (with_taker (Declare here (Constant (record { name = Global 8; start = value (named 0) })) (const_digit one Empty))) 8 ≡ None
not_by_later = refl

not_by_exception : global_constants (program (const_digit (Chain 0 one (Link Divide (Literal 0 (pos 0)) NoLink)) Empty)) 0 ≡ None
not_by_exception = refl

not_by_variable : global_constants (with_taker (const_digit (named 8) Empty)) 0 ≡ None
not_by_variable = refl

-- Subscripts with their values, of a constant of the program and of a routine; a `var` formal and a local that are changed; and constants
-- that are read.
typed : list_all is_well_formed (
    with_taker (const_digit one (lend_at 1 (named 0)))
    ∷ (with_taker (const_digit one (lend_at 2 (Chain 0 (named 0) (Link Add one NoLink))))
    ∷ (with_taker (const_digit one (Then (Simply here (Close (named 0))) Empty))
    ∷ (record (with_taker (const_digit one Empty)) {
      routines = routines ++ routine Nothing (ByVar here (OfShape 0) ∷ []) [] Empty ∷ (routine Nothing [] (Declared 0 ∷ [])
          (Declare here (Constant (record { name = Local 0; start = value (Chain 0 (named 0) (Link Add one NoLink)) })) (lend_at 2 (Use 0 (local 0)))) ∷ []);
    }
    ∷ (with_routine (routine Nothing (ByVar here (OfShape 0) ∷ []) (Declared 0 ∷ []) (Declare here (Variables (Local 1 ∷ []) 0) (Then (Simply here (Assign (TakesScalar digit) (local 0) (AScalar one))) (statement (Assign (TakesScalar digit) (local 1) (AScalar one))))))
    ∷ (program (Bind here 1 true (whole 0) (statement (Assign (TakesScalar digit) (local 1) (AScalar one)))) ∷ [])))))) ≡ true
typed = refl

-- A subscript with another value, and with one that is not known; a constant that is changed, lent as `var` and declared as a variable; a
-- constant formal that is changed, and one that is lent as `var`; what a call gives that is lent as `var` or bound; a name of `bind` that is
-- bound to itself, and one that is changed without being `var`; a routine that declares a variable of the program, a formal and a name
-- of `bind`; and a constant that gets another value.
not_typed : list_any is_typed (
    with_taker (const_digit one (lend_at 2 (named 0)))
    ∷ (with_taker (lend_at 1 (named 8))
    ∷ (with_taker (const_digit (Literal 0 (pos 10)) (lend_at 10 (named 0)))
    ∷ (with_taker (const_digit one (statement (Assign (TakesScalar digit) (whole 0) (AScalar one))))
    ∷ (with_taker (const_digit one (statement (Do (Calls here 5 None (Lent here true (Some []) (whole 0) NoActual)))))
    ∷ (with_taker (const_digit one (Declare here (Variables (Global 0 ∷ []) 0) Empty))
    ∷ (with_routine (routine Nothing (ByValue (TakesScalar digit) ∷ []) [] (statement (Assign (TakesScalar digit) (local 0) (AScalar one))))
    ∷ (with_routine (routine Nothing (ByCopy (OfShape 5) ∷ []) [] (statement (Copy 5 (local 0) (whole 5))))
    ∷ (with_caller (ByValue (TakesScalar digit) ∷ []) [] (OfShape 0) (Some []) (local 0)
    ∷ (with_var (OfShape 5) (Some []) (ResultOf here 0 (Calls here 3 None NoActual) End)
    ∷ (program (Bind here 2 true (ResultOf here 0 (Calls here 3 None NoActual) End) Empty)
    ∷ (program (Bind here 1 true (local 1) Empty)
    ∷ (program (Bind here 1 false (whole 0) (statement (Assign (TakesScalar digit) (local 1) (AScalar one))))
    ∷ (with_routine (procedure (Declare here (Variables (Global 0 ∷ []) 0) Empty))
    ∷ (with_routine (routine Nothing (ByVar here (OfShape 0) ∷ []) [] (Declare here (Variables (Local 0 ∷ []) 0) Empty))
    ∷ (with_routine (routine Nothing [] (BoundName 0 ∷ []) (Declare here (Variables (Local 0 ∷ []) 0) Empty))
    ∷ (program (const_digit one (const_digit (Literal 0 (pos 2)) Empty)) ∷ []))))))))))))))))) ≡ false
not_typed = refl

-- Paths that begin alike go on alike: one component with parts of two kinds, an element of two shapes, and elements of an array with other
-- indexes.
alike : list_all (λ q. are_alike (part 5 (Field 5 0 End)) q) (part 5 (Field 5 0 End) ∷ (part 5 (Field 5 1 (Item 4 at_one End)) ∷ (whole 5 ∷ (part 4 (Item 4 at_one End) ∷ [])))) ≡ true
alike = refl

not_alike : list_any (λ q. are_alike (part 6 (Field 6 1 (Item 4 at_one End))) q) (part 6 (VariantField 6 1 End) ∷ (part 6 (Item 4 at_one End) ∷ (part 6 (Field 6 1 (Item 5 at_one End)) ∷ (part 6 (Field 6 1 (Field 5 0 End)) ∷ [])))) ≡ false
not_alike = refl

not_alike_open : are_alike (OpenItem here (Global 7) (Open (pos 1) ∷ []) at_one End) (OpenItem here (Global 7) (Open (pos 2) ∷ []) at_one End) ≡ false
not_alike_open = refl
