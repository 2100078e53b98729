-- Rows of cores: what short programs become, and that the expressions of a text have numbers of their own.
use Rattle.std.proofs.Common.{◌≡◌, ℕ, List, [], ◌∷◌, ◌++◌, codes, true, false, Option, Some, None, Bool, pos, refl}
use Rattle.std.specs.List.{flat_map}
use Rattle.tu_base.specs.declared.operator.Binary.TheVariants.{Add, Subtract, Multiply}
use Rattle.tu_core.specs.declared.names.At.{At}
use Rattle.tu_core.specs.declared.names.Variable.TheVariants.{Global}
use Rattle.tu_core.specs.declared.targets.Target.TheVariants.{TakesScalar}
use Rattle.tu_core.specs.declared.targets.Index.TheVariants.{Open}
use Rattle.tu_core.specs.Targets.{ints}
use Rattle.tu_core.specs.Leaving.{all_differ, routine_blocks}
use Rattle.tu_core.specs.Measures.{Measure, nothing, of_block}
use Rattle.tu_core.specs.Core.{Scalar, Literal, Use, Prefixed, Chain, CompareTexts, CompareSets, ComparePointers, Member, Length, PlaceIn, ByteOf, TextInt, Bound, AtEnd, CallScalar, NoLink, Link, Text, Written, UseText, Joined, Cut, Character, IntText, Repeat, CallText, Set, SetOf, FullSet, UseSet, Combined, CallSet, Pointer, Nil, UsePointer, CallPointer, NoScalar, AndScalar, Absent, Name, End, Field, Item, NoSubscript, Subscript, Calls, NoActual, Given, Lent, AScalar, AText, NoneShown, ShowInt, Assign, Put, Do, Variables, Arrays, Simply, Module, Block, Empty, Then, Declare, Program}
use Rattle.tu_type_base.specs.Checked.{Checked, Good, Faulty}
use Rattle.tu_type_rules.specs.Functions.{functions}
use Rattle.tu_scope_rules.specs.Search.{predefined}
use Rattle.tu_scope_rules.specs.Views.{view_of}
use Rattle.tu_scope_rules.specs.Uses.{uses_of}
use Rattle.tu_token.specs.Words.{words}
use Rattle.tu_types.proofs.Reading.{checked}

-- the main program of a core
abbrev main_of : Option (Checked Program) → Option Block
main_of None = None
main_of (Some (Faulty f fs)) = None
main_of (Some (Good p)) = Some p.main

abbrev main : (source : List ℕ) → Option Block
main source = main_of (checked source)

abbrev at : (start : ℕ) → At
at start = record { start = start; line = 1 }

-- one chain for each level, with the operators in their order
chains : main (codes "put 1 + 2 - 3 * 4") ≡ Some (Then (Simply (at 0) (Put Absent (ShowInt
    (Chain 9 (Literal 13 (pos 1)) (Link Add (Literal 17 (pos 2)) (Link Subtract (Chain 18 (Literal 21 (pos 3)) (Link Multiply (Literal 24 (pos 4)) NoLink)) NoLink)))
    Absent NoneShown) true)) Empty)
unfolding words checked predefined view_of uses_of functions
chains = refl

assignment : main (codes "var x , y : int x := y") ≡ Some (Declare (at 0) (Variables (Global 0 ∷ Global 1 ∷ []) 0)
    (Then (Simply (at 16) (Assign (TakesScalar ints) (Name (at 16) (Global 0) End) (AScalar (Use 19 (Name (at 21) (Global 1) End))))) Empty))
unfolding words checked predefined view_of uses_of functions
assignment = refl

-- a `var` actual is lent, and a formal `string (*)` receives a value with its size
actuals : main (codes "procedure p ( var c : int , d : string ( * ) ) end p var a : int p ( a , \"b\" )") ≡ Some (Declare (at 53) (Variables (Global 0 ∷ []) 0)
    (Then (Simply (at 65) (Do (Calls (at 65) 0 None
    (Lent (at 69) true (Some []) (Name (at 69) (Global 0) End) (Given (at 73) (Some 255) (AText (Written 47 (98 ∷ []))) NoActual))))) Empty))
unfolding words checked predefined view_of uses_of functions
actuals = refl

-- each selector with the shape that it selects from, and a subscript with its value
selectors : main (codes "var r : record x : int y : array 1 .. 2 of int end record r . y ( 2 ) := 1") ≡ Some (Declare (at 0) (Variables (Global 0 ∷ []) 5)
    (Then (Simply (at 58) (Assign (TakesScalar ints)
    (Name (at 58) (Global 0) (Field 5 1 (Item 4 (Subscript (Some (pos 2)) (Literal 49 (pos 2)) NoSubscript) End))) (AScalar (Literal 59 (pos 1))))) Empty))
unfolding words checked predefined view_of uses_of functions
selectors = refl

-- a bound that is evaluated stands at the name
open_arrays : main (codes "var n : int var a : array 1 .. n of int put upper ( a )") ≡ Some (Declare (at 0) (Variables (Global 0 ∷ []) 0)
    (Declare (at 12) (Arrays (Global 1 ∷ []) (Open (pos 1) ∷ []) 0 (AndScalar (Use 31 (Name (at 31) (Global 0) End)) NoScalar))
    (Then (Simply (at 40) (Put Absent (ShowInt (Bound 46 true (Open (pos 1) ∷ []) (Name (at 52) (Global 1) End) Absent) Absent NoneShown) true)) Empty)))
unfolding words checked predefined view_of uses_of functions
open_arrays = refl

-- an exported procedure is called with the invariant of its module
invariants : main (codes "module M export ( p ) invariant true procedure p end p end M M . p") ≡ Some
    (Then (Module (at 0) [] [] (Some 0) 1 Empty) (Then (Simply (at 61) (Do (Calls (at 61) 1 (Some 0) NoActual))) Empty))
unfolding words checked predefined view_of uses_of functions
invariants = refl

-- what an import list lets read and not change
fixed : main (codes "var x , y : int module M import ( x , var y , x ) end M") ≡ Some
    (Declare (at 0) (Variables (Global 0 ∷ Global 1 ∷ []) 0) (Then (Module (at 16) (Global 0 ∷ Global 0 ∷ []) [] None 0 Empty) Empty))
unfolding words checked predefined view_of uses_of functions
fixed = refl

-- ---- numbers of expressions

abbrev scalar_numbers : Scalar → List ℕ
scalar_numbers (Literal n z) = n ∷ []
scalar_numbers (Use n path) = n ∷ []
scalar_numbers (Prefixed n operators e) = n ∷ []
scalar_numbers (Chain n e links) = n ∷ []
scalar_numbers (CompareTexts n relation a b) = n ∷ []
scalar_numbers (CompareSets n relation base a b) = n ∷ []
scalar_numbers (ComparePointers n is_equal a b) = n ∷ []
scalar_numbers (Member n is_wanted base e s) = n ∷ []
scalar_numbers (Length n e) = n ∷ []
scalar_numbers (PlaceIn n a b) = n ∷ []
scalar_numbers (ByteOf n e) = n ∷ []
scalar_numbers (TextInt n e) = n ∷ []
scalar_numbers (Bound n is_upper indexes path dimension) = n ∷ []
scalar_numbers (AtEnd n at stream) = n ∷ []
scalar_numbers (CallScalar n call) = n ∷ []

abbrev text_numbers : Text → List ℕ
text_numbers (Written n bytes) = n ∷ []
text_numbers (UseText n path) = n ∷ []
text_numbers (Joined n e more) = n ∷ []
text_numbers (Cut n e cuts) = n ∷ []
text_numbers (Character n e) = n ∷ []
text_numbers (IntText n e width) = n ∷ []
text_numbers (Repeat n e k) = n ∷ []
text_numbers (CallText n call) = n ∷ []

abbrev set_numbers : Set → List ℕ
set_numbers (SetOf n base es) = n ∷ []
set_numbers (FullSet n base) = n ∷ []
set_numbers (UseSet n path) = n ∷ []
set_numbers (Combined n base e more) = n ∷ []
set_numbers (CallSet n call) = n ∷ []

abbrev pointer_numbers : Pointer → List ℕ
pointer_numbers (Nil n at c) = n ∷ []
pointer_numbers (UsePointer n path) = n ∷ []
pointer_numbers (CallPointer n call) = n ∷ []

abbrev numbers : Measure (List ℕ)
numbers = record (nothing [] (λ xs ys. xs ++ ys)) { scalar = scalar_numbers; text = text_numbers; set = set_numbers; pointer = pointer_numbers }

abbrev have_own_numbers : Option (Checked Program) → Bool
have_own_numbers None = false
have_own_numbers (Some (Faulty f fs)) = false
have_own_numbers (Some (Good p)) = all_differ (of_block numbers p.main ++ flat_map (λ r. flat_map (of_block numbers) (routine_blocks r)) p.routines)

own_numbers : have_own_numbers (checked (codes
    "var x : int := - 1 + abs ( 2 ) * 3 ** 4 type S : set of 1 .. 5 var s : S := S ( x , 1 + 2 ) + S ( all ) * S ( ) var t : string t := \"a\" + t ( 1 .. * ) ( * - x ) + intstr ( x , 1 ) var C : collection of int var p : pointer to C function f ( n : int , m : string ) : int pre n = 1 result n + length ( m ) end f x := f ( C ( p ) , \"abc\" ( 1 ) ) put not ( x < 1 and 1 = 2 or t = \"b\" = true ) , x in s , p = nil ( C ) , s <= s , min ( x , succ ( x ) )")) ≡ true
unfolding words checked predefined view_of uses_of functions
own_numbers = refl
