-- Rows of what places take, and as what they can be lent and bound.
use Rattle.std.proofs.Common.{◌≡◌, ℕ, true, false, List, [], ◌∷◌, ◌++◌, map, Option, Some, None, pos, refl}
use Rattle.std.specs.Prelude.{ℤ}
use Rattle.std.specs.List.{list_all, list_any}
use Rattle.tu_base.specs.Sets.{Base}
use Rattle.tu_base.specs.declared.operator.Combination.TheVariants.{Intersection}
use Rattle.tu_base.specs.declared.operator.Relation.TheVariants.{Equal}
use Rattle.tu_base.specs.declared.shape.Shape.TheVariants.{Scalar as scalar_shape, Text as text_shape, Set as set_shape, Pointer as pointer_shape}
use Rattle.tu_core.specs.declared.names.Variable.TheVariants.{Global}
use Rattle.tu_core.specs.declared.names.LocalName.TheVariants.{Declared, DeclaredArray, BoundName, BoundText, BoundArray, Counter, Caught, ResultName}
use Rattle.tu_core.specs.declared.names.PlaceKind.TheVariants.{OfShape, AnyText, AnyArray}
use Rattle.tu_core.specs.declared.names.Formal.TheVariants.{ByValue, ByCopy, ByVar}
use Rattle.tu_core.specs.declared.names.CallResult.TheVariants.{Nothing, OneValue}
use Rattle.tu_core.specs.declared.targets.Index.{Index}
use Rattle.tu_core.specs.declared.targets.Index.TheVariants.{Known, Open}
use Rattle.tu_core.specs.declared.targets.Size.TheVariants.{Most, AtName}
use Rattle.tu_core.specs.declared.targets.Target.TheVariants.{TakesScalar, TakesText, TakesSet, TakesPointer}
use Rattle.tu_core.specs.declared.claim.Claim.TheVariants.{Ensures}
use Rattle.tu_core.specs.Core.{Use, CompareSets, ComparePointers, Member, Bound, Written, UseText, SetOf, FullSet, UseSet, Combined, CallSet, NoSet, AndSet, Nil, UsePointer, CallPointer, NoScalar, AndScalar, Absent, End, Field, Calls, NoActual, AScalar, AText, ASet, APointer, WithValue, WithParts, NoStart, AndStart, Through, NoneTaken, TakeInt, TakeTruth, TakeToken, TakeLine, TakeCount, Assign, Give, Check, New, Free, Get, OpenStream, Close, Constant, Started, For, Empty, Then, Handles}
use Rattle.tu_core.specs.Targets.{truths}
use Rattle.tu_core.specs.WellFormed.{is_formed, is_well_formed}
use Rattle.tu_core.proofs.Samples.{here, digit, three, base, part, whole, local, one, statement, routine, store_record, routines, program, with_statement, with_declaration, with_scalar, with_var, with_copy, with_caller, with_bound, with_bound_formal, with_value_of, with_other, with_two, with_routine}

abbrev open_from : ℕ → List Index
open_from low = Open (pos low) ∷ []

abbrev three_known : List Index
three_known = Known three ∷ []

abbrev known_bounds : List ℕ → Option (List ℤ)
known_bounds bounds = Some (map pos bounds)

-- Places of each shape; a text and an array for formals of any size, whose bounds are known; an array whose bounds stand at its name; and
-- names whose sizes and bounds are known and are not.
lent_places : list_all is_well_formed (
    with_var (OfShape 0) (Some []) (whole 0)
    ∷ (with_var (OfShape 1) (Some []) (whole 1)
    ∷ (with_var (OfShape 2) (Some []) (whole 2)
    ∷ (with_var (OfShape 3) (Some []) (whole 3)
    ∷ (with_var (OfShape 4) (Some []) (whole 4)
    ∷ (with_var (OfShape 6) (Some []) (whole 6)
    ∷ (with_var AnyText (known_bounds (8 ∷ [])) (whole 1)
    ∷ (with_var AnyText (known_bounds (8 ∷ [])) (part 5 (Field 5 1 End))
    ∷ (with_var (AnyArray (open_from 1) 0) (known_bounds (3 ∷ [])) (whole 4)
    ∷ (with_var (AnyArray three_known 0) (Some []) (whole 4)
    ∷ (with_var (AnyArray (open_from 1) 0) None (whole 7)
    ∷ (with_copy (OfShape 4) (Some []) (whole 4)
    ∷ (with_copy (AnyArray (open_from 1) 0) (known_bounds (3 ∷ [])) (whole 4)
    ∷ (with_copy (AnyArray (open_from 1) 0) None (whole 7)
    ∷ (with_caller (ByVar here AnyText ∷ []) [] AnyText None (local 0)
    ∷ (with_caller (ByVar here (OfShape 1) ∷ []) [] AnyText (known_bounds (8 ∷ [])) (local 0)
    ∷ (with_caller (ByVar here (AnyArray (open_from 1) 0) ∷ []) [] (AnyArray (open_from 1) 0) None (local 0)
    ∷ (with_caller [] (DeclaredArray (open_from 1) 0 ∷ []) (AnyArray (open_from 1) 0) None (local 0)
    ∷ (with_caller [] (BoundArray (open_from 1) 0 ∷ []) (AnyArray (open_from 1) 0) None (local 0)
    ∷ (with_caller [] (BoundText ∷ []) AnyText None (local 0)
    ∷ (with_caller [] (BoundName 5 ∷ []) (OfShape 5) (Some []) (local 0)
    ∷ (with_caller [] (Counter digit ∷ []) (OfShape 0) (Some []) (local 0) ∷ [])))))))))))))))))))))) ≡ true
lent_places = refl

-- Places of other shapes, of another span, size, base and collection, and of a shape that is not there.
wrong_shapes : list_any is_formed (
    with_var (OfShape 0) (Some []) (whole 1)
    ∷ (with_var (OfShape 5) (Some []) (whole 6)
    ∷ (with_var (OfShape 8) (Some []) (whole 0)
    ∷ (with_other (scalar_shape three) (with_var (OfShape 8) (Some []) (whole 0))
    ∷ (with_other (text_shape 9) (with_var (OfShape 8) (Some []) (whole 1))
    ∷ (with_other (set_shape (pos 0) 5) (with_var (OfShape 8) (Some []) (whole 2))
    ∷ (with_two (with_other (pointer_shape 1) (with_var (OfShape 8) (Some []) (whole 3)))
    ∷ (with_other (scalar_shape three) (with_caller [] (Counter digit ∷ []) (OfShape 8) (Some []) (local 0))
    ∷ (with_caller (ByVar here AnyText ∷ []) [] (OfShape 1) (Some []) (local 0)
    ∷ (with_caller [] (Caught ∷ []) (OfShape 0) (Some []) (local 0)
    ∷ (with_caller [] (ResultName ∷ []) (OfShape 0) (Some []) (local 0)
    ∷ (with_var (OfShape 4) (Some []) (whole 7)
    ∷ (with_copy (OfShape 0) (Some []) (whole 0)
    ∷ (with_copy AnyText (known_bounds (8 ∷ [])) (whole 1)
    ∷ (with_copy (OfShape 4) (Some []) (whole 5) ∷ []))))))))))))))) ≡ false
wrong_shapes = refl

-- Bounds and sizes that are missing, that are others or too many, and that are known where they stand at the name.
wrong_bounds : list_any is_formed (
    with_var (OfShape 1) None (whole 1)
    ∷ (with_var (OfShape 1) (known_bounds (8 ∷ [])) (whole 1)
    ∷ (with_var AnyText None (whole 1)
    ∷ (with_var AnyText (Some []) (whole 1)
    ∷ (with_var AnyText (known_bounds (7 ∷ [])) (whole 1)
    ∷ (with_var AnyText (known_bounds (8 ∷ (8 ∷ []))) (whole 1)
    ∷ (with_caller (ByVar here AnyText ∷ []) [] AnyText (known_bounds (8 ∷ [])) (local 0)
    ∷ (with_var (AnyArray (open_from 1) 0) None (whole 4)
    ∷ (with_var (AnyArray (open_from 1) 0) (Some []) (whole 4)
    ∷ (with_var (AnyArray (open_from 1) 0) (known_bounds (4 ∷ [])) (whole 4)
    ∷ (with_var (AnyArray (open_from 1) 0) (known_bounds (3 ∷ [])) (whole 7)
    ∷ (with_var (AnyArray three_known 0) None (whole 4) ∷ [])))))))))))) ≡ false
wrong_bounds = refl

-- What is no text and no array; an array with another component, with another lower bound, with other bounds, with more dimensions and with
-- a bound that is known or not; a place of what is not there; and a result of any size.
wrong_kinds : list_any is_formed (
    with_var AnyText (known_bounds (8 ∷ [])) (whole 0)
    ∷ (with_var AnyText (known_bounds (8 ∷ [])) (whole 5)
    ∷ (with_var AnyText None (whole 7)
    ∷ (with_var (AnyArray (open_from 1) 0) (known_bounds (3 ∷ [])) (whole 0)
    ∷ (with_var (AnyArray (open_from 1) 0) (known_bounds (3 ∷ [])) (whole 5)
    ∷ (with_var (AnyArray (open_from 1) 1) (known_bounds (3 ∷ [])) (whole 4)
    ∷ (with_var (AnyArray (open_from 2) 0) (known_bounds (3 ∷ [])) (whole 4)
    ∷ (with_var (AnyArray (Known digit ∷ []) 0) (Some []) (whole 4)
    ∷ (with_var (AnyArray (Open (pos 1) ∷ open_from 1) 0) (known_bounds (3 ∷ [])) (whole 4)
    ∷ (with_var (AnyArray [] 0) (Some []) (whole 4)
    ∷ (with_var (AnyArray (open_from 1) 1) None (whole 7)
    ∷ (with_var (AnyArray (open_from 2) 0) None (whole 7)
    ∷ (with_var (AnyArray three_known 0) None (whole 7)
    ∷ (with_var (AnyArray (Open (pos 1) ∷ open_from 1) 0) None (whole 7)
    ∷ (with_routine (routine Nothing (ByVar here (AnyArray (open_from 1) 8) ∷ []) [] Empty)
    ∷ (with_routine (routine Nothing (ByCopy (AnyArray (open_from 1) 8) ∷ []) [] Empty)
    ∷ (with_routine (routine Nothing (ByVar here (OfShape 8) ∷ []) [] Empty)
    ∷ (with_routine (routine (OneValue (TakesText AtName)) [] [] Empty) ∷ [])))))))))))))))))) ≡ false
wrong_kinds = refl

-- Names that are bound to places of their shape, and to those whose size or bounds stand at the name.
bound_names : list_all is_well_formed (
    with_bound (BoundName 0) (whole 0)
    ∷ (with_bound (BoundName 1) (whole 1)
    ∷ (with_bound (BoundName 2) (whole 2)
    ∷ (with_bound (BoundName 3) (whole 3)
    ∷ (with_bound (BoundName 4) (whole 4)
    ∷ (with_bound (BoundName 5) (whole 5)
    ∷ (with_bound (BoundName 6) (whole 6)
    ∷ (with_bound (BoundArray (open_from 1) 0) (whole 7)
    ∷ (with_bound_formal (ByVar here AnyText) BoundText
    ∷ (with_bound_formal (ByValue (TakesText AtName)) BoundText
    ∷ (with_bound_formal (ByValue (TakesText (Most 8))) (BoundName 1)
    ∷ (with_bound_formal (ByValue (TakesScalar digit)) (BoundName 0)
    ∷ (with_bound_formal (ByValue (TakesSet base)) (BoundName 2)
    ∷ (with_bound_formal (ByValue (TakesPointer 0)) (BoundName 3)
    ∷ (with_bound_formal (ByCopy (AnyArray (open_from 1) 0)) (BoundArray (open_from 1) 0) ∷ []))))))))))))))) ≡ true
bound_names = refl

-- Names of other shapes and kinds, and names that are not bound.
wrong_bound_names : list_any is_formed (
    with_bound (BoundName 0) (whole 1)
    ∷ (with_bound (BoundName 5) (whole 6)
    ∷ (with_bound BoundText (whole 1)
    ∷ (with_bound BoundText (whole 0)
    ∷ (with_bound (BoundName 4) (whole 7)
    ∷ (with_bound (BoundArray (open_from 1) 0) (whole 4)
    ∷ (with_bound (BoundArray (open_from 2) 0) (whole 7)
    ∷ (with_bound (BoundArray three_known 0) (whole 7)
    ∷ (with_bound (BoundArray (open_from 1) 1) (whole 7)
    ∷ (with_bound (Declared 0) (whole 0)
    ∷ (with_bound (Counter digit) (whole 0)
    ∷ (with_bound_formal (ByVar here AnyText) (BoundName 1)
    ∷ (with_bound_formal (ByValue (TakesText (Most 8))) BoundText
    ∷ (with_bound_formal (ByValue (TakesText (Most 7))) (BoundName 1)
    ∷ (with_bound_formal (ByValue (TakesScalar three)) (BoundName 0) ∷ []))))))))))))))) ≡ false
wrong_bound_names = refl

abbrev wide : Base
wide = record { low = pos 0; members = 5 }

-- Values of each sort, and one for a formal `string (*)`, which comes with its size.
values : list_all is_well_formed (
    with_statement (Assign (TakesSet base) (whole 2) (ASet (Combined 0 base (SetOf 0 base (AndScalar one NoScalar)) (AndSet Intersection (UseSet 0 (whole 2)) NoSet))))
    ∷ (with_statement (Assign (TakesPointer 0) (whole 3) (APointer (UsePointer 0 (whole 3))))
    ∷ (with_two (with_scalar (ComparePointers 0 true (Nil 0 here 1) (Nil 0 here 1)))
    ∷ (with_scalar (CompareSets 0 Equal wide (FullSet 0 wide) (FullSet 0 wide))
    ∷ (with_value_of (TakesText AtName) (Some 8) (AText (UseText 0 (whole 1)))
    ∷ (with_value_of (TakesText (Most 8)) None (AText (UseText 0 (whole 1)))
    ∷ (with_value_of (TakesSet base) None (ASet (UseSet 0 (whole 2)))
    ∷ (with_other (scalar_shape truths) (with_routine (routine Nothing [] (Declared 8 ∷ []) (statement (Get Absent (TakeTruth (local 0) NoneTaken)))))
    ∷ (program (Then (For here 0 false (Through digit) None Empty) Empty)
    ∷ (with_routine (record (routine (OneValue (TakesSet base)) [] (ResultName ∷ []) (statement (Give (TakesSet base) (ASet (FullSet 0 base))))) { result = Some 0; after = statement (Check Ensures (Member 0 true base one (UseSet 0 (local 0)))) })
    ∷ (with_routine (record store_record { handler = Handles here 2 (statement (Close (Use 0 (local 2)))) }) ∷ []))))))))))) ≡ true
values = refl

-- Targets that are not those of their places.
wrong_targets : list_any is_formed (
    with_statement (Assign (TakesScalar three) (whole 0) (AScalar one))
    ∷ (with_statement (Assign (TakesText (Most 7)) (whole 1) (AText (Written 0 [])))
    ∷ (with_statement (Assign (TakesText AtName) (whole 1) (AText (Written 0 [])))
    ∷ (with_statement (Assign (TakesSet wide) (whole 2) (ASet (FullSet 0 wide)))
    ∷ (with_two (with_statement (Assign (TakesPointer 1) (whole 3) (APointer (Nil 0 here 1))))
    ∷ (with_statement (Get Absent (TakeInt three (whole 0) NoneTaken))
    ∷ (with_statement (Get Absent (TakeTruth (whole 0) NoneTaken))
    ∷ (with_statement (Get Absent (TakeToken (Most 7) (whole 1) NoneTaken))
    ∷ (with_statement (Get Absent (TakeLine (Most 7) (whole 1) NoneTaken))
    ∷ (with_statement (Get Absent (TakeCount (Most 7) (whole 1) one NoneTaken))
    ∷ (with_statement (OpenStream three (whole 0) (Written 0 []) true)
    ∷ (with_declaration (Constant (record { name = Global 0; start = WithValue (TakesScalar three) (AScalar one) }))
    ∷ (with_declaration (Started (Global 1 ∷ []) 1 (WithValue (TakesText (Most 9)) (AText (Written 0 []))))
    ∷ (with_declaration (Started (Global 5 ∷ []) 5 (WithParts 5 (AndStart (WithValue (TakesScalar three) (AScalar one)) (AndStart (WithValue (TakesText (Most 8)) (AText (Written 0 []))) NoStart))))
    ∷ (with_routine (routine (OneValue (TakesScalar digit)) [] [] (statement (Give (TakesScalar three) (AScalar one))))
    ∷ (with_two (with_statement (New 1 here (whole 3)))
    ∷ (with_two (with_statement (Free 1 here (whole 3)))
    ∷ (program (Then (For here 0 false (Through three) None Empty) Empty) ∷ [])))))))))))))))))) ≡ false
wrong_targets = refl

-- Sets of another base and pointers of another collection than their use asks for, values of another sort, a size that is missing, and
-- sizes of what has none.
wrong_values : list_any is_formed (
    with_statement (Assign (TakesSet base) (whole 2) (ASet (FullSet 0 wide)))
    ∷ (with_statement (Assign (TakesSet base) (whole 2) (ASet (SetOf 0 wide NoScalar)))
    ∷ (with_statement (Assign (TakesSet base) (whole 2) (ASet (Combined 0 wide (FullSet 0 base) NoSet)))
    ∷ (with_statement (Assign (TakesSet base) (whole 2) (ASet (Combined 0 base (FullSet 0 base) (AndSet Intersection (FullSet 0 wide) NoSet))))
    ∷ (with_scalar (Member 0 true wide one (UseSet 0 (whole 2)))
    ∷ (with_scalar (CompareSets 0 Equal wide (FullSet 0 wide) (UseSet 0 (whole 2)))
    ∷ (record (with_scalar (Member 0 true wide one (CallSet 0 (Calls here 5 None NoActual)))) { routines = routines ++ routine (OneValue (TakesSet base)) [] [] Empty ∷ [] }
    ∷ (with_two (with_scalar (ComparePointers 0 true (Nil 0 here 0) (Nil 0 here 1)))
    ∷ (with_two (with_scalar (ComparePointers 0 true (UsePointer 0 (whole 3)) (Nil 0 here 1)))
    ∷ (with_two (with_statement (Assign (TakesPointer 0) (whole 3) (APointer (Nil 0 here 1))))
    ∷ (with_two (record (with_statement (Assign (TakesPointer 0) (whole 3) (APointer (CallPointer 0 (Calls here 5 None NoActual))))) { routines = routines ++ routine (OneValue (TakesPointer 1)) [] [] Empty ∷ [] })
    ∷ (with_value_of (TakesSet base) None (ASet (FullSet 0 wide))
    ∷ (with_value_of (TakesScalar digit) None (AText (Written 0 []))
    ∷ (with_value_of (TakesText AtName) None (AText (Written 0 []))
    ∷ (with_value_of (TakesText (Most 8)) (Some 8) (AText (Written 0 []))
    ∷ (with_value_of (TakesScalar digit) (Some 1) (AScalar one) ∷ [])))))))))))))))) ≡ false
wrong_values = refl

-- `lower` and `upper` with other indexes than those of the array.
wrong_array_bounds : list_any is_formed (
    with_scalar (Bound 0 true [] (whole 4) Absent)
    ∷ (with_scalar (Bound 0 true (Known digit ∷ []) (whole 4) Absent)
    ∷ (with_scalar (Bound 0 true (open_from 1) (whole 4) Absent)
    ∷ (with_scalar (Bound 0 true three_known (whole 7) Absent)
    ∷ (with_scalar (Bound 0 true (open_from 2) (whole 7) Absent)
    ∷ (with_scalar (Bound 0 true [] (whole 5) Absent) ∷ [])))))) ≡ false
wrong_array_bounds = refl
