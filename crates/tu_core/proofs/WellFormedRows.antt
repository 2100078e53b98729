-- Rows of the test of cores: programs that are well formed, and wrong ones that break one rule each.
use Rattle.std.proofs.Common.{◌≡◌, true, false, [], ◌∷◌, ◌++◌, Some, None, pos, refl}
use Rattle.std.specs.List.{list_all, list_any}
use Rattle.tu_base.specs.declared.operator.Binary.TheVariants.{Divide}
use Rattle.tu_base.specs.declared.operator.Combination.TheVariants.{Intersection}
use Rattle.tu_base.specs.declared.operator.Junction.TheVariants.{And}
use Rattle.tu_base.specs.declared.operator.Relation.TheVariants.{Equal}
use Rattle.tu_base.specs.declared.shape.Shape.TheVariants.{Scalar as scalar_shape, Pointer as pointer_shape, Array as array_shape, Record as record_shape, Union as union_shape}
use Rattle.tu_core.specs.declared.names.Variable.TheVariants.{Global, Local}
use Rattle.tu_core.specs.declared.names.GlobalName.TheVariants.{GlobalOf, GlobalArray}
use Rattle.tu_core.specs.declared.names.LocalName.TheVariants.{Declared, DeclaredArray, BoundName, BoundArray, Counter}
use Rattle.tu_core.specs.declared.names.PlaceKind.TheVariants.{OfShape}
use Rattle.tu_core.specs.declared.names.Formal.TheVariants.{ByValue, ByCopy}
use Rattle.tu_core.specs.declared.names.CallResult.TheVariants.{Nothing, OneValue, OnePlace}
use Rattle.tu_core.specs.declared.targets.Index.TheVariants.{Known, Open}
use Rattle.tu_core.specs.declared.targets.Size.TheVariants.{Most}
use Rattle.tu_core.specs.declared.targets.Target.TheVariants.{TakesScalar, TakesText, TakesPointer}
use Rattle.tu_core.specs.declared.claim.Claim.TheVariants.{Keeps, Asserts}
use Rattle.tu_core.specs.Core.{Use, Prefixed, Chain, CompareTexts, CompareSets, ComparePointers, Member, Length, PlaceIn, ByteOf, TextInt, Bound, AtEnd, CallScalar, NoLink, Link, Decide, Written, UseText, Joined, Cut, Character, IntText, Repeat, CallText, NoText, AndText, NoCut, CutCharacter, CutPart, Exactly, Last, BeforeLast, SetOf, FullSet, UseSet, Combined, CallSet, NoSet, AndSet, Nil, UsePointer, CallPointer, NoScalar, AndScalar, Absent, Present, Name, OpenItem, Element, ResultOf, End, Field, VariantField, Item, NoSubscript, Subscript, Calls, NoActual, Given, Lent, AScalar, AText, APointer, WithValue, WithCopy, WithParts, NoStart, AndStart, FromTo, Through, NoneShown, ShowInt, ShowTruth, ShowText, NoneTaken, TakeInt, TakeTruth, TakeToken, TakeLine, TakeCount, Assign, Copy, Exit, Give, GiveCopy, Check, New, Free, Tag, Put, Get, OpenStream, Close, Do, Quit, Constant, InitClause, Variables, Started, Arrays, Collections, Mention, Simply, If, Loop, For, Case, Begin, Module, Empty, Then, Declare, Bind, Else, Elsif, NoArm, Default, Labelled, Handles}
use Rattle.tu_core.specs.WellFormed.{is_formed, is_well_formed}
use Rattle.tu_core.proofs.Samples.{here, digit, three, shapes, base, globals, part, whole, local, one, at_one, statement, routine, same_digit, store_record, a_record, program, with_statement, with_declaration, with_scalar, with_digit, with_record, with_copy, with_two, lost, lost_element, lost_text, wrong, with_routine, with_shape}

-- Scalars: a use of a global, of a component, of a tag, of a field of a union, of an item, of an element and of a call's result; a
-- call; and bounds of arrays.
scalars : list_all is_well_formed (
    with_scalar one
    ∷ (with_scalar (Use 0 (whole 0))
    ∷ (with_scalar (Use 0 (part 5 (Field 5 0 End)))
    ∷ (with_scalar (Use 0 (part 6 (Field 6 0 End)))
    ∷ (with_scalar (Use 0 (part 6 (VariantField 6 1 End)))
    ∷ (with_scalar (Use 0 (part 4 (Item 4 at_one End)))
    ∷ (with_scalar (Use 0 (OpenItem here (Global 7) (Open (pos 1) ∷ []) at_one End))
    ∷ (with_scalar (Use 0 (Element here 0 (UsePointer 0 (whole 3)) (Field 5 0 End)))
    ∷ (with_scalar (Use 0 (ResultOf here 0 (Calls here 3 None NoActual) (Field 5 0 End)))
    ∷ (with_scalar (CallScalar 0 (Calls here 0 (Some 2) (Given here None (AScalar one) NoActual)))
    ∷ (with_scalar (Bound 0 true (Known three ∷ []) (whole 4) Absent)
    ∷ (with_scalar (Bound 0 true (Open (pos 1) ∷ []) (whole 7) (Present one))
    ∷ (with_scalar (Length 0 (UseText 0 (part 6 (VariantField 6 2 End))))
    ∷ (with_scalar (Member 0 true base one (UseSet 0 (whole 2))) ∷ [])))))))))))))) ≡ true
scalars = refl

-- A use of a name that is not there, a scalar where a text stands, a text and a set where a scalar stands, a pointer where a set
-- stands, and the bounds of a scalar.
wrong_uses : list_any is_formed (
    with_scalar (Use 0 (whole 8))
    ∷ (with_scalar (Use 0 (local 8))
    ∷ (with_scalar (Use 0 (whole 1))
    ∷ (with_scalar (Length 0 (UseText 0 (whole 0)))
    ∷ (with_scalar (Member 0 true base one (UseSet 0 (whole 0)))
    ∷ (with_scalar (ComparePointers 0 true (UsePointer 0 (whole 2)) (Nil 0 here 0))
    ∷ (with_scalar (Bound 0 true [] (whole 0) Absent) ∷ []))))))) ≡ false
wrong_uses = refl

-- A wrong part of each form of an expression: of a chain, a prefix, a comparison, a text, a set and a pointer.
wrong_parts : list_any is_formed (
    with_scalar (Prefixed 0 [] lost)
    ∷ (with_scalar (Chain 0 lost NoLink)
    ∷ (with_scalar (Chain 0 one (Link Divide lost NoLink))
    ∷ (with_scalar (Chain 0 one (Decide And lost NoLink))
    ∷ (with_scalar (CompareTexts 0 Equal lost_text (Written 0 []))
    ∷ (with_scalar (CompareTexts 0 Equal (Written 0 []) lost_text)
    ∷ (with_scalar (CompareSets 0 Equal base (FullSet 0 base) (SetOf 0 base (AndScalar lost NoScalar)))
    ∷ (with_scalar (CompareSets 0 Equal base (SetOf 0 base (AndScalar lost NoScalar)) (FullSet 0 base))
    ∷ (with_scalar (ComparePointers 0 true (Nil 0 here 0) (Nil 0 here 1))
    ∷ (with_scalar (ComparePointers 0 true (Nil 0 here 1) (Nil 0 here 0))
    ∷ (with_scalar (Member 0 true base lost (FullSet 0 base))
    ∷ (with_scalar (Member 0 true base one (Combined 0 base (FullSet 0 base) (AndSet Intersection (UseSet 0 (whole 0)) NoSet)))
    ∷ (with_scalar (PlaceIn 0 (Written 0 []) (Joined 0 (Written 0 []) (AndText lost_text NoText)))
    ∷ (with_scalar (PlaceIn 0 lost_text (Written 0 []))
    ∷ (with_scalar (ByteOf 0 (Character 0 lost))
    ∷ (with_scalar (TextInt 0 (IntText 0 one (Present lost)))
    ∷ (with_scalar (TextInt 0 (IntText 0 lost Absent))
    ∷ (with_scalar (Length 0 (Repeat 0 (Written 0 []) lost))
    ∷ (with_scalar (Length 0 (Repeat 0 lost_text one))
    ∷ (with_scalar (Length 0 (Cut 0 (Written 0 []) (CutCharacter (BeforeLast lost) NoCut)))
    ∷ (with_scalar (Length 0 (Cut 0 (Written 0 []) (CutPart Last (Exactly lost) NoCut)))
    ∷ (with_scalar (Length 0 (Cut 0 lost_text NoCut))
    ∷ (with_scalar (Bound 0 true (Known three ∷ []) (whole 4) (Present lost))
    ∷ (with_scalar (Bound 0 true [] (lost_element End) Absent)
    ∷ (with_scalar (Chain 0 one (Link Divide one (Link Divide lost NoLink)))
    ∷ (with_scalar (Chain 0 one (Decide And one (Link Divide lost NoLink)))
    ∷ (with_scalar (Length 0 (UseText 0 (lost_element (Field 5 1 End))))
    ∷ (with_scalar (Length 0 (Joined 0 lost_text NoText))
    ∷ (with_scalar (Length 0 (Joined 0 (Written 0 []) (AndText (Written 0 []) (AndText lost_text NoText))))
    ∷ (with_scalar (Length 0 (Cut 0 (Written 0 []) (CutCharacter Last (CutCharacter (Exactly lost) NoCut))))
    ∷ (with_scalar (Length 0 (Cut 0 (Written 0 []) (CutPart (Exactly lost) Last NoCut)))
    ∷ (with_scalar (Length 0 (Cut 0 (Written 0 []) (CutPart Last Last (CutCharacter (Exactly lost) NoCut))))
    ∷ (with_scalar (Member 0 true base one (UseSet 0 (part 5 (Field 7 0 End))))
    ∷ (with_scalar (Member 0 true base one (Combined 0 base (UseSet 0 (whole 0)) NoSet))
    ∷ (with_scalar (Member 0 true base one (Combined 0 base (FullSet 0 base) (AndSet Intersection (FullSet 0 base) (AndSet Intersection (UseSet 0 (whole 0)) NoSet))))
    ∷ (with_scalar (Member 0 true base one (SetOf 0 base (AndScalar one (AndScalar lost NoScalar))))
    ∷ (with_scalar (ComparePointers 0 true (Nil 0 here 0) (UsePointer 0 (part 5 (Field 7 1 End))))
    ∷ (with_scalar (AtEnd 0 here (Present lost))
    ∷ (with_scalar (Length 0 (CallText 0 (Calls here 0 None (Given here None (AScalar one) NoActual))))
    ∷ (with_scalar (Member 0 true base one (CallSet 0 (Calls here 0 None (Given here None (AScalar one) NoActual))))
    ∷ (with_scalar (ComparePointers 0 true (Nil 0 here 0) (CallPointer 0 (Calls here 0 None (Given here None (AScalar one) NoActual))))
    ∷ (with_scalar (Use 0 (part 4 (Item 4 (Subscript None lost NoSubscript) End)))
    ∷ (with_scalar (Use 0 (OpenItem here (Global 7) (Open (pos 1) ∷ []) (Subscript None lost NoSubscript) End))
    ∷ (with_scalar (CallScalar 0 (Calls here 0 None (Given here None (AScalar lost) NoActual))) ∷ [])))))))))))))))))))))))))))))))))))))))))))) ≡ false
wrong_parts = refl

-- A wrong part of each statement with a block.
wrong_blocks : list_any is_formed (
    program (Then (If here lost Empty (Else Empty)) Empty)
    ∷ (program (Then (If here one wrong (Else Empty)) Empty)
    ∷ (program (Then (If here one Empty (Else wrong)) Empty)
    ∷ (program (Then (If here one Empty (Elsif here lost Empty (Else Empty))) Empty)
    ∷ (program (Then (If here one Empty (Elsif here one wrong (Else Empty))) Empty)
    ∷ (program (Then (If here one Empty (Elsif here one Empty (Else wrong))) Empty)
    ∷ (program (Then (Loop here None wrong) Empty)
    ∷ (program (Then (Loop here (Some (record { at = here; claim = Keeps; condition = lost })) Empty) Empty)
    ∷ (program (Then (For here 0 false (FromTo one lost) None Empty) Empty)
    ∷ (program (Then (For here 0 false (FromTo lost one) None Empty) Empty)
    ∷ (program (Then (For here 0 false (Through digit) (Some (record { at = here; claim = Keeps; condition = lost })) Empty) Empty)
    ∷ (program (Then (For here 0 false (Through digit) None wrong) Empty)
    ∷ (program (Then (Case here lost NoArm) Empty)
    ∷ (program (Then (Case here one (Default wrong)) Empty)
    ∷ (program (Then (Case here one (Labelled (pos 1 ∷ []) wrong NoArm)) Empty)
    ∷ (program (Then (Case here one (Labelled (pos 1 ∷ []) Empty (Default wrong))) Empty)
    ∷ (program (Then (Begin here wrong) Empty)
    ∷ (program (Then (Module here [] [] None 1 wrong) Empty)
    ∷ (program (Bind here 1 true (whole 8) Empty)
    ∷ (program (Bind here 2 false (lost_element End) Empty)
    ∷ (program (Bind here 1 true (whole 0) wrong)
    ∷ (program (Then (Begin here Empty) wrong)
    ∷ (program (Declare here (Mention 0) wrong) ∷ []))))))))))))))))))))))) ≡ false
wrong_blocks = refl

-- Parts of the places of the wrong rows below.
places : list_all is_well_formed (
    with_digit (part 5 (Field 5 0 End))
    ∷ (with_digit (part 6 (VariantField 6 1 End))
    ∷ (with_digit (part 4 (Item 4 at_one End))
    ∷ (with_digit (OpenItem here (Global 7) (Open (pos 1) ∷ []) at_one End)
    ∷ (with_record (Element here 0 (Nil 0 here 0) End)
    ∷ (with_digit (Element here 0 (Nil 0 here 0) (Field 5 0 End))
    ∷ (with_copy (OfShape 5) (Some []) (ResultOf here 0 (Calls here 3 None NoActual) End)
    ∷ (with_scalar (Use 0 (ResultOf here 0 (Calls here 3 None NoActual) (Field 5 0 End))) ∷ [])))))))) ≡ true
places = refl

-- A selector of another shape than stands there, a component that is not there, one behind a component without parts, one of a record
-- for one of a union and one of a union for one of a record, the tag as a field, an item of a record, and an item with two subscripts.
wrong_selectors : list_any is_formed (
    with_digit (part 5 (Field 6 0 End))
    ∷ (with_digit (part 5 (Field 5 2 End))
    ∷ (with_digit (part 5 (Field 5 0 (Field 5 0 End)))
    ∷ (with_digit (part 5 (VariantField 6 1 End))
    ∷ (with_digit (part 6 (VariantField 6 1 (Field 5 0 End)))
    ∷ (with_digit (part 4 (Item 4 at_one (Field 5 0 End)))
    ∷ (with_digit (part 5 (Item 4 at_one End))
    ∷ (with_digit (part 6 (Field 6 1 End))
    ∷ (with_digit (part 5 (VariantField 5 1 End))
    ∷ (with_digit (part 6 (VariantField 6 0 End))
    ∷ (with_digit (part 6 (VariantField 6 3 End))
    ∷ (with_digit (part 5 (Item 5 at_one End))
    ∷ (with_digit (part 4 (Item 4 (Subscript None one at_one) End)) ∷ []))))))))))))) ≡ false
wrong_selectors = refl

-- A name and a collection that are not there, a pointer to a collection that is not there and to another one, selectors of another shape
-- behind an element and behind a call's result, an item with run-time bounds of a name without them and one with other indexes,
-- subscripts that are wrong or too many, and the result of a call that gives a value.
wrong_roots : list_any is_formed (
    with_digit (whole 8)
    ∷ (with_record (lost_element End)
    ∷ (with_record (Element here 1 (Nil 0 here 0) End)
    ∷ (with_two (with_record (Element here 1 (Nil 0 here 0) End))
    ∷ (with_digit (Element here 0 (Nil 0 here 0) (Field 6 0 End))
    ∷ (with_scalar (Use 0 (ResultOf here 0 (Calls here 3 None NoActual) (Field 6 0 End)))
    ∷ (program (Bind here 3 false (whole 7) (Then (Simply here (Close (Use 0 (OpenItem here (Local 3) (Open (pos 1) ∷ []) (Subscript None lost NoSubscript) End)))) Empty))
    ∷ (with_digit (OpenItem here (Global 0) (Open (pos 1) ∷ []) at_one End)
    ∷ (with_digit (OpenItem here (Global 4) (Known three ∷ []) at_one End)
    ∷ (with_digit (OpenItem here (Global 7) (Open (pos 2) ∷ []) at_one End)
    ∷ (with_digit (OpenItem here (Global 7) (Known three ∷ []) at_one End)
    ∷ (with_digit (OpenItem here (Global 7) (Open (pos 1) ∷ []) (Subscript None one at_one) End)
    ∷ (with_digit (Element here 1 (Nil 0 here 0) (Field 5 0 End))
    ∷ (with_scalar (Use 0 (ResultOf here 0 (Calls here 8 None NoActual) (Field 5 0 End)))
    ∷ (with_scalar (Use 0 (ResultOf here 0 (Calls here 0 None (Given here None (AScalar one) NoActual)) (Field 5 0 End))) ∷ []))))))))))))))) ≡ false
wrong_roots = refl

-- A procedure of a `var` and of a constant record.
calls : list_all is_well_formed (
    with_statement (Do (Calls here 1 None (Lent here true (Some []) (whole 5) (Lent here false (Some []) (whole 5) NoActual)))) ∷ []) ≡ true
calls = refl

-- A routine that is not there, a procedure as a function and a function as a procedure, an actual that is missing and one too many,
-- actuals of another sort and another kind than their formals, wrong actuals, and invariants that are not there or that are none.
wrong_calls : list_any is_formed (
    with_statement (Do (Calls here 5 None NoActual))
    ∷ (with_scalar (CallScalar 0 (Calls here 1 None (Lent here true (Some []) (whole 5) (Lent here false (Some []) (whole 5) NoActual))))
    ∷ (with_statement (Do (Calls here 0 None (Given here None (AScalar one) NoActual)))
    ∷ (with_scalar (CallScalar 0 (Calls here 0 None NoActual))
    ∷ (with_scalar (CallScalar 0 (Calls here 0 None (Given here None (AScalar one) (Given here None (AScalar one) NoActual))))
    ∷ (with_scalar (CallScalar 0 (Calls here 0 None (Given here None (AText (Written 0 [])) NoActual)))
    ∷ (with_scalar (CallScalar 0 (Calls here 0 None (Lent here false (Some []) (whole 0) NoActual)))
    ∷ (with_statement (Do (Calls here 1 None (Lent here true (Some []) (whole 5) (Given here None (AScalar one) NoActual))))
    ∷ (with_statement (Do (Calls here 1 None (Lent here true (Some []) (whole 5) (Lent here true (Some []) (whole 5) NoActual))))
    ∷ (with_statement (Do (Calls here 1 None (Lent here false (Some []) (whole 5) (Lent here false (Some []) (whole 5) NoActual))))
    ∷ (with_statement (Do (Calls here 1 None (Lent here true (Some []) (whole 5) (Lent here false (Some []) (whole 0) NoActual))))
    ∷ (with_scalar (CallScalar 0 (Calls here 0 (Some 5) (Given here None (AScalar one) NoActual)))
    ∷ (with_scalar (CallScalar 0 (Calls here 0 (Some 4) (Given here None (AScalar one) NoActual)))
    ∷ (with_statement (Do (Calls here 1 None (Lent here true (Some []) (whole 5) (Lent here false (Some []) (lost_element End) NoActual))))
    ∷ (with_statement (Do (Calls here 1 None (Lent here true (Some []) (whole 5) (Lent here false (Some []) (whole 5) (Given here None (AScalar one) NoActual)))))
    ∷ (with_scalar (CallScalar 0 (Calls here 0 (Some 0) (Given here None (AScalar one) NoActual)))
    ∷ (with_scalar (CallScalar 0 (Calls here 0 (Some 3) (Given here None (AScalar one) NoActual))) ∷ []))))))))))))))))) ≡ false
wrong_calls = refl

-- Statements.
statements : list_all is_well_formed (
    with_statement (Assign (TakesText (Most 8)) (whole 1) (AText (Written 0 [])))
    ∷ (with_statement (Assign (TakesPointer 0) (whole 3) (APointer (Nil 0 here 0)))
    ∷ (with_statement (Copy 4 (whole 4) (whole 4))
    ∷ (with_statement (New 0 here (whole 3))
    ∷ (with_statement (Free 0 here (whole 3))
    ∷ (with_statement (Tag 6 (whole 6) one)
    ∷ (with_statement (Quit (Present one))
    ∷ (with_statement (Get Absent (TakeInt digit (whole 0) (TakeLine (Most 8) (whole 1) NoneTaken)))
    ∷ (with_statement (Put Absent (ShowInt one Absent (ShowText (UseText 0 (whole 1)) (Present one) NoneShown)) true)
    ∷ (with_statement (OpenStream digit (whole 0) (Written 0 []) true)
    ∷ (program (Then (For here 0 false (FromTo one one) None (statement (Assign (TakesScalar digit) (whole 0) (AScalar (Use 0 (local 0)))))) Empty)
    ∷ (program (Bind here 1 true (whole 0) (Bind here 2 false (whole 5) (statement (Assign (TakesScalar digit) (local 1) (AScalar (Use 0 (Name here (Local 2) (Field 5 0 End))))))))
    ∷ (program (Then (Module here (Global 0 ∷ []) (0 ∷ []) (Some 2) 1 Empty) Empty)
    ∷ (program (Bind here 3 false (whole 7) (Then (Simply here (Close (Use 0 (OpenItem here (Local 3) (Open (pos 1) ∷ []) (Subscript None one NoSubscript) End)))) Empty)) ∷ [])))))))))))))) ≡ true
statements = refl

-- Statements with a part that is not there, that is of another sort or of another shape; `result` in the main program; and `quit`
-- without a number outside a handler.
wrong_statements : list_any is_formed (
    with_statement (Assign (TakesScalar digit) (whole 0) (AText (Written 0 [])))
    ∷ (with_statement (Assign (TakesScalar digit) (whole 1) (AScalar one))
    ∷ (with_statement (Assign (TakesPointer 1) (whole 3) (APointer (Nil 0 here 0)))
    ∷ (with_statement (Assign (TakesPointer 0) (whole 3) (APointer (Nil 0 here 1)))
    ∷ (with_statement (Copy 5 (whole 5) (whole 0))
    ∷ (with_statement (Copy 0 (whole 5) (whole 5))
    ∷ (with_statement (Assign (TakesText (Most 8)) (lost_element (Field 5 1 End)) (AText (Written 0 [])))
    ∷ (with_statement (Copy 5 (lost_element End) (whole 5))
    ∷ (with_statement (Copy 5 (whole 5) (lost_element End))
    ∷ (with_statement (Free 1 here (whole 3))
    ∷ (with_statement (Tag 6 (part 5 (Field 7 2 End)) one)
    ∷ (with_statement (Put Absent (ShowInt one (Present lost) NoneShown) true)
    ∷ (with_statement (Put Absent (ShowInt one Absent (ShowInt lost Absent NoneShown)) true)
    ∷ (with_statement (Put Absent (ShowTruth lost Absent NoneShown) true)
    ∷ (with_statement (Put Absent (ShowTruth one Absent (ShowInt lost Absent NoneShown)) true)
    ∷ (with_statement (Put Absent (ShowText (Written 0 []) (Present lost) NoneShown) true)
    ∷ (with_statement (Get Absent (TakeInt digit (whole 0) (TakeTruth (whole 1) NoneTaken)))
    ∷ (with_statement (Get Absent (TakeTruth (whole 0) (TakeTruth (whole 1) NoneTaken)))
    ∷ (with_statement (Get Absent (TakeToken (Most 8) (whole 0) NoneTaken))
    ∷ (with_statement (Get Absent (TakeToken (Most 8) (whole 1) (TakeTruth (whole 1) NoneTaken)))
    ∷ (with_statement (Get Absent (TakeLine (Most 8) (whole 1) (TakeTruth (whole 1) NoneTaken)))
    ∷ (with_statement (Get Absent (TakeCount (Most 8) (whole 0) one NoneTaken))
    ∷ (with_statement (Get Absent (TakeCount (Most 8) (whole 1) one (TakeTruth (whole 1) NoneTaken)))
    ∷ (with_statement (Copy 5 (whole 6) (whole 6))
    ∷ (with_statement (New 1 here (whole 3))
    ∷ (with_statement (New 0 here (whole 0))
    ∷ (with_statement (Free 0 here (whole 1))
    ∷ (with_statement (Tag 5 (whole 5) one)
    ∷ (with_statement (Tag 6 (whole 5) one)
    ∷ (with_statement (Give (TakesScalar digit) (AScalar one))
    ∷ (with_statement (GiveCopy 5 (whole 5))
    ∷ (with_statement (Quit Absent)
    ∷ (with_statement (Get Absent (TakeInt digit (whole 5) NoneTaken))
    ∷ (with_statement (Get Absent (TakeLine (Most 8) (whole 5) NoneTaken))
    ∷ (with_statement (OpenStream digit (whole 1) (Written 0 []) true)
    ∷ (with_statement (OpenStream digit (whole 0) lost_text true)
    ∷ (with_statement (Exit (Present lost))
    ∷ (with_statement (Check Asserts lost)
    ∷ (with_statement (Tag 6 (whole 6) lost)
    ∷ (with_statement (Quit (Present lost))
    ∷ (with_statement (Put (Present lost) NoneShown true)
    ∷ (with_statement (Put Absent (ShowInt lost Absent NoneShown) true)
    ∷ (with_statement (Put Absent (ShowTruth one (Present lost) NoneShown) true)
    ∷ (with_statement (Put Absent (ShowText lost_text Absent NoneShown) true)
    ∷ (with_statement (Put Absent (ShowText (Written 0 []) Absent (ShowInt lost Absent NoneShown)) true)
    ∷ (with_statement (Get (Present lost) NoneTaken)
    ∷ (with_statement (Get Absent (TakeCount (Most 8) (whole 1) lost NoneTaken)) ∷ []))))))))))))))))))))))))))))))))))))))))))))))) ≡ false
wrong_statements = refl

-- An index of `for` that is a name of `bind`, `bind` of an index and of a name that is not there, a scalar as another name and another
-- place as one of a scalar, and a module that fixes what is not there.
wrong_names : list_any is_formed (
    program (Then (For here 1 false (FromTo one one) None Empty) Empty)
    ∷ (program (Bind here 0 true (whole 0) Empty)
    ∷ (program (Bind here 3 true (whole 0) Empty)
    ∷ (program (Bind here 2 true (whole 0) Empty)
    ∷ (program (Bind here 1 true (whole 5) Empty)
    ∷ (program (Then (Module here (Global 8 ∷ []) [] None 1 Empty) Empty)
    ∷ (program (Then (Module here [] (1 ∷ []) None 1 Empty) Empty)
    ∷ (program (Then (Module here [] [] (Some 0) 1 Empty) Empty) ∷ [])))))))) ≡ false
wrong_names = refl

-- Declarations, with each kind of start.
declarations : list_all is_well_formed (
    with_declaration (Variables (Global 0 ∷ []) 0)
    ∷ (with_declaration (Constant (record { name = Global 0; start = WithValue (TakesScalar digit) (AScalar one) }))
    ∷ (with_declaration (Started (Global 5 ∷ []) 5 (WithCopy 5 (whole 5)))
    ∷ (with_declaration (Started (Global 5 ∷ []) 5 (WithParts 5 (AndStart (WithValue (TakesScalar digit) (AScalar one)) (AndStart (WithValue (TakesText (Most 8)) (AText (Written 0 []))) NoStart))))
    ∷ (with_declaration (Arrays (Global 7 ∷ []) (Open (pos 1) ∷ []) 0 (AndScalar one NoScalar))
    ∷ (with_declaration (Collections (0 ∷ []))
    ∷ (with_declaration (Mention 0) ∷ []))))))) ≡ true
declarations = refl

-- Names of another shape; a start of another sort or shape, or with a part that is not there; an `init` with a part too few, too many
-- and of another sort; an array with a bound too few, with one too many and with other indexes; and shapes and collections that are
-- not there.
wrong_declarations : list_any is_formed (
    with_declaration (Variables (Global 1 ∷ []) 0)
    ∷ (with_declaration (Constant (record { name = Global 0; start = WithValue (TakesText (Most 8)) (AText (Written 0 [])) }))
    ∷ (with_declaration (Started (Global 5 ∷ []) 5 (WithCopy 6 (whole 6)))
    ∷ (with_declaration (Variables [] 8)
    ∷ (with_declaration (InitClause (record { name = Global 5; start = WithCopy 5 (whole 0) } ∷ []))
    ∷ (with_declaration (Started (Global 0 ∷ []) 0 (WithCopy 0 (whole 5)))
    ∷ (with_declaration (Started (Global 0 ∷ []) 0 (WithValue (TakesScalar digit) (AScalar lost)))
    ∷ (with_declaration (Started (Global 1 ∷ []) 0 (WithValue (TakesScalar digit) (AScalar one)))
    ∷ (with_declaration (Started (Global 5 ∷ []) 5 (WithParts 4 (AndStart (WithValue (TakesScalar digit) (AScalar one)) (AndStart (WithValue (TakesText (Most 8)) (AText (Written 0 []))) NoStart))))
    ∷ (with_declaration (Arrays (Global 7 ∷ []) (Open (pos 1) ∷ []) 0 (AndScalar lost NoScalar))
    ∷ (with_declaration (Arrays (Global 7 ∷ []) (Open (pos 1) ∷ (Known three ∷ [])) 0 (AndScalar one NoScalar))
    ∷ (with_declaration (Arrays (Global 7 ∷ []) (Open (pos 1) ∷ []) 1 (AndScalar one NoScalar))
    ∷ (with_declaration (Arrays [] [] 8 NoScalar)
    ∷ (with_declaration (Started (Global 4 ∷ []) 4 (WithParts 4 (AndStart (WithValue (TakesScalar digit) (AScalar one)) NoStart)))
    ∷ (with_declaration (Started (Global 5 ∷ []) 5 (WithParts 5 (AndStart (WithValue (TakesScalar digit) (AScalar one)) (AndStart (WithValue (TakesText (Most 8)) (AText (Written 0 []))) (AndStart (WithValue (TakesScalar digit) (AScalar one)) NoStart)))))
    ∷ (with_declaration (Started (Global 5 ∷ []) 5 (WithParts 5 (AndStart (WithValue (TakesScalar digit) (AScalar one)) (AndStart (WithValue (TakesScalar digit) (AScalar one)) NoStart))))
    ∷ (with_declaration (Arrays (Global 7 ∷ []) (Open (pos 1) ∷ []) 0 NoScalar)
    ∷ (with_declaration (Arrays (Global 7 ∷ []) (Open (pos 1) ∷ []) 0 (AndScalar one (AndScalar one NoScalar)))
    ∷ (with_declaration (Arrays (Global 4 ∷ []) (Open (pos 1) ∷ []) 0 (AndScalar one NoScalar))
    ∷ (with_declaration (Collections (1 ∷ []))
    ∷ (with_declaration (Mention 1) ∷ []))))))))))))))))))))) ≡ false
wrong_declarations = refl

-- Results of another sort and shape, `result` in `pre`, names of a handler and of a result that are none, `quit` without a number in a
-- body, an invariant with a formal and one that gives nothing, wrong blocks, and formals, results, temporaries, locals and imports of
-- what is not there.
wrong_routines : list_any is_formed (
    with_routine (routine (OneValue (TakesScalar digit)) [] [] (statement (Give (TakesText (Most 8)) (AText (Written 0 [])))))
    ∷ (with_routine (record same_digit { before = statement (Give (TakesScalar digit) (AScalar one)) })
    ∷ (with_routine (record store_record { handler = Handles here 0 Empty })
    ∷ (with_routine (record store_record { body = statement (Quit Absent) })
    ∷ (with_routine (record a_record { locals = Counter digit ∷ [] })
    ∷ (with_routine (record same_digit { is_invariant = true })
    ∷ (with_routine (record (routine (OneValue (TakesScalar digit)) [] [] (statement (Give (TakesScalar digit) (AScalar one)))) { is_invariant = true })
    ∷ (with_routine (routine (OneValue (TakesScalar digit)) [] [] (statement (Give (TakesScalar digit) (AScalar lost))))
    ∷ (with_routine (routine (OnePlace 5) [] [] (statement (GiveCopy 5 (lost_element End))))
    ∷ (with_routine (routine (OnePlace 5) [] [] (statement (GiveCopy 6 (whole 6))))
    ∷ (with_routine (routine (OneValue (TakesPointer 1)) [] [] Empty)
    ∷ (with_routine (routine Nothing (ByValue (TakesPointer 1) ∷ []) [] Empty)
    ∷ (with_routine (record store_record { handler = Handles here 2 wrong })
    ∷ (with_routine (record same_digit { before = wrong })
    ∷ (with_routine (record same_digit { after = wrong })
    ∷ (with_routine (record same_digit { locals = DeclaredArray [] 8 ∷ [] })
    ∷ (with_routine (routine Nothing (ByCopy (OfShape 0) ∷ []) [] Empty)
    ∷ (with_routine (routine (OnePlace 1) [] [] Empty)
    ∷ (with_routine (record same_digit { locals = Declared 8 ∷ [] })
    ∷ (with_routine (record same_digit { fixed = Global 8 ∷ [] })
    ∷ (with_routine (record same_digit { fixed_collections = 1 ∷ [] }) ∷ []))))))))))))))))))))) ≡ false
wrong_routines = refl

-- A record, an array and a union of itself, a pointer to a collection that is not there, a union whose tag is a text and one whose tag
-- is of a higher shape, and globals, a collection, a local and a temporary of a shape that is not there.
wrong_tables : list_any is_formed (
    with_shape (record_shape (8 ∷ []))
    ∷ (with_shape (array_shape (three ∷ []) 8)
    ∷ (with_shape (pointer_shape 1)
    ∷ (with_shape (union_shape 1 [])
    ∷ (record (program Empty) { shapes = shapes ++ union_shape 9 [] ∷ (scalar_shape digit ∷ []) }
    ∷ (record (program Empty) { globals = globals ++ GlobalArray [] 8 ∷ [] }
    ∷ (with_shape (union_shape 0 (record { labels = []; fields = 8 ∷ [] } ∷ []))
    ∷ (record (program Empty) { globals = globals ++ GlobalOf 8 ∷ [] }
    ∷ (record (program Empty) { collections = 5 ∷ (8 ∷ []) }
    ∷ (record (program Empty) { locals = Declared 8 ∷ [] }
    ∷ (record (program Empty) { locals = BoundName 8 ∷ [] }
    ∷ (record (program Empty) { locals = BoundArray [] 8 ∷ [] } ∷ [])))))))))))) ≡ false
wrong_tables = refl
