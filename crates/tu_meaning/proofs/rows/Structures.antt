-- Worked rows on arrays, records, unions and sets. The units beside a row are counted from the table of units.
use Rattle.std.proofs.Common.{◌≡◌, ℕ, true, [], ◌∷◌, Some, None, codes, refl}
use Rattle.std.specs.Prelude.{pos}
use Rattle.std.specs.Fmt.{digits}
use Rattle.tu_base.specs.Sets.{Base}
use Rattle.tu_base.specs.declared.kind.Kind.TheVariants as kind
use Rattle.tu_base.specs.declared.shape.Shape.TheVariants.{Scalar as scalar_shape, Array, Record, Union, Set as set_shape}
use Rattle.tu_base.specs.declared.operator.Binary.TheVariants.{Divide}
use Rattle.tu_base.specs.declared.operator.Combination.TheVariants.{Union as joined, Difference}
use Rattle.tu_core.specs.declared.names.Variable.TheVariants.{Global}
use Rattle.tu_core.specs.declared.names.GlobalName.TheVariants.{GlobalOf, GlobalArray}
use Rattle.tu_core.specs.declared.targets.Index.TheVariants.{Open}
use Rattle.tu_core.specs.declared.targets.Target.TheVariants.{TakesScalar, TakesSet}
use Rattle.tu_core.specs.Core.{Path, Scalar, Selectors, Bound, Member, Set, SetOf, UseSet, Combined, NoSet, AndSet, NoScalar, AndScalar, End, Field, VariantField, Item, NoSubscript, Subscript, Absent, WithValue, WithParts, AndStart, NoStart, AScalar, ASet, NoneShown, ShowTruth, Simply, Assign, Copy, Tag, Declare, Arrays, Empty, Then, Program}
use Rattle.tu_meaning.specs.Steps.{◌>>=◌, give, raise, stop, lost, look, change, consult, pay, happen, note, turn, take_room, scope, handled}
use Rattle.tu_meaning.specs.Meaning.{Ends, Stops}
use Rattle.tu_meaning.proofs.rows.Making.{within, comes, line, on, span, int_shape, int, number, calculated, global, global_at, item_at, show, text, show_text, put, set, var, var_from, from, program, simple, only}
use Rattle.tu_core.specs.Rooms.{main_room}
use Rattle.tu_base.specs.Shapes.{all_words}

-- var u : union t : 1 .. 2 of
--   label 1 : a : int
--   label 2 : b : int
-- end union
-- tag u, TAG
-- put u.a
abbrev tagged : (tag : ℕ) → Program
tagged tag = program (int_shape ∷ (scalar_shape (span 1 2) ∷ (Union 1 (record { labels = pos 1 ∷ []; fields = 0 ∷ [] } ∷ (record { labels = pos 2 ∷ []; fields = 0 ∷ [] } ∷ [])) ∷ []))) (2 ∷ []) []
    (var 1 2 (Global 0 ∷ []) (Then (Simply (on 5) (Tag 2 (global 0) (int tag))) (only (put 6 (show (number (global_at 0 (VariantField 2 1 End))) NoneShown)))))

-- The name and two words 3, `tag` with its path and its value 3 and two words, the statement, the name and the selector 3.
row_other_variant : within 9 (tagged 2) [] ≡ comes [] (Stops kind.Tag 6) 11
unfolding ◌>>=◌ give raise stop lost look change consult pay happen note turn take_room scope handled digits
row_other_variant = refl

row_unset_field : within 9 (tagged 1) [] ≡ comes [] (Stops kind.Unset 6) 11
unfolding ◌>>=◌ give raise stop lost look change consult pay happen note turn take_room scope handled digits
row_unset_field = refl

-- a value outside the type of the tag: it is tested before anything changes
row_no_tag : within 9 (tagged 3) [] ≡ comes [] (Stops kind.Range 5) 6
unfolding ◌>>=◌ give raise stop lost look change consult pay happen note turn take_room scope handled digits
row_no_tag = refl

-- var n : int := COUNT
-- var a : array 1 .. n of int
-- put upper (a)
abbrev bounded : (count : ℕ) → Program
bounded count = record (simple [] [] (var_from 1 0 (Global 0 ∷ []) (from (int count)) (Declare (on 2) (Arrays (Global 1 ∷ []) (Open (pos 1) ∷ []) 0 (AndScalar (number (global 0)) NoScalar))
    (only (put 3 (show (Bound 0 true (Open (pos 1) ∷ []) (global 1) Absent) NoneShown)))))) { globals = GlobalOf 0 ∷ (GlobalArray (Open (pos 1) ∷ []) 0 ∷ []) }

-- Line 1: 3. Line 2: the name and the bound 2, two words of its own and three of its elements. Line 3: 3 nodes, 32, two bytes.
row_bounded : within 9 (bounded 3) [] ≡ comes (line (codes "3")) Ends 47
unfolding ◌>>=◌ give raise stop lost look change consult pay happen note turn take_room scope handled digits
row_bounded = refl

-- 64, and 12 for each of 7 nodes
room_bounded : main_room (all_words (bounded 3).shapes) (bounded 3) ≡ 148
room_bounded = refl

row_below_its_lower : within 9 (bounded 0) [] ≡ comes [] (Stops kind.Bounds 2) 5
unfolding ◌>>=◌ give raise stop lost look change consult pay happen note turn take_room scope handled digits
row_below_its_lower = refl

-- put upper (a)
-- var a : array 1 .. n of int
-- A run-time array has no elements until its declaration: 3 nodes, 32, two bytes.
row_not_declared : within 9 (record (simple [] [] (only (put 1 (show (Bound 0 true (Open (pos 1) ∷ []) (global 0) Absent) NoneShown)))) { globals = GlobalArray (Open (pos 1) ∷ []) 0 ∷ [] }) [] ≡ comes (line (codes "0")) Ends 37
unfolding ◌>>=◌ give raise stop lost look change consult pay happen note turn take_room scope handled digits
row_not_declared = refl

-- var m : array 1 .. 2, 1 .. 3 of int
-- m (2, 1) := 8
-- put m (2, 1)
-- put m (1, 4)
abbrev matrix : Program
matrix = program (int_shape ∷ (Array (span 1 2 ∷ (span 1 3 ∷ [])) 0 ∷ [])) (1 ∷ []) []
    (var 1 1 (Global 0 ∷ []) (Then (set 2 (global_at 0 (at 2 1)) (int 8)) (Then (put 3 (show (number (global_at 0 (at 2 1))) NoneShown)) (only (put 4 (show (number (global_at 0 (at 1 4))) NoneShown))))))
  where
    at : (i j : ℕ) → Selectors
    at i j = Item 1 (Subscript (Some (pos i)) (int i) (Subscript (Some (pos j)) (int j) NoSubscript)) End

-- Line 1: the name and six words. Line 2: the statement, a path of 4, a literal. Line 3: 5 nodes, 32, two bytes. Line 4: 5 nodes. Each
-- subscript is tested in its own dimension.
row_matrix : within 9 matrix [] ≡ comes (line (codes "8")) (Stops kind.Subscript 4) 57
unfolding ◌>>=◌ give raise stop lost look change consult pay happen note turn take_room scope handled digits
row_matrix = refl

-- var m : array 1 .. 2, 1 .. 3 of int
-- put m (0, 7 div 0)
-- the subscripts of one bracket are all evaluated before they are tested
row_one_bracket : within 9 (program (int_shape ∷ (Array (span 1 2 ∷ (span 1 3 ∷ [])) 0 ∷ [])) (1 ∷ []) []
    (var 1 1 (Global 0 ∷ []) (only (put 2 (show (number (global_at 0 (Item 1 (Subscript (Some (pos 0)) (int 0) (Subscript None (calculated Divide (int 7) (int 0)) NoSubscript)) End))) NoneShown))))) [] ≡ comes [] (Stops kind.Divide 2) 14
unfolding ◌>>=◌ give raise stop lost look change consult pay happen note turn take_room scope handled digits
row_one_bracket = refl

-- var m : array 1 .. 2 of array 1 .. 3 of int
-- put m (0) (7 div 0)
-- a selector is tested before the next one is evaluated
row_two_brackets : within 9 (program (int_shape ∷ (Array (span 1 3 ∷ []) 0 ∷ (Array (span 1 2 ∷ []) 1 ∷ []))) (2 ∷ []) []
    (var 1 2 (Global 0 ∷ []) (only (put 2 (show (number (global_at 0 (Item 2 (Subscript (Some (pos 0)) (int 0) NoSubscript) (item_at 1 (calculated Divide (int 7) (int 0)))))) NoneShown))))) [] ≡ comes [] (Stops kind.Subscript 2) 11
unfolding ◌>>=◌ give raise stop lost look change consult pay happen note turn take_room scope handled digits
row_two_brackets = refl

-- type R : record
--   x : int
--   y : int
-- end record
-- var r : R
-- var s : R
-- r.x := 4
-- s := r
-- r.x := 5
-- put s.x
-- put s.y
abbrev copied : Program
copied = program (int_shape ∷ (Record (0 ∷ (0 ∷ [])) ∷ [])) (1 ∷ (1 ∷ [])) []
    (var 5 1 (Global 0 ∷ []) (var 6 1 (Global 1 ∷ []) (Then (set 7 (global_at 0 (Field 1 0 End)) (int 4)) (Then (Simply (on 8) (Copy 1 (global 1) (global 0)))
    (Then (set 9 (global_at 0 (Field 1 0 End)) (int 5)) (Then (put 10 (show (number (global_at 1 (Field 1 0 End))) NoneShown)) (only (put 11 (show (number (global_at 1 (Field 1 1 End))) NoneShown)))))))))

-- Lines 5 and 6: 3 each. Line 7: 4. Line 8: 3 nodes and two words. Line 9: 4. Line 10: 3 nodes, 32, two bytes. Line 11: 3. The copy has what r
-- had, its unset part too.
row_copied : within 9 copied [] ≡ comes (line (codes "4")) (Stops kind.Unset 11) 59
unfolding ◌>>=◌ give raise stop lost look change consult pay happen note turn take_room scope handled digits
row_copied = refl

-- var a : array 1 .. 2 of 1 .. 3 := init (4, 7 div 0)
-- each part of an `init` is tested before the next one is evaluated: the name and its words 3, `init` and the literal
row_part_of_init : within 9 (program (scalar_shape (span 1 3) ∷ (Array (span 1 2 ∷ []) 0 ∷ [])) (1 ∷ []) []
    (var_from 1 1 (Global 0 ∷ []) (WithParts 1 (AndStart (WithValue (TakesScalar (span 1 3)) (AScalar (int 4))) (AndStart (WithValue (TakesScalar (span 1 3)) (AScalar (calculated Divide (int 7) (int 0)))) NoStart))) Empty)) [] ≡ comes [] (Stops kind.Range 1) 5
unfolding ◌>>=◌ give raise stop lost look change consult pay happen note turn take_room scope handled digits
row_part_of_init = refl

abbrev five : Base
five = record { low = pos 1; members = 5 }

-- type S : set of 1 .. 5
-- var s : S := S (1, 3)
-- s := s + S (5) - S (1)
-- put 3 in s, " ", 1 in s
abbrev members : Program
members = program (set_shape (pos 1) 5 ∷ []) (0 ∷ []) []
    (var_from 2 0 (Global 0 ∷ []) (WithValue (TakesSet five) (ASet (SetOf 0 five (AndScalar (int 1) (AndScalar (int 3) NoScalar)))))
    (Then (Simply (on 3) (Assign (TakesSet five) (global 0) (ASet (Combined 0 five (UseSet 0 (global 0)) (AndSet joined (one 5) (AndSet Difference (one 1) NoSet))))))
    (only (put 4 (ShowTruth (is_in 3) Absent (show_text (text (codes " ")) (ShowTruth (is_in 1) Absent NoneShown)))))))
  where
    one : ℕ → Set
    one n = SetOf 0 five (AndScalar (int n) NoScalar)

    is_in : ℕ → Scalar
    is_in n = Member 0 true five (int n) (UseSet 0 (global 0))

-- Line 2: the name and two words 3; the set value 3 nodes and two words; a copy of two words. Line 3: the statement and the path 2, two operators
-- and s 3, two set values of 2 nodes and two words, two operations of two words, a copy of two. Line 4: the statement; 3 nodes, two words and
-- four bytes; the blank 3; 3 nodes, two words and five bytes; the line end.
row_members : within 9 members [] ≡ comes (line (codes "true false")) Ends 53
unfolding ◌>>=◌ give raise stop lost look change consult pay happen note turn take_room scope handled digits
row_members = refl

-- type S : set of 1 .. 5
-- put 1 in S (6, 7 div 0)
-- each member is tested before the next one is evaluated: the statement, `in`, 1, the set value, 6
row_member_outside : within 9 (simple [] [] (only (put 2 (ShowTruth (Member 0 true five (int 1) (SetOf 0 five (AndScalar (int 6) (AndScalar (calculated Divide (int 7) (int 0)) NoScalar)))) Absent NoneShown)))) [] ≡ comes [] (Stops kind.Range 2) 5
unfolding ◌>>=◌ give raise stop lost look change consult pay happen note turn take_room scope handled digits
row_member_outside = refl

-- type R : record
--   x : int
--   y : int
-- end record
-- var a : array 1 .. 2 of R
-- a (2).x := 5
-- a (1) := a (2)
-- put a (1).x
-- put a (1).y
abbrev nested : Program
nested = program (int_shape ∷ (Record (0 ∷ (0 ∷ [])) ∷ (Array (span 1 2 ∷ []) 1 ∷ []))) (2 ∷ []) []
    (var 5 2 (Global 0 ∷ []) (Then (set 6 (at 2 (Field 1 0 End)) (int 5)) (Then (Simply (on 7) (Copy 1 (at 1 End) (at 2 End)))
    (Then (put 8 (show (number (at 1 (Field 1 0 End))) NoneShown)) (only (put 9 (show (number (at 1 (Field 1 1 End))) NoneShown)))))))
  where
    at : ℕ → Selectors → Path
    at n more = global_at 0 (Item 2 (Subscript (Some (pos n)) (int n) NoSubscript) more)

-- Line 5: the name and four words. Line 6: the statement, a path of 4, a literal. Line 7: the statement, two paths of 3, two words. Line 8: 5 nodes,
-- 32, two bytes. Line 9: 5.
row_nested : within 9 nested [] ≡ comes (line (codes "5")) (Stops kind.Unset 9) 64
unfolding ◌>>=◌ give raise stop lost look change consult pay happen note turn take_room scope handled digits
row_nested = refl
