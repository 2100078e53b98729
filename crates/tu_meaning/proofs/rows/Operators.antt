-- Worked rows on operators and widths, each of one or two lines. The units beside a row are counted from the table of units.
use Rattle.std.proofs.Common.{◌≡◌, ℕ, Bool, true, false, [], ◌∷◌, codes, refl}
use Rattle.std.specs.Prelude.{pos}
use Rattle.std.specs.Fmt.{digits}
use Rattle.tu_base.specs.Sets.{Base}
use Rattle.tu_base.specs.declared.kind.Kind.TheVariants as kind
use Rattle.tu_base.specs.declared.shape.Shape.TheVariants.{Scalar as scalar_shape, Array, Union}
use Rattle.tu_base.specs.declared.operator.Relation.TheVariants.{Equal, Less, LessOrEqual}
use Rattle.tu_base.specs.declared.operator.Unary.TheVariants.{Plus, Absolute, Successor, Next, Previous}
use Rattle.tu_base.specs.declared.operator.Binary.TheVariants.{Divide, Power, Least, Greatest}
use Rattle.tu_base.specs.declared.operator.Junction.{Junction}
use Rattle.tu_base.specs.declared.operator.Junction.TheVariants.{Or, Implies}
use Rattle.tu_core.specs.declared.names.Variable.TheVariants.{Global}
use Rattle.tu_core.specs.declared.targets.Index.TheVariants.{Known}
use Rattle.tu_core.specs.Core.{Scalar, Prefixed, Chain, NoLink, Decide, CompareTexts, CompareSets, Bound, AtEnd, Character, SetOf, NoScalar, AndScalar, Field, VariantField, End, Absent, Present, Shown, NoneShown, ShowInt, ShowText, ShowTruth, Simply, Tag, Close, Block, Then, Program}
use Rattle.tu_meaning.specs.Steps.{◌>>=◌, give, raise, stop, lost, look, change, consult, pay, happen, note, turn, take_room, scope, handled}
use Rattle.tu_meaning.specs.Meaning.{Ends, Stops}
use Rattle.tu_meaning.proofs.rows.Making.{Seen, within, comes, bytes, line, on, span, int_shape, int, minus, number, calculated, compare, global, global_at, show, text, show_text, put, set, var, program, simple, only}

-- what is seen of one `put`
abbrev puts : Shown → Seen
puts shown = within 9 (simple [] [] (only (put 1 shown))) []

abbrev puts_int : Scalar → Seen
puts_int e = puts (show e NoneShown)

abbrev puts_truth : Scalar → Seen
puts_truth e = puts (ShowTruth e Absent NoneShown)

-- put 2 ** 10
-- 4 nodes, 32 for the power, 32 for its text, four bytes and the line end
row_power : puts_int (calculated Power (int 2) (int 10)) ≡ comes (line (codes "1024")) Ends 73
unfolding ◌>>=◌ give raise stop lost look change consult pay happen note turn take_room scope handled digits
row_power = refl

-- put 0 ** 0
row_power_of_none : puts_int (calculated Power (int 0) (int 0)) ≡ comes (line (codes "1")) Ends 70
unfolding ◌>>=◌ give raise stop lost look change consult pay happen note turn take_room scope handled digits
row_power_of_none = refl

-- put 2 ** 31, and put 2 ** (-1): the power is paid where it raises
row_power_too_large : puts_int (calculated Power (int 2) (int 31)) ≡ comes [] (Stops kind.Overflow 1) 36
unfolding ◌>>=◌ give raise stop lost look change consult pay happen note turn take_room scope handled digits
row_power_too_large = refl

row_power_below_none : puts_int (calculated Power (int 2) (minus (int 1))) ≡ comes [] (Stops kind.Range 1) 37
unfolding ◌>>=◌ give raise stop lost look change consult pay happen note turn take_room scope handled digits
row_power_below_none = refl

-- put true : 6, "ab" : 4, 5 : 3
-- The statement; 2 nodes and six bytes; 2 nodes, two bytes written and four put; 2 nodes, 32 and three bytes; the line end. Ints have blanks before
-- them, all else behind.
row_widths : puts (ShowTruth (int 1) (Present (int 6)) (ShowText (text (codes "ab")) (Present (int 4)) (ShowInt (int 5) (Present (int 3)) NoneShown))) ≡ comes (line (codes "true  ab    5")) Ends 55
unfolding ◌>>=◌ give raise stop lost look change consult pay happen note turn take_room scope handled digits
row_widths = refl

-- put 1 : 256
row_too_wide : puts (ShowInt (int 1) (Present (int 256)) NoneShown) ≡ comes [] (Stops kind.Range 1) 3
unfolding ◌>>=◌ give raise stop lost look change consult pay happen note turn take_room scope handled digits
row_too_wide = refl

-- put "ab" < "abc"
-- 4 nodes, the five bytes of the operands, four bytes and the line end
row_prefix_first : puts_truth (CompareTexts 0 Less (text (codes "ab")) (text (codes "abc"))) ≡ comes (line (codes "true")) Ends 14
unfolding ◌>>=◌ give raise stop lost look change consult pay happen note turn take_room scope handled digits
row_prefix_first = refl

-- put chr (65), and put chr (256)
row_character : puts (show_text (Character 0 (int 65)) NoneShown) ≡ comes (line (codes "A")) Ends 6
unfolding ◌>>=◌ give raise stop lost look change consult pay happen note turn take_room scope handled digits
row_character = refl

row_no_character : puts (show_text (Character 0 (int 256)) NoneShown) ≡ comes [] (Stops kind.Range 1) 3
unfolding ◌>>=◌ give raise stop lost look change consult pay happen note turn take_room scope handled digits
row_no_character = refl

-- put true or 1 div 0 = 1, and put false => 1 div 0 = 1
-- the left side decides: the statement, the operator, the literal, four bytes and the line end
abbrev beside_fault : Junction → (left : ℕ) → Scalar
beside_fault junction left = Chain 0 (int left) (Decide junction (compare Equal (calculated Divide (int 1) (int 0)) (int 1)) NoLink)

row_or : puts_truth (beside_fault Or 1) ≡ comes (line (codes "true")) Ends 8
unfolding ◌>>=◌ give raise stop lost look change consult pay happen note turn take_room scope handled digits
row_or = refl

row_implies : puts_truth (beside_fault Implies 0) ≡ comes (line (codes "true")) Ends 8
unfolding ◌>>=◌ give raise stop lost look change consult pay happen note turn take_room scope handled digits
row_implies = refl

-- put true => false
row_implies_right : puts_truth (Chain 0 (int 1) (Decide Implies (int 0) NoLink)) ≡ comes (line (codes "false")) Ends 10
unfolding ◌>>=◌ give raise stop lost look change consult pay happen note turn take_room scope handled digits
row_implies_right = refl

-- put abs (-7)
row_absolute : puts_int (Prefixed 0 (Absolute ∷ []) (minus (int 7))) ≡ comes (line (codes "7")) Ends 38
unfolding ◌>>=◌ give raise stop lost look change consult pay happen note turn take_room scope handled digits
row_absolute = refl

-- put min (3, 2), max (3, 2)
row_least : puts (show (calculated Least (int 3) (int 2)) (show (calculated Greatest (int 3) (int 2)) NoneShown)) ≡ comes (line (codes "23")) Ends 74
unfolding ◌>>=◌ give raise stop lost look change consult pay happen note turn take_room scope handled digits
row_least = refl

-- type D : enum (a, b)
-- put ord (succ (D.b)), and put ord (pred (D.b)): Range at the end of an enumeration
row_after_last : puts_int (Prefixed 0 (Plus ∷ (Next 1 ∷ [])) (int 1)) ≡ comes [] (Stops kind.Range 1) 4
unfolding ◌>>=◌ give raise stop lost look change consult pay happen note turn take_room scope handled digits
row_after_last = refl

row_before_last : puts_int (Prefixed 0 (Plus ∷ (Previous 1 ∷ [])) (int 1)) ≡ comes (line (codes "0")) Ends 38
unfolding ◌>>=◌ give raise stop lost look change consult pay happen note turn take_room scope handled digits
row_before_last = refl

-- put succ (2147483647): Overflow at the end of the ints
row_after_largest : puts_int (Prefixed 0 (Successor ∷ []) (int 2147483647)) ≡ comes [] (Stops kind.Overflow 1) 3
unfolding ◌>>=◌ give raise stop lost look change consult pay happen note turn take_room scope handled digits
row_after_largest = refl

abbrev five : Base
five = record { low = pos 1; members = 5 }

-- type S : set of 1 .. 5
-- put S (1) <= S (1, 2)
-- The statement and the operator, a set value of 2 nodes and two words, one of 3 and two, two words compared, four bytes, the line end.
row_subset : puts_truth (CompareSets 0 LessOrEqual five (SetOf 0 five (AndScalar (int 1) NoScalar)) (SetOf 0 five (AndScalar (int 1) (AndScalar (int 2) NoScalar)))) ≡ comes (line (codes "true")) Ends 18
unfolding ◌>>=◌ give raise stop lost look change consult pay happen note turn take_room scope handled digits
row_subset = refl

abbrev bound : (is_upper : Bool) → (dimension : ℕ) → Scalar
bound is_upper dimension = Bound 0 is_upper (Known (span 1 2) ∷ (Known (span 0 3) ∷ [])) (global 0) (Present (int dimension))

-- var m : array 1 .. 2, 0 .. 3 of int
-- put upper (m, 2), lower (m, 2), upper (m, 3)
-- Line 1: the name and eight words. Line 2: the statement, twice 3 nodes, 32 and a byte, then 3 nodes.
row_dimensions : within 9 (program (int_shape ∷ (Array (span 1 2 ∷ (span 0 3 ∷ [])) 0 ∷ [])) (1 ∷ []) [] (var 1 1 (Global 0 ∷ []) (only (put 2 (show (bound true 2) (show (bound false 2) (show (bound true 3) NoneShown))))))) [] ≡ comes (bytes (codes "30")) (Stops kind.Subscript 2) 85
unfolding ◌>>=◌ give raise stop lost look change consult pay happen note turn take_room scope handled digits
row_dimensions = refl

abbrev variants : (tag : ℕ) → Block → Program
variants tag more = program (int_shape ∷ (scalar_shape (span 1 4) ∷ (Union 1 (record { labels = pos 1 ∷ (pos 2 ∷ []); fields = 0 ∷ [] } ∷ (record { labels = pos 2 ∷ (pos 3 ∷ []); fields = 0 ∷ [] } ∷ (record { labels = []; fields = 0 ∷ [] } ∷ []))) ∷ []))) (2 ∷ []) []
    (var 1 2 (Global 0 ∷ []) (Then (Simply (on 6) (Tag 2 (global 0) (int tag))) more))

-- var u : union t : 1 .. 4 of
--   label 1, 2 : a : int
--   label 2, 3 : b : int
--   label : c : int
-- end union
-- tag u, 2
-- u.a := 5
-- put u.a, " ", u.t
-- u.b := 1
-- A label belongs to the first variant that has it. Line 1: 3. Line 6: 3 nodes and two words. Line 7: 4. Line 8: the statement, 2 nodes, 32 and a byte,
-- the blank 3, 2 nodes, 32 and a byte, the line end. Line 9: 3.
row_first_label : within 9 (variants 2 (Then (set 7 (global_at 0 (VariantField 2 1 End)) (int 5)) (Then (put 8 (show (number (global_at 0 (VariantField 2 1 End))) (show_text (text (codes " ")) (show (number (global_at 0 (Field 2 0 End))) NoneShown)))) (only (set 9 (global_at 0 (VariantField 2 2 End)) (int 1)))))) [] ≡ comes (line (codes "5 2")) (Stops kind.Tag 9) 90
unfolding ◌>>=◌ give raise stop lost look change consult pay happen note turn take_room scope handled digits
row_first_label = refl

-- with tag u, 4, u.c := 6 and put u.c: the variant without labels has all that remain
row_no_label : within 9 (variants 4 (Then (set 7 (global_at 0 (VariantField 2 3 End)) (int 6)) (only (put 8 (show (number (global_at 0 (VariantField 2 3 End))) NoneShown))))) [] ≡ comes (line (codes "6")) Ends 49
unfolding ◌>>=◌ give raise stop lost look change consult pay happen note turn take_room scope handled digits
row_no_label = refl

-- put eof (3), and close : 3: no stream has that number
row_end_of_no_stream : puts_truth (AtEnd 0 (on 1) (Present (int 3))) ≡ comes [] (Stops kind.Stream 1) 3
unfolding ◌>>=◌ give raise stop lost look change consult pay happen note turn take_room scope handled digits
row_end_of_no_stream = refl

-- 2 nodes, and the 64 of `close`
row_close_no_stream : within 9 (simple [] [] (only (Simply (on 1) (Close (int 3))))) [] ≡ comes [] (Stops kind.Stream 1) 66
unfolding ◌>>=◌ give raise stop lost look change consult pay happen note turn take_room scope handled digits
row_close_no_stream = refl
