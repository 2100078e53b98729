-- Worked rows on texts. The units beside a row are counted from the table of units.
use Rattle.std.proofs.Common.{◌≡◌, [], ◌∷◌, ◌++◌, codes, refl}
use Rattle.std.specs.Fmt.{digits}
use Rattle.tu_base.specs.declared.kind.Kind.TheVariants as kind
use Rattle.tu_base.specs.declared.shape.Shape.TheVariants.{Text as text_shape}
use Rattle.tu_core.specs.declared.names.Variable.TheVariants.{Global}
use Rattle.tu_core.specs.declared.targets.Size.TheVariants.{Most}
use Rattle.tu_core.specs.declared.targets.Target.TheVariants.{TakesText}
use Rattle.tu_core.specs.Core.{Scalar, Length, PlaceIn, TextInt, Text, Joined, NoText, AndText, Cut, NoCut, CutCharacter, CutPart, Exactly, Last, BeforeLast, Repeat, IntText, Present, AText, NoneShown, Simply, Assign, Then, Program}
use Rattle.tu_meaning.specs.Steps.{◌>>=◌, give, raise, stop, lost, look, change, consult, pay, happen, note, turn, take_room, scope, handled}
use Rattle.tu_meaning.specs.Meaning.{Ends, Stops}
use Rattle.tu_meaning.proofs.rows.Making.{within, comes, line, on, int, plus, global, show, text, show_text, put, var, program, simple, only}
use Rattle.tu_core.specs.Rooms.{main_room}
use Rattle.tu_base.specs.Shapes.{all_words}

-- a program that puts one text, or one int
abbrev puts : Text → Program
puts e = simple [] [] (only (put 1 (show_text e NoneShown)))

abbrev puts_int : Scalar → Program
puts_int e = simple [] [] (only (put 1 (show e NoneShown)))

-- put "abc" (2 .. *)
-- The statement, the literal, the part, 2 and `*` are 5; the part costs its three bytes and the two that it gives; it is written, 2, and put, 2,
-- and the line end 1.
row_part : within 9 (puts (Cut 0 (text (codes "abc")) (CutPart (Exactly (int 2)) Last NoCut))) [] ≡ comes (line (codes "bc")) Ends 15
unfolding ◌>>=◌ give raise stop lost look change consult pay happen note turn take_room scope handled digits
row_part = refl

-- put "abc" (0)
row_no_place : within 9 (puts (Cut 0 (text (codes "abc")) (CutCharacter (Exactly (int 0)) NoCut))) [] ≡ comes [] (Stops kind.StringPlace 1) 4
unfolding ◌>>=◌ give raise stop lost look change consult pay happen note turn take_room scope handled digits
row_no_place = refl

-- put length (repeat ("x", 255) + "y")
-- the statement, `length`, `+`, `repeat` and its two literals are 6, the repeating 1 + 255, the last literal 1
row_too_long : within 9 (puts_int (Length 0 (Joined 0 (Repeat 0 (text (codes "x")) (int 255)) (AndText (text (codes "y")) NoText)))) [] ≡ comes [] (Stops kind.StringSize 1) 263
unfolding ◌>>=◌ give raise stop lost look change consult pay happen note turn take_room scope handled digits
row_too_long = refl

-- put index ("banana", "nan"), " ", strint ("-12") + 2
-- put intstr (5, 4) + "|"
abbrev searched : Program
searched = simple [] [] (Then (put 1 (show (PlaceIn 0 (text (codes "banana")) (text (codes "nan"))) (show_text (text (codes " ")) (show (plus (TextInt 0 (text (codes "-12"))) (int 2)) NoneShown))))
    (only (put 2 (show_text (Joined 0 (IntText 0 (int 5) (Present (int 4))) (AndText (text (codes "|")) NoText)) NoneShown))))

-- Line 1: the statement; 3 nodes, 6 * (3 + 1), 32 and a byte; the blank 3; 4 nodes, 32, 32 and three bytes; the line end. Line 2: the statement,
-- `+`, `intstr` and its two literals 5, 32, the literal 1, the bytes of both operands and of what they give 10, five bytes written and five put,
-- the line end.
row_searched : within 9 searched [] ≡ comes (line (codes "3 -10") ++ line (codes "   5|")) Ends 195
unfolding ◌>>=◌ give raise stop lost look change consult pay happen note turn take_room scope handled digits
row_searched = refl

-- 64, 12 for each of 15 nodes, and 65 words for each of two texts: that of `intstr`, and that of `+`
room_searched : main_room (all_words searched.shapes) searched ≡ 374
room_searched = refl

-- put strint ("1x")
-- the statement, `strint` and the literal, and 32 though it raises
row_no_number : within 9 (puts_int (TextInt 0 (text (codes "1x")))) [] ≡ comes [] (Stops kind.Range 1) 35
unfolding ◌>>=◌ give raise stop lost look change consult pay happen note turn take_room scope handled digits
row_no_number = refl

-- put "abc" (* - 1)
-- the statement, the literal, the selector, `*`, `-` and 1 are 6, the character 3 + 1, written 1, put 1, the line end 1
row_before_last : within 9 (puts (Cut 0 (text (codes "abc")) (CutCharacter (BeforeLast (int 1)) NoCut))) [] ≡ comes (line (codes "b")) Ends 13
unfolding ◌>>=◌ give raise stop lost look change consult pay happen note turn take_room scope handled digits
row_before_last = refl

-- put "abc" (4 .. 3)
-- an empty part behind the last place: 5 nodes and the bytes of the operand, then the line end
row_empty_part : within 9 (puts (Cut 0 (text (codes "abc")) (CutPart (Exactly (int 4)) (Exactly (int 3)) NoCut))) [] ≡ comes (line []) Ends 9
unfolding ◌>>=◌ give raise stop lost look change consult pay happen note turn take_room scope handled digits
row_empty_part = refl

-- var s : string (2)
-- s := "abc"
-- The name and two words 3; the statement, the path and the literal 3.
row_too_long_for_it : within 9 (program (text_shape 2 ∷ []) (0 ∷ []) [] (var 1 0 (Global 0 ∷ []) (only (Simply (on 2) (Assign (TakesText (Most 2)) (global 0) (AText (text (codes "abc")))))))) [] ≡ comes [] (Stops kind.StringSize 2) 6
unfolding ◌>>=◌ give raise stop lost look change consult pay happen note turn take_room scope handled digits
row_too_long_for_it = refl
