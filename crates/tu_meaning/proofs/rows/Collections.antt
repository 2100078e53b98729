-- Worked rows on collections. The units beside a row are counted from the table of units.
use Rattle.std.proofs.Common.{None, ◌≡◌, ℕ, true, [], ◌∷◌, codes, refl}
use Rattle.std.specs.Fmt.{digits}
use Rattle.tu_base.specs.declared.kind.Kind.TheVariants as kind
use Rattle.tu_base.specs.declared.shape.Shape.TheVariants.{Array, Record, Pointer as pointer_shape}
use Rattle.tu_core.specs.declared.names.Variable.TheVariants.{Global}
use Rattle.tu_core.specs.declared.names.Formal.TheVariants.{ByValue}
use Rattle.tu_core.specs.declared.targets.Target.TheVariants.{TakesPointer}
use Rattle.tu_core.specs.Core.{Given, WithValue, Scalar, ComparePointers, Pointer, Nil, UsePointer, Path, Element, Selectors, End, Field, Absent, APointer, NoneShown, ShowTruth, NoActual, Statement, Simply, Assign, New, Free, Declare, Collections, Empty, Then, Program}
use Rattle.tu_meaning.specs.Steps.{Began, LimitPassed, ◌>>=◌, give, raise, stop, lost, look, change, consult, pay, happen, note, turn, take_room, scope, handled}
use Rattle.tu_meaning.specs.Meaning.{Ends, Stops}
use Rattle.tu_meaning.proofs.rows.Making.{plus, no_files, local, item_at, var_from, from, within, comes, line, on, span, int_shape, int, number, global, global_at, item, show, text, show_text, put, set, call, lent, procedure, by_var, var, program, only}
use Rattle.tu_meaning.specs.Programs.{meaning}

abbrev pointer : (global : ℕ) → Pointer
pointer x = UsePointer 0 (global x)

abbrev at_pointer : (global : ℕ) → Selectors → Path
at_pointer x steps = Element (on 0) 0 (pointer x) steps

abbrev new : (line : ℕ) → Path → Statement
new n p = Simply (on n) (New 0 (on n) p)

abbrev free : (line : ℕ) → Path → Statement
free n p = Simply (on n) (Free 0 (on n) p)

abbrev set_pointer : (line : ℕ) → Path → Pointer → Statement
set_pointer n p e = Simply (on n) (Assign (TakesPointer 0) p (APointer e))

-- a program with one collection, by the shape of its elements
abbrev with_elements : (shape : ℕ) → Program → Program
with_elements shape p = record p { collections = shape ∷ []; main = Declare (on 1) (Collections (0 ∷ [])) p.main }

-- var C : collection of
--   record
--     n : int
--     next : pointer to C
--   end record
-- var p, q, r : pointer to C
-- new C, p
-- C (p).n := 1
-- q := p
-- free C, p
-- new C, r
-- put C (q).n
abbrev dead : Program
dead = with_elements 2 (program (int_shape ∷ (pointer_shape 0 ∷ (Record (0 ∷ (1 ∷ [])) ∷ []))) (1 ∷ (1 ∷ (1 ∷ []))) []
    (var 6 1 (Global 0 ∷ (Global 1 ∷ (Global 2 ∷ []))) (Then (new 7 (global 0)) (Then (set 8 (at_pointer 0 (Field 2 0 End)) (int 1)) (Then (set_pointer 9 (global 1) (pointer 0))
    (Then (free 10 (global 0)) (Then (new 11 (global 2)) (only (put 12 (show (number (at_pointer 1 (Field 2 0 End))) NoneShown))))))))))

-- It would fail if a pointer's test asked only whether the cell is in use. Line 1: the name. Line 6: three names and two words each. Line 7: 3
-- nodes and three words. Line 8: the statement, a path of 4, a literal. Line 9: 3 nodes and two words. Line 10: 3. Line 11: 6. Line 12: the
-- statement, C, its selector, q.
row_dead : within 9 dead [] ≡ comes [] (Stops kind.Pointer 12) 40
unfolding ◌>>=◌ give raise stop lost look change consult pay happen note turn take_room scope handled digits
row_dead = refl

-- var C : collection of array 1 .. SIZE of int
-- var p : pointer to C
-- new C, p
-- new C, p
abbrev two_of : (size : ℕ) → Program
two_of size = with_elements 1 (program (int_shape ∷ (Array (span 1 size ∷ []) 0 ∷ (pointer_shape 0 ∷ []))) (2 ∷ []) [] (var 2 2 (Global 0 ∷ []) (Then (new 3 (global 0)) (only (new 4 (global 0))))))

-- Two elements take 2 * (2097150 + 2) = 4194304 words, which is the limit. It would fail if Storage came one element early. The name 1, the name
-- and its words 3, and twice 3 nodes and the words.
row_full : within 9 (two_of 2097150) [] ≡ comes [] Ends 4194310
unfolding ◌>>=◌ give raise stop lost look change consult pay happen note turn take_room scope handled digits
row_full = refl

-- with a word more the second element does not fit: 1 + 3, 3 + 2097151, 3
row_past_full : within 9 (two_of 2097151) [] ≡ comes [] (Stops kind.Storage 4) 2097161
unfolding ◌>>=◌ give raise stop lost look change consult pay happen note turn take_room scope handled digits
row_past_full = refl

-- var C : collection of array 1 .. 4194302 of int
-- var p : pointer to C
-- new C, p
-- free C, p
-- new C, p
-- One element takes all of the heap. What is freed is used again: no more than one lives at once.
row_used_again : within 9 (with_elements 1 (program (int_shape ∷ (Array (span 1 4194302 ∷ []) 0 ∷ (pointer_shape 0 ∷ []))) (2 ∷ []) [] (var 2 2 (Global 0 ∷ []) (Then (new 3 (global 0)) (Then (free 4 (global 0)) (only (new 5 (global 0)))))))) [] ≡ comes [] Ends 8388617
unfolding ◌>>=◌ give raise stop lost look change consult pay happen note turn take_room scope handled digits
row_used_again = refl

-- var C : collection of int
-- var p, q : pointer to C
-- new C, p
-- q := p
-- free C, p
-- put p = nil (C), " ", q = nil (C)
-- free C, q
abbrev freed : Program
freed = with_elements 0 (program (int_shape ∷ (pointer_shape 0 ∷ [])) (1 ∷ (1 ∷ [])) []
    (var 2 1 (Global 0 ∷ (Global 1 ∷ [])) (Then (new 3 (global 0)) (Then (set_pointer 4 (global 1) (pointer 0)) (Then (free 5 (global 0))
    (Then (put 6 (ShowTruth (is_nil 0) Absent (show_text (text (codes " ")) (ShowTruth (is_nil 1) Absent NoneShown)))) (only (free 7 (global 1)))))))))
  where
    is_nil : ℕ → Scalar
    is_nil x = ComparePointers 0 true (pointer x) (Nil 0 (on 6) 0)

-- `free` sets its own pointer to nil, and no other one. Lines 1 and 2: 1 + 6. Line 3: 3 nodes and a word. Line 4: 5. Line 5: 3. Line 6: the
-- statement; `=`, p, `nil` and C 4, four bytes; the blank 3; 4 and five bytes; the line end. Line 7: 3.
row_freed : within 9 freed [] ≡ comes (line (codes "true false")) (Stops kind.Pointer 7) 44
unfolding ◌>>=◌ give raise stop lost look change consult pay happen note turn take_room scope handled digits
row_freed = refl

-- var C : collection of record
--   next : pointer to C
-- end record
-- var p : pointer to C
-- new C, p
-- C (p).next := p
-- free C, C (p).next
-- free C, p
-- The pointer that becomes nil lies in the element that is removed; p keeps its value, and names no element. Lines 1 and 4: 1 + 3. Line 5: 3 nodes
-- and two words. Line 6: 6 nodes and two words. Line 7: 6 nodes. Line 8: 3.
row_inside : within 9 (with_elements 1 (program (pointer_shape 0 ∷ (Record (0 ∷ []) ∷ [])) (0 ∷ []) []
    (var 4 0 (Global 0 ∷ []) (Then (new 5 (global 0)) (Then (set_pointer 6 (at_pointer 0 (Field 1 0 End)) (pointer 0)) (Then (free 7 (at_pointer 0 (Field 1 0 End))) (only (free 8 (global 0))))))))) [] ≡ comes [] (Stops kind.Pointer 8) 26
unfolding ◌>>=◌ give raise stop lost look change consult pay happen note turn take_room scope handled digits
row_inside = refl

-- var C : collection of int
-- var a : array 1 .. 1 of pointer to C
-- new C, a (2)
-- the path is evaluated before an element is made
row_path_first : within 9 (with_elements 0 (program (int_shape ∷ (pointer_shape 0 ∷ (Array (span 1 1 ∷ []) 1 ∷ []))) (2 ∷ []) [] (var 2 2 (Global 0 ∷ []) (only (new 3 (global_at 0 (item 2 2))))))) [] ≡ comes [] (Stops kind.Subscript 3) 9
unfolding ◌>>=◌ give raise stop lost look change consult pay happen note turn take_room scope handled digits
row_path_first = refl

-- var C : collection of int
-- procedure p (var x, y : int)
-- end p
-- var q, r : pointer to C
-- new C, q
-- r := q
-- p (C (q), C (r))
-- Two elements of one collection are the same where their creation numbers are. The path of an element is 3 nodes, and the one test is paid.
row_same_element : within 9 (with_elements 0 (program (int_shape ∷ (pointer_shape 0 ∷ [])) (1 ∷ (1 ∷ [])) (procedure (by_var 0 ∷ (by_var 0 ∷ [])) [] Empty 3 ∷ [])
    (var 4 1 (Global 0 ∷ (Global 1 ∷ [])) (Then (new 5 (global 0)) (Then (set_pointer 6 (global 1) (pointer 0)) (only (call 7 0 (lent (at_pointer 0 End) (lent (at_pointer 1 End) NoActual))))))))) [] ≡ comes [] (Stops kind.Overlap 7) 24
unfolding ◌>>=◌ give raise stop lost look change consult pay happen note turn take_room scope handled digits
row_same_element = refl

-- var C : collection of array 1 .. 2 of int
-- procedure p (var x, y : int)
--   x := 8
-- end p
-- var q, r : pointer to C
-- var i : int := 1
-- new C, q
-- r := q
-- p (C (q) (i), C (r) (SECOND))
-- put C (r) (1)
abbrev two_tests : Scalar → Program
two_tests second = with_elements 1 (program (int_shape ∷ (Array (span 1 2 ∷ []) 0 ∷ (pointer_shape 0 ∷ []))) (2 ∷ (2 ∷ (0 ∷ []))) (procedure (by_var 0 ∷ (by_var 0 ∷ [])) [] (only (set 3 (local 0) (int 8))) 4 ∷ [])
    (var 5 2 (Global 0 ∷ (Global 1 ∷ [])) (var_from 6 0 (Global 2 ∷ []) (from (int 1)) (Then (new 7 (global 0)) (Then (set_pointer 8 (global 1) (pointer 0))
    (Then (call 9 0 (lent (at_pointer 0 (item_at 1 (number (global 2)))) (lent (at_pointer 1 (item_at 1 second)) NoActual))) (only (put 10 (show (number (at_pointer 1 (item 1 1))) NoneShown)))))))))

-- with i + 1: the elements are equal and the subscripts are not. Lines 1, 5 and 6: 1 + 6 + 3. Line 7: 3 nodes and two words. Line 8: 5. Line 9: the
-- statement, a path of 5, one of 7, two tests, a turn, two formals, 3. Line 10: 6 nodes, 32, two bytes.
row_two_tests : within 9 (two_tests (plus (number (global 2)) (int 1))) [] ≡ comes (line (codes "8")) Ends 81
unfolding ◌>>=◌ give raise stop lost look change consult pay happen note turn take_room scope handled digits
row_two_tests = refl

-- with i: both tests find equal values
row_two_tests_equal : within 9 (two_tests (number (global 2))) [] ≡ comes [] (Stops kind.Overlap 9) 33
unfolding ◌>>=◌ give raise stop lost look change consult pay happen note turn take_room scope handled digits
row_two_tests_equal = refl

-- var C : collection of int
-- procedure p (q : pointer to C)
-- end p
-- var r : pointer to C
-- p (nil (C))
-- p (r)
-- A pointer is copied with its two words. Lines 1 and 5: 1 + 3. Line 6: the statement, `nil` and C, a turn, a formal and two words. Line 7: 2.
row_pointer_formal : within 9 (with_elements 0 (program (int_shape ∷ (pointer_shape 0 ∷ [])) (1 ∷ []) (procedure (ByValue (TakesPointer 0) ∷ []) [] Empty 4 ∷ [])
    (var 5 1 (Global 0 ∷ []) (Then (call 6 0 (Given (on 6) None (APointer (Nil 0 (on 6) 0)) NoActual)) (only (call 7 0 (Given (on 7) None (APointer (pointer 0)) NoActual))))))) [] ≡ comes [] (Stops kind.Unset 7) 13
unfolding ◌>>=◌ give raise stop lost look change consult pay happen note turn take_room scope handled digits
row_pointer_formal = refl

-- var C : collection of int
-- var p : pointer to C := nil (C)
-- free C, p
-- Lines 1 and 2: 1, the name and two words, `nil` and C, a copy of two. Line 3: 3.
row_free_nil : within 9 (with_elements 0 (program (int_shape ∷ (pointer_shape 0 ∷ [])) (1 ∷ []) [] (var_from 2 1 (Global 0 ∷ []) (WithValue (TakesPointer 0) (APointer (Nil 0 (on 2) 0))) (only (free 3 (global 0)))))) [] ≡ comes [] (Stops kind.Pointer 3) 11
unfolding ◌>>=◌ give raise stop lost look change consult pay happen note turn take_room scope handled digits
row_free_nil = refl

-- the log tells the Storage of a `new`
log_past_full : (meaning (two_of 2097151) [] no_files 9).log ≡ Began 0 ∷ (Began 0 ∷ (LimitPassed ∷ []))
unfolding ◌>>=◌ give raise stop lost look change consult pay happen note turn take_room scope handled digits
log_past_full = refl
