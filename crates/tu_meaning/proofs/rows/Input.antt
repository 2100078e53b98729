-- Worked rows on input and files. The units beside a row are counted from the table of units.
use Rattle.std.proofs.Common.{zero, suc, ◌≡◌, ℕ, Bool, true, false, List, [], ◌∷◌, ◌++◌, Option, Some, None, codes, refl}
use Rattle.std.specs.Fmt.{digits}
use Rattle.tu_base.specs.Trace.{Trace, AtEnd as at_end, Keep}
use Rattle.tu_base.specs.Streams.{Folder, with_file}
use Rattle.tu_base.specs.declared.kind.Kind.TheVariants as kind
use Rattle.tu_base.specs.declared.shape.Shape.TheVariants.{Scalar as scalar_shape, Text as text_shape}
use Rattle.tu_base.specs.declared.operator.Binary.TheVariants.{Divide}
use Rattle.tu_core.specs.Targets.{ints}
use Rattle.tu_core.specs.declared.names.Variable.TheVariants.{Global}
use Rattle.tu_core.specs.declared.names.LocalName.TheVariants.{Caught, Counter}
use Rattle.tu_core.specs.declared.targets.Size.TheVariants.{Most}
use Rattle.tu_core.specs.Core.{Handles, NoActual, Repeat, For, FromTo, Optional, AtEnd, ByteOf, UseText, Path, Absent, Present, Shown, NoneShown, ShowTruth, Taken, NoneTaken, TakeInt, TakeToken, TakeLine, TakeCount, Statement, Simply, Get, Put, OpenStream, Close, Then, Program}
use Rattle.tu_meaning.specs.Steps.{◌>>=◌, give, raise, stop, lost, look, change, consult, pay, happen, note, turn, take_room, scope, handled}
use Rattle.tu_meaning.specs.Meaning.{Ends, Stops}
use Rattle.tu_meaning.specs.Programs.{meaning}
use Rattle.tu_meaning.proofs.rows.Making.{if_formed, local, call, procedure, Seen, seen_of, within, comes, bytes, line, taken, on, span, int, number, plus, global, show, text, show_text, calculated, put, put_on, var, program, simple, only}
use Rattle.std.specs.Prelude.{replicate}

abbrev get : (line : ℕ) → Taken → Statement
get n targets = Simply (on n) (Get Absent targets)

abbrev into : Path → Taken → Taken
into p more = TakeInt ints p more

-- streams by the int of a name
abbrev stream : ℕ → Optional
stream x = Present (number (global x))

abbrev open_for : (is_put : Bool) → (line x : ℕ) → (name : List ℕ) → Statement
open_for is_put n x name = Simply (on n) (OpenStream ints (global x) (text name) is_put)

abbrev close : (line x : ℕ) → Statement
close n x = Simply (on n) (Close (number (global x)))

abbrev put_to : (line : ℕ) → Optional → Shown → Statement
put_to n k shown = Simply (on n) (Put k shown true)

abbrev get_from : (line : ℕ) → Optional → Taken → Statement
get_from n k targets = Simply (on n) (Get k targets)

-- a folder with one file
abbrev one_file : (name contents : List ℕ) → Option Folder
one_file name contents = Some (with_file (λ other. None) name contents)

abbrev with_files : Option Folder → Program → Seen
with_files files p = if_formed p (seen_of (meaning p [] files 9))

-- var a, b, c : int
-- put "numbers: " ..
-- get a, b
-- put a + b
-- get c
abbrev numbers : Program
numbers = simple (0 ∷ (0 ∷ (0 ∷ []))) [] (var 1 0 (Global 0 ∷ (Global 1 ∷ (Global 2 ∷ []))) (Then (put_on 2 (show_text (text (codes "numbers: ")) NoneShown))
    (Then (get 3 (into (global 0) (into (global 1) NoneTaken))) (Then (put 4 (show (plus (number (global 0)) (number (global 1))) NoneShown)) (only (get 5 (into (global 2) NoneTaken)))))))

-- Line 1: three names and words. Line 2: 2 nodes, nine bytes written and put. Line 3: the statement; a name, three bytes taken, 32; the same. Line
-- 4: the statement, 3 nodes, 32, two bytes. Line 5: 2 nodes, and the end is seen.
row_numbers : within 9 numbers (codes "12 -7" ++ 10 ∷ []) ≡ comes (bytes (codes "numbers: ") ++ taken (codes "12 -7" ++ 10 ∷ []) ++ line (codes "5") ++ at_end ∷ []) (Stops kind.EndOfInput 5) 139
unfolding ◌>>=◌ give raise stop lost look change consult pay happen note turn take_room scope handled digits
row_numbers = refl

-- var s : string
-- get s : 1
-- put ord (s)
abbrev byte : Program
byte = program (text_shape 255 ∷ []) (0 ∷ []) [] (var 1 0 (Global 0 ∷ []) (Then (get 2 (TakeCount (Most 255) (global 0) (int 1) NoneTaken)) (only (put 3 (show (ByteOf 0 (UseText 0 (global 0))) NoneShown)))))

-- An input is of bytes: a number 300 is the byte 44. It would fail if it were taken as 300. The name and its words 66. Line 2: 3 nodes, a byte
-- taken and a byte read. Line 3: 3 nodes, 32, three bytes.
row_byte : within 9 byte (300 ∷ []) ≡ comes (taken (44 ∷ []) ++ line (codes "44")) Ends 109
unfolding ◌>>=◌ give raise stop lost look change consult pay happen note turn take_room scope handled digits
row_byte = refl

-- put eof
-- put eof
-- The end is seen once. Each: the statement and `eof`, four bytes and the line end.
row_end_once : within 9 (simple [] [] (Then (put 1 (ShowTruth (AtEnd 0 (on 1) Absent) Absent NoneShown)) (only (put 2 (ShowTruth (AtEnd 0 (on 2) Absent) Absent NoneShown))))) [] ≡ comes (at_end ∷ [] ++ line (codes "true") ++ line (codes "true")) Ends 14
unfolding ◌>>=◌ give raise stop lost look change consult pay happen note turn take_room scope handled digits
row_end_once = refl

-- var s : string
-- get s : *
-- get s
-- put s
abbrev lines : Program
lines = program (text_shape 255 ∷ []) (0 ∷ []) [] (var 1 0 (Global 0 ∷ []) (Then (get 2 (TakeLine (Most 255) (global 0) NoneTaken)) (Then (get 3 (TakeToken (Most 255) (global 0) NoneTaken)) (only (put 4 (show_text (UseText 0 (global 0)) NoneShown))))))

-- A line keeps its blanks, a token passes over white before it, and takes the blanks behind it. Line 1: 66. Line 2: the statement, the path, `*`,
-- four bytes taken and three read. Line 3: 2 nodes, five bytes taken and two read; the byte ahead is looked at. Line 4: 2 nodes, two bytes written
-- and put, and the line end.
row_lines : within 9 lines (codes "a b" ++ 10 ∷ (codes "  cd x")) ≡ comes (taken (codes "a b" ++ 10 ∷ (codes "  cd x")) ++ line (codes "cd")) Ends 92
unfolding ◌>>=◌ give raise stop lost look change consult pay happen note turn take_room scope handled digits
row_lines = refl

-- var x : 1 .. 3
-- get x
-- The token is taken, and then its number is tested: the name and its word 2, the statement and the path 2, two bytes taken, 32.
row_out_of_range : within 9 (program (scalar_shape (span 1 3) ∷ []) (0 ∷ []) [] (var 1 0 (Global 0 ∷ []) (only (get 2 (TakeInt (span 1 3) (global 0) NoneTaken))))) (52 ∷ (10 ∷ [])) ≡ comes (taken (52 ∷ (10 ∷ []))) (Stops kind.Range 2) 38
unfolding ◌>>=◌ give raise stop lost look change consult pay happen note turn take_room scope handled digits
row_out_of_range = refl

-- var x : int
-- get x
-- No int: what was taken stays taken, and the conversion is paid.
row_no_int : within 9 (simple (0 ∷ []) [] (var 1 0 (Global 0 ∷ []) (only (get 2 (into (global 0) NoneTaken))))) (codes "1x") ≡ comes (taken (codes "1x") ++ at_end ∷ []) (Stops kind.Input 2) 38
unfolding ◌>>=◌ give raise stop lost look change consult pay happen note turn take_room scope handled digits
row_no_int = refl

-- var f : int
-- open : f, "../x", get
-- put f
-- put : 1, "x"
-- Line 1: 2. Line 2: 3 nodes and 64. Line 3: 2 nodes, 32, two bytes. Line 4: 3 nodes, and nothing is written.
abbrev no_stream : Program
no_stream = simple (0 ∷ []) [] (var 1 0 (Global 0 ∷ []) (Then (open_for false 2 0 (codes "../x")) (Then (put 3 (show (number (global 0)) NoneShown)) (only (put_to 4 (Present (int 1)) (show_text (text (codes "x")) NoneShown))))))

row_no_stream : within 9 no_stream [] ≡ comes (line (codes "0")) (Stops kind.Stream 4) 108
unfolding ◌>>=◌ give raise stop lost look change consult pay happen note turn take_room scope handled digits
row_no_stream = refl

-- put : 1, 5
-- nor is an int made to its text
row_no_stream_int : within 9 (simple [] [] (only (put_to 1 (Present (int 1)) (show (int 5) NoneShown)))) [] ≡ comes [] (Stops kind.Stream 1) 3
unfolding ◌>>=◌ give raise stop lost look change consult pay happen note turn take_room scope handled digits
row_no_stream_int = refl

-- var f, x : int
-- open : f, "n", get
-- get : f, x
-- put x
-- close : f
-- close : f
abbrev read_file : Program
read_file = simple (0 ∷ (0 ∷ [])) [] (var 1 0 (Global 0 ∷ (Global 1 ∷ [])) (Then (open_for false 2 0 (codes "n")) (Then (get_from 3 (stream 0) (into (global 1) NoneTaken))
    (Then (put 4 (show (number (global 1)) NoneShown)) (Then (close 5 0) (only (close 6 0)))))))

-- What is read of a stream is no event. Line 1: 4. Line 2: 3 nodes and 64. Line 3: 3 nodes, two bytes taken, 32. Line 4: 2 nodes, 32, three bytes.
-- Lines 5 and 6: 2 nodes and 64 each; the second one raises.
row_read_file : with_files (one_file (codes "n") (codes "12")) read_file ≡ comes (line (codes "12")) (Stops kind.Stream 6) 277
unfolding ◌>>=◌ give raise stop lost look change consult pay happen note turn take_room scope handled digits
row_read_file = refl

-- without that file `open` sets 0, and `get` raises before anything is looked at
row_no_file : with_files (one_file (codes "m") (codes "12")) read_file ≡ comes [] (Stops kind.Stream 3) 74
unfolding ◌>>=◌ give raise stop lost look change consult pay happen note turn take_room scope handled digits
row_no_file = refl

-- var f : int
-- open : f, "out", put
-- put : f, "hi"
-- A stream that is open for `put` as the program ends is kept. Line 1: 2. Line 2: 3 nodes and 64. Line 3: 3 nodes, two bytes written and put, the
-- line end.
row_kept : within 9 (simple (0 ∷ []) [] (var 1 0 (Global 0 ∷ []) (Then (open_for true 2 0 (codes "out")) (only (put_to 3 (stream 0) (show_text (text (codes "hi")) NoneShown)))))) [] ≡ comes (Keep (codes "out") (codes "hi" ++ 10 ∷ []) ∷ []) Ends 77
unfolding ◌>>=◌ give raise stop lost look change consult pay happen note turn take_room scope handled digits
row_kept = refl

-- var f : int
-- open : f, "out", put
-- put : f, "a", 1 div 0
-- and also where the program is stopped
row_kept_stopped : within 9 (simple (0 ∷ []) [] (var 1 0 (Global 0 ∷ []) (Then (open_for true 2 0 (codes "out")) (only (put_to 3 (stream 0) (show_text (text (codes "a")) (show (calculated Divide (int 1) (int 0)) NoneShown))))))) [] ≡ comes (Keep (codes "out") (codes "a") ∷ []) (Stops kind.Divide 3) 77
unfolding ◌>>=◌ give raise stop lost look change consult pay happen note turn take_room scope handled digits
row_kept_stopped = refl

-- with the files closed `open` sets 0
row_closed_files : with_files None read_file ≡ comes [] (Stops kind.Stream 3) 74
unfolding ◌>>=◌ give raise stop lost look change consult pay happen note turn take_room scope handled digits
row_closed_files = refl

-- var s : string (2)
-- procedure p
--   handler (k)
--     put k
--   end handler
--   get s : *
-- end p
-- p
-- get s
-- put s
abbrev long_line : Program
long_line = program (text_shape 2 ∷ []) (0 ∷ []) (record (procedure [] (Caught ∷ []) (only (get 6 (TakeLine (Most 2) (global 0) NoneTaken))) 7) { handler = Handles (on 3) 0 (only (put 4 (show (number (local 0)) NoneShown))) } ∷ [])
    (var 1 0 (Global 0 ∷ []) (Then (call 8 0 NoActual) (Then (get 9 (TakeToken (Most 2) (global 0) NoneTaken)) (only (put 10 (show_text (UseText 0 (global 0)) NoneShown))))))

-- Of a line that is too long the bytes that fit stay taken, and the next one is ahead. Line 1: 3. Line 8: the statement, a turn, the handler 2, 3 nodes
-- and two bytes taken, the taking 1. Line 4: 2 nodes, 32, two bytes. Line 9: 2 nodes, three bytes taken and two read. Line 10: 2 nodes, two bytes
-- written, three put.
row_long_line : within 9 long_line (codes "abcd" ++ 10 ∷ []) ≡ comes (taken (codes "abc") ++ line (codes "9") ++ taken (codes "d" ++ 10 ∷ []) ++ line (codes "cd")) Ends 63
unfolding ◌>>=◌ give raise stop lost look change consult pay happen note turn take_room scope handled digits
row_long_line = refl

-- var f, x : int
-- open : f, "a", put
-- put : f, 12
-- close : f
-- open : f, "a", get
-- get : f, x
-- put eof (f), x
abbrev read_again : Program
read_again = simple (0 ∷ (0 ∷ [])) [] (var 1 0 (Global 0 ∷ (Global 1 ∷ [])) (Then (open_for true 2 0 (codes "a")) (Then (put_to 3 (stream 0) (show (int 12) NoneShown)) (Then (close 4 0)
    (Then (open_for false 5 0 (codes "a")) (Then (get_from 6 (stream 0) (into (global 1) NoneTaken)) (only (put 7 (ShowTruth (AtEnd 0 (on 7) (stream 0)) Absent (show (number (global 1)) NoneShown))))))))))

-- What was kept can be read. Line 1: 4. Line 2: 67. Line 3: 3 nodes, 32, three bytes. Line 4: 66. Line 5: 67. Line 6: 3 nodes, three bytes taken, 32.
-- Line 7: the statement; `eof`, f and four bytes; x, 32 and two bytes; the line end.
row_read_again : within 9 read_again [] ≡ comes (Keep (codes "a") (codes "12" ++ 10 ∷ []) ∷ line (codes "true12")) Ends 323
unfolding ◌>>=◌ give raise stop lost look change consult pay happen note turn take_room scope handled digits
row_read_again = refl

-- var f : int
-- for i : 1 .. 11
--   open : f, repeat ("a", i), put
-- end for
-- put f
abbrev eleven : Program
eleven = record (simple (0 ∷ []) [] (var 1 0 (Global 0 ∷ []) (Then (For (on 2) 0 false (FromTo (int 1) (int 11)) None (only (Simply (on 3) (OpenStream ints (global 0) (Repeat 0 (text (codes "a")) (number (local 0))) true))))
    (only (put 5 (show (number (global 0)) NoneShown)))))) { locals = Counter ints ∷ [] }

abbrev names : (from count : ℕ) → Trace
names from zero = []
names from (suc count) = Keep (replicate from 97) [] ∷ names (suc from) count

-- Ten streams can be open, and an eleventh `open` gives 0. Line 1: 2. `for` and its bounds 3; round i has a turn, 5 nodes, 1 + i for `repeat`, and 64.
-- Line 5: 2 nodes, 32, two bytes. All ten are kept in the order of their numbers.
row_eleven : within 20 eleven [] ≡ comes (line (codes "0") ++ names 1 10) Ends 888
unfolding ◌>>=◌ give raise stop lost look change consult pay happen note turn take_room scope handled digits
row_eleven = refl
