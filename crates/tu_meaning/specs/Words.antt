-- Words of the interpreter: what values must be, and what is read and written outside.
use Rattle.std.specs.Prelude.{ℕ, zero, suc, ◌+◌, ◌-◌, ◌*◌, ◌==◌, Bool, true, false, ◌&&◌, List, [], ◌∷◌, length, map, Option, Some, None, ℤ, pos, ◌+ℤ◌, ◌-ℤ◌, unsigned_abs, int_le, nat_le, if◌then◌else◌, is_some, slice_get, slice_index_or}
use Rattle.tu_base.specs.Trace.{Trace, Put as put_byte}
use Rattle.tu_base.specs.declared.kind.Kind.{Kind}
use Rattle.tu_base.specs.declared.kind.Kind.TheVariants as kind
use Rattle.tu_base.specs.declared.shape.Span.{Span}
use Rattle.tu_base.specs.declared.shape.Shape.{Shape}
use Rattle.tu_base.specs.declared.shape.Shape.TheVariants.{Scalar as scalar_shape, Text as text_shape, Set as set_shape, Pointer as pointer_shape, Array as array_shape, Record as record_shape, Union as union_shape}
use Rattle.tu_base.specs.declared.shape.Variant.{Variant}
use Rattle.tu_base.specs.Shapes.{elements, selected, variant_of}
use Rattle.tu_base.specs.Values.{Value, Unset, Number, Bytes, Content, unset, alone}
use Rattle.tu_base.specs.Scalars.{Answer, Gives, Raises, unary, truth_number}
use Rattle.tu_base.specs.declared.operator.Unary.{Unary}
use Rattle.tu_base.specs.Texts.{is_width}
use Rattle.tu_base.specs.Reading.{Source, Reading, reads, after_reading, shown}
use Rattle.tu_base.specs.Streams.{Outside, put_stream, source_at, with_source}
use Rattle.tu_base.specs.Heap.{is_live, new_element, without_element}
use Rattle.tu_core.specs.declared.targets.Index.{Index}
use Rattle.tu_core.specs.declared.targets.Index.TheVariants.{Known, Open}
use Rattle.tu_core.specs.declared.targets.Size.{Size}
use Rattle.tu_core.specs.declared.targets.Size.TheVariants.{Most, AtName}
use Rattle.tu_core.specs.declared.targets.Target.{Target}
use Rattle.tu_core.specs.declared.targets.Target.TheVariants.{TakesScalar, TakesText}
use Rattle.tu_core.specs.declared.claim.Claim.{Claim}
use Rattle.tu_core.specs.declared.claim.Claim.TheVariants.{Asserts, Requires, Ensures, Keeps}
use Rattle.tu_core.specs.Rooms.{most_of}
use Rattle.tu_meaning.specs.Steps.{Step, World, give, raise, stop, lost, consult, pay, happen, note, LimitPassed, turn, ◌>>=◌, ◌>>◌}

-- goes on with what an operator answers
abbrev pub answered : {S A : Type 0} → (line : ℕ) → Answer A → Step S A
answered line (Gives a units) = do
  pay units
  give a
answered line (Raises exception units) = do
  pay units
  raise exception line

-- what is read is to be set
abbrev pub present : {S A : Type 0} → (line : ℕ) → Option A → Step S A
present line None = raise kind.Unset line
present line (Some a) = give a

-- what a core names is to be there
abbrev pub found : {S A : Type 0} → Option A → Step S A
found None = lost
found (Some a) = give a

-- goes on where a test holds
abbrev pub demand : {S : Type 0} → Kind → (line : ℕ) → Bool → Step S (Unit {0})
demand exception line holds = if holds then give tt else raise exception line

abbrev pub unless_raised : {S : Type 0} → (line : ℕ) → Option Kind → Step S (Unit {0})
unless_raised line None = give tt
unless_raised line (Some exception) = raise exception line

-- a truth value as a number
abbrev pub truth : {S : Type 0} → Bool → Step S ℤ
truth b = give (truth_number b)

-- prefix operators, of which the last one is applied first
abbrev pub prefixed : {S : Type 0} → (line : ℕ) → List Unary → ℤ → Step S ℤ
prefixed line [] z = give z
prefixed line (operator ∷ more) z = do
  x ← prefixed line more z
  answered line (unary operator x)

-- the right operand where the left one does not decide
abbrev pub unless_decided : {S : Type 0} → Option Bool → Step S ℤ → Step S ℤ
unless_decided None right = right
unless_decided (Some b) right = truth b

abbrev pub kind_of : Claim → Kind
kind_of Asserts = kind.Assert
kind_of Requires = kind.Pre
kind_of Ensures = kind.Post
kind_of Keeps = kind.Invariant

-- the exceptions in the order of their numbers from 1
abbrev pub kinds : List Kind
kinds = kind.Overflow ∷ (kind.Divide ∷ (kind.Subscript ∷ (kind.Range ∷ (kind.Unset ∷ (kind.Tag ∷ (kind.Pointer ∷ (kind.Overlap ∷ (kind.StringSize ∷ (kind.StringPlace ∷ (kind.Case ∷ (kind.Assert ∷ (kind.Pre ∷ (kind.Post ∷ (kind.Invariant ∷ (kind.Result ∷ (kind.Input ∷ (kind.EndOfInput ∷ (kind.Stream ∷ (kind.Bounds ∷ (kind.Storage ∷ []))))))))))))))))))))

-- the exception with a number; Range outside 1 to 21
abbrev pub numbered : ℤ → Kind
numbered z = if int_le (pos 1) z then slice_index_or kinds (unsigned_abs z - 1) kind.Range else kind.Range

abbrev pub is_in_span : Span → ℤ → Bool
is_in_span s z = int_le s.low z && int_le z s.high

abbrev pub within_size : (most : ℕ) → List ℕ → Option Kind
within_size most bytes = if nat_le (length bytes) most then None else Some kind.StringSize

-- the most bytes of a text, where the name of its root has these bounds
abbrev pub size_at : Size → (bounds : List ℤ) → ℕ
size_at (Most n) bounds = n
size_at AtName [] = most_of AtName
size_at AtName (most ∷ more) = unsigned_abs most

-- How a value fails the test of its target.
abbrev pub misfit : Target → (bounds : List ℤ) → Value → Option Kind
misfit (TakesScalar s) bounds (Number z) = if is_in_span s z then None else Some kind.Range
misfit (TakesText size) bounds (Bytes bytes) = within_size (size_at size bounds) bytes
misfit target bounds v = None

-- The bounds of an array, where the upper bounds at its name are these. An array whose declaration was not executed has none.
abbrev pub spans_of : List Index → (bounds : List ℤ) → List Span
spans_of [] bounds = []
spans_of (Known s ∷ more) bounds = s ∷ spans_of more bounds
spans_of (Open low ∷ more) [] = record { low = low; high = low -ℤ pos 1 } ∷ spans_of more []
spans_of (Open low ∷ more) (b ∷ bounds) = record { low = low; high = b } ∷ spans_of more bounds

-- whether subscripts are within bounds, each in its own dimension
abbrev pub are_within : List Span → List ℤ → Bool
are_within [] [] = true
are_within [] (x ∷ xs) = false
are_within (s ∷ more) [] = false
are_within (s ∷ more) (x ∷ xs) = is_in_span s x && are_within more xs

-- the number of an element in row order
abbrev pub row_number : List Span → List ℤ → ℕ
row_number [] xs = 0
row_number (s ∷ more) [] = 0
row_number (s ∷ more) (x ∷ xs) = unsigned_abs (x -ℤ s.low) * elements more + row_number more xs

-- the subscripts of one bracket are all evaluated, and then tested in their order
abbrev pub subscribed : {S : Type 0} → (line : ℕ) → List Span → List ℤ → Step S ℕ
subscribed line spans xs = do
  demand kind.Subscript line (are_within spans xs)
  give (row_number spans xs)

abbrev pub indexes_of : {S : Type 0} → Shape → Step S (List Span)
indexes_of (scalar_shape s) = lost
indexes_of (text_shape most) = lost
indexes_of (set_shape low members) = lost
indexes_of (pointer_shape c) = lost
indexes_of (array_shape indexes component) = give indexes
indexes_of (record_shape fields) = lost
indexes_of (union_shape tag variants) = lost

-- the shape of a union's tag, by its number, and the variants
abbrev pub union_of : {S : Type 0} → Shape → Step S (ℕ × List Variant)
union_of (scalar_shape s) = lost
union_of (text_shape most) = lost
union_of (set_shape low members) = lost
union_of (pointer_shape c) = lost
union_of (array_shape indexes component) = lost
union_of (record_shape fields) = lost
union_of (union_shape tag variants) = give (tag, variants)

abbrev pub span_of : {S : Type 0} → Shape → Step S Span
span_of (scalar_shape s) = give s
span_of (text_shape most) = lost
span_of (set_shape low members) = lost
span_of (pointer_shape c) = lost
span_of (array_shape indexes component) = lost
span_of (record_shape fields) = lost
span_of (union_shape tag variants) = lost

-- whether a tag selects the variant of a component
abbrev pub is_selected : List Variant → (component : ℕ) → Option ℤ → Bool
is_selected variants component None = false
is_selected variants component (Some tag) = selected variants tag == variant_of variants component

-- a bound in a dimension, from 1
abbrev pub bound_in : {S : Type 0} → (line : ℕ) → (is_upper : Bool) → List Span → (dimension : ℤ) → Step S ℤ
bound_in line is_upper spans d = do
  demand kind.Subscript line (int_le (pos 1) d && int_le d (pos (length spans)))
  give (elim (slice_get spans (unsigned_abs d - 1)) [ None ↦ pos 0 | Some s ↦ if is_upper then s.high else s.low ])

abbrev pub ask : {S A : Type 0} → (World → A) → Step S A
ask f = consult (λ w. (f w, w))

-- what is outside is looked at and changed
abbrev pub outside : {S A : Type 0} → (Outside → A × Outside) → Step S A
outside f = consult (λ w. ((f w.outside).0, record w { outside = (f w.outside).1 }))

-- a pointer is to name a living element
abbrev pub living : {S : Type 0} → (line collection creation : ℕ) → Step S (Unit {0})
living line c k = do
  lives ← ask (λ w. is_live w.heap c k)
  demand kind.Pointer line lives

abbrev pub or_no_room : {S : Type 0} → (line : ℕ) → Option ℕ → Step S ℕ
or_no_room line (Some k) = give k
or_no_room line None = do
  note LimitPassed
  raise kind.Storage line

-- one element more of so many words, which it costs, or Storage
abbrev pub make_element : {S : Type 0} → (line collection words : ℕ) → Step S ℕ
make_element line c words = do
  made ← consult (λ w. ((new_element c words w.heap).0, record w { heap = (new_element c words w.heap).1 }))
  k ← or_no_room line made
  pay words
  give k

abbrev pub remove_element : {S : Type 0} → (collection creation : ℕ) → Step S (Unit {0})
remove_element c k = consult (λ w. (tt, record w { heap = without_element c k w.heap }))

-- what a `close` keeps; Stream where the stream was not open
abbrev pub keep_file : {S : Type 0} → (line : ℕ) → Option Trace → Step S (Unit {0})
keep_file line None = raise kind.Stream line
keep_file line (Some kept) = happen kept

-- A text goes to the console, or whole to a stream. What was put costs so many units, and one for each byte; what raises Stream costs nothing.
abbrev pub put : {S : Type 0} → (line : ℕ) → (stream : Option ℤ) → (units : ℕ) → List ℕ → Step S (Unit {0})
put line None units bytes = do
  pay (units + length bytes)
  happen (map put_byte bytes)
put line (Some k) units bytes = do
  is_put ← outside (put_stream k bytes)
  demand kind.Stream line is_put
  pay (units + length bytes)

-- a part of `put`, as its text is made
abbrev pub put_part : {S : Type 0} → (line : ℕ) → (stream : Option ℤ) → Answer (List ℕ) → Step S (Unit {0})
put_part line stream (Gives bytes units) = put line stream units bytes
put_part line stream (Raises exception units) = do
  pay units
  raise exception line

-- the end of a line, unless `..` stands there
abbrev pub end_line : {S : Type 0} → (line : ℕ) → (stream : Option ℤ) → (ends_line : Bool) → Step S (Unit {0})
end_line line stream true = put line stream 0 (10 ∷ [])
end_line line stream false = give tt

abbrev pub width_of : {S : Type 0} → (line : ℕ) → ℤ → Step S ℕ
width_of line z = do
  demand kind.Range line (is_width z)
  give (unsigned_abs z)

-- whether the console, or a stream that is open for `get`, can be read
abbrev pub is_source : Option ℤ → World → Bool
is_source None w = true
is_source (Some k) w = is_some (source_at w.outside k)

abbrev pub source_there : {S : Type 0} → (line : ℕ) → (stream : Option ℤ) → Step S (Unit {0})
source_there line stream = do
  can_read ← ask (is_source stream)
  demand kind.Stream line can_read

-- what a reading gave, what it shows, and the source that it was made of
pub record Read : Type 0 where
  pub reading : Reading
  pub shows : Trace
  pub source : Source

abbrev pub no_source : Source
no_source = record { left = []; seen = false }

-- A reading of the console shows the bytes that are looked at, one of a stream shows nothing.
abbrev pub read_stream : (Source → Reading) → ℤ → Option Source → Outside → Read × Outside
read_stream f k None w = (record { reading = reads 0 false []; shows = []; source = no_source }, w)
read_stream f k (Some source) w = (record { reading = f source; shows = []; source = source }, with_source k (after_reading source (f source)) w)

abbrev pub read_from : Option ℤ → (Source → Reading) → Outside → Read × Outside
read_from None f w = (record { reading = f w.console; shows = shown w.console (f w.console); source = w.console }, record w { console = after_reading w.console (f w.console) })
read_from (Some k) f w = read_stream f k (source_at w k) w

-- What is read is shown and taken, a unit for each byte, also where an exception comes.
abbrev pub take_text : {S : Type 0} → (line : ℕ) → (stream : Option ℤ) → (Source → Reading) → Step S Read
take_text line stream f = do
  r ← outside (read_from stream f)
  happen r.shows
  pay r.reading.taken
  unless_raised line r.reading.exception
  give r

-- what a call gives back: nothing, a value, or what a place of a shape with parts held
pub data Back : Type 0 where
  NothingBack : Back
  ValueBack : Value → Back
  ContentBack : Content → Back

abbrev pub value_back : Back → Value
value_back NothingBack = Unset
value_back (ValueBack v) = v
value_back (ContentBack content) = Unset

abbrev pub content_back : Back → Content
content_back NothingBack = unset
content_back (ValueBack v) = alone v
content_back (ContentBack content) = content

-- how a statement is left
pub data Flow : Type 0 where
  Next : Flow
  -- by `exit`, which leaves the loop around it
  Exits : Flow
  Returns : Flow
  -- by `result`
  GivesBack : Back → Flow

-- the rest of a block, behind a statement
abbrev pub and_then : {S : Type 0} → Flow → Step S Flow → Step S Flow
and_then Next rest = rest
and_then Exits rest = give Exits
and_then Returns rest = give Returns
and_then (GivesBack b) rest = give (GivesBack b)

-- the rest of a loop, behind a round
abbrev pub unless_left : {S : Type 0} → Flow → Step S Flow → Step S Flow
unless_left Next rest = rest
unless_left Exits rest = give Next
unless_left Returns rest = give Returns
unless_left (GivesBack b) rest = give (GivesBack b)

abbrev pub back_of : Flow → Back
back_of Next = NothingBack
back_of Exits = NothingBack
back_of Returns = NothingBack
back_of (GivesBack b) = b

-- The rounds of a loop. Each begins a turn, and costs the loop's joins. The depth bounds their number for the definition alone: where it
-- is t or more, the turns run out before it does.
abbrev pub rounds : {S : Type 0} → (t joins depth : ℕ) → Step S Flow → Step S Flow
rounds t joins zero body = stop
rounds t joins (suc depth) body = do
  turn t
  pay joins
  flow ← body
  unless_left flow (rounds t joins depth body)

-- the next value of an index
abbrev pub next : (decreasing : Bool) → ℤ → ℤ
next false z = z +ℤ pos 1
next true z = z -ℤ pos 1

-- the rounds of a `for`, so many, from a value on
abbrev pub rounds_over : {S : Type 0} → (t joins : ℕ) → (decreasing : Bool) → (body : ℤ → Step S Flow) → (depth count : ℕ) → ℤ → Step S Flow
rounds_over t joins decreasing body depth zero z = give Next
rounds_over t joins decreasing body zero (suc count) z = stop
rounds_over t joins decreasing body (suc depth) (suc count) z = do
  turn t
  pay joins
  flow ← body z
  unless_left flow (rounds_over t joins decreasing body depth count (next decreasing z))
