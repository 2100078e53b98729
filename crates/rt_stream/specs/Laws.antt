-- What calls of the routines do.
use Rattle.std.specs.Prelude.{◌≡◌, ℕ, suc, ◌+◌, ◌-◌, ◌*◌, ◌<◌, ◌≤◌, ◌⊎◌, List, [], ◌∷◌, ◌++◌, length, map, replicate, Some, true, slice_get, ℤ}
use Rattle.std.specs.Fmt.{signed_decimal}
use Rattle.tu_base.specs.declared.limits.TheConstants.{MOST_WIDTH}
use Rattle.tu_base.specs.Trace.{Put}
use Rattle.rv_image.specs.Streams.{traced}
use Rattle.ir_form.specs.declared.unit.Routine.{Routine}
use Rattle.ir_form.specs.declared.unit.Unit.{Unit as RegionUnit}
use Rattle.ir_form.specs.Place.{Setting, end_at}
use Rattle.ir_form.specs.State.{State, Next, Run}
use Rattle.ir_form.specs.Units.{calls_within}
use Rattle.ir_form.specs.Valid.{IsValidRoutine}
use Rattle.ir_form.specs.Values.{marks_of}
use Rattle.ir_form.specs.Weight.{routine_weight}
use Rattle.tu_base.specs.Scalars.{is_int}
use Rattle.tu_value.specs.Words.{word_of_int}
use Rattle.rt_stream.specs.Routines.{put_int_routine, put_line_routine}

-- a text with blanks before it up to a width
abbrev pub padded : (width : ℕ) → List ℕ → List ℕ
padded width text = replicate (width - length text) 32 ++ text

-- where the frame of a routine of the run time lies
abbrev pub frame_of : Setting → Routine → State → ℕ
frame_of g r st = end_at g - 4 * (st.rooms + (st.deeper + r.room))

-- the stack has room for the routine
abbrev pub HasRoom : Routine → State → Type 0
HasRoom r st = st.rooms + (st.deeper + r.room) ≤ 8392704

-- A run that puts these bytes and goes on. It leaves all else as it was but for the cells of the routine's frame, each other round that it takes is
-- paid, and it costs at most so much.
pub record Puts (g : Setting) (r : Routine) (bytes : List ℕ) (most : ℕ) (st : State) (c : ℕ) (f : Run) : Type 0 where
  pub how : f.how ≡ Next
  pub world : f.state.world ≡ traced st.world (map Put bytes)
  pub env : f.state.env ≡ st.env
  pub turns : f.state.turns ≡ st.turns
  pub rooms : f.state.rooms ≡ st.rooms
  pub deeper : f.state.deeper ≡ st.deeper
  pub frame : f.state.frame ≡ st.frame
  pub taken : f.state.taken ≡ st.taken
  pub marks : f.state.marks ≡ st.marks
  pub cells : (a : ℕ) → (a < frame_of g r st) ⊎ (frame_of g r st + 4 * r.words ≤ a) → f.state.cells a ≡ st.cells a
  pub paid : st.others + c ≤ f.state.others + f.cost
  pub begun : c ≤ f.cost
  pub bound : f.cost ≤ c + most

-- other rounds that are enough for every int and every width
abbrev pub put_int_rounds : ℕ
put_int_rounds = 265

-- how much it costs at most to put an int as these bytes, and a line's end
abbrev pub put_int_most : List ℕ → ℕ
put_int_most bytes = 1126 + 46 * length bytes

abbrev pub put_line_most : ℕ
put_line_most = 45

-- A call of the routine at place k with the word of an int and a width puts the int in decimal.
abbrev pub PutIntComputes : Type 0
PutIntComputes =
    (g : Setting) (rs : List Routine) (n k a b line : ℕ) (z : ℤ) (width : ℕ) (st : State) (c : ℕ) →
    end_at g ≤ 4294967296 → slice_get rs k ≡ Some put_int_routine → st.env a ≡ Some (word_of_int z) → st.env b ≡ Some width →
    is_int z ≡ true → width ≤ MOST_WIDTH → HasRoom put_int_routine st → put_int_rounds ≤ st.others →
    let bytes = padded width (signed_decimal z) in
    Puts g put_int_routine bytes (put_int_most bytes) st c (calls_within g rs (suc n) k (a ∷ b ∷ []) [] line st c)

-- A call of the routine at place k puts a line's end.
abbrev pub PutLineComputes : Type 0
PutLineComputes =
    (g : Setting) (rs : List Routine) (n k line : ℕ) (st : State) (c : ℕ) →
    slice_get rs k ≡ Some put_line_routine → HasRoom put_line_routine st →
    Puts g put_line_routine (10 ∷ []) put_line_most st c (calls_within g rs (suc n) k [] [] line st c)

-- It costs at most 100 for each byte and for 32 more.
abbrev pub PutIntIsCheap : Type 0
PutIntIsCheap = (bytes : List ℕ) → put_int_most bytes ≤ 100 * (32 + length bytes)

-- the routines may stand in every unit
abbrev pub AreValid : Type 0
AreValid = (u : RegionUnit) → IsValidRoutine u put_int_routine × IsValidRoutine u put_line_routine

-- and have no Guards
abbrev pub AreUnguarded : Type 0
AreUnguarded = (marks_of put_int_routine ≡ []) × (marks_of put_line_routine ≡ [])

-- how much both weigh at most
abbrev pub most_weight : ℕ
most_weight = 81

abbrev pub AreLight : Type 0
AreLight = routine_weight put_int_routine + routine_weight put_line_routine ≤ most_weight
