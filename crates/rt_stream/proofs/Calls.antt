-- Calls of the routines.
use Rattle.std.proofs.Common.{◌≡◌, ℕ, suc, ◌+◌, ◌-◌, ◌*◌, ◌<◌, ◌≤◌, ◌⊎◌, inl, inr, List, [], ◌∷◌, Bool, true, false, Some, refl, sym, ap, ◌∙◌, subst, length, map, arith}
use Rattle.std.specs.Prelude.{nat_le, nat_lt, not, decimal, replicate, slice_get, ℤ, pos, negsuc}
use Rattle.std.specs.Int.{w32, cast_unsigned}
use Rattle.std.proofs.Math.ListN.{length-append, length-replicate}
use Rattle.std.proofs.lemmas.Bool.Decides.{nat_tests}
use Rattle.tu_base.specs.Trace.{Put}
use Rattle.rv_image.specs.Streams.{traced}
use Rattle.ir_form.specs.declared.unit.Routine.{Routine}
use Rattle.ir_form.specs.Cells.{Cells, Closed, Unset, is_open, with_byte, with_range}
use Rattle.ir_form.specs.Place.{Setting, end_at}
use Rattle.ir_form.specs.State.{Env, State, Run, next, needs, listed, on_run, with_value, binds}
use Rattle.ir_form.specs.Plain.{Calls}
use Rattle.ir_form.specs.Meaning.{run_list, ended_run}
use Rattle.ir_form.specs.Units.{Head, no_values, opened, enters, returned_run, body_of, head_of, calls_to, calls_within}
use Rattle.ir_code.proofs.Steps.{AllGo, none, ◌▸◌, constant_goes, frame_goes}
use Rattle.tu_base.specs.Scalars.{is_int}
use Rattle.tu_value.specs.Words.{word_of_int}
use Rattle.rt_stream.specs.Laws.{padded, frame_of, HasRoom, Puts, put_int_rounds, put_int_most, put_line_most, PutIntComputes, PutIntIsCheap, PutLineComputes}
use Rattle.rt_stream.specs.Routines.{put_int_ops, put_int_routine, put_line_ops, put_line_routine}
use Rattle.rt_stream.proofs.Pieces.{byte_goes, put_goes, lent}
use Rattle.rt_stream.proofs.Buffer.{Lies, Holds, holds_none, holds_next, bytes_seen, bytes_set, byte_apart, range_apart, range_within}
use Rattle.rt_stream.proofs.Body.{signed, magnitude, body_put}

-- where the body of a routine begins, with such values
abbrev entered : Setting → Routine → Env → State → State
entered g r env st = record (opened g (head_of r) (record st { deeper = st.deeper + r.room })) { env = env }

-- the frame is in use, and nothing is stored there
abbrev taken_cells : Setting → Routine → State → Cells
taken_cells g r st = with_range st.cells (frame_of g r st) r.words Unset

shifted : (base words y : ℕ) → (y < base) ⊎ (base + 4 * words ≤ y) → (y < base - 4 * 0) ⊎ (base - 4 * 0 + 4 * (0 + words) ≤ y)
shifted base words y (inl h) = inl (omega arith)
shifted base words y (inr h) = inr (omega arith)

-- A body that puts the bytes and goes on, and changes values, other rounds and cells of the frame alone, makes a call that puts them.
call_puts : (g : Setting) (r : Routine) (bytes : List ℕ) (most : ℕ) (first env : Env) (cells : Cells) (others cost : ℕ) (st : State) (c : ℕ) {body f : Run} →
    f ≡ returned_run (head_of r) [] st (ended_run [] body) →
    body ≡ next (record (entered g r first st) { env = env; cells = cells; others = others; world = traced st.world (map Put bytes) }) cost →
    ((y : ℕ) → (y < frame_of g r st) ⊎ (frame_of g r st + 4 * r.words ≤ y) → cells y ≡ taken_cells g r st y) →
    st.others + c ≤ others + cost → c ≤ cost → cost + 7 ≤ c + most → Puts g r bytes most st c f
call_puts g r bytes most first env cells others cost st c is goes same paid begun bound =
    let base : ℕ = frame_of g r st in
    subst (Puts g r bytes most st c) (sym (is ∙ ap (λ q. returned_run (head_of r) [] st (ended_run [] q)) goes)) (record {
      how = refl;
      world = refl;
      env = refl;
      turns = refl;
      rooms = refl;
      deeper = refl;
      frame = refl;
      taken = refl;
      marks = refl;
      cells = λ y h. range_apart cells (base - 4 * 0) (0 + r.words) Closed y (shifted base r.words y h) ∙ same y h ∙ range_apart st.cells base r.words Unset y h;
      paid = omega arith;
      begun = omega arith;
      bound = omega arith;
    })

empty_buffer : (g : Setting) (st : State) → let base = frame_of g put_int_routine st in let cells = taken_cells g put_int_routine st in Lies base cells (base + 256) [] cells
empty_buffer g st =
    let base : ℕ = frame_of g put_int_routine st in
    record {
      text = holds_none;
      inside = record {
        open_at = λ y low high. ap is_open (range_within st.cells base 65 Unset y low (omega arith));
        same = λ y h. refl;
      };
      size = omega arith;
    }

abbrev int_values : (word width : ℕ) → Env
int_values word width = with_value (with_value no_values 0 word) 1 width

module _ (g : Setting) (rs : List Routine) (n k a b line : ℕ) (z : ℤ) (width : ℕ) (st : State) (c : ℕ) where
  int_called : slice_get rs k ≡ Some put_int_routine → st.env a ≡ Some (word_of_int z) → st.env b ≡ Some width → calls_within g rs (suc n) k (a ∷ b ∷ []) [] line st c ≡ returned_run (head_of put_int_routine) [] st (ended_run [] (run_list g (calls_within g rs n) put_int_ops (entered g put_int_routine (int_values (word_of_int z) width) st) c))
  int_called is e f =
      let h : Head = head_of put_int_routine in
      ap (λ o. calls_to g (calls_within g rs n) o (a ∷ b ∷ []) [] line st c) is
      ∙ ap (λ o. needs o st c (λ ws. on_run (enters g h line st c) (λ su i. on_run (binds h.parameters ws su i) (λ sv j. returned_run h [] st (body_of g (calls_within g rs n) put_int_routine sv j))))) (λ i. listed (e i) (listed (f i) (Some [])))

  int_put : (below : Bool) → let word = cast_unsigned w32 z in end_at g ≤ 4294967296 → slice_get rs k ≡ Some put_int_routine → st.env a ≡ Some (word_of_int z) → st.env b ≡ Some width → is_int z ≡ true → nat_lt word 2147483648 ≡ not below → word ≤ 4294967295 → magnitude below word ≤ 2147483647 → width ≤ 255 → HasRoom put_int_routine st → put_int_rounds ≤ st.others →
      let bytes = padded width (signed below (decimal (magnitude below word))) in Puts g put_int_routine bytes (put_int_most bytes) st c (calls_within g rs (suc n) k (a ∷ b ∷ []) [] line st c)
  int_put below top is e f small t fits lt narrow room enough =
      let text : List ℕ = signed below (decimal (magnitude below (cast_unsigned w32 z))) in
      let first : Env = int_values (word_of_int z) width in
      let r : st.rooms + (st.deeper + 128) ≤ 8392704 = room in
      let d = body_put g (calls_within g rs n) z width (taken_cells g put_int_routine st) below (entered g put_int_routine first st) c (omega arith) (omega arith) top narrow small t fits lt enough refl refl (empty_buffer g st) in
      call_puts g put_int_routine (padded width text) (put_int_most (padded width text)) first d.env d.cells d.others d.cost st c (int_called is e f) d.is d.same d.paid d.begun
      (let w : d.cost ≤ c + (1119 + 46 * (width - length text)) = d.bound in omega (arith, length-append (replicate (width - length text) 32) text, length-replicate {A = ℕ} (width - length text) 32))

small_of : (n : ℕ) → nat_le n 2147483647 ≡ true → n ≤ 2147483647
small_of n e = grind (arith, nat_tests, e)

not_negative : (n : ℕ) → n ≤ 2147483647 → nat_lt n 2147483648 ≡ true
not_negative n le = grind (arith, nat_tests)

is_negative : (n : ℕ) → suc n ≤ 2147483647 → nat_lt (4294967296 - suc n) 2147483648 ≡ false
is_negative n le = grind (arith, nat_tests)

negative_size : (n : ℕ) → suc n ≤ 2147483647 → 4294967296 - (4294967296 - suc n) ≡ suc n
negative_size n le = omega arith

pub put_int_meets : PutIntComputes
put_int_meets g rs n k a b line (pos m) width st c top is e f small narrow room enough =
    let le : m ≤ 2147483647 = small_of m small in
    int_put g rs n k a b line (pos m) width st c false top is e f small (not_negative m le) (omega arith) le narrow room enough
put_int_meets g rs n k a b line (negsuc m) width st c top is e f small narrow room enough =
    let le : suc m ≤ 2147483647 = small_of (suc m) small in
    let size = negative_size m le in
    subst (λ x. let bytes = padded width (45 ∷ decimal x) in Puts g put_int_routine bytes (put_int_most bytes) st c (calls_within g rs (suc n) k (a ∷ b ∷ []) [] line st c)) size
    (int_put g rs n k a b line (negsuc m) width st c true top is e f small (is_negative m le) (omega arith) (omega (arith, size)) narrow room enough)

pub put_int_is_cheap : PutIntIsCheap
put_int_is_cheap bytes = omega arith

-- The first byte of a frame of one word is put.
line_put : (g : Setting) (calls : Calls) (st : State) (c : ℕ) → 65536 ≤ st.frame → st.frame + 4 ≤ end_at g → is_open (st.cells (st.frame + 0)) ≡ true → let at = st.frame + 0 in
    AllGo g calls put_line_ops st c (record st { env = with_value (with_value (with_value (with_value st.env 0 at) 1 10) 2 1) 3 0; cells = with_byte st.cells at 10; world = traced st.world (map Put (10 ∷ [])) }) (c + 7 + 5 + 7 + 5 + 14)
line_put g calls st c low fits o =
    let at : ℕ = st.frame + 0 in
    let h : Holds (with_byte st.cells at 10) at (10 ∷ []) = holds_next 10 holds_none in
    frame_goes 0 0 ▸ constant_goes 1 10 ▸ byte_goes 0 1 at 10 refl refl o (omega arith) ▸ constant_goes 2 1
    ▸ put_goes 3 0 2 at 1 (10 ∷ []) refl refl (lent g (with_byte st.cells at 10) at 1 (omega arith) (omega arith) (omega arith) (bytes_set h)) (bytes_seen h) ▸ none

apart_from_first : (base y : ℕ) → (y < base) ⊎ (base + 4 ≤ y) → (y < base + 0) ⊎ (base + 0 < y)
apart_from_first base y (inl h) = inl (omega arith)
apart_from_first base y (inr h) = inr (omega arith)

pub put_line_meets : PutLineComputes
put_line_meets g rs n k line st c is room =
    let r : st.rooms + (st.deeper + 40) ≤ 8392704 = room in
    let base : ℕ = frame_of g put_line_routine st in
    let cells : Cells = taken_cells g put_line_routine st in
    let all = line_put g (calls_within g rs n) (entered g put_line_routine no_values st) c (omega arith) (omega arith) (ap is_open (range_within st.cells base 1 Unset (base + 0) (omega arith) (omega arith))) in
    call_puts g put_line_routine (10 ∷ []) put_line_most no_values (with_value (with_value (with_value (with_value no_values 0 (base + 0)) 1 10) 2 1) 3 0) (with_byte cells (base + 0) 10) st.others (c + 7 + 5 + 7 + 5 + 14) st c
    (ap (λ o. calls_to g (calls_within g rs n) o [] [] line st c) is) all.is (λ y h. byte_apart cells (base + 0) 10 y (apart_from_first base y h)) (omega arith) (omega arith) (omega arith)
