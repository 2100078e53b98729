-- The body of the routine that puts an int, from its last operations to the first ones.
use Rattle.std.proofs.Common.{◌≡◌, ℕ, zero, suc, ◌+◌, ◌-◌, ◌*◌, ◌%◌, ◌<◌, ◌≤◌, ◌⊎◌, List, [], ◌∷◌, ◌++◌, Bool, true, false, Some, refl, ap, ◌∙◌, subst, length, map, arith}
use Rattle.std.specs.Prelude.{nat_lt, not, decimal, replicate, ℤ}
use Rattle.std.specs.Int.{w32, cast_unsigned}
use Rattle.std.proofs.Math.ListN.{length-append, length-replicate}
use Rattle.std.proofs.lemmas.Fmt.{decimal_nonempty, length-decimal-le}
use Rattle.tu_base.specs.Trace.{Put}
use Rattle.rv_isa.specs.declared.instr.RegisterOp.TheVariants.{Sub}
use Rattle.rv_isa.specs.declared.instr.Relation.TheVariants.{LessUnsigned}
use Rattle.rv_image.specs.Streams.{traced}
use Rattle.ir_form.specs.declared.op.Op.{Op}
use Rattle.ir_form.specs.declared.plain.Width.TheVariants.{Byte as one_byte}
use Rattle.ir_form.specs.Cells.{Cells, with_byte}
use Rattle.ir_form.specs.Place.{Setting, end_at}
use Rattle.ir_form.specs.State.{Env, State, Run, next, on_run, with_value}
use Rattle.ir_form.specs.Plain.{Calls}
use Rattle.ir_form.specs.Meaning.{run, run_list}
use Rattle.ir_code.specs.Pieces.{constant, frame, compute, store}
use Rattle.ir_code.proofs.Running.{runs_in_order}
use Rattle.ir_code.proofs.Steps.{set, Goes, AllGo, none, ◌▸◌, constant_goes, frame_goes}
use Rattle.tu_base.specs.Scalars.{is_int}
use Rattle.tu_value.specs.Meets.{HasFixed, HasInt}
use Rattle.tu_value.specs.Pieces.{fixed_from, number_code}
use Rattle.tu_value.specs.Words.{word_of_int}
use Rattle.tu_value.proofs.Leaves.{number_is_given}
use Rattle.rt_stream.specs.Laws.{padded}
use Rattle.rt_stream.specs.Routines.{magnitude_op, digits_op, sign_op, blanks_op, text_ops, number_ops, put_int_ops}
use Rattle.rt_stream.proofs.Pieces.{below_one, compute_gives, byte_goes, first_gives, other_gives, put_goes, lent}
use Rattle.rt_stream.proofs.Buffer.{not_below, Known, known_with, Lies, lies_next, open_next, bytes_seen, bytes_set}
use Rattle.rt_stream.proofs.Rounds.{Comes}
use Rattle.rt_stream.proofs.Digits.{digits_come}
use Rattle.rt_stream.proofs.Blanks.{blanks_come}

-- A run puts the bytes and goes on. It changes values, other rounds and cells of the frame alone.
pub record Done (base : ℕ) (before : Cells) (bytes : List ℕ) (most : ℕ) (st : State) (c : ℕ) (r : Run) : Type 0 where
  pub env : Env
  pub cells : Cells
  pub others : ℕ
  pub cost : ℕ
  pub is : r ≡ next (record st { env = env; cells = cells; others = others; world = traced st.world (map Put bytes) }) cost
  pub same : (y : ℕ) → (y < base) ⊎ (base + 260 ≤ y) → cells y ≡ before y
  pub paid : st.others + c ≤ others + cost
  pub begun : c ≤ cost
  pub bound : cost ≤ c + most

-- one operation, and then the others
module _ (g : Setting) (calls : Calls) {base : ℕ} {before : Cells} {bytes : List ℕ} where
  after : (op : Op) (rest : List Op) (m most : ℕ) (st : State) (c : ℕ) (env : Env) (cells : Cells) (others k : ℕ) → let su : State = record st { env = env; cells = cells; others = others } in Goes g calls op st c su k → Done base before bytes m su k (run_list g calls rest su k) → st.others + c ≤ others + k → c ≤ k → k + m ≤ c + most → Done base before bytes most st c (run_list g calls (op ∷ rest) st c)
  after op rest m most st c env cells others k go d paid le bound = record {
    env = d.env;
    cells = d.cells;
    others = d.others;
    cost = d.cost;
    is = ap (λ r. on_run r (run_list g calls rest)) go.is ∙ d.is;
    same = d.same;
    paid = let w : others + k ≤ d.others + d.cost = d.paid in omega arith;
    begun = let w : k ≤ d.cost = d.begun in omega arith;
    bound = let w : d.cost ≤ k + m = d.bound in omega arith;
  }

  after_set : (op : Op) (rest : List Op) (m : ℕ) (st : State) (c x w price : ℕ) → Goes g calls op st c (set st x w) (c + price) → Done base before bytes m (set st x w) (c + price) (run_list g calls rest (set st x w) (c + price)) → Done base before bytes (m + price) st c (run_list g calls (op ∷ rest) st c)
  after_set op rest m st c x w price go d = after op rest m (m + price) st c (with_value st.env x w) st.cells st.others (c + price) go d (omega arith) (omega arith) (omega arith)

  after_number : (z : ℤ) (rest : List Op) (m : ℕ) (st : State) (c : ℕ) → st.env 0 ≡ Some (word_of_int z) → st.env 6 ≡ Some 0 → st.env 7 ≡ Some 2147483648 → is_int z ≡ true → (let su : State = set st 10 (cast_unsigned w32 z) in Done base before bytes m su (c + 10) (run_list g calls rest su (c + 10))) → Done base before bytes (m + 10) st c (run_list g calls (number_code (fixed_from 6) 0 10 ++ rest) st c)
  after_number z rest m st c w e t small d =
      let h : HasFixed (fixed_from 6) 10 st = record { zero_below = omega arith; zero_is = e; top_below = omega arith; top_is = t } in
      let i : HasInt z 0 10 st = record { small = small; below = omega arith; is = w } in
      record {
        env = d.env;
        cells = d.cells;
        others = d.others;
        cost = d.cost;
        is = runs_in_order g calls (number_code (fixed_from 6) 0 10) rest st c ∙ ap (λ r. on_run r (run_list g calls rest)) (number_is_given g calls (fixed_from 6) z 0 10 st c h i) ∙ d.is;
        same = d.same;
        paid = let w : st.others + (c + 10) ≤ d.others + d.cost = d.paid in omega arith;
        begun = let w : c + 10 ≤ d.cost = d.begun in omega arith;
        bound = let w : d.cost ≤ c + 10 + m = d.bound in omega arith;
      }

  after_loop : (op : Op) (rest : List Op) {word width value : ℕ} {text : List ℕ} {used m : ℕ} (n most : ℕ) (st : State) (c : ℕ) (p : Comes word width base before value text used m st c (run g calls op st c)) → (let su : State = record st { env = p.env; cells = p.cells; others = p.others } in Done base before bytes n su p.cost (run_list g calls rest su p.cost)) → m + n ≤ most → Done base before bytes most st c (run_list g calls (op ∷ rest) st c)
  after_loop op rest {m = m} n most st c p d le = after op rest n most st c p.env p.cells p.others p.cost (record { is = p.is }) d p.paid p.begun (let w : p.cost ≤ c + m = p.bound in omega arith)

distance : (end at n : ℕ) → at + n ≡ end → end ≤ 4294967295 → (end + (4294967296 - at)) % 4294967296 ≡ n
distance end at n e h = omega arith

-- a text with its sign
abbrev pub signed : Bool → List ℕ → List ℕ
signed true text = 45 ∷ text
signed false text = text

-- the magnitude of a number of the machine
abbrev pub magnitude : Bool → ℕ → ℕ
magnitude true word = 4294967296 - word
magnitude false word = word

module _ (g : Setting) (calls : Calls) (word width base : ℕ) (before : Cells) (low : 65536 ≤ base) (fits : base + 260 ≤ end_at g) (high : base + 256 ≤ 4294967295) (narrow : width ≤ 255) where
  text_put : (at : ℕ) (bytes : List ℕ) (st : State) (c : ℕ) → length bytes ≤ 256 → Known word width (base + 256) st.env → st.env 25 ≡ Some at → Lies base before at bytes st.cells → Done base before bytes 24 st c (run_list g calls text_ops st c)
  text_put at bytes st c few known e l =
      let n : ℕ = length bytes in
      let size : at + n ≡ base + 256 = l.size in
      let all : AllGo g calls text_ops st c (set (record (set st 26 n) { world = traced st.world (map Put bytes) }) 27 0) (c + 10 + 14) =
      compute_gives 26 Sub 3 25 (base + 256) at n known.end_is e (distance (base + 256) at n size high)
      ▸ put_goes 27 25 26 at n bytes e refl (lent g st.cells at n (omega arith) (omega arith) (omega arith) (bytes_set l.text)) (bytes_seen l.text) ▸ none in
      record {
        env = with_value (with_value st.env 26 n) 27 0;
        cells = st.cells;
        others = st.others;
        cost = c + 10 + 14;
        is = all.is;
        same = l.inside.same;
        paid = omega arith;
        begun = omega arith;
        bound = omega arith;
      }

  widest : (text : List ℕ) → length text ≤ 11 → length (padded width text) ≤ 256
  widest text few = omega (arith, length-append (replicate (width - length text) 32) text, length-replicate {A = ℕ} (width - length text) 32)

  blanks_put : (a : ℕ) (text : List ℕ) (st : State) (c : ℕ) → 1 ≤ length text → length text ≤ 11 → 255 ≤ st.others → Known word width (base + 256) st.env → st.env 21 ≡ Some a → Lies base before a text st.cells → Done base before (padded width text) (82 + 46 * (width - length text)) st c (run_list g calls (compute 22 Sub 3 1 ∷ blanks_op ∷ text_ops) st c)
  blanks_put a text st c some' few enough known e l =
      let b : ℕ = width - length text in
      let begin : ℕ = base + 256 - width in
      let size : a + length text ≡ base + 256 = l.size in
      let su : State = set st 22 begin in
      let p : Comes word width base before 25 (padded width text) (suc b) (46 * b + 48) su (c + 10) (run g calls blanks_op su (c + 10)) =
      blanks_come g calls word width base before begin (omega arith) (omega arith) high a b text su (c + 10) (omega arith) (omega arith) (omega arith) refl e (known_with 22 begin (omega arith) known) l in
      after g calls (compute 22 Sub 3 1) (blanks_op ∷ text_ops) (72 + 46 * b) (82 + 46 * b) st c su.env st.cells st.others (c + 10)
      (compute_gives 22 Sub 3 1 (base + 256) width begin known.end_is known.width_is (distance (base + 256) width begin (omega arith) high))
      (after_loop g calls blanks_op text_ops 24 (72 + 46 * b) su (c + 10) p (text_put p.at (padded width text) (record su { env = p.env; cells = p.cells; others = p.others }) p.cost (widest text few) p.known p.first p.lies) (omega arith))
      (omega arith) (omega arith) (omega arith)

  -- how much it costs from the sign on
  abbrev sign_most : List ℕ → ℕ
  sign_most text = 124 + 46 * (width - length text)

  sign_put : (below : Bool) (a : ℕ) (text : List ℕ) (st : State) (c : ℕ) → nat_lt word 2147483648 ≡ not below → 1 ≤ length text → length text ≤ 10 → 255 ≤ st.others → Known word width (base + 256) st.env → st.env 19 ≡ Some a → Lies base before a text st.cells → Done base before (padded width (signed below text)) (sign_most (signed below text)) st c (run_list g calls (sign_op ∷ compute 22 Sub 3 1 ∷ blanks_op ∷ text_ops) st c)
  sign_put false a text st c t some' few enough known e l =
      after g calls sign_op (compute 22 Sub 3 1 ∷ blanks_op ∷ text_ops) (82 + 46 * (width - length text)) (sign_most text) st c (with_value st.env 21 a) st.cells st.others (c + 13 + 12)
      (first_gives LessUnsigned 10 7 word 2147483648 [] 19 (compute 20 Sub 19 5 ∷ store one_byte 20 8 ∷ []) 20 21 a known.word_is known.top t none e)
      (blanks_put a text (set st 21 a) (c + 13 + 12) some' (omega arith) enough (known_with 21 a (omega arith) known) refl l)
      (omega arith) (omega arith) (omega arith)
  sign_put true zero text st c t some' few enough known e l = let size : 0 + length text ≡ base + 256 = l.size in absurd (omega arith)
  sign_put true (suc a) text st c t some' few enough known e l =
      let size : suc a + length text ≡ base + 256 = l.size in
      let s : suc a ≡ a + 1 = omega arith in
      let next_l : Lies base before (a + 1) text st.cells = subst (λ x. Lies base before x text st.cells) s l in
      let above : base ≤ a = omega arith in
      let cells : Cells = with_byte st.cells a 45 in
      let env : Env = with_value (with_value st.env 20 a) 21 a in
      after g calls sign_op (compute 22 Sub 3 1 ∷ blanks_op ∷ text_ops) (82 + 46 * (width - suc (length text))) (sign_most (45 ∷ text)) st c env cells st.others (c + 13 + 10 + 7 + 12)
      (other_gives LessUnsigned 10 7 word 2147483648 [] 19 (compute 20 Sub 19 5 ∷ store one_byte 20 8 ∷ []) 20 21 a known.word_is known.top t
      (compute_gives 20 Sub 19 5 (a + 1) 1 a (e ∙ ap Some s) known.one (below_one a (omega arith)) ▸ byte_goes 20 8 a 45 refl known.minus (open_next above next_l) (omega arith) ▸ none) refl)
      (blanks_put a (45 ∷ text) (record st { env = env; cells = cells }) (c + 13 + 10 + 7 + 12) (omega arith) (omega arith) enough
      (known_with 21 a (omega arith) (known_with 20 a (omega arith) known)) refl (lies_next 45 above next_l))
      (omega arith) (omega arith) (omega arith)

  digits_put : (below : Bool) (n : ℕ) (st : State) (c : ℕ) → nat_lt word 2147483648 ≡ not below → n ≤ 2147483647 → 265 ≤ st.others → Known word width (base + 256) st.env → st.env 12 ≡ Some n → Lies base before (base + 256) [] st.cells → Done base before (padded width (signed below (decimal n))) (908 + sign_most (signed below (decimal n))) st c (run_list g calls (digits_op ∷ sign_op ∷ compute 22 Sub 3 1 ∷ blanks_op ∷ text_ops) st c)
  digits_put below n st c t small enough known e l =
      let p = digits_come g calls word width base before high n st c small (omega arith) e known l in
      let left : st.others ≤ p.others + 10 = p.left in
      after_loop g calls digits_op (sign_op ∷ compute 22 Sub 3 1 ∷ blanks_op ∷ text_ops) (sign_most (signed below (decimal n))) (908 + sign_most (signed below (decimal n))) st c p
      (sign_put below p.at (decimal n) (record st { env = p.env; cells = p.cells; others = p.others }) p.cost t (decimal_nonempty n (omega arith)) (length-decimal-le 10 n (omega arith) (omega arith) (omega arith)) (omega arith) p.known p.first p.lies)
      (omega arith)

  negative_value : (v : ℕ) → 1 ≤ v → v ≤ 4294967295 → (0 + (4294967296 - v)) % 4294967296 ≡ 4294967296 - v
  negative_value v le lt = omega arith

  magnitude_put : (below : Bool) (st : State) (c : ℕ) → nat_lt word 2147483648 ≡ not below → word ≤ 4294967295 → magnitude below word ≤ 2147483647 → 265 ≤ st.others → Known word width (base + 256) st.env → Lies base before (base + 256) [] st.cells → Done base before (padded width (signed below (decimal (magnitude below word)))) (943 + sign_most (signed below (decimal (magnitude below word)))) st c (run_list g calls (magnitude_op ∷ digits_op ∷ sign_op ∷ compute 22 Sub 3 1 ∷ blanks_op ∷ text_ops) st c)
  magnitude_put true st c t fits small enough known l =
      let n : ℕ = 4294967296 - word in
      let env : Env = with_value (with_value st.env 11 n) 12 n in
      let le : 2147483648 ≤ word = not_below word 2147483648 t in
      after g calls magnitude_op (digits_op ∷ sign_op ∷ compute 22 Sub 3 1 ∷ blanks_op ∷ text_ops) (908 + sign_most (45 ∷ decimal n)) (943 + sign_most (45 ∷ decimal n)) st c env st.cells st.others (c + 13 + 10 + 12)
      (other_gives LessUnsigned 10 7 word 2147483648 [] 10 (compute 11 Sub 6 10 ∷ []) 11 12 n known.word_is known.top t
      (compute_gives 11 Sub 6 10 0 word n known.none known.word_is (negative_value word (omega arith) fits) ▸ none) refl)
      (digits_put true n (record st { env = env }) (c + 13 + 10 + 12) t small enough (known_with 12 n (omega arith) (known_with 11 n (omega arith) known)) refl l)
      (omega arith) (omega arith) (omega arith)
  magnitude_put false st c t fits small enough known l =
      let env : Env = with_value st.env 12 word in
      after g calls magnitude_op (digits_op ∷ sign_op ∷ compute 22 Sub 3 1 ∷ blanks_op ∷ text_ops) (908 + sign_most (decimal word)) (943 + sign_most (decimal word)) st c env st.cells st.others (c + 13 + 12)
      (first_gives LessUnsigned 10 7 word 2147483648 [] 10 (compute 11 Sub 6 10 ∷ []) 11 12 word known.word_is known.top t none known.word_is)
      (digits_put false word (record st { env = env }) (c + 13 + 12) t small enough (known_with 12 word (omega arith) known) refl l)
      (omega arith) (omega arith) (omega arith)

-- The whole body, with an empty buffer in the frame.
pub body_put : (g : Setting) (calls : Calls) (z : ℤ) (width : ℕ) (before : Cells) (below : Bool) (st : State) (c : ℕ) → let word = cast_unsigned w32 z in 65536 ≤ st.frame → st.frame + 260 ≤ end_at g → end_at g ≤ 4294967296 → width ≤ 255 → is_int z ≡ true → nat_lt word 2147483648 ≡ not below → word ≤ 4294967295 → magnitude below word ≤ 2147483647 → 265 ≤ st.others → st.env 0 ≡ Some (word_of_int z) → st.env 1 ≡ Some width → Lies st.frame before (st.frame + 256) [] st.cells → let text = signed below (decimal (magnitude below word)) in Done st.frame before (padded width text) (1119 + 46 * (width - length text)) st c (run_list g calls put_int_ops st c)
body_put g calls z width before below st c low fits top narrow is t small lt enough e f l =
    let word : ℕ = cast_unsigned w32 z in
    let text : List ℕ = signed below (decimal (magnitude below word)) in
    let m : ℕ = 943 + (124 + 46 * (width - length text)) in
    let r8 : List Op = number_code (fixed_from 6) 0 10 ++ number_ops in
    let r7 : List Op = constant 9 32 ∷ r8 in
    let r6 : List Op = constant 8 45 ∷ r7 in
    let r5 : List Op = constant 7 2147483648 ∷ r6 in
    let r4 : List Op = constant 6 0 ∷ r5 in
    let r3 : List Op = constant 5 1 ∷ r4 in
    let r2 : List Op = constant 4 10 ∷ r3 in
    let r1 : List Op = frame 3 64 ∷ r2 in
    let s1 : State = set st 2 48 in
    let s2 : State = set s1 3 (st.frame + 256) in
    let s3 : State = set s2 4 10 in
    let s4 : State = set s3 5 1 in
    let s5 : State = set s4 6 0 in
    let s6 : State = set s5 7 2147483648 in
    let s7 : State = set s6 8 45 in
    let s8 : State = set s7 9 32 in
    let s9 : State = set s8 10 word in
    let known : Known word width (st.frame + 256) s9.env = record { width_is = f; glyph = refl; end_is = refl; ten = refl; one = refl; none = refl; top = refl; minus = refl; blank = refl; word_is = refl } in
    let d = magnitude_put g calls word width st.frame before low fits (omega arith) narrow below s9 (c + 5 + 7 + 5 + 5 + 5 + 5 + 5 + 5 + 10) t small lt enough known l in
    looser (m + 10 + 5 + 5 + 5 + 5 + 5 + 5 + 7 + 5) (omega arith)
    (after_set g calls (constant 2 48) r1 (m + 10 + 5 + 5 + 5 + 5 + 5 + 5 + 7) st c 2 48 5 (constant_goes 2 48)
    (after_set g calls (frame 3 64) r2 (m + 10 + 5 + 5 + 5 + 5 + 5 + 5) s1 (c + 5) 3 (st.frame + 256) 7 (frame_goes 3 64)
    (after_set g calls (constant 4 10) r3 (m + 10 + 5 + 5 + 5 + 5 + 5) s2 (c + 5 + 7) 4 10 5 (constant_goes 4 10)
    (after_set g calls (constant 5 1) r4 (m + 10 + 5 + 5 + 5 + 5) s3 (c + 5 + 7 + 5) 5 1 5 (constant_goes 5 1)
    (after_set g calls (constant 6 0) r5 (m + 10 + 5 + 5 + 5) s4 (c + 5 + 7 + 5 + 5) 6 0 5 (constant_goes 6 0)
    (after_set g calls (constant 7 2147483648) r6 (m + 10 + 5 + 5) s5 (c + 5 + 7 + 5 + 5 + 5) 7 2147483648 5 (constant_goes 7 2147483648)
    (after_set g calls (constant 8 45) r7 (m + 10 + 5) s6 (c + 5 + 7 + 5 + 5 + 5 + 5) 8 45 5 (constant_goes 8 45)
    (after_set g calls (constant 9 32) r8 (m + 10) s7 (c + 5 + 7 + 5 + 5 + 5 + 5 + 5) 9 32 5 (constant_goes 9 32)
    (after_number g calls z number_ops m s8 (c + 5 + 7 + 5 + 5 + 5 + 5 + 5 + 5) e refl refl is d)))))))))
  where
    looser : {base : ℕ} {before : Cells} {bytes : List ℕ} {most : ℕ} {st : State} {c : ℕ} {r : Run} (m : ℕ) → m ≤ most → Done base before bytes m st c r → Done base before bytes most st c r
    looser {most = most} {c = c} m le d = record {
      env = d.env;
      cells = d.cells;
      others = d.others;
      cost = d.cost;
      is = d.is;
      same = d.same;
      paid = d.paid;
      begun = d.begun;
      bound = let w : d.cost ≤ c + m = d.bound in omega arith;
    }
