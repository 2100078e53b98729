-- The loop that stores the digits.
use Rattle.std.proofs.Common.{◌≡◌, ℕ, zero, suc, ◌+◌, ◌*◌, ◌/◌, ◌%◌, ◌<◌, ◌≤◌, List, [], ◌∷◌, Bool, true, false, Some, refl, sym, ap, ◌∙◌, subst, length, arith}
use Rattle.std.specs.Prelude.{◌==◌, ◌^◌, nat_lt, decimal, if◌then◌else◌}
use Rattle.std.specs.Fmt.{digits, digits_onto, digit_glyph}
use Rattle.std.proofs.lemmas.Bool.Decides.{nat_tests}
use Rattle.rv_isa.specs.declared.instr.RegisterOp.TheVariants.{Add, Sub, Divu, Remu}
use Rattle.rv_isa.specs.declared.instr.Relation.TheVariants.{Equal}
use Rattle.ir_form.specs.Cells.{Cells, with_byte, is_open}
use Rattle.ir_form.specs.Place.{Setting}
use Rattle.ir_form.specs.State.{State, Run, needs, listed, on_run, with_value}
use Rattle.ir_form.specs.Plain.{Calls}
use Rattle.ir_form.specs.Meaning.{Cycle, rounds, after_run, takes_words, run, run_list}
use Rattle.ir_code.proofs.Steps.{set, AllGo, none, ◌▸◌}
use Rattle.rt_stream.specs.Pieces.{leave_with}
use Rattle.rt_stream.specs.Routines.{digit_ops, digits_op}
use Rattle.rt_stream.proofs.Pieces.{below_one, cycle_with, cycle_runs, AllLeave, leaves, ◌▷◌, leave_goes, compute_gives, byte_goes, first_leaves, other_stays}
use Rattle.rt_stream.proofs.Buffer.{Known, known_with, Lies, lies_next, open_next}
use Rattle.rt_stream.proofs.Rounds.{begun_by, Comes, carried}

glyph_test : (n : ℕ) → nat_lt (n % 10) 10 ≡ true
glyph_test n = grind (arith, nat_tests)

glyph_is : (n : ℕ) → digit_glyph false (n % 10) ≡ 48 + n % 10
glyph_is n = ap (λ t. if t then 48 + n % 10 else 87 + n % 10) (glyph_test n)

decimal_is : (n : ℕ) → decimal n ≡ digits_onto 64 10 false n []
unfolding digits
decimal_is n = refl

last_digit : (f n : ℕ) (bytes : List ℕ) → (n / 10 == 0) ≡ true → digits_onto (suc f) 10 false n bytes ≡ (48 + n % 10) ∷ bytes
last_digit f n bytes e =
    ap (λ t. if t then digit_glyph false (n % 10) ∷ bytes else digits_onto f 10 false (n / 10) (digit_glyph false (n % 10) ∷ bytes)) e
    ∙ ap (λ d. d ∷ bytes) (glyph_is n)

more_digits : (f n : ℕ) (bytes : List ℕ) → (n / 10 == 0) ≡ false → digits_onto (suc f) 10 false n bytes ≡ digits_onto f 10 false (n / 10) ((48 + n % 10) ∷ bytes)
more_digits f n bytes e =
    ap (λ t. if t then digit_glyph false (n % 10) ∷ bytes else digits_onto f 10 false (n / 10) (digit_glyph false (n % 10) ∷ bytes)) e
    ∙ ap (λ d. digits_onto f 10 false (n / 10) (d ∷ bytes)) (glyph_is n)

glyph_word : (n : ℕ) → (n % 10 + 48) % 4294967296 ≡ 48 + n % 10
glyph_word n = omega arith

glyph_small : (n : ℕ) → 48 + n % 10 < 256
glyph_small n = omega arith

-- where a round has come to
abbrev round_state : State → (n a : ℕ) → State
round_state st n a = set (record (set (set (set st 15 (n % 10)) 16 (48 + n % 10)) 17 a) { cells = with_byte st.cells a (48 + n % 10) }) 18 (n / 10)

module _ (g : Setting) (calls : Calls) (word width end : ℕ) where
  round_leaves : (n a : ℕ) (st : State) (c : ℕ) → Known word width end st.env → st.env 13 ≡ Some n → st.env 14 ≡ Some (a + 1) → a < 4294967295 → is_open (st.cells a) ≡ true → (n / 10 == 0) ≡ true → AllLeave g calls digit_ops st c (a ∷ []) (round_state st n a) (c + 10 + 10 + 10 + 7 + 10 + 13 + 7 + 12)
  round_leaves n a st c k e f lt o t =
      compute_gives 15 Remu 13 4 n 10 (n % 10) e k.ten refl ▷ compute_gives 16 Add 15 2 (n % 10) 48 (48 + n % 10) refl k.glyph (glyph_word n)
      ▷ compute_gives 17 Sub 14 5 (a + 1) 1 a f k.one (below_one a lt) ▷ byte_goes 17 16 a (48 + n % 10) refl refl o (glyph_small n)
      ▷ compute_gives 18 Divu 13 4 n 10 (n / 10) e k.ten refl
      ▷ leaves [] (first_leaves Equal 18 6 (n / 10) 0 (leave_with 17 ∷ []) refl k.none t (leaves [] (leave_goes 17 a refl)))

  round_goes : (n a : ℕ) (st : State) (c : ℕ) → Known word width end st.env → st.env 13 ≡ Some n → st.env 14 ≡ Some (a + 1) → a < 4294967295 → is_open (st.cells a) ≡ true → (n / 10 == 0) ≡ false → AllGo g calls digit_ops st c (round_state st n a) (c + 10 + 10 + 10 + 7 + 10 + 13 + 0)
  round_goes n a st c k e f lt o t =
      compute_gives 15 Remu 13 4 n 10 (n % 10) e k.ten refl ▸ compute_gives 16 Add 15 2 (n % 10) 48 (48 + n % 10) refl k.glyph (glyph_word n)
      ▸ compute_gives 17 Sub 14 5 (a + 1) 1 a f k.one (below_one a lt) ▸ byte_goes 17 16 a (48 + n % 10) refl refl o (glyph_small n)
      ▸ compute_gives 18 Divu 13 4 n 10 (n / 10) e k.ten refl
      ▸ other_stays Equal 18 6 (n / 10) 0 (leave_with 17 ∷ []) refl k.none t ▸ none

abbrev digit_cycle : Cycle
digit_cycle = cycle_with (13 ∷ 14 ∷ []) (18 ∷ 17 ∷ []) (19 ∷ [])

-- rounds from there on, and those behind one
abbrev digit_rounds : Setting → Calls → ℕ → Bool → State → ℕ → Run
digit_rounds g calls m again st c = rounds digit_cycle (run_list g calls digit_ops) m again st c

abbrev after_digit : Setting → Calls → ℕ → Run → Run
after_digit g calls m r = after_run digit_cycle (rounds digit_cycle (run_list g calls digit_ops) m true) r

-- the next round's values
abbrev handed : State → (n a : ℕ) → State
handed st n a = let su = round_state st n a in record su { env = with_value (with_value su.env 13 (n / 10)) 14 a }

known_round : {word width end : ℕ} (st : State) (n a : ℕ) → Known word width end st.env → Known word width end (round_state st n a).env
known_round st n a k = known_with 18 (n / 10) (omega arith) (known_with 17 a (omega arith) (known_with 16 (48 + n % 10) (omega arith) (known_with 15 (n % 10) (omega arith) k)))

tenth : (k n : ℕ) → n < 10 ^ suc (suc k) → n / 10 < 10 ^ suc k
tenth k n lt = omega arith

not_short : (n : ℕ) → n < 10 ^ 1 → (n / 10 == 0) ≡ false → ⊥
not_short n lt t = let z : n / 10 ≡ 0 = omega arith in grind (arith, nat_tests, z, t)

module _ (g : Setting) (calls : Calls) (word width base : ℕ) (before : Cells) (high : base + 256 ≤ 4294967295) where
  -- that digits of n are stored before the bytes, from a state at a cost on
  abbrev Stores : (k : ℕ) → (text : List ℕ) → State → ℕ → Run → Type 0
  Stores k text st c r = Comes word width base before 19 text (suc k) (88 * suc k) st c r

  -- the rounds after this one
  Later : ℕ → Type 0
  Later m = (k f n a : ℕ) (bytes text : List ℕ) (st : State) (c : ℕ) → n < 10 ^ suc k → k ≤ f → length bytes + suc k ≤ 10 → suc k ≤ st.others → suc k ≤ m → st.env 13 ≡ Some n → st.env 14 ≡ Some a → Known word width (base + 256) st.env → Lies base before a bytes st.cells → digits_onto (suc f) 10 false n bytes ≡ text → Stores k text st c (digit_rounds g calls m true st c)

  last_round : (m n a : ℕ) (bytes text : List ℕ) (st : State) (c k f o : ℕ) → (n / 10 == 0) ≡ true → st.others ≤ o + 1 → base ≤ a → a < 4294967295 → st.env 13 ≡ Some n → st.env 14 ≡ Some (a + 1) → Known word width (base + 256) st.env → Lies base before (a + 1) bytes st.cells → digits_onto (suc f) 10 false n bytes ≡ text → Stores k text st c (after_digit g calls m (run_list g calls digit_ops (record st { others = o }) c))
  last_round m n a bytes text st c k f o t enough low lt e d known l is =
      let st' : State = record st { others = o } in
      let all = round_leaves g calls word width (base + 256) n a st' c known e d lt (open_next low l) t in
      record {
        env = with_value (round_state st' n a).env 19 a;
        cells = with_byte st.cells a (48 + n % 10);
        others = o;
        cost = c + 10 + 10 + 10 + 7 + 10 + 13 + 7 + 12;
        at = a;
        is = ap (after_digit g calls m) all.is;
        first = refl;
        known = known_with 19 a (omega arith) (known_round st' n a known);
        lies = subst (λ bs. Lies base before a bs (with_byte st.cells a (48 + n % 10))) (sym (last_digit f n bytes t) ∙ is) (lies_next (48 + n % 10) low l);
        left = omega arith;
        paid = omega arith;
        begun = omega arith;
        bound = omega arith;
      }

  next_round : (m n a : ℕ) (bytes text : List ℕ) (st : State) (c : ℕ) → Later m → (k f o : ℕ) → (n / 10 == 0) ≡ false → st.others ≤ o + 1 → base ≤ a → a < 4294967295 → n < 10 ^ suc (suc k) → k ≤ f → length bytes + suc (suc k) ≤ 10 → suc (suc k) ≤ st.others → suc k ≤ m → st.env 13 ≡ Some n → st.env 14 ≡ Some (a + 1) → Known word width (base + 256) st.env → Lies base before (a + 1) bytes st.cells → digits_onto (suc (suc f)) 10 false n bytes ≡ text → Stores (suc k) text st c (after_digit g calls m (run_list g calls digit_ops (record st { others = o }) c))
  unfolding Later
  next_round m n a bytes text st c later k f o t enough low lt small fuel few some' more e d known l is =
      let st' : State = record st { others = o } in
      let su : State = handed st' n a in
      let i : ℕ = c + 10 + 10 + 10 + 7 + 10 + 13 + 0 + 4 + 24 in
      let all = round_goes g calls word width (base + 256) n a st' c known e d lt (open_next low l) t in
      let p = later k f (n / 10) a ((48 + n % 10) ∷ bytes) text su i (tenth k n small) fuel (omega arith) (omega arith) more refl refl
      (known_with 14 a (omega arith) (known_with 13 (n / 10) (omega arith) (known_round st' n a known))) (lies_next (48 + n % 10) low l) (sym (more_digits (suc f) n bytes t) ∙ is) in
      carried (suc (suc k)) (88 * suc (suc k)) st c su.env su.cells o i (ap (after_digit g calls m) all.is) p (omega arith) (omega arith) (omega arith) (omega arith)

  one_round : (m n a : ℕ) (bytes text : List ℕ) (st : State) (c : ℕ) → Later m → (t : Bool) → (n / 10 == 0) ≡ t → (k f o : ℕ) → st.others ≤ o + 1 → base ≤ a → a < 4294967295 → n < 10 ^ suc k → k ≤ f → length bytes + suc k ≤ 10 → suc k ≤ st.others → suc k ≤ suc m → st.env 13 ≡ Some n → st.env 14 ≡ Some (a + 1) → Known word width (base + 256) st.env → Lies base before (a + 1) bytes st.cells → digits_onto (suc f) 10 false n bytes ≡ text → Stores k text st c (after_digit g calls m (run_list g calls digit_ops (record st { others = o }) c))
  one_round m n a bytes text st c later true t k f o enough low lt small fuel few some' more e d known l is = last_round m n a bytes text st c k f o t enough low lt e d known l is
  one_round m n a bytes text st c later false t zero f o enough low lt small fuel few some' more e d known l is = absurd (not_short n small t)
  one_round m n a bytes text st c later false t (suc k) zero o enough low lt small fuel few some' more e d known l is = absurd (omega arith)
  one_round m n a bytes text st c later false t (suc k) (suc f) o enough low lt small fuel few some' more e d known l is =
      next_round m n a bytes text st c later k f o t enough low lt small (omega arith) few some' (omega arith) e d known l is

  digits_stored : (m : ℕ) (again : Bool) (k f n a : ℕ) (bytes text : List ℕ) (st : State) (c : ℕ) → n < 10 ^ suc k → k ≤ f → length bytes + suc k ≤ 10 → suc k ≤ st.others → suc k ≤ m → st.env 13 ≡ Some n → st.env 14 ≡ Some a → Known word width (base + 256) st.env → Lies base before a bytes st.cells → digits_onto (suc f) 10 false n bytes ≡ text → Stores k text st c (digit_rounds g calls m again st c)
  unfolding Later
  digits_stored zero again k f n a bytes text st c small fuel few some' more e d known l is = absurd (omega arith)
  digits_stored (suc m) again k f n zero bytes text st c small fuel few some' more e d known l is = let q : 0 + length bytes ≡ base + 256 = l.size in absurd (omega arith)
  digits_stored (suc m) again k f n (suc a) bytes text st c small fuel few some' more e d known l is =
      let b = begun_by again st.others st c refl (omega arith) in
      let q : suc a + length bytes ≡ base + 256 = l.size in
      let s : suc a ≡ a + 1 = omega arith in
      subst (Stores k text st c) (sym (ap (λ r. on_run r (λ su i. after_digit g calls m (run_list g calls digit_ops su i))) b.is))
      (one_round m n a bytes text st c (λ k f n a bytes text st c. digits_stored m true k f n a bytes text st c) (n / 10 == 0) refl k f b.others b.enough (omega arith) (omega arith) small fuel few some' more e (d ∙ ap Some s) known (subst (λ x. Lies base before x bytes st.cells) s l) is)

  -- The digits are stored at the end of an empty buffer.
  pub digits_come : (n : ℕ) (st : State) (c : ℕ) → n ≤ 2147483647 → 10 ≤ st.others → st.env 12 ≡ Some n → Known word width (base + 256) st.env → Lies base before (base + 256) [] st.cells → Comes word width base before 19 (decimal n) 10 908 st c (run g calls digits_op st c)
  digits_come n st c small some' e known l =
      let su : State = record st { env = with_value (with_value st.env 13 n) 14 (base + 256) } in
      let all : run g calls digits_op st c ≡ digit_rounds g calls (suc (suc (st.turns + st.others))) false su (c + 4 + 24) =
      cycle_runs g calls (12 ∷ 3 ∷ []) (13 ∷ 14 ∷ []) digit_ops (18 ∷ 17 ∷ []) (19 ∷ []) st c
      ∙ ap (λ o. on_run (needs o st (c + 4) (λ ws. takes_words (13 ∷ 14 ∷ []) ws st (c + 4 + 24))) (λ sv k. digit_rounds g calls (suc (suc (sv.turns + sv.others))) false sv k)) (λ i. listed (e i) (listed (known.end_is i) (Some []))) in
      let p = digits_stored (suc (suc (st.turns + st.others))) false 9 63 n (base + 256) [] (decimal n) su (c + 4 + 24) (omega arith) (omega arith) (omega arith) some' (omega arith) refl refl
      (known_with 14 (base + 256) (omega arith) (known_with 13 n (omega arith) known)) l (sym (decimal_is n)) in
      carried 10 908 st c su.env st.cells st.others (c + 4 + 24) all p (omega arith) (omega arith) (omega arith) (omega arith)
