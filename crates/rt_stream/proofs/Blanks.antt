-- The loop that stores blanks up to the width.
use Rattle.std.proofs.Common.{◌≡◌, ℕ, zero, suc, ◌+◌, ◌-◌, ◌*◌, ◌<◌, ◌≤◌, List, [], ◌∷◌, ◌++◌, Bool, true, false, Some, refl, sym, ap, ◌∙◌, subst, length, arith}
use Rattle.std.specs.Prelude.{nat_lt, replicate}
use Rattle.rv_isa.specs.declared.instr.RegisterOp.TheVariants.{Sub}
use Rattle.rv_isa.specs.declared.instr.Relation.TheVariants.{LessUnsigned}
use Rattle.ir_form.specs.Cells.{Cells, with_byte, is_open}
use Rattle.ir_form.specs.Place.{Setting}
use Rattle.ir_form.specs.State.{State, Run, needs, listed, on_run, with_value}
use Rattle.ir_form.specs.Plain.{Calls}
use Rattle.ir_form.specs.Meaning.{Cycle, rounds, after_run, takes_words, run, run_list}
use Rattle.ir_code.proofs.Steps.{set, AllGo, none, ◌▸◌}
use Rattle.rt_stream.specs.Pieces.{leave_with}
use Rattle.rt_stream.specs.Routines.{blank_ops, blanks_op}
use Rattle.rt_stream.proofs.Pieces.{below_one, cycle_with, cycle_runs, AllLeave, leaves, leave_goes, compute_gives, byte_goes, other_leaves, first_stays}
use Rattle.rt_stream.proofs.Buffer.{is_below, not_below, Known, known_with, Lies, lies_next, open_next}
use Rattle.rt_stream.proofs.Rounds.{begun_by, Comes, carried}

one_more : (b : ℕ) (bytes : List ℕ) → replicate b 32 ++ (32 ∷ bytes) ≡ replicate (suc b) 32 ++ bytes
one_more zero bytes = refl
one_more (suc b) bytes = ap (λ xs. 32 ∷ xs) (one_more b bytes)

abbrev round_state : State → (a : ℕ) → State
round_state st a = record (set st 24 a) { cells = with_byte st.cells a 32 }

module _ (g : Setting) (calls : Calls) (word width end : ℕ) where
  round_leaves : (begin a : ℕ) (st : State) (c : ℕ) → st.env 22 ≡ Some begin → st.env 23 ≡ Some a → nat_lt begin a ≡ false → AllLeave g calls blank_ops st c (a ∷ []) st (c + 13 + 7 + 12)
  round_leaves begin a st c e f t = leaves _ (other_leaves LessUnsigned 22 23 begin a (leave_with 23 ∷ []) e f t (leaves [] (leave_goes 23 a f)))

  round_goes : (begin a : ℕ) (st : State) (c : ℕ) → Known word width end st.env → st.env 22 ≡ Some begin → st.env 23 ≡ Some (a + 1) → a < 4294967295 → is_open (st.cells a) ≡ true → nat_lt begin (a + 1) ≡ true → AllGo g calls blank_ops st c (round_state st a) (c + 13 + 0 + 10 + 7)
  round_goes begin a st c k e f lt o t =
      first_stays LessUnsigned 22 23 begin (a + 1) (leave_with 23 ∷ []) e f t ▸ compute_gives 24 Sub 23 5 (a + 1) 1 a f k.one (below_one a lt)
      ▸ byte_goes 24 9 a 32 refl k.blank o (omega arith) ▸ none

abbrev blank_cycle : Cycle
blank_cycle = cycle_with (23 ∷ []) (24 ∷ []) (25 ∷ [])

abbrev blank_rounds : Setting → Calls → ℕ → Bool → State → ℕ → Run
blank_rounds g calls m again st c = rounds blank_cycle (run_list g calls blank_ops) m again st c

abbrev after_blank : Setting → Calls → ℕ → Run → Run
after_blank g calls m r = after_run blank_cycle (rounds blank_cycle (run_list g calls blank_ops) m true) r

abbrev handed : State → (a : ℕ) → State
handed st a = let su = round_state st a in record su { env = with_value su.env 23 a }

module _ (g : Setting) (calls : Calls) (word width base : ℕ) (before : Cells) (begin : ℕ) (some : 1 ≤ base) (low : base ≤ begin) (high : base + 256 ≤ 4294967295) where
  abbrev Stores : (b : ℕ) → (text : List ℕ) → State → ℕ → Run → Type 0
  Stores b text st c r = Comes word width base before 25 text (suc b) (46 * b + 32) st c r

  Later : ℕ → Type 0
  Later m = (b a : ℕ) (bytes text : List ℕ) (st : State) (c : ℕ) → a - begin ≡ b → base ≤ a → suc b ≤ st.others → suc b ≤ m → st.env 22 ≡ Some begin → st.env 23 ≡ Some a → Known word width (base + 256) st.env → Lies base before a bytes st.cells → replicate b 32 ++ bytes ≡ text → Stores b text st c (blank_rounds g calls m true st c)

  last_round : (m a : ℕ) (bytes text : List ℕ) (st : State) (c b o : ℕ) → nat_lt begin a ≡ false → a - begin ≡ b → st.others ≤ o + 1 → st.env 22 ≡ Some begin → st.env 23 ≡ Some a → Known word width (base + 256) st.env → Lies base before a bytes st.cells → replicate b 32 ++ bytes ≡ text → Stores b text st c (after_blank g calls m (run_list g calls blank_ops (record st { others = o }) c))
  last_round m a bytes text st c b o t gap enough e d known l is =
      let st' : State = record st { others = o } in
      let all = round_leaves g calls word width (base + 256) begin a st' c e d t in
      let le : a ≤ begin = not_below begin a t in
      let z : 0 ≡ b = omega arith in
      record {
        env = with_value st.env 25 a;
        cells = st.cells;
        others = o;
        cost = c + 13 + 7 + 12;
        at = a;
        is = ap (after_blank g calls m) all.is;
        first = refl;
        known = known_with 25 a (omega arith) known;
        lies = subst (λ bs. Lies base before a bs st.cells) (ap (λ k. replicate k 32 ++ bytes) z ∙ is) l;
        left = omega arith;
        paid = omega arith;
        begun = omega arith;
        bound = omega arith;
      }

  next_round : (m a : ℕ) (bytes text : List ℕ) (st : State) (c : ℕ) → Later m → (b o : ℕ) → nat_lt begin (a + 1) ≡ true → a + 1 - begin ≡ suc b → st.others ≤ o + 1 → base ≤ a → a < 4294967295 → suc (suc b) ≤ st.others → suc b ≤ m → st.env 22 ≡ Some begin → st.env 23 ≡ Some (a + 1) → Known word width (base + 256) st.env → Lies base before (a + 1) bytes st.cells → replicate (suc b) 32 ++ bytes ≡ text → Stores (suc b) text st c (after_blank g calls m (run_list g calls blank_ops (record st { others = o }) c))
  unfolding Later
  next_round m a bytes text st c later b o t gap enough above lt some' more e d known l is =
      let st' : State = record st { others = o } in
      let su : State = handed st' a in
      let i : ℕ = c + 13 + 0 + 10 + 7 + 4 + 12 in
      let all = round_goes g calls word width (base + 256) begin a st' c known e d lt (open_next above l) t in
      let p = later b a (32 ∷ bytes) text su i (omega arith) above (omega arith) more e refl
      (known_with 23 a (omega arith) (known_with 24 a (omega arith) known)) (lies_next 32 above l) (one_more b bytes ∙ is) in
      carried (suc (suc b)) (46 * suc b + 32) st c su.env su.cells o i (ap (after_blank g calls m) all.is) p (omega arith) (omega arith) (omega arith) (omega arith)

  one_round : (m a : ℕ) (bytes text : List ℕ) (st : State) (c : ℕ) → Later m → (t : Bool) → nat_lt begin (a + 1) ≡ t → (b o : ℕ) → a + 1 - begin ≡ b → st.others ≤ o + 1 → a < 4294967295 → suc b ≤ st.others → suc b ≤ suc m → st.env 22 ≡ Some begin → st.env 23 ≡ Some (a + 1) → Known word width (base + 256) st.env → Lies base before (a + 1) bytes st.cells → replicate b 32 ++ bytes ≡ text → Stores b text st c (after_blank g calls m (run_list g calls blank_ops (record st { others = o }) c))
  one_round m a bytes text st c later false t b o gap enough lt some' more e d known l is = last_round m (a + 1) bytes text st c b o t gap enough e d known l is
  one_round m a bytes text st c later true t zero o gap enough lt some' more e d known l is = let q : begin < a + 1 = is_below begin (a + 1) t in absurd (omega arith)
  one_round m a bytes text st c later true t (suc b) o gap enough lt some' more e d known l is =
      let q : begin < a + 1 = is_below begin (a + 1) t in
      next_round m a bytes text st c later b o t gap enough (omega arith) lt some' (omega arith) e d known l is

  blanks_stored : (m : ℕ) (again : Bool) (b a : ℕ) (bytes text : List ℕ) (st : State) (c : ℕ) → a - begin ≡ b → base ≤ a → suc b ≤ st.others → suc b ≤ m → st.env 22 ≡ Some begin → st.env 23 ≡ Some a → Known word width (base + 256) st.env → Lies base before a bytes st.cells → replicate b 32 ++ bytes ≡ text → Stores b text st c (blank_rounds g calls m again st c)
  unfolding Later
  blanks_stored zero again b a bytes text st c gap above some' more e d known l is = absurd (omega arith)
  blanks_stored (suc m) again b zero bytes text st c gap above some' more e d known l is = absurd (omega arith)
  blanks_stored (suc m) again b (suc a) bytes text st c gap above some' more e d known l is =
      let r = begun_by again st.others st c refl (omega arith) in
      let q : suc a + length bytes ≡ base + 256 = l.size in
      let s : suc a ≡ a + 1 = omega arith in
      subst (Stores b text st c) (sym (ap (λ f. on_run f (λ su i. after_blank g calls m (run_list g calls blank_ops su i))) r.is))
      (one_round m a bytes text st c (λ b a bytes text st c. blanks_stored m true b a bytes text st c) (nat_lt begin (a + 1)) refl b r.others (omega arith) r.enough (omega arith) some' more e (d ∙ ap Some s) known (subst (λ x. Lies base before x bytes st.cells) s l) is)

  -- Blanks are stored before the bytes from an address on, up to where a text of the width begins.
  pub blanks_come : (a b : ℕ) (bytes : List ℕ) (st : State) (c : ℕ) → a - begin ≡ b → base ≤ a → suc b ≤ st.others → st.env 22 ≡ Some begin → st.env 21 ≡ Some a → Known word width (base + 256) st.env → Lies base before a bytes st.cells → Comes word width base before 25 (replicate b 32 ++ bytes) (suc b) (46 * b + 48) st c (run g calls blanks_op st c)
  blanks_come a b bytes st c gap above some' e d known l =
      let su : State = record st { env = with_value st.env 23 a } in
      let all : run g calls blanks_op st c ≡ blank_rounds g calls (suc (suc (st.turns + st.others))) false su (c + 4 + 12) =
      cycle_runs g calls (21 ∷ []) (23 ∷ []) blank_ops (24 ∷ []) (25 ∷ []) st c
      ∙ ap (λ o. on_run (needs (listed o (Some [])) st (c + 4) (λ ws. takes_words (23 ∷ []) ws st (c + 4 + 12))) (λ sv k. blank_rounds g calls (suc (suc (sv.turns + sv.others))) false sv k)) d in
      let p = blanks_stored (suc (suc (st.turns + st.others))) false b a bytes (replicate b 32 ++ bytes) su (c + 4 + 12) gap above some' (omega arith) e refl
      (known_with 23 a (omega arith) known) l refl in
      carried (suc b) (46 * b + 48) st c su.env st.cells st.others (c + 4 + 12) all p (omega arith) (omega arith) (omega arith) (omega arith)
