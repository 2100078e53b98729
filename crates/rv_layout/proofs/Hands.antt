-- A hand-over runs in lock step.
use Rattle.std.proofs.Common.{◌≡◌, ◌≢◌, ◌⊎◌, inl, inr, ℕ, suc, ◌+◌, ◌*◌, ◌≤◌, List, [], ◌∷◌, ◌++◌, length, append_assoc, Bool, true, false, eqb, Some, refl, arith, ap, sym, ◌∙◌, subst}
use Rattle.std.specs.Prelude.{slice_get, ◌||◌, ◌&&◌, if◌then◌else◌, All}
use Rattle.std.specs.List.{AllByRecursion as Each}
use Rattle.std.proofs.lemmas.Bool.{eqb-true, eq-eqb, ne_eqb}
use Rattle.std.proofs.lemmas.List.Elements.{All-head, All-tail}
use Rattle.rv_isa.specs.declared.instr.Instr.{Instr}
use Rattle.rv_isa.specs.declared.instr.Instr.TheVariants.{Immediate}
use Rattle.rv_isa.specs.declared.instr.ImmediateOp.TheVariants.{Addi}
use Rattle.rv_isa.specs.Memory.{Memory, word_at, with_word}
use Rattle.rv_isa.specs.Step.{Registers, with_any}
use Rattle.rv_image.specs.Streams.{World}
use Rattle.ir_form.specs.Place.{Setting}
use Rattle.ir_form.specs.Cells.{Cells}
use Rattle.ir_form.specs.Meaning.{takes_words}
use Rattle.ir_form.specs.State.{Env, State, with_value, words_of, bound}
use Rattle.ir_form.specs.Units.{Head, no_values}
use Rattle.rv_flat.specs.declared.linear.Instruction.TheVariants.{Hand}
use Rattle.rv_flat.specs.declared.linear.LinearRoutine.{LinearRoutine}
use Rattle.rv_flat.specs.declared.linear.Linear.{Linear}
use Rattle.rv_flat.specs.Linear.{price}
use Rattle.rv_flat.specs.Parts.{IsDistinct}
use Rattle.rv_flat.specs.Units.{head_of}
use Rattle.rv_frames.specs.Frames.{Caller, Running, goes_on_run, executes}
use Rattle.rv_runs.specs.Moments.{Ground, Moment, Live, Comes}
use Rattle.rv_runs.proofs.Comes.{widen}
use Rattle.rv_runs.proofs.Places.{stands_left}
use Rattle.rv_runs.proofs.Steps.{cpu, nothing}
use Rattle.rv_layout.specs.Pieces.{load_by, store_by}
use Rattle.rv_layout.specs.Rooms.{slot, head_at}
use Rattle.rv_layout.specs.Moves.{Move, Copy, Swap, is_among, moves, are_near, is_mixed, copy_words, swap_words, move_words}
use Rattle.rv_layout.specs.Ready.{InSlot}
use Rattle.rv_layout.specs.Held.{Code, Layout, Laid, lowest, Slots, Held, Fast, LiveAt, Same}
use Rattle.rv_layout.proofs.Slots.{behind, after, load_then, store_then}
use Rattle.rv_layout.proofs.Stores.{word_again, held_defined}
use Rattle.rv_layout.proofs.Access.{slot_word}
use Rattle.rv_layout.proofs.Moving.{moved_by, moved, Differ, stays, at_once, count, Names, named, listed_parts, handed, as_many}
use Rattle.rv_layout.proofs.Begins.{Sane, needed, begins, goes_on}
use Rattle.rv_layout.proofs.Callable.{each_left, each_right}
use Rattle.rv_isa.proofs.Words.{word_other}

-- values that differ
among_none : (x : ℕ) (xs : List ℕ) → All (λ y. y ≢ x) xs → is_among xs x ≡ false
among_none x [] h = refl
among_none x (y ∷ ys) h =
    let ne : y ≢ x = All-head (λ z. z ≢ x) y ys h in
    let e : eqb x y ≡ false = ne_eqb x y (λ p. ne (sym p)) in
    rw (e, among_none x ys (All-tail (λ z. z ≢ x) y ys h)) refl

differ : (xs : List ℕ) → IsDistinct xs → Differ xs
differ [] h = tt
differ (x ∷ xs) h = (among_none x xs h.0, differ xs h.1)

abbrev put : (ℕ → ℕ) → (a w : ℕ) → ℕ → ℕ
put v a w x = if eqb x a then w else v x

-- a copy that stores back what it has loaded, and an exchange, as two stores
copied_at : (v : ℕ → ℕ) (t f x : ℕ) (b : Bool) → (b ≡ true → x ≡ f) → (if b then v f else if eqb x t then v f else v x) ≡ moved_by (Copy t f) v x
copied_at v t f x false e = refl
copied_at v t f x true e = same (eqb x t)
  where
    same : (c : Bool) → v f ≡ (if c then v f else v x)
    same true = refl
    same false = ap v (sym (e refl))

swapped_at : (v : ℕ → ℕ) (t f x : ℕ) (b c : Bool) → (b ≡ true → x ≡ f) → (c ≡ true → x ≡ t) → (if b then v t else if c then v f else v x) ≡ v (if c then f else if b then t else x)
swapped_at v t f x true true e d = ap v (sym (d refl) ∙ e refl)
swapped_at v t f x true false e d = refl
swapped_at v t f x false true e d = refl
swapped_at v t f x false false e d = refl

module _ (g : Ground) (gs : Setting) (l : Linear) (y : Layout) (laid : Laid g gs l y) (h : Head) (rooms deeper frame taken : ℕ) (cells : Cells) (callers : List Caller) (w : World) where
  -- what is in the slots, whatever it is
  record Words (m : Memory) (v : ℕ → ℕ) : Type 0 where
    words : (x : ℕ) → InSlot h x → word_at m (frame + slot h x) ≡ v x

  abbrev Alone : Memory → Type 0
  Alone m = Held g gs l y h rooms deeper frame taken no_values cells callers m

  slots_less : (m : Memory) (env : Env) → Slots h m frame env → (to : Env) → ((x v : ℕ) → to x ≡ Some v → env x ≡ Some v) → Slots h m frame to
  slots_less m env is to f = record { slots = λ x v e. is.slots x v (f x v e) }

  -- the values may be others, where they are in their slots
  pub with_env : (m : Memory) (env to : Env) → Held g gs l y h rooms deeper frame taken env cells callers m → Slots h m frame to → Held g gs l y h rooms deeper frame taken to cells callers m
  with_env m env to is s = record { active = is.active; slots = s; below = is.below; bytes = is.bytes; free = is.free; fixed = is.fixed }

  alone : (m : Memory) (env : Env) → Held g gs l y h rooms deeper frame taken env cells callers m → Alone m
  alone m env is = with_env m env no_values is (record { slots = λ x v e. absurd (cc) })

  stored : (m : Memory) (t v : ℕ) → InSlot h t → Alone m → Alone (with_word m (frame + slot h t) v)
  stored m t v lt is = alone (with_word m (frame + slot h t) v) (with_value no_values t v) (held_defined g gs l y h rooms deeper frame taken no_values cells callers m t v lt is)

  put_at : (m : Memory) (v : ℕ → ℕ) (t u x : ℕ) → InSlot h t → InSlot h x → word_at m (frame + slot h x) ≡ v x → (b : Bool) → eqb x t ≡ b → (b ≡ true → x ≡ t) → word_at (with_word m (frame + slot h t) u) (frame + slot h x) ≡ (if b then u else v x)
  put_at m v t u x lt lx e true q same = ap (λ z. word_at (with_word m (frame + slot h t) u) (frame + slot h z)) (same refl) ∙ word_again m (frame + slot h t) u
  put_at m v t u x lt lx e false q same =
      let ne : x ≢ t = λ p. absurd (no_both (sym (eq-eqb x t p) ∙ q)) in
      let o = lt.odd in
      let p = lx.odd in
      let apart : (frame + slot h x + 4 ≤ frame + slot h t) ⊎ (frame + slot h t + 4 ≤ frame + slot h x) = grind arith in
      word_other m (frame + slot h t) u (frame + slot h x) apart ∙ e
    where
      no_both : true ≡ false → ⊥
      no_both e = cc

  words_put : (m : Memory) (v : ℕ → ℕ) (t u : ℕ) → InSlot h t → Words m v → Words (with_word m (frame + slot h t) u) (put v t u)
  words_put m v t u lt is = record { words = λ x lx. put_at m v t u x lt lx (is.words x lx) (eqb x t) refl (eqb-true x t) }

  words_same : (m : Memory) (v u : ℕ → ℕ) → ((x : ℕ) → v x ≡ u x) → Words m v → Words m u
  words_same m v u f is = record { words = λ x lx. is.words x lx ∙ f x }

  -- a slot is loaded, and one is stored
  loads_then : (near : Bool) (a b : ℕ) (q : Registers) (m : Memory) (v : ℕ → ℕ) (pc last rd x : ℕ) (rest : List Instr) (P : Moment → Type 0) → Alone m → Words m v → q 2 ≡ frame → InSlot h x → eqb rd 0 ≡ false →
      Code g.space pc (load_by near rd 2 (slot h x) ++ rest) last → ((z n : ℕ) → Code g.space n rest last → Comes g a b (Live (cpu (with_any (with_any q 7 z) rd (v x)) m n) w) P) → Comes g (a + 1) (b + 3) (Live (cpu q m pc) w) P
  loads_then near a b q m v pc last rd x rest P is vs e lx n code f =
      let word = slot_word g gs l y laid h rooms deeper frame taken no_values cells callers m is x lx in
      load_then g a b q m pc w P near rd 2 (slot h x) (frame + slot h x) (stands_left g.space pc (load_by near rd 2 (slot h x)) rest code.stand) n refl (ap (λ p. p + slot h x) e) word.0
      (λ z. rw (vs.words x lx) (f z (pc + 4 * length (load_by near rd 2 (slot h x))) (behind g.space pc last (load_by near rd 2 (slot h x)) rest code)))

  stores_then : (near : Bool) (a b : ℕ) (q : Registers) (m : Memory) (v : ℕ → ℕ) (pc last from x u : ℕ) (rest : List Instr) (P : Moment → Type 0) → Alone m → Words m v → q 2 ≡ frame → InSlot h x → eqb from 7 ≡ false → q from ≡ u →
      Code g.space pc (store_by near from 2 (slot h x) ++ rest) last →
      ((z n : ℕ) → Alone (with_word m (frame + slot h x) u) → Words (with_word m (frame + slot h x) u) (put v x u) → Code g.space n rest last → Comes g a b (Live (cpu (with_any q 7 z) (with_word m (frame + slot h x) u) n) w) P) →
      Comes g (a + 1) (b + 3) (Live (cpu q m pc) w) P
  stores_then near a b q m v pc last from x u rest P is vs e lx n d code f =
      let word = slot_word g gs l y laid h rooms deeper frame taken no_values cells callers m is x lx in
      store_then g a b q m pc w P near from 2 (slot h x) (frame + slot h x) u (stands_left g.space pc (store_by near from 2 (slot h x)) rest code.stand) n refl (ap (λ p. p + slot h x) e) d word.1
      (λ z. f z (pc + 4 * length (store_by near from 2 (slot h x))) (stored m x u lx is) (words_put m v x u lx vs) (behind g.space pc last (store_by near from 2 (slot h x)) rest code))

  grouped : (pc last : ℕ) (xs ys zs : List Instr) → Code g.space pc ((xs ++ ys) ++ zs) last → Code g.space pc (xs ++ (ys ++ zs)) last
  grouped pc last xs ys zs c = subst (λ n. Code g.space pc n last) (append_assoc xs ys zs) c

  -- what follows moves
  abbrev Goes : (a b : ℕ) → (ℕ → ℕ) → ℕ → (Moment → Type 0) → Type 0
  Goes a b v last P = (p : Registers) (n : Memory) → Alone n → Words n v → Fast gs p (lowest gs rooms deeper) frame → Comes g a b (Live (cpu p n last) w) P

  -- one move
  abbrev Moved : Bool → Move → List Instr → Type 1
  Moved near mv ops = (a b : ℕ) (v : ℕ → ℕ) (q : Registers) (m : Memory) (pc last : ℕ) (rest : List Instr) (P : Moment → Type 0) → Alone m → Words m v → Fast gs q (lowest gs rooms deeper) frame → Code g.space pc (ops ++ rest) last →
      ((p : Registers) (n : Memory) (at : ℕ) → Alone n → Words n (moved_by mv v) → Fast gs p (lowest gs rooms deeper) frame → Code g.space at rest last → Comes g a b (Live (cpu p n at) w) P) → Comes g (a + 1 + 1) (b + 12) (Live (cpu q m pc) w) P

  copy_then : (near : Bool) (t f : ℕ) → InSlot h t → InSlot h f → Moved near (Copy t f) (copy_words near false (slot h t) (slot h f))
  unfolding with_any
  copy_then near t f lt lf a b v q m pc last rest P is vs e code k =
      let s : List Instr = store_by near 5 2 (slot h t) in
      widen g (a + 1 + 1) (b + 3 + 3) (a + 1 + 1) (b + 12) _ P
      (loads_then near (a + 1) (b + 3) q m v pc last 5 f (s ++ rest) P is vs e.2 lf refl (grouped pc last (load_by near 5 2 (slot h f)) s rest code) (λ z n code1.
      stores_then near a b (with_any (with_any q 7 z) 5 (v f)) m v n last 5 t (v f) rest P is vs e.2 lt refl refl code1 (λ z2 n2 is2 vs2 code2.
      k (with_any (with_any (with_any q 7 z) 5 (v f)) 7 z2) (with_word m (frame + slot h t) (v f)) n2 is2 vs2 e code2)))
      (omega arith) (omega arith)

  mixed_then : (near : Bool) (t f : ℕ) → InSlot h t → InSlot h f → Moved near (Copy t f) (copy_words near true (slot h t) (slot h f))
  unfolding with_any
  mixed_then near t f lt lf a b v q m pc last rest P is vs e code k =
      let o : ℕ = slot h t in
      let p : ℕ = slot h f in
      let s1 : List Instr = store_by near 5 2 p in
      let s2 : List Instr = store_by near 5 2 o ++ s1 in
      let s3 : List Instr = load_by near 6 2 o ++ s2 in
      widen g (a + 1 + 1 + 1 + 1) (b + 3 + 3 + 3 + 3) (a + 1 + 1) (b + 12) _ P
      (loads_then near (a + 1 + 1 + 1) (b + 3 + 3 + 3) q m v pc last 5 f (s3 ++ rest) P is vs e.2 lf refl (grouped pc last (load_by near 5 2 p) s3 rest code) (λ z n code1.
      let q1 : Registers = with_any (with_any q 7 z) 5 (v f) in
      loads_then near (a + 1 + 1) (b + 3 + 3) q1 m v n last 6 t (s2 ++ rest) P is vs e.2 lt refl (grouped n last (load_by near 6 2 o) s2 rest code1) (λ z1 n1 code2.
      let q2 : Registers = with_any (with_any q1 7 z1) 6 (v t) in
      stores_then near (a + 1) (b + 3) q2 m v n1 last 5 t (v f) (s1 ++ rest) P is vs e.2 lt refl refl (grouped n1 last (store_by near 5 2 o) s1 rest code2) (λ z2 n2 is2 vs2 code3.
      stores_then near a b (with_any q2 7 z2) (with_word m (frame + o) (v f)) (put v t (v f)) n2 last 5 f (v f) rest P is2 vs2 e.2 lf refl refl code3 (λ z3 n3 is3 vs3 code4.
      let n : Memory = with_word (with_word m (frame + o) (v f)) (frame + p) (v f) in
      k (with_any (with_any q2 7 z2) 7 z3) n n3 is3 (words_same n (put (put v t (v f)) f (v f)) (moved_by (Copy t f) v) (λ x. copied_at v t f x (eqb x f) (eqb-true x f)) vs3) e code4)))))
      (omega arith) (omega arith)

  swap_then : (near : Bool) (t f : ℕ) → InSlot h t → InSlot h f → Moved near (Swap t f) (swap_words near (slot h t) (slot h f))
  unfolding with_any
  swap_then near t f lt lf a b v q m pc last rest P is vs e code k =
      let o : ℕ = slot h t in
      let p : ℕ = slot h f in
      let s1 : List Instr = store_by near 6 2 p in
      let s2 : List Instr = store_by near 5 2 o ++ s1 in
      let s3 : List Instr = load_by near 6 2 o ++ s2 in
      widen g (a + 1 + 1 + 1 + 1) (b + 3 + 3 + 3 + 3) (a + 1 + 1) (b + 12) _ P
      (loads_then near (a + 1 + 1 + 1) (b + 3 + 3 + 3) q m v pc last 5 f (s3 ++ rest) P is vs e.2 lf refl (grouped pc last (load_by near 5 2 p) s3 rest code) (λ z n code1.
      let q1 : Registers = with_any (with_any q 7 z) 5 (v f) in
      loads_then near (a + 1 + 1) (b + 3 + 3) q1 m v n last 6 t (s2 ++ rest) P is vs e.2 lt refl (grouped n last (load_by near 6 2 o) s2 rest code1) (λ z1 n1 code2.
      let q2 : Registers = with_any (with_any q1 7 z1) 6 (v t) in
      stores_then near (a + 1) (b + 3) q2 m v n1 last 5 t (v f) (s1 ++ rest) P is vs e.2 lt refl refl (grouped n1 last (store_by near 5 2 o) s1 rest code2) (λ z2 n2 is2 vs2 code3.
      stores_then near a b (with_any q2 7 z2) (with_word m (frame + o) (v f)) (put v t (v f)) n2 last 6 f (v t) rest P is2 vs2 e.2 lf refl refl code3 (λ z3 n3 is3 vs3 code4.
      let n : Memory = with_word (with_word m (frame + o) (v f)) (frame + p) (v t) in
      k (with_any (with_any q2 7 z2) 7 z3) n n3 is3 (words_same n (put (put v t (v f)) f (v t)) (moved_by (Swap t f) v) (λ x. swapped_at v t f x (eqb x f) (eqb x t) (eqb-true x f) (eqb-true x t)) vs3) e code4)))))
      (omega arith) (omega arith)

  copies_then : (near mixed : Bool) (t f : ℕ) → InSlot h t → InSlot h f → Moved near (Copy t f) (copy_words near mixed (slot h t) (slot h f))
  copies_then near true t f = mixed_then near t f
  copies_then near false t f = copy_then near t f

  -- all moves
  moves_then : (near mixed : Bool) (ms : List Move) (a b : ℕ) (v : ℕ → ℕ) (q : Registers) (m : Memory) (pc last : ℕ) (P : Moment → Type 0) → Names (InSlot h) ms → Alone m → Words m v → Fast gs q (lowest gs rooms deeper) frame →
      Code g.space pc (move_words h near mixed ms) last → Goes a b (moved ms v) last P → Comes g a (b + 12 * length ms) (Live (cpu q m pc) w) P
  moves_then near mixed [] a b v q m pc last P nm is vs e code k =
      let end = code.end in
      let same : last ≡ pc = omega arith in
      widen g a b a (b + 12 * 0) _ P (subst (λ n. Comes g a b (Live (cpu q m n) w) P) same (k q m is vs e)) (omega arith) (omega arith)
  moves_then near mixed (Copy t f ∷ ms) a b v q m pc last P nm is vs e code k =
      widen g (a + 1 + 1) (b + 12 * length ms + 12) a (b + 12 * suc (length ms)) _ P
      (copies_then near mixed t f nm.0 nm.1 a (b + 12 * length ms) v q m pc last (move_words h near mixed ms) P is vs e code (λ p n at is2 vs2 e2 code2.
      moves_then near mixed ms a b (moved_by (Copy t f) v) p n at last P nm.2 is2 vs2 e2 code2 k))
      (omega arith) (omega arith)
  moves_then near mixed (Swap t f ∷ ms) a b v q m pc last P nm is vs e code k =
      widen g (a + 1 + 1) (b + 12 * length ms + 12) a (b + 12 * suc (length ms)) _ P
      (swap_then near t f nm.0 nm.1 a (b + 12 * length ms) v q m pc last (move_words h near mixed ms) P is vs e code (λ p n at is2 vs2 e2 code2.
      moves_then near mixed ms a b (moved_by (Swap t f) v) p n at last P nm.2 is2 vs2 e2 code2 k))
      (omega arith) (omega arith)

module _ (g : Ground) (gs : Setting) (l : Linear) (y : Layout) (laid : Laid g gs l y) (k i : ℕ) (r : LinearRoutine) (here : slice_get l.routines k ≡ Some r) (callers : List Caller) where
  abbrev ours : Head
  ours = head_of r

  abbrev to_next : ℕ
  to_next = y.place k (i + 1)

  -- where all are handed on, the values stand in their slots
  all_handed : (to from ws : List ℕ) (env env2 : Env) (m n : Memory) (frame : ℕ) → Slots ours m frame env → words_of env from ≡ Some ws → bound to ws env ≡ Some env2 → IsDistinct to → Each (InSlot ours) to → (v : ℕ → ℕ) → ((x : ℕ) → v x ≡ word_at m (frame + slot ours x)) →
      ((x : ℕ) → InSlot ours x → word_at n (frame + slot ours x) ≡ moved (moves to from) v x) → Slots ours n frame env2
  all_handed to from ws env env2 m n frame is ew b d lows v vm wn = record {
    slots = λ x w q.
        let agree : (x w : ℕ) → env x ≡ Some w → v x ≡ w = λ x w e. vm x ∙ (is.slots x w e).1 in
        let many = as_many env to from ws env env2 ew b in
        let r = handed env v agree to from ws ew env env2 b (differ to d) x w q in
        elim r.is [
          | inl p ↦ (let lx = among_named to x lows p.0 in (lx, wn x lx ∙ (at_once to from (differ to d) many v x ∙ p.1)))
          | inr p ↦ (let s = is.slots x w p.1 in (s.0, wn x s.0 ∙ (at_once to from (differ to d) many v x ∙ (stays to from v x p.0 ∙ (vm x ∙ s.1)))))
        ];
  }
    where
      among_at : (x t : ℕ) (ts : List ℕ) (c : Bool) → (c ≡ true → x ≡ t) → InSlot ours t → (is_among ts x ≡ true → InSlot ours x) → (c || is_among ts x) ≡ true → InSlot ours x
      among_at x t ts true e lt f p = subst (InSlot ours) (sym (e refl)) lt
      among_at x t ts false e lt f p = f p

      among_named : (ts : List ℕ) (x : ℕ) → Each (InSlot ours) ts → is_among ts x ≡ true → InSlot ours x
      among_named [] x h p = absurd (cc)
      among_named (t ∷ ts) x h p = among_at x t ts (eqb x t) (eqb-true x t) h.0 (among_named ts x h.1) p

  -- nothing is handed on
  none_handed : (to from : List ℕ) (env : Env) (ws : List ℕ) → ws ≡ [] → words_of env from ≡ Some ws → moves to from ≡ []
  none_handed [] from env ws e q = refl
  none_handed (t ∷ ts) [] env ws e q = refl
  none_handed (t ∷ ts) (f ∷ fs) env ws e q = let p = listed_parts (env f) (words_of env fs) ws q in absurd (no_cons p.0 p.1 (sym e ∙ p.4))
    where
      no_cons : (w : ℕ) (vs : List ℕ) → [] ≡ w ∷ vs → ⊥
      no_cons w vs d = cc

  -- the words of a hand-over, where values are to be as they are then
  hands_then : (to from : List ℕ) (st : State) (env : Env) (c : Moment) → slice_get r.code i ≡ Some (Hand to from) → Sane l r (Hand to from) → LiveAt g gs l y k i (head_at l.routines k) st callers c →
      ((m n : Memory) → Slots ours m st.frame st.env → ((x : ℕ) → InSlot ours x → word_at n (st.frame + slot ours x) ≡ moved (moves to from) (λ z. word_at m (st.frame + slot ours z)) x) → Slots ours n st.frame env) →
      Comes g 1 (1 + 12 * length from) c (Same g gs l y (Running k (i + 1) (record st { env = env }) callers))
  hands_then to from st env c at ok is f =
      begins g gs l y laid k i r here callers (Hand to from) st 1 (1 + 12 * length from) c _ at is (λ q m pc me e code.
      let ms : List Move = moves to from in
      let near : Bool = are_near ours to && are_near ours from in
      let v : ℕ → ℕ = λ z. word_at m (st.frame + slot ours z) in
      let lows = each_left (InSlot ours) to from ok.numbers in
      let lowf = each_right (InSlot ours) to from ok.numbers in
      let few = count to from in
      widen g (0 + 1) (0 + 12 * length ms + 1) 1 (1 + 12 * length from) _ _
      (nothing g 0 (0 + 12 * length ms) q m pc st.world _ Addi 0 0 code.stand.0
      (moves_then g gs l y laid ours st.rooms st.deeper st.frame st.taken st.cells callers st.world near (is_mixed to from) ms 0 0 v q m (pc + 4) to_next _ (named (InSlot ours) to from lows lowf)
      (alone g gs l y laid ours st.rooms st.deeper st.frame st.taken st.cells callers st.world m st.env me) (record { words = λ x lx. refl }) e
      (after g.space pc to_next (Immediate Addi 0 0 0) (move_words ours near (is_mixed to from) ms) code) (λ p n is2 vs2 e2.
      goes_on g gs l y laid k i r here callers (record st { env = env }) p n to_next (i + 1)
      (with_env g gs l y laid ours st.rooms st.deeper st.frame st.taken st.cells callers st.world n no_values env is2 (f m n me.slots vs2.words)) e2 refl)))
      (omega arith) (omega arith))

  -- what takes no words is as it was
  pub hand_lock : (to from : List ℕ) (st : State) (c : Moment) → slice_get r.code i ≡ Some (Hand to from) → Sane l r (Hand to from) → LiveAt g gs l y k i (head_at l.routines k) st callers c →
      Comes g 1 (price (Hand to from)) c (Same g gs l y (executes gs l r k i callers (Hand to from) st))
  hand_lock to from st c at ok is =
      needed g gs l y laid k i r here callers (i + 1) (words_of st.env from) st 0 _ c 1 (1 + 12 * length from) (omega arith) (λ ws ew. takes ws ew)
    where
      takes : (ws : List ℕ) → words_of st.env from ≡ Some ws → Comes g 1 (1 + 12 * length from) c (Same g gs l y (goes_on_run k (i + 1) callers (takes_words to ws st (0 + 12 * length from))))
      takes [] ew =
          hands_then to from st st.env c at ok is (λ m n s wn. record {
            slots = λ x w q.
                let p = s.slots x w q in
                (p.0, wn x p.0 ∙ (ap (λ ms. moved ms (λ z. word_at m (st.frame + slot ours z)) x) (none_handed to from st.env [] refl ew) ∙ p.1));
          })
      takes (w ∷ ws) ew =
          needed g gs l y laid k i r here callers (i + 1) (bound to (w ∷ ws) st.env) st (0 + 12 * length from) _ c 1 (1 + 12 * length from) (omega arith) (λ env b.
          hands_then to from st env c at ok is (λ m n s wn. all_handed to from (w ∷ ws) st.env env m n st.frame s ew b ok.distinct.0 (each_left (InSlot ours) to from ok.numbers) (λ z. word_at m (st.frame + slot ours z)) (λ x. refl) wn))
