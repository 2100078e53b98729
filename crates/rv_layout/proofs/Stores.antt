-- What stores leave of the activations and the cells.
use Rattle.std.proofs.Common.{◌≡◌, ◌≢◌, ℕ, ◌+◌, ◌-◌, ◌*◌, ◌/◌, ◌%◌, ◌<◌, ◌≤◌, ◌⊎◌, inl, inr, Bool, true, false, eqb, List, [], ◌∷◌, Some, refl, arith, ap, sym, ◌∙◌, subst}
use Rattle.std.specs.Prelude.{if◌then◌else◌}
use Rattle.std.proofs.lemmas.Bool.{eqb-true, eq-eqb}
use Rattle.rv_isa.specs.Memory.{Memory, byte_at, with_byte, word_at, with_word}
use Rattle.rv_isa.proofs.Words.{byte_same, byte_other, outside, word_kept, word_other}
use Rattle.ir_form.specs.Place.{Setting, stack_at, end_at}
use Rattle.ir_form.specs.Cells.{Cell, Closed, Unset, Byte, Fixed, Cells, byte_of, is_open, with_byte as with_cell, with_word as with_cells}
use Rattle.ir_form.specs.State.{Env, with_value}
use Rattle.ir_form.specs.Units.{Head}
use Rattle.rv_flat.specs.declared.linear.Linear.{Linear}
use Rattle.rv_frames.specs.Frames.{Caller}
use Rattle.rv_runs.specs.Moments.{Ground}
use Rattle.rv_layout.specs.Rooms.{slot, head_at}
use Rattle.rv_layout.specs.Ready.{InSlot}
use Rattle.rv_layout.specs.Held.{Layout, lowest, Active, Slots, Below, Outside, Clear, Held, NoGuards}

-- the bytes from lo to hi are as before
pub record Alike (m n : Memory) (lo hi : ℕ) : Type 0 where
  pub alike : (a : ℕ) → lo ≤ a → a < hi → n a ≡ m a

pub alike_word : (m n : Memory) (lo hi a : ℕ) → Alike m n lo hi → lo ≤ a → a + 4 ≤ hi → word_at n a ≡ word_at m a
alike_word m n lo hi a h l k = word_kept m n a (λ i s. h.alike (a + i) (omega arith) (omega arith))

pub alike_byte : (m : Memory) (a v lo hi : ℕ) → (a < lo) ⊎ (hi ≤ a) → Alike m (with_byte m a v) lo hi
alike_byte m a v lo hi o = record { alike = λ b l h. let n : b ≢ a = elim o [ inl q ↦ omega arith | inr q ↦ omega arith ] in byte_other m a v b n }

pub alike_store : (m : Memory) (a v lo hi : ℕ) → (a + 4 ≤ lo) ⊎ (hi ≤ a) → Alike m (with_word m a v) lo hi
alike_store m a v lo hi o = record { alike = λ b l h. outside m a v b (elim o [ inl q ↦ inr (omega arith) | inr q ↦ inl (omega arith) ]) }

pub word_again : (m : Memory) (a v : ℕ) → word_at (with_word m a v) a ≡ v
word_again m a v =
    let e3 : byte_at (with_word m a v) (a + 3) ≡ v / 16777216 = byte_same _ (a + 3) _ in
    let e2 : byte_at (with_word m a v) (a + 2) ≡ v / 65536 % 256 = byte_other _ (a + 3) _ (a + 2) (omega arith) ∙ byte_same _ (a + 2) _ in
    let e1 : byte_at (with_word m a v) (a + 1) ≡ v / 256 % 256 = byte_other _ (a + 3) _ (a + 1) (omega arith) ∙ (byte_other _ (a + 2) _ (a + 1) (omega arith) ∙ byte_same _ (a + 1) _) in
    let e0 : byte_at (with_word m a v) a ≡ v % 256 =
    byte_other _ (a + 3) _ a (omega arith) ∙ (byte_other _ (a + 2) _ a (omega arith) ∙ (byte_other _ (a + 1) _ a (omega arith) ∙ byte_same _ a _)) in
    let sum : v % 256 + 256 * (v / 256 % 256) + 65536 * (v / 65536 % 256) + 16777216 * (v / 16777216) ≡ v = omega arith in
    rw (e0, e1, e2, e3) sum

-- where a slot lies, and in what room
pub record SlotAt (h : Head) (v : ℕ) : Type 0 where
  pub low : 4 * h.words ≤ slot h v
  pub high : slot h v + 132 ≤ 4 * h.room
  pub even : slot h v % 4 ≡ 0

pub slot_at : (h : Head) (v : ℕ) → h.room ≤ 8388608 → InSlot h v → SlotAt h v
slot_at h v few is = let r = is.room in record { low = omega arith; high = omega arith; even = omega arith }

pub slots_alike : (h : Head) (m n : Memory) (frame : ℕ) (env : Env) → h.room ≤ 8388608 → Alike m n (frame + 4 * h.words) (frame + 4 * h.room) → Slots h m frame env → Slots h n frame env
slots_alike h m n frame env few al is = record {
  slots = λ x v e.
      let z = is.slots x v e in
      let s = slot_at h x few z.0 in
      let lo = s.low in
      let hi = s.high in
      (z.0, alike_word m n (frame + 4 * h.words) (frame + 4 * h.room) (frame + slot h x) al (omega arith) (omega arith) ∙ z.1);
}

-- the activations of the callers are as before
abbrev pub Unchanged : Linear → Memory → Memory → List Caller → Type 0
Unchanged l m n [] = Unit {0}
Unchanged l m n (f ∷ callers) = Alike m n (f.state.frame + 4 * (head_at l.routines f.routine).words) (f.state.frame + 4 * (head_at l.routines f.routine).room) × Unchanged l m n callers

-- a byte below the room of an activation is clear of all above it
pub clear_under : (g : Ground) (gs : Setting) (l : Linear) (y : Layout) (m : Memory) (h : Head) (frame a : ℕ) (callers : List Caller) → a < frame + 4 * h.room → Below g gs l y m h frame callers → Clear l callers a
clear_under g gs l y m h frame a [] lt b = tt
clear_under g gs l y m h frame a (f ∷ callers) lt b =
    let t = b.0.active.top in
    let roof = b.0.roof in
    let words = b.0.active.words in
    (inl (omega arith), clear_under g gs l y m (head_at l.routines f.routine) f.state.frame a callers (omega arith) b.1)

pub below_top : (g : Ground) (gs : Setting) (l : Linear) (y : Layout) (m : Memory) (h : Head) (frame : ℕ) (callers : List Caller) → Below g gs l y m h frame callers → frame + 4 * h.room ≤ end_at gs
below_top g gs l y m h frame [] b = omega arith
below_top g gs l y m h frame (f ∷ callers) b = let roof = b.0.roof in omega arith

unchanged_above : (g : Ground) (gs : Setting) (l : Linear) (y : Layout) (m n : Memory) (h : Head) (frame : ℕ) (callers : List Caller) → Alike m n (frame + 4 * h.room) (end_at gs) → Below g gs l y m h frame callers → Unchanged l m n callers
unchanged_above g gs l y m n h frame [] al b = tt
unchanged_above g gs l y m n h frame (f ∷ callers) al b =
    let t = b.0.active.top in
    let roof = b.0.roof in
    let top = below_top g gs l y m (head_at l.routines f.routine) f.state.frame callers b.1 in (
      record { alike = λ a lo hi. al.alike a (omega arith) (omega arith) },
      unchanged_above g gs l y m n (head_at l.routines f.routine) f.state.frame callers (record { alike = λ a lo hi. al.alike a (omega arith) hi }) b.1,
    )

-- a byte that is clear of the callers is stored
unchanged_clear : (l : Linear) (m : Memory) (a v : ℕ) (callers : List Caller) → Clear l callers a → Unchanged l m (with_byte m a v) callers
unchanged_clear l m a v [] c = tt
unchanged_clear l m a v (f ∷ callers) c = (alike_byte m a v _ _ c.0, unchanged_clear l m a v callers c.1)

-- no caller takes an exception
pub below_unguarded : (g : Ground) (gs : Setting) (l : Linear) (y : Layout) (m : Memory) (h : Head) (frame : ℕ) (callers : List Caller) → Below g gs l y m h frame callers → NoGuards callers
below_unguarded g gs l y m h frame [] b = tt
below_unguarded g gs l y m h frame (f ∷ callers) b = (b.0.guard, below_unguarded g gs l y m (head_at l.routines f.routine) f.state.frame callers b.1)

pub below_kept : (g : Ground) (gs : Setting) (l : Linear) (y : Layout) (m n : Memory) (h : Head) (frame : ℕ) (callers : List Caller) → 8 ≤ 4 * h.room → Alike m n (frame + 4 * h.room - 8) (frame + 4 * h.room) → Unchanged l m n callers →
    Below g gs l y m h frame callers → Below g gs l y n h frame callers
below_kept g gs l y m n h frame [] lo al un b = (b.0, alike_word m n (frame + 4 * h.room - 8) (frame + 4 * h.room) (frame + 4 * h.room - 4) al (omega arith) (omega arith) ∙ b.1)
below_kept g gs l y m n h frame (f ∷ callers) lo al un b =
    let w = b.0 in
    let k : Head = head_at l.routines f.routine in
    let words = w.active.words in (
      record {
        active = w.active;
        slots = slots_alike k m n f.state.frame f.state.env w.active.room un.0 w.slots;
        roof = w.roof;
        link = alike_word m n (frame + 4 * h.room - 8) (frame + 4 * h.room) (frame + 4 * h.room - 4) al (omega arith) (omega arith) ∙ w.link;
        back = alike_word m n (frame + 4 * h.room - 8) (frame + 4 * h.room) (frame + 4 * h.room - 8) al (omega arith) (omega arith) ∙ w.back;
        code = w.code;
        to = w.to;
        guard = w.guard;
      },
      below_kept g gs l y m n k f.state.frame callers (omega arith) (record { alike = λ a lo hi. un.0.alike a (omega arith) hi }) un.1 b.1,
    )

-- what is stored below the last words of a room leaves all above
pub below_above : (g : Ground) (gs : Setting) (l : Linear) (y : Layout) (m n : Memory) (h : Head) (frame : ℕ) (callers : List Caller) → 8 ≤ 4 * h.room → Alike m n (frame + 4 * h.room - 8) (end_at gs) →
    Below g gs l y m h frame callers → Below g gs l y n h frame callers
below_above g gs l y m n h frame callers lo al b =
    let top = below_top g gs l y m h frame callers b in
    below_kept g gs l y m n h frame callers lo (record { alike = λ a lo hi. al.alike a lo (omega arith) })
    (unchanged_above g gs l y m n h frame callers (record { alike = λ a lo hi. al.alike a (omega arith) hi }) b) b

-- a value is defined
slot_defined : (h : Head) (m : Memory) (frame x v z w : ℕ) (env : Env) → h.room ≤ 8388608 → InSlot h x → Slots h m frame env → (b : Bool) → eqb z x ≡ b → (b ≡ true → z ≡ x) → (if b then Some v else env z) ≡ Some w →
    InSlot h z × (word_at (with_word m (frame + slot h x) v) (frame + slot h z) ≡ w)
slot_defined h m frame x v z w env few lx is true e same q =
    let a : z ≡ x = same refl in
    let d : v ≡ w = cc in
    (subst (InSlot h) (sym a) lx, ap (λ i. word_at (with_word m (frame + slot h x) v) (frame + slot h i)) a ∙ word_again m (frame + slot h x) v ∙ d)
slot_defined h m frame x v z w env few lx is false e same q =
    let d = is.slots z w q in
    let ne : z ≢ x = λ p. absurd (no_both (sym (eq-eqb z x p) ∙ e)) in
    let o = d.0.odd in
    let p = lx.odd in
    let apart : (frame + slot h z + 4 ≤ frame + slot h x) ⊎ (frame + slot h x + 4 ≤ frame + slot h z) = grind arith in
    (d.0, word_other m (frame + slot h x) v (frame + slot h z) apart ∙ d.1)
  where
    no_both : true ≡ false → ⊥
    no_both e = cc

pub slots_defined : (h : Head) (m : Memory) (frame x v : ℕ) (env : Env) → h.room ≤ 8388608 → InSlot h x → Slots h m frame env → Slots h (with_word m (frame + slot h x) v) frame (with_value env x v)
slots_defined h m frame x v env few lx is = record { slots = λ z w q. slot_defined h m frame x v z w env few lx is (eqb z x) refl (eqb-true z x) q }

-- where a frame lies
pub frame_low : (gs : Setting) (h : Head) (rooms deeper frame taken : ℕ) → Active gs h rooms deeper frame taken → (stack_at gs ≤ lowest gs rooms deeper) × (lowest gs rooms deeper ≤ frame) × (gs.place.globals_at ≤ frame)
frame_low gs h rooms deeper frame taken is =
    let t = is.top in let a = is.few_rooms in let b = is.few_deeper in
    (omega arith, omega arith, omega arith)

module _ (g : Ground) (gs : Setting) (l : Linear) (y : Layout) (h : Head) where
  abbrev Outside_all : ℕ → ℕ → Type 0
  Outside_all frame a = Outside h frame a

  -- a byte that can be loaded is in no slot
  set_at : (rooms deeper frame taken : ℕ) (env : Env) (cells : Cells) (callers : List Caller) (m : Memory) (a b : ℕ) → Held g gs l y h rooms deeper frame taken env cells callers m → (c : Cell) → cells a ≡ c → byte_of c ≡ Some b → Outside h frame a
  set_at rooms deeper frame taken env cells callers m a b is Closed e q = absurd (cc)
  set_at rooms deeper frame taken env cells callers m a b is Unset e q = absurd (cc)
  set_at rooms deeper frame taken env cells callers m a b is (Byte v) e q = (is.free a (ap is_open e)).here
  set_at rooms deeper frame taken env cells callers m a b is (Fixed v) e q =
      let t = (is.fixed a v e).high in
      let f = (frame_low gs h rooms deeper frame taken is.active).2 in
      inl (omega arith)

  pub set_outside : (rooms deeper frame taken : ℕ) (env : Env) (cells : Cells) (callers : List Caller) (m : Memory) (a b : ℕ) → Held g gs l y h rooms deeper frame taken env cells callers m → byte_of (cells a) ≡ Some b → Outside h frame a
  set_outside rooms deeper frame taken env cells callers m a b is q = set_at rooms deeper frame taken env cells callers m a b is (cells a) refl q

  -- a value is defined
  pub held_defined : (rooms deeper frame taken : ℕ) (env : Env) (cells : Cells) (callers : List Caller) (m : Memory) (x v : ℕ) → InSlot h x → Held g gs l y h rooms deeper frame taken env cells callers m →
      Held g gs l y h rooms deeper frame taken (with_value env x v) cells callers (with_word m (frame + slot h x) v)
  held_defined rooms deeper frame taken env cells callers m x v lx is =
      let few = is.active.room in
      let s = slot_at h x few lx in
      let lo = s.low in
      let hi = s.high in
      record {
        active = is.active;
        slots = slots_defined h m frame x v env few lx is.slots;
        below = below_above g gs l y m (with_word m (frame + slot h x) v) h frame callers (omega arith) (alike_store m (frame + slot h x) v _ _ (inl (omega arith))) is.below;
        bytes = λ a b q.
            let o = set_outside rooms deeper frame taken env cells callers m a b is q in
            outside m (frame + slot h x) v a (elim o [ inl z ↦ inl (omega arith) | inr z ↦ inr (omega arith) ]) ∙ is.bytes a b q;
        free = is.free;
        fixed = is.fixed;
      }

  -- a program stores a byte
  byte_kept : (cells : Cells) (m : Memory) (a v c w : ℕ) (t : Bool) → eqb c a ≡ t → (t ≡ true → c ≡ a) → byte_of (if t then Byte v else cells c) ≡ Some w → (byte_of (cells c) ≡ Some w → m c ≡ w) → with_byte m a v c ≡ w
  byte_kept cells m a v c w true e same q f = let d : v ≡ w = cc in ap (with_byte m a v) (same refl) ∙ byte_same m a v ∙ d
  byte_kept cells m a v c w false e same q f =
      let n : c ≢ a = λ p. absurd (no_both (sym (eq-eqb c a p) ∙ e)) in
      byte_other m a v c n ∙ f q
    where
      no_both : true ≡ false → ⊥
      no_both e = cc

  open_before : (cells : Cells) (a v c : ℕ) (t : Bool) → (t ≡ true → c ≡ a) → is_open (cells a) ≡ true → is_open (if t then Byte v else cells c) ≡ true → is_open (cells c) ≡ true
  open_before cells a v c true same o q = ap (λ i. is_open (cells i)) (same refl) ∙ o
  open_before cells a v c false same o q = q

  fixed_before : (cells : Cells) (v c w : ℕ) (t : Bool) → (if t then Byte v else cells c) ≡ Fixed w → cells c ≡ Fixed w
  fixed_before cells v c w true q = absurd (cc)
  fixed_before cells v c w false q = q

  pub held_byte : (rooms deeper frame taken : ℕ) (env : Env) (cells : Cells) (callers : List Caller) (m : Memory) (a v : ℕ) → is_open (cells a) ≡ true → Held g gs l y h rooms deeper frame taken env cells callers m →
      Held g gs l y h rooms deeper frame taken env (with_cell cells a v) callers (with_byte m a v)
  held_byte rooms deeper frame taken env cells callers m a v o is =
      let f = is.free a o in
      let here = f.here in
      let words = is.active.words in
      record {
        active = is.active;
        slots = slots_alike h m (with_byte m a v) frame env is.active.room (alike_byte m a v _ _ here) is.slots;
        below = below_kept g gs l y m (with_byte m a v) h frame callers (omega arith) (alike_byte m a v _ _ (elim here [ inl z ↦ inl (omega arith) | inr z ↦ inr z ])) (unchanged_clear l m a v callers f.above) is.below;
        bytes = λ c w q. byte_kept cells m a v c w (eqb c a) refl (eqb-true c a) q (is.bytes c w);
        free = λ c q. is.free c (open_before cells a v c (eqb c a) (eqb-true c a) o q);
        fixed = λ c w q. is.fixed c w (fixed_before cells v c w (eqb c a) q);
      }

  open_still_at : (cells : Cells) (v c : ℕ) (t : Bool) → is_open (cells c) ≡ true → is_open (if t then Byte v else cells c) ≡ true
  open_still_at cells v c true o = refl
  open_still_at cells v c false o = o

  -- and a word
  pub held_word : (rooms deeper frame taken : ℕ) (env : Env) (cells : Cells) (callers : List Caller) (m : Memory) (a v : ℕ) → is_open (cells a) ≡ true → is_open (cells (a + 1)) ≡ true → is_open (cells (a + 2)) ≡ true → is_open (cells (a + 3)) ≡ true →
      Held g gs l y h rooms deeper frame taken env cells callers m → Held g gs l y h rooms deeper frame taken env (with_cells cells a v) callers (with_word m a v)
  held_word rooms deeper frame taken env cells callers m a v o0 o1 o2 o3 is =
      let c0 : Cells = with_cell cells a (v % 256) in
      let c1 : Cells = with_cell c0 (a + 1) (v / 256 % 256) in
      let c2 : Cells = with_cell c1 (a + 2) (v / 65536 % 256) in
      let m0 : Memory = with_byte m a (v % 256) in
      let m1 : Memory = with_byte m0 (a + 1) (v / 256 % 256) in
      let m2 : Memory = with_byte m1 (a + 2) (v / 65536 % 256) in
      let s0 : (b : ℕ) → is_open (cells b) ≡ true → is_open (c0 b) ≡ true = λ b o. open_still_at cells (v % 256) b (eqb b a) o in
      let s1 : (b : ℕ) → is_open (c0 b) ≡ true → is_open (c1 b) ≡ true = λ b o. open_still_at c0 (v / 256 % 256) b (eqb b (a + 1)) o in
      let s2 : (b : ℕ) → is_open (c1 b) ≡ true → is_open (c2 b) ≡ true = λ b o. open_still_at c1 (v / 65536 % 256) b (eqb b (a + 2)) o in
      held_byte rooms deeper frame taken env c2 callers m2 (a + 3) (v / 16777216) (s2 (a + 3) (s1 (a + 3) (s0 (a + 3) o3)))
      (held_byte rooms deeper frame taken env c1 callers m1 (a + 2) (v / 65536 % 256) (s1 (a + 2) (s0 (a + 2) o2))
      (held_byte rooms deeper frame taken env c0 callers m0 (a + 1) (v / 256 % 256) (s0 (a + 1) o1)
      (held_byte rooms deeper frame taken env cells callers m a (v % 256) o0 is)))
