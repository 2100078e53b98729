-- What a call leaves of the activations and the cells.
use Rattle.std.proofs.Common.{◌≡◌, ℕ, ◌+◌, ◌-◌, ◌*◌, ◌%◌, ◌<◌, ◌≤◌, ◌⊎◌, inl, inr, true, leb, ltb, List, ◌∷◌, Some, None, refl, arith, ap, ◌∙◌}
use Rattle.std.specs.Prelude.{◌&&◌}
use Rattle.std.specs.List.{AllByRecursion as Each}
use Rattle.rv_isa.specs.Memory.{Memory, word_at, with_word}
use Rattle.rv_isa.proofs.Words.{outside, word_other}
use Rattle.ir_form.specs.Place.{Setting, stack_at, end_at}
use Rattle.ir_form.specs.Cells.{Cell, Closed, Unset, Byte, Fixed, Cells, byte_of, is_open, with_range}
use Rattle.ir_form.specs.State.{Env, with_value}
use Rattle.ir_form.specs.Units.{Head, no_values}
use Rattle.rv_flat.specs.declared.linear.Linear.{Linear}
use Rattle.rv_frames.specs.Frames.{Caller}
use Rattle.rv_runs.specs.Moments.{Ground}
use Rattle.rv_runs.proofs.Steps.{Storable, storable}
use Rattle.rv_layout.specs.Rooms.{slot, head_at}
use Rattle.rv_layout.specs.Calling.{receiving}
use Rattle.rv_layout.specs.Ready.{InSlot}
use Rattle.rv_layout.specs.Held.{Code, Layout, Laid, resume, lowest, Active, Slots, IsFree, Held}
use Rattle.rv_layout.proofs.Stores.{alike_store, word_again, slot_at, slots_alike, slots_defined, below_above, frame_low, clear_under}
use Rattle.rv_layout.proofs.Access.{end_small}
use Rattle.rv_layout.proofs.Ranges.{byte_before, fixed_before, open_now, inside_range}

-- what is stored below the stack in use leaves an activation as it is
module _ (g : Ground) (gs : Setting) (l : Linear) (y : Layout) (laid : Laid g gs l y) (h : Head) (rooms deeper frame taken : ℕ) (env : Env) (cells : Cells) (callers : List Caller) where
  abbrev Now : Memory → Type 0
  Now m = Held g gs l y h rooms deeper frame taken env cells callers m

  -- a byte that can be loaded is below the stack, or in use
  set_used : (m : Memory) (a b : ℕ) → Now m → (c : Cell) → cells a ≡ c → byte_of c ≡ Some b → (a < stack_at gs) ⊎ (lowest gs rooms deeper ≤ a)
  set_used m a b is Closed q d = absurd (cc)
  set_used m a b is Unset q d = absurd (cc)
  set_used m a b is (Byte v) q d = (is.free a (ap is_open q)).used
  set_used m a b is (Fixed v) q d = let t = (is.fixed a v q).high in inl (omega arith)

  pub under_word : (m : Memory) (a : ℕ) → Now m → a % 4 ≡ 0 → stack_at gs ≤ a → a + 4 ≤ lowest gs rooms deeper → Storable g.space 4 a
  under_word m a is even lo hi =
      let small = end_small g gs l y laid h rooms deeper frame taken env cells callers m is in
      let end = laid.end in
      let text = laid.text in
      storable g.space 4 a even (omega arith) (omega arith) (omega arith) (omega arith)

  pub held_under : (m : Memory) (a v : ℕ) → stack_at gs ≤ a → a + 4 ≤ lowest gs rooms deeper → Now m → Now (with_word m a v)
  held_under m a v lo hi is =
      let low = (frame_low gs h rooms deeper frame taken is.active).1 in
      let words = is.active.words in
      record {
        active = is.active;
        slots = slots_alike h m (with_word m a v) frame env is.active.room (alike_store m a v (frame + 4 * h.words) (frame + 4 * h.room) (inl (omega arith))) is.slots;
        below = below_above g gs l y m (with_word m a v) h frame callers (omega arith) (alike_store m a v (frame + 4 * h.room - 8) (end_at gs) (inl (omega arith))) is.below;
        bytes = λ b x q.
            let o = set_used m b x is (cells b) refl q in
            outside m a v b (elim o [ inl z ↦ inl (omega arith) | inr z ↦ inr (omega arith) ]) ∙ is.bytes b x q;
        free = is.free;
        fixed = is.fixed;
      }

  -- the words of the new room, until the callee runs
  module _ (new : Head) (rooms2 deeper2 : ℕ) (active : Active gs new rooms2 deeper2 (lowest gs rooms2 deeper2) 0) (roof : lowest gs rooms2 deeper2 + 4 * new.room ≡ lowest gs rooms deeper) where
    abbrev base : ℕ
    base = lowest gs rooms2 deeper2

    pub record Arriving (e : Env) (m : Memory) : Type 0 where
      pub caller : Now m
      pub slots : Slots new m base e
      pub back : word_at m (lowest gs rooms deeper - 8) ≡ frame

    pub base_low : stack_at gs ≤ base
    base_low = (frame_low gs new rooms2 deeper2 base 0 active).0

    pub base_even : base % 4 ≡ 0
    base_even = let a = laid.aligned in let o = active.few_rooms in let d = active.few_deeper in omega arith

    pub arriving_first : (m : Memory) → Now m → Arriving no_values (with_word m (lowest gs rooms deeper - 8) frame)
    arriving_first m is =
        let words = active.words in
        let low = base_low in
        record {
          caller = held_under m (lowest gs rooms deeper - 8) frame (omega arith) (omega arith) is;
          slots = record { slots = λ x v e. absurd (cc) };
          back = word_again m (lowest gs rooms deeper - 8) frame;
        }

    pub arriving_argument : (e : Env) (m : Memory) (t v : ℕ) → InSlot new t → Arriving e m → Arriving (with_value e t v) (with_word m (base + slot new t) v)
    arriving_argument e m t v lt is =
        let s = slot_at new t active.room lt in
        let hi = s.high in
        let low = base_low in
        record {
          caller = held_under m (base + slot new t) v (omega arith) (omega arith) is.caller;
          slots = slots_defined new m base t v e active.room lt is.slots;
          back = word_other m (base + slot new t) v (lowest gs rooms deeper - 8) (inr (omega arith)) ∙ is.back;
        }

    pub arriving_word : (e : Env) (m : Memory) (t : ℕ) → InSlot new t → Arriving e m → Storable g.space 4 (base + slot new t)
    arriving_word e m t lt is =
        let s = slot_at new t active.room lt in
        let hi = s.high in
        let even = s.even in
        let low = base_low in
        let at = base_even in
        under_word m (base + slot new t) is.caller (omega arith) (omega arith) (omega arith)

-- the caller waits, and the callee runs
module _ (g : Ground) (gs : Setting) (l : Linear) (y : Layout) (laid : Laid g gs l y) (f : Caller) (callers : List Caller) (new : Head) (rooms2 deeper2 : ℕ) (active : Active gs new rooms2 deeper2 (lowest gs rooms2 deeper2) 0) (roof : lowest gs rooms2 deeper2 + 4 * new.room ≡ lowest gs f.state.rooms f.state.deeper) (guard : f.guard ≡ None) where
  abbrev hf : Head
  hf = head_at l.routines f.routine

  abbrev low : ℕ
  low = lowest gs f.state.rooms f.state.deeper

  abbrev way : ℕ
  way = resume l y f.routine f.place f.to

  abbrev Arrives : Env → Memory → Type 0
  Arrives e m = Arriving g gs l y laid hf f.state.rooms f.state.deeper f.state.frame f.state.taken f.state.env f.state.cells callers new rooms2 deeper2 active roof e m

  abbrev Caller_held : Memory → Type 0
  Caller_held m = Held g gs l y hf f.state.rooms f.state.deeper f.state.frame f.state.taken f.state.env f.state.cells callers m

  -- a byte that may be stored
  free_now : (m : Memory) (a : ℕ) → Caller_held m → ((leb (lowest gs rooms2 deeper2) a && ltb a (lowest gs rooms2 deeper2 + 4 * new.words)) ≡ true) ⊎ (is_open (f.state.cells a) ≡ true) → IsFree gs l new rooms2 deeper2 (lowest gs rooms2 deeper2) (f ∷ callers) a
  free_now m a is (inl h) =
      let x = inside_range _ _ a h in
      let lo = x.0 in
      let hi = x.1 in
      let words = active.words in
      let stack = frame_low gs new rooms2 deeper2 (lowest gs rooms2 deeper2) 0 active in
      let s0 = stack.0 in
      let frame = frame_low gs hf f.state.rooms f.state.deeper f.state.frame f.state.taken is.active in
      let f1 = frame.1 in
      record { low = omega arith; high = omega arith; here = inl hi; above = (inl (omega arith), clear_under g gs l y m hf f.state.frame a callers (omega arith) is.below); used = inr lo }
  free_now m a is (inr h) =
      let z = is.free a h in
      let used = z.used in
      let s0 = (frame_low gs new rooms2 deeper2 (lowest gs rooms2 deeper2) 0 active).0 in
      record {
        low = z.low;
        high = z.high;
        here = elim used [ inl u ↦ inl (omega arith) | inr u ↦ inr (omega arith) ];
        above = (z.here, z.above);
        used = elim used [ inl u ↦ inl u | inr u ↦ inr (omega arith) ];
      }

  pub held_entered : (e : Env) (m : Memory) → Code g.space way (receiving hf f.to) (y.place f.routine f.place) → Each (InSlot hf) f.to → Arrives e m →
      Held g gs l y new rooms2 deeper2 (lowest gs rooms2 deeper2) 0 e (with_range f.state.cells (lowest gs rooms2 deeper2) new.words Unset) (f ∷ callers) (with_word m (low - 4) way)
  held_entered e m code to is =
      let words = active.words in
      let s0 = (frame_low gs new rooms2 deeper2 (lowest gs rooms2 deeper2) 0 active).0 in
      let n : Memory = with_word m (low - 4) way in
      let mine = held_under g gs l y laid hf f.state.rooms f.state.deeper f.state.frame f.state.taken f.state.env f.state.cells callers m (low - 4) way (omega arith) (omega arith) is.caller in
      record {
        active = active;
        slots = record {
          slots = λ x v q.
              let z = is.slots.slots x v q in
              let s = slot_at new x active.room z.0 in
              let hi = s.high in
              (z.0, word_other m (low - 4) way (lowest gs rooms2 deeper2 + slot new x) (inl (omega arith)) ∙ z.1);
        };
        below = (
          record {
            active = mine.active;
            slots = mine.slots;
            roof = roof;
            link = ap (λ p. word_at n (p - 4)) roof ∙ word_again m (low - 4) way;
            back = ap (λ p. word_at n (p - 8)) roof ∙ (word_other m (low - 4) way (low - 8) (inl (omega arith)) ∙ is.back);
            code = code;
            to = to;
            guard = guard;
          },
          mine.below,
        );
        bytes = λ a b q. mine.bytes a b (byte_before _ Unset (f.state.cells a) b refl q);
        free = λ a q. free_now n a mine (open_now _ (f.state.cells a) q);
        fixed = λ a b q. mine.fixed a b (fixed_before _ Unset (f.state.cells a) b refl q);
      }
