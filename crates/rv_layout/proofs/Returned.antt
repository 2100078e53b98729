-- What a return leaves of the activations and the cells.
use Rattle.std.proofs.Common.{◌≡◌, ℕ, ◌+◌, ◌-◌, ◌*◌, inl, inr, List, ◌∷◌, Some, refl, arith, ap, ◌∙◌}
use Rattle.rv_isa.specs.Memory.{Memory, with_word}
use Rattle.rv_isa.proofs.Words.{outside}
use Rattle.ir_form.specs.Place.{Setting, end_at}
use Rattle.ir_form.specs.Cells.{Cell, Closed, Unset, Byte, Fixed, Cells, byte_of, is_open, with_range}
use Rattle.ir_form.specs.State.{Env, with_value}
use Rattle.ir_form.specs.Units.{Head}
use Rattle.rv_flat.specs.declared.linear.Linear.{Linear}
use Rattle.rv_frames.specs.Frames.{Caller}
use Rattle.rv_runs.specs.Moments.{Ground}
use Rattle.rv_layout.specs.Rooms.{slot, head_at}
use Rattle.rv_layout.specs.Ready.{InSlot}
use Rattle.rv_layout.specs.Held.{Layout, Outside, Held}
use Rattle.rv_layout.proofs.Stores.{alike_store, alike_word, slot_at, slots_alike, slots_defined, below_above, frame_low}
use Rattle.rv_layout.proofs.Ranges.{byte_before, fixed_before, open_left, outside_range}

-- a caller that has taken some of its results
abbrev pub with_values : Caller → Env → Caller
with_values f e = record f { state = record f.state { env = e } }

module _ (g : Ground) (gs : Setting) (l : Linear) (y : Layout) (h : Head) (rooms deeper frame taken : ℕ) (env : Env) (cells : Cells) (f : Caller) (callers : List Caller) where
  abbrev hf : Head
  hf = head_at l.routines f.routine

  abbrev Now : Env → Memory → Type 0
  Now e m = Held g gs l y h rooms deeper frame taken env cells (with_values f e ∷ callers) m

  -- a byte that can be loaded is in no slot of the caller
  set_above : (e : Env) (m : Memory) (a b : ℕ) → Now e m → (c : Cell) → cells a ≡ c → byte_of c ≡ Some b → Outside hf f.state.frame a
  set_above e m a b is Closed q d = absurd (cc)
  set_above e m a b is Unset q d = absurd (cc)
  set_above e m a b is (Byte v) q d = (is.free a (ap is_open q)).above.0
  set_above e m a b is (Fixed v) q d =
      let t = (is.fixed a v q).high in
      let low = (frame_low gs hf f.state.rooms f.state.deeper f.state.frame f.state.taken is.below.0.active).2 in
      inl (omega arith)

  -- the caller takes a result
  pub held_received : (e : Env) (m : Memory) (t v : ℕ) → InSlot hf t → Now e m → Now (with_value e t v) (with_word m (f.state.frame + slot hf t) v)
  held_received e m t v lt is =
      let w = is.below.0 in
      let few = w.active.room in
      let s = slot_at hf t few lt in
      let lo = s.low in
      let hi = s.high in
      let roof = w.roof in
      let low = (frame_low gs hf f.state.rooms f.state.deeper f.state.frame f.state.taken w.active).1 in
      let words = is.active.words in
      let a : ℕ = f.state.frame + slot hf t in
      let n : Memory = with_word m a v in
      let kept = alike_store m a v (frame + 4 * h.words) (frame + 4 * h.room) (inr (omega arith)) in
      record {
        active = is.active;
        slots = slots_alike h m n frame env is.active.room kept is.slots;
        below = (
          record {
            active = w.active;
            slots = slots_defined hf m f.state.frame t v e few lt w.slots;
            roof = w.roof;
            link = alike_word m n (frame + 4 * h.words) (frame + 4 * h.room) (frame + 4 * h.room - 4) kept (omega arith) (omega arith) ∙ w.link;
            back = alike_word m n (frame + 4 * h.words) (frame + 4 * h.room) (frame + 4 * h.room - 8) kept (omega arith) (omega arith) ∙ w.back;
            code = w.code;
            to = w.to;
            guard = w.guard;
          },
          below_above g gs l y m n hf f.state.frame callers (omega arith) (alike_store m a v (f.state.frame + 4 * hf.room - 8) (end_at gs) (inl (omega arith))) is.below.1,
        );
        bytes = λ b x q.
            let o = set_above e m b x is (cells b) refl q in
            outside m a v b (elim o [ inl z ↦ inl (omega arith) | inr z ↦ inr (omega arith) ]) ∙ is.bytes b x q;
        free = λ b q. let z = is.free b q in record { low = z.low; high = z.high; here = z.here; above = z.above; used = z.used };
        fixed = is.fixed;
      }

  -- and goes on, while the cells of the activation that has ended are closed
  pub held_returned : (e : Env) (m : Memory) → Now e m →
      Held g gs l y hf f.state.rooms f.state.deeper f.state.frame f.state.taken e (with_range cells (frame - 4 * taken) (taken + h.words) Closed) callers m
  held_returned e m is =
      let w = is.below.0 in
      let roof = w.roof in
      let top = is.active.top in
      let rooms_few = is.active.few_rooms in
      let deeper_few = is.active.few_deeper in
      record {
        active = w.active;
        slots = w.slots;
        below = is.below.1;
        bytes = λ a b q. is.bytes a b (byte_before _ Closed (cells a) b refl q);
        free = λ a q.
            let o = open_left _ (cells a) q in
            let z = is.free a o.1 in
            let here = z.here in
            let used = z.used in
            let apart = outside_range (frame - 4 * taken) (frame - 4 * taken + 4 * (taken + h.words)) a o.0 in
            record {
              low = z.low;
              high = z.high;
              here = z.above.0;
              above = z.above.1;
              used = elim used [ inl u ↦ inl u | inr u ↦ inr (elim here [ inl v ↦ elim apart [ inl x ↦ absurd (omega arith) | inr x ↦ absurd (omega arith) ] | inr v ↦ omega arith ]) ];
            };
        fixed = λ a b q. is.fixed a b (fixed_before _ Closed (cells a) b refl q);
      }
