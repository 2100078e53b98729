-- What is left of the activations and the cells where the words of a run-time array are taken and handed back.
use Rattle.std.proofs.Common.{◌≡◌, ℕ, ◌+◌, ◌-◌, ◌*◌, ◌≤◌, ◌⊎◌, inl, inr, true, leb, ltb, List, refl, arith}
use Rattle.std.specs.Prelude.{◌&&◌}
use Rattle.rv_isa.specs.Memory.{Memory}
use Rattle.ir_form.specs.Place.{Setting}
use Rattle.ir_form.specs.Cells.{Cells, Closed, Unset, is_open, with_range}
use Rattle.ir_form.specs.State.{Env}
use Rattle.ir_form.specs.Units.{Head}
use Rattle.rv_flat.specs.declared.linear.Linear.{Linear}
use Rattle.rv_frames.specs.Frames.{Caller}
use Rattle.rv_runs.specs.Moments.{Ground}
use Rattle.rv_layout.specs.Held.{Layout, lowest, IsFree, Held}
use Rattle.rv_layout.proofs.Stores.{below_top, frame_low, clear_under}
use Rattle.rv_layout.proofs.Ranges.{byte_before, fixed_before, open_left, open_now, inside_range, outside_range}

module _ (g : Ground) (gs : Setting) (l : Linear) (y : Layout) (h : Head) (rooms deeper frame taken : ℕ) (env : Env) (cells : Cells) (callers : List Caller) (m : Memory) (is : Held g gs l y h rooms deeper frame taken env cells callers m) where
  -- words are taken
  free_taken : (words a : ℕ) → rooms + words ≤ 8388608 → ((leb (lowest gs (rooms + words) deeper) a && ltb a (lowest gs (rooms + words) deeper + 4 * words)) ≡ true) ⊎ (is_open (cells a) ≡ true) → IsFree gs l h (rooms + words) deeper frame callers a
  free_taken words a few (inl q) =
      let x = inside_range _ _ a q in
      let lo = x.0 in
      let hi = x.1 in
      let low = (frame_low gs h rooms deeper frame taken is.active).1 in
      let deep = is.active.few_deeper in
      let room = is.active.words in
      let top = below_top g gs l y m h frame callers is.below in
      record { low = omega arith; high = omega arith; here = inl (omega arith); above = clear_under g gs l y m h frame a callers (omega arith) is.below; used = inr lo }
  free_taken words a few (inr q) =
      let z = is.free a q in
      let used = z.used in
      record { low = z.low; high = z.high; here = z.here; above = z.above; used = elim used [ inl u ↦ inl u | inr u ↦ inr (omega arith) ] }

  pub held_taken : (words : ℕ) → rooms + words ≤ 8388608 → Held g gs l y h (rooms + words) deeper frame (taken + words) env (with_range cells (lowest gs (rooms + words) deeper) words Unset) callers m
  held_taken words few =
      let a = is.active in
      let top = a.top in
      record {
        active = record { words = a.words; room = a.room; few_rooms = few; few_deeper = a.few_deeper; none_deeper = a.none_deeper; deeper_left = a.deeper_left; top = omega arith };
        slots = is.slots;
        below = is.below;
        bytes = λ b x q. is.bytes b x (byte_before _ Unset (cells b) x refl q);
        free = λ b q. free_taken words b few (open_now _ (cells b) q);
        fixed = λ b x q. is.fixed b x (fixed_before _ Unset (cells b) x refl q);
      }

  -- and handed back
  pub held_given : (words : ℕ) → words ≤ taken → words ≤ rooms → Held g gs l y h (rooms - words) deeper frame (taken - words) env (with_range cells (lowest gs rooms deeper) words Closed) callers m
  held_given words few_taken few =
      let a = is.active in
      let top = a.top in
      let most = a.few_rooms in
      let deep = a.few_deeper in
      record {
        active = record { words = a.words; room = a.room; few_rooms = omega arith; few_deeper = a.few_deeper; none_deeper = a.none_deeper; deeper_left = a.deeper_left; top = omega arith };
        slots = is.slots;
        below = is.below;
        bytes = λ b x q. is.bytes b x (byte_before _ Closed (cells b) x refl q);
        free = λ b q.
            let o = open_left _ (cells b) q in
            let z = is.free b o.1 in
            let used = z.used in
            let apart = outside_range (lowest gs rooms deeper) (lowest gs rooms deeper + 4 * words) b o.0 in
            record { low = z.low; high = z.high; here = z.here; above = z.above; used = elim used [ inl u ↦ inl u | inr u ↦ inr (elim apart [ inl v ↦ absurd (omega arith) | inr v ↦ omega arith ]) ] };
        fixed = λ b x q. is.fixed b x (fixed_before _ Closed (cells b) x refl q);
      }
