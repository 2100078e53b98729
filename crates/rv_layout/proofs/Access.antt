-- What the machine may load and store, by the cells.
use Rattle.std.proofs.Common.{◌≡◌, ℕ, zero, suc, ◌+◌, ◌*◌, ◌%◌, ◌<◌, ◌≤◌, Bool, true, false, eqb, leb, List, Option, Some, None, refl, arith, ap, sym, subst}
use Rattle.std.specs.Prelude.{if◌then◌else◌, ◌&&◌, ◌||◌}
use Rattle.std.proofs.lemmas.Bool.{eqb-true}
use Rattle.rv_isa.specs.Memory.{Memory, loaded as loaded_from, stored as stored_to, load_size, store_size}
use Rattle.rv_isa.specs.Step.{lies, lends as lends_from}
use Rattle.rv_image.specs.Streams.{bytes_at}
use Rattle.ir_form.specs.declared.plain.Width.{Width}
use Rattle.ir_form.specs.declared.plain.Width.TheVariants.{Byte as one_byte, Word as one_word}
use Rattle.ir_form.specs.Place.{Setting, end_at}
use Rattle.ir_form.specs.Cells.{Cell, Closed, Unset, Byte, Fixed, Cells, byte_of, is_set, is_open, byte_seen, memory_of, are_set, word_of, loaded, stored, is_open_word, with_byte as with_cell, with_word as with_cells}
use Rattle.ir_form.specs.Plain.{lends}
use Rattle.ir_form.specs.State.{Env}
use Rattle.ir_form.specs.Units.{Head}
use Rattle.rv_flat.specs.declared.linear.Linear.{Linear}
use Rattle.rv_frames.specs.Frames.{Caller}
use Rattle.rv_runs.specs.Moments.{Ground}
use Rattle.rv_runs.proofs.Steps.{Loadable, Storable, loadable, storable}
use Rattle.rv_layout.specs.Rooms.{slot}
use Rattle.rv_layout.specs.Words.{load_kind, store_kind}
use Rattle.rv_layout.specs.Ready.{InSlot}
use Rattle.rv_layout.specs.Held.{Layout, Laid, Held}
use Rattle.rv_layout.proofs.Stores.{slot_at, frame_low, below_top, held_byte, held_word}

pub both : (a b : Bool) → (a && b) ≡ true → (a ≡ true) × (b ≡ true)
both true b h = (refl, h)
both false b h = absurd (cc)

-- the four bytes of a word, or none
parts : (a b c d : Option ℕ) (w : ℕ) → word_of a b c d ≡ Some w → (x : ℕ) × (y : ℕ) × (z : ℕ) × (u : ℕ) × (a ≡ Some x) × (b ≡ Some y) × (c ≡ Some z) × (d ≡ Some u) × (x + 256 * y + 65536 * z + 16777216 * u ≡ w)
parts (Some x) (Some y) (Some z) (Some u) w h = (x, y, z, u, refl, refl, refl, refl, (let e : x + 256 * y + 65536 * z + 16777216 * u ≡ w = cc in e))
parts None b c d w h = absurd (cc)
parts (Some x) None c d w h = absurd (cc)
parts (Some x) (Some y) None d w h = absurd (cc)
parts (Some x) (Some y) (Some z) None w h = absurd (cc)

aligned_by : {X : Type 0} → (b : Bool) (x : Option X) (v : X) → (if b then x else None) ≡ Some v → (b ≡ true) × (x ≡ Some v)
aligned_by true x v h = (refl, h)
aligned_by false x v h = absurd (cc)

module _ (g : Ground) (gs : Setting) (l : Linear) (y : Layout) (laid : Laid g gs l y) (h : Head) (rooms deeper frame taken : ℕ) (env : Env) (cells : Cells) (callers : List Caller) (m : Memory) (is : Held g gs l y h rooms deeper frame taken env cells callers m) where
  pub end_small : end_at gs < 4294967296
  end_small = let a = laid.globals_high in let b = laid.globals_few in omega arith

  pub frame_even : frame % 4 ≡ 0
  frame_even = let t = is.active.top in let a = laid.aligned in let o = is.active.few_rooms in let d = is.active.few_deeper in omega arith

  -- a word of the room
  pub room_word : (o : ℕ) → o % 4 ≡ 0 → o + 4 ≤ 4 * h.room → Loadable g.space 4 (frame + o) × Storable g.space 4 (frame + o)
  room_word o e le =
      let f = frame_low gs h rooms deeper frame taken is.active in
      let low = f.2 in
      let top = below_top g gs l y m h frame callers is.below in
      let small = end_small in
      let even = frame_even in
      let end = laid.end in
      let text = laid.text in
      let t1 = laid.texts_low in
      let t2 = laid.texts_high in (
        loadable g.space 4 (frame + o) (omega arith) (omega arith) (omega arith) (omega arith) (omega arith),
        storable g.space 4 (frame + o) (omega arith) (omega arith) (omega arith) (omega arith) (omega arith),
      )

  pub slot_word : (x : ℕ) → InSlot h x → Loadable g.space 4 (frame + slot h x) × Storable g.space 4 (frame + slot h x)
  slot_word x lx =
      let s = slot_at h x is.active.room lx in
      let hi = s.high in
      room_word (slot h x) s.even (omega arith)

  -- a cell that is set, or open
  pub record SetAt (a : ℕ) : Type 0 where
    pub low : 65536 ≤ a
    pub high : a < end_at gs

  set_by : (a : ℕ) (c : Cell) → cells a ≡ c → is_set c ≡ true → SetAt a
  set_by a Closed e q = absurd (cc)
  set_by a Unset e q = absurd (cc)
  set_by a (Byte b) e q =
      let f = is.free a (ap is_open e) in
      let lo = f.low in
      let t1 = laid.texts_low in
      let t2 = laid.texts_high in
      record { low = omega arith; high = f.high }
  set_by a (Fixed b) e q =
      let f = is.fixed a b e in
      let hi = f.high in
      record { low = f.low; high = omega arith }

  pub set_at : (a : ℕ) → is_set (cells a) ≡ true → SetAt a
  set_at a q = set_by a (cells a) refl q

  set_byte : (c : Cell) (b : ℕ) → byte_of c ≡ Some b → is_set c ≡ true
  set_byte Closed b e = absurd (cc)
  set_byte Unset b e = absurd (cc)
  set_byte (Byte v) b e = refl
  set_byte (Fixed v) b e = refl

  -- what can be loaded is loaded
  pub record Loads (width : Width) (a w : ℕ) : Type 0 where
    pub may : Loadable g.space (load_size (load_kind width)) a
    pub is_word : loaded_from (load_kind width) m a ≡ w

  pub loads : (width : Width) (a w : ℕ) → loaded width cells a ≡ Some w → Loads width a w
  loads one_byte a w q =
      let s = set_at a (set_byte (cells a) w q) in
      let lo = s.low in
      let hi = s.high in
      let end = laid.end in
      let small = end_small in
      record { may = loadable g.space 1 a (omega arith) (omega arith) (omega arith) (omega arith) (omega arith); is_word = is.bytes a w q }
  loads one_word a w q =
      let e = aligned_by (eqb (a % 4) 0) (word_of (byte_of (cells a)) (byte_of (cells (a + 1))) (byte_of (cells (a + 2))) (byte_of (cells (a + 3)))) w q in
      let p = parts (byte_of (cells a)) (byte_of (cells (a + 1))) (byte_of (cells (a + 2))) (byte_of (cells (a + 3))) w e.1 in
      let s = set_at a (set_byte (cells a) p.0 p.4) in
      let t = set_at (a + 3) (set_byte (cells (a + 3)) p.3 p.7) in
      let lo = s.low in
      let hi = t.high in
      let end = laid.end in
      let small = end_small in
      let even : a % 4 ≡ 0 = eqb-true (a % 4) 0 e.0 in
      let b0 = is.bytes a p.0 p.4 in
      let b1 = is.bytes (a + 1) p.1 p.5 in
      let b2 = is.bytes (a + 2) p.2 p.6 in
      let b3 = is.bytes (a + 3) p.3 p.7 in
      record { may = loadable g.space 4 a (omega arith) (omega arith) (omega arith) (omega arith) (omega arith); is_word = rw (b0, b1, b2, b3) p.8 }

  -- what may be stored is stored
  pub record Stored (width : Width) (a w : ℕ) (after : Cells) : Type 0 where
    pub may : Storable g.space (store_size (store_kind width)) a
    pub held : Held g gs l y h rooms deeper frame taken env after callers (stored_to (store_kind width) m a w)

  pub stores : (width : Width) (a w : ℕ) (after : Cells) → stored width cells a w ≡ Some after → Stored width a w after
  stores one_byte a w c q =
      let e = aligned_by (is_open (cells a)) (Some (with_cell cells a (w % 256))) c q in
      let f = is.free a e.0 in
      let lo = f.low in
      let hi = f.high in
      let end = laid.end in
      let text = laid.text in
      let small = end_small in
      let same : with_cell cells a (w % 256) ≡ c = let p = e.1 in cc in
      record {
        may = storable g.space 1 a (omega arith) (omega arith) (omega arith) (omega arith) (omega arith);
        held = subst (λ n. Held g gs l y h rooms deeper frame taken env n callers (stored_to (store_kind one_byte) m a w)) same (held_byte g gs l y h rooms deeper frame taken env cells callers m a (w % 256) e.0 is);
      }
  stores one_word a w c q =
      let e = aligned_by (is_open_word cells a) (Some (with_cells cells a w)) c q in
      let b0 = both (eqb (a % 4) 0) (is_open (cells a) && (is_open (cells (a + 1)) && (is_open (cells (a + 2)) && is_open (cells (a + 3))))) e.0 in
      let b1 = both (is_open (cells a)) (is_open (cells (a + 1)) && (is_open (cells (a + 2)) && is_open (cells (a + 3)))) b0.1 in
      let b2 = both (is_open (cells (a + 1))) (is_open (cells (a + 2)) && is_open (cells (a + 3))) b1.1 in
      let b3 = both (is_open (cells (a + 2))) (is_open (cells (a + 3))) b2.1 in
      let even : a % 4 ≡ 0 = eqb-true (a % 4) 0 b0.0 in
      let f = is.free a b1.0 in
      let t = is.free (a + 3) b3.1 in
      let lo = f.low in
      let hi = t.high in
      let end = laid.end in
      let text = laid.text in
      let small = end_small in
      let same : with_cells cells a w ≡ c = let p = e.1 in cc in
      record {
        may = storable g.space 4 a (omega arith) (omega arith) (omega arith) (omega arith) (omega arith);
        held = subst (λ n. Held g gs l y h rooms deeper frame taken env n callers (stored_to (store_kind one_word) m a w)) same (held_word g gs l y h rooms deeper frame taken env cells callers m a w b1.0 b2.0 b3.0 b3.1 is);
      }

  -- what is lent to a service is what is in memory
  seen_by : (a : ℕ) (c : Cell) → cells a ≡ c → is_set c ≡ true → byte_seen c ≡ m a
  seen_by a Closed e q = absurd (cc)
  seen_by a Unset e q = absurd (cc)
  seen_by a (Byte b) e q = sym (is.bytes a b (ap byte_of e))
  seen_by a (Fixed b) e q = sym (is.bytes a b (ap byte_of e))

  pub bytes_seen : (a size : ℕ) → are_set cells a size ≡ true → bytes_at (memory_of cells) a size ≡ bytes_at m a size
  bytes_seen a zero q = refl
  bytes_seen a (suc size) q =
      let e = both (is_set (cells a)) (are_set cells (a + 1) size) q in
      let one : byte_seen (cells a) ≡ m a = seen_by a (cells a) refl e.0 in
      rw (one, bytes_seen (a + 1) size e.1) refl

  pub record Lends (a size : ℕ) : Type 0 where
    pub may : lends_from g.space a size ≡ true
    pub bytes : bytes_at (memory_of cells) a size ≡ bytes_at m a size

  pub lent : (a size : ℕ) → lends gs cells a size ≡ true → Lends a size
  lent a size q =
      let e = both (leb size 1048576) (((eqb size 0) || lies 65536 (end_at gs) a size) && are_set cells a size) q in
      let d = both ((eqb size 0) || lies 65536 (end_at gs) a size) (are_set cells a size) e.1 in
      let end = laid.end in
      let i : ((eqb size 0) || lies 65536 g.space.end a size) ≡ true = rw end d.0 in
      record { may = rw (e.0, i) refl; bytes = bytes_seen a size d.1 }
