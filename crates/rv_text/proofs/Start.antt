-- From the start of the machine to the main program's first instruction.
use Rattle.std.proofs.Common.{◌≡◌, ℕ, ◌+◌, ◌-◌, ◌*◌, ◌%◌, ◌<◌, ◌≤◌, ◌⊎◌, inl, inr, Bool, true, false, leb, ltb, List, [], ◌∷◌, ◌++◌, length, length-append, map, Option, Some, None, refl, arith, ap, sym, ◌∙◌, subst}
use Rattle.std.specs.Prelude.{slice_get, slice_index, IsSomeAnd, if◌then◌else◌, ◌&&◌}
use Rattle.std.proofs.lemmas.List.Elements.{recursion_from_All}
use Rattle.rv_isa.specs.Encoding.{encoding}
use Rattle.rv_isa.specs.declared.instr.Instr.{Instr}
use Rattle.rv_isa.specs.declared.instr.Instr.TheVariants.{Store, Register}
use Rattle.rv_isa.specs.declared.instr.StoreKind.TheVariants.{Word as whole_word}
use Rattle.rv_isa.specs.declared.instr.ImmediateOp.TheVariants.{Addi}
use Rattle.rv_isa.specs.declared.instr.RegisterOp.TheVariants.{Sub}
use Rattle.rv_isa.specs.Memory.{Memory, with_word}
use Rattle.rv_isa.specs.Step.{Registers, with_any}
use Rattle.rv_isa.proofs.Words.{outside}
use Rattle.rv_image.specs.Start.{start_cpu, start_memory, start_registers, no_registers}
use Rattle.rv_image.specs.Streams.{Folder, World, start_world}
use Rattle.ir_form.specs.Place.{Setting, heap_at, stack_at, end_at}
use Rattle.ir_form.specs.Cells.{Closed, Unset, Byte, Fixed, byte_of, is_open, start_cells}
use Rattle.ir_form.specs.Lawful.{IsMainHead}
use Rattle.ir_form.specs.State.{State}
use Rattle.ir_form.specs.Units.{Head, no_values, start}
use Rattle.rv_flat.specs.declared.linear.LinearRoutine.{LinearRoutine}
use Rattle.rv_flat.specs.declared.linear.Linear.{Linear}
use Rattle.rv_flat.specs.Units.{head_of}
use Rattle.rv_frames.specs.Frames.{Running, first, begins_main}
use Rattle.rv_runs.specs.Moments.{Ground, Moment, Live, Comes}
use Rattle.rv_runs.proofs.Comes.{done, widen}
use Rattle.rv_runs.proofs.Places.{stands_left, stands_right}
use Rattle.rv_runs.proofs.Steps.{cpu, storable, lui, immediate, combine, store}
use Rattle.rv_runs.specs.Stands.{Stands}
use Rattle.rv_layout.specs.Pieces.{minus, upper, copy, long, go_to}
use Rattle.rv_layout.specs.Rooms.{head_in, head_at, room_bytes}
use Rattle.rv_layout.specs.Calling.{entering_length, opening}
use Rattle.rv_text.specs.Text.{exit_at, routines_at, entry_at, addresses, routines_words, around, all_words, texts_at, text_of, image_of}
use Rattle.rv_text.specs.Ready.{IsReady}
use Rattle.rv_layout.specs.Held.{Layout, Laid, IsFree, Held, LiveAt, Same}
use Rattle.rv_layout.proofs.Slots.{long_then, go_then}
use Rattle.rv_layout.proofs.Stores.{word_again}
use Rattle.rv_layout.proofs.Ranges.{byte_before, fixed_before, open_now, inside_range}
use Rattle.rv_layout.proofs.Callable.{Callable, callable_of}
use Rattle.rv_text.proofs.Sizes.{routines_length_is}
use Rattle.rv_text.proofs.Placed.{layout_of}
use Rattle.rv_text.proofs.Settled.{ground_of, setting_of_image, opening_stands, settled}
use Rattle.rv_text.proofs.Bytes.{IsByte, start_zero, start_packed}

-- a cell at the start is one of the texts, or zero
set_first : (b c : Bool) (v x : ℕ) → byte_of (if b then Fixed v else if c then Byte 0 else Closed) ≡ Some x → ((b ≡ true) × (v ≡ x)) ⊎ ((c ≡ true) × (0 ≡ x))
set_first true c v x q = inl (refl, (let e : v ≡ x = cc in e))
set_first false true v x q = inr (refl, (let e : 0 ≡ x = cc in e))
set_first false false v x q = absurd (cc)

open_first : (b c : Bool) (v : ℕ) → is_open (if b then Fixed v else if c then Byte 0 else Closed) ≡ true → c ≡ true
open_first true c v q = absurd (cc)
open_first false true v q = refl
open_first false false v q = absurd (cc)

fixed_first : (b c : Bool) (v x : ℕ) → (if b then Fixed v else if c then Byte 0 else Closed) ≡ Fixed x → b ≡ true
fixed_first true c v x q = refl
fixed_first false true v x q = absurd (cc)
fixed_first false false v x q = absurd (cc)

-- how many words lie before the literals
coded : (xs : List Instr) → length (map encoding xs) ≡ length xs
coded [] = refl
coded (x ∷ xs) = let e = coded xs in omega arith

around_length : (l : Linear) → length (around l) ≡ 20
around_length l = refl

before_texts : (l : Linear) → 65536 + 4 * length (map encoding (all_words l)) ≡ texts_at l
before_texts l =
    let a = coded (all_words l) in
    let b = length-append (around l) (routines_words (addresses l) l.routines routines_at l.routines) in
    let c = around_length l in
    let d = routines_length_is (addresses l) l.routines routines_at l.routines in
    omega arith

module _ (l : Linear) (folder : Folder) (input : List ℕ) (ready : IsReady l) (main : IsMainHead (head_at l.routines l.main)) (callable : Callable (head_at l.routines l.main)) where
  abbrev g : Ground
  g = ground_of l folder

  abbrev gs : Setting
  gs = setting_of_image l folder

  abbrev y : Layout
  y = layout_of l

  abbrev h : Head
  h = head_at l.routines l.main

  abbrev st : State
  st = start gs h l.texts input 0 0

  abbrev before : Memory
  before = start_memory (text_of l)

  laid : Laid g gs l y
  laid = settled l folder ready.size ready.code.sound.globals

  literal : (a : ℕ) → texts_at l ≤ a → a < texts_at l + length l.texts → before a ≡ slice_index l.texts (a - texts_at l)
  literal a lo hi =
      let e = before_texts l in
      let ws : List ℕ = map encoding (all_words l) in
      let i : ℕ = a - texts_at l in
      let at : 65536 + 4 * length ws + i ≡ a = omega arith in
      subst (λ b. before b ≡ slice_index l.texts i) at (start_packed ws l.texts i (recursion_from_All IsByte l.texts ready.texts) (omega arith))

  free_first : (a : ℕ) → ((leb st.frame a && ltb a (st.frame + 4 * h.words)) ≡ true) ⊎ (is_open (start_cells gs l.texts a) ≡ true) → IsFree gs l h h.room 0 st.frame [] a
  free_first a (inl q) =
      let x = inside_range _ _ a q in
      let lo = x.0 in
      let hi = x.1 in
      let room = main.room in
      let words = callable.words in
      record { low = omega arith; high = omega arith; here = inl hi; above = tt; used = inr lo }
  free_first a (inr q) =
      let x = inside_range _ _ a (open_first _ _ _ q) in
      let lo = x.0 in
      let hi = x.1 in
      let room = main.room in
      record { low = lo; high = omega arith; here = inl (omega arith); above = tt; used = inl hi }

  byte_first : (a b : ℕ) → byte_of (start_cells gs l.texts a) ≡ Some b → with_word before (end_at gs - 4) exit_at a ≡ b
  byte_first a b q = byte_by (set_first _ _ (slice_index l.texts (a - texts_at l)) b q)
    where
      byte_by : (((leb (texts_at l) a && ltb a (texts_at l + length l.texts)) ≡ true) × (slice_index l.texts (a - texts_at l) ≡ b)) ⊎ (((leb gs.place.globals_at a && ltb a (stack_at gs)) ≡ true) × (0 ≡ b)) → with_word before (end_at gs - 4) exit_at a ≡ b
      byte_by (inl z) =
          let x = inside_range _ _ a z.0 in
          let lo = x.0 in
          let hi = x.1 in
          let high = laid.texts_high in
          outside before (end_at gs - 4) exit_at a (inl (omega arith)) ∙ (literal a lo hi ∙ z.1)
      byte_by (inr z) =
          let x = inside_range _ _ a z.0 in
          let lo = x.0 in
          let hi = x.1 in
          let text = laid.text in
          outside before (end_at gs - 4) exit_at a (inl (omega arith)) ∙ (start_zero (text_of l) a (omega arith) ∙ z.1)

  held_first : Held g gs l y h h.room 0 st.frame 0 no_values st.cells [] (with_word before (end_at gs - 4) exit_at)
  held_first =
      let room = main.room in
      let words = callable.words in
      let frame : st.frame + 4 * h.room ≡ end_at gs = omega arith in
      record {
        active = record { words = words; room = room; few_rooms = room; few_deeper = omega arith; none_deeper = λ e. refl; deeper_left = λ n. absurd (n main.depth); top = omega arith };
        slots = record { slots = λ x v e. absurd (cc) };
        below = (frame, ap (λ p. Rattle.rv_isa.specs.Memory.word_at (with_word before (end_at gs - 4) exit_at) (p - 4)) frame ∙ word_again before (end_at gs - 4) exit_at);
        bytes = λ a b q. byte_first a b (byte_before _ Unset (start_cells gs l.texts a) b refl q);
        free = λ a q. free_first a (open_now _ (start_cells gs l.texts a) q);
        fixed = λ a b q.
            let x = inside_range _ _ a (fixed_first _ _ _ b (fixed_before _ Unset (start_cells gs l.texts a) b refl q)) in
            let lo = x.0 in
            let hi = x.1 in
            let low = laid.texts_low in
            let high = laid.texts_high in
            record { low = omega arith; high = omega arith };
      }

  -- where the main program's first word lies
  abbrev begin : ℕ
  begin = entry_at l.routines l.main + 4 * entering_length h

  abbrev Begun : Moment → Type 0
  Begun x = LiveAt g gs l y l.main 0 h st [] x

  opening_then : (q : Registers) (pc : ℕ) → Stands g.space pc (opening (room_bytes h) exit_at begin) → q 0 ≡ 0 → q 2 ≡ end_at gs → q 4 ≡ heap_at gs → Comes g 11 11 (Live (cpu q before pc) (start_world input)) Begun
  unfolding with_any
  opening_then q pc s z e2 e4 =
      let room = main.room in
      let words = callable.words in
      let high = laid.globals_high in
      let few = laid.globals_few in
      let text = laid.text in
      let end = laid.end in
      let aligned = laid.aligned in
      let first_even = laid.even_place l.main 0 in
      let here : y.place l.main 0 ≡ begin = omega arith in
      let even = first_even.even in
      let small = first_even.small in
      let w : World = start_world input in
      let rest3 : List Instr = Store whole_word 2 8 (minus 4) ∷ copy 2 1 ∷ go_to begin in
      let rest2 : List Instr = Register Sub 1 2 6 ∷ (long 8 exit_at ++ rest3) in
      let s2 = stands_right g.space (pc + 4 + 4) (long 6 (room_bytes h)) rest2 s.1.1 in
      let s3 = stands_right g.space (pc + 4 + 4 + 8 + 4) (long 8 exit_at) rest3 s2.1 in
      let floor : (end_at gs + (4294967296 - 33554432)) % 4294967296 ≡ end_at gs - 33554432 = omega arith in
      let frame : (end_at gs + (4294967296 - room_bytes h)) % 4294967296 ≡ st.frame = omega arith in
      let place : (end_at gs + minus 4) % 4294967296 ≡ end_at gs - 4 = omega arith in
      let same : (st.frame + 0) % 4294967296 ≡ st.frame = omega arith in
      let word = storable g.space 4 (end_at gs - 4) (omega arith) (omega arith) (omega arith) (omega arith) (omega arith) in
      let q3 : Registers = with_any (with_any q 3 33554432) 3 (end_at gs - 33554432) in
      let q6 : Registers = with_any q3 6 (room_bytes h) in
      let q1 : Registers = with_any q6 1 st.frame in
      let q8 : Registers = with_any q1 8 exit_at in
      let q2 : Registers = with_any q8 2 st.frame in
      let n : Memory = with_word before (end_at gs - 4) exit_at in
      widen g (0 + 2 + 1 + 1 + 2 + 1 + 2 + 1 + 1) (0 + 2 + 1 + 1 + 2 + 1 + 2 + 1 + 1) 11 11 _ _
      (lui g (0 + 2 + 1 + 1 + 2 + 1 + 2 + 1) (0 + 2 + 1 + 1 + 2 + 1 + 2 + 1) q before pc w Begun 3 33554432 s.0 refl
      (combine g (0 + 2 + 1 + 1 + 2 + 1 + 2) (0 + 2 + 1 + 1 + 2 + 1 + 2) (with_any q 3 33554432) before (pc + 4) w Begun Sub 3 2 3 (end_at gs - 33554432) s.1.0 refl (ap (λ u. (u + (4294967296 - 33554432)) % 4294967296) e2 ∙ floor)
      (long_then g (0 + 2 + 1 + 1 + 2 + 1) (0 + 2 + 1 + 1 + 2 + 1) q3 before (pc + 4 + 4) w Begun 6 (room_bytes h) (stands_left g.space (pc + 4 + 4) (long 6 (room_bytes h)) rest2 s.1.1) refl (omega arith)
      (combine g (0 + 2 + 1 + 1 + 2) (0 + 2 + 1 + 1 + 2) q6 before (pc + 4 + 4 + 8) w Begun Sub 1 2 6 st.frame s2.0 refl (ap (λ u. (u + (4294967296 - room_bytes h)) % 4294967296) e2 ∙ frame)
      (long_then g (0 + 2 + 1 + 1) (0 + 2 + 1 + 1) q1 before (pc + 4 + 4 + 8 + 4) w Begun 8 exit_at (stands_left g.space (pc + 4 + 4 + 8 + 4) (long 8 exit_at) rest3 s2.1) refl laid.even_exit.small
      (store g (0 + 2 + 1) (0 + 2 + 1) q8 before (pc + 4 + 4 + 8 + 4 + 8) w Begun whole_word 2 8 (minus 4) (end_at gs - 4) s3.0 (ap (λ u. (u + minus 4) % 4294967296) e2 ∙ place) word
      (immediate g (0 + 2) (0 + 2) q8 n (pc + 4 + 4 + 8 + 4 + 8 + 4) w Begun Addi 2 1 0 st.frame s3.1.0 refl same
      (go_then g 0 0 q2 n (pc + 4 + 4 + 8 + 4 + 8 + 4 + 4) w Begun begin s3.1.1 (omega arith) (omega arith)
      (done g _ Begun (record { cpu = cpu (with_any q2 7 (upper begin)) n begin; is = refl; at = sym here; fast = (z, refl, refl, refl, e4); holds = held_first }))))))))))
      (omega arith) (omega arith)

  -- the registers of the start
  start_then : Comes g 0 12 (Live (start_cpu (image_of l)) (start_world input)) Begun
  unfolding with_any no_registers
  start_then =
      let end = laid.end in
      let text = laid.text in
      widen g 11 11 0 12 _ _
      (opening_then (start_registers (length (text_of l)) l.globals) 65536 (opening_stands l folder) refl end (ap (λ n. n + 4 * l.globals) text))
      (omega arith) (omega arith)

main_of : (l : Linear) (r : LinearRoutine) → IsReady l → slice_get l.routines l.main ≡ Some r → IsMainHead (head_of r)
main_of l r ready here = subst (λ o. IsSomeAnd o (λ n. IsMainHead (head_of n))) here ready.code.sound.main

-- the main program begins, if it is there
begins_lock : (l : Linear) (folder : Folder) (input : List ℕ) → IsReady l → (o : Option LinearRoutine) → slice_get l.routines l.main ≡ o →
    Comes (ground_of l folder) 0 12 (Live (start_cpu (image_of l)) (start_world input)) (Same (ground_of l folder) (setting_of_image l folder) l (layout_of l) (begins_main (setting_of_image l folder) l o input))
begins_lock l folder input ready None here = record { count = 0; low = omega arith; high = omega arith; there = tt }
begins_lock l folder input ready (Some r) here =
    let is = sym (ap head_in here) in
    subst (λ n. Comes (ground_of l folder) 0 12 (Live (start_cpu (image_of l)) (start_world input)) (Same (ground_of l folder) (setting_of_image l folder) l (layout_of l) (Running l.main 0 (start (setting_of_image l folder) n l.texts input 0 0) []))) (ap head_in here)
    (start_then l folder input ready (subst IsMainHead is (main_of l r ready here)) (subst Callable is (callable_of l ready.code l.main r here)))

pub starts : (l : Linear) (folder : Folder) (input : List ℕ) → IsReady l →
    Comes (ground_of l folder) 0 12 (Live (start_cpu (image_of l)) (start_world input)) (Same (ground_of l folder) (setting_of_image l folder) l (layout_of l) (first (setting_of_image l folder) l input))
starts l folder input ready = begins_lock l folder input ready (slice_get l.routines l.main) refl
