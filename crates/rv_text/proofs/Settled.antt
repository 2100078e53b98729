-- The text of an image, and what is known of it.
use Rattle.std.proofs.Common.{◌≡◌, ℕ, zero, suc, ◌+◌, ◌*◌, ◌/◌, ◌≤◌, List, [], ◌∷◌, ◌++◌, length, take, length-append, Some, refl, arith, ap, sym, subst}
use Rattle.std.specs.Prelude.{slice_get, map}
use Rattle.std.proofs.Math.Path.{fun_ext}
use Rattle.rv_isa.specs.declared.instr.Instr.{Instr}
use Rattle.rv_isa.specs.Encoding.{encoding}
use Rattle.rv_isa.specs.Step.{Space, with_any}
use Rattle.rv_image.specs.Start.{start_space}
use Rattle.rv_image.specs.Streams.{Folder}
use Rattle.ir_form.specs.Place.{Setting}
use Rattle.ir_form.specs.Units.{setting_of}
use Rattle.rv_flat.specs.declared.linear.Instruction.{Instruction}
use Rattle.rv_flat.specs.declared.linear.LinearRoutine.{LinearRoutine}
use Rattle.rv_flat.specs.declared.linear.Linear.{Linear}
use Rattle.rv_flat.specs.Units.{head_of}
use Rattle.rv_flat.specs.Flow.{place_of_label}
use Rattle.rv_runs.specs.Moments.{Ground}
use Rattle.rv_runs.specs.Stands.{Stands}
use Rattle.rv_runs.proofs.Comes.{done, widen}
use Rattle.rv_runs.proofs.Places.{stands_in, stands_left, stands_right}
use Rattle.rv_layout.specs.Pieces.{upper, go_to, ask}
use Rattle.rv_layout.specs.Rooms.{head_in, head_at, room_bytes}
use Rattle.rv_layout.specs.Calling.{entering, entering_length, takes_words, opening}
use Rattle.rv_layout.specs.Words.{instruction_words, code_words, far_jump}
use Rattle.rv_text.specs.Lengths.{code_length, routines_length}
use Rattle.rv_text.specs.Text.{exit_at, routines_at, entry_at, packed, addresses, label_at, routine_words, routines_words, around, all_words, text_of, image_of, place_of_image}
use Rattle.rv_layout.specs.Held.{Layout, Laid, IsEven, Arrived, Leads}
use Rattle.rv_layout.proofs.Slots.{go_then}
use Rattle.rv_text.proofs.Sizes.{entering_size, instruction_length_is, routines_length_is}
use Rattle.rv_text.proofs.Fitting.{all_words_fit}
use Rattle.rv_text.proofs.Placed.{code_in, place_in, jump_in, layout_of, label_is, length_step, code_stands, routine_stands}

-- how long the text is
coded : (xs : List Instr) → length (map encoding xs) ≡ length xs
coded [] = refl
coded (x ∷ xs) = let e = coded xs in omega arith

packed_length : (bs : List ℕ) → length (packed bs) ≡ (length bs + 3) / 4
packed_length [] = refl
packed_length (a ∷ []) = refl
packed_length (a ∷ (b ∷ [])) = refl
packed_length (a ∷ (b ∷ (c ∷ []))) = refl
packed_length (a ∷ (b ∷ (c ∷ (d ∷ more)))) = let e = packed_length more in omega arith

around_length : (l : Linear) → length (around l) ≡ 20
around_length l = refl

pub text_length : (l : Linear) → length (text_of l) ≡ 20 + routines_length l.routines l.routines + (length l.texts + 3) / 4
text_length l =
    let more : List Instr = routines_words (addresses l) l.routines routines_at l.routines in
    let a = length-append (map encoding (all_words l)) (packed l.texts) in
    let b = coded (all_words l) in
    let c = length-append (around l) more in
    let d = routines_length_is (addresses l) l.routines routines_at l.routines in
    let e = packed_length l.texts in
    let f = around_length l in
    omega arith

-- how far places go
code_part : (rs : List LinearRoutine) (h : Rattle.ir_form.specs.Units.Head) (code : List Instruction) (i : ℕ) → code_length rs h (take i code) ≤ code_length rs h code
code_part rs h [] zero = omega arith
code_part rs h [] (suc i) = omega arith
code_part rs h (x ∷ xs) zero = omega arith
code_part rs h (x ∷ xs) (suc i) = let e = code_part rs h xs i in omega arith

places_within : (rs more : List LinearRoutine) (k i : ℕ) →
    routines_length rs (take k more) + entering_length (head_in (slice_get more k)) + code_length rs (head_in (slice_get more k)) (take i (code_in (slice_get more k))) ≤ routines_length rs more + 10
places_within rs [] zero zero = omega arith
places_within rs [] zero (suc i) = omega arith
places_within rs [] (suc k) zero = omega arith
places_within rs [] (suc k) (suc i) = omega arith
places_within rs (r ∷ more) zero i = let e = code_part rs (head_of r) r.code i in omega arith
places_within rs (r ∷ more) (suc k) i = let e = places_within rs more k i in omega arith

-- the long jump leads to its place from anywhere
leads_far : (g : Ground) (pc to : ℕ) → IsEven to → Stands g.space pc (go_to to) → Leads g pc to
unfolding with_any
leads_far g pc to even stand q m w =
    widen g (0 + 2) (0 + 2) 1 2 _ _
    (go_then g 0 0 q m pc w (Arrived q m w to) to stand even.even even.small (done g _ (Arrived q m w to) (record { seven = upper to; is = refl })))
    (omega arith) (omega arith)

abbrev pub ground_of : Linear → Folder → Ground
ground_of l folder = record { folder = folder; space = start_space (image_of l) }

abbrev pub setting_of_image : Linear → Folder → Setting
setting_of_image l folder = setting_of (place_of_image l) l.globals folder

module _ (l : Linear) (folder : Folder) where
  abbrev s : Space
  s = start_space (image_of l)

  abbrev rs : List LinearRoutine
  rs = l.routines

  abbrev y : Layout
  y = layout_of l

  abbrev more : List Instr
  more = routines_words (addresses l) rs routines_at rs

  all_stand : Stands s 65536 (all_words l)
  all_stand = stands_in s [] (packed l.texts) (all_words l) refl (all_words_fit l)

  routines_stand : Stands s routines_at more
  routines_stand = stands_right s 65536 (around l) more all_stand

  around_stand : Stands s 65536 (around l)
  around_stand = stands_left s 65536 (around l) more all_stand

  ends_stand : Stands s exit_at (ask 0 ++ takes_words)
  ends_stand = let main = head_at rs l.main in stands_right s 65536 (opening (room_bytes main) exit_at (entry_at rs l.main + 4 * entering_length main)) (ask 0 ++ takes_words) around_stand

  pub opening_stands : Stands s 65536 (opening (room_bytes (head_at rs l.main)) exit_at (entry_at rs l.main + 4 * entering_length (head_at rs l.main)))
  opening_stands = let main = head_at rs l.main in stands_left s 65536 (opening (room_bytes main) exit_at (entry_at rs l.main + 4 * entering_length main)) (ask 0 ++ takes_words) around_stand

  one_stands : (k : ℕ) (r : LinearRoutine) → slice_get rs k ≡ Some r → Stands s (entry_at rs k) (routine_words (addresses l) rs (entry_at rs k) r)
  one_stands k r e = routine_stands s (addresses l) rs rs routines_at k r routines_stand e

  labels_are : (k : ℕ) (r : LinearRoutine) → label_at rs (entry_at rs k) r ≡ (λ label. place_in rs k (Some r) (place_of_label label r.code))
  labels_are k r = fun_ext (λ label. ap (λ n. entry_at rs k + 4 * entering_length (head_of r) + 4 * n) (label_is rs (head_of r) label r.code))

  stand_at : (k i : ℕ) (r : LinearRoutine) (x : Instruction) → slice_get rs k ≡ Some r → slice_get r.code i ≡ Some x →
      Stands s (place_in rs k (Some r) i) (instruction_words (addresses l) rs (head_of r) (jump_in rs k (Some r)) x)
  stand_at k i r x e f =
      let n = entering_size (head_of r) in
      let first : entry_at rs k + 4 * length (entering (head_of r)) ≡ entry_at rs k + 4 * entering_length (head_of r) = omega arith in
      let c = stands_right s (entry_at rs k) (entering (head_of r)) (code_words (addresses l) rs (head_of r) (far_jump (label_at rs (entry_at rs k) r)) r.code) (one_stands k r e) in
      let d = subst (λ p. Stands s p (code_words (addresses l) rs (head_of r) (far_jump (label_at rs (entry_at rs k) r)) r.code)) first c in
      subst (λ g. Stands s (place_in rs k (Some r) i) (instruction_words (addresses l) rs (head_of r) (far_jump g) x)) (labels_are k r)
      (code_stands s (addresses l) rs (head_of r) (label_at rs (entry_at rs k) r) r.code (entry_at rs k + 4 * entering_length (head_of r)) i x d f)

  follow_at : (k i : ℕ) (r : LinearRoutine) (x : Instruction) → slice_get r.code i ≡ Some x →
      place_in rs k (Some r) (i + 1) ≡ place_in rs k (Some r) i + 4 * length (instruction_words (addresses l) rs (head_of r) (jump_in rs k (Some r)) x)
  follow_at k i r x f =
      let e : i + 1 ≡ suc i = omega arith in
      let t = length_step rs (head_of r) r.code i x f in
      let n = instruction_length_is (addresses l) rs (head_of r) (λ label. place_in rs k (Some r) (place_of_label label r.code)) x in
      rw e (omega arith)

  pub settled : length (text_of l) ≤ 16777216 → l.globals ≤ 4259840 → Laid (ground_of l folder) (setting_of_image l folder) l y
  settled size few =
      let t = text_length l in
      let even : (k i : ℕ) → IsEven (place_in rs k (slice_get rs k) i) = λ k i. let p = places_within rs rs k i in record { even = omega arith; small = omega arith } in
      record {
        folder = refl;
        end = omega arith;
        text = omega arith;
        texts_low = omega arith;
        texts_high = omega arith;
        aligned = omega arith;
        globals_high = omega arith;
        globals_few = few;
        globals_at = refl;
        texts_at = refl;
        stands = λ k i r x e f. subst (λ o. Stands s (place_in rs k o i) (instruction_words (addresses l) rs (head_of r) (jump_in rs k o) x)) (sym e) (stand_at k i r x e f);
        follows = λ k i r x e f. subst (λ o. place_in rs k o (i + 1) ≡ place_in rs k o i + 4 * length (instruction_words (addresses l) rs (head_of r) (jump_in rs k o) x)) (sym e) (follow_at k i r x f);
        leads = λ k i label pc r e code.
            subst (λ c. Leads (ground_of l folder) pc (place_in rs k (slice_get rs k) (place_of_label label c))) (ap code_in e)
            (leads_far (ground_of l folder) pc (place_in rs k (slice_get rs k) (place_of_label label (code_in (slice_get rs k)))) (even k (place_of_label label (code_in (slice_get rs k)))) code.stand);
        enters = λ k r e. stands_left s (entry_at rs k) (entering (head_of r)) (code_words (addresses l) rs (head_of r) (far_jump (label_at rs (entry_at rs k) r)) r.code) (one_stands k r e);
        begins = λ k r e. subst (λ o. place_in rs k o 0 ≡ entry_at rs k + 4 * length (entering (head_of r))) (sym e) (let n = entering_size (head_of r) in omega arith);
        exits = stands_left s exit_at (ask 0) takes_words ends_stand;
        shares = stands_right s exit_at (ask 0) takes_words ends_stand;
        even_exit = record { even = refl; small = omega arith };
        even_shared = record { even = refl; small = omega arith };
        even_entry = λ k. let p = places_within rs rs k 0 in record { even = omega arith; small = omega arith };
        even_place = even;
      }
