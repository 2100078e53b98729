-- Assigned code over its places can be laid out.
use Rattle.std.proofs.Common.{◌≡◌, ℕ, zero, suc, ◌+◌, ◌*◌, ◌<◌, ◌≤◌, List, [], ◌∷◌, length, map, Some, refl, ap, sym, ◌∙◌, subst, arith}
use Rattle.std.specs.Prelude.{All, Contains, IsSomeAnd, slice_get}
use Rattle.std.specs.List.{AllZip, AllByRecursion as Each}
use Rattle.std.proofs.lemmas.List.{length-map, get_or-map}
use Rattle.std.proofs.lemmas.List.Elements.{All-map, All-weaker, All-same, All-from_recursion, recursion_from_All, All-contains, All-contains_itself}
use Rattle.ir_form.specs.declared.plain.Plain.{Plain as PlainOp}
use Rattle.ir_form.specs.declared.plain.Plain.TheVariants.{Constant, Global, Heap, Frame, Text, Compute, Load, Store, Ask, Call, Raise, Throw, Take, Give}
use Rattle.ir_form.specs.Lawful.{IsSound, IsThere, IsMainHead}
use Rattle.rv_flat.specs.declared.linear.LinearRoutine.{LinearRoutine}
use Rattle.rv_flat.specs.Units.{head_of}
use Rattle.rv_flat.specs.Lawful.{depths_of}
use Rattle.rv_flat.specs.Parts.{code_plains, linear_numbers, linear_marks, HasItsLabels, TakesOnce, IsUnguardedCode}
use Rattle.rv_alloc.specs.declared.place.Place.TheVariants.{Slot}
use Rattle.rv_alloc.specs.declared.place.Places.{Places}
use Rattle.rv_alloc.specs.declared.assigned.Assigned.{Assigned}
use Rattle.rv_alloc.specs.Places.{number_of, number_at}
use Rattle.rv_alloc.specs.Renamed.{renamed_plain, renamed_routine}
use Rattle.rv_alloc.specs.Assigned.{placed_routines, placed_code}
use Rattle.rv_alloc.specs.Holds.{HoldsRoutine, IsSlotBelow, IsSlotted, HasRoom}
use Rattle.rv_text.specs.Agrees.{ImagesAgree, ImagesArePlaces}
use Rattle.rv_text.specs.Text.{text_of, image_of, place_of_image}
use Rattle.rv_layout.specs.Ready.{InSlot, IsSmall, IsReadyRoutine}
use Rattle.rv_text.specs.Ready.{IsReady}
use Rattle.rv_emit.specs.Ready.{IsReadyToEmit, AllSmall, AgreesWith, picture_of}
use Rattle.rv_emit.specs.declared.emitter.Emitted.{Emitted}
use Rattle.rv_emit.proofs.Renaming.{Apart, routine_renamed, plains_renamed, has_its_labels, takes_once, marks_renamed, unguarded_renamed}

-- what is named is there, whatever the numbers of the values
there_renamed : (f : ℕ → ℕ) (globals texts : ℕ) (depths : List ℕ) (words depth : ℕ) (p : PlainOp) → IsThere globals texts depths words depth p → IsThere globals texts depths words depth (renamed_plain f p)
there_renamed f globals texts depths words depth (Constant to word) h = h
there_renamed f globals texts depths words depth (Global to word) h = h
there_renamed f globals texts depths words depth (Heap to) h = h
there_renamed f globals texts depths words depth (Frame to word) h = h
there_renamed f globals texts depths words depth (Text to byte) h = h
there_renamed f globals texts depths words depth (Compute to op left right) h = h
there_renamed f globals texts depths words depth (Load to width at) h = h
there_renamed f globals texts depths words depth (Store width at from) h = h
there_renamed f globals texts depths words depth (Ask to service) h = h
there_renamed f globals texts depths words depth (Call routine arguments to line) h = h
there_renamed f globals texts depths words depth (Raise kind line) h = h
there_renamed f globals texts depths words depth (Throw kind line) h = h
there_renamed f globals texts depths words depth (Take to number line) h = h
there_renamed f globals texts depths words depth (Give number) h = h

contains_renamed : (f : ℕ → ℕ) (xs : List ℕ) (x : ℕ) → Contains xs x → Contains (map f xs) (f x)
contains_renamed f xs x h = (h.0, subst (λ (n : ℕ). h.0 < n) (sym (length-map xs f)) h.1, get_or-map f xs h.0 x (f x) h.1 ∙ ap f h.2)

module _ (r : LinearRoutine) (p : Places) where
  abbrev f : ℕ → ℕ
  f = number_at p

  abbrev over : LinearRoutine
  over = renamed_routine f r

  sound_renamed : (globals texts : ℕ) (depths : List ℕ) → IsSound globals texts depths (head_of r) (code_plains r.code) (linear_numbers r) (linear_marks r) → IsSound globals texts depths (head_of over) (code_plains over.code) (linear_numbers over) (linear_marks over)
  sound_renamed globals texts depths h =
      let There : PlainOp → Type 0 = IsThere globals texts depths r.words r.depth in
      record {
        depth = h.depth;
        small = h.small;
        there = All-same There _ _ (plains_renamed f r.code) (All-map There (renamed_plain f) (code_plains r.code) (All-weaker There (λ q. There (renamed_plain f q)) (there_renamed f globals texts depths r.words r.depth) (code_plains r.code) h.there));
        values = map f h.values;
        known = All-same (Contains (map f h.values)) _ _ (routine_renamed f r)
            (All-map (Contains (map f h.values)) f (linear_numbers r) (All-weaker (Contains h.values) (λ v. Contains (map f h.values) (f v)) (contains_renamed f h.values) (linear_numbers r) h.known));
        marks = h.marks;
        marked = All-same (Contains h.marks) _ _ (marks_renamed f r.code) h.marked;
        few = let n = length-map h.values f in let few = h.few in omega arith;
      }

  apart : HoldsRoutine r p → IsSlotted r p → Apart f (linear_numbers r)
  apart h s = record {
    same = λ v w i j e.
        let a = All-contains (IsSlotBelow p.slots p) (linear_numbers r) v s.each i in let b = All-contains (IsSlotBelow p.slots p) (linear_numbers r) w s.each j in
        let one : 2 * a.slot + 1 ≡ 2 * b.slot + 1 = ap number_of (sym a.place) ∙ (e ∙ ap number_of b.place) in
        let same : a.slot ≡ b.slot = omega arith in
        h.apart.apart v w i j (a.place ∙ (ap (λ k. Some (Slot k)) same ∙ sym b.place));
  }

  in_slot : HasRoom r p → (v : ℕ) → IsSlotBelow p.slots p v → InSlot (head_of over) (f v)
  in_slot h v s =
      let e : f v ≡ 2 * s.slot + 1 = ap number_of s.place in let room = h.room in let below = s.below in
      record { odd = rw e (omega arith); room = rw e (omega arith) }

  ready_routine : HasItsLabels r.code → TakesOnce r → HoldsRoutine r p → IsSlotted r p → HasRoom r p → All IsSmall over.code → IsReadyRoutine over
  ready_routine labels once holds slots room small =
      let one = apart holds slots in
      record {
        labels = has_its_labels f r.code labels;
        slots = All-same (InSlot (head_of over)) _ _ (routine_renamed f r) (All-map (InSlot (head_of over)) f (linear_numbers r) (All-weaker (IsSlotBelow p.slots p) (λ v. InSlot (head_of over) (f v)) (in_slot room) (linear_numbers r) slots.each));
        once = takes_once f (linear_numbers r) one r (recursion_from_All _ _ (All-contains_itself (linear_numbers r))) once;
        small = small;
      }

depths_placed : (rs : List LinearRoutine) (ps : List Places) → AllZip HoldsRoutine rs ps → depths_of (placed_routines rs ps) ≡ depths_of rs
depths_placed [] ps h = refl
depths_placed (r ∷ rs) [] h = absurd h
depths_placed (r ∷ rs) (p ∷ ps) h = ap (λ xs. r.depth ∷ xs) (depths_placed rs ps h.1)

main_placed : (rs : List LinearRoutine) (ps : List Places) (k : ℕ) → AllZip HoldsRoutine rs ps → IsSomeAnd (slice_get rs k) (λ (r : LinearRoutine). IsMainHead (head_of r)) → IsSomeAnd (slice_get (placed_routines rs ps) k) (λ (r : LinearRoutine). IsMainHead (head_of r))
main_placed [] ps k h m = m
main_placed (r ∷ rs) [] k h m = absurd h
main_placed (r ∷ rs) (p ∷ ps) zero h m = record { depth = m.depth; room = m.room; parameters = ap (map (number_at p)) m.parameters }
main_placed (r ∷ rs) (p ∷ ps) (suc k) h m = main_placed rs ps k h.1 m

sound_placed : (globals texts : ℕ) (depths : List ℕ) (rs : List LinearRoutine) (ps : List Places) → AllZip HoldsRoutine rs ps → Each (λ r. IsSound globals texts depths (head_of r) (code_plains r.code) (linear_numbers r) (linear_marks r)) rs
    → Each (λ r. IsSound globals texts depths (head_of r) (code_plains r.code) (linear_numbers r) (linear_marks r)) (placed_routines rs ps)
sound_placed globals texts depths [] ps h s = tt
sound_placed globals texts depths (r ∷ rs) [] h s = absurd h
sound_placed globals texts depths (r ∷ rs) (p ∷ ps) h s = (sound_renamed r p globals texts depths s.0, sound_placed globals texts depths rs ps h.1 s.1)

ready_placed : (rs : List LinearRoutine) (ps : List Places) → Each (λ (r : LinearRoutine). HasItsLabels r.code) rs → Each TakesOnce rs → AllZip HoldsRoutine rs ps → AllZip IsSlotted rs ps → AllZip HasRoom rs ps
    → Each (λ (r : LinearRoutine). All IsSmall r.code) (placed_routines rs ps) → Each IsReadyRoutine (placed_routines rs ps)
ready_placed [] ps labels once holds slots room small = tt
ready_placed (r ∷ rs) [] labels once holds slots room small = absurd holds
ready_placed (r ∷ rs) (p ∷ ps) labels once holds slots room small =
    (ready_routine r p labels.0 once.0 holds.0 slots.0 room.0 small.0, ready_placed rs ps labels.1 once.1 holds.1 slots.1 room.1 small.1)

unguarded_placed : (rs : List LinearRoutine) (ps : List Places) → Each (λ (r : LinearRoutine). IsUnguardedCode r.code) rs → Each (λ (r : LinearRoutine). IsUnguardedCode r.code) (placed_routines rs ps)
unguarded_placed [] ps h = tt
unguarded_placed (r ∷ rs) [] h = tt
unguarded_placed (r ∷ rs) (p ∷ ps) h = (unguarded_renamed (number_at p) r.code h.0, unguarded_placed rs ps h.1)

pub ready : (a : Assigned) → IsReadyToEmit a → AllSmall (placed_code a).routines → All (λ b. b < 256) a.linear.texts → length (text_of (placed_code a)) ≤ 16777216 → IsReady (placed_code a)
ready a h small texts size =
    let l = a.linear in let s = h.lawful.sound in
    let Sound : List ℕ → LinearRoutine → Type 0 = λ ds r. IsSound l.globals (length l.texts) ds (head_of r) (code_plains r.code) (linear_numbers r) (linear_marks r) in
    record {
      code = record {
        sound = record {
          globals = s.globals;
          main = main_placed l.routines a.places l.main h.places s.main;
          routines = subst (λ (ds : List ℕ). All (Sound ds) (placed_code a).routines) (sym (depths_placed l.routines a.places h.places))
              (All-from_recursion (Sound (depths_of l.routines)) (placed_code a).routines (sound_placed l.globals (length l.texts) (depths_of l.routines) l.routines a.places h.places (recursion_from_All (Sound (depths_of l.routines)) l.routines s.routines)));
        };
        unguarded = All-from_recursion (λ (r : LinearRoutine). IsUnguardedCode r.code) (placed_code a).routines (unguarded_placed l.routines a.places (recursion_from_All (λ (r : LinearRoutine). IsUnguardedCode r.code) l.routines h.unguarded));
        routines = All-from_recursion IsReadyRoutine (placed_code a).routines
            (ready_placed l.routines a.places (recursion_from_All _ l.routines h.lawful.labels) (recursion_from_All TakesOnce l.routines h.lawful.once) h.places h.slots h.room (recursion_from_All _ (placed_code a).routines small));
      };
      texts = texts;
      size = size;
    }

module _ (a : Assigned) where
  pub agrees : ImagesAgree → ImagesArePlaces → IsReady (placed_code a) → IsReadyToEmit a → (e : Emitted) → picture_of e ≡ image_of (placed_code a) → AgreesWith a (picture_of e)
  agrees law places ready h e same =
      subst (AgreesWith a) (sym same) (law (placed_code a) ready (λ input folder t s. h.lawful.never_stuck (place_of_image (placed_code a)) input folder t s (places (placed_code a) ready)))
