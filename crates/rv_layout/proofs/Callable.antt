-- What is known of a routine that is called, and of the room that it has.
use Rattle.std.proofs.Common.{◌≡◌, ◌≢◌, ℕ, zero, suc, ◌+◌, ◌*◌, ◌<◌, ◌≤◌, List, [], ◌∷◌, ◌++◌, length, Some, refl, arith, ap, sym, ◌∙◌, subst}
use Rattle.std.specs.Prelude.{slice_get, All, IsSomeAnd}
use Rattle.std.specs.List.{AllByRecursion as Each}
use Rattle.std.specs.Option.{option_map}
use Rattle.std.proofs.lemmas.Option.{slice_get-map, slice_get_within, get_or_from_slice_get}
use Rattle.std.proofs.lemmas.List.Elements.{recursion_from_All}
use Rattle.ir_form.specs.Place.{Setting}
use Rattle.ir_form.specs.Lawful.{MayCall, IsSound}
use Rattle.ir_form.specs.Units.{Head}
use Rattle.rv_flat.specs.declared.linear.LinearRoutine.{LinearRoutine}
use Rattle.rv_flat.specs.declared.linear.Linear.{Linear}
use Rattle.rv_flat.specs.Lawful.{depths_of}
use Rattle.rv_flat.specs.Parts.{gathered, instruction_numbers, code_plains, linear_numbers, linear_marks}
use Rattle.rv_flat.specs.Units.{head_of}
use Rattle.rv_layout.specs.Ready.{InSlot, IsReadyCode, IsReadyRoutine}
use Rattle.rv_layout.specs.Held.{lowest, Active}

pub record Callable (h : Head) : Type 0 where
  pub words : h.words + 32 ≤ h.room
  pub depth : h.depth ≤ 8
  pub small : h.depth ≢ 0 → h.room ≤ 512
  pub parameters : Each (InSlot h) h.parameters

pub each_left : {X : Type 0} (P : X → Type 0) (xs ys : List X) → Each P (xs ++ ys) → Each P xs
each_left P [] ys h = tt
each_left P (x ∷ xs) ys h = (h.0, each_left P xs ys h.1)

pub each_right : {X : Type 0} (P : X → Type 0) (xs ys : List X) → Each P (xs ++ ys) → Each P ys
each_right P [] ys h = h
each_right P (x ∷ xs) ys h = each_right P xs ys h.1

-- what holds of each element holds of that at a place
pub all_at : {X : Type 0} (P : X → Type 0) (xs : List X) (k : ℕ) (x : X) → All P xs → slice_get xs k ≡ Some x → P x
all_at P xs k x h e = subst P (get_or_from_slice_get xs k x x e) (h k x (slice_get_within xs k x e))

pub callable_of : (l : Linear) → IsReadyCode l → (k : ℕ) (r : LinearRoutine) → slice_get l.routines k ≡ Some r → Callable (head_of r)
callable_of l ready k r here =
    let s : IsSound l.globals (length l.texts) (depths_of l.routines) (head_of r) (code_plains r.code) (linear_numbers r) (linear_marks r) =
    all_at (λ n. IsSound l.globals (length l.texts) (depths_of l.routines) (head_of n) (code_plains n.code) (linear_numbers n) (linear_marks n)) l.routines k r ready.sound.routines here in
    let o : IsReadyRoutine r = all_at IsReadyRoutine l.routines k r ready.routines here in
    let few = s.few in
    record {
      words = omega arith;
      depth = s.depth;
      small = s.small;
      parameters = each_left (InSlot (head_of r)) r.parameters (gathered instruction_numbers r.code) (recursion_from_All (InSlot (head_of r)) (linear_numbers r) o.slots);
    }

-- the caller may call it
pub may_call : (l : Linear) (depth k : ℕ) (r : LinearRoutine) → IsSomeAnd (slice_get (depths_of l.routines) k) (MayCall depth) → slice_get l.routines k ≡ Some r → MayCall depth r.depth
may_call l depth k r is here =
    let e : slice_get (depths_of l.routines) k ≡ Some r.depth = slice_get-map (λ (n : LinearRoutine). n.depth) l.routines k ∙ ap (option_map (λ (n : LinearRoutine). n.depth)) here in
    subst (λ o. IsSomeAnd o (MayCall depth)) e is

-- the room of a routine of depth 0, and of a deeper one
module _ (gs : Setting) (h new : Head) (rooms deeper frame taken : ℕ) (active : Active gs h rooms deeper frame taken) (callable : Callable new) where
  pub none_deep : MayCall h.depth 0 → deeper ≡ 0
  none_deep may = active.none_deeper (zero_of h.depth may)
    where
      zero_of : (d : ℕ) → MayCall d 0 → d ≡ 0
      zero_of zero may = refl
      zero_of (suc d) may = absurd (let lt : 0 < 0 = may.0 in omega arith)

  pub active_zero : new.depth ≡ 0 → deeper ≡ 0 → rooms + new.room ≤ 8388608 → Active gs new (rooms + new.room) deeper (lowest gs (rooms + new.room) deeper) 0
  active_zero z none few = record {
    words = callable.words;
    room = omega arith;
    few_rooms = few;
    few_deeper = omega arith;
    none_deeper = λ e. none;
    deeper_left = λ n. absurd (n z);
    top = omega arith;
  }

  pub roof_zero : deeper ≡ 0 → rooms + new.room ≤ 8388608 → lowest gs (rooms + new.room) deeper + 4 * new.room ≡ lowest gs rooms deeper
  roof_zero none few = omega arith

  deep_room : (c d : ℕ) → h.depth ≡ c → MayCall c (suc d) → suc d ≤ 8 → new.room ≤ 512 → deeper + new.room + 512 * suc d ≤ 4608
  deep_room zero d e may le small = let z = active.none_deeper e in omega arith
  deep_room (suc c) d e may le small =
      let left = active.deeper_left (λ z. absurd (not_zero (sym e ∙ z))) in
      let less = may.1 in
      omega arith
    where
      not_zero : suc c ≡ 0 → ⊥
      not_zero q = omega arith

  pub active_deep : (d : ℕ) → new.depth ≡ suc d → MayCall h.depth (suc d) → Active gs new rooms (deeper + new.room) (lowest gs rooms (deeper + new.room)) 0
  active_deep d e may =
      let n : new.depth ≢ 0 = λ z. absurd (let q : suc d ≡ 0 = sym e ∙ z in omega arith) in
      let small = callable.small n in
      let deep = callable.depth in
      let left = deep_room h.depth d refl may (omega arith) small in
      let few = active.few_rooms in
      record {
        words = callable.words;
        room = omega arith;
        few_rooms = active.few_rooms;
        few_deeper = omega arith;
        none_deeper = λ z. absurd (n z);
        deeper_left = λ z. omega arith;
        top = omega arith;
      }

  pub roof_deep : (d : ℕ) → new.depth ≡ suc d → MayCall h.depth (suc d) → lowest gs rooms (deeper + new.room) + 4 * new.room ≡ lowest gs rooms deeper
  roof_deep d e may =
      let a = active_deep d e may in
      let few = a.few_rooms in
      let more = a.few_deeper in
      omega arith
