-- Room for the slots of a lawful routine.
use Rattle.std.proofs.Common.{◌≡◌, ℕ, ◌≤◌, List, [], ◌∷◌, length, Bool, true, false, refl, sym, ap, ◌∙◌, cond, arith}
use Rattle.std.specs.Prelude.{All, Contains, nat_eq, ◌||◌}
use Rattle.std.specs.List.{AllZip, IsDistinct, AllByRecursion as Each}
use Rattle.std.specs.Set.{is_member, unique_keys, distinct_count}
use Rattle.std.specs.Cmp.{nat_eq_equiv}
use Rattle.std.proofs.lemmas.Bool.{eqb-true}
use Rattle.std.proofs.lemmas.Bool.Decides.{Decides-eqb}
use Rattle.std.proofs.lemmas.List.Elements.{All-contains, recursion_from_All}
use Rattle.std.proofs.lemmas.Map.Keys.{IsDistinct-cons}
use Rattle.std.proofs.lemmas.Map.Made.{is_member-Decides, length-le_from_is_member}
use Rattle.ir_form.specs.Lawful.{IsSound}
use Rattle.rv_flat.specs.declared.linear.LinearRoutine.{LinearRoutine}
use Rattle.rv_flat.specs.declared.linear.Linear.{Linear}
use Rattle.rv_flat.specs.Parts.{code_plains, linear_numbers, linear_marks}
use Rattle.rv_flat.specs.Units.{head_of}
use Rattle.rv_flat.specs.Lawful.{IsLawful as IsLawfulLinear, depths_of}
use Rattle.rv_alloc.specs.declared.place.Places.{Places}
use Rattle.rv_alloc.specs.Holds.{IsSlotted, HasRoom}

member_unique : (xs : List ℕ) (q : ℕ) → is_member nat_eq (unique_keys nat_eq xs) q ≡ is_member nat_eq xs q
member_unique [] q = refl
member_unique (x ∷ xs) q = at (is_member nat_eq xs x) (nat_eq q x) refl refl (member_unique xs q)
  where
    at : (b c : Bool) → is_member nat_eq xs x ≡ b → nat_eq q x ≡ c → is_member nat_eq (unique_keys nat_eq xs) q ≡ is_member nat_eq xs q → is_member nat_eq (cond b (unique_keys nat_eq xs) (x ∷ unique_keys nat_eq xs)) q ≡ (c || is_member nat_eq xs q)
    at true true h k rest = rest ∙ ap (is_member nat_eq xs) (eqb-true q x k) ∙ h
    at true false h k rest = rest
    at false c h k rest = ap (λ b. b || is_member nat_eq (unique_keys nat_eq xs) q) k ∙ ap (λ b. c || b) rest

apart : (x : ℕ) (ys : List ℕ) → is_member nat_eq ys x ≡ false → Each (λ y. nat_eq x y ≡ false) ys
apart x [] h = tt
apart x (y ∷ ys) h = at (nat_eq x y) refl h (apart x ys)
  where
    at : (b : Bool) → nat_eq x y ≡ b → (b || is_member nat_eq ys x) ≡ false → (is_member nat_eq ys x ≡ false → Each (λ z. nat_eq x z ≡ false) ys) → (nat_eq x y ≡ false) × Each (λ z. nat_eq x z ≡ false) ys
    at true e k rest = cc
    at false e k rest = (e, rest k)

distinct_unique : (xs : List ℕ) → IsDistinct nat_eq (unique_keys nat_eq xs)
unfolding IsDistinct
distinct_unique [] = tt
distinct_unique (x ∷ xs) = at (is_member nat_eq xs x) refl (distinct_unique xs)
  where
    at : (b : Bool) → is_member nat_eq xs x ≡ b → IsDistinct nat_eq (unique_keys nat_eq xs) → IsDistinct nat_eq (cond b (unique_keys nat_eq xs) (x ∷ unique_keys nat_eq xs))
    at true h rest = rest
    at false h rest = IsDistinct-cons nat_eq x (unique_keys nat_eq xs) (apart x (unique_keys nat_eq xs) (member_unique xs x ∙ h)) rest

-- there are no more different values than there are in a list that has all of them
pub few_different : (named values : List ℕ) → All (Contains values) named → distinct_count nat_eq named ≤ length values
few_different named values h =
    length-le_from_is_member nat_eq_equiv (unique_keys nat_eq named) values (distinct_unique named) (λ q m.
    (is_member-Decides Decides-eqb values q).1 (All-contains (Contains values) named q h ((is_member-Decides Decides-eqb named q).0 (sym (member_unique named q) ∙ m))))

has_room : (globals texts : ℕ) (depths : List ℕ) (r : LinearRoutine) (p : Places) → IsSound globals texts depths (head_of r) (code_plains r.code) (linear_numbers r) (linear_marks r) → IsSlotted r p → HasRoom r p
has_room globals texts depths r p sound slotted =
    let few = few_different (linear_numbers r) sound.values sound.known in let room = sound.few in let slots = slotted.slots in
    record { room = omega arith }

rooms : (globals texts : ℕ) (depths : List ℕ) (rs : List LinearRoutine) (ps : List Places) → Each (λ r. IsSound globals texts depths (head_of r) (code_plains r.code) (linear_numbers r) (linear_marks r)) rs → AllZip IsSlotted rs ps → AllZip HasRoom rs ps
rooms globals texts depths [] [] h k = tt
rooms globals texts depths [] (p ∷ ps) h k = absurd k
rooms globals texts depths (r ∷ rs) [] h k = absurd k
rooms globals texts depths (r ∷ rs) (p ∷ ps) h k = (has_room globals texts depths r p h.0 k.0, rooms globals texts depths rs ps h.1 k.1)

pub slots_have_room : (l : Linear) (ps : List Places) → AllZip IsSlotted l.routines ps → IsLawfulLinear l → AllZip HasRoom l.routines ps
slots_have_room l ps k h = rooms l.globals (length l.texts) (depths_of l.routines) l.routines ps (recursion_from_All _ l.routines h.sound.routines) k
