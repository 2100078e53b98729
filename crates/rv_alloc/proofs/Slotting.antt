-- Slots that are given to values in order.
use Rattle.std.proofs.Common.{◌≡◌, ℕ, suc, ◌+◌, List, [], ◌∷◌, ◌++◌, length, Some, None, Bool, true, false, refl, sym, ap, ◌∙◌, subst, cond, add-one, arith}
use Rattle.std.specs.Prelude.{All, Contains, IsSome, nat_eq, if◌then◌else◌, ◌||◌}
use Rattle.std.specs.Option.{is_some}
use Rattle.std.specs.Set.{is_member, unique_keys, distinct_count}
use Rattle.std.proofs.lemmas.Bool.{eqb-true, eq-eqb}
use Rattle.std.proofs.lemmas.Bool.Decides.{Decides-eqb}
use Rattle.std.proofs.lemmas.List.Elements.{All-weaker, All-contains_itself}
use Rattle.std.proofs.lemmas.Map.Made.{is_member-Decides}
use Rattle.rv_flat.specs.declared.linear.LinearRoutine.{LinearRoutine}
use Rattle.rv_flat.specs.Parts.{linear_numbers}
use Rattle.rv_alloc.specs.declared.place.Place.TheVariants.{Slot}
use Rattle.rv_alloc.specs.declared.place.Places.{Places}
use Rattle.rv_alloc.specs.Places.{place_of, GivesSlot}
use Rattle.rv_alloc.specs.Holds.{IsSlotBelow, IsSlotted}

-- whether a value is among others, with one more of them
member_more : (xs : List ℕ) (v q : ℕ) → is_member nat_eq (xs ++ v ∷ []) q ≡ (is_member nat_eq xs q || nat_eq q v)
member_more [] v q = or_false (nat_eq q v)
  where
    or_false : (b : Bool) → (b || false) ≡ b
    or_false true = refl
    or_false false = refl
member_more (x ∷ xs) v q = ap (λ b. nat_eq q x || b) (member_more xs v q) ∙ at (nat_eq q x)
  where
    at : (b : Bool) → (b || (is_member nat_eq xs q || nat_eq q v)) ≡ ((b || is_member nat_eq xs q) || nat_eq q v)
    at true = refl
    at false = refl

-- the count of different values, with one more value
count_more : (xs : List ℕ) (v : ℕ) → distinct_count nat_eq (xs ++ v ∷ []) ≡ (if is_member nat_eq xs v then distinct_count nat_eq xs else suc (distinct_count nat_eq xs))
count_more [] v = refl
count_more (x ∷ xs) v =
    counts (is_member nat_eq (xs ++ v ∷ []) x) (unique_keys nat_eq (xs ++ v ∷ [])) x
    ∙ ap (λ b. if b then distinct_count nat_eq (xs ++ v ∷ []) else suc (distinct_count nat_eq (xs ++ v ∷ []))) (member_more xs v x)
    ∙ ap (λ n. if is_member nat_eq xs x || nat_eq x v then n else suc n) (count_more xs v)
    ∙ at (is_member nat_eq xs x) (is_member nat_eq xs v) (nat_eq x v) (nat_eq v x) (distinct_count nat_eq xs) (flips x v) (λ e. ap (is_member nat_eq xs) (eqb-true x v e))
    ∙ ap (λ n. if nat_eq v x || is_member nat_eq xs v then n else suc n) (sym (counts (is_member nat_eq xs x) (unique_keys nat_eq xs) x))
  where
    counts : (b : Bool) (ks : List ℕ) (k : ℕ) → length (cond b ks (k ∷ ks)) ≡ (if b then length ks else suc (length ks))
    counts true ks k = refl
    counts false ks k = refl

    flips : (a b : ℕ) → nat_eq a b ≡ nat_eq b a
    flips a b = grind arith

    at : (mx mv e i : Bool) (n : ℕ) → e ≡ i → (e ≡ true → mx ≡ mv)
        → (if mx || e then (if mv then n else suc n) else suc (if mv then n else suc n)) ≡ (if i || mv then (if mx then n else suc n) else suc (if mx then n else suc n))
    at true true true true n h k = refl
    at true true false false n h k = refl
    at true false true true n h k = let wrong : true ≡ false = k refl in cc
    at true false false false n h k = refl
    at false true true true n h k = let wrong : false ≡ true = k refl in cc
    at false true false false n h k = refl
    at false false true true n h k = refl
    at false false false false n h k = refl
    at mx mv true false n h k = cc
    at mx mv false true n h k = cc

-- the values that were seen have slots, in the order in which they came first, and no other value has a place
pub record Slotted (seen : List ℕ) (p : Places) : Type 0 where
  pub member : (v : ℕ) → is_member nat_eq seen v ≡ is_some (place_of p v)
  pub slot : (v : ℕ) → IsSome (place_of p v) → IsSlotBelow p.slots p v
  pub apart : (v w : ℕ) → IsSome (place_of p v) → place_of p v ≡ place_of p w → v ≡ w
  pub count : p.slots ≡ distinct_count nat_eq seen

pub slotted_none : (p : Places) → ((v : ℕ) → place_of p v ≡ None) → p.slots ≡ 0 → Slotted [] p
slotted_none p h e = record {
  member = λ v. ap is_some (sym (h v));
  slot = λ v i. let wrong : false ≡ true = ap is_some (sym (h v)) ∙ i in cc;
  apart = λ v w i j. let wrong : false ≡ true = ap is_some (sym (h v)) ∙ i in cc;
  count = e;
}

module _ (seen : List ℕ) (p q : Places) (v : ℕ) (s : Slotted seen p) (g : GivesSlot p q v) where
  -- a place stays
  old : (u : ℕ) → IsSome (place_of p u) → place_of q u ≡ place_of p u
  old u i = g.places u ∙ at (nat_eq v u) (is_some (place_of p u)) i
    where
      at : (b c : Bool) → c ≡ true → (if b then (if c then place_of p u else Some (Slot p.slots)) else place_of p u) ≡ place_of p u
      at true true e = refl
      at true false e = cc
      at false c e = refl

  other : (u : ℕ) → nat_eq v u ≡ false → place_of q u ≡ place_of p u
  other u e = g.places u ∙ ap (λ b. if b then (if is_some (place_of p u) then place_of p u else Some (Slot p.slots)) else place_of p u) e

  own : is_some (place_of p v) ≡ false → place_of q v ≡ Some (Slot p.slots)
  own e = g.places v ∙ ap (λ b. if b then (if is_some (place_of p v) then place_of p v else Some (Slot p.slots)) else place_of p v) (eq-eqb v v refl)
      ∙ ap (λ b. if b then place_of p v else Some (Slot p.slots)) e

  -- a value that has a place already
  again : is_some (place_of p v) ≡ true → Slotted (seen ++ v ∷ []) q
  again e =
      let slots = g.slots ∙ ap (λ b. if b then p.slots else p.slots + 1) e in
      record {
        member = λ u. member_more seen v u ∙ ap (λ b. b || nat_eq u v) (s.member u) ∙ known u (nat_eq u v) refl ∙ ap is_some (sym (all u (nat_eq v u) refl));
        slot = λ u i. let same = all u (nat_eq v u) refl in let was = s.slot u (ap is_some (sym same) ∙ i) in record { slot = was.slot; place = same ∙ was.place; below = let b = was.below in omega arith };
        apart = λ u w i j. s.apart u w (ap is_some (sym (all u (nat_eq v u) refl)) ∙ i) (sym (all u (nat_eq v u) refl) ∙ j ∙ all w (nat_eq v w) refl);
        count = slots ∙ s.count ∙ sym (count_more seen v ∙ ap (λ b. if b then distinct_count nat_eq seen else suc (distinct_count nat_eq seen)) (s.member v ∙ e));
      }
    where
      all : (u : ℕ) (b : Bool) → nat_eq v u ≡ b → place_of q u ≡ place_of p u
      all u true h = let same = eqb-true v u h in old u (subst (λ (x : ℕ). IsSome (place_of p x)) same e)
      all u false h = other u h

      known : (u : ℕ) (b : Bool) → nat_eq u v ≡ b → (is_some (place_of p u) || b) ≡ is_some (place_of p u)
      known u true h = let yes : is_some (place_of p u) ≡ true = subst (λ (x : ℕ). IsSome (place_of p x)) (sym (eqb-true u v h)) e in ap (λ b. b || true) yes ∙ sym yes
      known u false h = or_false (is_some (place_of p u))
        where
          or_false : (b : Bool) → (b || false) ≡ b
          or_false true = refl
          or_false false = refl

  -- a value that gets the next slot
  anew : is_some (place_of p v) ≡ false → Slotted (seen ++ v ∷ []) q
  anew e =
      let slots : q.slots ≡ p.slots + 1 = g.slots ∙ ap (λ b. if b then p.slots else p.slots + 1) e in
      record {
        member = λ u. member_more seen v u ∙ ap (λ b. b || nat_eq u v) (s.member u) ∙ known u (nat_eq u v) (nat_eq v u) refl refl;
        slot = λ u i. slot u (nat_eq v u) refl slots i;
        apart = λ u w i j. apart u w (nat_eq v u) (nat_eq v w) refl refl i j;
        count = slots ∙ add-one p.slots ∙ ap suc s.count ∙ sym (count_more seen v ∙ ap (λ b. if b then distinct_count nat_eq seen else suc (distinct_count nat_eq seen)) (s.member v ∙ e));
      }
    where
      own_at : (u : ℕ) → nat_eq v u ≡ true → place_of q u ≡ Some (Slot p.slots)
      own_at u h = subst (λ x. place_of q x ≡ Some (Slot p.slots)) (eqb-true v u h) (own e)

      known : (u : ℕ) (b c : Bool) → nat_eq u v ≡ b → nat_eq v u ≡ c → (is_some (place_of p u) || b) ≡ is_some (place_of q u)
      known u true true h k = or_true (is_some (place_of p u)) ∙ sym (ap is_some (own_at u k))
        where
          or_true : (b : Bool) → (b || true) ≡ true
          or_true true = refl
          or_true false = refl
      known u false false h k = or_false (is_some (place_of p u)) ∙ sym (ap is_some (other u k))
        where
          or_false : (b : Bool) → (b || false) ≡ b
          or_false true = refl
          or_false false = refl
      known u true false h k = let wrong : nat_eq v u ≡ true = eq-eqb v u (sym (eqb-true u v h)) in cc
      known u false true h k = let wrong : nat_eq u v ≡ true = eq-eqb u v (sym (eqb-true v u k)) in cc

      slot : (u : ℕ) (b : Bool) → nat_eq v u ≡ b → q.slots ≡ p.slots + 1 → IsSome (place_of q u) → IsSlotBelow q.slots q u
      slot u true h n i = record { slot = p.slots; place = own_at u h; below = omega arith }
      slot u false h n i =
          let same = other u h in let was = s.slot u (ap is_some (sym same) ∙ i) in
          record { slot = was.slot; place = same ∙ was.place; below = let b = was.below in omega arith }

      next : (u : ℕ) → IsSome (place_of p u) → place_of p u ≡ Some (Slot p.slots) → ⊥
      next u i j = let was = s.slot u i in let same : Some (Slot was.slot) ≡ Some (Slot p.slots) = sym was.place ∙ j in let n : was.slot ≡ p.slots = cc in let b = was.below in omega arith

      apart : (u w : ℕ) (b c : Bool) → nat_eq v u ≡ b → nat_eq v w ≡ c → IsSome (place_of q u) → place_of q u ≡ place_of q w → u ≡ w
      apart u w true true h k i j = sym (eqb-true v u h) ∙ eqb-true v w k
      apart u w true false h k i j =
          let same : place_of p w ≡ Some (Slot p.slots) = sym (other w k) ∙ sym j ∙ own_at u h in absurd (next w (ap is_some same) same)
      apart u w false true h k i j =
          let same : place_of p u ≡ Some (Slot p.slots) = sym (other u h) ∙ j ∙ own_at w k in absurd (next u (ap is_some same) same)
      apart u w false false h k i j = s.apart u w (ap is_some (sym (other u h)) ∙ i) (sym (other u h) ∙ j ∙ other w k)

  pub slotted_more : Slotted (seen ++ v ∷ []) q
  slotted_more = at (is_some (place_of p v)) refl
    where
      at : (b : Bool) → is_some (place_of p v) ≡ b → Slotted (seen ++ v ∷ []) q
      at true e = again e
      at false e = anew e

has_places : (seen : List ℕ) (p : Places) → Slotted seen p → All (λ v. IsSome (place_of p v)) seen
has_places seen p s = All-weaker (Contains seen) _ (λ v i. sym (s.member v) ∙ (is_member-Decides Decides-eqb seen v).1 i) seen (All-contains_itself seen)

pub slotted_slots : (r : LinearRoutine) (p : Places) → Slotted (linear_numbers r) p → IsSlotted r p
slotted_slots r p s = record { slots = s.count; each = All-weaker _ (IsSlotBelow p.slots p) (λ v i. s.slot v i) (linear_numbers r) (has_places (linear_numbers r) p s) }
