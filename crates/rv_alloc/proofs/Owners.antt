-- Which value has a place, as far as values were seen.
use Rattle.std.proofs.Common.{◌≡◌, ◌≢◌, ℕ, ◌<◌, List, [], ◌∷◌, ◌++◌, Option, Some, None, Bool, true, false, ◌⊎◌, inl, inr, take, drop, refl, sym, ap, ◌∙◌, subst, cond, arith}
use Rattle.std.specs.Prelude.{All, Contains, IsSome, nat_eq}
use Rattle.std.specs.Option.{unwrap_or}
use Rattle.std.specs.HashMap.{HashMap, get, Updates}
use Rattle.std.specs.Map.{lookup}
use Rattle.std.proofs.lemmas.Bool.{eqb-true, eq-eqb}
use Rattle.std.proofs.lemmas.List.{take-append-drop}
use Rattle.std.proofs.lemmas.List.Elements.{All-contains, All-push, All-nil, Contains-push, Contains-push_cases, Contains-append_left}
use Rattle.rv_flat.specs.declared.linear.LinearRoutine.{LinearRoutine}
use Rattle.rv_flat.specs.Parts.{linear_numbers}
use Rattle.rv_alloc.specs.declared.place.Places.{Places}
use Rattle.rv_alloc.specs.Places.{place_of, number_of, number_at}
use Rattle.rv_alloc.specs.Holds.{HoldsRoutine}
use Rattle.rv_alloc.proofs.Whole.{number_of-one}

-- each of the values has a place, and is the one that owns its number; no other numbers are owned
pub record Owned {S : Type 0} (p : Places) (seen : List ℕ) (owners : HashMap ℕ ℕ S) : Type 0 where
  pub placed : All (λ v. IsSome (place_of p v)) seen
  pub owner : (v : ℕ) → Contains seen v → get nat_eq owners (number_at p v) ≡ Some v
  pub owned : (n w : ℕ) → get nat_eq owners n ≡ Some w → Contains seen w × (number_at p w ≡ n)

pub owned_none : {S : Type 0} (p : Places) (owners : HashMap ℕ ℕ S) → owners.entries ≡ [] → Owned p [] owners
owned_none p owners e = record {
  placed = All-nil (λ x. IsSome (place_of p x));
  owner = λ v i. let wrong : i.0 < 0 = i.1 in absurd (omega arith);
  owned = λ n w i. let wrong : None ≡ Some w = ap (λ es. lookup (nat_eq n) es) (sym e) ∙ i in cc;
}

-- a value whose number nobody else owns
pub owned_more : {S : Type 0} (p : Places) (seen : List ℕ) (before after : HashMap ℕ ℕ S) (v n : ℕ) → Owned p seen before → IsSome (place_of p v) → number_at p v ≡ n
    → Updates nat_eq before after n (Some v) → unwrap_or (get nat_eq before n) v ≡ v → Owned p (seen ++ v ∷ []) after
owned_more p seen before after v n o i e u own = record {
  placed = All-push (λ x. IsSome (place_of p x)) seen v o.placed i;
  owner = λ w j. owner w (Contains-push_cases seen v w j);
  owned = λ m w j. owned m w (nat_eq n m) refl j;
}
  where
    here : (m : ℕ) → nat_eq n m ≡ true → get nat_eq after m ≡ Some v
    here m h = u.0 m ∙ ap (λ b. cond b (Some v) (get nat_eq before m)) h

    there : (m : ℕ) → nat_eq n m ≡ false → get nat_eq after m ≡ get nat_eq before m
    there m h = u.0 m ∙ ap (λ b. cond b (Some v) (get nat_eq before m)) h

    k : (w : ℕ) → get nat_eq before n ≡ Some w → w ≡ v
    k w j = ap (λ x. unwrap_or x v) (sym j) ∙ own

    kept : (w : ℕ) → Contains seen w → (b : Bool) → nat_eq n (number_at p w) ≡ b → get nat_eq after (number_at p w) ≡ Some w
    kept w j false h = there (number_at p w) h ∙ o.owner w j
    kept w j true h =
        let same : n ≡ number_at p w = eqb-true n (number_at p w) h in
        let mine : w ≡ v = k w (ap (λ m. get nat_eq before m) same ∙ o.owner w j) in
        here (number_at p w) h ∙ ap (λ x. Some x) (sym mine)

    owner : (w : ℕ) → Contains seen w ⊎ (v ≡ w) → get nat_eq after (number_at p w) ≡ Some w
    owner w (inl j) = kept w j (nat_eq n (number_at p w)) refl
    owner w (inr same) = subst (λ x. get nat_eq after (number_at p x) ≡ Some x) same (here (number_at p v) (eq-eqb n (number_at p v) (sym e)))

    owned : (m w : ℕ) (b : Bool) → nat_eq n m ≡ b → get nat_eq after m ≡ Some w → Contains (seen ++ v ∷ []) w × (number_at p w ≡ m)
    owned m w true h j =
        let same : v ≡ w = let both : Some v ≡ Some w = sym (here m h) ∙ j in cc in
        (subst (Contains (seen ++ v ∷ [])) same (Contains-push seen v), subst (λ x. number_at p x ≡ m) same (e ∙ eqb-true n m h))
    owned m w false h j = let was = o.owned m w (sym (there m h) ∙ j) in (Contains-append_left seen (v ∷ []) w was.0, was.1)

pub owned_holds : {S : Type 0} (r : LinearRoutine) (p : Places) (owners : HashMap ℕ ℕ S) → Owned p (linear_numbers r) owners → HoldsRoutine r p
owned_holds r p owners o = record {
  placed = o.placed;
  apart = record { apart = λ v w i j e. let both : Some v ≡ Some w = sym (o.owner v i) ∙ ap (λ x. get nat_eq owners (number_of x)) e ∙ o.owner w j in cc };
}

-- another value of the routine owns the number
pub owned_refuses : {S : Type 0} (r : LinearRoutine) (p : Places) (seen : List ℕ) (owners : HashMap ℕ ℕ S) (v n : ℕ) → Owned p seen owners → ((x : ℕ) → Contains seen x → Contains (linear_numbers r) x)
    → Contains (linear_numbers r) v → number_at p v ≡ n → unwrap_or (get nat_eq owners n) v ≢ v → HoldsRoutine r p → ⊥
owned_refuses r p seen owners v n o known i e differ h = at (get nat_eq owners n) refl differ
  where
    at : (owner : Option ℕ) → get nat_eq owners n ≡ owner → unwrap_or owner v ≢ v → ⊥
    at None j d = d refl
    at (Some w) j d =
        let was = o.owned n w j in
        let k = known w was.0 in
        let named = linear_numbers r in
        let same = number_of-one (place_of p w) (place_of p v) (All-contains (λ x. IsSome (place_of p x)) named w h.placed k) (All-contains (λ x. IsSome (place_of p x)) named v h.placed i) (was.1 ∙ sym e) in
        d (h.apart.apart w v k i same)

-- what was seen of the values of a routine is among them
pub seen_named : (items named : List ℕ) (i : ℕ) → items ≡ named → (x : ℕ) → Contains (take i items) x → Contains named x
seen_named items named i e x h =
    subst (λ (xs : List ℕ). Contains xs x) (take-append-drop i items ∙ e) (Contains-append_left (take i items) (drop i items) x h)
