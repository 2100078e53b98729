-- Copying back: what then stands at the lent places, and what a write to a formal becomes.
use Rattle.std.proofs.Common.{◌≡◌, ◌≢◌, ℕ, zero, suc, ◌+◌, ◌≤◌, Bool, true, false, List, [], ◌∷◌, refl, sym, ◌∙◌, ap, subst, arith}
use Rattle.std.specs.Prelude.{ℤ}
use Rattle.tu_base.specs.Values.{Content, Way, with_part}
use Rattle.tu_meaning.specs.Store.{Root, OfActivation, Place, Held, Actual, GivenValue, LentPlace, Store, held, with_held, fetch, assign, copied_back}
use Rattle.tu_alias_store.proofs.Stores.{same_name, other_name, at, below, Apart, apart_sym, elsewhere, fetch_assign, assign_below, assign_twice, fetch_apart, assign_apart, assign_held_other, fetch_held_other, bounds_assign}

-- what stands at a name of an activation
abbrev pub content_at : Store → ℕ → Content
content_at s x = (s.locals x).content

-- a constant formal, the first being name i, has what stands at its place
abbrev pub Stay : (ended s : Store) → ℕ → List Actual → Type 0
Stay ended s i [] = Unit {0}
Stay ended s i (GivenValue bounds v ∷ more) = Stay ended s (suc i) more
Stay ended s i (LentPlace false bounds p ∷ more) = (content_at ended i ≡ fetch s p) × Stay ended s (suc i) more
Stay ended s i (LentPlace true bounds p ∷ more) = Stay ended s (suc i) more

-- p is apart from each lent place, where one of the two is `var`
abbrev pub Away : Bool → Place → List Actual → Type 0
Away b p [] = Unit {0}
Away b p (GivenValue bounds v ∷ more) = Away b p more
Away true p (LentPlace c bounds q ∷ more) = Apart p q × Away true p more
Away false p (LentPlace false bounds q ∷ more) = Away false p more
Away false p (LentPlace true bounds q ∷ more) = Apart p q × Away false p more

abbrev pub AllApart : List Actual → Type 0
AllApart [] = Unit {0}
AllApart (GivenValue bounds v ∷ more) = AllApart more
AllApart (LentPlace b bounds p ∷ more) = Away b p more × AllApart more

-- no lent place has this root, and none that is `var`
abbrev pub NoLent : List Actual → Root → Type 0
NoLent [] r = Unit {0}
NoLent (GivenValue bounds v ∷ more) r = NoLent more r
NoLent (LentPlace b bounds p ∷ more) r = (p.root ≢ r) × NoLent more r

abbrev pub NoVar : List Actual → Root → Type 0
NoVar [] r = Unit {0}
NoVar (GivenValue bounds v ∷ more) r = NoVar more r
NoVar (LentPlace false bounds p ∷ more) r = NoVar more r
NoVar (LentPlace true bounds p ∷ more) r = (p.root ≢ r) × NoVar more r

pub away_of_root : (p : Place) (got : List Actual) → NoLent got p.root → Away true p got
away_of_root p [] none = tt
away_of_root p (GivenValue bounds v ∷ more) none = away_of_root p more none
away_of_root p (LentPlace b bounds q ∷ more) none = (elsewhere p q (λ e. none.0 (sym e)), away_of_root p more none.1)

pub away_of_var : (p : Place) (got : List Actual) → NoVar got p.root → Away false p got
away_of_var p [] none = tt
away_of_var p (GivenValue bounds v ∷ more) none = away_of_var p more none
away_of_var p (LentPlace false bounds q ∷ more) none = away_of_var p more none
away_of_var p (LentPlace true bounds q ∷ more) none = (elsewhere p q (λ e. none.0 (sym e)), away_of_var p more none.1)

-- the constant formals stay, while another place is written
pub stay_assign : (ended s : Store) (i : ℕ) (p : Place) (v : Content) (got : List Actual) → Away true p got → Stay ended s i got → Stay ended (assign s p v) i got
stay_assign ended s i p v [] a stay = tt
stay_assign ended s i p v (GivenValue bounds w ∷ more) a stay = stay_assign ended s (suc i) p v more a stay
stay_assign ended s i p v (LentPlace false bounds q ∷ more) a stay = (stay.0 ∙ sym (fetch_apart s p q v a.0), stay_assign ended s (suc i) p v more a.1 stay.1)
stay_assign ended s i p v (LentPlace true bounds q ∷ more) a stay = stay_assign ended s (suc i) p v more a.1 stay

pub stay_held : (ended s : Store) (i : ℕ) (r : Root) (h : Held) (got : List Actual) → NoLent got r → Stay ended s i got → Stay ended (with_held s r h) i got
stay_held ended s i r h [] none stay = tt
stay_held ended s i r h (GivenValue bounds w ∷ more) none stay = stay_held ended s (suc i) r h more none stay
stay_held ended s i r h (LentPlace false bounds q ∷ more) none stay = (stay.0 ∙ sym (fetch_held_other s r h q (λ e. none.0 (sym e))), stay_held ended s (suc i) r h more none.1 stay.1)
stay_held ended s i r h (LentPlace true bounds q ∷ more) none stay = stay_held ended s (suc i) r h more none.1 stay

-- what is copied back elsewhere does not change p
pub back_fetch : (ended s : Store) (i : ℕ) (b : Bool) (p : Place) (got : List Actual) → Away b p got → fetch (copied_back got i ended s) p ≡ fetch s p
back_fetch ended s i b p [] a = refl
back_fetch ended s i b p (GivenValue bounds w ∷ more) a = back_fetch ended s (suc i) b p more a
back_fetch ended s i true p (LentPlace false bounds q ∷ more) a = back_fetch ended s (suc i) true p more a.1
back_fetch ended s i false p (LentPlace false bounds q ∷ more) a = back_fetch ended s (suc i) false p more a
back_fetch ended s i true p (LentPlace true bounds q ∷ more) a = back_fetch ended (assign s q (content_at ended i)) (suc i) true p more a.1 ∙ fetch_apart s q p (content_at ended i) (apart_sym p q a.0)
back_fetch ended s i false p (LentPlace true bounds q ∷ more) a = back_fetch ended (assign s q (content_at ended i)) (suc i) false p more a.1 ∙ fetch_apart s q p (content_at ended i) (apart_sym p q a.0)

-- a write to a place apart from all goes before the copying back, or after it
pub back_assign : (ended s : Store) (i : ℕ) (p : Place) (v : Content) (got : List Actual) → Away true p got → copied_back got i ended (assign s p v) ≡ assign (copied_back got i ended s) p v
back_assign ended s i p v [] a = refl
back_assign ended s i p v (GivenValue bounds w ∷ more) a = back_assign ended s (suc i) p v more a
back_assign ended s i p v (LentPlace false bounds q ∷ more) a = back_assign ended s (suc i) p v more a.1
back_assign ended s i p v (LentPlace true bounds q ∷ more) a =
    ap (λ z. copied_back more (suc i) ended z) (assign_apart s p q v (content_at ended i) a.0) ∙ back_assign ended (assign s q (content_at ended i)) (suc i) p v more a.1

pub back_held : (ended s : Store) (i : ℕ) (r : Root) (h : Held) (got : List Actual) → NoLent got r → copied_back got i ended (with_held s r h) ≡ with_held (copied_back got i ended s) r h
back_held ended s i r h [] none = refl
back_held ended s i r h (GivenValue bounds w ∷ more) none = back_held ended s (suc i) r h more none
back_held ended s i r h (LentPlace false bounds q ∷ more) none = back_held ended s (suc i) r h more none.1
back_held ended s i r h (LentPlace true bounds q ∷ more) none =
    ap (λ z. copied_back more (suc i) ended z) (assign_held_other s r h q (content_at ended i) (λ e. none.0 (sym e))) ∙ back_held ended (assign s q (content_at ended i)) (suc i) r h more none.1

pub back_bounds : (ended s : Store) (i : ℕ) (r : Root) (got : List Actual) → (held (copied_back got i ended s) r).bounds ≡ (held s r).bounds
back_bounds ended s i r [] = refl
back_bounds ended s i r (GivenValue bounds w ∷ more) = back_bounds ended s (suc i) r more
back_bounds ended s i r (LentPlace false bounds q ∷ more) = back_bounds ended s (suc i) r more
back_bounds ended s i r (LentPlace true bounds q ∷ more) = back_bounds ended (assign s q (content_at ended i)) (suc i) r more ∙ bounds_assign s q (content_at ended i) r

-- the actual k places on is lent
abbrev pub IsLent : Bool → List ℤ → Place → List Actual → ℕ → Type 0
IsLent b bs p [] k = ⊥
IsLent b bs p (a ∷ more) zero = a ≡ LentPlace b bs p
IsLent b bs p (a ∷ more) (suc k) = IsLent b bs p more k

-- after the copying back each lent place has its formal's value
pub formal_value : (ended s : Store) (i k : ℕ) (b : Bool) (bs : List ℤ) (p : Place) (got : List Actual) → IsLent b bs p got k → AllApart got → Stay ended s i got → fetch (copied_back got i ended s) p ≡ content_at ended (k + i)
formal_value ended s i k b bs p [] is all stay = absurd is
formal_value ended s i zero b bs p (a ∷ more) is all stay =
    let M : Actual → Type 0 = λ a. AllApart (a ∷ more) → Stay ended s i (a ∷ more) → fetch (copied_back (a ∷ more) i ended s) p ≡ content_at ended (0 + i) in
    subst M (sym is) (first b) all stay
  where
    first : (b : Bool) → AllApart (LentPlace b bs p ∷ more) → Stay ended s i (LentPlace b bs p ∷ more) → fetch (copied_back (LentPlace b bs p ∷ more) i ended s) p ≡ content_at ended (0 + i)
    first true all stay = back_fetch ended (assign s p (content_at ended i)) (suc i) true p more all.0 ∙ fetch_assign s p (content_at ended i) ∙ ap (content_at ended) (omega arith)
    first false all stay = back_fetch ended s (suc i) false p more all.0 ∙ sym stay.0 ∙ ap (content_at ended) (omega arith)
formal_value ended s i (suc k) b bs p (GivenValue bounds v ∷ more) is all stay = formal_value ended s (suc i) k b bs p more is all stay ∙ ap (content_at ended) (omega arith)
formal_value ended s i (suc k) b bs p (LentPlace false bounds q ∷ more) is all stay = formal_value ended s (suc i) k b bs p more is all.1 stay.1 ∙ ap (content_at ended) (omega arith)
formal_value ended s i (suc k) b bs p (LentPlace true bounds q ∷ more) is all stay = formal_value ended (assign s q (content_at ended i)) (suc i) k b bs p more is all.1 (stay_assign ended s (suc i) q (content_at ended i) more all.0 stay) ∙ ap (content_at ended) (omega arith)

-- other names of the activation do not matter
pub back_names : (ended ended' s : Store) (i : ℕ) (got : List Actual) → ((j : ℕ) → i ≤ j → content_at ended' j ≡ content_at ended j) → copied_back got i ended' s ≡ copied_back got i ended s
back_names ended ended' s i [] same = refl
back_names ended ended' s i (GivenValue bounds v ∷ more) same = back_names ended ended' s (suc i) more (λ j h. same j (omega (arith, h)))
back_names ended ended' s i (LentPlace false bounds q ∷ more) same = back_names ended ended' s (suc i) more (λ j h. same j (omega (arith, h)))
back_names ended ended' s i (LentPlace true bounds q ∷ more) same =
    ap (λ z. copied_back more (suc i) ended' (assign s q z)) (same i (omega arith)) ∙ back_names ended ended' (assign s q (content_at ended i)) (suc i) more (λ j h. same j (omega (arith, h)))

-- what a write below a name does to what stands at names
pub name_written : (s : Store) (x : ℕ) (q : Way) (v : Content) → content_at (assign s (at (OfActivation x) q) v) x ≡ with_part (content_at s x) q v
name_written s x q v = ap (λ h. h.content) (same_name s.locals x (record (s.locals x) { content = with_part (content_at s x) q v }))

pub name_kept : (s : Store) (x : ℕ) (q : Way) (v : Content) (y : ℕ) → y ≢ x → content_at (assign s (at (OfActivation x) q) v) y ≡ content_at s y
name_kept s x q v y ne = ap (λ h. h.content) (other_name s.locals x _ y ne)

-- A write to a formal is, after the copying back, a write below its place.
pub formal_write : (ended s : Store) (i k : ℕ) (bs : List ℤ) (p : Place) (q : Way) (v : Content) (got : List Actual) → IsLent true bs p got k → AllApart got → Stay ended s i got →
    copied_back got i (assign ended (at (OfActivation (k + i)) q) v) s ≡ assign (copied_back got i ended s) (below p q) v
formal_write ended s i k bs p q v [] is all stay = absurd is
formal_write ended s i zero bs p q v (a ∷ more) is all stay =
    let M : Actual → Type 0 = λ a. AllApart (a ∷ more) → Stay ended s i (a ∷ more) → copied_back (a ∷ more) i (assign ended (at (OfActivation (0 + i)) q) v) s ≡ assign (copied_back (a ∷ more) i ended s) (below p q) v in
    subst M (sym is) first all stay
  where
    first : AllApart (LentPlace true bs p ∷ more) → Stay ended s i (LentPlace true bs p ∷ more) → copied_back (LentPlace true bs p ∷ more) i (assign ended (at (OfActivation (0 + i)) q) v) s ≡ assign (copied_back (LentPlace true bs p ∷ more) i ended s) (below p q) v
    first all stay =
        let ended' : Store = assign ended (at (OfActivation (0 + i)) q) v in
        let c : Content = content_at ended i in
        let w : Content = with_part c q v in
        let zi : 0 + i ≡ i = omega arith in
        let new : content_at ended' i ≡ w = subst (λ n. content_at (assign ended (at (OfActivation n) q) v) i ≡ w) (sym zi) (name_written ended i q v) in
        let others : copied_back more (suc i) ended' (assign s p w) ≡ copied_back more (suc i) ended (assign s p w) = back_names ended ended' (assign s p w) (suc i) more (λ j h. name_kept ended (0 + i) q v j (λ e. omega (arith, h, e))) in
        let value : fetch (copied_back more (suc i) ended (assign s p c)) p ≡ c = back_fetch ended (assign s p c) (suc i) true p more all.0 ∙ fetch_assign s p c in
        ap (λ z. copied_back more (suc i) ended' (assign s p z)) new
        ∙ others
        ∙ ap (λ z. copied_back more (suc i) ended z) (sym (assign_twice s p c w))
        ∙ back_assign ended (assign s p c) (suc i) p w more all.0
        ∙ ap (λ z. assign (copied_back more (suc i) ended (assign s p c)) p (with_part z q v)) (sym value)
        ∙ sym (assign_below (copied_back more (suc i) ended (assign s p c)) p q v)
formal_write ended s i (suc k) bs p q v (a ∷ more) is all stay = later a (λ s' all' stay'. formal_write ended s' (suc i) k bs p q v more is all' stay') all stay
  where
    e : suc k + i ≡ k + suc i
    e = omega arith

    before : content_at (assign ended (at (OfActivation (suc k + i)) q) v) i ≡ content_at ended i
    before = name_kept ended (suc k + i) q v i (λ e. omega (arith, e))

    later : (a : Actual) → ((s' : Store) → AllApart more → Stay ended s' (suc i) more → copied_back more (suc i) (assign ended (at (OfActivation (k + suc i)) q) v) s' ≡ assign (copied_back more (suc i) ended s') (below p q) v) → AllApart (a ∷ more) → Stay ended s i (a ∷ more) → copied_back (a ∷ more) i (assign ended (at (OfActivation (suc k + i)) q) v) s ≡ assign (copied_back (a ∷ more) i ended s) (below p q) v
    later (GivenValue bounds w) ih all stay = ap (λ n. copied_back more (suc i) (assign ended (at (OfActivation n) q) v) s) e ∙ ih s all stay
    later (LentPlace false bounds r) ih all stay = ap (λ n. copied_back more (suc i) (assign ended (at (OfActivation n) q) v) s) e ∙ ih s all.1 stay.1
    later (LentPlace true bounds r) ih all stay =
        ap (λ z. copied_back more (suc i) (assign ended (at (OfActivation (suc k + i)) q) v) (assign s r z)) before
        ∙ ap (λ n. copied_back more (suc i) (assign ended (at (OfActivation n) q) v) (assign s r (content_at ended i))) e
        ∙ ih (assign s r (content_at ended i)) all.1 (stay_assign ended s (suc i) r (content_at ended i) more all.0 stay)

-- the same as a fact on name j, counted from the next one
next_of : (f g : ℕ → Content) (i j : ℕ) → f (suc j + i) ≡ g (suc j + i) → f (j + suc i) ≡ g (j + suc i)
next_of f g i j h = let e : suc j + i ≡ j + suc i = omega arith in subst (λ n. f n ≡ g n) e h

first_of : (f g : ℕ → Content) (i : ℕ) → f (0 + i) ≡ g (0 + i) → f i ≡ g i
first_of f g i h = let e : 0 + i ≡ i = omega arith in subst (λ n. f n ≡ g n) e h

-- where no `var` formal changes nothing of what is copied back does
pub back_own : (ended ended' s : Store) (i : ℕ) (got : List Actual) → ((j : ℕ) (bs : List ℤ) (p : Place) → IsLent true bs p got j → content_at ended' (j + i) ≡ content_at ended (j + i)) → copied_back got i ended' s ≡ copied_back got i ended s
back_own ended ended' s i [] same = refl
back_own ended ended' s i (GivenValue bounds v ∷ more) same = back_own ended ended' s (suc i) more (λ j bs p is. next_of (content_at ended') (content_at ended) i j (same (suc j) bs p is))
back_own ended ended' s i (LentPlace false bounds q ∷ more) same = back_own ended ended' s (suc i) more (λ j bs p is. next_of (content_at ended') (content_at ended) i j (same (suc j) bs p is))
back_own ended ended' s i (LentPlace true bounds q ∷ more) same =
    ap (λ z. copied_back more (suc i) ended' (assign s q z)) (first_of (content_at ended') (content_at ended) i (same 0 bounds q refl))
    ∙ back_own ended ended' (assign s q (content_at ended i)) (suc i) more (λ j bs p is. next_of (content_at ended') (content_at ended) i j (same (suc j) bs p is))

-- the constant formals are not written
pub stay_own : (ended ended' s : Store) (i : ℕ) (got : List Actual) → ((j : ℕ) (bs : List ℤ) (p : Place) → IsLent false bs p got j → content_at ended' (j + i) ≡ content_at ended (j + i)) → Stay ended s i got → Stay ended' s i got
stay_own ended ended' s i [] same h = tt
stay_own ended ended' s i (GivenValue bounds v ∷ more) same h = stay_own ended ended' s (suc i) more (λ j bs p is. next_of (content_at ended') (content_at ended) i j (same (suc j) bs p is)) h
stay_own ended ended' s i (LentPlace true bounds q ∷ more) same h = stay_own ended ended' s (suc i) more (λ j bs p is. next_of (content_at ended') (content_at ended) i j (same (suc j) bs p is)) h
stay_own ended ended' s i (LentPlace false bounds q ∷ more) same h = (first_of (content_at ended') (content_at ended) i (same 0 bounds q refl) ∙ h.0, stay_own ended ended' s (suc i) more (λ j bs p is. next_of (content_at ended') (content_at ended) i j (same (suc j) bs p is)) h.1)
