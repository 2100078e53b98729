-- The store of copies and the cells: equal once all that is open has been closed.
use Rattle.std.proofs.Common.{◌≡◌, ◌≢◌, ℕ, zero, suc, ◌+◌, ◌≤◌, Bool, true, false, List, [], ◌∷◌, ◌++◌, ◌⊎◌, inl, inr, Option, Some, None, refl, sym, ◌∙◌, ap, subst, arith, append_assoc}
use Rattle.std.specs.Prelude.{ℤ}
use Rattle.tu_base.specs.Values.{Way, part}
use Rattle.tu_meaning.specs.Store.{Root, OfProgram, OfActivation, OfCall, OfCollection, Place, Held, Actual, GivenValue, LentPlace, Store, held, with_held, fetch, assign, copied_back, with_names_of, unbound}
use Rattle.tu_meaning.specs.References.{Alias, at_level, deeper, or_own, home, locate_root, locate, changed_at, fetch_at, held_by, bounds_by, bounds_in, alias_of, alias_formals}
use Rattle.tu_alias_store.proofs.Ways.{same_or_not}
use Rattle.tu_alias_store.proofs.Stores.{same_name, other_name, at, below, held_other, held_swap, fetch_assign, fetch_below, fetch_held_other, assign_held_other, fetch_apart, elsewhere, same_root_or_not, bounds_assign}
use Rattle.tu_alias_store.proofs.Lent.{content_at, Stay, AllApart, NoLent, NoVar, IsLent, away_of_var, stay_held, back_fetch, back_held, back_bounds, back_names, back_own, stay_own, formal_value}

abbrev pub Aliases : Type 0
Aliases = ℕ → Option Alias

-- The calls and binds that are open, newest first, with the store and the aliases that they began in.
pub data Pending : Type 0 where
  Called : List Actual → (before : Store) → (below : Aliases) → Pending
  Bound : (is_var : Bool) → (name : ℕ) → Place → (before : Store) → (below : Aliases) → Pending

abbrev pub Running : Type 0
Running = List Pending

-- how many calls are open
abbrev pub depth : Running → ℕ
depth [] = 0
depth (Called got before lower ∷ γ) = suc (depth γ)
depth (Bound b x p before lower ∷ γ) = depth γ

-- no structured constant formal
abbrev pub NotConst : List Actual → ℕ → Type 0
NotConst [] x = Unit {0}
NotConst (GivenValue bounds v ∷ more) zero = Unit {0}
NotConst (LentPlace false bounds p ∷ more) zero = ⊥
NotConst (LentPlace true bounds p ∷ more) zero = Unit {0}
NotConst (a ∷ more) (suc x) = NotConst more x

-- a name of the activation that is not lent
abbrev pub Owned : List Actual → ℕ → Type 0
Owned [] x = Unit {0}
Owned (GivenValue bounds v ∷ more) zero = Unit {0}
Owned (LentPlace b bounds p ∷ more) zero = ⊥
Owned (a ∷ more) (suc x) = Owned more x

-- the root is not lent as `var` by what is open
abbrev pub MayRead : Running → Root → Type 0
MayRead [] r = Unit {0}
MayRead (Called got before lower ∷ γ) (OfProgram x) = NoVar got (OfProgram x) × MayRead γ (OfProgram x)
MayRead (Called got before lower ∷ γ) (OfActivation x) = Unit {0}
MayRead (Called got before lower ∷ γ) (OfCall x) = Unit {0}
MayRead (Called got before lower ∷ γ) (OfCollection c k) = NoVar got (OfCollection c k) × MayRead γ (OfCollection c k)
MayRead (Bound b x p before lower ∷ γ) r = (r ≡ OfActivation x) ⊎ ((r ≢ OfActivation x) × (b ≡ true → p.root ≢ r) × MayRead γ r)

-- it is not lent at all, and is no constant
abbrev pub MayWrite : Running → Root → Type 0
MayWrite [] r = Unit {0}
MayWrite (Called got before lower ∷ γ) (OfProgram x) = NoLent got (OfProgram x) × MayWrite γ (OfProgram x)
MayWrite (Called got before lower ∷ γ) (OfActivation x) = NotConst got x
MayWrite (Called got before lower ∷ γ) (OfCall x) = Unit {0}
MayWrite (Called got before lower ∷ γ) (OfCollection c k) = NoLent got (OfCollection c k) × MayWrite γ (OfCollection c k)
MayWrite (Bound b x p before lower ∷ γ) r = ((r ≡ OfActivation x) × (b ≡ true)) ⊎ ((r ≢ OfActivation x) × (p.root ≢ r) × MayWrite γ r)

-- nor is it a name that stands for another place
abbrev pub MayDeclare : Running → Root → Type 0
MayDeclare [] r = Unit {0}
MayDeclare (Called got before lower ∷ γ) (OfProgram x) = NoLent got (OfProgram x) × MayDeclare γ (OfProgram x)
MayDeclare (Called got before lower ∷ γ) (OfActivation x) = Owned got x
MayDeclare (Called got before lower ∷ γ) (OfCall x) = Unit {0}
MayDeclare (Called got before lower ∷ γ) (OfCollection c k) = NoLent got (OfCollection c k) × MayDeclare γ (OfCollection c k)
MayDeclare (Bound b x p before lower ∷ γ) r = (r ≢ OfActivation x) × (p.root ≢ r) × MayDeclare γ r

-- what was lent may be read, and written where it is `var`, by the caller, and is not above it
abbrev pub Stands : Running → Aliases → List Actual → Type 0
Stands γ lower [] = Unit {0}
Stands γ lower (GivenValue bounds v ∷ more) = Stands γ lower more
Stands γ lower (LentPlace b bounds p ∷ more) = MayRead γ p.root × (b ≡ true → MayWrite γ p.root) × ((locate (depth γ) lower p).level ≤ depth γ) × Stands γ lower more

-- the store as a call is left
abbrev pub left : List Actual → (before s : Store) → Store
left got before s = copied_back got 0 s (with_names_of before s)

-- the names of an activation, in the store and in the cells
pub record Level (γ : Running) (got : List Actual) (before : Store) (lower : Aliases) (s : Store) (own : ℕ → Store) (aliases : Aliases) : Type 0 where
  pub aliases_are : (y : ℕ) → aliases y ≡ alias_formals (depth γ) lower got y
  pub own_is : (y : ℕ) → Owned got y → s.locals y ≡ (own (suc (depth γ))).locals y
  pub calls_are : (k : ℕ) → s.temporaries k ≡ (own (suc (depth γ))).temporaries k
  pub bounds_are : (y : ℕ) (b : Bool) (bs : List ℤ) (p : Place) → IsLent b bs p got y → (s.locals y).bounds ≡ bs
  pub stay : Stay s (with_names_of before s) 0 got
  pub apart : AllApart got
  pub stands : Stands γ lower got

-- a bound name
pub record BoundLevel (γ : Running) (b : Bool) (x : ℕ) (p : Place) (lower : Aliases) (s : Store) (aliases : Aliases) : Type 0 where
  pub alias : Alias
  pub location_is : alias.location ≡ locate (depth γ) lower p
  pub aliases_are : (y : ℕ) → aliases y ≡ changed_at lower x (Some alias) y
  pub bounds_are : (s.locals x).bounds ≡ alias.bounds
  pub same : b ≡ false → content_at s x ≡ fetch s p
  pub away : OfActivation x ≢ p.root
  pub may_read : MayRead γ p.root
  pub may_write : b ≡ true → MayWrite γ p.root
  pub is_below : (locate (depth γ) lower p).level ≤ depth γ

-- The store of copies becomes the cells once all that is open has been closed.
abbrev pub Related : Running → Store → (ℕ → Store) → Aliases → Type 0
Related [] s own aliases = (s ≡ own 0) × ((y : ℕ) → aliases y ≡ None)
Related (Called got before lower ∷ γ) s own aliases = Level γ got before lower s own aliases × Related γ (left got before s) own lower
Related (Bound b x p before lower ∷ γ) s own aliases = BoundLevel γ b x p lower s aliases × Related γ (unbound b x p before s) own lower

-- ---- names of a call

pub name_of : (got : List Actual) (x : ℕ) → ((b : Bool) × (bs : List ℤ) × (p : Place) × IsLent b bs p got x) ⊎ Owned got x
name_of [] x = inr tt
name_of (GivenValue bounds v ∷ more) zero = inr tt
name_of (LentPlace b bounds p ∷ more) zero = inl (b, bounds, p, refl)
name_of (GivenValue bounds v ∷ more) (suc x) = name_of more x
name_of (LentPlace b bounds p ∷ more) (suc x) = name_of more x

pub not_owned : (b : Bool) (bs : List ℤ) (p : Place) (got : List Actual) (x : ℕ) → IsLent b bs p got x → Owned got x → ⊥
not_owned b bs p [] x is own = is
not_owned b bs p (GivenValue bounds v ∷ more) zero is own = let h : GivenValue bounds v ≡ LentPlace b bs p = is in cc
not_owned b bs p (LentPlace c bounds q ∷ more) zero is own = own
not_owned b bs p (GivenValue bounds v ∷ more) (suc x) is own = not_owned b bs p more x is own
not_owned b bs p (LentPlace c bounds q ∷ more) (suc x) is own = not_owned b bs p more x is own

pub not_both : (bs cs : List ℤ) (p q : Place) (got : List Actual) (x : ℕ) → IsLent true bs p got x → IsLent false cs q got x → ⊥
not_both bs cs p q [] x is is' = is
not_both bs cs p q (a ∷ more) zero is is' = let h : LentPlace true bs p ≡ LentPlace false cs q = sym is ∙ is' in cc
not_both bs cs p q (a ∷ more) (suc x) is is' = not_both bs cs p q more x is is'

pub not_const : (bs : List ℤ) (p : Place) (got : List Actual) (x : ℕ) → IsLent false bs p got x → NotConst got x → ⊥
not_const bs p [] x is h = is
not_const bs p (GivenValue bounds v ∷ more) zero is h = let e : GivenValue bounds v ≡ LentPlace false bs p = is in cc
not_const bs p (LentPlace false bounds q ∷ more) zero is h = h
not_const bs p (LentPlace true bounds q ∷ more) zero is h = let e : LentPlace true bounds q ≡ LentPlace false bs p = is in cc
not_const bs p (GivenValue bounds v ∷ more) (suc x) is h = not_const bs p more x is h
not_const bs p (LentPlace false bounds q ∷ more) (suc x) is h = not_const bs p more x is h
not_const bs p (LentPlace true bounds q ∷ more) (suc x) is h = not_const bs p more x is h

pub alias_found : (d : ℕ) (lower : Aliases) (b : Bool) (bs : List ℤ) (p : Place) (got : List Actual) (x : ℕ) → IsLent b bs p got x → alias_formals d lower got x ≡ Some (record { location = locate d lower p; bounds = bs })
alias_found d lower b bs p [] x is = absurd is
alias_found d lower b bs p (a ∷ more) zero is = ap (alias_of d lower) is
alias_found d lower b bs p (a ∷ more) (suc x) is = alias_found d lower b bs p more x is

pub none_found : (d : ℕ) (lower : Aliases) (got : List Actual) (x : ℕ) → Owned got x → alias_formals d lower got x ≡ None
none_found d lower [] x is = refl
none_found d lower (GivenValue bounds v ∷ more) zero is = refl
none_found d lower (LentPlace b bounds p ∷ more) zero is = absurd is
none_found d lower (GivenValue bounds v ∷ more) (suc x) is = none_found d lower more x is
none_found d lower (LentPlace b bounds p ∷ more) (suc x) is = none_found d lower more x is

pub stands_at : (γ : Running) (lower : Aliases) (b : Bool) (bs : List ℤ) (p : Place) (got : List Actual) (x : ℕ) → IsLent b bs p got x → Stands γ lower got → MayRead γ p.root × (b ≡ true → MayWrite γ p.root) × ((locate (depth γ) lower p).level ≤ depth γ)
stands_at γ lower b bs p [] x is st = absurd is
stands_at γ lower b bs p (a ∷ more) zero is st = let M : Actual → Type 0 = λ a. Stands γ lower (a ∷ more) → MayRead γ p.root × (b ≡ true → MayWrite γ p.root) × ((locate (depth γ) lower p).level ≤ depth γ) in subst M (sym is) (λ st. (st.0, st.1, st.2)) st
stands_at γ lower b bs p (GivenValue bounds v ∷ more) (suc x) is st = stands_at γ lower b bs p more x is st
stands_at γ lower b bs p (LentPlace c bounds q ∷ more) (suc x) is st = stands_at γ lower b bs p more x is st.3

-- ---- locations

pub deeper_below : (d : ℕ) (aliases : Aliases) (r : Root) (p q : Way) → deeper (locate_root d aliases r p) q ≡ locate_root d aliases r (p ++ q)
deeper_below d aliases (OfProgram x) p q = refl
deeper_below d aliases (OfCall x) p q = refl
deeper_below d aliases (OfCollection c k) p q = refl
deeper_below d aliases (OfActivation x) p q = by (aliases x)
  where
    by : (o : Option Alias) → deeper (or_own o d x p) q ≡ or_own o d x (p ++ q)
    by None = refl
    by (Some a) = ap (at_level a.location.level a.location.place.root) (append_assoc a.location.place.way p q)

-- where a name of the activation is
pub locate_lent : (d : ℕ) (lower aliases : Aliases) (got : List Actual) (b : Bool) (bs : List ℤ) (p : Place) (x : ℕ) (q : Way) → ((y : ℕ) → aliases y ≡ alias_formals d lower got y) → IsLent b bs p got x → locate_root (suc d) aliases (OfActivation x) q ≡ locate d lower (below p q)
locate_lent d lower aliases got b bs p x q e is =
    ap (λ o. or_own o (suc d) x q) (e x) ∙ ap (λ o. or_own o (suc d) x q) (alias_found d lower b bs p got x is) ∙ deeper_below d lower p.root p.way q

pub locate_owned : (d : ℕ) (lower aliases : Aliases) (got : List Actual) (x : ℕ) (q : Way) → ((y : ℕ) → aliases y ≡ alias_formals d lower got y) → Owned got x → locate_root (suc d) aliases (OfActivation x) q ≡ at_level (suc d) (OfActivation x) q
locate_owned d lower aliases got x q e is = ap (λ o. or_own o (suc d) x q) (e x) ∙ ap (λ o. or_own o (suc d) x q) (none_found d lower got x is)

pub locate_bound : (d : ℕ) (aliases lower : Aliases) (x : ℕ) (alias : Alias) (p : Place) (q : Way) → ((y : ℕ) → aliases y ≡ changed_at lower x (Some alias) y) → alias.location ≡ locate d lower p → locate_root d aliases (OfActivation x) q ≡ locate d lower (below p q)
locate_bound d aliases lower x alias p q e is =
    ap (λ o. or_own o d x q) (e x) ∙ ap (λ o. or_own o d x q) (same_name lower x (Some alias)) ∙ ap (λ l. deeper l q) is ∙ deeper_below d lower p.root p.way q

pub locate_unbound : (d : ℕ) (aliases lower : Aliases) (x : ℕ) (o : Option Alias) (r : Root) (q : Way) → ((y : ℕ) → aliases y ≡ changed_at lower x o y) → r ≢ OfActivation x → locate_root d aliases r q ≡ locate_root d lower r q
locate_unbound d aliases lower x o (OfProgram y) q e ne = refl
locate_unbound d aliases lower x o (OfCall y) q e ne = refl
locate_unbound d aliases lower x o (OfCollection c k) q e ne = refl
locate_unbound d aliases lower x o (OfActivation y) q e ne = ap (λ o. or_own o d y q) (e y) ∙ ap (λ o. or_own o d y q) (other_name lower x o y (λ e. ne (ap OfActivation e)))

-- ---- a read

-- as the scope of a bind is left the place has the name's value, and others have theirs
pub unbind_value : (b : Bool) (x : ℕ) (p : Place) (before s : Store) → (b ≡ false → content_at s x ≡ fetch s p) → OfActivation x ≢ p.root → fetch (unbound b x p before s) p ≡ content_at s x
unbind_value false x p before s same away = fetch_held_other s (OfActivation x) (before.locals x) p away ∙ sym (same refl)
unbind_value true x p before s same away = fetch_held_other (assign s p (content_at s x)) (OfActivation x) (before.locals x) p away ∙ fetch_assign s p (content_at s x)

unbind_fetch : (b : Bool) (x : ℕ) (p : Place) (before s : Store) (r : Root) (q : Way) → r ≢ OfActivation x → (b ≡ true → p.root ≢ r) → fetch (unbound b x p before s) (at r q) ≡ fetch s (at r q)
unbind_fetch false x p before s r q ne ne' = fetch_held_other s (OfActivation x) (before.locals x) (at r q) (λ e. ne (sym e))
unbind_fetch true x p before s r q ne ne' = fetch_held_other (assign s p (content_at s x)) (OfActivation x) (before.locals x) (at r q) (λ e. ne (sym e)) ∙ fetch_apart s p (at r q) (content_at s x) (elsewhere p (at r q) (ne' refl))

pub related_fetch : (γ : Running) (s : Store) (own : ℕ → Store) (aliases : Aliases) (r : Root) (q : Way) → Related γ s own aliases → MayRead γ r → fetch s (at r q) ≡ fetch_at own (locate_root (depth γ) aliases r q)
related_fetch [] s own aliases (OfProgram x) q re may = ap (λ z. fetch z (at (OfProgram x) q)) re.0
related_fetch [] s own aliases (OfCall x) q re may = ap (λ z. fetch z (at (OfCall x) q)) re.0
related_fetch [] s own aliases (OfCollection c k) q re may = ap (λ z. fetch z (at (OfCollection c k) q)) re.0
related_fetch [] s own aliases (OfActivation x) q re may = subst (λ o. fetch s (at (OfActivation x) q) ≡ fetch_at own (or_own o 0 x q)) (sym (re.1 x)) (ap (λ z. fetch z (at (OfActivation x) q)) re.0)
related_fetch (Called got before lower ∷ γ) s own aliases (OfProgram x) q re may =
    sym (back_fetch s (with_names_of before s) 0 false (at (OfProgram x) q) got (away_of_var (at (OfProgram x) q) got may.0)) ∙ related_fetch γ (left got before s) own lower (OfProgram x) q re.1 may.1
related_fetch (Called got before lower ∷ γ) s own aliases (OfCollection c k) q re may =
    sym (back_fetch s (with_names_of before s) 0 false (at (OfCollection c k) q) got (away_of_var (at (OfCollection c k) q) got may.0)) ∙ related_fetch γ (left got before s) own lower (OfCollection c k) q re.1 may.1
related_fetch (Called got before lower ∷ γ) s own aliases (OfCall x) q re may = ap (λ h. part h.content q) (re.0.calls_are x)
related_fetch (Called got before lower ∷ γ) s own aliases (OfActivation x) q re may = elim (name_of got x) [
  | inl n ↦ at_place n.0 n.1 n.2 n.3 (λ may'. related_fetch γ (left got before s) own lower n.2.root (n.2.way ++ q) re.1 may')
  | inr is ↦ ap (λ h. part h.content q) (re.0.own_is x is) ∙ ap (fetch_at own) (sym (locate_owned (depth γ) lower aliases got x q re.0.aliases_are is))
]
  where
    at_place : (b : Bool) (bs : List ℤ) (p : Place) → IsLent b bs p got x → (MayRead γ p.root → fetch (left got before s) (below p q) ≡ fetch_at own (locate (depth γ) lower (below p q))) → fetch s (at (OfActivation x) q) ≡ fetch_at own (locate_root (suc (depth γ)) aliases (OfActivation x) q)
    at_place b bs p is ih =
        let e : x + 0 ≡ x = omega arith in
        let a : fetch (left got before s) p ≡ content_at s x = formal_value s (with_names_of before s) 0 x b bs p got is re.0.apart re.0.stay ∙ ap (content_at s) e in
        ap (λ c. part c q) (sym a) ∙ sym (fetch_below (left got before s) p q) ∙ ih (stands_at γ lower b bs p got x is re.0.stands).0 ∙ ap (fetch_at own) (sym (locate_lent (depth γ) lower aliases got b bs p x q re.0.aliases_are is))
related_fetch (Bound b x p before lower ∷ γ) s own aliases r q re may = elim may [
  | inl e ↦ subst (λ z. fetch s (at z q) ≡ fetch_at own (locate_root (depth γ) aliases z q)) (sym e)
      (ap (λ c. part c q) (sym (unbind_value b x p before s re.0.same re.0.away)) ∙ sym (fetch_below (unbound b x p before s) p q)
      ∙ related_fetch γ (unbound b x p before s) own lower p.root (p.way ++ q) re.1 re.0.may_read ∙ ap (fetch_at own) (sym (locate_bound (depth γ) aliases lower x re.0.alias p q re.0.aliases_are re.0.location_is)))
  | inr ne ↦ sym (unbind_fetch b x p before s r q ne.0 ne.1) ∙ related_fetch γ (unbound b x p before s) own lower r q re.1 ne.2 ∙ ap (fetch_at own) (sym (locate_unbound (depth γ) aliases lower x (Some re.0.alias) r q re.0.aliases_are ne.0))
]

-- ---- bounds

unbind_bounds : (b : Bool) (x : ℕ) (p : Place) (before s : Store) (r : Root) → r ≢ OfActivation x → (held (unbound b x p before s) r).bounds ≡ (held s r).bounds
unbind_bounds false x p before s r ne = ap (λ h. h.bounds) (held_other s (OfActivation x) r (before.locals x) (λ e. ne (sym e)))
unbind_bounds true x p before s r ne = ap (λ h. h.bounds) (held_other (assign s p (content_at s x)) (OfActivation x) r (before.locals x) (λ e. ne (sym e))) ∙ bounds_assign s p (content_at s x) r

bounds_unbound : (own : ℕ → Store) (d : ℕ) (aliases lower : Aliases) (x : ℕ) (o : Option Alias) (r : Root) → ((y : ℕ) → aliases y ≡ changed_at lower x o y) → r ≢ OfActivation x → bounds_in own d aliases r ≡ bounds_in own d lower r
bounds_unbound own d aliases lower x o (OfProgram y) e ne = refl
bounds_unbound own d aliases lower x o (OfCall y) e ne = refl
bounds_unbound own d aliases lower x o (OfCollection c k) e ne = refl
bounds_unbound own d aliases lower x o (OfActivation y) e ne = ap (λ z. bounds_by z ((own d).locals y)) (e y ∙ other_name lower x o y (λ e. ne (ap OfActivation e)))

pub related_bounds : (γ : Running) (s : Store) (own : ℕ → Store) (aliases : Aliases) (r : Root) → Related γ s own aliases → (held s r).bounds ≡ bounds_in own (depth γ) aliases r
related_bounds [] s own aliases (OfProgram x) re = ap (λ z. (z.globals x).bounds) re.0
related_bounds [] s own aliases (OfCall x) re = ap (λ z. (z.temporaries x).bounds) re.0
related_bounds [] s own aliases (OfCollection c k) re = ap (λ z. (z.elements c k).bounds) re.0
related_bounds [] s own aliases (OfActivation x) re = ap (λ z. (z.locals x).bounds) re.0 ∙ ap (λ o. bounds_by o ((own 0).locals x)) (sym (re.1 x))
related_bounds (Called got before lower ∷ γ) s own aliases (OfProgram x) re = sym (back_bounds s (with_names_of before s) 0 (OfProgram x) got) ∙ related_bounds γ (left got before s) own lower (OfProgram x) re.1
related_bounds (Called got before lower ∷ γ) s own aliases (OfCollection c k) re = sym (back_bounds s (with_names_of before s) 0 (OfCollection c k) got) ∙ related_bounds γ (left got before s) own lower (OfCollection c k) re.1
related_bounds (Called got before lower ∷ γ) s own aliases (OfCall x) re = ap (λ h. h.bounds) (re.0.calls_are x)
related_bounds (Called got before lower ∷ γ) s own aliases (OfActivation x) re = elim (name_of got x) [
  | inl n ↦ re.0.bounds_are x n.0 n.1 n.2 n.3 ∙ ap (λ o. bounds_by o ((own (suc (depth γ))).locals x)) (sym (re.0.aliases_are x ∙ alias_found (depth γ) lower n.0 n.1 n.2 got x n.3))
  | inr is ↦ ap (λ h. h.bounds) (re.0.own_is x is) ∙ ap (λ o. bounds_by o ((own (suc (depth γ))).locals x)) (sym (re.0.aliases_are x ∙ none_found (depth γ) lower got x is))
]
related_bounds (Bound b x p before lower ∷ γ) s own aliases r re = elim (same_root_or_not r (OfActivation x)) [
  | inl e ↦ subst (λ z. (held s z).bounds ≡ bounds_in own (depth γ) aliases z) (sym e) (re.0.bounds_are ∙ ap (λ o. bounds_by o ((own (depth γ)).locals x)) (sym (re.0.aliases_are x ∙ same_name lower x (Some re.0.alias))))
  | inr ne ↦ sym (unbind_bounds b x p before s r ne) ∙ related_bounds γ (unbound b x p before s) own lower r re.1 ∙ sym (bounds_unbound own (depth γ) aliases lower x (Some re.0.alias) r re.0.aliases_are ne)
]

-- ---- what lies above the running activation does not matter

pub related_above : (γ : Running) (s : Store) (own own' : ℕ → Store) (aliases : Aliases) → ((k : ℕ) → k ≤ depth γ → own' k ≡ own k) → Related γ s own aliases → Related γ s own' aliases
related_above [] s own own' aliases same re = (re.0 ∙ sym (same 0 (omega arith)), re.1)
related_above (Called got before lower ∷ γ) s own own' aliases same re = (
  record {
    aliases_are = re.0.aliases_are;
    own_is = λ y is. re.0.own_is y is ∙ sym (ap (λ z. z.locals y) (same (suc (depth γ)) (omega arith)));
    calls_are = λ k. re.0.calls_are k ∙ sym (ap (λ z. z.temporaries k) (same (suc (depth γ)) (omega arith)));
    bounds_are = re.0.bounds_are;
    stay = re.0.stay;
    apart = re.0.apart;
    stands = re.0.stands;
  },
  related_above γ (left got before s) own own' lower (λ k h. same k (omega (arith, h))) re.1,
)
related_above (Bound b x p before lower ∷ γ) s own own' aliases same re = (re.0, related_above γ (unbound b x p before s) own own' lower same re.1)

-- ---- a declaration

-- with_held as the scope of a bind is left
pub unbind_held : (b : Bool) (x : ℕ) (p : Place) (before s : Store) (r : Root) (h : Held) → r ≢ OfActivation x → p.root ≢ r → unbound b x p before (with_held s r h) ≡ with_held (unbound b x p before s) r h
unbind_held false x p before s r h ne ne' = held_swap s r (OfActivation x) h (before.locals x) ne
unbind_held true x p before s r h ne ne' =
    ap (λ c. with_held (assign (with_held s r h) p c) (OfActivation x) (before.locals x)) (ap (λ g. g.content) (held_other s r (OfActivation x) h ne))
    ∙ ap (λ z. with_held z (OfActivation x) (before.locals x)) (assign_held_other s r h p (content_at s x) (λ e. ne' (sym e)))
    ∙ held_swap (assign s p (content_at s x)) r (OfActivation x) h (before.locals x) ne

pub bound_held : (γ : Running) (b : Bool) (x : ℕ) (p : Place) (lower : Aliases) (s : Store) (aliases : Aliases) (r : Root) (h : Held) → r ≢ OfActivation x → p.root ≢ r → BoundLevel γ b x p lower s aliases → BoundLevel γ b x p lower (with_held s r h) aliases
bound_held γ b x p lower s aliases r h ne ne' l = record {
  alias = l.alias;
  location_is = l.location_is;
  aliases_are = l.aliases_are;
  bounds_are = ap (λ g. g.bounds) (held_other s r (OfActivation x) h ne) ∙ l.bounds_are;
  same = λ f. ap (λ g. g.content) (held_other s r (OfActivation x) h ne) ∙ l.same f ∙ sym (fetch_held_other s r h p (λ e. ne' (sym e)));
  away = l.away;
  may_read = l.may_read;
  may_write = l.may_write;
  is_below = l.is_below;
}

home_below : (d : ℕ) (r : Root) → home d r ≤ d
home_below d (OfProgram x) = omega arith
home_below d (OfActivation x) = omega arith
home_below d (OfCall x) = omega arith
home_below d (OfCollection c k) = omega arith

pub related_declare : (γ : Running) (s : Store) (own : ℕ → Store) (aliases : Aliases) (r : Root) (h : Held) → Related γ s own aliases → MayDeclare γ r → Related γ (with_held s r h) (held_by own (depth γ) r h) aliases
related_declare [] s own aliases (OfProgram x) h re may = (ap (λ z. with_held z (OfProgram x) h) re.0 ∙ sym (same_name own 0 (with_held (own 0) (OfProgram x) h)), re.1)
related_declare [] s own aliases (OfActivation x) h re may = (ap (λ z. with_held z (OfActivation x) h) re.0 ∙ sym (same_name own 0 (with_held (own 0) (OfActivation x) h)), re.1)
related_declare [] s own aliases (OfCall x) h re may = (ap (λ z. with_held z (OfCall x) h) re.0 ∙ sym (same_name own 0 (with_held (own 0) (OfCall x) h)), re.1)
related_declare [] s own aliases (OfCollection c k) h re may = (ap (λ z. with_held z (OfCollection c k) h) re.0 ∙ sym (same_name own 0 (with_held (own 0) (OfCollection c k) h)), re.1)
related_declare (Called got before lower ∷ γ) s own aliases (OfProgram x) h re may =
    let r : Root = OfProgram x in
    let s' : Store = with_held s r h in (
      record {
        aliases_are = re.0.aliases_are;
        own_is = λ y is. re.0.own_is y is ∙ sym (ap (λ z. z.locals y) (other_name own 0 (with_held (own 0) r h) (suc (depth γ)) (λ e. omega (arith, e))));
        calls_are = λ k. re.0.calls_are k ∙ sym (ap (λ z. z.temporaries k) (other_name own 0 (with_held (own 0) r h) (suc (depth γ)) (λ e. omega (arith, e))));
        bounds_are = re.0.bounds_are;
        stay = stay_own s s' (with_names_of before s') 0 got (λ j bs p is. refl) (stay_held s (with_names_of before s) 0 r h got may.0 re.0.stay);
        apart = re.0.apart;
        stands = re.0.stands;
      },
      subst (λ z. Related γ z (held_by own (depth γ) r h) lower) (sym (back_names s s' (with_names_of before s') 0 got (λ j le. refl) ∙ back_held s (with_names_of before s) 0 r h got may.0)) (related_declare γ (left got before s) own lower r h re.1 may.1),
    )
related_declare (Called got before lower ∷ γ) s own aliases (OfCollection c k) h re may =
    let r : Root = OfCollection c k in
    let s' : Store = with_held s r h in (
      record {
        aliases_are = re.0.aliases_are;
        own_is = λ y is. re.0.own_is y is ∙ sym (ap (λ z. z.locals y) (other_name own 0 (with_held (own 0) r h) (suc (depth γ)) (λ e. omega (arith, e))));
        calls_are = λ j. re.0.calls_are j ∙ sym (ap (λ z. z.temporaries j) (other_name own 0 (with_held (own 0) r h) (suc (depth γ)) (λ e. omega (arith, e))));
        bounds_are = re.0.bounds_are;
        stay = stay_own s s' (with_names_of before s') 0 got (λ j bs p is. refl) (stay_held s (with_names_of before s) 0 r h got may.0 re.0.stay);
        apart = re.0.apart;
        stands = re.0.stands;
      },
      subst (λ z. Related γ z (held_by own (depth γ) r h) lower) (sym (back_names s s' (with_names_of before s') 0 got (λ j le. refl) ∙ back_held s (with_names_of before s) 0 r h got may.0)) (related_declare γ (left got before s) own lower r h re.1 may.1),
    )
related_declare (Called got before lower ∷ γ) s own aliases (OfCall x) h re may =
    let r : Root = OfCall x in
    let s' : Store = with_held s r h in
    let mine : Store = with_held (own (suc (depth γ))) r h in (
      record {
        aliases_are = re.0.aliases_are;
        own_is = λ y is. re.0.own_is y is ∙ sym (ap (λ z. z.locals y) (same_name own (suc (depth γ)) mine));
        calls_are = λ k. temporary k (same_or_not k x) ∙ sym (ap (λ z. z.temporaries k) (same_name own (suc (depth γ)) mine));
        bounds_are = re.0.bounds_are;
        stay = stay_own s s' (with_names_of before s') 0 got (λ j bs p is. refl) re.0.stay;
        apart = re.0.apart;
        stands = re.0.stands;
      },
      subst (λ z. Related γ z (changed_at own (suc (depth γ)) mine) lower) (sym (back_names s s' (with_names_of before s') 0 got (λ j le. refl)))
          (related_above γ (left got before s) own _ lower (λ k le. other_name own (suc (depth γ)) mine k (λ e. omega (arith, e, le))) re.1),
    )
  where
    temporary : (k : ℕ) → (k ≡ x) ⊎ (k ≢ x) → (with_held s (OfCall x) h).temporaries k ≡ (with_held (own (suc (depth γ))) (OfCall x) h).temporaries k
    temporary k (inl e) = subst (λ z. (with_held s (OfCall x) h).temporaries z ≡ (with_held (own (suc (depth γ))) (OfCall x) h).temporaries z) (sym e) (same_name s.temporaries x h ∙ sym (same_name (own (suc (depth γ))).temporaries x h))
    temporary k (inr ne) = other_name s.temporaries x h k ne ∙ re.0.calls_are k ∙ sym (other_name (own (suc (depth γ))).temporaries x h k ne)
related_declare (Called got before lower ∷ γ) s own aliases (OfActivation x) h re may =
    let r : Root = OfActivation x in
    let s' : Store = with_held s r h in
    let mine : Store = with_held (own (suc (depth γ))) r h in
    let other : (b : Bool) (bs : List ℤ) (p : Place) (j : ℕ) → IsLent b bs p got j → s'.locals j ≡ s.locals j = λ b bs p j is. other_name s.locals x h j (λ e. not_owned b bs p got j is (subst (Owned got) (sym e) may)) in
    let zero_more : (b : Bool) (bs : List ℤ) (p : Place) (j : ℕ) → IsLent b bs p got j → content_at s' (j + 0) ≡ content_at s (j + 0) = λ b bs p j is. let e : j + 0 ≡ j = omega arith in subst (λ n. content_at s' n ≡ content_at s n) (sym e) (ap (λ g. g.content) (other b bs p j is)) in (
      record {
        aliases_are = re.0.aliases_are;
        own_is = λ y is. named y is (same_or_not y x) ∙ sym (ap (λ z. z.locals y) (same_name own (suc (depth γ)) mine));
        calls_are = λ k. re.0.calls_are k ∙ sym (ap (λ z. z.temporaries k) (same_name own (suc (depth γ)) mine));
        bounds_are = λ y b bs p is. ap (λ g. g.bounds) (other b bs p y is) ∙ re.0.bounds_are y b bs p is;
        stay = stay_own s s' (with_names_of before s) 0 got (λ j bs p is. zero_more false bs p j is) re.0.stay;
        apart = re.0.apart;
        stands = re.0.stands;
      },
      subst (λ z. Related γ z (changed_at own (suc (depth γ)) mine) lower) (sym (back_own s s' (with_names_of before s) 0 got (λ j bs p is. zero_more true bs p j is)))
          (related_above γ (left got before s) own _ lower (λ k le. other_name own (suc (depth γ)) mine k (λ e. omega (arith, e, le))) re.1),
    )
  where
    named : (y : ℕ) → Owned got y → (y ≡ x) ⊎ (y ≢ x) → (with_held s (OfActivation x) h).locals y ≡ (with_held (own (suc (depth γ))) (OfActivation x) h).locals y
    named y is (inl e) = subst (λ z. (with_held s (OfActivation x) h).locals z ≡ (with_held (own (suc (depth γ))) (OfActivation x) h).locals z) (sym e) (same_name s.locals x h ∙ sym (same_name (own (suc (depth γ))).locals x h))
    named y is (inr ne) = other_name s.locals x h y ne ∙ re.0.own_is y is ∙ sym (other_name (own (suc (depth γ))).locals x h y ne)
related_declare (Bound b x p before lower ∷ γ) s own aliases r h re may = (
  bound_held γ b x p lower s aliases r h may.0 may.1 re.0,
  subst (λ z. Related γ z (held_by own (depth γ) r h) lower) (sym (unbind_held b x p before s r h may.0 may.1)) (related_declare γ (unbound b x p before s) own lower r h re.1 may.2),
)
