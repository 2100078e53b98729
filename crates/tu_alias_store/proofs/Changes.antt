-- What a write, a call that begins and a bind do to the store of copies and to the cells.
use Rattle.std.proofs.Common.{◌≡◌, ◌≢◌, ℕ, zero, suc, ◌+◌, ◌<◌, ◌≤◌, Bool, true, false, List, [], ◌∷◌, ◌++◌, inl, inr, Option, Some, refl, sym, ◌∙◌, ap, subst, arith}
use Rattle.std.specs.Prelude.{ℤ}
use Rattle.tu_base.specs.Values.{Content, Way, with_part}
use Rattle.tu_meaning.specs.Store.{Root, OfProgram, OfActivation, OfCall, OfCollection, Place, Held, Actual, GivenValue, LentPlace, Store, held, with_held, fetch, assign, received, formals, copied, copied_back, with_names_of, unbound, by_copying}
use Rattle.tu_meaning.specs.References.{Location, Alias, at_level, deeper, or_own, locate_root, locate, changed_at, assign_at, own_formals, alias_formals, entered, bound_alias}
use Rattle.tu_alias_store.proofs.Ways.{same_or_not}
use Rattle.tu_alias_store.proofs.Stores.{same_name, other_name, at, below, holding, held_same, held_other, held_kept, held_twice, fetch_assign, assign_fetch, assign_below, assign_twice, fetch_held_other, assign_held_other, bounds_assign}
use Rattle.tu_alias_store.proofs.Lent.{content_at, Stay, AllApart, NoLent, NoVar, IsLent, away_of_root, stay_assign, back_assign, back_names, stay_own, formal_write, name_written, name_kept}
use Rattle.tu_alias_store.proofs.Related.{Aliases, Called, Bound, Running, depth, Owned, MayRead, MayWrite, Stands, left, Related, name_of, not_owned, not_both, not_const, stands_at, deeper_below, locate_lent, locate_owned, locate_bound, locate_unbound, unbind_held, bound_held, related_bounds, related_above, related_declare}

-- what may be written may be read
no_var_of_lent : (got : List Actual) (r : Root) → NoLent got r → NoVar got r
no_var_of_lent [] r h = tt
no_var_of_lent (GivenValue bounds v ∷ more) r h = no_var_of_lent more r h
no_var_of_lent (LentPlace false bounds p ∷ more) r h = no_var_of_lent more r h.1
no_var_of_lent (LentPlace true bounds p ∷ more) r h = (h.0, no_var_of_lent more r h.1)

pub read_of_write : (γ : Running) (r : Root) → MayWrite γ r → MayRead γ r
read_of_write [] r h = tt
read_of_write (Called got before lower ∷ γ) (OfProgram x) h = (no_var_of_lent got (OfProgram x) h.0, read_of_write γ (OfProgram x) h.1)
read_of_write (Called got before lower ∷ γ) (OfActivation x) h = tt
read_of_write (Called got before lower ∷ γ) (OfCall x) h = tt
read_of_write (Called got before lower ∷ γ) (OfCollection c k) h = (no_var_of_lent got (OfCollection c k) h.0, read_of_write γ (OfCollection c k) h.1)
read_of_write (Bound b x p before lower ∷ γ) r h = elim h [ inl e ↦ inl e.0 | inr m ↦ inr (m.0, (λ t. m.1), read_of_write γ r m.2) ]

-- ---- a write

-- to a bound name, which is one below its place as the scope is left
unbind_name : (x : ℕ) (p : Place) (before s : Store) (q : Way) (v : Content) → OfActivation x ≢ p.root → unbound true x p before (assign s (at (OfActivation x) q) v) ≡ assign (unbound true x p before s) (below p q) v
unbind_name x p before s q v away =
    let r : Root = OfActivation x in
    let c : Content = content_at s x in
    let w : Content = with_part c q v in
    let h : Held = holding (s.locals x) q v in
    ap (λ z. with_held (assign (assign s (at r q) v) p z) r (before.locals x)) (name_written s x q v)
    ∙ ap (λ z. with_held z r (before.locals x)) (assign_held_other s r h p w away)
    ∙ held_twice (assign s p w) r h (before.locals x)
    ∙ ap (λ z. with_held z r (before.locals x)) (sym (assign_twice s p c w))
    ∙ ap (λ z. with_held (assign (assign s p c) p (with_part z q v)) r (before.locals x)) (sym (fetch_assign s p c))
    ∙ ap (λ z. with_held z r (before.locals x)) (sym (assign_below (assign s p c) p q v))
    ∙ sym (assign_held_other (assign s p c) r (before.locals x) (below p q) v away)

-- to another root
unbind_elsewhere : (b : Bool) (x : ℕ) (p : Place) (before s : Store) (r : Root) (q : Way) (v : Content) → r ≢ OfActivation x → p.root ≢ r → unbound b x p before (assign s (at r q) v) ≡ assign (unbound b x p before s) (at r q) v
unbind_elsewhere b x p before s r q v ne ne' = unbind_held b x p before s r (holding (held s r) q v) ne ne' ∙ ap (λ h. with_held (unbound b x p before s) r (holding h q v)) (sym (by b))
  where
    by : (b : Bool) → held (unbound b x p before s) r ≡ held s r
    by false = held_other s (OfActivation x) r (before.locals x) (λ e. ne (sym e))
    by true = held_other (assign s p (content_at s x)) (OfActivation x) r (before.locals x) (λ e. ne (sym e)) ∙ held_other s p.root r _ ne'

level_above : (own : ℕ → Store) (l : Location) (v : Content) (k j : ℕ) → l.level ≤ k → k < j → assign_at own l v j ≡ own j
level_above own l v k j le lt = other_name own l.level (assign (own l.level) l.place v) j (λ e. omega (arith, le, lt, e))

pub related_assign : (γ : Running) (s : Store) (own : ℕ → Store) (aliases : Aliases) (r : Root) (q : Way) (v : Content) → Related γ s own aliases → MayWrite γ r → Related γ (assign s (at r q) v) (assign_at own (locate_root (depth γ) aliases r q) v) aliases
related_assign [] s own aliases (OfProgram x) q v re may = (ap (λ z. assign z (at (OfProgram x) q) v) re.0 ∙ sym (same_name own 0 (assign (own 0) (at (OfProgram x) q) v)), re.1)
related_assign [] s own aliases (OfCall x) q v re may = (ap (λ z. assign z (at (OfCall x) q) v) re.0 ∙ sym (same_name own 0 (assign (own 0) (at (OfCall x) q) v)), re.1)
related_assign [] s own aliases (OfCollection c k) q v re may = (ap (λ z. assign z (at (OfCollection c k) q) v) re.0 ∙ sym (same_name own 0 (assign (own 0) (at (OfCollection c k) q) v)), re.1)
related_assign [] s own aliases (OfActivation x) q v re may =
    let M : Option Alias → Type 0 = λ o. Related [] (assign s (at (OfActivation x) q) v) (assign_at own (or_own o 0 x q) v) aliases in
    subst M (sym (re.1 x)) (ap (λ z. assign z (at (OfActivation x) q) v) re.0 ∙ sym (same_name own 0 (assign (own 0) (at (OfActivation x) q) v)), re.1)
related_assign (Called got before lower ∷ γ) s own aliases (OfProgram x) q v re may =
    let r : Place = at (OfProgram x) q in
    let s' : Store = assign s r v in (
      record {
        aliases_are = re.0.aliases_are;
        own_is = λ y is. re.0.own_is y is ∙ sym (ap (λ z. z.locals y) (other_name own 0 (assign (own 0) r v) (suc (depth γ)) (λ e. omega (arith, e))));
        calls_are = λ k. re.0.calls_are k ∙ sym (ap (λ z. z.temporaries k) (other_name own 0 (assign (own 0) r v) (suc (depth γ)) (λ e. omega (arith, e))));
        bounds_are = re.0.bounds_are;
        stay = stay_own s s' (with_names_of before s') 0 got (λ j bs p is. refl) (stay_assign s (with_names_of before s) 0 r v got (away_of_root r got may.0) re.0.stay);
        apart = re.0.apart;
        stands = re.0.stands;
      },
      subst (λ z. Related γ z (assign_at own (at_level 0 (OfProgram x) q) v) lower) (sym (back_names s s' (with_names_of before s') 0 got (λ j le. refl) ∙ back_assign s (with_names_of before s) 0 r v got (away_of_root r got may.0))) (related_assign γ (left got before s) own lower (OfProgram x) q v re.1 may.1),
    )
related_assign (Called got before lower ∷ γ) s own aliases (OfCollection c k) q v re may =
    let r : Place = at (OfCollection c k) q in
    let s' : Store = assign s r v in (
      record {
        aliases_are = re.0.aliases_are;
        own_is = λ y is. re.0.own_is y is ∙ sym (ap (λ z. z.locals y) (other_name own 0 (assign (own 0) r v) (suc (depth γ)) (λ e. omega (arith, e))));
        calls_are = λ j. re.0.calls_are j ∙ sym (ap (λ z. z.temporaries j) (other_name own 0 (assign (own 0) r v) (suc (depth γ)) (λ e. omega (arith, e))));
        bounds_are = re.0.bounds_are;
        stay = stay_own s s' (with_names_of before s') 0 got (λ j bs p is. refl) (stay_assign s (with_names_of before s) 0 r v got (away_of_root r got may.0) re.0.stay);
        apart = re.0.apart;
        stands = re.0.stands;
      },
      subst (λ z. Related γ z (assign_at own (at_level 0 (OfCollection c k) q) v) lower) (sym (back_names s s' (with_names_of before s') 0 got (λ j le. refl) ∙ back_assign s (with_names_of before s) 0 r v got (away_of_root r got may.0))) (related_assign γ (left got before s) own lower (OfCollection c k) q v re.1 may.1),
    )
related_assign (Called got before lower ∷ γ) s own aliases (OfCall x) q v re may =
    let M : Held → Type 0 = λ h. Related (Called got before lower ∷ γ) (assign s (at (OfCall x) q) v) (changed_at own (suc (depth γ)) (with_held (own (suc (depth γ))) (OfCall x) (holding h q v))) aliases in
    subst M (re.0.calls_are x) (related_declare (Called got before lower ∷ γ) s own aliases (OfCall x) (holding (s.temporaries x) q v) re tt)
related_assign (Called got before lower ∷ γ) s own aliases (OfActivation x) q v re may = elim (name_of got x) [
  | inl n ↦ at_place n.0 n.1 n.2 n.3 (λ may'. related_assign γ (left got before s) own lower n.2.root (n.2.way ++ q) v re.1 may')
  | inr is ↦ subst M (sym (locate_owned d lower aliases got x q re.0.aliases_are is)) (of_own is)
]
  where
    d : ℕ
    d = depth γ

    M : Location → Type 0
    M l = Related (Called got before lower ∷ γ) (assign s (at (OfActivation x) q) v) (assign_at own l v) aliases

    of_own : Owned got x → M (at_level (suc (depth γ)) (OfActivation x) q)
    of_own is =
        let N : Held → Type 0 = λ h. Related (Called got before lower ∷ γ) (assign s (at (OfActivation x) q) v) (changed_at own (suc (depth γ)) (with_held (own (suc (depth γ))) (OfActivation x) (holding h q v))) aliases in
        subst N (re.0.own_is x is) (related_declare (Called got before lower ∷ γ) s own aliases (OfActivation x) (holding (s.locals x) q v) re is)

    of_place : (bs : List ℤ) (p : Place) → IsLent true bs p got x → (MayWrite γ p.root → Related γ (assign (left got before s) (below p q) v) (assign_at own (locate (depth γ) lower (below p q)) v) lower) → M (locate (depth γ) lower (below p q))
    of_place bs p is ih =
        let s' : Store = assign s (at (OfActivation x) q) v in
        let st = stands_at γ lower true bs p got x is re.0.stands in
        let is_below : (locate (depth γ) lower (below p q)).level ≤ depth γ = subst (λ l. l.level ≤ depth γ) (deeper_below (depth γ) lower p.root p.way q) st.2 in
        let e : x + 0 ≡ x = omega arith in
        let back : left got before s' ≡ assign (left got before s) (below p q) v =
        ap (λ n. copied_back got 0 (assign s (at (OfActivation n) q) v) (with_names_of before s)) (sym e) ∙ formal_write s (with_names_of before s) 0 x bs p q v got is re.0.apart re.0.stay in
        let above : assign_at own (locate (depth γ) lower (below p q)) v (suc (depth γ)) ≡ own (suc (depth γ)) = level_above own (locate (depth γ) lower (below p q)) v (depth γ) (suc (depth γ)) is_below (omega arith) in (
          record {
            aliases_are = re.0.aliases_are;
            own_is = λ y is'. other_name s.locals x (holding (s.locals x) q v) y (λ e. not_owned true bs p got x is (subst (Owned got) e is')) ∙ re.0.own_is y is' ∙ sym (ap (λ z. z.locals y) above);
            calls_are = λ k. re.0.calls_are k ∙ sym (ap (λ z. z.temporaries k) above);
            bounds_are = λ y b bs p is'. bounds_assign s (at (OfActivation x) q) v (OfActivation y) ∙ re.0.bounds_are y b bs p is';
            stay = stay_own s s' (with_names_of before s) 0 got (λ j cs r is'. other j (λ eq. not_both bs cs p r got j (subst (IsLent true bs p got) eq is) is')) re.0.stay;
            apart = re.0.apart;
            stands = re.0.stands;
          },
          subst (λ z. Related γ z (assign_at own (locate (depth γ) lower (below p q)) v) lower) (sym back) (ih (st.1 refl)),
        )
      where
        other : (j : ℕ) → x ≢ j → content_at (assign s (at (OfActivation x) q) v) (j + 0) ≡ content_at s (j + 0)
        other j ne = name_kept s x q v (j + 0) (λ e. ne (omega (arith, e)))

    at_place : (b : Bool) (bs : List ℤ) (p : Place) → IsLent b bs p got x → (MayWrite γ p.root → Related γ (assign (left got before s) (below p q) v) (assign_at own (locate (depth γ) lower (below p q)) v) lower) → M (locate_root (suc (depth γ)) aliases (OfActivation x) q)
    at_place false bs p is ih = absurd (not_const bs p got x is may)
    at_place true bs p is ih = subst M (sym (locate_lent (depth γ) lower aliases got true bs p x q re.0.aliases_are is)) (of_place bs p is ih)
related_assign (Bound b x p before lower ∷ γ) s own aliases r q v re may = elim may [
  | inl e ↦ of_name b r e.0 e.1 re (λ w. related_assign γ (unbound b x p before s) own lower p.root (p.way ++ q) v re.1 w)
  | inr ne ↦ other ne.0 ne.1 (related_assign γ (unbound b x p before s) own lower r q v re.1 ne.2)
]
  where
    of_name : (b : Bool) (r : Root) → r ≡ OfActivation x → b ≡ true → (re : Related (Bound b x p before lower ∷ γ) s own aliases) → (MayWrite γ p.root → Related γ (assign (unbound b x p before s) (below p q) v) (assign_at own (locate (depth γ) lower (below p q)) v) lower) → Related (Bound b x p before lower ∷ γ) (assign s (at r q) v) (assign_at own (locate_root (depth γ) aliases r q) v) aliases
    of_name false r e t re ih = absurd (let h : false ≡ true = t in cc)
    of_name true r e t re ih =
        let s' : Store = assign s (at (OfActivation x) q) v in
        let M : Root → Type 0 = λ z. Related (Bound true x p before lower ∷ γ) (assign s (at z q) v) (assign_at own (locate_root (depth γ) aliases z q) v) aliases in
        let N : Location → Type 0 = λ l. Related γ (unbound true x p before s') (assign_at own l v) lower in
        subst M (sym e) (
          record {
            alias = re.0.alias;
            location_is = re.0.location_is;
            aliases_are = re.0.aliases_are;
            bounds_are = bounds_assign s (at (OfActivation x) q) v (OfActivation x) ∙ re.0.bounds_are;
            same = λ f. absurd (let h : true ≡ false = f in cc);
            away = re.0.away;
            may_read = re.0.may_read;
            may_write = re.0.may_write;
            is_below = re.0.is_below;
          },
          subst N (sym (locate_bound (depth γ) aliases lower x re.0.alias p q re.0.aliases_are re.0.location_is)) (subst (λ z. Related γ z (assign_at own (locate (depth γ) lower (below p q)) v) lower) (sym (unbind_name x p before s q v re.0.away)) (ih (re.0.may_write refl))),
        )

    other : r ≢ OfActivation x → p.root ≢ r → Related γ (assign (unbound b x p before s) (at r q) v) (assign_at own (locate_root (depth γ) lower r q) v) lower → Related (Bound b x p before lower ∷ γ) (assign s (at r q) v) (assign_at own (locate_root (depth γ) aliases r q) v) aliases
    other ne ne' ih =
        let N : Location → Type 0 = λ l. Related γ (unbound b x p before (assign s (at r q) v)) (assign_at own l v) lower in (
          bound_held γ b x p lower s aliases r (holding (held s r) q v) ne ne' re.0,
          subst N (sym (locate_unbound (depth γ) aliases lower x (Some re.0.alias) r q re.0.aliases_are ne)) (subst (λ z. Related γ z (assign_at own (locate_root (depth γ) lower r q) v) lower) (sym (unbind_elsewhere b x p before s r q v ne ne')) ih),
        )

-- ---- a call begins

-- a root's location is not above the running activation
located_below : (γ : Running) (s : Store) (own : ℕ → Store) (aliases : Aliases) (r : Root) (q : Way) → Related γ s own aliases → (locate_root (depth γ) aliases r q).level ≤ depth γ
located_below γ s own aliases (OfProgram x) q re = omega arith
located_below γ s own aliases (OfCall x) q re = omega arith
located_below γ s own aliases (OfCollection c k) q re = omega arith
located_below [] s own aliases (OfActivation x) q re = subst (λ o. (or_own o 0 x q).level ≤ 0) (sym (re.1 x)) (omega arith)
located_below (Called got before lower ∷ γ) s own aliases (OfActivation x) q re = elim (name_of got x) [
  | inl n ↦ subst (λ l. l.level ≤ suc (depth γ)) (sym (locate_lent (depth γ) lower aliases got n.0 n.1 n.2 x q re.0.aliases_are n.3))
      (subst (λ l. l.level ≤ suc (depth γ)) (deeper_below (depth γ) lower n.2.root n.2.way q) (higher (locate (depth γ) lower n.2) (stands_at γ lower n.0 n.1 n.2 got x n.3 re.0.stands).2))
  | inr is ↦ subst (λ l. l.level ≤ suc (depth γ)) (sym (locate_owned (depth γ) lower aliases got x q re.0.aliases_are is)) (omega arith)
]
  where
    higher : (l : Location) → l.level ≤ depth γ → (deeper l q).level ≤ suc (depth γ)
    higher l h = omega (arith, h)
located_below (Bound b x p before lower ∷ γ) s own aliases (OfActivation y) q re = elim (same_or_not x y) [
  | inl e ↦ subst (λ z. (locate_root (depth γ) aliases (OfActivation z) q).level ≤ depth γ) e (subst (λ l. l.level ≤ depth γ) (sym (locate_bound (depth γ) aliases lower x re.0.alias p q re.0.aliases_are re.0.location_is)) (subst (λ l. l.level ≤ depth γ) (deeper_below (depth γ) lower p.root p.way q) re.0.is_below))
  | inr ne ↦ subst (λ l. l.level ≤ depth γ) (sym (locate_unbound (depth γ) aliases lower x (Some re.0.alias) (OfActivation y) q re.0.aliases_are (λ e. ne (let h : OfActivation y ≡ OfActivation x = e in cc)))) (located_below γ (unbound b x p before s) own lower (OfActivation y) q re.1)
]

-- what a call may receive: places that the caller may read, and write where they are `var`
abbrev pub MayLend : Running → List Actual → Type 0
MayLend γ [] = Unit {0}
MayLend γ (GivenValue bounds v ∷ more) = MayLend γ more
MayLend γ (LentPlace b bounds p ∷ more) = MayRead γ p.root × (b ≡ true → MayWrite γ p.root) × MayLend γ more

lend_stands : (γ : Running) (s : Store) (own : ℕ → Store) (aliases : Aliases) (got : List Actual) → Related γ s own aliases → MayLend γ got → Stands γ aliases got
lend_stands γ s own aliases [] re h = tt
lend_stands γ s own aliases (GivenValue bounds v ∷ more) re h = lend_stands γ s own aliases more re h
lend_stands γ s own aliases (LentPlace b bounds p ∷ more) re h = (h.0, h.1, located_below γ s own aliases p.root p.way re, lend_stands γ s own aliases more re h.2)

formals_owned : (s : Store) (got : List Actual) (y : ℕ) → Owned got y → formals s got y ≡ own_formals got y
formals_owned s [] y is = refl
formals_owned s (GivenValue bounds v ∷ more) zero is = refl
formals_owned s (LentPlace b bounds p ∷ more) zero is = absurd is
formals_owned s (GivenValue bounds v ∷ more) (suc y) is = formals_owned s more y is
formals_owned s (LentPlace b bounds p ∷ more) (suc y) is = formals_owned s more y is

-- formal j has what it received
formal_received : (s : Store) (got : List Actual) (j : ℕ) (b : Bool) (bs : List ℤ) (p : Place) → IsLent b bs p got j → formals s got j ≡ record { content = fetch s p; bounds = bs }
formal_received s [] j b bs p is = absurd is
formal_received s (a ∷ more) zero b bs p is = ap (received s) is
formal_received s (a ∷ more) (suc j) b bs p is = formal_received s more j b bs p is

later : (ended s : Store) (p : Place) (i j : ℕ) → content_at ended (suc j + i) ≡ fetch s p → content_at ended (j + suc i) ≡ fetch s p
later ended s p i j h = ap (content_at ended) (let e : j + suc i ≡ suc j + i = omega arith in e) ∙ h

stay_received : (ended s : Store) (i : ℕ) (got : List Actual) → ((j : ℕ) (b : Bool) (bs : List ℤ) (p : Place) → IsLent b bs p got j → content_at ended (j + i) ≡ fetch s p) → Stay ended s i got
stay_received ended s i [] is = tt
stay_received ended s i (GivenValue bounds v ∷ more) is = stay_received ended s (suc i) more (λ j b bs p k. later ended s p i j (is (suc j) b bs p k))
stay_received ended s i (LentPlace false bounds q ∷ more) is = (ap (content_at ended) (let e : i ≡ 0 + i = omega arith in e) ∙ is 0 false bounds q refl, stay_received ended s (suc i) more (λ j b bs p k. later ended s p i j (is (suc j) b bs p k)))
stay_received ended s i (LentPlace true bounds q ∷ more) is = stay_received ended s (suc i) more (λ j b bs p k. later ended s p i j (is (suc j) b bs p k))

-- what is copied back at once changes nothing
back_same : (ended s : Store) (i : ℕ) (got : List Actual) → ((j : ℕ) (b : Bool) (bs : List ℤ) (p : Place) → IsLent b bs p got j → content_at ended (j + i) ≡ fetch s p) → copied_back got i ended s ≡ s
back_same ended s i [] is = refl
back_same ended s i (GivenValue bounds v ∷ more) is = back_same ended s (suc i) more (λ j b bs p k. later ended s p i j (is (suc j) b bs p k))
back_same ended s i (LentPlace false bounds q ∷ more) is = back_same ended s (suc i) more (λ j b bs p k. later ended s p i j (is (suc j) b bs p k))
back_same ended s i (LentPlace true bounds q ∷ more) is =
    ap (λ z. copied_back more (suc i) ended z) (ap (λ z. assign s q z) (ap (content_at ended) (let e : i ≡ 0 + i = omega arith in e) ∙ is 0 true bounds q refl) ∙ assign_fetch s q)
    ∙ back_same ended s (suc i) more (λ j b bs p k. later ended s p i j (is (suc j) b bs p k))

pub related_enter : (γ : Running) (s : Store) (own : ℕ → Store) (aliases : Aliases) (got : List Actual) → Related γ s own aliases → AllApart got → MayLend γ got → Related (Called got s aliases ∷ γ) (by_copying.enter got s) (changed_at own (suc (depth γ)) (entered got)) (alias_formals (depth γ) aliases got)
related_enter γ s own aliases got re apart lend =
    let s' : Store = by_copying.enter got s in (
      record {
        aliases_are = λ y. refl;
        own_is = λ y is. formals_owned s got y is ∙ sym (ap (λ z. z.locals y) (same_name own (suc (depth γ)) (entered got)));
        calls_are = λ k. sym (ap (λ z. z.temporaries k) (same_name own (suc (depth γ)) (entered got)));
        bounds_are = λ y b bs p is. ap (λ h. h.bounds) (formal_received s got y b bs p is);
        stay = stay_received s' s 0 got formal;
        apart = apart;
        stands = lend_stands γ s own aliases got re lend;
      },
      subst (λ z. Related γ z (changed_at own (suc (depth γ)) (entered got)) aliases) (sym (back_same s' s 0 got formal)) (related_above γ s own _ aliases (λ k le. other_name own (suc (depth γ)) (entered got) k (λ e. omega (arith, e, le))) re),
    )
  where
    formal : (j : ℕ) (b : Bool) (bs : List ℤ) (p : Place) → IsLent b bs p got j → content_at (by_copying.enter got s) (j + 0) ≡ fetch s p
    formal j b bs p is = ap (λ n. (formals s got n).content) (let e : j + 0 ≡ j = omega arith in e) ∙ ap (λ h. h.content) (formal_received s got j b bs p is)

-- ---- a name is bound

unbind_bind : (b : Bool) (x : ℕ) (p : Place) (s : Store) → OfActivation x ≢ p.root → unbound b x p s (by_copying.bind b x p s) ≡ s
unbind_bind false x p s away = held_twice s (OfActivation x) (copied s p) (s.locals x) ∙ held_kept s (OfActivation x)
unbind_bind true x p s away =
    let r : Root = OfActivation x in
    ap (λ h. with_held (assign (with_held s r (copied s p)) p h.content) r (s.locals x)) (held_same s r (copied s p))
    ∙ ap (λ z. with_held z r (s.locals x)) (assign_held_other s r (copied s p) p (fetch s p) away)
    ∙ held_twice (assign s p (fetch s p)) r (copied s p) (s.locals x)
    ∙ ap (λ z. with_held z r (s.locals x)) (assign_fetch s p)
    ∙ held_kept s r

pub related_bind : (γ : Running) (s : Store) (own : ℕ → Store) (aliases : Aliases) (b : Bool) (x : ℕ) (p : Place) → Related γ s own aliases → OfActivation x ≢ p.root → MayRead γ p.root → (b ≡ true → MayWrite γ p.root) → Related (Bound b x p s aliases ∷ γ) (by_copying.bind b x p s) own (changed_at aliases x (Some (bound_alias own (depth γ) aliases p)))
related_bind γ s own aliases b x p re away may may' = (
  record {
    alias = bound_alias own (depth γ) aliases p;
    location_is = refl;
    aliases_are = λ y. refl;
    bounds_are = ap (λ h. h.bounds) (held_same s (OfActivation x) (copied s p)) ∙ ap whole (related_bounds γ s own aliases p.root re);
    same = λ f. ap (λ h. h.content) (held_same s (OfActivation x) (copied s p)) ∙ sym (fetch_held_other s (OfActivation x) (copied s p) p away);
    away = away;
    may_read = may;
    may_write = may';
    is_below = located_below γ s own aliases p.root p.way re;
  },
  subst (λ z. Related γ z own aliases) (sym (unbind_bind b x p s away)) re,
)
  where
    whole : List ℤ → List ℤ
    whole bounds = elim p.way [ [] ↦ bounds | k ∷ more ↦ [] ]
