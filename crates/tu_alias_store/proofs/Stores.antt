-- What a change at a root or at a place does to a store.
use Rattle.std.proofs.Common.{◌≡◌, ◌≢◌, ℕ, ◌==◌, ◌&&◌, Bool, true, false, ◌++◌, ◌⊎◌, inl, inr, refl, sym, ◌∙◌, ap, subst, arith}
use Rattle.std.proofs.lemmas.Bool.Decides.{nat_tests}
use mathlib.Core.Path.{fun_ext}
use Rattle.tu_base.specs.Values.{Content, Way, part, with_part}
use Rattle.tu_meaning.specs.Store.{Root, OfProgram, OfActivation, OfCall, OfCollection, Place, Held, Store, held, with_held, fetch, assign}
use Rattle.tu_meaning.specs.References.{changed_at}
use Rattle.tu_alias_store.proofs.Ways.{ApartWays, same_or_not, ways_sym, part_with, with_same, part_append, with_append, with_twice, part_apart, with_apart}

-- ---- values by numbers

pub same_name : {A : Type 0} (f : ℕ → A) (k : ℕ) (a : A) → changed_at f k a k ≡ a
same_name f k a = by (k == k) (grind (arith, nat_tests))
  where
    by : (b : Bool) → b ≡ true → elim b [ true ↦ a | false ↦ f k ] ≡ a
    by true e = refl
    by false e = absurd (let h : false ≡ true = e in cc)

pub other_name : {A : Type 0} (f : ℕ → A) (k : ℕ) (a : A) (j : ℕ) → j ≢ k → changed_at f k a j ≡ f j
other_name f k a j ne = by (j == k) (grind (arith, nat_tests))
  where
    by : (b : Bool) → b ≡ false → elim b [ true ↦ a | false ↦ f j ] ≡ f j
    by false e = refl
    by true e = absurd (let h : true ≡ false = e in cc)

-- a change, name by name
pub by_name : {A : Type 0} (P : ℕ → A → Type 0) (f : ℕ → A) (k : ℕ) (a : A) → P k a → ((j : ℕ) → j ≢ k → P j (f j)) → (j : ℕ) → P j (changed_at f k a j)
by_name P f k a here there j = elim (same_or_not j k) [
  | inl e ↦ subst (λ z. P z (changed_at f k a z)) (sym e) (subst (P k) (sym (same_name f k a)) here)
  | inr ne ↦ subst (P j) (sym (other_name f k a j ne)) (there j ne)
]

pub name_same : {A : Type 0} (f : ℕ → A) (k : ℕ) → changed_at f k (f k) ≡ f
name_same f k = fun_ext (by_name (λ j a. a ≡ f j) f k (f k) refl (λ j ne. refl))

pub name_twice : {A : Type 0} (f : ℕ → A) (k : ℕ) (a b : A) → changed_at (changed_at f k a) k b ≡ changed_at f k b
name_twice f k a b = fun_ext (by_name (λ j z. z ≡ changed_at f k b j) (changed_at f k a) k b (sym (same_name f k b)) (λ j ne. other_name f k a j ne ∙ sym (other_name f k b j ne)))

pub name_swap : {A : Type 0} (f : ℕ → A) (j k : ℕ) (a b : A) → j ≢ k → changed_at (changed_at f j a) k b ≡ changed_at (changed_at f k b) j a
name_swap f j k a b ne = fun_ext (by_name (λ i z. z ≡ changed_at (changed_at f k b) j a i) (changed_at f j a) k b
    (sym (other_name (changed_at f k b) j a k (λ e. ne (sym e)) ∙ same_name f k b))
    (λ i ne'. by_name (λ i z. i ≢ k → z ≡ changed_at (changed_at f k b) j a i) f j a (λ _. sym (same_name (changed_at f k b) j a)) (λ i' nj nk. sym (other_name (changed_at f k b) j a i' nj ∙ other_name f k b i' nk)) i ne'))

-- ---- values by two numbers

abbrev changed_at_both : {A : Type 0} → (ℕ → ℕ → A) → ℕ → ℕ → A → ℕ → ℕ → A
changed_at_both f c k a d j = elim ((d == c) && (j == k)) [ true ↦ a | false ↦ f d j ]

same_both : {A : Type 0} (f : ℕ → ℕ → A) (c k : ℕ) (a : A) → changed_at_both f c k a c k ≡ a
same_both f c k a = by (c == c) (k == k) (grind (arith, nat_tests)) (grind (arith, nat_tests))
  where
    by : (b b' : Bool) → b ≡ true → b' ≡ true → elim (b && b') [ true ↦ a | false ↦ f c k ] ≡ a
    by true true e e' = refl
    by false b' e e' = absurd (let h : false ≡ true = e in cc)
    by true false e e' = absurd (let h : false ≡ true = e' in cc)

other_both : {A : Type 0} (f : ℕ → ℕ → A) (c k : ℕ) (a : A) (d j : ℕ) → (d ≡ c → j ≡ k → ⊥) → changed_at_both f c k a d j ≡ f d j
other_both f c k a d j ne = by (d == c) (j == k) (λ e e'. ne (grind (arith, nat_tests)) (grind (arith, nat_tests)))
  where
    by : (b b' : Bool) → (b ≡ true → b' ≡ true → ⊥) → elim (b && b') [ true ↦ a | false ↦ f d j ] ≡ f d j
    by true true ne = absurd (ne refl refl)
    by true false ne = refl
    by false b' ne = refl

pub both_or_not : (d c j k : ℕ) → ((d ≡ c) × (j ≡ k)) ⊎ (d ≡ c → j ≡ k → ⊥)
both_or_not d c j k = elim (same_or_not d c) [
  | inl e ↦ elim (same_or_not j k) [ inl e' ↦ inl (e, e') | inr ne ↦ inr (λ _ e'. ne e') ]
  | inr ne ↦ inr (λ e _. ne e)
]

by_both : {A : Type 0} (P : ℕ → ℕ → A → Type 0) (f : ℕ → ℕ → A) (c k : ℕ) (a : A) → P c k a → ((d j : ℕ) → (d ≡ c → j ≡ k → ⊥) → P d j (f d j)) → (d j : ℕ) → P d j (changed_at_both f c k a d j)
by_both P f c k a here there d j = elim (both_or_not d c j k) [
  | inl e ↦ subst (λ z. P z j (changed_at_both f c k a z j)) (sym e.0) (subst (λ z. P c z (changed_at_both f c k a c z)) (sym e.1) (subst (P c k) (sym (same_both f c k a)) here))
  | inr ne ↦ subst (P d j) (sym (other_both f c k a d j ne)) (there d j ne)
]

both_same : {A : Type 0} (f : ℕ → ℕ → A) (c k : ℕ) → changed_at_both f c k (f c k) ≡ f
both_same f c k = fun_ext (λ d. fun_ext (by_both (λ d j a. a ≡ f d j) f c k (f c k) refl (λ d j ne. refl) d))

both_twice : {A : Type 0} (f : ℕ → ℕ → A) (c k : ℕ) (a b : A) → changed_at_both (changed_at_both f c k a) c k b ≡ changed_at_both f c k b
both_twice f c k a b = fun_ext (λ d. fun_ext (by_both (λ d j z. z ≡ changed_at_both f c k b d j) (changed_at_both f c k a) c k b (sym (same_both f c k b)) (λ d j ne. other_both f c k a d j ne ∙ sym (other_both f c k b d j ne)) d))

both_swap : {A : Type 0} (f : ℕ → ℕ → A) (c k d j : ℕ) (a b : A) → (c ≡ d → k ≡ j → ⊥) → changed_at_both (changed_at_both f c k a) d j b ≡ changed_at_both (changed_at_both f d j b) c k a
both_swap f c k d j a b ne = fun_ext (λ i. fun_ext (by_both (λ i n z. z ≡ changed_at_both (changed_at_both f d j b) c k a i n) (changed_at_both f c k a) d j b
    (sym (other_both (changed_at_both f d j b) c k a d j (λ e e'. ne (sym e) (sym e')) ∙ same_both f d j b))
    (λ i n ne'. by_both (λ i n z. (i ≡ d → n ≡ j → ⊥) → z ≡ changed_at_both (changed_at_both f d j b) c k a i n) f c k a (λ _. sym (same_both (changed_at_both f d j b) c k a)) (λ i' n' nj nk. sym (other_both (changed_at_both f d j b) c k a i' n' nj ∙ other_both f d j b i' n' nk)) i n ne') i))

-- ---- roots

pub same_root_or_not : (r q : Root) → (r ≡ q) ⊎ (r ≢ q)
same_root_or_not (OfProgram x) (OfProgram y) = elim (same_or_not x y) [ inl e ↦ inl (ap OfProgram e) | inr ne ↦ inr (λ e. ne (let h : OfProgram x ≡ OfProgram y = e in cc)) ]
same_root_or_not (OfProgram x) (OfActivation y) = inr (λ e. let h : OfProgram x ≡ OfActivation y = e in cc)
same_root_or_not (OfProgram x) (OfCall y) = inr (λ e. let h : OfProgram x ≡ OfCall y = e in cc)
same_root_or_not (OfProgram x) (OfCollection d j) = inr (λ e. let h : OfProgram x ≡ OfCollection d j = e in cc)
same_root_or_not (OfActivation x) (OfProgram y) = inr (λ e. let h : OfActivation x ≡ OfProgram y = e in cc)
same_root_or_not (OfActivation x) (OfActivation y) = elim (same_or_not x y) [ inl e ↦ inl (ap OfActivation e) | inr ne ↦ inr (λ e. ne (let h : OfActivation x ≡ OfActivation y = e in cc)) ]
same_root_or_not (OfActivation x) (OfCall y) = inr (λ e. let h : OfActivation x ≡ OfCall y = e in cc)
same_root_or_not (OfActivation x) (OfCollection d j) = inr (λ e. let h : OfActivation x ≡ OfCollection d j = e in cc)
same_root_or_not (OfCall x) (OfProgram y) = inr (λ e. let h : OfCall x ≡ OfProgram y = e in cc)
same_root_or_not (OfCall x) (OfActivation y) = inr (λ e. let h : OfCall x ≡ OfActivation y = e in cc)
same_root_or_not (OfCall x) (OfCall y) = elim (same_or_not x y) [ inl e ↦ inl (ap OfCall e) | inr ne ↦ inr (λ e. ne (let h : OfCall x ≡ OfCall y = e in cc)) ]
same_root_or_not (OfCall x) (OfCollection d j) = inr (λ e. let h : OfCall x ≡ OfCollection d j = e in cc)
same_root_or_not (OfCollection c k) (OfProgram y) = inr (λ e. let h : OfCollection c k ≡ OfProgram y = e in cc)
same_root_or_not (OfCollection c k) (OfActivation y) = inr (λ e. let h : OfCollection c k ≡ OfActivation y = e in cc)
same_root_or_not (OfCollection c k) (OfCall y) = inr (λ e. let h : OfCollection c k ≡ OfCall y = e in cc)
same_root_or_not (OfCollection c k) (OfCollection d j) = elim (both_or_not c d k j) [
  | inl e ↦ inl (ap (λ z. OfCollection z k) e.0 ∙ ap (OfCollection d) e.1)
  | inr ne ↦ inr (λ e. ne (let h : OfCollection c k ≡ OfCollection d j = e in cc) (let h : OfCollection c k ≡ OfCollection d j = e in cc))
]

pub held_same : (s : Store) (r : Root) (h : Held) → held (with_held s r h) r ≡ h
held_same s (OfProgram x) h = same_name s.globals x h
held_same s (OfActivation x) h = same_name s.locals x h
held_same s (OfCall x) h = same_name s.temporaries x h
held_same s (OfCollection c k) h = same_both s.elements c k h

pub held_other : (s : Store) (r q : Root) (h : Held) → r ≢ q → held (with_held s r h) q ≡ held s q
held_other s (OfProgram x) (OfProgram y) h ne = other_name s.globals x h y (λ e. ne (ap OfProgram (sym e)))
held_other s (OfProgram x) (OfActivation y) h ne = refl
held_other s (OfProgram x) (OfCall y) h ne = refl
held_other s (OfProgram x) (OfCollection d j) h ne = refl
held_other s (OfActivation x) (OfProgram y) h ne = refl
held_other s (OfActivation x) (OfActivation y) h ne = other_name s.locals x h y (λ e. ne (ap OfActivation (sym e)))
held_other s (OfActivation x) (OfCall y) h ne = refl
held_other s (OfActivation x) (OfCollection d j) h ne = refl
held_other s (OfCall x) (OfProgram y) h ne = refl
held_other s (OfCall x) (OfActivation y) h ne = refl
held_other s (OfCall x) (OfCall y) h ne = other_name s.temporaries x h y (λ e. ne (ap OfCall (sym e)))
held_other s (OfCall x) (OfCollection d j) h ne = refl
held_other s (OfCollection c k) (OfProgram y) h ne = refl
held_other s (OfCollection c k) (OfActivation y) h ne = refl
held_other s (OfCollection c k) (OfCall y) h ne = refl
held_other s (OfCollection c k) (OfCollection d j) h ne = other_both s.elements c k h d j (λ e e'. ne (ap (λ z. OfCollection z k) (sym e) ∙ ap (OfCollection d) (sym e')))

pub held_kept : (s : Store) (r : Root) → with_held s r (held s r) ≡ s
held_kept s (OfProgram x) = ap (λ f. record s { globals = f }) (name_same s.globals x)
held_kept s (OfActivation x) = ap (λ f. record s { locals = f }) (name_same s.locals x)
held_kept s (OfCall x) = ap (λ f. record s { temporaries = f }) (name_same s.temporaries x)
held_kept s (OfCollection c k) = ap (λ f. record s { elements = f }) (both_same s.elements c k)

pub held_twice : (s : Store) (r : Root) (h g : Held) → with_held (with_held s r h) r g ≡ with_held s r g
held_twice s (OfProgram x) h g = ap (λ f. record s { globals = f }) (name_twice s.globals x h g)
held_twice s (OfActivation x) h g = ap (λ f. record s { locals = f }) (name_twice s.locals x h g)
held_twice s (OfCall x) h g = ap (λ f. record s { temporaries = f }) (name_twice s.temporaries x h g)
held_twice s (OfCollection c k) h g = ap (λ f. record s { elements = f }) (both_twice s.elements c k h g)

pub held_swap : (s : Store) (r q : Root) (h g : Held) → r ≢ q → with_held (with_held s r h) q g ≡ with_held (with_held s q g) r h
held_swap s (OfProgram x) (OfProgram y) h g ne = ap (λ f. record s { globals = f }) (name_swap s.globals x y h g (λ e. ne (ap OfProgram e)))
held_swap s (OfProgram x) (OfActivation y) h g ne = refl
held_swap s (OfProgram x) (OfCall y) h g ne = refl
held_swap s (OfProgram x) (OfCollection d j) h g ne = refl
held_swap s (OfActivation x) (OfProgram y) h g ne = refl
held_swap s (OfActivation x) (OfActivation y) h g ne = ap (λ f. record s { locals = f }) (name_swap s.locals x y h g (λ e. ne (ap OfActivation e)))
held_swap s (OfActivation x) (OfCall y) h g ne = refl
held_swap s (OfActivation x) (OfCollection d j) h g ne = refl
held_swap s (OfCall x) (OfProgram y) h g ne = refl
held_swap s (OfCall x) (OfActivation y) h g ne = refl
held_swap s (OfCall x) (OfCall y) h g ne = ap (λ f. record s { temporaries = f }) (name_swap s.temporaries x y h g (λ e. ne (ap OfCall e)))
held_swap s (OfCall x) (OfCollection d j) h g ne = refl
held_swap s (OfCollection c k) (OfProgram y) h g ne = refl
held_swap s (OfCollection c k) (OfActivation y) h g ne = refl
held_swap s (OfCollection c k) (OfCall y) h g ne = refl
held_swap s (OfCollection c k) (OfCollection d j) h g ne = ap (λ f. record s { elements = f }) (both_swap s.elements c k d j h g (λ e e'. ne (ap (λ z. OfCollection z k) e ∙ ap (OfCollection d) e')))

-- ---- places

abbrev pub at : Root → Way → Place
at r p = record { root = r; way = p }

abbrev pub below : Place → Way → Place
below p q = record { root = p.root; way = p.way ++ q }

-- neither is within the other
abbrev pub Apart : Place → Place → Type 0
Apart p q = p.root ≡ q.root → ApartWays p.way q.way

pub apart_sym : (p q : Place) → Apart p q → Apart q p
apart_sym p q a e = ways_sym p.way q.way (a (sym e))

-- of different roots
pub elsewhere : (p q : Place) → p.root ≢ q.root → Apart p q
elsewhere p q ne e = absurd (ne e)

-- what a root holds with a new part
abbrev pub holding : Held → Way → Content → Held
holding h p v = record h { content = with_part h.content p v }

pub fetch_assign : (s : Store) (p : Place) (v : Content) → fetch (assign s p v) p ≡ v
fetch_assign s p v = ap (λ h. part h.content p.way) (held_same s p.root (holding (held s p.root) p.way v)) ∙ part_with (held s p.root).content p.way v

pub assign_fetch : (s : Store) (p : Place) → assign s p (fetch s p) ≡ s
assign_fetch s p = ap (λ c. with_held s p.root (record (held s p.root) { content = c })) (with_same (held s p.root).content p.way) ∙ held_kept s p.root

pub fetch_below : (s : Store) (p : Place) (q : Way) → fetch s (below p q) ≡ part (fetch s p) q
fetch_below s p q = part_append (held s p.root).content p.way q

pub assign_below : (s : Store) (p : Place) (q : Way) (v : Content) → assign s (below p q) v ≡ assign s p (with_part (fetch s p) q v)
assign_below s p q v = ap (λ c. with_held s p.root (record (held s p.root) { content = c })) (with_append (held s p.root).content p.way q v)

pub assign_twice : (s : Store) (p : Place) (v w : Content) → assign (assign s p v) p w ≡ assign s p w
assign_twice s p v w =
    ap (λ h. with_held (assign s p v) p.root (holding h p.way w)) (held_same s p.root (holding (held s p.root) p.way v))
    ∙ held_twice s p.root _ _
    ∙ ap (λ c. with_held s p.root (record (held s p.root) { content = c })) (with_twice (held s p.root).content p.way v w)

pub fetch_held_other : (s : Store) (r : Root) (h : Held) (q : Place) → r ≢ q.root → fetch (with_held s r h) q ≡ fetch s q
fetch_held_other s r h q ne = ap (λ h. part h.content q.way) (held_other s r q.root h ne)

pub assign_held_other : (s : Store) (r : Root) (h : Held) (q : Place) (v : Content) → r ≢ q.root → assign (with_held s r h) q v ≡ with_held (assign s q v) r h
assign_held_other s r h q v ne = ap (λ g. with_held (with_held s r h) q.root (holding g q.way v)) (held_other s r q.root h ne) ∙ held_swap s r q.root h _ ne

fetch_apart_at : (s : Store) (p q : Place) (v : Content) → (p.root ≡ q.root) ⊎ (p.root ≢ q.root) → Apart p q → fetch (assign s p v) q ≡ fetch s q
fetch_apart_at s p q v (inl e) a = subst (λ r. fetch (assign s p v) (at r q.way) ≡ fetch s (at r q.way)) e (ap (λ h. part h.content q.way) (held_same s p.root (holding (held s p.root) p.way v)) ∙ part_apart (held s p.root).content p.way q.way v (a e))
fetch_apart_at s p q v (inr ne) a = fetch_held_other s p.root _ q ne

pub fetch_apart : (s : Store) (p q : Place) (v : Content) → Apart p q → fetch (assign s p v) q ≡ fetch s q
fetch_apart s p q v a = fetch_apart_at s p q v (same_root_or_not p.root q.root) a

-- two writes at one root
assign_both : (s : Store) (r : Root) (p q : Way) (v w : Content) → assign (assign s (at r p) v) (at r q) w ≡ with_held s r (record (held s r) { content = with_part (with_part (held s r).content p v) q w })
assign_both s r p q v w = ap (λ h. with_held (assign s (at r p) v) r (holding h q w)) (held_same s r (holding (held s r) p v)) ∙ held_twice s r _ _

assign_apart_at : (s : Store) (p q : Place) (v w : Content) → (p.root ≡ q.root) ⊎ (p.root ≢ q.root) → Apart p q → assign (assign s p v) q w ≡ assign (assign s q w) p v
assign_apart_at s p q v w (inl e) a = subst (λ r. assign (assign s p v) (at r q.way) w ≡ assign (assign s (at r q.way) w) p v) e
    (assign_both s p.root p.way q.way v w ∙ ap (λ c. with_held s p.root (record (held s p.root) { content = c })) (with_apart (held s p.root).content p.way q.way v w (a e)) ∙ sym (assign_both s p.root q.way p.way w v))
assign_apart_at s p q v w (inr ne) a = assign_held_other s p.root _ q w ne ∙ ap (λ h. with_held (assign s q w) p.root (holding h p.way v)) (sym (held_other s q.root p.root _ (λ e. ne (sym e))))

pub assign_apart : (s : Store) (p q : Place) (v w : Content) → Apart p q → assign (assign s p v) q w ≡ assign (assign s q w) p v
assign_apart s p q v w a = assign_apart_at s p q v w (same_root_or_not p.root q.root) a

-- what is stored changes no bounds
bounds_at_root : (s : Store) (p : Place) (v : Content) (r : Root) → (p.root ≡ r) ⊎ (p.root ≢ r) → (held (assign s p v) r).bounds ≡ (held s r).bounds
bounds_at_root s p v r (inl e) = subst (λ r. (held (assign s p v) r).bounds ≡ (held s r).bounds) e (ap (λ h. h.bounds) (held_same s p.root (holding (held s p.root) p.way v)))
bounds_at_root s p v r (inr ne) = ap (λ h. h.bounds) (held_other s p.root r _ ne)

pub bounds_assign : (s : Store) (p : Place) (v : Content) (r : Root) → (held (assign s p v) r).bounds ≡ (held s r).bounds
bounds_assign s p v r = bounds_at_root s p v r (same_root_or_not p.root r)
