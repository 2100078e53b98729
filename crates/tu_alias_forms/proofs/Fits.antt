-- What a text may do, and that each of its acts keeps to it, also in the scopes of its binds.
use Rattle.std.proofs.Common.{◌≡◌, ◌≢◌, ℕ, zero, suc, ◌==◌, Bool, true, false, List, [], ◌∷◌, ◌++◌, length, ◌⊎◌, inl, inr, Some, refl, sym, ap, subst, arith}
use Rattle.std.specs.List.{Contains}
use Rattle.std.proofs.lemmas.Bool.Decides.{nat_tests}
use Rattle.tu_core.specs.Core.{Path, Call, Calls, Named, Program}
use Rattle.tu_core.specs.declared.names.At.{At}
use Rattle.tu_core.specs.declared.names.Variable.{Variable}
use Rattle.tu_core.specs.declared.names.Variable.TheVariants.{Global, Local}
use Rattle.tu_core.specs.Acts.{Subject, AVariable, ACollection, subject_of, Act, Reading, Changing, Naming, Talking, Calling, Binding, Declaring, Defining, Fixing}
use Rattle.tu_core.specs.Effects.{is_one, changes, called_by, Reads, Writes}
use Rattle.tu_core.specs.Overlap.{CallsAny, IsHidden, IsChanged}
use Rattle.tu_alias_store.proofs.Ways.{same_or_not}

-- ---- subjects

equal_numbers : (x y : ℕ) → x ≡ y → (x == y) ≡ true
equal_numbers x y e = grind (arith, nat_tests)

pub is_itself : (x : Subject) → is_one x x ≡ true
is_itself (AVariable (Global x)) = equal_numbers x x refl
is_itself (AVariable (Local x)) = equal_numbers x x refl
is_itself (ACollection c) = equal_numbers c c refl

pub same_subject_or_not : (x y : Subject) → (x ≡ y) ⊎ (x ≢ y)
same_subject_or_not (AVariable (Global x)) (AVariable (Global y)) = elim (same_or_not x y) [ inl e ↦ inl (ap (λ z. AVariable (Global z)) e) | inr ne ↦ inr (λ e. ne (let h : AVariable (Global x) ≡ AVariable (Global y) = e in cc)) ]
same_subject_or_not (AVariable (Global x)) (AVariable (Local y)) = inr (λ e. let h : AVariable (Global x) ≡ AVariable (Local y) = e in cc)
same_subject_or_not (AVariable (Global x)) (ACollection d) = inr (λ e. let h : AVariable (Global x) ≡ ACollection d = e in cc)
same_subject_or_not (AVariable (Local x)) (AVariable (Global y)) = inr (λ e. let h : AVariable (Local x) ≡ AVariable (Global y) = e in cc)
same_subject_or_not (AVariable (Local x)) (AVariable (Local y)) = elim (same_or_not x y) [ inl e ↦ inl (ap (λ z. AVariable (Local z)) e) | inr ne ↦ inr (λ e. ne (let h : AVariable (Local x) ≡ AVariable (Local y) = e in cc)) ]
same_subject_or_not (AVariable (Local x)) (ACollection d) = inr (λ e. let h : AVariable (Local x) ≡ ACollection d = e in cc)
same_subject_or_not (ACollection c) (AVariable (Global y)) = inr (λ e. let h : ACollection c ≡ AVariable (Global y) = e in cc)
same_subject_or_not (ACollection c) (AVariable (Local y)) = inr (λ e. let h : ACollection c ≡ AVariable (Local y) = e in cc)
same_subject_or_not (ACollection c) (ACollection d) = elim (same_or_not c d) [ inl e ↦ inl (ap ACollection e) | inr ne ↦ inr (λ e. ne (let h : ACollection c ≡ ACollection d = e in cc)) ]

-- ---- what a text may do

pub record Leave : Type 1 where
  pub reads : Subject → Type 0
  pub writes : Subject → Type 0
  pub declares : Variable → Type 0
  pub defines : Named → Type 0
  pub calls : Call → Type 0
  pub binds : (name : ℕ) → Path → Type 0

-- P holds of so many of a list
abbrev pub InScope : (Act → Type 0) → ℕ → List Act → Type 0
InScope P zero acts = Unit {0}
InScope P (suc n) [] = Unit {0}
InScope P (suc n) (act ∷ acts) = P act × InScope P n acts

module _ (program : Program) where
  -- what the scope of a bind to a part of x may hold
  abbrev pub KeepsScope : (is_var : Bool) → (name : ℕ) → Subject → Act → Type 0
  KeepsScope true name x act = (at : At) → IsHidden program x act at → ⊥
  KeepsScope false name x act = ((at : At) → IsChanged program x act at → ⊥) × (changes (AVariable (Local name)) act ≡ false)

  -- a bound name is not declared, and the scope is kept
  abbrev pub BindFits : Leave → (is_var : Bool) → (name : ℕ) → Path → (extent : ℕ) → List Act → Type 0
  BindFits may is_var name path extent behind =
      may.binds name path × ((v : Variable) → may.declares v → v ≢ Local name) × ((d : Named) → may.defines d → d.name ≢ Local name) × ((x : Subject) → subject_of path ≡ Some x → InScope (KeepsScope is_var name x) extent behind)

  abbrev pub ActFits : Leave → Act → List Act → Type 0
  ActFits may (Reading at x) behind = may.reads x
  ActFits may (Changing at x) behind = may.writes x
  ActFits may (Naming at x) behind = Unit {0}
  ActFits may (Talking at) behind = Unit {0}
  ActFits may (Calling call) behind = may.calls call
  ActFits may (Binding at name is_var path extent) behind = BindFits may is_var name path extent behind
  ActFits may (Declaring at v) behind = may.declares v
  ActFits may (Defining at d) behind = may.defines d
  ActFits may (Fixing xs extent) behind = Unit {0}

  abbrev pub Fits : Leave → List Act → Type 0
  Fits may [] = Unit {0}
  Fits may (act ∷ behind) = ActFits may act behind × Fits may behind

  scope_front : (P : Act → Type 0) (n : ℕ) (xs ys : List Act) → InScope P n (xs ++ ys) → InScope P n xs
  scope_front P zero xs ys h = tt
  scope_front P (suc n) [] ys h = tt
  scope_front P (suc n) (x ∷ xs) ys h = (h.0, scope_front P n xs ys h.1)

  pub scope_back : (P : Act → Type 0) (xs ys : List Act) → InScope P (length (xs ++ ys)) (xs ++ ys) → InScope P (length ys) ys
  scope_back P [] ys h = h
  scope_back P (x ∷ xs) ys h = scope_back P xs ys h.1

  act_front : (may : Leave) (act : Act) (xs ys : List Act) → ActFits may act (xs ++ ys) → ActFits may act xs
  act_front may (Reading at x) xs ys h = h
  act_front may (Changing at x) xs ys h = h
  act_front may (Naming at x) xs ys h = tt
  act_front may (Talking at) xs ys h = tt
  act_front may (Calling call) xs ys h = h
  act_front may (Binding at name is_var path extent) xs ys h = (h.0, h.1, h.2, λ x e. scope_front (KeepsScope is_var name x) extent xs ys (h.3 x e))
  act_front may (Declaring at v) xs ys h = h
  act_front may (Defining at d) xs ys h = h
  act_front may (Fixing fixed extent) xs ys h = tt

  pub front : (may : Leave) (xs ys : List Act) → Fits may (xs ++ ys) → Fits may xs
  front may [] ys h = tt
  front may (x ∷ xs) ys h = (act_front may x xs ys h.0, front may xs ys h.1)

  pub back : (may : Leave) (xs ys : List Act) → Fits may (xs ++ ys) → Fits may ys
  back may [] ys h = h
  back may (x ∷ xs) ys h = back may xs ys h.1

  -- what a routine reads or changes
  abbrev pub Touches : ℕ → Subject → Type 0
  Touches p y = Reads program p y ⊎ Writes program p y

  -- what the scope of a bind of a name to a part of x may do
  abbrev pub hide : Leave → (is_var : Bool) → (name : ℕ) → Subject → Leave
  hide may is_var name x = record {
    reads = λ y. (y ≡ AVariable (Local name)) ⊎ (may.reads y × (y ≢ AVariable (Local name)) × (is_var ≡ true → x ≢ y));
    writes = λ y. ((y ≡ AVariable (Local name)) × (is_var ≡ true)) ⊎ (may.writes y × (y ≢ AVariable (Local name)) × (x ≢ y));
    declares = λ v. may.declares v × (v ≢ Local name) × (x ≢ AVariable v);
    defines = λ d. may.defines d × (d.name ≢ Local name) × (x ≢ AVariable d.name);
    calls = λ call. may.calls call × ((p : ℕ) → Contains (called_by call) p → ((y : Subject) → Touches p y → is_var ≡ true → x ≢ y) × ((y : Subject) → Writes program p y → x ≢ y));
    binds = may.binds;
  }

  not_true : {A : Type 0} → false ≡ true → A
  not_true e = absurd (let h : false ≡ true = e in cc)

  not_changed : {A : Type 0} (b : Bool) → b ≡ true → b ≡ false → A
  not_changed true e f = absurd (let h : true ≡ false = f in cc)
  not_changed false e f = not_true e

  abbrev call_at : Call → At
  call_at (Calls at callee invariant actuals) = at

  one_of_any : (P : ℕ → Type 0) (call : Call) (p : ℕ) → Contains (called_by call) p → P p → CallsAny P call (call_at call)
  one_of_any P (Calls at callee invariant actuals) p is h = ((p, is, h), refl)

  hidden_call : (x : Subject) (call : Call) → ((at : At) → IsHidden program x (Calling call) at → ⊥) → (p : ℕ) → Contains (called_by call) p → (y : Subject) → Touches p y → x ≢ y
  hidden_call x call keeps p is y h e = keeps (call_at call) (one_of_any (λ p. Touches p x) call p is (subst (Touches p) (sym e) h))

  changed_call : (x : Subject) (call : Call) → ((at : At) → IsChanged program x (Calling call) at → ⊥) → (p : ℕ) → Contains (called_by call) p → (y : Subject) → Writes program p y → x ≢ y
  changed_call x call keeps p is y h e = keeps (call_at call) (one_of_any (λ p. Writes program p x) call p is (subst (Writes program p) (sym e) h))

  is_one_of : (x y : Subject) → x ≡ y → is_one x y ≡ true
  is_one_of x y e = subst (λ z. is_one x z ≡ true) e (is_itself x)

  hide_act : (may : Leave) (is_var : Bool) (name : ℕ) (x : Subject) (act : Act) (behind : List Act) → ((v : Variable) → may.declares v → v ≢ Local name) → ((d : Named) → may.defines d → d.name ≢ Local name) → KeepsScope is_var name x act → ActFits may act behind → ActFits (hide may is_var name x) act behind
  hide_act may true name x (Reading at y) behind own own' keeps h = elim (same_subject_or_not y (AVariable (Local name))) [ inl e ↦ inl e | inr ne ↦ inr (h, ne, λ t e. keeps at (is_one_of x y e, refl)) ]
  hide_act may false name x (Reading at y) behind own own' keeps h = elim (same_subject_or_not y (AVariable (Local name))) [ inl e ↦ inl e | inr ne ↦ inr (h, ne, λ t. not_true t) ]
  hide_act may true name x (Changing at y) behind own own' keeps h = elim (same_subject_or_not y (AVariable (Local name))) [ inl e ↦ inl (e, refl) | inr ne ↦ inr (h, ne, λ e. keeps at (is_one_of x y e, refl)) ]
  hide_act may false name x (Changing at y) behind own own' keeps h = elim (same_subject_or_not y (AVariable (Local name))) [
    | inl e ↦ not_changed (is_one (AVariable (Local name)) y) (is_one_of (AVariable (Local name)) y (sym e)) keeps.1
    | inr ne ↦ inr (h, ne, λ e. keeps.0 at (is_one_of x y e, refl))
  ]
  hide_act may b name x (Naming at y) behind own own' keeps h = tt
  hide_act may b name x (Talking at) behind own own' keeps h = tt
  hide_act may true name x (Calling call) behind own own' keeps h = (h, λ p is. ((λ y r t. hidden_call x call keeps p is y r), (λ y w. hidden_call x call keeps p is y (inr w))))
  hide_act may false name x (Calling call) behind own own' keeps h = (h, λ p is. ((λ y r t. not_true t), (λ y w. changed_call x call keeps.0 p is y w)))
  hide_act may b name x (Binding at other is_var path extent) behind own own' keeps h = (h.0, (λ v d. h.1 v d.0), (λ v d. h.2 v d.0), h.3)
  hide_act may true name x (Declaring at v) behind own own' keeps h = (h, own v h, λ e. keeps at (is_one_of x (AVariable v) e, refl))
  hide_act may false name x (Declaring at v) behind own own' keeps h = (h, own v h, λ e. keeps.0 at (is_one_of x (AVariable v) e, refl))
  hide_act may true name x (Defining at d) behind own own' keeps h = (h, own' d h, λ e. keeps at (is_one_of x (AVariable d.name) e, refl))
  hide_act may false name x (Defining at d) behind own own' keeps h = (h, own' d h, λ e. keeps.0 at (is_one_of x (AVariable d.name) e, refl))
  hide_act may b name x (Fixing fixed extent) behind own own' keeps h = tt

  -- a scope that keeps its rule keeps to what is hidden in it
  pub hide_fits : (may : Leave) (is_var : Bool) (name : ℕ) (x : Subject) (acts : List Act) → ((v : Variable) → may.declares v → v ≢ Local name) → ((d : Named) → may.defines d → d.name ≢ Local name) → InScope (KeepsScope is_var name x) (length acts) acts → Fits may acts → Fits (hide may is_var name x) acts
  hide_fits may is_var name x [] own own' keeps h = tt
  hide_fits may is_var name x (act ∷ acts) own own' keeps h = (hide_act may is_var name x act acts own own' keeps.0 h.0, hide_fits may is_var name x acts own own' keeps.1 h.1)
