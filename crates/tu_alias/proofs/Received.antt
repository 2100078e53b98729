-- What a call receives, by the rules on its text.
use Rattle.std.proofs.Common.{◌≡◌, ◌≢◌, ℕ, zero, suc, Bool, true, false, List, [], ◌∷◌, length, ◌⊎◌, inl, inr, Option, Some, None, refl, sym, ◌∙◌, ap, subst, arith, if◌then◌else◌}
use Rattle.std.specs.Prelude.{ℤ, ◌-◌, slice_get, is_some, nat_lt}
use Rattle.std.proofs.lemmas.Bool.Decides.{nat_tests}
use Rattle.tu_base.specs.declared.shape.Shape.{Shape}
use Rattle.tu_core.specs.Core.{Path, Name, OpenItem, Element, ResultOf, Actuals, NoActual, Given, Lent, Program}
use Rattle.tu_core.specs.declared.names.At.{At}
use Rattle.tu_core.specs.declared.names.Variable.{Variable}
use Rattle.tu_core.specs.declared.names.Variable.TheVariants.{Global, Local}
use Rattle.tu_core.specs.declared.names.Formal.{Formal}
use Rattle.tu_core.specs.declared.names.Formal.TheVariants.{ByValue, ByCopy, ByVar}
use Rattle.tu_core.specs.declared.names.LocalName.{LocalName}
use Rattle.tu_core.specs.Places.{Names, has_some, local_name}
use Rattle.tu_core.specs.Acts.{Subject, AVariable, ACollection, subject_of}
use Rattle.tu_core.specs.Effects.{Reads, Writes}
use Rattle.tu_core.specs.Overlap.{ImportedIn}
use Rattle.tu_core.specs.Constants.{Known}
use Rattle.tu_core.specs.Typed.{LendsRight, is_constant}
use Rattle.tu_meaning.specs.Store.{Root, OfProgram, OfActivation, OfCall, OfCollection, Place, Actual, GivenValue, LentPlace, Passing, Store, formals, holds_nothing}
use Rattle.tu_meaning.specs.Words.{misfit}
use Rattle.tu_meaning.specs.Subprograms.{receive, receive_all}
use Rattle.tu_meaning.proofs.Alike.{sim_lost, sim_give, sim_pay}
use Rattle.tu_meaning.proofs.WordForms.{Any, sim_unless_raised}
use Rattle.tu_alias_forms.proofs.Words.{Keeps, ◌▹◌}
use Rattle.tu_alias_store.proofs.Lent.{NoLent, NoVar}
use Rattle.tu_alias_store.proofs.Related.{Running, MayRead, MayWrite, NotConst, Owned}
use Rattle.tu_alias_store.proofs.Changes.{MayLend}
use Rattle.tu_alias_forms.proofs.Overlaps.{IsFound, AreFound}
use Rattle.tu_alias_forms.proofs.Fits.{Leave, Touches}
use Rattle.tu_alias_forms.proofs.Expressions.{RootOf, OfPath, LendsFit}
use Rattle.tu_alias_texts.proofs.Fitting.{ModesFit}

-- roots of different subjects
pub roots_differ : (x y : Subject) → x ≢ y → (r q : Root) → RootOf x r → RootOf y q → r ≢ q
roots_differ (AVariable (Global x)) (AVariable (Global y)) ne r q e f same = ne (let h : OfProgram x ≡ OfProgram y = sym e ∙ same ∙ f in ap (λ z. AVariable (Global z)) (let g : x ≡ y = cc in g))
roots_differ (AVariable (Global x)) (AVariable (Local y)) ne r q e f same = let h : OfProgram x ≡ OfActivation y = sym e ∙ same ∙ f in cc
roots_differ (AVariable (Local x)) (AVariable (Global y)) ne r q e f same = let h : OfActivation x ≡ OfProgram y = sym e ∙ same ∙ f in cc
roots_differ (AVariable (Local x)) (AVariable (Local y)) ne r q e f same = ne (let h : OfActivation x ≡ OfActivation y = sym e ∙ same ∙ f in ap (λ z. AVariable (Local z)) (let g : x ≡ y = cc in g))
roots_differ (AVariable (Global x)) (ACollection d) ne r q e f same = let h : OfProgram x ≡ OfCollection d f.0 = sym e ∙ same ∙ f.1 in cc
roots_differ (AVariable (Local x)) (ACollection d) ne r q e f same = let h : OfActivation x ≡ OfCollection d f.0 = sym e ∙ same ∙ f.1 in cc
roots_differ (ACollection c) (AVariable (Global y)) ne r q e f same = let h : OfCollection c e.0 ≡ OfProgram y = sym e.1 ∙ same ∙ f in cc
roots_differ (ACollection c) (AVariable (Local y)) ne r q e f same = let h : OfCollection c e.0 ≡ OfActivation y = sym e.1 ∙ same ∙ f in cc
roots_differ (ACollection c) (ACollection d) ne r q e f same = ne (let h : OfCollection c e.0 ≡ OfCollection d f.0 = sym e.1 ∙ same ∙ f.1 in ap ACollection (let g : c ≡ d = cc in g))

one_subject : (x y : Subject) → Some x ≡ Some y → x ≡ y
one_subject x y e = cc

-- the subject of a path that has one
pub the_subject : (path : Path) → is_some (subject_of path) ≡ true → (x : Subject) × (subject_of path ≡ Some x)
the_subject (Name at x steps) e = (AVariable x, refl)
the_subject (OpenItem at x indexes es steps) e = (AVariable x, refl)
the_subject (Element at c e' steps) e = (ACollection c, refl)
the_subject (ResultOf at k call steps) e = absurd (let h : false ≡ true = e in cc)

-- every lent place, and each that is `var`, has another root
abbrev pub VarApart : Root → Actuals → Type 0
VarApart r NoActual = Unit {0}
VarApart r (Given at size e more) = VarApart r more
VarApart r (Lent at true bounds path more) = OfPath (λ x. (q : Root) → RootOf x q → q ≢ r) path × VarApart r more
VarApart r (Lent at false bounds path more) = VarApart r more

abbrev pub AnyApart : Root → Actuals → Type 0
AnyApart r NoActual = Unit {0}
AnyApart r (Given at size e more) = AnyApart r more
AnyApart r (Lent at is_var bounds path more) = OfPath (λ x. (q : Root) → RootOf x q → q ≢ r) path × AnyApart r more

module _ (program : Program) where
  -- by the rule on what a callee sees of what it is lent
  pub var_apart : (callee : ℕ) (y : Subject) (r : Root) (actuals : Actuals) → Touches program callee y → RootOf y r → ((place : At) → ImportedIn program callee actuals place → ⊥) → VarApart r actuals
  var_apart callee y r NoActual h is none = tt
  var_apart callee y r (Given at size e more) h is none = var_apart callee y r more h is none
  var_apart callee y r (Lent at false bounds path more) h is none = var_apart callee y r more h is (λ place i. none place (inr i))
  var_apart callee y r (Lent at true bounds path more) h is none = (
    (λ x e q root. roots_differ x y (λ same.
        let M : Option Subject → Type 0 = λ o. elim o [ None ↦ ⊥ | Some z ↦ Reads program callee z ⊎ Writes program callee z ] in
        none at (inl (subst M (sym e) (subst (Touches program callee) (sym same) h), refl))) q r root is),
    var_apart callee y r more h is (λ place i. none place (inr i)),
  )

  pub any_apart : (callee : ℕ) (y : Subject) (r : Root) (actuals : Actuals) → Writes program callee y → RootOf y r → ((place : At) → ImportedIn program callee actuals place → ⊥) → AnyApart r actuals
  any_apart callee y r NoActual h is none = tt
  any_apart callee y r (Given at size e more) h is none = any_apart callee y r more h is none
  any_apart callee y r (Lent at true bounds path more) h is none = (
    (λ x e q root. roots_differ x y (λ same.
        let M : Option Subject → Type 0 = λ o. elim o [ None ↦ ⊥ | Some z ↦ Reads program callee z ⊎ Writes program callee z ] in
        none at (inl (subst M (sym e) (inr (subst (Writes program callee) (sym same) h)), refl))) q r root is),
    any_apart callee y r more h is (λ place i. none place (inr i)),
  )
  any_apart callee y r (Lent at false bounds path more) h is none = (
    (λ x e q root. roots_differ x y (λ same.
        let M : Option Subject → Type 0 = λ o. elim o [ None ↦ ⊥ | Some z ↦ Writes program callee z ] in
        none at (inl (subst M (sym e) (subst (Writes program callee) (sym same) h), refl))) q r root is),
    any_apart callee y r more h is (λ place i. none place (inr i)),
  )

-- what is lent as `var` is what the text may change
pub var_apart_by : (may : Leave) (r : Root) (actuals : Actuals) → ((x : Subject) → may.writes x → (q : Root) → RootOf x q → q ≢ r) → LendsFit may actuals → VarApart r actuals
var_apart_by may r NoActual h fit = tt
var_apart_by may r (Given at size e more) h fit = var_apart_by may r more h fit
var_apart_by may r (Lent at true bounds path more) h fit = ((λ x e. h x (fit.0 x e)), var_apart_by may r more h fit.1)
var_apart_by may r (Lent at false bounds path more) h fit = var_apart_by may r more h fit.1

module _ (shapes : List Shape) (bounds : Variable → List ℤ) (Good : Place → Type 0) where
  found_root : (path : Path) (p : Place) (x : Subject) → IsFound shapes bounds path p → subject_of path ≡ Some x → RootOf x p.root
  found_root (Name at y steps) p x h e = subst (λ z. RootOf z p.root) (one_subject (AVariable y) x e) h.0
  found_root (OpenItem at y indexes es steps) p x h e = subst (λ z. RootOf z p.root) (one_subject (AVariable y) x e) h.0
  found_root (Element at c e' steps) p x h e = subst (λ z. RootOf z p.root) (one_subject (ACollection c) x e) (h.0, h.1)
  found_root (ResultOf at k call steps) p x h e = absurd (let f : None ≡ Some x = e in cc)

  -- a path's root is that of its subject, or a result
  other_root : (path : Path) (p : Place) (r : Root) → ((k : ℕ) → OfCall k ≢ r) → OfPath (λ x. (q : Root) → RootOf x q → q ≢ r) path → IsFound shapes bounds path p → p.root ≢ r
  other_root (Name at y steps) p r calls h found = h (AVariable y) refl p.root found.0
  other_root (OpenItem at y indexes es steps) p r calls h found = h (AVariable y) refl p.root found.0
  other_root (Element at c e steps) p r calls h found = h (ACollection c) refl p.root (found.0, found.1)
  other_root (ResultOf at k call steps) p r calls h found = λ e. calls k (sym found.0 ∙ e)

  pub no_var : (known : Known) (r : Root) (actuals : Actuals) (given : List Actual) → VarApart r actuals → LendsRight known actuals → AreFound shapes bounds Good actuals given → NoVar given r
  no_var known r NoActual given h lends found = subst (λ z. NoVar z r) (sym found) tt
  no_var known r (Given at size e more) given h lends found = subst (λ z. NoVar z r) (sym found.3) (no_var known r more found.2 h lends found.4)
  no_var known r (Lent at true known' path more) given h lends found =
      let x = the_subject path (lends.0 refl) in
      subst (λ z. NoVar z r) (sym found.3) (h.0 x.0 x.1 found.1.root (found_root path found.1 x.0 found.5 x.1), no_var known r more found.2 h.1 lends.3 found.6)
  no_var known r (Lent at false known' path more) given h lends found = subst (λ z. NoVar z r) (sym found.3) (no_var known r more found.2 h lends.3 found.6)

  pub no_lent : (r : Root) (actuals : Actuals) (given : List Actual) → ((k : ℕ) → OfCall k ≢ r) → AnyApart r actuals → AreFound shapes bounds Good actuals given → NoLent given r
  no_lent r NoActual given calls h found = subst (λ z. NoLent z r) (sym found) tt
  no_lent r (Given at size e more) given calls h found = subst (λ z. NoLent z r) (sym found.3) (no_lent r more found.2 calls h found.4)
  no_lent r (Lent at is_var known' path more) given calls h found = subst (λ z. NoLent z r) (sym found.3) (other_root path found.1 r calls h.0 found.5, no_lent r more found.2 calls h.1 found.6)

  -- a name that is no constant formal, and one that is no formal
  pub not_const : (modes : List Formal) (actuals : Actuals) (given : List Actual) (x : ℕ) → is_constant (slice_get modes x) ≡ false → ModesFit modes actuals → AreFound shapes bounds Good actuals given → NotConst given x
  not_const [] NoActual given x free h found = subst (λ z. NotConst z x) (sym found) tt
  not_const [] (Given at size e more) given x free h found = absurd h
  not_const [] (Lent at is_var bs path more) given x free h found = absurd h
  not_const (f ∷ modes) NoActual given x free h found = absurd (no_modes f h)
    where
      no_modes : (f : Formal) → ModesFit (f ∷ modes) NoActual → ⊥
      no_modes (ByValue target) h = h
      no_modes (ByCopy kind) h = h
      no_modes (ByVar var kind) h = h
  not_const (ByValue target ∷ modes) (Given at size e more) given zero free h found = subst (λ z. NotConst z 0) (sym found.3) tt
  not_const (ByValue target ∷ modes) (Given at size e more) given (suc x) free h found = subst (λ z. NotConst z (suc x)) (sym found.3) (not_const modes more found.2 x free h found.4)
  not_const (ByCopy kind ∷ modes) (Given at size e more) given x free h found = absurd h
  not_const (ByVar var kind ∷ modes) (Given at size e more) given x free h found = absurd h
  not_const (ByValue target ∷ modes) (Lent at true bs path more) given x free h found = absurd h
  not_const (ByValue target ∷ modes) (Lent at false bs path more) given x free h found = absurd h
  not_const (ByCopy kind ∷ modes) (Lent at true bs path more) given x free h found = absurd h
  not_const (ByCopy kind ∷ modes) (Lent at false bs path more) given zero free h found = absurd (let e : true ≡ false = free in cc)
  not_const (ByCopy kind ∷ modes) (Lent at false bs path more) given (suc x) free h found = subst (λ z. NotConst z (suc x)) (sym found.3) (not_const modes more found.2 x free h found.6)
  not_const (ByVar var kind ∷ modes) (Lent at false bs path more) given x free h found = absurd h
  not_const (ByVar var kind ∷ modes) (Lent at true bs path more) given zero free h found = subst (λ z. NotConst z 0) (sym found.3) tt
  not_const (ByVar var kind ∷ modes) (Lent at true bs path more) given (suc x) free h found = subst (λ z. NotConst z (suc x)) (sym found.3) (not_const modes more found.2 x free h found.6)

  pub is_owned : (modes : List Formal) (actuals : Actuals) (given : List Actual) (x : ℕ) → slice_get modes x ≡ None → ModesFit modes actuals → AreFound shapes bounds Good actuals given → Owned given x × ((s : Store) → formals s given x ≡ holds_nothing)
  is_owned [] NoActual given x free h found = subst (λ z. Owned z x × ((s : Store) → formals s z x ≡ holds_nothing)) (sym found) (tt, λ s. refl)
  is_owned [] (Given at size e more) given x free h found = absurd h
  is_owned [] (Lent at is_var bs path more) given x free h found = absurd h
  is_owned (f ∷ modes) NoActual given x free h found = absurd (no_modes f h)
    where
      no_modes : (f : Formal) → ModesFit (f ∷ modes) NoActual → ⊥
      no_modes (ByValue target) h = h
      no_modes (ByCopy kind) h = h
      no_modes (ByVar var kind) h = h
  is_owned (f ∷ modes) (Given at size e more) given zero free h found = absurd (let e : Some f ≡ None = free in cc)
  is_owned (f ∷ modes) (Lent at is_var bs path more) given zero free h found = absurd (let e : Some f ≡ None = free in cc)
  is_owned (ByValue target ∷ modes) (Given at size e more) given (suc x) free h found = subst (λ z. Owned z (suc x) × ((s : Store) → formals s z (suc x) ≡ holds_nothing)) (sym found.3) (let o = is_owned modes more found.2 x free h found.4 in (o.0, o.1))
  is_owned (ByCopy kind ∷ modes) (Given at size e more) given (suc x) free h found = absurd h
  is_owned (ByVar var kind ∷ modes) (Given at size e more) given (suc x) free h found = absurd h
  is_owned (ByValue target ∷ modes) (Lent at true bs path more) given (suc x) free h found = absurd h
  is_owned (ByValue target ∷ modes) (Lent at false bs path more) given (suc x) free h found = absurd h
  is_owned (ByCopy kind ∷ modes) (Lent at true bs path more) given (suc x) free h found = absurd h
  is_owned (ByCopy kind ∷ modes) (Lent at false bs path more) given (suc x) free h found = subst (λ z. Owned z (suc x) × ((s : Store) → formals s z (suc x) ≡ holds_nothing)) (sym found.3) (let o = is_owned modes more found.2 x free h found.6 in (o.0, o.1))
  is_owned (ByVar var kind ∷ modes) (Lent at false bs path more) given (suc x) free h found = absurd h
  is_owned (ByVar var kind ∷ modes) (Lent at true bs path more) given (suc x) free h found = subst (λ z. Owned z (suc x) × ((s : Store) → formals s z (suc x) ≡ holds_nothing)) (sym found.3) (let o = is_owned modes more found.2 x free h found.6 in (o.0, o.1))

-- what a call lends the caller may read, and change where it is `var`
pub may_lend : (shapes : List Shape) (bounds : Variable → List ℤ) (may : Leave) (known : Known) (γ : Running) (actuals : Actuals) (given : List Actual) → ((x : Subject) → may.writes x → (q : Root) → RootOf x q → MayWrite γ q) → LendsFit may actuals → LendsRight known actuals → AreFound shapes bounds (λ q. MayRead γ q.root) actuals given → MayLend γ given
may_lend shapes bounds may known γ NoActual given w fit lends found = subst (MayLend γ) (sym found) tt
may_lend shapes bounds may known γ (Given at size e more) given w fit lends found = subst (MayLend γ) (sym found.3) (may_lend shapes bounds may known γ more found.2 w fit lends found.4)
may_lend shapes bounds may known γ (Lent at true known' path more) given w fit lends found =
    let x = the_subject path (lends.0 refl) in
    subst (MayLend γ) (sym found.3) (found.4, (λ t. w x.0 (fit.0 x.0 x.1) found.1.root (found_root shapes bounds (λ q. MayRead γ q.root) path found.1 x.0 found.5 x.1)), may_lend shapes bounds may known γ more found.2 w fit.1 lends.3 found.6)
may_lend shapes bounds may known γ (Lent at false known' path more) given w fit lends found =
    subst (MayLend γ) (sym found.3) (found.4, (λ t. absurd (let h : false ≡ true = t in cc)), may_lend shapes bounds may known γ more found.2 w fit.1 lends.3 found.6)

-- a name of the text's own is no formal
past_end : (modes : List Formal) (x : ℕ) → nat_lt x (length modes) ≡ false → slice_get modes x ≡ None
past_end [] x e = refl
past_end (f ∷ modes) zero e = absurd (let h : nat_lt 0 (suc (length modes)) ≡ false = e in grind (arith, nat_tests, h))
past_end (f ∷ modes) (suc x) e = past_end modes x (let h : nat_lt (suc x) (suc (length modes)) ≡ false = e in grind (arith, nat_tests, h))

pub no_formal : (names : Names) (x : ℕ) (test : LocalName → Bool) → has_some test (local_name names x) ≡ true → slice_get names.formals x ≡ None
no_formal names x test e = past_end names.formals x (by (nat_lt x (length names.formals)) e)
  where
    by : (b : Bool) → has_some test (if b then None else slice_get names.locals (x - length names.formals)) ≡ true → b ≡ false
    by true e = absurd (let h : false ≡ true = e in cc)
    by false e = refl

-- receiving is the same over all stores
module _ {S S' : Type 0} (p : Passing S) (p' : Passing S') (t : ℕ) (program : Program) (words : List ℕ) {ρ : S → S' → Type 0} (n line : ℕ) where
  receive_alike : (f : Formal) (a : Actual) → Keeps S S' t ρ n (Unit {0}) Any (receive S p t program words line f a) (receive S' p' t program words line f a)
  receive_alike (ByValue target) (GivenValue bounds v) = sim_unless_raised line (misfit target [] v) ▹ λ _. sim_pay _
  receive_alike (ByValue target) (LentPlace is_var bounds q) = sim_lost
  receive_alike (ByCopy kind) (GivenValue bounds v) = sim_lost
  receive_alike (ByCopy kind) (LentPlace is_var bounds q) = sim_pay 1
  receive_alike (ByVar at kind) (GivenValue bounds v) = sim_lost
  receive_alike (ByVar at kind) (LentPlace is_var bounds q) = sim_pay 1

  pub receive_all_alike : (modes : List Formal) (given : List Actual) → Keeps S S' t ρ n (Unit {0}) Any (receive_all S p t program words line modes given) (receive_all S' p' t program words line modes given)
  receive_all_alike [] [] = sim_give tt tt
  receive_all_alike [] (a ∷ given) = sim_lost
  receive_all_alike (f ∷ more) [] = sim_lost
  receive_all_alike (f ∷ more) (a ∷ given) = receive_alike f a ▹ λ _. receive_all_alike more given
