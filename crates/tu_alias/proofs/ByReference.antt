-- Copying and locations side by side, in a program that the rules accept.
use Rattle.std.proofs.Common.{◌≡◌, ◌≢◌, ℕ, zero, suc, Bool, true, false, List, [], ◌∷◌, inl, inr, Option, Some, None, refl, sym, ◌∙◌, ap, subst, arith}
use Rattle.std.specs.Prelude.{ℤ, slice_get, is_some}
use Rattle.std.specs.List.{Contains}
use mathlib.Core.Path.{fun_ext}
use Rattle.tu_base.specs.Values.{Number, Content, part}
use Rattle.tu_core.specs.Core.{Path, Call, Calls, Actuals, NoActual, Named, Routine, Program}
use Rattle.tu_core.specs.declared.names.At.{At}
use Rattle.tu_core.specs.declared.names.Variable.{Variable}
use Rattle.tu_core.specs.declared.names.Variable.TheVariants.{Global, Local}
use Rattle.tu_core.specs.declared.names.CallResult.TheVariants.{Nothing}
use Rattle.tu_core.specs.Places.{names_of, has_some, local_name}
use Rattle.tu_core.specs.Walk.{pairs_of}
use Rattle.tu_core.specs.Acts.{Subject, AVariable, ACollection, subject_of, Act, routine_acts}
use Rattle.tu_core.specs.Effects.{called_by, CallsOne, Writes}
use Rattle.tu_core.specs.Rules.{KeepsTheRules}
use Rattle.tu_core.specs.Constants.{Known, known_in, is_declared}
use Rattle.tu_core.specs.Typed.{StartsWith, GetsItsValue, IsVariable, IsOwn, is_constant, is_own, TextIsTyped, IsTyped}
use Rattle.tu_meaning.specs.Store.{Root, OfProgram, OfActivation, OfCall, OfCollection, Place, place_of, Held, holds, holds_nothing, Actual, GivenValue, LentPlace, Store, held, with_held, fetch, assign, with_names_of, by_copying}
use Rattle.tu_meaning.specs.References.{Cells, by_reference, changed_at, locate, locate_root, fetch_at, assign_at, held_by, bounds_in, alias_formals, entered, bound_alias}
use Rattle.tu_meaning.specs.Words.{Back}
use Rattle.tu_meaning.specs.Expressions.{root_of, Performs}
use Rattle.tu_meaning.specs.Subprograms.{activation, calls}
use Rattle.tu_meaning.proofs.Alike.{sim_lost, sim_stop, sim_turn, sim_room, sim_scope}
use Rattle.tu_meaning.proofs.WordForms.{Any}
use Rattle.tu_alias_store.proofs.Ways.{same_or_not}
use Rattle.tu_alias_store.proofs.Stores.{other_name, same_name, at, held_same, fetch_held_other, fetch_apart, elsewhere, bounds_assign, same_root_or_not}
use Rattle.tu_alias_store.proofs.Lent.{AllApart, NoLent, NoVar, away_of_var, back_fetch, back_bounds}
use Rattle.tu_alias_store.proofs.Related.{Aliases, Called, Bound, Running, depth, MayRead, MayWrite, MayDeclare, Owned, NotConst, Related, related_fetch, related_bounds, related_declare}
use Rattle.tu_alias_store.proofs.Changes.{related_assign, related_enter, related_bind, read_of_write}
use Rattle.tu_alias_forms.proofs.Overlaps.{AreFound, Passed, all_apart}
use Rattle.tu_alias_forms.proofs.Fits.{Leave, Touches, hide}
use Rattle.tu_alias_forms.proofs.Words.{IsUnsetOr, Keeps, ◌▹◌, sim_at}
use Rattle.tu_alias_forms.proofs.Expressions.{RootOf, LendsFit, Related as Evaluates}
use Rattle.tu_alias_forms.proofs.Statements.{Evaluating, Scoped, Kept, NamesResult, sim_run_routine}
use Rattle.tu_alias_texts.proofs.Reached.{reads_by_call, writes_by_call}
use Rattle.tu_alias_texts.proofs.Fitting.{ModesFit, CallSafe, IsSafe, leave_of, routine_fits, IsGood}
use Rattle.tu_alias.proofs.Received.{receive_all_alike, roots_differ, the_subject, var_apart, any_apart, var_apart_by, no_var, no_lent, not_const, is_owned, may_lend, no_formal}

-- ---- roots and what they hold

no_call_of_variable : (x : Variable) (k : ℕ) → OfCall k ≢ root_of x
no_call_of_variable (Global x) k e = let h : OfCall k ≡ OfProgram x = e in cc
no_call_of_variable (Local x) k e = let h : OfCall k ≡ OfActivation x = e in cc

-- what is no name of the activation may be declared where it may be written
declare_of_write : (γ : Running) (c k : ℕ) → MayWrite γ (OfCollection c k) → MayDeclare γ (OfCollection c k)
declare_of_write [] c k h = tt
declare_of_write (Called got before lower ∷ γ) c k h = (h.0, declare_of_write γ c k h.1)
declare_of_write (Bound b x p before lower ∷ γ) c k (inl h) = absurd (let e : OfCollection c k ≡ OfActivation x = h.0 in cc)
declare_of_write (Bound b x p before lower ∷ γ) c k (inr h) = (h.0, h.1, declare_of_write γ c k h.2)

const_of_owned : (got : List Actual) (x : ℕ) → Owned got x → NotConst got x
const_of_owned [] x h = tt
const_of_owned (GivenValue bounds v ∷ more) zero h = tt
const_of_owned (LentPlace false bounds p ∷ more) zero h = absurd h
const_of_owned (LentPlace true bounds p ∷ more) zero h = absurd h
const_of_owned (GivenValue bounds v ∷ more) (suc x) h = const_of_owned more x h
const_of_owned (LentPlace false bounds p ∷ more) (suc x) h = const_of_owned more x h
const_of_owned (LentPlace true bounds p ∷ more) (suc x) h = const_of_owned more x h

-- and what may be declared may be written
write_of_declare : (γ : Running) (r : Root) → MayDeclare γ r → MayWrite γ r
write_of_declare [] r h = tt
write_of_declare (Called got before lower ∷ γ) (OfProgram x) h = (h.0, write_of_declare γ (OfProgram x) h.1)
write_of_declare (Called got before lower ∷ γ) (OfActivation x) h = const_of_owned got x h
write_of_declare (Called got before lower ∷ γ) (OfCall x) h = tt
write_of_declare (Called got before lower ∷ γ) (OfCollection c k) h = (h.0, write_of_declare γ (OfCollection c k) h.1)
write_of_declare (Bound b x p before lower ∷ γ) r h = inr (h.0, h.1, write_of_declare γ r h.2)

module _ (program : Program) (words : List ℕ) (t : ℕ) (globals : ℕ → Option ℤ) where
  -- what is open while a text runs, and what is known of the bounds of the program's arrays
  pub record Activation : Type 1 where
    pub running : Running
    pub Bounds : (ℕ → List ℤ) → Type 0

  abbrev pub CanRead : Activation → Root → Type 0
  CanRead act r = MayRead act.running r

  -- a text, by the values of its constants
  module _ (locals : ℕ → Option ℤ) where
    abbrev pub known : Known
    known = known_in globals locals

    pub record Stores (act : Activation) (s : Store) (s' : Cells) : Type 0 where
      pub related : Related act.running s s'.stores s'.aliases
      pub deep : s'.level ≡ depth act.running
      pub constants : (x : Variable) (z : ℤ) → known x ≡ Some z → IsUnsetOr (fetch s (place_of (root_of x)) []) z
      pub bounds : act.Bounds (λ x. (s.globals x).bounds)

    abbrev pub IsFree : Subject → Type 0
    IsFree (AVariable x) = known x ≡ None
    IsFree (ACollection c) = Unit {0}

    abbrev pub KeepsBounds : Activation → Variable → Type 0
    KeepsBounds act (Global x) = (f : ℕ → List ℤ) (bounds : List ℤ) → act.Bounds f → act.Bounds (changed_at f x bounds)
    KeepsBounds act (Local x) = Unit {0}

    -- what a text may do, what is open lets it do
    pub record Allowed (act : Activation) (may : Leave) : Type 0 where
      pub reads : (x : Subject) (r : Root) → may.reads x → RootOf x r → MayRead act.running r
      pub writes : (x : Subject) (r : Root) → may.writes x → RootOf x r → MayWrite act.running r
      pub free : (x : Subject) → may.writes x → IsFree x
      pub declares : (v : Variable) → may.declares v → MayDeclare act.running (root_of v) × (known v ≡ None) × KeepsBounds act v
      pub defines : (d : Named) → may.defines d → MayDeclare act.running (root_of d.name) × GetsItsValue known d × KeepsBounds act d.name
      pub results : (k : ℕ) → MayDeclare act.running (OfCall k)
      pub reads_called : (call : Call) (p : ℕ) → may.calls call → Contains (called_by call) p → (y : Subject) (r : Root) → Touches program p y → RootOf y r → MayRead act.running r
      pub writes_called : (call : Call) (p : ℕ) → may.calls call → Contains (called_by call) p → (y : Subject) (r : Root) → Writes program p y → RootOf y r → MayWrite act.running r
      pub safe : (call : Call) → may.calls call → IsSafe program known call
      pub binds : (name : ℕ) (path : Path) → may.binds name path → (is_some (subject_of path) ≡ true) × (subject_of path ≢ Some (AVariable (Local name))) × (known (Local name) ≡ None)

    -- ---- the constants

    -- a write elsewhere, and a declaration elsewhere, leave a constant
    constants_assign : (s : Store) (q : Place) (content : Content) → ((x : Variable) (z : ℤ) → known x ≡ Some z → q.root ≢ root_of x) → ((x : Variable) (z : ℤ) → known x ≡ Some z → IsUnsetOr (fetch s (place_of (root_of x)) []) z) → (x : Variable) (z : ℤ) → known x ≡ Some z → IsUnsetOr (fetch (assign s q content) (place_of (root_of x)) []) z
    constants_assign s q content other h x z e = subst (λ c. IsUnsetOr (c []) z) (sym (fetch_apart s q (place_of (root_of x)) content (elsewhere q (place_of (root_of x)) (other x z e)))) (h x z e)

    constants_held : (s : Store) (r : Root) (g : Held) → ((x : Variable) (z : ℤ) → known x ≡ Some z → r ≢ root_of x) → ((x : Variable) (z : ℤ) → known x ≡ Some z → IsUnsetOr (fetch s (place_of (root_of x)) []) z) → (x : Variable) (z : ℤ) → known x ≡ Some z → IsUnsetOr (fetch (with_held s r g) (place_of (root_of x)) []) z
    constants_held s r g other h x z e = subst (λ c. IsUnsetOr (c []) z) (sym (fetch_held_other s r g (place_of (root_of x)) (other x z e))) (h x z e)

    -- what is free is no root of a constant
    free_apart : (y : Subject) (r : Root) → IsFree y → RootOf y r → (x : Variable) (z : ℤ) → known x ≡ Some z → r ≢ root_of x
    free_apart (AVariable y) r free is x z e = roots_differ (AVariable y) (AVariable x) (λ same. let h : AVariable y ≡ AVariable x = same in let f : known x ≡ None = subst (λ v. known v ≡ None) (let g : y ≡ x = cc in g) free in let both : Some z ≡ None = sym e ∙ f in cc) r (root_of x) is refl
    free_apart (ACollection c) r free is x z e = roots_differ (ACollection c) (AVariable x) (λ same. let h : ACollection c ≡ AVariable x = same in cc) r (root_of x) is refl

    -- ---- changes keep the relation

    pub stores_assign : (act : Activation) (q : Place) (content : Content) (s : Store) (s' : Cells) → MayWrite act.running q.root → ((x : Variable) (z : ℤ) → known x ≡ Some z → q.root ≢ root_of x) → Stores act s s' → Stores act (by_copying.assign s q content) (by_reference.assign s' q content)
    stores_assign act q content s s' may other st = record {
      related = subst (λ d. Related act.running (assign s q content) (assign_at s'.stores (locate d s'.aliases q) content) s'.aliases) (sym st.deep) (related_assign act.running s s'.stores s'.aliases q.root q.way content st.related may);
      deep = st.deep;
      constants = constants_assign s q content other st.constants;
      bounds = subst act.Bounds (fun_ext (λ x. sym (bounds_assign s q content (OfProgram x)))) st.bounds;
    }

    pub stores_declare : (act : Activation) (r : Root) (h : Held) (s : Store) (s' : Cells) → MayDeclare act.running r → ((x : Variable) (z : ℤ) → known x ≡ Some z → IsUnsetOr (fetch (with_held s r h) (place_of (root_of x)) []) z) → act.Bounds (λ x. ((with_held s r h).globals x).bounds) → Stores act s s' → Stores act (by_copying.declare s r h) (by_reference.declare s' r h)
    stores_declare act r h s s' may constants bounds st = record {
      related = subst (λ d. Related act.running (with_held s r h) (held_by s'.stores d r h) s'.aliases) (sym st.deep) (related_declare act.running s s'.stores s'.aliases r h st.related may);
      deep = st.deep;
      constants = constants;
      bounds = bounds;
    }

    -- the bounds of the program's arrays, behind a declaration
    bounds_declared : (act : Activation) (v : Variable) (h : Held) (s : Store) → KeepsBounds act v → act.Bounds (λ x. (s.globals x).bounds) → act.Bounds (λ x. ((with_held s (root_of v) h).globals x).bounds)
    bounds_declared act (Local y) h s keeps b = b
    bounds_declared act (Global y) h s keeps b = subst act.Bounds (fun_ext same) (keeps (λ x. (s.globals x).bounds) h.bounds b)
      where
        same : (x : ℕ) → changed_at (λ x. (s.globals x).bounds) y h.bounds x ≡ ((with_held s (OfProgram y) h).globals x).bounds
        same x = elim (same_or_not x y) [
          | inl e ↦ subst (λ z. changed_at (λ x. (s.globals x).bounds) y h.bounds z ≡ (changed_at s.globals y h z).bounds) (sym e) (same_name (λ x. (s.globals x).bounds) y h.bounds ∙ sym (ap (λ g. g.bounds) (same_name s.globals y h)))
          | inr ne ↦ other_name (λ x. (s.globals x).bounds) y h.bounds x ne ∙ sym (ap (λ g. g.bounds) (other_name s.globals y h x ne))
        ]

  -- ---- what each form needs

  -- The calls that a text may make do the same, whatever is open.
  pub record CallsAlike (n : ℕ) (perform : Performs Store) (perform' : Performs Cells) : Type 1 where
    pub alike : (locals : ℕ → Option ℤ) (act : Activation) (may : Leave) → Allowed locals act may → (bounds : Variable → List ℤ) (line callee : ℕ) (actuals : Actuals) (given : List Actual) →
        ((y : Subject) (r : Root) → Touches program callee y → RootOf y r → MayRead act.running r) → ((y : Subject) (r : Root) → Writes program callee y → RootOf y r → MayWrite act.running r) →
        CallSafe program (known locals) callee actuals → LendsFit may actuals → AreFound program.shapes bounds (λ q. CanRead act q.root) actuals given → Passed given (pairs_of actuals) →
        Keeps Store Cells t (Evaluating by_copying by_reference t program words (known locals) Activation (Allowed locals) (Stores locals) CanRead act bounds) n Back Any (perform line callee given) (perform' line callee given)

  module _ (n : ℕ) (perform : Performs Store) (perform' : Performs Cells) (same : CallsAlike n perform perform') (locals : ℕ → Option ℤ) where
    abbrev Evaluates' : Activation → (Variable → List ℤ) → Store → Cells → Type 0
    Evaluates' act bounds s s' = Stores locals act s s' × ((x : Variable) → by_copying.bounds s (root_of x) ≡ bounds x)

    first_called : (at : At) (callee : ℕ) (invariant : Option ℕ) (actuals : Actuals) → Contains (called_by (Calls at callee invariant actuals)) callee
    first_called at callee invariant actuals = (0, omega arith, refl)

    second_called : (at : At) (callee m : ℕ) (actuals : Actuals) → Contains (called_by (Calls at callee (Some m) actuals)) m
    second_called at callee m actuals = (1, omega arith, refl)

    bounds_of_result : (s : Store) (k : ℕ) (h : Held) (x : Variable) → (held (with_held s (OfCall k) h) (root_of x)).bounds ≡ (held s (root_of x)).bounds
    bounds_of_result s k h (Global x) = refl
    bounds_of_result s k h (Local x) = refl

    evaluates : (act : Activation) (may : Leave) → Allowed locals act may → (bounds : Variable → List ℤ) → Evaluates by_copying by_reference t program n perform perform' may (known locals) bounds (CanRead act) (Evaluates' act bounds)
    evaluates act may ok bounds = record {
      fetch = λ q s s' good e. related_fetch act.running s s'.stores s'.aliases q.root q.way e.0.related good ∙ ap (λ d. fetch_at s'.stores (locate_root d s'.aliases q.root q.way)) (sym e.0.deep);
      bounds = λ root s s' e. related_bounds act.running s s'.stores s'.aliases root e.0.related ∙ ap (λ d. bounds_in s'.stores d s'.aliases root) (sym e.0.deep);
      bounds_are = λ x s s' e. e.1 x;
      reads = λ x r h is. ok.reads x r h is;
      writes = λ x r h is. read_of_write act.running r (ok.writes x r h is);
      results = λ k. read_of_write act.running (OfCall k) (write_of_declare act.running (OfCall k) (ok.results k));
      stores_result = λ k content s s' e. (
        stores_declare locals act (OfCall k) (holds content) s s' (ok.results k) (constants_held locals s (OfCall k) (holds content) (λ x z h. no_call_of_variable x k) e.0.constants) e.0.bounds e.0,
        λ x. bounds_of_result s k (holds content) x ∙ e.1 x,
      );
      constants = λ x z s s' h e. e.0.constants x z h;
      performs = λ line at callee invariant actuals given can fit lent found passed.
          let safe = ok.safe (Calls at callee invariant actuals) can in
          same.alike locals act may ok bounds line callee actuals given (ok.reads_called (Calls at callee invariant actuals) callee can (first_called at callee invariant actuals)) (ok.writes_called (Calls at callee invariant actuals) callee can (first_called at callee invariant actuals)) safe.0 fit (found safe.0.lends) passed;
      keeps = λ line at callee m actuals can.
          let safe = ok.safe (Calls at callee (Some m) actuals) can in
          same.alike locals act may ok bounds line m NoActual [] (ok.reads_called (Calls at callee (Some m) actuals) m can (second_called at callee m actuals)) (ok.writes_called (Calls at callee (Some m) actuals) m can (second_called at callee m actuals)) (safe.1 m refl) tt refl tt;
    }

    -- a constant gets its value
    constants_define : (d : Named) (content : Content) (s : Store) → GetsItsValue (known locals) d → ((z : ℤ) → StartsWith (known locals) d.start z → content [] ≡ Number z) → ((x : Variable) (z : ℤ) → known locals x ≡ Some z → IsUnsetOr (fetch s (place_of (root_of x)) []) z) → (x : Variable) (z : ℤ) → known locals x ≡ Some z → IsUnsetOr (fetch (with_held s (root_of d.name) (holds content)) (place_of (root_of x)) []) z
    constants_define d content s gets is h x z e = elim (same_root_or_not (root_of d.name) (root_of x)) [
      | inl same ↦ subst (λ r. IsUnsetOr (fetch (with_held s (root_of d.name) (holds content)) (place_of r) []) z) same (subst (λ g. IsUnsetOr (part g.content [] []) z) (sym (held_same s (root_of d.name) (holds content)))
          (inr (is z (let M : Option ℤ → Type 0 = λ o. elim o [ None ↦ Unit {0} | Some w ↦ StartsWith (known locals) d.start w ] in subst M (ap (known locals) (same_variable d.name x same) ∙ e) gets))))
      | inr ne ↦ subst (λ c. IsUnsetOr (c []) z) (sym (fetch_held_other s (root_of d.name) (holds content) (place_of (root_of x)) ne)) (h x z e)
    ]
      where
        same_variable : (v x : Variable) → root_of v ≡ root_of x → v ≡ x
        same_variable (Global v) (Global x) e = ap Global (let h : OfProgram v ≡ OfProgram x = e in let g : v ≡ x = cc in g)
        same_variable (Global v) (Local x) e = let h : OfProgram v ≡ OfActivation x = e in cc
        same_variable (Local v) (Global x) e = let h : OfActivation v ≡ OfProgram x = e in cc
        same_variable (Local v) (Local x) e = ap Local (let h : OfActivation v ≡ OfActivation x = e in let g : v ≡ x = cc in g)

    -- where nothing is known of a variable
    unknown_apart : (v : Variable) → known locals v ≡ None → (x : Variable) (z : ℤ) → known locals x ≡ Some z → root_of v ≢ root_of x
    unknown_apart v free = free_apart locals (AVariable v) (root_of v) free refl

    collection_apart : (c k : ℕ) (x : Variable) (z : ℤ) → known locals x ≡ Some z → OfCollection c k ≢ root_of x
    collection_apart c k = free_apart locals (ACollection c) (OfCollection c k) tt (k, refl)

    bounds_of_name : (s : Store) (x : ℕ) (h : Held) (y : ℕ) → ((with_held s (OfActivation x) h).globals y).bounds ≡ (s.globals y).bounds
    bounds_of_name s x h y = refl

    -- a bind begins
    binds : (act : Activation) (may : Leave) → Allowed locals act may → (is_var : Bool) (x : ℕ) (path : Path) (q : Place) (subject : Subject) → may.binds x path → subject_of path ≡ Some subject → RootOf subject q.root → (is_var ≡ true → may.writes subject) → MayRead act.running q.root → (s : Store) (s' : Cells) → Stores locals act s s' →
        Scoped by_copying by_reference t program words (known locals) Activation (Allowed locals) (Stores locals) CanRead act may is_var x q subject s s'
    binds act may ok is_var x path q subject can is root w good s s' st = record {
      inner = inner;
      allows = record {
        reads = λ y r h e. elim h [ inl i ↦ inl (subst (λ z. RootOf z r) i e) | inr m ↦ inr (roots_differ y (AVariable (Local x)) m.1 r (OfActivation x) e refl, (λ b. roots_differ subject y (m.2 b) q.root r root e), ok.reads y r m.0 e) ];
        writes = λ y r h e. elim h [ inl i ↦ inl (subst (λ z. RootOf z r) i.0 e, i.1) | inr m ↦ inr (roots_differ y (AVariable (Local x)) m.1 r (OfActivation x) e refl, roots_differ subject y m.2 q.root r root e, ok.writes y r m.0 e) ];
        free = λ y h. elim h [ inl i ↦ subst (IsFree locals) (sym i.0) well.2 | inr m ↦ ok.free y m.0 ];
        declares = λ v h. let one = ok.declares v h.0 in ((roots_differ (AVariable v) (AVariable (Local x)) (λ e. h.1 (let g : AVariable v ≡ AVariable (Local x) = e in cc)) (root_of v) (OfActivation x) refl refl, roots_differ subject (AVariable v) h.2 q.root (root_of v) root refl, one.0), one.1, keeps v one.2);
        defines = λ d h. let one = ok.defines d h.0 in ((roots_differ (AVariable d.name) (AVariable (Local x)) (λ e. h.1 (let g : AVariable d.name ≡ AVariable (Local x) = e in cc)) (root_of d.name) (OfActivation x) refl refl, roots_differ subject (AVariable d.name) h.2 q.root (root_of d.name) root refl, one.0), one.1, keeps d.name one.2);
        results = λ k. ((λ e. let h : OfCall k ≡ OfActivation x = e in cc), subject_no_call k, ok.results k);
        reads_called = λ call p h i y r touch e. inr (called_no_name call p h i y r touch e, (λ b. roots_differ subject y ((h.1 p i).0 y touch b) q.root r root e), ok.reads_called call p h.0 i y r touch e);
        writes_called = λ call p h i y r write e. inr (called_no_name call p h i y r (inr write) e, roots_differ subject y ((h.1 p i).1 y write) q.root r root e, ok.writes_called call p h.0 i y r write e);
        safe = λ call h. ok.safe call h.0;
        binds = ok.binds;
      };
      opened = record {
        related = subst (λ d. Related (Bound is_var x q s s'.aliases ∷ act.running) (by_copying.bind is_var x q s) s'.stores (changed_at s'.aliases x (Some (bound_alias s'.stores d s'.aliases q)))) (sym st.deep) (related_bind act.running s s'.stores s'.aliases is_var x q st.related away good (λ b. ok.writes subject q.root (w b) root));
        deep = st.deep;
        constants = constants_held locals s (OfActivation x) _ (unknown_apart (Local x) well.2) st.constants;
        bounds = st.bounds;
      };
      closed = λ z z' h. record {
        related = h.related.1;
        deep = h.deep;
        constants = closes is_var (λ b. ok.free subject (w b)) z h.constants;
        bounds = kept is_var z h.bounds;
      };
    }
      where
        inner : Activation
        inner = record act { running = Bound is_var x q s s'.aliases ∷ act.running }

        well : (is_some (subject_of path) ≡ true) × (subject_of path ≢ Some (AVariable (Local x))) × (known locals (Local x) ≡ None)
        well = ok.binds x path can

        away : OfActivation x ≢ q.root
        away e = roots_differ (AVariable (Local x)) subject (λ same. well.1 (is ∙ ap Some (sym same))) (OfActivation x) q.root refl root e

        subject_no_call : (k : ℕ) → q.root ≢ OfCall k
        subject_no_call k e = by subject root
          where
            by : (y : Subject) → RootOf y q.root → ⊥
            by (AVariable v) r = no_call_of_variable v k (sym e ∙ r)
            by (ACollection c) r = let h : OfCall k ≡ OfCollection c r.0 = sym e ∙ r.1 in cc

        keeps : (v : Variable) → KeepsBounds locals act v → KeepsBounds locals (record act { running = Bound is_var x q s s'.aliases ∷ act.running }) v
        keeps (Global v) h = h
        keeps (Local v) h = tt

        -- what a routine touches is no name of an activation
        called_no_name : (call : Call) (p : ℕ) → (hide program may is_var x subject).calls call → Contains (called_by call) p → (y : Subject) (r : Root) → Touches program p y → RootOf y r → r ≢ OfActivation x
        called_no_name call p h i (AVariable (Global v)) r touch e same = let g : OfProgram v ≡ OfActivation x = sym e ∙ same in cc
        called_no_name call p h i (AVariable (Local v)) r touch e same = elim touch [ inl m ↦ (let g : false ≡ true = m.0 in cc) | inr m ↦ (let g : false ≡ true = m.0 in cc) ]
        called_no_name call p h i (ACollection c) r touch e same = let g : OfCollection c e.0 ≡ OfActivation x = sym e.1 ∙ same in cc

        closes : (b : Bool) → (b ≡ true → IsFree locals subject) → (z : Store) → ((v : Variable) (w : ℤ) → known locals v ≡ Some w → IsUnsetOr (fetch z (place_of (root_of v)) []) w) → (v : Variable) (w : ℤ) → known locals v ≡ Some w → IsUnsetOr (fetch (by_copying.unbind b x q s z) (place_of (root_of v)) []) w
        closes false free z h = constants_held locals z (OfActivation x) _ (unknown_apart (Local x) well.2) h
        closes true free z h = constants_held locals _ (OfActivation x) _ (unknown_apart (Local x) well.2) (constants_assign locals z q _ (free_apart locals subject q.root (free refl) root) h)

        kept : (b : Bool) (z : Store) → act.Bounds (λ v. (z.globals v).bounds) → act.Bounds (λ v. ((by_copying.unbind b x q s z).globals v).bounds)
        kept false z h = h
        kept true z h = subst act.Bounds (fun_ext (λ v. sym (bounds_assign z q _ (OfProgram v)))) h

    pub kept_by : Kept by_copying by_reference t program words (known locals) Activation (Allowed locals) (Stores locals) CanRead n perform perform'
    kept_by = record {
      related = evaluates;
      bounds = λ act root s s' st. related_bounds act.running s s'.stores s'.aliases root st.related ∙ ap (λ d. bounds_in s'.stores d s'.aliases root) (sym st.deep);
      fetch = λ act q s s' good st. related_fetch act.running s s'.stores s'.aliases q.root q.way st.related good ∙ ap (λ d. fetch_at s'.stores (locate_root d s'.aliases q.root q.way)) (sym st.deep);
      assign = λ act may ok x h q root content s s' st. stores_assign locals act q content s s' (ok.writes x q.root h root) (free_apart locals x q.root (ok.free x h) root) st;
      assign_result = λ act may ok k q root content s s' st. stores_assign locals act q content s s' (subst (MayWrite act.running) (sym root) (write_of_declare act.running (OfCall k) (ok.results k))) (λ x z e f. no_call_of_variable x k (sym root ∙ f)) st;
      declare = λ act may ok v h g s s' st. let one = ok.declares v h in stores_declare locals act (root_of v) g s s' one.0 (constants_held locals s (root_of v) g (unknown_apart v one.1) st.constants) (bounds_declared locals act v g s one.2 st.bounds) st;
      begin = λ act may ok v h content s s' st. let one = ok.declares v h in stores_assign locals act (place_of (root_of v)) content s s' (write_of_declare act.running (root_of v) one.0) (unknown_apart v one.1) st;
      define = λ act may ok d h content is s s' st. let one = ok.defines d h in stores_declare locals act (root_of d.name) (holds content) s s' one.0 (constants_define d content s one.1 is st.constants) (bounds_declared locals act d.name (holds content) s one.2 st.bounds) st;
      element = λ act may ok j h k s s' st. stores_declare locals act (OfCollection j k) holds_nothing s s' (declare_of_write act.running j k (ok.writes (ACollection j) (OfCollection j k) h (k, refl))) (constants_held locals s (OfCollection j k) holds_nothing (collection_apart j k) st.constants) st.bounds st;
      has_subject = λ act may ok x path h. the_subject path (ok.binds x path h).0;
      binds = binds;
    }

  -- ---- the induction over calls

  module _ (locals : ℕ → Option ℤ) where
    -- the activation of a call that begins in s
    abbrev callee_act : Activation → List Actual → Store → Aliases → Activation
    callee_act act given s aliases = record { running = Called given s aliases ∷ act.running; Bounds = λ f. (x : ℕ) → f x ≡ (s.globals x).bounds }

  module _ (typed : IsTyped program) (rules : KeepsTheRules program) (known_globals : typed.globals ≡ globals) (good : (g : ℕ) (r : Routine) → slice_get program.routines g ≡ Some r → (act : Act) → Contains (routine_acts r) act → IsGood (names_of program r Nothing false) act)
      (names_result : (g : ℕ) (r : Routine) → slice_get program.routines g ≡ Some r → (x : ℕ) → r.result ≡ Some x → (has_some is_own (local_name (names_of program r Nothing false) x) ≡ true) × (has_some is_declared (local_name (names_of program r Nothing false) x) ≡ false)) where
    text_typed : (g : ℕ) (r : Routine) → slice_get program.routines g ≡ Some r → TextIsTyped (names_of program r Nothing false) true (known (typed.locals g)) (routine_acts r)
    text_typed g r e = subst (λ z. TextIsTyped (names_of program r Nothing false) true (known_in z (typed.locals g)) (routine_acts r)) known_globals (typed.routines g r e)

    -- an own name of a routine
    own_name : (r : Routine) (x : ℕ) → has_some is_own (local_name (names_of program r Nothing false) x) ≡ true → slice_get r.formals x ≡ None
    own_name r x e = no_formal (names_of program r Nothing false) x is_own e

    -- the result's name is one of the text's own
    pub result_declares : (g : ℕ) (r : Routine) → slice_get program.routines g ≡ Some r → (x : ℕ) → r.result ≡ Some x → (leave_of program g r (known (typed.locals g))).declares (Local x)
    result_declares g r there x e =
        let own = names_result g r there x e in
        ((unknown (typed.locals g x) refl own.1, ap is_constant (own_name r x own.0)), own.0)
      where
        unknown : (o : Option ℤ) → typed.locals g x ≡ o → has_some is_declared (local_name (names_of program r Nothing false) x) ≡ false → typed.locals g x ≡ None
        unknown None e none = e
        unknown (Some z) e none = absurd (let so = (text_typed g r there).declared x (λ f. let h : Some z ≡ None = sym e ∙ f in cc) in let both : true ≡ false = sym so ∙ none in cc)

    module _ (n : ℕ) (perform : Performs Store) (perform' : Performs Cells) (same : CallsAlike n perform perform') (locals : ℕ → Option ℤ) (act : Activation) (may : Leave) (ok : Allowed locals act may) (bounds : Variable → List ℤ) (callee : ℕ) (actuals : Actuals) (given : List Actual)
        (reads : (y : Subject) (r : Root) → Touches program callee y → RootOf y r → MayRead act.running r) (writes : (y : Subject) (r : Root) → Writes program callee y → RootOf y r → MayWrite act.running r)
        (safe : CallSafe program (known locals) callee actuals) (fit : LendsFit may actuals) (found : AreFound program.shapes bounds (λ q. CanRead act q.root) actuals given) (passed : Passed given (pairs_of actuals)) (r : Routine) (there : slice_get program.routines callee ≡ Some r) where
      abbrev its : ℕ → Option ℤ
      its = typed.locals callee

      apart : AllApart given
      apart = all_apart program.shapes bounds (known locals) (λ q. CanRead act q.root) actuals given safe.lends safe.none_shared passed found

      no_var_given : (y : Subject) (q : Root) → Touches program callee y → RootOf y q → NoVar given q
      no_var_given y q h root = no_var program.shapes bounds (λ q. CanRead act q.root) (known locals) q actuals given (var_apart program callee y q actuals h root safe.none_imported) safe.lends found

      no_lent_given : (y : Subject) (q : Root) → ((k : ℕ) → OfCall k ≢ q) → Writes program callee y → RootOf y q → NoLent given q
      no_lent_given y q calls' h root = no_lent program.shapes bounds (λ q. CanRead act q.root) q actuals given calls' (any_apart program callee y q actuals h root safe.none_imported) found

      -- no constant of the caller is lent as `var`
      no_constant : (x : Variable) (z : ℤ) → known locals x ≡ Some z → NoVar given (root_of x)
      no_constant x z e = no_var program.shapes bounds (λ q. CanRead act q.root) (known locals) (root_of x) actuals given (var_apart_by may (root_of x) actuals (λ y w q root. free_apart locals y q (ok.free y w) root x z e) fit) safe.lends found

      modes : ModesFit r.formals actuals
      modes = safe.modes r there

      owned : (x : ℕ) → has_some is_own (local_name (names_of program r Nothing false) x) ≡ true → Owned given x
      owned x e = (is_owned program.shapes bounds (λ q. CanRead act q.root) r.formals actuals given x (own_name r x e) modes found).0

      program_no_call : (x k : ℕ) → OfCall k ≢ OfProgram x
      program_no_call x k e = let h : OfCall k ≡ OfProgram x = e in cc

      collection_no_call : (c j k : ℕ) → OfCall k ≢ OfCollection c j
      collection_no_call c j k e = let h : OfCall k ≡ OfCollection c j = e in cc

      allowed : (s : Store) (aliases : Aliases) → Allowed its (callee_act locals act given s aliases) (leave_of program callee r (known its))
      allowed s aliases = record {
        reads = may_read;
        writes = may_write;
        free = is_free;
        declares = λ v h. (may_declare v h.1, is_unknown v h.0, keeps v h.1);
        defines = λ d h. (may_declare d.name h.0, h.1, keeps d.name h.0);
        results = λ k. tt;
        reads_called = λ call p h i y q touch root. may_read' y q (touches_by call p (h.0 p i) y touch) root;
        writes_called = λ call p h i y q write root. may_write' y q (writes_by_call program callee p y (h.0 p i) write) root;
        safe = λ call h. h.1;
        binds = λ x path h. h;
      }
        where
          touches_by : (call : Call) (p : ℕ) → CallsOne program callee p → (y : Subject) → Touches program p y → Touches program callee y
          touches_by call p one y (inl h) = inl (reads_by_call program callee p y one h)
          touches_by call p one y (inr h) = inr (writes_by_call program callee p y one h)

          may_read' : (y : Subject) (q : Root) → Touches program callee y → RootOf y q → MayRead (Called given s aliases ∷ act.running) q
          may_read' (AVariable (Global x)) q h root = subst (MayRead (Called given s aliases ∷ act.running)) (sym root) (no_var_given (AVariable (Global x)) (OfProgram x) h refl, reads (AVariable (Global x)) (OfProgram x) h refl)
          may_read' (AVariable (Local x)) q h root = subst (MayRead (Called given s aliases ∷ act.running)) (sym root) tt
          may_read' (ACollection c) q h root = subst (MayRead (Called given s aliases ∷ act.running)) (sym root.1) (no_var_given (ACollection c) (OfCollection c root.0) h (root.0, refl), reads (ACollection c) (OfCollection c root.0) h (root.0, refl))

          may_read : (y : Subject) (q : Root) → (leave_of program callee r (known its)).reads y → RootOf y q → MayRead (Called given s aliases ∷ act.running) q
          may_read (AVariable (Global x)) q h root = may_read' (AVariable (Global x)) q h root
          may_read (AVariable (Local x)) q h root = subst (MayRead (Called given s aliases ∷ act.running)) (sym root) tt
          may_read (ACollection c) q h root = may_read' (ACollection c) q h root

          may_write' : (y : Subject) (q : Root) → Writes program callee y → RootOf y q → MayWrite (Called given s aliases ∷ act.running) q
          may_write' (AVariable (Global x)) q h root = subst (MayWrite (Called given s aliases ∷ act.running)) (sym root) (no_lent_given (AVariable (Global x)) (OfProgram x) (program_no_call x) h refl, writes (AVariable (Global x)) (OfProgram x) h refl)
          may_write' (AVariable (Local x)) q h root = absurd (let g : false ≡ true = h.0 in cc)
          may_write' (ACollection c) q h root = subst (MayWrite (Called given s aliases ∷ act.running)) (sym root.1) (no_lent_given (ACollection c) (OfCollection c root.0) (collection_no_call c root.0) h (root.0, refl), writes (ACollection c) (OfCollection c root.0) h (root.0, refl))

          may_write : (y : Subject) (q : Root) → (leave_of program callee r (known its)).writes y → RootOf y q → MayWrite (Called given s aliases ∷ act.running) q
          may_write (AVariable (Global x)) q h root = may_write' (AVariable (Global x)) q h.0 root
          may_write (AVariable (Local x)) q h root = subst (MayWrite (Called given s aliases ∷ act.running)) (sym root) (not_const program.shapes bounds (λ q. CanRead act q.root) r.formals actuals given x h.1 modes found)
          may_write (ACollection c) q h root = may_write' (ACollection c) q h root

          is_free : (y : Subject) → (leave_of program callee r (known its)).writes y → IsFree its y
          is_free (AVariable (Global x)) h = h.1
          is_free (AVariable (Local x)) h = h.0
          is_free (ACollection c) h = tt

          is_unknown : (v : Variable) → IsVariable (names_of program r Nothing false) true (known its) v → known its v ≡ None
          is_unknown (Global x) h = h
          is_unknown (Local x) h = h.0

          may_declare : (v : Variable) → IsOwn (names_of program r Nothing false) true (known its) v → MayDeclare (Called given s aliases ∷ act.running) (root_of v)
          may_declare (Global x) h = absurd (let g : true ≡ false = h in cc)
          may_declare (Local x) h = owned x h

          keeps : (v : Variable) → IsOwn (names_of program r Nothing false) true (known its) v → KeepsBounds its (callee_act locals act given s aliases) v
          keeps (Global x) h = absurd (let g : true ≡ false = h in cc)
          keeps (Local x) h = tt

      -- the formals receive their actuals
      enters : (s : Store) (s' : Cells) → Stores locals act s s' → Stores its (callee_act locals act given s s'.aliases) (by_copying.enter given s) (by_reference.enter given s')
      enters s s' st = record {
        related = subst (λ d. Related (Called given s s'.aliases ∷ act.running) (by_copying.enter given s) (changed_at s'.stores (suc d) (entered given)) (alias_formals d s'.aliases given)) (sym st.deep)
            (related_enter act.running s s'.stores s'.aliases given st.related apart (may_lend program.shapes bounds may (known locals) act.running actuals given (λ y w q root. ok.writes y q w root) fit safe.lends found));
        deep = ap suc st.deep;
        constants = constant;
        bounds = λ x. refl;
      }
        where
          constant : (x : Variable) (z : ℤ) → known its x ≡ Some z → IsUnsetOr (fetch (by_copying.enter given s) (place_of (root_of x)) []) z
          constant (Global x) z e = st.constants (Global x) z e
          constant (Local x) z e =
              let declared = (text_typed callee r there).declared x (λ f. let h : Some z ≡ None = sym e ∙ f in cc) in
              let unset' = (is_owned program.shapes bounds (λ q. CanRead act q.root) r.formals actuals given x (no_formal (names_of program r Nothing false) x is_declared declared) modes found).1 s in
              inl (ap (λ h. h.content []) unset')

      -- and the caller goes on
      leaves : (s : Store) (s' : Cells) (z : Store) (z' : Cells) → Stores locals act s s' → ((x : Variable) → by_copying.bounds s (root_of x) ≡ bounds x) → Stores its (callee_act locals act given s s'.aliases) z z' → Stores locals act (by_copying.leave given s z) (by_reference.leave given s' z') × ((x : Variable) → by_copying.bounds (by_copying.leave given s z) (root_of x) ≡ bounds x)
      leaves s s' z z' st known_bounds inside = (
        record {
          related = inside.related.1;
          deep = st.deep;
          constants = constant;
          bounds = subst act.Bounds (fun_ext (λ x. sym (back_bounds z (with_names_of s z) 0 (OfProgram x) given ∙ inside.bounds x))) st.bounds;
        },
        bound,
      )
        where
          constant : (x : Variable) (w : ℤ) → known locals x ≡ Some w → IsUnsetOr (fetch (by_copying.leave given s z) (place_of (root_of x)) []) w
          constant x w e = subst (λ c. IsUnsetOr (c []) w) (sym (back_fetch z (with_names_of s z) 0 false (place_of (root_of x)) given (away_of_var (place_of (root_of x)) given (no_constant x w e)))) (by x e)
            where
              by : (x : Variable) → known locals x ≡ Some w → IsUnsetOr (fetch (with_names_of s z) (place_of (root_of x)) []) w
              by (Global x) e = inside.constants (Global x) w e
              by (Local x) e = st.constants (Local x) w e

          bound : (x : Variable) → by_copying.bounds (by_copying.leave given s z) (root_of x) ≡ bounds x
          bound (Global x) = back_bounds z (with_names_of s z) 0 (OfProgram x) given ∙ inside.bounds x ∙ known_bounds (Global x)
          bound (Local x) = back_bounds z (with_names_of s z) 0 (OfActivation x) given ∙ known_bounds (Local x)

      names : (s : Store) (aliases : Aliases) → (o : Option ℕ) → r.result ≡ o → NamesResult by_copying by_reference t program words (known its) Activation (Allowed its) (Stores its) CanRead n perform perform' (kept_by n perform perform' same its) (callee_act locals act given s aliases) (leave_of program callee r (known its)) (allowed s aliases) o
      names s aliases None e = tt
      names s aliases (Some x) e = result_declares callee r there x e

      activation_alike : (line : ℕ) → Keeps Store Cells t (Evaluating by_copying by_reference t program words (known locals) Activation (Allowed locals) (Stores locals) CanRead act bounds) n Back Any (activation Store by_copying t program words n perform line given (Some r)) (activation Cells by_reference t program words n perform' line given (Some r))
      activation_alike line = sim_scope _ _ _ _ (λ s s' e. e) (λ o s o' s' outer e. e) (λ o s o' s' outer e. e) (sim_room _ line (λ s s' e. e) ▹ λ _. receive_all_alike by_copying by_reference t program words n line r.formals given ▹ λ _. sim_at λ s s' e.
          let inner = callee_act locals act given s s'.aliases in
          sim_scope {Outer = Evaluates' n perform perform' same locals act bounds} {Inner = Stores its inner} {R = λ z z'. (z ≡ s) × (z' ≡ s')} {T = Stores its inner} {U = Stores its inner} {V = Evaluates' n perform perform' same locals act bounds} {Q = Any} (by_copying.enter given) (by_copying.leave given) (by_reference.enter given) (by_reference.leave given)
          (λ z z' is. subst (λ y. Stores its inner (by_copying.enter given z) (by_reference.enter given y)) (sym is.1) (subst (λ y. Stores its inner (by_copying.enter given y) (by_reference.enter given s')) (sym is.0) (enters s s' e.0)))
          (λ o z o' z' is h. subst (λ y. Evaluates' n perform perform' same locals act bounds (by_copying.leave given o z) (by_reference.leave given y z')) (sym is.1) (subst (λ y. Evaluates' n perform perform' same locals act bounds (by_copying.leave given y z) (by_reference.leave given s' z')) (sym is.0) (leaves s s' z z' e.0 e.1 h)))
          (λ o z o' z' is h. subst (λ y. Evaluates' n perform perform' same locals act bounds (by_copying.leave given o z) (by_reference.leave given y z')) (sym is.1) (subst (λ y. Evaluates' n perform perform' same locals act bounds (by_copying.leave given y z) (by_reference.leave given s' z')) (sym is.0) (leaves s s' z z' e.0 e.1 h)))
          (sim_run_routine by_copying by_reference t program words (known its) Activation (Allowed its) (Stores its) CanRead n perform perform' (kept_by n perform perform' same its) inner (leave_of program callee r (known its)) (allowed s s'.aliases) r (names s s'.aliases r.result refl)
          (routine_fits program rules globals its callee r there (text_typed callee r there) (good callee r there)).1))

    pub activation_of : (n : ℕ) (perform : Performs Store) (perform' : Performs Cells) → CallsAlike n perform perform' → (locals : ℕ → Option ℤ) (act : Activation) (may : Leave) → Allowed locals act may → (bounds : Variable → List ℤ) (line callee : ℕ) (actuals : Actuals) (given : List Actual) →
        ((y : Subject) (r : Root) → Touches program callee y → RootOf y r → MayRead act.running r) → ((y : Subject) (r : Root) → Writes program callee y → RootOf y r → MayWrite act.running r) →
        CallSafe program (known locals) callee actuals → LendsFit may actuals → AreFound program.shapes bounds (λ q. CanRead act q.root) actuals given → Passed given (pairs_of actuals) → (o : Option Routine) → slice_get program.routines callee ≡ o →
        Keeps Store Cells t (Evaluating by_copying by_reference t program words (known locals) Activation (Allowed locals) (Stores locals) CanRead act bounds) n Back Any (activation Store by_copying t program words n perform line given o) (activation Cells by_reference t program words n perform' line given o)
    activation_of n perform perform' same locals act may ok bounds line callee actuals given reads writes safe fit found passed None e = sim_lost
    activation_of n perform perform' same locals act may ok bounds line callee actuals given reads writes safe fit found passed (Some r) e = activation_alike n perform perform' same locals act may ok bounds callee actuals given reads writes safe fit found passed r e line

    pub calls_alike : (n : ℕ) → CallsAlike n (calls Store by_copying t program words n) (calls Cells by_reference t program words n)
    calls_alike zero = record { alike = λ locals act may ok bounds line callee actuals given reads writes safe fit found passed. sim_stop }
    calls_alike (suc n) = record {
      alike = λ locals act may ok bounds line callee actuals given reads writes safe fit found passed.
          sim_turn (omega arith) λ _. activation_of n _ _ (calls_alike n) locals act may ok bounds line callee actuals given reads writes safe fit found passed (slice_get program.routines callee) refl;
    }
