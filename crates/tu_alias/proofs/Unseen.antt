-- What a routine neither reads nor changes it does not see.
use Rattle.std.proofs.Common.{◌≡◌, ◌≢◌, ℕ, zero, suc, ◌≤◌, ◌<◌, ◌+◌, Bool, true, false, List, [], ◌∷◌, ◌⊎◌, inl, inr, Option, Some, None, refl, sym, ◌∙◌, ap, subst, arith}
use Rattle.std.specs.Prelude.{ℤ, slice_get, is_some}
use Rattle.std.specs.List.{Contains}
use Rattle.tu_base.specs.Values.{Content, part, with_part}
use Rattle.tu_core.specs.Core.{Path, Call, Calls, Named, Routine, Program}
use Rattle.tu_core.specs.declared.names.Variable.{Variable}
use Rattle.tu_core.specs.declared.names.Variable.TheVariants.{Global, Local}
use Rattle.tu_core.specs.declared.names.CallResult.TheVariants.{Nothing}
use Rattle.tu_core.specs.Places.{names_of}
use Rattle.tu_core.specs.WellFormed.{is_well_formed}
use Rattle.tu_core.specs.Acts.{Subject, AVariable, ACollection, subject_of}
use Rattle.tu_core.specs.Effects.{is_outer, called_by, CallsOne}
use Rattle.tu_core.specs.Rules.{KeepsTheRules}
use Rattle.tu_core.specs.Constants.{Known, known_in}
use Rattle.tu_core.specs.Typed.{IsOwn, IsTyped}
use Rattle.tu_core.proofs.WellTyped.{well_formed_is_typed}
use Rattle.tu_meaning.specs.Steps.{Added, State, Outcome, Done, Raised, Going, NoRule}
use Rattle.tu_meaning.specs.Store.{Root, OfProgram, OfActivation, OfCall, OfCollection, Place, place_of, Held, holds, holds_nothing, Actual, GivenValue, LentPlace, Store, held, with_held, fetch, assign, formals, copied, copied_back, with_names_of, by_copying}
use Rattle.tu_meaning.specs.Words.{Back}
use Rattle.tu_meaning.specs.Expressions.{root_of, Performs}
use Rattle.tu_meaning.specs.Subprograms.{activation, run_routine, calls}
use Rattle.tu_meaning.proofs.Alike.{Alike, IsOut, with_store, sim_lost, sim_stop, sim_turn, sim_room, sim_scope}
use Rattle.tu_meaning.proofs.WordForms.{Any}
use Rattle.tu_alias.specs.Unseen.{subject_at, DifferAt, EndAlike, NothingLentIsSeen}
use Rattle.tu_alias_store.proofs.Stores.{held_same, held_other, bounds_assign, same_root_or_not}
use Rattle.tu_alias_store.proofs.Lent.{back_bounds}
use Rattle.tu_alias_forms.proofs.Fits.{Leave, Touches, same_subject_or_not}
use Rattle.tu_alias_forms.proofs.Words.{Keeps, ◌▹◌}
use Rattle.tu_alias_forms.proofs.Expressions.{RootOf, AllLent, Related as Evaluates}
use Rattle.tu_alias_forms.proofs.Statements.{Evaluating, Scoped, Kept, NamesResult, sim_run_routine}
use Rattle.tu_alias_texts.proofs.Reached.{reads_by_call, writes_by_call}
use Rattle.tu_alias_texts.proofs.Fitting.{leave_of, routine_fits}
use Rattle.tu_alias.proofs.Received.{receive_all_alike, the_subject}
use Rattle.tu_alias.proofs.ByReference.{result_declares}
use Rattle.tu_alias.proofs.Meanings.{acts_good, names_result}

subject_of_root : (y : Subject) (r : Root) → RootOf y r → subject_at r ≡ Some y
subject_of_root (AVariable (Global y)) r e = subst (λ z. subject_at z ≡ Some (AVariable (Global y))) (sym e) refl
subject_of_root (AVariable (Local y)) r e = subst (λ z. subject_at z ≡ Some (AVariable (Local y))) (sym e) refl
subject_of_root (ACollection c) r e = subst (λ z. subject_at z ≡ Some (ACollection c)) (sym e.1) refl

is_or_not : (o : Option Subject) (x : Subject) → (o ≡ Some x) ⊎ (o ≢ Some x)
is_or_not None x = inr (λ e. let h : None ≡ Some x = e in cc)
is_or_not (Some y) x = elim (same_subject_or_not y x) [ inl e ↦ inl (ap Some e) | inr ne ↦ inr (λ e. ne (let h : Some y ≡ Some x = e in let g : y ≡ x = cc in g)) ]

-- x is no name of an activation, and holds the two contents in these two stores; no array has other bounds in the one than in the other
module _ (x : Subject) (outer : is_outer x ≡ true) (before before' : Store) (same_bounds : (r : Root) → (held before r).bounds ≡ (held before' r).bounds) where
  abbrev R : Store → Store → Type 0
  R s s' = DifferAt x before before' s s'

  abbrev IsApart : Root → Type 0
  IsApart r = subject_at r ≢ Some x

  apart_of : (y : Subject) (r : Root) → y ≢ x → RootOf y r → IsApart r
  apart_of y r ne is e = ne (let h : Some y ≡ Some x = sym (subject_of_root y r is) ∙ e in let g : y ≡ x = cc in g)

  no_local : (y : ℕ) → AVariable (Local y) ≢ x
  no_local y e = let h : false ≡ true = ap is_outer e ∙ outer in cc

  no_name : (y : ℕ) → IsApart (OfActivation y)
  no_name y = apart_of (AVariable (Local y)) (OfActivation y) (no_local y) refl

  no_result : (k : ℕ) → IsApart (OfCall k)
  no_result k e = let h : None ≡ Some x = e in cc

  -- ---- changes elsewhere

  held_alike : (q : Root) (h h' : Held) (s s' : Store) → IsApart q → h ≡ h' → ((y : ℕ) → (held (with_held s q h) (OfProgram y)).bounds ≡ (held s (OfProgram y)).bounds) → R s s' → R (with_held s q h) (with_held s' q h')
  held_alike q h h' s s' apart e bounds d = record {
    same = λ r ne. elim (same_root_or_not q r) [
      | inl is ↦ subst (λ z. held (with_held s q h) z ≡ held (with_held s' q h') z) is (held_same s q h ∙ e ∙ sym (held_same s' q h'))
      | inr other ↦ held_other s q r h other ∙ d.same r ne ∙ sym (held_other s' q r h' other)
    ];
    kept = λ r is. held_other s q r h (λ e. apart (ap subject_at e ∙ is)) ∙ d.kept r is;
    kept' = λ r is. held_other s' q r h' (λ e. apart (ap subject_at e ∙ is)) ∙ d.kept' r is;
    bounds = λ y. bounds y ∙ d.bounds y;
  }

  fetch_alike : (q : Place) (s s' : Store) → IsApart q.root → R s s' → fetch s q ≡ fetch s' q
  fetch_alike q s s' apart d = ap (λ h. part h.content q.way) (d.same q.root apart)

  copied_alike : (q : Place) (s s' : Store) → IsApart q.root → R s s' → copied s q ≡ copied s' q
  copied_alike q s s' apart d = ap (λ (h : Held). record { content = part h.content q.way; bounds = elim q.way [ [] ↦ h.bounds | k ∷ way ↦ [] ] }) (d.same q.root apart)

  assign_alike : (q : Place) (c c' : Content) (s s' : Store) → IsApart q.root → c ≡ c' → R s s' → R (assign s q c) (assign s' q c')
  assign_alike q c c' s s' apart e d =
      held_alike q.root _ _ s s' apart (ap (λ (h : Held). record h { content = with_part h.content q.way c }) (d.same q.root apart) ∙ ap (λ z. record (held s' q.root) { content = with_part (held s' q.root).content q.way z }) e) (λ y. bounds_assign s q c (OfProgram y)) d

  name_alike : (y : ℕ) (h h' : Held) (s s' : Store) → h ≡ h' → R s s' → R (with_held s (OfActivation y) h) (with_held s' (OfActivation y) h')
  name_alike y h h' s s' e d = held_alike (OfActivation y) h h' s s' (no_name y) e (λ z. refl) d

  formals_alike : (given : List Actual) (y : ℕ) (s s' : Store) → AllLent IsApart given → R s s' → formals s given y ≡ formals s' given y
  formals_alike [] y s s' all d = refl
  formals_alike (GivenValue bounds v ∷ more) zero s s' all d = refl
  formals_alike (LentPlace is_var bounds q ∷ more) zero s s' all d = ap (λ c. record { content = c; bounds = bounds }) (fetch_alike q s s' all.0 d)
  formals_alike (GivenValue bounds v ∷ more) (suc y) s s' all d = formals_alike more y s s' all d
  formals_alike (LentPlace is_var bounds q ∷ more) (suc y) s s' all d = formals_alike more y s s' all.1 d

  -- other names of the activation
  names_alike : (f f' g g' : ℕ → Held) (s s' : Store) → ((y : ℕ) → f y ≡ f' y) → ((y : ℕ) → g y ≡ g' y) → R s s' → R (record s { locals = f; temporaries = g }) (record s' { locals = f'; temporaries = g' })
  names_alike f f' g g' s s' e e' d = record { same = same; kept = kept; kept' = kept'; bounds = d.bounds }
    where
      same : (r : Root) → IsApart r → held (record s { locals = f; temporaries = g }) r ≡ held (record s' { locals = f'; temporaries = g' }) r
      same (OfProgram y) ne = d.same (OfProgram y) ne
      same (OfActivation y) ne = e y
      same (OfCall k) ne = e' k
      same (OfCollection c k) ne = d.same (OfCollection c k) ne

      kept : (r : Root) → subject_at r ≡ Some x → held (record s { locals = f; temporaries = g }) r ≡ held before r
      kept (OfProgram y) is = d.kept (OfProgram y) is
      kept (OfActivation y) is = absurd (no_name y is)
      kept (OfCall k) is = absurd (no_result k is)
      kept (OfCollection c k) is = d.kept (OfCollection c k) is

      kept' : (r : Root) → subject_at r ≡ Some x → held (record s' { locals = f'; temporaries = g' }) r ≡ held before' r
      kept' (OfProgram y) is = d.kept' (OfProgram y) is
      kept' (OfActivation y) is = absurd (no_name y is)
      kept' (OfCall k) is = absurd (no_result k is)
      kept' (OfCollection c k) is = d.kept' (OfCollection c k) is

  back_alike : (given : List Actual) (i : ℕ) (ended ended' s s' : Store) → AllLent IsApart given → R ended ended' → R s s' → R (copied_back given i ended s) (copied_back given i ended' s')
  back_alike [] i ended ended' s s' all e d = d
  back_alike (GivenValue bounds v ∷ more) i ended ended' s s' all e d = back_alike more (suc i) ended ended' s s' all e d
  back_alike (LentPlace false bounds q ∷ more) i ended ended' s s' all e d = back_alike more (suc i) ended ended' s s' all.1 e d
  back_alike (LentPlace true bounds q ∷ more) i ended ended' s s' all e d = back_alike more (suc i) ended ended' _ _ all.1 e (assign_alike q _ _ s s' all.0 (ap (λ h. h.content) (e.same (OfActivation i) (no_name i))) d)

  enter_alike : (given : List Actual) (s s' : Store) → AllLent IsApart given → R s s' → R (by_copying.enter given s) (by_copying.enter given s')
  enter_alike given s s' all d = names_alike _ _ _ _ s s' (λ y. formals_alike given y s s' all d) (λ k. refl) d

  leave_alike : (given : List Actual) (s s' z z' : Store) → AllLent IsApart given → R s s' → R z z' → R (by_copying.leave given s z) (by_copying.leave given s' z')
  leave_alike given s s' z z' all d e = back_alike given 0 z z' (with_names_of s z) (with_names_of s' z') all e (names_alike _ _ _ _ z z' (λ y. d.same (OfActivation y) (no_name y)) (λ k. d.same (OfCall k) (no_result k)) e)

  bounds_alike : (r : Root) (s s' : Store) → R s s' → by_copying.bounds s r ≡ by_copying.bounds s' r
  bounds_alike r s s' d = elim (is_or_not (subject_at r) x) [
    | inl is ↦ ap (λ h. h.bounds) (d.kept r is) ∙ same_bounds r ∙ sym (ap (λ h. h.bounds) (d.kept' r is))
    | inr ne ↦ ap (λ h. h.bounds) (d.same r ne)
  ]

  -- ---- what a text must keep to

  module _ (program : Program) (words : List ℕ) (t : ℕ) where
    abbrev nothing_known : Known
    nothing_known v = None

    pub record Blind (may : Leave) : Type 0 where
      pub reads : (y : Subject) → may.reads y → y ≢ x
      pub writes : (y : Subject) → may.writes y → y ≢ x
      pub declares : (v : Variable) → may.declares v → (y : ℕ) × (v ≡ Local y)
      pub defines : (d : Named) → may.defines d → (y : ℕ) × (d.name ≡ Local y)
      pub called : (call : Call) (p : ℕ) → may.calls call → Contains (called_by call) p → Touches program p x → ⊥
      pub binds : (name : ℕ) (path : Path) → may.binds name path → is_some (subject_of path) ≡ true

    abbrev Allows : Unit {1} → Leave → Type 0
    Allows c may = Blind may

    abbrev Differ : Unit {1} → Store → Store → Type 0
    Differ c s s' = R s s'

    abbrev Sees : Unit {1} → Root → Type 0
    Sees c r = IsApart r

    abbrev Evaluates' : (Variable → List ℤ) → Store → Store → Type 0
    Evaluates' bounds s s' = R s s' × ((v : Variable) → by_copying.bounds s (root_of v) ≡ bounds v)

    pub record CallsBlind (n : ℕ) (perform : Performs Store) : Type 0 where
      pub alike : (bounds : Variable → List ℤ) (line callee : ℕ) (given : List Actual) → (Touches program callee x → ⊥) → AllLent IsApart given → Keeps Store Store t (Evaluates' bounds) n Back Any (perform line callee given) (perform line callee given)

    module _ (n : ℕ) (perform : Performs Store) (blind : CallsBlind n perform) where
      bounds_of_result : (s : Store) (k : ℕ) (h : Held) (v : Variable) → (held (with_held s (OfCall k) h) (root_of v)).bounds ≡ (held s (root_of v)).bounds
      bounds_of_result s k h (Global v) = refl
      bounds_of_result s k h (Local v) = refl

      evaluates : (c : Unit {1}) (may : Leave) → Blind may → (bounds : Variable → List ℤ) → Evaluates by_copying by_copying t program n perform perform may nothing_known bounds (Sees c) (Evaluating by_copying by_copying t program words nothing_known (Unit {1}) Allows Differ Sees c bounds)
      evaluates c may ok bounds = record {
        fetch = λ q s s' good e. fetch_alike q s s' good e.0;
        bounds = λ r s s' e. bounds_alike r s s' e.0;
        bounds_are = λ v s s' e. e.1 v;
        reads = λ y r h is. apart_of y r (ok.reads y h) is;
        writes = λ y r h is. apart_of y r (ok.writes y h) is;
        results = no_result;
        stores_result = λ k content s s' e. (held_alike (OfCall k) (holds content) (holds content) s s' (no_result k) refl (λ y. refl) e.0, λ v. bounds_of_result s k (holds content) v ∙ e.1 v);
        constants = λ v z s s' h e. absurd (let g : None ≡ Some z = h in cc);
        performs = λ line at callee invariant actuals given can fit lent found passed. blind.alike bounds line callee given (ok.called (Calls at callee invariant actuals) callee can (0, omega arith, refl)) lent;
        keeps = λ line at callee m actuals can. blind.alike bounds line m [] (ok.called (Calls at callee (Some m) actuals) m can (1, omega arith, refl)) tt;
      }

      declares_alike : (v : Variable) → (y : ℕ) × (v ≡ Local y) → (h : Held) (s s' : Store) → R s s' → R (with_held s (root_of v) h) (with_held s' (root_of v) h)
      declares_alike v is h s s' d = subst (λ z. R (with_held s (root_of z) h) (with_held s' (root_of z) h)) (sym is.1) (name_alike is.0 h h s s' refl d)

      binds_alike : (may : Leave) → Blind may → (is_var : Bool) (name : ℕ) (path : Path) (q : Place) (subject : Subject) → (is_var ≡ true → may.writes subject) → IsApart q.root → (s s' : Store) → R s s' → Scoped by_copying by_copying t program words nothing_known (Unit {1}) Allows Differ Sees tt may is_var name q subject s s'
      binds_alike may ok is_var name path q subject w apart s s' d = record {
        inner = tt;
        allows = record {
          reads = λ y h e. elim h [ inl i ↦ no_local name (sym i ∙ e) | inr m ↦ ok.reads y m.0 e ];
          writes = λ y h e. elim h [ inl i ↦ no_local name (sym i.0 ∙ e) | inr m ↦ ok.writes y m.0 e ];
          declares = λ v h. ok.declares v h.0;
          defines = λ v h. ok.defines v h.0;
          called = λ call p h i touch. ok.called call p h.0 i touch;
          binds = ok.binds;
        };
        opened = name_alike name _ _ s s' (copied_alike q s s' apart d) d;
        closed = closes is_var;
      }
        where
          closes : (b : Bool) (z z' : Store) → R z z' → R (by_copying.unbind b name q s z) (by_copying.unbind b name q s' z')
          closes false z z' e = name_alike name _ _ z z' (d.same (OfActivation name) (no_name name)) e
          closes true z z' e = name_alike name _ _ _ _ (d.same (OfActivation name) (no_name name)) (assign_alike q _ _ z z' apart (ap (λ h. h.content) (e.same (OfActivation name) (no_name name))) e)

      kept_by : Kept by_copying by_copying t program words nothing_known (Unit {1}) Allows Differ Sees n perform perform
      kept_by = record {
        related = evaluates;
        bounds = λ c r s s' d. bounds_alike r s s' d;
        fetch = λ c q s s' good d. fetch_alike q s s' good d;
        assign = λ c may ok y h q root content s s' d. assign_alike q content content s s' (apart_of y q.root (ok.writes y h) root) refl d;
        assign_result = λ c may ok k q root content s s' d. assign_alike q content content s s' (subst IsApart (sym root) (no_result k)) refl d;
        declare = λ c may ok v h g s s' d. declares_alike v (ok.declares v h) g s s' d;
        begin = λ c may ok v h content s s' d. assign_alike (place_of (root_of v)) content content s s' (let is = ok.declares v h in subst (λ z. IsApart (root_of z)) (sym is.1) (no_name is.0)) refl d;
        define = λ c may ok v h content starts s s' d. declares_alike v.name (ok.defines v h) (holds content) s s' d;
        element = λ c may ok j h k s s' d. held_alike (OfCollection j k) holds_nothing holds_nothing s s' (apart_of (ACollection j) (OfCollection j k) (ok.writes (ACollection j) h) (k, refl)) refl (λ y. refl) d;
        has_subject = λ c may ok name path h. the_subject path (ok.binds name path h);
        binds = λ c may ok is_var name path q subject can is root w good s s' d. binds_alike may ok is_var name path q subject w good s s' d;
      }

    -- ---- the induction over calls

    module _ (formed : is_well_formed program ≡ true) (typed : IsTyped program) (rules : KeepsTheRules program) where
      abbrev known_of : ℕ → Known
      known_of g = known_in typed.globals (typed.locals g)

      blind_text : (g : ℕ) (r : Routine) → (Touches program g x → ⊥) → Blind (leave_of program g r (known_of g))
      blind_text g r unseen = record {
        reads = may_read;
        writes = may_write;
        declares = λ v h. is_local v h.1;
        defines = λ d h. is_local d.name h.0;
        called = λ call p h i touch. unseen (by_call p (h.0 p i) touch);
        binds = λ name path h. h.0;
      }
        where
          by_call : (p : ℕ) → CallsOne program g p → Touches program p x → Touches program g x
          by_call p one (inl h) = inl (reads_by_call program g p x one h)
          by_call p one (inr h) = inr (writes_by_call program g p x one h)

          may_read : (y : Subject) → (leave_of program g r (known_of g)).reads y → y ≢ x
          may_read (AVariable (Global y)) h e = unseen (subst (Touches program g) e h)
          may_read (AVariable (Local y)) h e = no_local y e
          may_read (ACollection c) h e = unseen (subst (Touches program g) e h)

          may_write : (y : Subject) → (leave_of program g r (known_of g)).writes y → y ≢ x
          may_write (AVariable (Global y)) h e = unseen (subst (Touches program g) e (inr h.0))
          may_write (AVariable (Local y)) h e = no_local y e
          may_write (ACollection c) h e = unseen (subst (Touches program g) e (inr h))

          is_local : (v : Variable) → IsOwn (names_of program r Nothing false) true (known_of g) v → (y : ℕ) × (v ≡ Local y)
          is_local (Global y) h = absurd (let e : true ≡ false = h in cc)
          is_local (Local y) h = (y, refl)

      routine_alike : (n : ℕ) (perform : Performs Store) → CallsBlind n perform → (callee : ℕ) (r : Routine) → slice_get program.routines callee ≡ Some r → (Touches program callee x → ⊥) → Keeps Store Store t R n Back Any (run_routine Store by_copying t program words n perform r) (run_routine Store by_copying t program words n perform r)
      routine_alike n perform blind callee r there unseen =
          sim_run_routine by_copying by_copying t program words nothing_known (Unit {1}) Allows Differ Sees n perform perform (kept_by n perform blind) tt (leave_of program callee r (known_of callee)) (blind_text callee r unseen) r (named r.result refl)
          (routine_fits program rules typed.globals (typed.locals callee) callee r there (typed.routines callee r there) (acts_good program formed typed rules callee r there)).1
        where
          named : (o : Option ℕ) → r.result ≡ o → NamesResult by_copying by_copying t program words nothing_known (Unit {1}) Allows Differ Sees n perform perform (kept_by n perform blind) tt (leave_of program callee r (known_of callee)) (blind_text callee r unseen) o
          named None e = tt
          named (Some y) e = result_declares program words t typed.globals typed rules refl (acts_good program formed typed rules) (names_result program formed typed rules) callee r there y e

      activation_alike : (n : ℕ) (perform : Performs Store) → CallsBlind n perform → (bounds : Variable → List ℤ) (line callee : ℕ) (given : List Actual) → (Touches program callee x → ⊥) → AllLent IsApart given → (o : Option Routine) → slice_get program.routines callee ≡ o →
          Keeps Store Store t (Evaluates' bounds) n Back Any (activation Store by_copying t program words n perform line given o) (activation Store by_copying t program words n perform line given o)
      activation_alike n perform blind bounds line callee given unseen all None there = sim_lost
      activation_alike n perform blind bounds line callee given unseen all (Some r) there =
          sim_scope _ _ _ _ (λ s s' e. e) (λ o s o' s' outer' e. e) (λ o s o' s' outer' e. e) (sim_room _ line (λ s s' e. e) ▹ λ _. receive_all_alike by_copying by_copying t program words n line r.formals given ▹ λ _.
          sim_scope {Outer = Evaluates' bounds} {Inner = R} {R = Evaluates' bounds} {T = R} {U = R} {V = Evaluates' bounds} {Q = Any} (by_copying.enter given) (by_copying.leave given) (by_copying.enter given) (by_copying.leave given) (λ s s' e. enter_alike given s s' all e.0) left left (routine_alike n perform blind callee r there unseen))
        where
          left : (o s o' s' : Store) → Evaluates' bounds o o' → R s s' → Evaluates' bounds (by_copying.leave given o s) (by_copying.leave given o' s')
          left o s o' s' e d = (leave_alike given o o' s s' all e.0 d, by)
            where
              by : (v : Variable) → by_copying.bounds (by_copying.leave given o s) (root_of v) ≡ bounds v
              by (Global v) = back_bounds s (with_names_of o s) 0 (OfProgram v) given ∙ d.bounds v ∙ sym (e.0.bounds v) ∙ e.1 (Global v)
              by (Local v) = back_bounds s (with_names_of o s) 0 (OfActivation v) given ∙ e.1 (Local v)

      calls_alike : (n : ℕ) → CallsBlind n (calls Store by_copying t program words n)
      calls_alike zero = record { alike = λ bounds line callee given unseen all. sim_stop }
      calls_alike (suc n) = record { alike = λ bounds line callee given unseen all. sim_turn (omega arith) λ _. activation_alike n _ (calls_alike n) bounds line callee given unseen all (slice_get program.routines callee) refl }

      begins : ((r : Root) → IsApart r → held before r ≡ held before' r) → R before before'
      begins same = record { same = same; kept = λ r is. refl; kept' = λ r is. refl; bounds = λ y. refl }

      -- two runs with the same end
      same_end : (u : ℕ) (added : Added) (o : Outcome Store Back) (e : Added × Outcome Store Back) → Alike Store Store t t R u R Any added o e → (added ≡ e.0) × EndAlike x before before' o e.1
      same_end u added (Done b s) e h = (sym (ap (λ z. z.0) h.1), (h.0, ap (λ z. z.1) h.1, h.2))
      same_end u added (Raised kind line s) e h = (sym (ap (λ z. z.0) h.1), (h.0, ap (λ z. z.1) h.1, h.2))
      same_end u added (NoRule s) e h = (sym (ap (λ z. z.0) h.1), (h.0, ap (λ z. z.1) h.1))
      same_end u added (Going s) e h = by e.1 h.0.reason
        where
          by : (o : Outcome Store Back) → (t < t) ⊎ ((added ≡ e.0) × IsOut o) → (added ≡ e.0) × EndAlike x before before' (Going s) o
          by o (inl w) = absurd (omega (arith, w))
          by (Done b z) (inr h) = absurd h.1
          by (Raised kind line z) (inr h) = absurd h.1
          by (NoRule z) (inr h) = absurd h.1
          by (Going z) (inr h) = (h.0, (z, refl))

      unseen_run : (n callee : ℕ) (r : Routine) → slice_get program.routines callee ≡ Some r → (Touches program callee x → ⊥) → (s : State Store) → s.store ≡ before → ((r : Root) → IsApart r → held before r ≡ held before' r) → t ≤ n + s.counts.turns → s.counts.turns ≤ t →
          let run = run_routine Store by_copying t program words n (calls Store by_copying t program words n) r in
          ((run s).0 ≡ (run (record s { store = before' })).0) × EndAlike x before before' (run s).1 (run (record s { store = before' })).1
      unseen_run n callee r there unseen s is same le within =
          let run = run_routine Store by_copying t program words n (calls Store by_copying t program words n) r in
          same_end s.counts.turns (run s).0 (run s).1 (run (with_store s before')) ((routine_alike n (calls Store by_copying t program words n) (calls_alike n) callee r there unseen).by s before' le within (subst (λ z. R z before') (sym is) (begins same)))

pub nothing_lent_is_seen : (program : Program) → NothingLentIsSeen program
nothing_lent_is_seen program formed rules callee r there x outer no_read no_write words t n s before' bounds same le within =
    unseen_run x outer s.store before' bounds program words t formed (well_formed_is_typed program formed) rules n callee r there (λ touch. elim touch [ inl h ↦ no_read h | inr h ↦ no_write h ]) s refl same le within
