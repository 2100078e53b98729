-- A text of a program that the rules accept keeps to what its effects let it do.
use Rattle.std.proofs.Common.{◌≡◌, ◌≢◌, ℕ, Bool, true, false, List, [], ◌∷◌, ◌⊎◌, inl, inr, Option, Some, None, refl, sym, ◌∙◌, ap, subst}
use Rattle.std.specs.Prelude.{ℤ, slice_get, is_some, take}
use Rattle.std.specs.List.{Contains}
use Rattle.tu_core.specs.Core.{Path, Call, Calls, Actuals, NoActual, Given, Lent, Routine, Program}
use Rattle.tu_core.specs.declared.names.At.{At}
use Rattle.tu_core.specs.declared.names.Variable.{Variable}
use Rattle.tu_core.specs.declared.names.Variable.TheVariants.{Global, Local}
use Rattle.tu_core.specs.declared.names.Formal.{Formal}
use Rattle.tu_core.specs.declared.names.Formal.TheVariants.{ByValue, ByCopy, ByVar}
use Rattle.tu_core.specs.declared.names.CallResult.TheVariants.{Nothing}
use Rattle.tu_core.specs.Places.{Names, names_of, main_names, has_some, local_name}
use Rattle.tu_core.specs.Acts.{Subject, AVariable, ACollection, subject_of, Act, Reading, Changing, Naming, Talking, Calling, Binding, Declaring, Defining, Fixing, routine_acts, main_acts}
use Rattle.tu_core.specs.Effects.{changes, called_by, CallsOne, Writes, Among, tails, texts_of}
use Rattle.tu_core.specs.Overlap.{SharedOf, SharedIn, ImportedOf, ImportedIn, IsHidden, IsChanged}
use Rattle.tu_core.specs.Rules.{KeepsTheRules}
use Rattle.tu_core.specs.Constants.{Known, known_in, is_declared}
use Rattle.tu_core.specs.Typed.{LendsRight, is_own, IsVariable, IsOwn, TextIsTyped, GetsItsValue}
use Rattle.tu_alias_forms.proofs.Fits.{Leave, InScope, KeepsScope, ActFits, Fits, Touches, is_itself}
use Rattle.tu_alias_texts.proofs.Reached.{in_tails, in_scope_of, fits_of, reads_itself, writes_itself, calls_itself, main_is_text, routine_is_text}

-- as many actuals as formals, each as its formal takes it
abbrev pub ModesFit : List Formal → Actuals → Type 0
ModesFit [] NoActual = Unit {0}
ModesFit (ByValue target ∷ more) (Given at size e others) = ModesFit more others
ModesFit (ByCopy kind ∷ more) (Lent at false bounds path others) = ModesFit more others
ModesFit (ByVar var kind ∷ more) (Lent at true bounds path others) = ModesFit more others
ModesFit formals actuals = ⊥

-- A name of a bind is no declared one, and none of the text's own.
abbrev pub NamesBind : Names → ℕ → Type 0
NamesBind names x = (has_some is_declared (local_name names x) ≡ false) × (has_some is_own (local_name names x) ≡ false)

-- what a well formed core says of an act
abbrev pub IsGood : Names → Act → Type 0
IsGood names (Calling (Calls at callee invariant actuals)) =
    ((r : Routine) → slice_get names.program.routines callee ≡ Some r → ModesFit r.formals actuals) × ((m : ℕ) (r : Routine) → invariant ≡ Some m → slice_get names.program.routines m ≡ Some r → ModesFit r.formals NoActual)
IsGood names (Binding at name is_var path extent) = NamesBind names name
IsGood names act = Unit {0}

module _ (program : Program) where
  -- what is known of a call in a text with these constants
  pub record CallSafe (known : Known) (callee : ℕ) (actuals : Actuals) : Type 0 where
    pub lends : LendsRight known actuals
    pub none_shared : (place : At) → SharedIn actuals place → ⊥
    pub none_imported : (place : At) → ImportedIn program callee actuals place → ⊥
    pub modes : (r : Routine) → slice_get program.routines callee ≡ Some r → ModesFit r.formals actuals

  abbrev pub IsSafe : Known → Call → Type 0
  IsSafe known (Calls at callee invariant actuals) = CallSafe known callee actuals × ((m : ℕ) → invariant ≡ Some m → CallSafe known m NoActual)

  -- what the text of routine g touches and changes
  abbrev pub ReadsOwn : ℕ → Subject → Type 0
  ReadsOwn g (AVariable (Global x)) = Touches program g (AVariable (Global x))
  ReadsOwn g (AVariable (Local x)) = Unit {0}
  ReadsOwn g (ACollection c) = Touches program g (ACollection c)

  abbrev pub WritesOwn : ℕ → Names → Known → Subject → Type 0
  WritesOwn g names known (AVariable (Global x)) = Writes program g (AVariable (Global x)) × (known (Global x) ≡ None)
  WritesOwn g names known (AVariable (Local x)) = IsVariable names true known (Local x)
  WritesOwn g names known (ACollection c) = Writes program g (ACollection c)

  abbrev pub WritesMain : Names → Known → Subject → Type 0
  WritesMain names known (AVariable x) = IsVariable names false known x
  WritesMain names known (ACollection c) = Unit {0}

  -- what a bind in a text needs
  abbrev pub BindsWell : Names → Known → (name : ℕ) → Path → Type 0
  BindsWell names known name path = (is_some (subject_of path) ≡ true) × (subject_of path ≢ Some (AVariable (Local name))) × (known (Local name) ≡ None)

  -- what the text of routine g may do, and that of the program
  abbrev pub leave_of : ℕ → Routine → Known → Leave
  leave_of g r known = record {
    reads = ReadsOwn g;
    writes = WritesOwn g (names_of program r Nothing false) known;
    declares = λ v. IsVariable (names_of program r Nothing false) true known v × IsOwn (names_of program r Nothing false) true known v;
    defines = λ d. IsOwn (names_of program r Nothing false) true known d.name × GetsItsValue known d;
    calls = λ call. ((p : ℕ) → Contains (called_by call) p → CallsOne program g p) × IsSafe known call;
    binds = BindsWell (names_of program r Nothing false) known;
  }

  abbrev pub leave_of_main : Known → Leave
  leave_of_main known = record {
    reads = λ x. Unit {0};
    writes = WritesMain (main_names program) known;
    declares = λ v. IsVariable (main_names program) false known v × IsOwn (main_names program) false known v;
    defines = λ d. IsOwn (main_names program) false known d.name × GetsItsValue known d;
    calls = λ call. IsSafe known call;
    binds = BindsWell (main_names program) known;
  }

  -- ---- what the rules say of an act of a text

  at_once : {X : Type 0} (Has : X → At → Type 0) (xs : List X) (x : X) (at : At) → Contains xs x → Has x at → Among Has xs at
  at_once Has xs x at is h = (x, is, h)

  module _ (rules : KeepsTheRules program) (acts : List Act) (is_text : Contains (texts_of program) acts) where
    none_shared : (call : Call) → Contains acts (Calling call) → (place : At) → SharedOf (Calling call) place → ⊥
    none_shared call is place h = rules.no_shared place (acts, is_text, (Calling call, is, h))

    none_imported : (call : Call) → Contains acts (Calling call) → (place : At) → ImportedOf program (Calling call) place → ⊥
    none_imported call is place h = rules.no_imported place (acts, is_text, (Calling call, is, h))

    -- a bound name without `var` is not changed
    abbrev KeepsName : Bool → ℕ → ℕ → List Act → Type 0
    KeepsName true name extent behind = Unit {0}
    KeepsName false name extent behind = (act : Act) → Contains (take extent behind) act → changes (AVariable (Local name)) act ≡ false

    kept_scope : (at : At) (name : ℕ) (is_var : Bool) (path : Path) (extent : ℕ) (behind : List Act) → Contains (tails acts) (Binding at name is_var path extent, behind) → KeepsName is_var name extent behind → (x : Subject) → subject_of path ≡ Some x → (act : Act) → Contains (take extent behind) act → KeepsScope program is_var name x act
    kept_scope at name true path extent behind is bound x e act in' = λ place h.
        let M : Option Subject → Type 0 = λ o. elim o [ None ↦ ⊥ | Some y ↦ Among (IsHidden program y) (take extent behind) place ] in
        rules.no_hidden place (acts, is_text, ((Binding at name true path extent, behind), is, subst M (sym e) (act, in', h)))
    kept_scope at name false path extent behind is bound x e act in' =
        ((λ place h. let M : Option Subject → Type 0 = λ o. elim o [ None ↦ ⊥ | Some y ↦ Among (IsChanged program y) (take extent behind) place ] in rules.no_changed place (acts, is_text, ((Binding at name false path extent, behind), is, subst M (sym e) (act, in', h)))), bound act in')

    module _ (names : Names) (is_routine : Bool) (known : Known) (typed : TextIsTyped names is_routine known acts) (good : (act : Act) → Contains acts act → IsGood names act) (same : names.program ≡ program) where
      keeps_name : (at : At) (name : ℕ) (is_var : Bool) (path : Path) (extent : ℕ) (behind : List Act) → Contains (tails acts) (Binding at name is_var path extent, behind) → KeepsName is_var name extent behind
      keeps_name at name true path extent behind is = tt
      keeps_name at name false path extent behind is = typed.bound (Binding at name false path extent, behind) is

      safe_call : (call : Call) → Contains acts (Calling call) → IsSafe known call
      safe_call (Calls at callee invariant actuals) is =
          let fit = good (Calling (Calls at callee invariant actuals)) is in (
            record {
              lends = typed.each (Calling (Calls at callee invariant actuals)) is;
              none_shared = none_shared (Calls at callee invariant actuals) is;
              none_imported = none_imported (Calls at callee invariant actuals) is;
              modes = λ r e. fit.0 r (ap (λ p. slice_get p.routines callee) same ∙ e);
            },
            λ m is_m. record { lends = tt; none_shared = λ place h. h; none_imported = λ place h. h; modes = λ r e. fit.1 m r is_m (ap (λ p. slice_get p.routines m) same ∙ e) },
          )

      known_or_not : (o : Option ℤ) → (o ≡ None) ⊎ (o ≢ None)
      known_or_not None = inl refl
      known_or_not (Some z) = inr (λ e. let h : Some z ≡ None = e in cc)

      bound_unknown : (name : ℕ) → NamesBind names name → known (Local name) ≡ None
      bound_unknown name e = elim (known_or_not (known (Local name))) [ inl h ↦ h | inr ne ↦ absurd (let both : true ≡ false = sym (typed.declared name ne) ∙ e.0 in cc) ]

      own_is_other : (name : ℕ) → NamesBind names name → (v : Variable) → IsOwn names is_routine known v → v ≢ Local name
      own_is_other name e (Global x) own is = let h : Global x ≡ Local name = is in cc
      own_is_other name e (Local x) own is =
          let same' : x ≡ name = (let h : Local x ≡ Local name = is in cc) in
          let both : true ≡ false = sym (subst (λ z. has_some is_own (local_name names z) ≡ true) same' own) ∙ e.1 in cc

      binds_well : (at : At) (name : ℕ) (is_var : Bool) (path : Path) (extent : ℕ) → Contains acts (Binding at name is_var path extent) → BindsWell names known name path
      binds_well at name is_var path extent is =
          let one = typed.each (Binding at name is_var path extent) is in let named = good (Binding at name is_var path extent) is in
          (one.0, one.1, bound_unknown name named)

      scope_fits : (at : At) (name : ℕ) (is_var : Bool) (path : Path) (extent : ℕ) (behind : List Act) → Contains (tails acts) (Binding at name is_var path extent, behind) → (x : Subject) → subject_of path ≡ Some x → InScope (KeepsScope program is_var name x) extent behind
      scope_fits at name is_var path extent behind is x e = in_scope_of (KeepsScope program is_var name x) extent behind (kept_scope at name is_var path extent behind is (keeps_name at name is_var path extent behind is) x e)

  module _ (rules : KeepsTheRules program) (globals locals : ℕ → Option ℤ) where
    -- the text of a routine
    routine_act : (g : ℕ) (r : Routine) (found : slice_get program.routines g ≡ Some r) → TextIsTyped (names_of program r Nothing false) true (known_in globals locals) (routine_acts r) → ((act : Act) → Contains (routine_acts r) act → IsGood (names_of program r Nothing false) act) → (rest : Act × List Act) → Contains (tails (routine_acts r)) rest → ActFits program (leave_of g r (known_in globals locals)) rest.0 rest.1
    routine_act g r found typed good (Reading at (AVariable (Global x)), behind) is = inl (reads_itself program g r found at (AVariable (Global x)) refl (in_tails (routine_acts r) (Reading at (AVariable (Global x)), behind) is))
    routine_act g r found typed good (Reading at (AVariable (Local x)), behind) is = tt
    routine_act g r found typed good (Reading at (ACollection c), behind) is = inl (reads_itself program g r found at (ACollection c) refl (in_tails (routine_acts r) (Reading at (ACollection c), behind) is))
    routine_act g r found typed good (Changing at (AVariable (Global x)), behind) is =
        let i = in_tails (routine_acts r) (Changing at (AVariable (Global x)), behind) is in
        (writes_itself program g r found (Changing at (AVariable (Global x))) (AVariable (Global x)) refl (is_itself (AVariable (Global x))) i, typed.each (Changing at (AVariable (Global x))) i)
    routine_act g r found typed good (Changing at (AVariable (Local x)), behind) is = typed.each (Changing at (AVariable (Local x))) (in_tails (routine_acts r) (Changing at (AVariable (Local x)), behind) is)
    routine_act g r found typed good (Changing at (ACollection c), behind) is = writes_itself program g r found (Changing at (ACollection c)) (ACollection c) refl (is_itself (ACollection c)) (in_tails (routine_acts r) (Changing at (ACollection c), behind) is)
    routine_act g r found typed good (Naming at x, behind) is = tt
    routine_act g r found typed good (Talking at, behind) is = tt
    routine_act g r found typed good (Calling call, behind) is =
        let i = in_tails (routine_acts r) (Calling call, behind) is in
        ((λ p h. calls_itself program g r found call p i h), safe_call rules (routine_acts r) (routine_is_text program g r found) (names_of program r Nothing false) true (known_in globals locals) typed good refl call i)
    routine_act g r found typed good (Binding at name is_var path extent, behind) is =
        let i = in_tails (routine_acts r) (Binding at name is_var path extent, behind) is in
        let names = names_of program r Nothing false in let text = routine_is_text program g r found in let known = known_in globals locals in
        let named = good (Binding at name is_var path extent) i in (
          binds_well rules (routine_acts r) text names true known typed good refl at name is_var path extent i,
          (λ v h. own_is_other rules (routine_acts r) text names true known typed good refl name named v h.1),
          (λ d h. own_is_other rules (routine_acts r) text names true known typed good refl name named d.name h.0),
          scope_fits rules (routine_acts r) text names true known typed good refl at name is_var path extent behind is,
        )
    routine_act g r found typed good (Declaring at v, behind) is = typed.each (Declaring at v) (in_tails (routine_acts r) (Declaring at v, behind) is)
    routine_act g r found typed good (Defining at d, behind) is = typed.each (Defining at d) (in_tails (routine_acts r) (Defining at d, behind) is)
    routine_act g r found typed good (Fixing xs extent, behind) is = tt

    pub routine_fits : (g : ℕ) (r : Routine) → slice_get program.routines g ≡ Some r → TextIsTyped (names_of program r Nothing false) true (known_in globals locals) (routine_acts r) → ((act : Act) → Contains (routine_acts r) act → IsGood (names_of program r Nothing false) act) → Fits program (leave_of g r (known_in globals locals)) (routine_acts r)
    routine_fits g r found typed good = fits_of program (leave_of g r (known_in globals locals)) (routine_acts r) (routine_act g r found typed good)

    -- the text of the program
    main_act : TextIsTyped (main_names program) false (known_in globals locals) (main_acts program) → ((act : Act) → Contains (main_acts program) act → IsGood (main_names program) act) → (rest : Act × List Act) → Contains (tails (main_acts program)) rest → ActFits program (leave_of_main (known_in globals locals)) rest.0 rest.1
    main_act typed good (Reading at x, behind) is = tt
    main_act typed good (Changing at (AVariable x), behind) is = typed.each (Changing at (AVariable x)) (in_tails (main_acts program) (Changing at (AVariable x), behind) is)
    main_act typed good (Changing at (ACollection c), behind) is = tt
    main_act typed good (Naming at x, behind) is = tt
    main_act typed good (Talking at, behind) is = tt
    main_act typed good (Calling call, behind) is = safe_call rules (main_acts program) (main_is_text program) (main_names program) false (known_in globals locals) typed good refl call (in_tails (main_acts program) (Calling call, behind) is)
    main_act typed good (Binding at name is_var path extent, behind) is =
        let i = in_tails (main_acts program) (Binding at name is_var path extent, behind) is in
        let names = main_names program in let text = main_is_text program in let known = known_in globals locals in
        let named = good (Binding at name is_var path extent) i in (
          binds_well rules (main_acts program) text names false known typed good refl at name is_var path extent i,
          (λ v h. own_is_other rules (main_acts program) text names false known typed good refl name named v h.1),
          (λ d h. own_is_other rules (main_acts program) text names false known typed good refl name named d.name h.0),
          scope_fits rules (main_acts program) text names false known typed good refl at name is_var path extent behind is,
        )
    main_act typed good (Declaring at v, behind) is = typed.each (Declaring at v) (in_tails (main_acts program) (Declaring at v, behind) is)
    main_act typed good (Defining at d, behind) is = typed.each (Defining at d) (in_tails (main_acts program) (Defining at d, behind) is)
    main_act typed good (Fixing xs extent, behind) is = tt

    pub main_fits : TextIsTyped (main_names program) false (known_in globals locals) (main_acts program) → ((act : Act) → Contains (main_acts program) act → IsGood (main_names program) act) → Fits program (leave_of_main (known_in globals locals)) (main_acts program)
    main_fits typed good = fits_of program (leave_of_main (known_in globals locals)) (main_acts program) (main_act typed good)
