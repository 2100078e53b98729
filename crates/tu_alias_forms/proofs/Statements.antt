-- Statements, blocks and routines side by side: what relates two stores is kept by each form.
use Rattle.std.proofs.Common.{◌≡◌, ℕ, Bool, true, false, List, [], ◌∷◌, ◌++◌, length, map, Option, Some, None, refl, sym, ap, subst, arith}
use Rattle.std.specs.Prelude.{ℤ, pos, slice_get}
use Rattle.tu_base.specs.Kind.{kind_number}
use Rattle.tu_base.specs.declared.kind.Kind.TheVariants as kind
use Rattle.tu_base.specs.declared.shape.Shape.{Shape}
use Rattle.tu_base.specs.Values.{Value, Number, Bytes, Creation, Content, unset, alone, tagged, pointer_in}
use Rattle.tu_base.specs.Scalars.{are_equal, truth_number}
use Rattle.tu_base.specs.Texts.{token_int, token_truth, token_text}
use Rattle.tu_base.specs.Reading.{token, line as whole_line, count}
use Rattle.tu_base.specs.Streams.{open_stream, close_stream}
use Rattle.tu_core.specs.Core.{Scalar, Text, Optional, Absent, Present, Path, Name, OpenItem, Element, ResultOf, Call, NoActual, Simple, Start, Taken, NoneTaken, TakeInt, TakeTruth, TakeToken, TakeLine, TakeCount, Test, Plain, Assign, Copy, Exit, Return, Give, GiveCopy, Check, New, Free, Tag, Put, Get, OpenStream, Close, Do, Quit, Named, Declaration, Constant, InitClause, Variables, Started, Arrays, Collections, Mention, Statement, Simply, If, Loop, For, Case, Begin, Module, Block, Empty, Then, Declare, Bind, Otherwise, Else, Elsif, Arms, NoArm, Default, Labelled, Handler, NoHandler, Handles, Routine, Program}
use Rattle.tu_core.specs.declared.names.At.{At}
use Rattle.tu_core.specs.declared.names.Variable.{Variable}
use Rattle.tu_core.specs.declared.names.Variable.TheVariants.{Local}
use Rattle.tu_core.specs.declared.targets.Size.{Size}
use Rattle.tu_core.specs.declared.targets.Target.{Target}
use Rattle.tu_core.specs.declared.targets.Target.TheVariants.{TakesScalar}
use Rattle.tu_core.specs.declared.names.CallResult.{CallResult}
use Rattle.tu_core.specs.declared.names.CallResult.TheVariants.{Nothing, OneValue, OnePlace}
use Rattle.tu_core.specs.Rooms.{joins, scalars_of}
use Rattle.tu_core.specs.Acts.{Subject, AVariable, ACollection, subject_of, Act, Reading, Changing, Declaring, Defining, Binding, Calling, lending, scalar_acts, optional_acts, text_acts, simple_acts, scalars_acts, path_acts, start_acts, shown_acts, taken_acts, also_read, plain_acts, constant_acts, constants_acts, declaration_acts, range_acts, test_acts, invariant_acts, with_fixed, statement_acts, block_acts, otherwise_acts, arms_acts, handler_acts}
use Rattle.tu_core.specs.Constants.{Known as Constants}
use Rattle.tu_core.specs.Typed.{StartsWith}
use Rattle.tu_meaning.specs.Steps.{Step, scope}
use Rattle.tu_meaning.specs.Store.{Root, OfCall, OfCollection, Place, place_of, Held, holds, holds_nothing, Passing}
use Rattle.tu_meaning.specs.Words.{Back, content_back, Flow, Next, Exits, Returns, GivesBack, misfit}
use Rattle.tu_meaning.specs.Expressions.{root_of, Performs, Taken as Caught, Running, shape, keep_invariant, locate, value_at, bounds_of, fetched}
use Rattle.tu_meaning.specs.Statements.{store, declare_all, assign_all, name_constant, name_constants, declare_arrays, declare, most_at, most_token, store_text, get, quit, execute_plain, is_labelled, test, execute_round, execute_indexed, execute_arm, in_scope, begun, execute, execute_otherwise, choose, execute_parts}
use Rattle.tu_meaning.specs.Subprograms.{result_of, unless_missing, run_body, run_handled, name_result, run_routine}
use Rattle.tu_meaning.proofs.Alike.{sim_bind, sim_give, sim_look, sim_change, sim_note, sim_pay, sim_if, sim_room, sim_scope, sim_handled}
use Rattle.tu_meaning.proofs.WordForms.{Any, sim_answered, sim_present, sim_found, sim_demand, sim_unless_raised, sim_union_of, sim_span_of, sim_outside, sim_living, sim_make_element, sim_remove_element, sim_keep_file, sim_end_line, sim_source_there, sim_take_text, sim_and_then, sim_rounds, sim_rounds_over}
use Rattle.tu_alias_forms.proofs.Fits.{Leave, Fits, front, back, hide, hide_fits}
use Rattle.tu_alias_forms.proofs.Words.{Keeps, ◌▹◌, raises, weaker, sim_less_known, sim_at}
use Rattle.tu_alias_forms.proofs.Expressions.{RootOf, RootAt, OfPath, Related, changed_path, sim_reading, sim_changing, sim_lending, sim_condition, sim_begin, sim_upper_bounds, sim_show, sim_first_and_count, sim_evaluate, sim_stream_of, sim_text, sim_simple, sim_do_call}

-- C is what is open while a text runs, and R relates the stores then, at each exception too.
module _ {S S' : Type 0} (p : Passing S) (p' : Passing S') (t : ℕ) (program : Program) (words : List ℕ) (known : Constants) (C : Type 1) (Allows : C → Leave → Type 0) (R : C → S → S' → Type 0) (Good : C → Root → Type 0) where
  -- while an expression is evaluated the arrays keep their bounds
  abbrev pub Evaluating : C → (Variable → List ℤ) → S → S' → Type 0
  Evaluating c bounds s r = R c s r × ((x : Variable) → p.bounds s (root_of x) ≡ bounds x)

  -- a bind has begun from two stores
  pub record Scoped (c : C) (may : Leave) (is_var : Bool) (x : ℕ) (q : Place) (subject : Subject) (s : S) (r : S') : Type 1 where
    pub inner : C
    pub allows : Allows inner (hide program may is_var x subject)
    pub opened : R inner (p.bind is_var x q s) (p'.bind is_var x q r)
    pub closed : (s' : S) (r' : S') → R inner s' r' → R c (p.unbind is_var x q s s') (p'.unbind is_var x q r r')

  -- what each form needs of the relation
  pub record Kept (n : ℕ) (perform : Performs S) (perform' : Performs S') : Type 1 where
    pub related : (c : C) (may : Leave) → Allows c may → (bounds : Variable → List ℤ) → Related p p' t program n perform perform' may known bounds (Good c) (Evaluating c bounds)
    pub bounds : (c : C) (root : Root) (s : S) (r : S') → R c s r → p.bounds s root ≡ p'.bounds r root
    pub fetch : (c : C) (q : Place) (s : S) (r : S') → Good c q.root → R c s r → p.fetch s q ≡ p'.fetch r q
    pub assign : (c : C) (may : Leave) → Allows c may → (x : Subject) → may.writes x → (q : Place) → RootOf x q.root → (content : Content) (s : S) (r : S') → R c s r → R c (p.assign s q content) (p'.assign r q content)
    pub assign_result : (c : C) (may : Leave) → Allows c may → (k : ℕ) (q : Place) → q.root ≡ OfCall k → (content : Content) (s : S) (r : S') → R c s r → R c (p.assign s q content) (p'.assign r q content)
    pub declare : (c : C) (may : Leave) → Allows c may → (x : Variable) → may.declares x → (h : Held) (s : S) (r : S') → R c s r → R c (p.declare s (root_of x) h) (p'.declare r (root_of x) h)
    pub begin : (c : C) (may : Leave) → Allows c may → (x : Variable) → may.declares x → (content : Content) (s : S) (r : S') → R c s r → R c (p.assign s (place_of (root_of x)) content) (p'.assign r (place_of (root_of x)) content)
    pub define : (c : C) (may : Leave) → Allows c may → (d : Named) → may.defines d → (content : Content) → ((z : ℤ) → StartsWith known d.start z → content [] ≡ Number z) → (s : S) (r : S') → R c s r → R c (p.declare s (root_of d.name) (holds content)) (p'.declare r (root_of d.name) (holds content))
    pub element : (c : C) (may : Leave) → Allows c may → (j : ℕ) → may.writes (ACollection j) → (k : ℕ) (s : S) (r : S') → R c s r → R c (p.declare s (OfCollection j k) holds_nothing) (p'.declare r (OfCollection j k) holds_nothing)
    pub has_subject : (c : C) (may : Leave) → Allows c may → (x : ℕ) (path : Path) → may.binds x path → (subject : Subject) × (subject_of path ≡ Some subject)
    pub binds : (c : C) (may : Leave) → Allows c may → (is_var : Bool) (x : ℕ) (path : Path) (q : Place) (subject : Subject) → may.binds x path → subject_of path ≡ Some subject → RootOf subject q.root → (is_var ≡ true → may.writes subject) → Good c q.root → (s : S) (r : S') → R c s r → Scoped c may is_var x q subject s r

  module _ (n : ℕ) (perform : Performs S) (perform' : Performs S') (k : Kept n perform perform') (scalars : List ℕ) (taken : Caught) where
    abbrev on_left : Running S
    on_left = record { passing = p; turns = t; depth = n; program = program; words = words; perform = perform; scalars = scalars; taken = taken }

    abbrev on_right : Running S'
    on_right = record { passing = p'; turns = t; depth = n; program = program; words = words; perform = perform'; scalars = scalars; taken = taken }

    abbrev Stays : C → (A : Type 0) (Q : A → Type 0) → Step S A → Step S' A → Type 0
    Stays c A Q m m' = Keeps S S' t (R c) n A Q m m'

    -- an expression is evaluated between two changes of the stores
    evaluated : (c : C) {A : Type 0} {Q : A → Type 0} {m : Step S A} {m' : Step S' A} → ((bounds : Variable → List ℤ) → Keeps S S' t (Evaluating c bounds) n A Q m m') → Stays c A Q m m'
    evaluated c each = record { by = λ s r le within rel. (sim_less_known (λ s r e. e.0) (λ s r e. e.0) (λ a q. q) (each (λ x. p.bounds s.store (root_of x)))).by s r le within (rel, λ x. refl) }

    module _ (c : C) (may : Leave) (ok : Allows c may) where
      -- a place that may be changed
      CanChange : Path → Place → Type 0
      CanChange path q = OfPath may.writes path × RootAt path q.root × Good c q.root

      change_at : (path : Path) (q : Place) → OfPath may.writes path × RootAt path q.root × Good c q.root → (content : Content) (s : S) (r : S') → R c s r → R c (p.assign s q content) (p'.assign r q content)
      change_at (Name at x steps) q h content s r rel = k.assign c may ok (AVariable x) (h.0 (AVariable x) refl) q h.1 content s r rel
      change_at (OpenItem at x indexes es steps) q h content s r rel = k.assign c may ok (AVariable x) (h.0 (AVariable x) refl) q h.1 content s r rel
      change_at (Element at j e steps) q h content s r rel = k.assign c may ok (ACollection j) (h.0 (ACollection j) refl) q h.1 content s r rel
      change_at (ResultOf at j call steps) q h content s r rel = k.assign_result c may ok h.1.0 q h.1.1 content s r rel

      sim_changed : (line : ℕ) (path : Path) → Fits program may (path_acts Changing path) → Stays c Place (λ q. OfPath may.writes path × RootAt path q.root × Good c q.root) (locate on_left line path) (locate on_right line path)
      sim_changed line path f = evaluated c λ bounds. weaker (λ q found. ((changed_path program may path f).0, found.1, found.0)) (sim_changing p p' t program n perform perform' may known bounds (Good c) (Evaluating c bounds) words scalars taken (k.related c may ok bounds) line path f)

      sim_read : (line : ℕ) (path : Path) → Fits program may (path_acts Reading path) → Stays c Place (λ q. Good c q.root) (locate on_left line path) (locate on_right line path)
      sim_read line path f = evaluated c λ bounds. weaker (λ q found. found.0) (sim_reading p p' t program n perform perform' may known bounds (Good c) (Evaluating c bounds) words scalars taken (k.related c may ok bounds) line path f)

      sim_number : (line : ℕ) (e : Scalar) → Fits program may (scalar_acts e) → Stays c ℤ Any (Rattle.tu_meaning.specs.Expressions.evaluate on_left line e) (Rattle.tu_meaning.specs.Expressions.evaluate on_right line e)
      sim_number line e f = evaluated c λ bounds. weaker (λ _ _. tt) (sim_evaluate p p' t program n perform perform' may known bounds (Good c) (Evaluating c bounds) words scalars taken (k.related c may ok bounds) line e f)

      sim_truth_of : (line : ℕ) (e : Scalar) → Fits program may (scalar_acts e) → Stays c Bool Any (Rattle.tu_meaning.specs.Statements.condition on_left line e) (Rattle.tu_meaning.specs.Statements.condition on_right line e)
      sim_truth_of line e f = evaluated c λ bounds. sim_condition p p' t program n perform perform' may known bounds (Good c) (Evaluating c bounds) words scalars taken (k.related c may ok bounds) line e f

      sim_bytes : (line : ℕ) (e : Text) → Fits program may (text_acts e) → Stays c (List ℕ) Any (Rattle.tu_meaning.specs.Expressions.evaluate_text on_left line e) (Rattle.tu_meaning.specs.Expressions.evaluate_text on_right line e)
      sim_bytes line e f = evaluated c λ bounds. sim_text p p' t program n perform perform' may known bounds (Good c) (Evaluating c bounds) words scalars taken (k.related c may ok bounds) line e f

      sim_some : (line : ℕ) (e : Optional) → Fits program may (optional_acts e) → Stays c (Option ℤ) Any (Rattle.tu_meaning.specs.Expressions.stream_of on_left line e) (Rattle.tu_meaning.specs.Expressions.stream_of on_right line e)
      sim_some line e f = evaluated c λ bounds. sim_stream_of p p' t program n perform perform' may known bounds (Good c) (Evaluating c bounds) words scalars taken (k.related c may ok bounds) line e f

      sim_value : (line : ℕ) (e : Simple) → Fits program may (simple_acts e) → Stays c Value Any (Rattle.tu_meaning.specs.Expressions.evaluate_simple on_left line e) (Rattle.tu_meaning.specs.Expressions.evaluate_simple on_right line e)
      sim_value line e f = evaluated c λ bounds. weaker (λ _ _. tt) (sim_simple p p' t program n perform perform' may known bounds (Good c) (Evaluating c bounds) words scalars taken (k.related c may ok bounds) line e f)

      sim_start : (line : ℕ) (start : Start) → Fits program may (start_acts start) → Stays c Content (λ content. (z : ℤ) → StartsWith known start z → content [] ≡ Number z) (Rattle.tu_meaning.specs.Statements.begin on_left line start) (Rattle.tu_meaning.specs.Statements.begin on_right line start)
      sim_start line start f = evaluated c λ bounds. sim_begin p p' t program n perform perform' may known bounds (Good c) (Evaluating c bounds) words scalars taken (k.related c may ok bounds) line start f

      sim_called : (line : ℕ) (call : Call) → Fits program may (Rattle.tu_core.specs.Acts.call_acts call) → Stays c Back Any (Rattle.tu_meaning.specs.Expressions.do_call on_left line call) (Rattle.tu_meaning.specs.Expressions.do_call on_right line call)
      sim_called line call f = evaluated c λ bounds. sim_do_call p p' t program n perform perform' may known bounds (Good c) (Evaluating c bounds) words scalars taken (k.related c may ok bounds) line call f

      sim_kept : (line : ℕ) (at : At) (m : Option ℕ) → Fits program may (invariant_acts at m) → Stays c (Unit {0}) Any (keep_invariant on_left line m) (keep_invariant on_right line m)
      sim_kept line at None f = sim_give tt tt
      sim_kept line at (Some m) f = evaluated c λ bounds. (k.related c may ok bounds).performs line at m None NoActual [] f.0 tt tt (λ h. refl) tt ▹ λ _. sim_give tt tt

      sim_bounds_at : (root : Root) → Stays c (List ℤ) Any (bounds_of on_left root) (bounds_of on_right root)
      sim_bounds_at root = sim_look {Q = Any} _ _ (λ s r rel. (k.bounds c root s r rel, tt))

      sim_value_there : (q : Place) → Good c q.root → Stays c Value Any (value_at on_left q) (value_at on_right q)
      sim_value_there q good = sim_look {Q = Any} _ _ (λ s r rel. (ap (λ content. content []) (k.fetch c q s r good rel), tt))

      sim_content_there : (q : Place) → Good c q.root → Stays c Content Any (fetched on_left q) (fetched on_right q)
      sim_content_there q good = sim_look {Q = Any} _ _ (λ s r rel. (k.fetch c q s r good rel, tt))

      sim_shape_at : (m : ℕ) → Stays c Shape Any (shape on_left m) (shape on_right m)
      sim_shape_at m = sim_found _

      -- ---- changes

      sim_store : (line : ℕ) (target : Target) (path : Path) (q : Place) (v : Value) → OfPath may.writes path × RootAt path q.root × Good c q.root → Stays c (Unit {0}) Any (store on_left line target q v) (store on_right line target q v)
      sim_store line target path q v h = sim_bounds_at q.root ▹ λ bounds. sim_unless_raised line (misfit target bounds v) ▹ λ _. sim_change _ _ (change_at path q h (alone v))

      sim_declare_all : (at : At) (xs : List Variable) (m : ℕ) (h : Held) → Fits program may (map (Declaring at) xs) → Stays c (Unit {0}) Any (declare_all on_left xs m h) (declare_all on_right xs m h)
      sim_declare_all at [] m h f = sim_give tt tt
      sim_declare_all at (x ∷ more) m h f = sim_pay m ▹ λ _. sim_change _ _ (k.declare c may ok x f.0 h) ▹ λ _. sim_declare_all at more m h f.1

      sim_assign_all : (at : At) (xs : List Variable) (m : ℕ) (content : Content) → Fits program may (map (Declaring at) xs) → Stays c (Unit {0}) Any (assign_all on_left xs m content) (assign_all on_right xs m content)
      sim_assign_all at [] m content f = sim_give tt tt
      sim_assign_all at (x ∷ more) m content f = sim_pay m ▹ λ _. sim_change _ _ (k.begin c may ok x f.0 content) ▹ λ _. sim_assign_all at more m content f.1

      sim_name_constant : (at : At) (line : ℕ) (x : Named) → Fits program may (constant_acts at x) → Stays c (Unit {0}) Any (name_constant on_left line x) (name_constant on_right line x)
      sim_name_constant at line x f = sim_pay 1 ▹ λ _. sim_bind (sim_start line x.start (front program may (start_acts x.start) (Defining at x ∷ []) f)) λ content is. sim_pay _ ▹ λ _. sim_change _ _ (k.define c may ok x (back program may (start_acts x.start) (Defining at x ∷ []) f).0 content is)

      sim_name_constants : (at : At) (line : ℕ) (xs : List Named) → Fits program may (constants_acts at xs) → Stays c (Unit {0}) Any (name_constants on_left line xs) (name_constants on_right line xs)
      sim_name_constants at line [] f = sim_give tt tt
      sim_name_constants at line (x ∷ more) f = sim_name_constant at line x (front program may (constant_acts at x) (constants_acts at more) f) ▹ λ _. sim_name_constants at line more (back program may (constant_acts at x) (constants_acts at more) f)

      sim_declare_arrays : (at : At) (line : ℕ) (xs : List Variable) (m e : ℕ) (bounds : List ℤ) → Fits program may (map (Declaring at) xs) → Stays c (Unit {0}) Any (declare_arrays on_left line xs m e bounds) (declare_arrays on_right line xs m e bounds)
      sim_declare_arrays at line [] m e bounds f = sim_give tt tt
      sim_declare_arrays at line (x ∷ more) m e bounds f = sim_room e line (λ s r rel. rel) ▹ λ _. sim_pay _ ▹ λ _. sim_change _ _ (k.declare c may ok x f.0 (record { content = unset; bounds = bounds })) ▹ λ _. sim_declare_arrays at line more m e bounds f.1

      sim_declare : (at : At) (line : ℕ) (d : Declaration) → Fits program may (declaration_acts at d) → Stays c (Unit {0}) Any (declare on_left line d) (declare on_right line d)
      sim_declare at line (Constant x) f = sim_name_constant at line x f
      sim_declare at line (InitClause xs) f = sim_pay 1 ▹ λ _. sim_name_constants at line xs f
      sim_declare at line (Variables xs m) f = sim_declare_all at xs _ holds_nothing f
      sim_declare at line (Started xs m start) f =
          let g = front program may (map (Declaring at) xs) (start_acts start) f in
          sim_declare_all at xs _ holds_nothing g ▹ λ _. sim_start line start (back program may (map (Declaring at) xs) (start_acts start) f) ▹ λ content. sim_assign_all at xs _ content g
      sim_declare at line (Arrays xs indexes component es) f =
          let g = front program may (map (Declaring at) xs) (scalars_acts es) f in
          sim_declare_all at xs 1 holds_nothing g ▹ λ _. evaluated c (λ bounds. sim_upper_bounds p p' t program n perform perform' may known bounds (Good c) (Evaluating c bounds) words scalars taken (k.related c may ok bounds) line indexes es (back program may (map (Declaring at) xs) (scalars_acts es) f)) ▹ λ bounds. sim_declare_arrays at line xs _ _ bounds g
      sim_declare at line (Collections cs) f = sim_pay _
      sim_declare at line (Mention m) f = sim_give tt tt

      sim_most_at : (size : Size) (q : Place) → Stays c ℕ Any (most_at on_left size q) (most_at on_right size q)
      sim_most_at size q = sim_bounds_at q.root ▹ λ bounds. sim_give _ tt

      sim_store_text : (line : ℕ) (path : Path) (q : Place) (text : List ℕ) → OfPath may.writes path × RootAt path q.root × Good c q.root → Stays c (Unit {0}) Any (store_text on_left line q text) (store_text on_right line q text)
      sim_store_text line path q text h = sim_answered line (token_text text) ▹ λ bytes. sim_change _ _ (change_at path q h (alone (Bytes bytes)))

      sim_get : (line : ℕ) (stream : Option ℤ) (targets : Taken) → Fits program may (taken_acts targets) → Stays c (Unit {0}) Any (get on_left line stream targets) (get on_right line stream targets)
      sim_get line stream NoneTaken f = sim_give tt tt
      sim_get line stream (TakeInt s path more) f = sim_bind (sim_changed line path (front program may (path_acts Changing path) (taken_acts more) f)) λ q h. sim_source_there line stream ▹ λ _. sim_take_text line stream (token most_token) ▹ λ r. sim_answered line (token_int r.reading.text) ▹ λ z. sim_store line (TakesScalar s) path q (Number z) h ▹ λ _. sim_get line stream more (back program may (path_acts Changing path) (taken_acts more) f)
      sim_get line stream (TakeTruth path more) f = sim_bind (sim_changed line path (front program may (path_acts Changing path) (taken_acts more) f)) λ q h. sim_source_there line stream ▹ λ _. sim_take_text line stream (token most_token) ▹ λ r. sim_answered line (token_truth r.reading.text) ▹ λ b. sim_change _ _ (change_at path q h (alone (Number (truth_number b)))) ▹ λ _. sim_get line stream more (back program may (path_acts Changing path) (taken_acts more) f)
      sim_get line stream (TakeToken size path more) f = sim_bind (sim_changed line path (front program may (path_acts Changing path) (taken_acts more) f)) λ q h. sim_source_there line stream ▹ λ _. sim_most_at size q ▹ λ most. sim_take_text line stream (token most) ▹ λ r. sim_store_text line path q r.reading.text h ▹ λ _. sim_get line stream more (back program may (path_acts Changing path) (taken_acts more) f)
      sim_get line stream (TakeLine size path more) f = sim_bind (sim_changed line path (front program may (path_acts Changing path) (taken_acts more) f)) λ q h. sim_source_there line stream ▹ λ _. sim_pay _ ▹ λ _. sim_most_at size q ▹ λ most. sim_take_text line stream (whole_line most) ▹ λ r. sim_store_text line path q r.reading.text h ▹ λ _. sim_get line stream more (back program may (path_acts Changing path) (taken_acts more) f)
      sim_get line stream (TakeCount size path e more) f =
          let g = back program may (path_acts Changing path) (scalar_acts e ++ taken_acts more) f in
          sim_bind (sim_changed line path (front program may (path_acts Changing path) (scalar_acts e ++ taken_acts more) f)) λ q h. sim_source_there line stream ▹ λ _. sim_number line e (front program may (scalar_acts e) (taken_acts more) g) ▹ λ z. sim_most_at size q ▹ λ most. sim_take_text line stream (count most z) ▹ λ r. sim_store_text line path q r.reading.text h ▹ λ _. sim_get line stream more (back program may (scalar_acts e) (taken_acts more) g)

      sim_quit : (line : ℕ) (e : Caught) (z : Option ℤ) → Stays c Flow Any (quit on_left line e z) (quit on_right line e z)
      sim_quit line e (Some z) = raises _ line
      sim_quit line None None = sim_found None
      sim_quit line (Some e) None = raises e.0 e.1

      sim_plain : (at : At) (line : ℕ) (s : Plain) → Fits program may (plain_acts at s) → Stays c Flow Any (execute_plain on_left line s) (execute_plain on_right line s)
      sim_plain at line (Assign target path e) f = sim_pay _ ▹ λ _. sim_bind (sim_changed line path (front program may (path_acts Changing path) (simple_acts e) f)) λ q h. sim_value line e (back program may (path_acts Changing path) (simple_acts e) f) ▹ λ v. sim_store line target path q v h ▹ λ _. sim_pay _ ▹ λ _. sim_give Next tt
      sim_plain at line (Copy m to from) f = sim_pay _ ▹ λ _. sim_bind (sim_changed line to (front program may (path_acts Changing to) (path_acts Reading from) f)) λ q h. sim_bind (sim_read line from (back program may (path_acts Changing to) (path_acts Reading from) f)) λ o good. sim_content_there o good ▹ λ content. sim_change _ _ (change_at to q h content) ▹ λ _. sim_pay _ ▹ λ _. sim_give Next tt
      sim_plain at line (Exit Absent) f = sim_pay _ ▹ λ _. sim_give Exits tt
      sim_plain at line (Exit (Present e)) f = sim_pay _ ▹ λ _. sim_truth_of line e f ▹ λ leaves. sim_give _ tt
      sim_plain at line Return f = sim_pay _ ▹ λ _. sim_give Returns tt
      sim_plain at line (Give target e) f = sim_pay _ ▹ λ _. sim_value line e f ▹ λ v. sim_unless_raised line _ ▹ λ _. sim_pay _ ▹ λ _. sim_give _ tt
      sim_plain at line (GiveCopy m path) f = sim_pay _ ▹ λ _. sim_bind (sim_read line path f) λ q good. sim_content_there q good ▹ λ content. sim_pay _ ▹ λ _. sim_give _ tt
      sim_plain at line (Check claim e) f = sim_pay _ ▹ λ _. sim_truth_of line e f ▹ λ holds. sim_demand _ line holds ▹ λ _. sim_give Next tt
      sim_plain at line (New j named path) f = sim_pay _ ▹ λ _. sim_bind (sim_changed line path f.1) λ q h. sim_found (slice_get program.collections j) ▹ λ m. sim_make_element line j _ ▹ λ i. sim_change _ _ (k.element c may ok j f.0 i) ▹ λ _. sim_change _ _ (change_at path q h (alone (Creation i))) ▹ λ _. sim_give Next tt
      sim_plain at line (Free j named path) f = sim_pay _ ▹ λ _. sim_bind (sim_changed line path (back program may (also_read named (subject_of path)) (path_acts Changing path) f.1)) λ q h. sim_value_there q h.2 ▹ λ v. sim_present line (pointer_in v) ▹ λ i. sim_living line j i ▹ λ _. sim_change _ _ (change_at path q h (alone (Creation 0))) ▹ λ _. sim_remove_element j i ▹ λ _. sim_give Next tt
      sim_plain at line (Tag m path e) f = sim_pay _ ▹ λ _. sim_bind (sim_changed line path (front program may (path_acts Changing path) (scalar_acts e) f)) λ q h. sim_number line e (back program may (path_acts Changing path) (scalar_acts e) f) ▹ λ z. sim_shape_at m ▹ λ s. sim_union_of s ▹ λ u. sim_shape_at u.0 ▹ λ tag. sim_span_of tag ▹ λ span. sim_unless_raised line _ ▹ λ _. sim_pay _ ▹ λ _. sim_change _ _ (change_at path q h (tagged z)) ▹ λ _. sim_give Next tt
      sim_plain at line (Put stream shown ends) f = sim_pay _ ▹ λ _. sim_some line stream (front program may (optional_acts stream) (shown_acts shown) f.1) ▹ λ j. evaluated c (λ bounds. sim_show p p' t program n perform perform' may known bounds (Good c) (Evaluating c bounds) words scalars taken (k.related c may ok bounds) line j shown (back program may (optional_acts stream) (shown_acts shown) f.1)) ▹ λ _. sim_end_line line j ends ▹ λ _. sim_give Next tt
      sim_plain at line (Get stream targets) f = sim_pay _ ▹ λ _. sim_some line stream (front program may (optional_acts stream) (taken_acts targets) f.1) ▹ λ j. sim_get line j targets (back program may (optional_acts stream) (taken_acts targets) f.1) ▹ λ _. sim_give Next tt
      sim_plain at line (OpenStream s path e is_put) f = sim_pay _ ▹ λ _. sim_bind (sim_changed line path (front program may (path_acts Changing path) (text_acts e) f.1)) λ q h. sim_bytes line e (back program may (path_acts Changing path) (text_acts e) f.1) ▹ λ name. sim_pay 64 ▹ λ _. sim_outside (open_stream is_put name) ▹ λ j. sim_store line (TakesScalar s) path q (Number (pos j)) h ▹ λ _. sim_give Next tt
      sim_plain at line (Close e) f = sim_pay _ ▹ λ _. sim_number line e f.1 ▹ λ j. sim_pay 64 ▹ λ _. sim_outside (close_stream j) ▹ λ kept. sim_keep_file line kept ▹ λ _. sim_give Next tt
      sim_plain at line (Do call) f = sim_pay _ ▹ λ _. sim_called line call f ▹ λ back'. sim_give Next tt
      sim_plain at line (Quit number) f = sim_pay _ ▹ λ _. sim_some line number f ▹ λ z. sim_quit line taken z

      sim_is_labelled : (labels : List ℤ) (z : ℤ) → Stays c Bool Any (is_labelled on_left labels z) (is_labelled on_right labels z)
      sim_is_labelled [] z = sim_give false tt
      sim_is_labelled (l ∷ more) z = sim_pay 1 ▹ λ _. sim_if (are_equal l z) (λ _. sim_give true tt) (λ _. sim_is_labelled more z)

      sim_test : (test' : Option Test) → Fits program may (test_acts test') → Stays c (Unit {0}) Any (test on_left test') (test on_right test')
      sim_test None f = sim_give tt tt
      sim_test (Some s) f = sim_pay 1 ▹ λ _. sim_truth_of s.at.line s.condition f ▹ λ holds. sim_demand _ s.at.line holds

      sim_round : (s : Option Test) (m : Step S Flow) (m' : Step S' Flow) → Fits program may (test_acts s) → Stays c Flow Any m m' → Stays c Flow Any (execute_round on_left s m) (execute_round on_right s m')
      sim_round s m m' f h = sim_test s f ▹ λ _. h

      sim_indexed : (x : ℕ) (m : Step S Flow) (m' : Step S' Flow) → may.declares (Local x) → Stays c Flow Any m m' → (z : ℤ) → Stays c Flow Any (execute_indexed on_left x m z) (execute_indexed on_right x m' z)
      sim_indexed x m m' f h z = sim_change _ _ (k.declare c may ok (Local x) f (holds (alone (Number z)))) ▹ λ _. h

      sim_arm : (m : Step S Flow) (m' : Step S' Flow) → Stays c Flow Any m m' → Stays c Flow Any (execute_arm on_left m) (execute_arm on_right m')
      sim_arm m m' h = sim_pay 1 ▹ λ _. h

      sim_begun : (at : At) (s : Statement) → Stays c (Unit {0}) Any (begun on_left at s) (begun on_right at s)
      sim_begun at s = sim_note _ ▹ λ _. sim_pay _

    sim_in_scope : (c : C) (m : Step S Flow) (m' : Step S' Flow) → Stays c Flow Any m m' → Stays c Flow Any (in_scope on_left m) (in_scope on_right m')
    sim_in_scope c m m' h = sim_scope _ _ _ _ (λ s r rel. rel) (λ o s o' r outer rel. rel) (λ o s o' r outer rel. rel) h

    -- a scope, whose name is bound to a place
    sim_bound : (c : C) (may : Leave) → Allows c may → (line : ℕ) (is_var : Bool) (path : Path) → Fits program may (path_acts (lending is_var) path) → Stays c Place (λ q. Good c q.root × RootAt path q.root × (is_var ≡ true → OfPath may.writes path)) (locate on_left line path) (locate on_right line path)
    sim_bound c may ok line is_var path f = evaluated c λ bounds. weaker (λ q found. (found.0, found.1, written is_var f)) (sim_lending p p' t program n perform perform' may known bounds (Good c) (Evaluating c bounds) words scalars taken (k.related c may ok bounds) line is_var path f)
      where
        written : (b : Bool) → Fits program may (path_acts (lending b) path) → b ≡ true → OfPath may.writes path
        written true f e = (changed_path program may path f).0
        written false f e = absurd (let h : false ≡ true = e in cc)

    root_at : (path : Path) (r : Root) (x : Subject) → subject_of path ≡ Some x → RootAt path r → RootOf x r
    root_at path r x e h = let M : Option Subject → Type 0 = λ o. elim o [ None ↦ (j : ℕ) × (r ≡ OfCall j) | Some y ↦ RootOf y r ] in subst M e h

    sim_bound_scope : (c : C) (may : Leave) → Allows c may → (is_var : Bool) (x : ℕ) (path : Path) (q : Place) → may.binds x path → Good c q.root × RootAt path q.root × (is_var ≡ true → OfPath may.writes path) → (m : Step S Flow) (m' : Step S' Flow) →
        ((subject : Subject) → subject_of path ≡ Some subject → (inner : C) → Allows inner (hide program may is_var x subject) → Stays inner Flow Any m m') → Stays c Flow Any (scope (p.bind is_var x q) (p.unbind is_var x q) m) (scope (p'.bind is_var x q) (p'.unbind is_var x q) m')
    sim_bound_scope c may ok is_var x path q can h m m' each = sim_at λ s r rel.
        let is = k.has_subject c may ok x path can in
        let b : Scoped c may is_var x q is.0 s r = k.binds c may ok is_var x path q is.0 can is.1 (root_at path q.root is.0 is.1 h.1) (λ t. h.2 t is.0 is.1) h.0 s r rel in
        sim_scope {Outer = R c} {Inner = R b.inner} {R = λ z z'. (z ≡ s) × (z' ≡ r)} {T = R b.inner} {U = R b.inner} {V = R c} {Q = Any} (p.bind is_var x q) (p.unbind is_var x q) (p'.bind is_var x q) (p'.unbind is_var x q)
        (λ z z' e. subst (λ y. R b.inner (p.bind is_var x q z) (p'.bind is_var x q y)) (sym e.1) (subst (λ y. R b.inner (p.bind is_var x q y) (p'.bind is_var x q r)) (sym e.0) b.opened))
        (λ o z o' z' e g. subst (λ y. R c (p.unbind is_var x q o z) (p'.unbind is_var x q y z')) (sym e.1) (subst (λ y. R c (p.unbind is_var x q y z) (p'.unbind is_var x q r z')) (sym e.0) (b.closed z z' g)))
        (λ o z o' z' e g. subst (λ y. R c (p.unbind is_var x q o z) (p'.unbind is_var x q y z')) (sym e.1) (subst (λ y. R c (p.unbind is_var x q y z) (p'.unbind is_var x q r z')) (sym e.0) (b.closed z z' g)))
        (each is.0 is.1 b.inner b.allows)

    mutual
      sim_execute : (c : C) (may : Leave) → Allows c may → (s : Statement) → Fits program may (statement_acts s) → Stays c Flow Any (execute on_left s) (execute on_right s)
      sim_execute c may ok (Simply at s) f = sim_note _ ▹ λ _. sim_plain c may ok at at.line s f
      sim_execute c may ok (If at e block otherwise) f =
          let g = back program may (scalar_acts e) (block_acts block ++ otherwise_acts otherwise) f in
          sim_begun c may ok at (If at e block otherwise) ▹ λ _. sim_truth_of c may ok at.line e (front program may (scalar_acts e) (block_acts block ++ otherwise_acts otherwise) f) ▹ λ holds. sim_if holds (λ _. sim_in_scope c _ _ (sim_parts c may ok block (front program may (block_acts block) (otherwise_acts otherwise) g))) (λ _. sim_otherwise c may ok otherwise (back program may (block_acts block) (otherwise_acts otherwise) g))
      sim_execute c may ok (Loop at invariant block) f = sim_begun c may ok at (Loop at invariant block) ▹ λ _. sim_rounds (omega arith) (joins scalars (Loop at invariant block)) n n (omega arith) _ _ (sim_round c may ok invariant _ _ (front program may (test_acts invariant) (block_acts block) f) (sim_in_scope c _ _ (sim_parts c may ok block (back program may (test_acts invariant) (block_acts block) f))))
      sim_execute c may ok (For at x decreasing range invariant block) f =
          let g = back program may (range_acts range) (test_acts invariant ++ block_acts block) f.1 in
          sim_begun c may ok at (For at x decreasing range invariant block) ▹ λ _. evaluated c (λ bounds. sim_first_and_count p p' t program n perform perform' may known bounds (Good c) (Evaluating c bounds) words scalars taken (k.related c may ok bounds) at.line decreasing range (front program may (range_acts range) (test_acts invariant ++ block_acts block) f.1)) ▹ λ q.
          sim_rounds_over (omega arith) (joins scalars (For at x decreasing range invariant block)) decreasing n n q.1 q.0 (omega arith) _ _ (sim_indexed c may ok x _ _ f.0 (sim_round c may ok invariant _ _ (front program may (test_acts invariant) (block_acts block) g) (sim_in_scope c _ _ (sim_parts c may ok block (back program may (test_acts invariant) (block_acts block) g)))))
      sim_execute c may ok (Case at e arms) f = sim_begun c may ok at (Case at e arms) ▹ λ _. sim_number c may ok at.line e (front program may (scalar_acts e) (arms_acts arms) f) ▹ λ z. sim_choose c may ok at.line z arms (back program may (scalar_acts e) (arms_acts arms) f)
      sim_execute c may ok (Begin at block) f = sim_begun c may ok at (Begin at block) ▹ λ _. sim_in_scope c _ _ (sim_parts c may ok block f)
      sim_execute c may ok (Module at fixed collections invariant line block) f =
          let clause : At = record { start = at.start; line = line } in
          sim_parts c may ok block (front program may (block_acts block) (invariant_acts clause invariant) f.1) ▹ λ flow. sim_kept c may ok line clause invariant (back program may (block_acts block) (invariant_acts clause invariant) f.1) ▹ λ _. sim_give flow tt

      sim_otherwise : (c : C) (may : Leave) → Allows c may → (otherwise : Otherwise) → Fits program may (otherwise_acts otherwise) → Stays c Flow Any (execute_otherwise on_left otherwise) (execute_otherwise on_right otherwise)
      sim_otherwise c may ok (Else block) f = sim_in_scope c _ _ (sim_parts c may ok block f)
      sim_otherwise c may ok (Elsif at e block more) f =
          let g = back program may (scalar_acts e) (block_acts block ++ otherwise_acts more) f in
          sim_pay 1 ▹ λ _. sim_truth_of c may ok at.line e (front program may (scalar_acts e) (block_acts block ++ otherwise_acts more) f) ▹ λ holds. sim_if holds (λ _. sim_in_scope c _ _ (sim_parts c may ok block (front program may (block_acts block) (otherwise_acts more) g))) (λ _. sim_otherwise c may ok more (back program may (block_acts block) (otherwise_acts more) g))

      sim_choose : (c : C) (may : Leave) → Allows c may → (line : ℕ) (z : ℤ) (arms : Arms) → Fits program may (arms_acts arms) → Stays c Flow Any (choose on_left line z arms) (choose on_right line z arms)
      sim_choose c may ok line z NoArm f = raises kind.Case line
      sim_choose c may ok line z (Default block) f = sim_arm c may ok _ _ (sim_in_scope c _ _ (sim_parts c may ok block f))
      sim_choose c may ok line z (Labelled labels block more) f = sim_is_labelled c may ok labels z ▹ λ hit. sim_if hit (λ _. sim_arm c may ok _ _ (sim_in_scope c _ _ (sim_parts c may ok block (front program may (block_acts block) (arms_acts more) f)))) (λ _. sim_choose c may ok line z more (back program may (block_acts block) (arms_acts more) f))

      pub sim_parts : (c : C) (may : Leave) → Allows c may → (block : Block) → Fits program may (block_acts block) → Stays c Flow Any (execute_parts on_left block) (execute_parts on_right block)
      sim_parts c may ok Empty f = sim_give Next tt
      sim_parts c may ok (Then s more) f = sim_execute c may ok s (front program may (statement_acts s) (block_acts more) f) ▹ λ flow. sim_and_then flow _ _ (sim_parts c may ok more (back program may (statement_acts s) (block_acts more) f))
      sim_parts c may ok (Declare at d more) f = sim_declare c may ok at at.line d (front program may (declaration_acts at d) (block_acts more) f) ▹ λ _. sim_parts c may ok more (back program may (declaration_acts at d) (block_acts more) f)
      sim_parts c may ok (Bind at x is_var path more) f =
          let b = back program may (path_acts (lending is_var) path) (Binding at x is_var path (length (block_acts more)) ∷ block_acts more) f in
          sim_pay 1 ▹ λ _. sim_bind (sim_bound c may ok at.line is_var path (front program may (path_acts (lending is_var) path) (Binding at x is_var path (length (block_acts more)) ∷ block_acts more) f)) λ q h.
          sim_bound_scope c may ok is_var x path q b.0.0 h _ _ (λ subject e inner allows. sim_parts inner (hide program may is_var x subject) allows more (hide_fits program may is_var x subject (block_acts more) b.0.1 b.0.2 (b.0.3 subject e) b.1))

  -- ---- routines

  sim_result_of : (c : C) (n line : ℕ) (flow : Flow) → Keeps S S' t (R c) n Back Any (result_of S p t program words line flow) (result_of S' p' t program words line flow)
  sim_result_of c n line Next = raises kind.Result line
  sim_result_of c n line Exits = raises kind.Result line
  sim_result_of c n line Returns = raises kind.Result line
  sim_result_of c n line (GivesBack b) = sim_give b tt

  sim_unless_missing : (c : C) (n line : ℕ) (result : CallResult) (flow : Flow) → Keeps S S' t (R c) n Back Any (unless_missing S p t program words line result flow) (unless_missing S' p' t program words line result flow)
  sim_unless_missing c n line Nothing flow = sim_give _ tt
  sim_unless_missing c n line (OneValue target) flow = sim_result_of c n line flow
  sim_unless_missing c n line (OnePlace shape) flow = sim_result_of c n line flow

  module _ (n : ℕ) (perform : Performs S) (perform' : Performs S') (k : Kept n perform perform') (c : C) (may : Leave) (ok : Allows c may) where
    sim_run_body : (taken : Caught) (r : Routine) (block : Block) → Fits program may (block_acts block) → Keeps S S' t (R c) n Back Any (run_body S p t program words n perform taken r block) (run_body S' p' t program words n perform' taken r block)
    sim_run_body taken r block f = sim_in_scope n perform perform' k (scalars_of program.shapes r) taken c _ _ (sim_parts n perform perform' k (scalars_of program.shapes r) taken c may ok block f) ▹ λ flow. sim_unless_missing c n r.end_line r.gives flow

    sim_run_handled : (r : Routine) (h : Handler) → Fits program may (handler_acts h) → Fits program may (block_acts r.body) → Keeps S S' t (R c) n Back Any (run_handled S p t program words n perform r h) (run_handled S' p' t program words n perform' r h)
    sim_run_handled r NoHandler g f = sim_run_body None r r.body f
    sim_run_handled r (Handles at name block) g f = sim_pay 2 ▹ λ _. sim_handled (sim_run_body None r r.body f) λ exception line. sim_pay 1 ▹ λ _. sim_change _ _ (k.declare c may ok (Local name) g.0 (holds (alone (Number (pos (kind_number exception)))))) ▹ λ _. sim_run_body (Some (exception, line)) r block g.1

    -- the result's name is one of the text's own
    abbrev pub NamesResult : Option ℕ → Type 0
    NamesResult None = Unit {0}
    NamesResult (Some x) = may.declares (Local x)

    sim_name_result : (x : Option ℕ) (b : Back) → NamesResult x → Keeps S S' t (R c) n (Unit {0}) Any (name_result S p t program words x b) (name_result S' p' t program words x b)
    sim_name_result None b f = sim_give tt tt
    sim_name_result (Some x) b f = sim_change _ _ (k.declare c may ok (Local x) f (holds (content_back b)))

    pub sim_run_routine : (r : Routine) → NamesResult r.result → Fits program may (block_acts r.before ++ (block_acts r.after ++ (handler_acts r.handler ++ block_acts r.body))) → Keeps S S' t (R c) n Back Any (run_routine S p t program words n perform r) (run_routine S' p' t program words n perform' r)
    sim_run_routine r named f =
        let g = back program may (block_acts r.before) (block_acts r.after ++ (handler_acts r.handler ++ block_acts r.body)) f in
        let h = back program may (block_acts r.after) (handler_acts r.handler ++ block_acts r.body) g in
        sim_parts n perform perform' k (scalars_of program.shapes r) None c may ok r.before (front program may (block_acts r.before) (block_acts r.after ++ (handler_acts r.handler ++ block_acts r.body)) f) ▹ λ begun'.
        sim_run_handled r r.handler (front program may (handler_acts r.handler) (block_acts r.body) h) (back program may (handler_acts r.handler) (block_acts r.body) h) ▹ λ back'. sim_name_result r.result back' named ▹ λ _.
        sim_parts n perform perform' k (scalars_of program.shapes r) None c may ok r.after (front program may (block_acts r.after) (handler_acts r.handler ++ block_acts r.body) g) ▹ λ checked. sim_give back' tt
