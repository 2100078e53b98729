-- By reference equals by copying.
use Rattle.std.proofs.Common.{◌≡◌, ℕ, zero, suc, ◌<◌, Bool, true, false, not, ◌&&◌, ◌||◌, List, [], ◌∷◌, ◌++◌, ◌⊎◌, inl, inr, Option, Some, None, refl, sym, ◌∙◌, ap, subst, arith}
use Rattle.std.specs.Prelude.{ℤ, ◌==◌, slice_get, if◌then◌else◌}
use Rattle.std.proofs.lemmas.Bool.Decides.{nat_tests}
use Rattle.tu_base.specs.Values.{Way}
use Rattle.std.specs.List.{Contains, list_all}
use Rattle.tu_base.specs.Shapes.{all_words}
use Rattle.tu_base.specs.Streams.{Folder}
use Rattle.tu_core.specs.Core.{Routine, Program}
use Rattle.tu_core.specs.declared.names.Variable.{Variable}
use Rattle.tu_core.specs.declared.names.Variable.TheVariants.{Global, Local}
use Rattle.tu_core.specs.declared.names.LocalName.{LocalName}
use Rattle.tu_core.specs.declared.names.LocalName.TheVariants.{Declared, DeclaredArray, BoundName, BoundText, BoundArray, Counter, Caught, ResultName}
use Rattle.tu_core.specs.declared.names.CallResult.TheVariants.{Nothing}
use Rattle.tu_core.specs.Places.{Names, main_names, names_of, has_some, local_name, is_known, is_collection}
use Rattle.tu_core.specs.Rooms.{scalars_from}
use Rattle.tu_core.specs.WellFormed.{is_well_formed, good_block, good_routine, good_blocks, good_names, good_tables, good_result_name, good_formal, good_local, good_result, can_keep, is_result_name, is_formed}
use Rattle.tu_core.specs.Acts.{Subject, AVariable, ACollection, Act, routine_acts, main_acts}
use Rattle.tu_core.specs.Rules.{KeepsTheRules}
use Rattle.tu_core.specs.Constants.{is_declared, known_in}
use Rattle.tu_core.specs.Typed.{IsVariable, is_own, IsTyped}
use Rattle.tu_core.specs.Leaving.{exits_leave_loops, results_differ}
use Rattle.tu_core.specs.TypeTest.{is_typed}
use Rattle.tu_core.proofs.Tests.{no_so, left, right, all_pass}
use Rattle.tu_core.proofs.WellTyped.{well_formed_is_typed}
use Rattle.tu_meaning.specs.Steps.{lost, Added, Outcome, Done, Raised, Going, NoRule}
use Rattle.tu_meaning.specs.Expressions.{root_of, Performs}
use Rattle.tu_meaning.specs.Store.{Root, OfProgram, OfActivation, OfCall, OfCollection, Place, Actual, GivenValue, LentPlace, place_of, fetch, Store, unset_store, by_copying}
use Rattle.tu_meaning.specs.References.{Cells, unset_cells, by_reference}
use Rattle.tu_meaning.specs.Words.{Back, Flow}
use Rattle.tu_meaning.specs.Meaning.{GoesOn, meant}
use Rattle.tu_meaning.specs.Programs.{start, meaning, reference_meaning}
use Rattle.tu_meaning.specs.Subprograms.{execute_text, activation, calls}
use Rattle.tu_meaning.proofs.Alike.{Alike, IsOut, sim_stop, sim_turn}
use Rattle.tu_meaning.proofs.WordForms.{Any}
use Rattle.tu_alias.specs.Guarded.{are_one, begins as is_front, overlap, is_apart, are_apart, guarded_calls}
use Rattle.tu_alias.specs.Laws.{ReferenceIsCopying, RunsApart, CallsAreApart}
use Rattle.tu_alias_store.proofs.Ways.{ApartWays, ways_sym}
use Rattle.tu_alias_store.proofs.Stores.{Apart}
use Rattle.tu_alias_store.proofs.Lent.{Away, AllApart}
use Rattle.tu_alias_forms.proofs.Overlaps.{all_apart}
use Rattle.tu_alias_forms.proofs.Words.{IsUnsetOr, Keeps}
use Rattle.tu_alias_forms.proofs.Statements.{Evaluating, sim_parts}
use Rattle.tu_alias_texts.proofs.Fitting.{IsGood, leave_of_main, main_fits}
use Rattle.tu_alias_texts.proofs.GoodActs.{routine_acts_good, good_in, of_block}
use Rattle.tu_alias.proofs.ByReference.{Activation, Stores, Allowed, IsFree, KeepsBounds, CanRead, CallsAlike, kept_by, activation_of, calls_alike}

result_own : (o : Option LocalName) → has_some is_result_name o ≡ true → (has_some is_own o ≡ true) × (has_some is_declared o ≡ false)
result_own None e = no_so e
result_own (Some (Declared n)) e = no_so e
result_own (Some (DeclaredArray indexes component)) e = no_so e
result_own (Some (BoundName n)) e = no_so e
result_own (Some BoundText) e = no_so e
result_own (Some (BoundArray indexes component)) e = no_so e
result_own (Some (Counter s)) e = no_so e
result_own (Some Caught) e = no_so e
result_own (Some ResultName) e = (refl, refl)

result_named : (names : Names) (o : Option ℕ) → good_result_name names o ≡ true → (x : ℕ) → o ≡ Some x → (has_some is_own (local_name names x) ≡ true) × (has_some is_declared (local_name names x) ≡ false)
result_named names None e x is = absurd (let h : None ≡ Some x = is in cc)
result_named names (Some y) e x is = result_own (local_name names x) (subst (λ z. has_some is_result_name (local_name names z) ≡ true) (let h : Some y ≡ Some x = is in let s : y ≡ x = cc in s) e)

-- two runs with the same end mean the same
same_end : (t : ℕ) (R : Store → Cells → Type 0) (x : Added) (o : Outcome Store Flow) (r : Added × Outcome Cells Flow) → Alike Store Cells t t R 0 R Any x o r → meant r ≡ meant (x, o)
same_end t R x (Done a s) r h = ap (λ z. meant z) h.1
same_end t R x (Raised kind line s) r h = ap (λ z. meant z) h.1
same_end t R x (NoRule s) r h = ap (λ z. meant z) h.1
same_end t R x (Going s) r h = by r.1 h.0.reason
  where
    by : (e : Outcome Cells Flow) → (t < t) ⊎ ((x ≡ r.0) × IsOut e) → meant (r.0, e) ≡ meant {A = Flow} (x, Going s)
    by e (inl w) = absurd (omega (arith, w))
    by (Done a z) (inr e) = absurd e.1
    by (Raised kind line z) (inr e) = absurd e.1
    by (NoRule z) (inr e) = absurd e.1
    by (Going z) (inr e) = ap (λ (y : Added). record { trace = y.trace ++ []; standing = GoesOn; units = y.units; log = y.log }) (sym e.0)

-- ---- places that are apart do not overlap

one_root : (r q : Root) → are_one r q ≡ true → r ≡ q
one_root (OfProgram x) (OfProgram y) e = ap OfProgram (grind (arith, nat_tests, e))
one_root (OfProgram x) (OfActivation y) e = no_so e
one_root (OfProgram x) (OfCall y) e = no_so e
one_root (OfProgram x) (OfCollection d j) e = no_so e
one_root (OfActivation x) (OfProgram y) e = no_so e
one_root (OfActivation x) (OfActivation y) e = ap OfActivation (grind (arith, nat_tests, e))
one_root (OfActivation x) (OfCall y) e = no_so e
one_root (OfActivation x) (OfCollection d j) e = no_so e
one_root (OfCall x) (OfProgram y) e = no_so e
one_root (OfCall x) (OfActivation y) e = no_so e
one_root (OfCall x) (OfCall y) e = ap OfCall (grind (arith, nat_tests, e))
one_root (OfCall x) (OfCollection d j) e = no_so e
one_root (OfCollection c k) (OfProgram y) e = no_so e
one_root (OfCollection c k) (OfActivation y) e = no_so e
one_root (OfCollection c k) (OfCall y) e = no_so e
one_root (OfCollection c k) (OfCollection d j) e =
    let a : c ≡ d = same_number c d (left (c == d) (k == j) e) in let b : k ≡ j = same_number k j (right (c == d) (k == j) e) in
    ap (λ z. OfCollection z k) a ∙ ap (OfCollection d) b
  where
    same_number : (x y : ℕ) → (x == y) ≡ true → x ≡ y
    same_number x y e = grind (arith, nat_tests, e)

no_front : (p q : Way) → ApartWays p q → is_front p q ≡ false
no_front [] q a = absurd a
no_front (i ∷ p) [] a = refl
no_front (i ∷ p) (j ∷ q) (inl ne) = by (i == j) (grind (arith, nat_tests))
  where
    by : (b : Bool) → b ≡ false → (b && is_front p q) ≡ false
    by false e = refl
    by true e = absurd (let h : true ≡ false = e in cc)
no_front (i ∷ p) (j ∷ q) (inr more) = by (i == j) (no_front p q more.1)
  where
    by : (b : Bool) → is_front p q ≡ false → (b && is_front p q) ≡ false
    by true e = e
    by false e = refl

no_overlap : (p q : Place) → Apart p q → overlap p q ≡ false
no_overlap p q a = by (are_one p.root q.root) (one_root p.root q.root)
  where
    by : (b : Bool) → (b ≡ true → p.root ≡ q.root) → (b && (is_front p.way q.way || is_front q.way p.way)) ≡ false
    by false same = refl
    by true same = let w = a (same refl) in ap (λ z. z || is_front q.way p.way) (no_front p.way q.way w) ∙ no_front q.way p.way (ways_sym p.way q.way w)

both_so : (a b : Bool) → a ≡ false → b ≡ true → (not a && b) ≡ true
both_so false b e f = f
both_so true b e f = absurd (let h : true ≡ false = e in cc)

away_is_apart : (b : Bool) (p : Place) (given : List Actual) → Away b p given → is_apart b p given ≡ true
away_is_apart b p [] a = refl
away_is_apart b p (GivenValue bounds v ∷ more) a = away_is_apart b p more a
away_is_apart true p (LentPlace c bounds q ∷ more) a = both_so (overlap p q) (is_apart true p more) (no_overlap p q a.0) (away_is_apart true p more a.1)
away_is_apart false p (LentPlace false bounds q ∷ more) a = away_is_apart false p more a
away_is_apart false p (LentPlace true bounds q ∷ more) a = both_so (overlap p q) (is_apart false p more) (no_overlap p q a.0) (away_is_apart false p more a.1)

lent_apart : (given : List Actual) → AllApart given → are_apart given ≡ true
lent_apart [] a = refl
lent_apart (GivenValue bounds v ∷ more) a = lent_apart more a
lent_apart (LentPlace b bounds p ∷ more) a = by (is_apart b p more) (away_is_apart b p more a.0) (lent_apart more a.1)
  where
    by : (x : Bool) → x ≡ true → are_apart more ≡ true → (x && are_apart more) ≡ true
    by true e f = f
    by false e f = no_so e

module _ (program : Program) (formed : is_well_formed program ≡ true) (typed : IsTyped program) (rules : KeepsTheRules program) where
  is_formed_so : is_formed program ≡ true
  is_formed_so = left (is_formed program) ((exits_leave_loops program && results_differ program) && is_typed program) formed

  main_good : good_block (main_names program) program.main ≡ true
  main_good = left (good_block (main_names program) program.main) (list_all (good_routine program) program.routines && good_tables program) is_formed_so

  routine_good : (g : ℕ) (r : Routine) → slice_get program.routines g ≡ Some r → good_routine program r ≡ true
  routine_good g r e = all_pass (good_routine program) program.routines g r (left (list_all (good_routine program) program.routines) (good_tables program) (right (good_block (main_names program) program.main) (list_all (good_routine program) program.routines && good_tables program) is_formed_so)) e

  pub acts_good : (g : ℕ) (r : Routine) → slice_get program.routines g ≡ Some r → (act : Act) → Contains (routine_acts r) act → IsGood (names_of program r Nothing false) act
  acts_good g r e = routine_acts_good program r (left (good_blocks program r) (good_names (names_of program r Nothing false) r) (routine_good g r e))

  pub names_result : (g : ℕ) (r : Routine) → slice_get program.routines g ≡ Some r → (x : ℕ) → r.result ≡ Some x → (has_some is_own (local_name (names_of program r Nothing false) x) ≡ true) × (has_some is_declared (local_name (names_of program r Nothing false) x) ≡ false)
  names_result g r e x is =
      let names = names_of program r Nothing false in
      let all = right (good_blocks program r) (good_names names r) (routine_good g r e) in
      let some = right ((list_all (good_formal names) r.formals && list_all (good_local program) r.locals) && good_result names r.gives) ((good_result_name names r.result && (not r.is_invariant || can_keep r)) && (list_all (is_known names) r.fixed && list_all (is_collection names) r.fixed_collections)) all in
      let two = left (good_result_name names r.result && (not r.is_invariant || can_keep r)) (list_all (is_known names) r.fixed && list_all (is_collection names) r.fixed_collections) some in
      result_named names r.result (left (good_result_name names r.result) (not r.is_invariant || can_keep r) two) x is

  module _ (t : ℕ) where
    abbrev act : Activation program (all_words program.shapes) t typed.globals
    act = record { running = []; Bounds = λ f. Unit {0} }

    allowed : Allowed program (all_words program.shapes) t typed.globals (λ x. None) act (leave_of_main program (known_in typed.globals (λ x. None)))
    allowed = record {
      reads = λ x r h is. tt;
      writes = λ x r h is. tt;
      free = free;
      declares = λ v h. (tt, unknown v h.0, keeps v);
      defines = λ d h. (tt, h.1, keeps d.name);
      results = λ k. tt;
      reads_called = λ call p h i y r touch is. tt;
      writes_called = λ call p h i y r write is. tt;
      safe = λ call h. h;
      binds = λ x path h. h;
    }
      where
        unknown : (v : Variable) → IsVariable (main_names program) false (known_in typed.globals (λ x. None)) v → known_in typed.globals (λ x. None) v ≡ None
        unknown (Global x) h = h
        unknown (Local x) h = h.0

        free : (x : Subject) → (leave_of_main program (known_in typed.globals (λ x. None))).writes x → IsFree program (all_words program.shapes) t typed.globals (λ x. None) x
        free (AVariable x) h = unknown x h
        free (ACollection c) h = tt

        keeps : (v : Variable) → KeepsBounds program (all_words program.shapes) t typed.globals (λ x. None) (record { running = []; Bounds = λ f. Unit {0} }) v
        keeps (Global x) = λ f bounds h. tt
        keeps (Local x) = tt

    begins : Stores program (all_words program.shapes) t typed.globals (λ x. None) act unset_store unset_cells
    begins = record { related = (refl, λ y. refl); deep = refl; constants = constant; bounds = tt }
      where
        constant : (x : Variable) (z : ℤ) → known_in typed.globals (λ x. None) x ≡ Some z → IsUnsetOr (fetch unset_store (place_of (root_of x)) []) z
        constant (Global x) z e = inl refl
        constant (Local x) z e = inl refl

    -- over any calls that do the same
    same_meaning : (perform : Performs Store) (perform' : Performs Cells) → CallsAlike program (all_words program.shapes) t typed.globals t perform perform' → (input : List ℕ) (files : Option Folder) →
        meant (execute_text Cells by_reference t program (all_words program.shapes) t perform' (scalars_from program.shapes 0 program.locals) None program.main (start unset_cells (all_words program.shapes) program input files))
        ≡ meant (execute_text Store by_copying t program (all_words program.shapes) t perform (scalars_from program.shapes 0 program.locals) None program.main (start unset_store (all_words program.shapes) program input files))
    same_meaning perform perform' alike input files =
        let known = known_in typed.globals (λ x. None) in
        let on_left = execute_text Store by_copying t program (all_words program.shapes) t perform (scalars_from program.shapes 0 program.locals) None program.main (start unset_store (all_words program.shapes) program input files) in
        let sim = sim_parts by_copying by_reference t program (all_words program.shapes) known (Activation program (all_words program.shapes) t typed.globals) (Allowed program (all_words program.shapes) t typed.globals (λ x. None)) (Stores program (all_words program.shapes) t typed.globals (λ x. None)) (CanRead program (all_words program.shapes) t typed.globals)
        t perform perform' (kept_by program (all_words program.shapes) t typed.globals t perform perform' alike (λ x. None)) (scalars_from program.shapes 0 program.locals) None act (leave_of_main program known) allowed program.main
        (main_fits program rules typed.globals (λ x. None) typed.main (good_in (main_names program) (main_acts program) (of_block (main_names program) program.main main_good))) in
        same_end t (Stores program (all_words program.shapes) t typed.globals (λ x. None) act) on_left.0 on_left.1 (execute_text Cells by_reference t program (all_words program.shapes) t perform' (scalars_from program.shapes 0 program.locals) None program.main (start unset_cells (all_words program.shapes) program input files))
        (sim.by (start unset_store (all_words program.shapes) program input files) unset_cells (omega arith) (omega arith) begins)

    pub references_are_copies : (input : List ℕ) (files : Option Folder) → reference_meaning program input files t ≡ meaning program input files t
    references_are_copies input files = same_meaning (calls Store by_copying t program (all_words program.shapes) t) (calls Cells by_reference t program (all_words program.shapes) t) (calls_alike program (all_words program.shapes) t typed.globals typed rules refl acts_good names_result t) input files

    -- ---- with the tests that nothing overlaps

    copies_guarded : (n : ℕ) → CallsAlike program (all_words program.shapes) t typed.globals n (guarded_calls Store by_copying t program (all_words program.shapes) n) (calls Cells by_reference t program (all_words program.shapes) n)
    copies_guarded zero = record { alike = λ locals act may ok bounds line callee actuals given reads writes safe fit found passed. sim_stop }
    copies_guarded (suc n) = record {
      alike = λ locals act may ok bounds line callee actuals given reads writes safe fit found passed.
          let so : are_apart given ≡ true = lent_apart given (all_apart program.shapes bounds (known_in typed.globals locals) (λ q. CanRead program (all_words program.shapes) t typed.globals act q.root) actuals given safe.lends safe.none_shared passed found) in
          let m = activation Store by_copying t program (all_words program.shapes) n (guarded_calls Store by_copying t program (all_words program.shapes) n) line given (slice_get program.routines callee) in
          let m' = activation Cells by_reference t program (all_words program.shapes) n (calls Cells by_reference t program (all_words program.shapes) n) line given (slice_get program.routines callee) in
          let ρ = Evaluating by_copying by_reference t program (all_words program.shapes) (known_in typed.globals locals) (Activation program (all_words program.shapes) t typed.globals) (Allowed program (all_words program.shapes) t typed.globals locals) (Stores program (all_words program.shapes) t typed.globals locals) (CanRead program (all_words program.shapes) t typed.globals) act bounds in
          sim_turn (omega arith) λ _. subst (λ b. Keeps Store Cells t ρ n Back Any (if b then m else lost) m') (sym so)
          (activation_of program (all_words program.shapes) t typed.globals typed rules refl acts_good names_result n _ _ (copies_guarded n) locals act may ok bounds line callee actuals given reads writes safe fit found passed (slice_get program.routines callee) refl);
    }

    locations_guarded : (n : ℕ) → CallsAlike program (all_words program.shapes) t typed.globals n (calls Store by_copying t program (all_words program.shapes) n) (guarded_calls Cells by_reference t program (all_words program.shapes) n)
    locations_guarded zero = record { alike = λ locals act may ok bounds line callee actuals given reads writes safe fit found passed. sim_stop }
    locations_guarded (suc n) = record {
      alike = λ locals act may ok bounds line callee actuals given reads writes safe fit found passed.
          let so : are_apart given ≡ true = lent_apart given (all_apart program.shapes bounds (known_in typed.globals locals) (λ q. CanRead program (all_words program.shapes) t typed.globals act q.root) actuals given safe.lends safe.none_shared passed found) in
          let m = activation Store by_copying t program (all_words program.shapes) n (calls Store by_copying t program (all_words program.shapes) n) line given (slice_get program.routines callee) in
          let m' = activation Cells by_reference t program (all_words program.shapes) n (guarded_calls Cells by_reference t program (all_words program.shapes) n) line given (slice_get program.routines callee) in
          let ρ = Evaluating by_copying by_reference t program (all_words program.shapes) (known_in typed.globals locals) (Activation program (all_words program.shapes) t typed.globals) (Allowed program (all_words program.shapes) t typed.globals locals) (Stores program (all_words program.shapes) t typed.globals locals) (CanRead program (all_words program.shapes) t typed.globals) act bounds in
          sim_turn (omega arith) λ _. subst (λ b. Keeps Store Cells t ρ n Back Any m (if b then m' else lost)) (sym so)
          (activation_of program (all_words program.shapes) t typed.globals typed rules refl acts_good names_result n _ _ (locations_guarded n) locals act may ok bounds line callee actuals given reads writes safe fit found passed (slice_get program.routines callee) refl);
    }

    pub runs_apart : (input : List ℕ) (files : Option Folder) → RunsApart program input files t
    runs_apart input files = record {
      by_copies = sym (same_meaning _ _ (copies_guarded t) input files) ∙ references_are_copies input files;
      by_locations = same_meaning _ _ (locations_guarded t) input files ∙ sym (references_are_copies input files);
    }

pub reference_is_copying : (program : Program) → ReferenceIsCopying program
reference_is_copying program formed rules input files t = references_are_copies program formed (well_formed_is_typed program formed) rules t input files

pub calls_are_apart : (program : Program) → CallsAreApart program
calls_are_apart program formed rules input files t = runs_apart program formed (well_formed_is_typed program formed) rules t input files
