-- A program that passes the test of types is typed.
use Rattle.std.proofs.Common.{◌≡◌, ◌≢◌, ℕ, ◌==◌, Bool, true, false, not, ◌&&◌, List, Option, Some, None, if◌then◌else◌, take, refl, sym, subst}
use Rattle.std.specs.Prelude.{ℤ, is_some, is_none, slice_get}
use Rattle.std.specs.List.{list_all}
use Rattle.std.proofs.lemmas.Bool.{not-true}
use Rattle.tu_core.specs.declared.names.Variable.{Variable}
use Rattle.tu_core.specs.declared.names.Variable.TheVariants.{Global, Local}
use Rattle.tu_core.specs.declared.names.CallResult.TheVariants.{Nothing}
use Rattle.tu_core.specs.Core.{Path, Name, OpenItem, Element, ResultOf, Selectors, End, Field, VariantField, Item, Subscripts, NoSubscript, Subscript, Calls, Actuals, NoActual, Given, Lent, AScalar, AText, ASet, APointer, Start, WithValue, WithCopy, WithParts, Named, Routine, Program}
use Rattle.tu_core.specs.Targets.{are_same_indexes}
use Rattle.tu_core.specs.Places.{Names, main_names, names_of, has_some, local_name}
use Rattle.tu_core.specs.Rooms.{is_same}
use Rattle.tu_core.specs.Acts.{Subject, AVariable, ACollection, subject_of, Act, Reading, Changing, Naming, Talking, Calling, Binding, Declaring, Defining, Fixing, routine_acts, main_acts}
use Rattle.tu_core.specs.Effects.{changes, tails}
use Rattle.tu_core.specs.Constants.{Known, value_of, known_in, with_constants, is_declared, locals_of, global_constants, local_constants, constants_of}
use Rattle.tu_core.specs.Typed.{HaveValues, SelectorsHaveValues, PathHasValues, StartsWith, GetsItsValue, SelectAlike, AreAlike, AlikeWith, LendsRight, is_constant, IsVariable, IsOwn, CanChange, ActIsTyped, KeepsBound, TextIsTyped, IsTyped}
use Rattle.tu_core.specs.TypeTest.{unless, have_values, selectors_have_values, path_has_values, starts_with, gets_its_value, select_alike, are_alike, alike_with, lends_right, is_variable, is_own_name, can_change, act_is_typed, keeps_bound, text_is_typed, routine_is_typed, typed_with, is_typed}
use Rattle.tu_core.specs.Leaving.{exits_leave_loops, results_differ}
use Rattle.tu_core.specs.WellFormed.{is_formed, is_well_formed}
use Rattle.tu_core.proofs.Tests.{no_so, left, right, all_pass}
use Rattle.tu_core.proofs.Same.{passes, unless_so, is_nothing, same_number, equal_numbers, other_number, has_number, same_indexes, equal_variables, other_subject}

-- with these constants
module _ (known : Known) where
  values_had : (es : Subscripts) → have_values known es ≡ true → HaveValues known es
  values_had NoSubscript w = tt
  values_had (Subscript None e more) w = values_had more w
  values_had (Subscript (Some z) e more) w = (has_number (value_of known e) z (left _ _ w), values_had more (right _ _ w))

  selectors_had : (steps : Selectors) → selectors_have_values known steps ≡ true → SelectorsHaveValues known steps
  selectors_had End w = tt
  selectors_had (Field n k more) w = selectors_had more w
  selectors_had (VariantField n k more) w = selectors_had more w
  selectors_had (Item n es more) w = (values_had es (left _ _ w), selectors_had more (right _ _ w))

  path_had : (path : Path) → path_has_values known path ≡ true → PathHasValues known path
  path_had (Name at x steps) w = selectors_had steps w
  path_had (OpenItem at x indexes es steps) w = (values_had es (left _ _ w), selectors_had steps (right _ _ w))
  path_had (Element at c e steps) w = selectors_had steps w
  path_had (ResultOf at k call steps) w = selectors_had steps w

  started : (start : Start) (z : ℤ) → starts_with known start z ≡ true → StartsWith known start z
  started (WithValue target (AScalar e)) z w = has_number (value_of known e) z w
  started (WithValue target (AText e)) z w = no_so w
  started (WithValue target (ASet e)) z w = no_so w
  started (WithValue target (APointer e)) z w = no_so w
  started (WithCopy n path) z w = no_so w
  started (WithParts n starts) z w = no_so w

  value_got : (x : Named) → gets_its_value known x ≡ true → GetsItsValue known x
  value_got x w = by (known x.name) w
    where
      by : (v : Option ℤ) → (elim v as (λ _. Bool) [ None ↦ true | Some z ↦ starts_with known x.start z ]) ≡ true → elim v as (λ _. Type 0) [ None ↦ Unit {0} | Some z ↦ StartsWith known x.start z ]
      by None w = tt
      by (Some z) w = started x.start z w

alike_from : (xs ys : Selectors) → select_alike xs ys ≡ true → SelectAlike xs ys
alike_from End ys w = tt
alike_from (Field n k xs) End w = tt
alike_from (Field n k xs) (Field m j ys) w = λ e. alike_from xs ys (unless_so (k == j) (select_alike xs ys) w (equal_numbers k j e))
alike_from (Field n k xs) (VariantField m j ys) w = other_number k j w
alike_from (Field n k xs) (Item m es ys) w = no_so w
alike_from (VariantField n k xs) End w = tt
alike_from (VariantField n k xs) (Field m j ys) w = other_number k j w
alike_from (VariantField n k xs) (VariantField m j ys) w = λ e. alike_from xs ys (unless_so (k == j) (select_alike xs ys) w (equal_numbers k j e))
alike_from (VariantField n k xs) (Item m es ys) w = no_so w
alike_from (Item n ds xs) End w = tt
alike_from (Item n ds xs) (Field m j ys) w = no_so w
alike_from (Item n ds xs) (VariantField m j ys) w = no_so w
alike_from (Item n ds xs) (Item m es ys) w = (same_number n m (left (n == m) (select_alike xs ys) w), alike_from xs ys (right (n == m) (select_alike xs ys) w))

are_alike_from : (p q : Path) → are_alike p q ≡ true → AreAlike p q
are_alike_from (Name at x xs) (Name other y ys) w = λ e. alike_from xs ys (unless_so (is_same x y) (select_alike xs ys) w (equal_variables x y e))
are_alike_from (Name at x xs) (OpenItem other y others es ys) w = tt
are_alike_from (Name at x xs) (Element other d f ys) w = tt
are_alike_from (Name at x xs) (ResultOf other j call ys) w = tt
are_alike_from (OpenItem at x indexes ds xs) (Name other y ys) w = tt
are_alike_from (OpenItem at x indexes ds xs) (OpenItem other y others es ys) w = λ e.
    let so = unless_so (is_same x y) (are_same_indexes indexes others && select_alike xs ys) w (equal_variables x y e) in
    (same_indexes indexes others (left (are_same_indexes indexes others) (select_alike xs ys) so), alike_from xs ys (right (are_same_indexes indexes others) (select_alike xs ys) so))
are_alike_from (OpenItem at x indexes ds xs) (Element other d f ys) w = tt
are_alike_from (OpenItem at x indexes ds xs) (ResultOf other j call ys) w = tt
are_alike_from (Element at c e xs) (Name other y ys) w = tt
are_alike_from (Element at c e xs) (OpenItem other y others es ys) w = tt
are_alike_from (Element at c e xs) (Element other d f ys) w = λ same. alike_from xs ys (unless_so (c == d) (select_alike xs ys) w (equal_numbers c d same))
are_alike_from (Element at c e xs) (ResultOf other j call ys) w = tt
are_alike_from (ResultOf at k call xs) q w = tt

alike_with_from : (p : Path) (actuals : Actuals) → alike_with p actuals ≡ true → AlikeWith p actuals
alike_with_from p NoActual w = tt
alike_with_from p (Given at size e more) w = alike_with_from p more w
alike_with_from p (Lent at is_var bounds q more) w = (are_alike_from p q (left (are_alike p q) (alike_with p more) w), alike_with_from p more (right (are_alike p q) (alike_with p more) w))

lends : (known : Known) (actuals : Actuals) → lends_right known actuals ≡ true → LendsRight known actuals
lends known NoActual w = tt
lends known (Given at size e more) w = lends known more w
lends known (Lent at is_var bounds path more) w =
    let first = left (unless is_var (is_some (subject_of path))) (path_has_values known path && (alike_with path more && lends_right known more)) w in
    let others = right (unless is_var (is_some (subject_of path))) (path_has_values known path && (alike_with path more && lends_right known more)) w in
    let last = right (path_has_values known path) (alike_with path more && lends_right known more) others in
    (λ e. unless_so is_var (is_some (subject_of path)) first e, path_had known path (left (path_has_values known path) (alike_with path more && lends_right known more) others), alike_with_from path more (left (alike_with path more) (lends_right known more) last), lends known more (right (alike_with path more) (lends_right known more) last))

-- in a text of these names
module _ (names : Names) (is_routine : Bool) (known : Known) where
  variable_is : (x : Variable) → is_variable names is_routine known x ≡ true → IsVariable names is_routine known x
  variable_is (Global x) w = is_nothing (known (Global x)) w
  variable_is (Local x) w = (is_nothing (known (Local x)) (left (is_none (known (Local x))) (not (is_constant (slice_get names.formals x))) w), not-true (is_constant (slice_get names.formals x)) (right (is_none (known (Local x))) (not (is_constant (slice_get names.formals x))) w))

  own_is : (x : Variable) → is_own_name names is_routine known x ≡ true → IsOwn names is_routine known x
  own_is (Global x) w = not-true is_routine w
  own_is (Local x) w = w

  can_change_is : (x : Subject) → can_change names is_routine known x ≡ true → CanChange names is_routine known x
  can_change_is (AVariable x) w = variable_is x w
  can_change_is (ACollection c) w = tt

  act_is : (act : Act) → act_is_typed names is_routine known act ≡ true → ActIsTyped names is_routine known act
  act_is (Reading at x) w = tt
  act_is (Changing at x) w = can_change_is x w
  act_is (Naming at x) w = tt
  act_is (Talking at) w = tt
  act_is (Calling (Calls at callee invariant actuals)) w = lends known actuals w
  act_is (Binding at name is_var path extent) w = other_subject (subject_of path) (AVariable (Local name)) w
  act_is (Declaring at x) w = (variable_is x (left (is_variable names is_routine known x) (is_own_name names is_routine known x) w), own_is x (right (is_variable names is_routine known x) (is_own_name names is_routine known x) w))
  act_is (Defining at x) w = (own_is x.name (left (is_own_name names is_routine known x.name) (gets_its_value known x) w), value_got known x (right (is_own_name names is_routine known x.name) (gets_its_value known x) w))
  act_is (Fixing fixed extent) w = tt

  bound_is : (act : Act) (behind : List Act) → keeps_bound names is_routine known (act, behind) ≡ true → KeepsBound names is_routine known (act, behind)
  bound_is (Reading at x) behind w = tt
  bound_is (Changing at x) behind w = tt
  bound_is (Naming at x) behind w = tt
  bound_is (Talking at) behind w = tt
  bound_is (Calling call) behind w = tt
  bound_is (Binding at name true path extent) behind w = tt
  bound_is (Binding at name false path extent) behind w = λ act is. not-true (changes (AVariable (Local name)) act) (passes (λ act. not (changes (AVariable (Local name)) act)) (take extent behind) w act is)
  bound_is (Declaring at x) behind w = tt
  bound_is (Defining at x) behind w = tt
  bound_is (Fixing fixed extent) behind w = tt

  text_is : (acts : List Act) → ((x : ℕ) → known (Local x) ≢ None → has_some is_declared (local_name names x) ≡ true) → text_is_typed names is_routine known acts ≡ true → TextIsTyped names is_routine known acts
  text_is acts declared w = record {
    each = λ act is. act_is act (passes (act_is_typed names is_routine known) acts (left (list_all (act_is_typed names is_routine known) acts) (list_all (keeps_bound names is_routine known) (tails acts)) w) act is);
    bound = λ rest is. bound_is rest.0 rest.1 (passes (keeps_bound names is_routine known) (tails acts) (right (list_all (act_is_typed names is_routine known) acts) (list_all (keeps_bound names is_routine known) (tails acts)) w) rest is);
    declared = declared;
  }

-- only a declared name has a value
declared_is : (names : Names) (known : Known) (x : ℕ) → locals_of names known x ≢ None → has_some is_declared (local_name names x) ≡ true
declared_is names known x some = by (has_some is_declared (local_name names x)) (known (Local x)) some
  where
    by : (b : Bool) (v : Option ℤ) → (if b then v else None) ≢ None → b ≡ true
    by true v some = refl
    by false v some = absurd (some refl)

module _ (p : Program) (globals : ℕ → Option ℤ) where
  routine_is : (r : Routine) → routine_is_typed p globals r ≡ true → TextIsTyped (names_of p r Nothing false) true (known_in globals (local_constants p globals r)) (routine_acts r)
  routine_is r w = text_is (names_of p r Nothing false) true (known_in globals (local_constants p globals r)) (routine_acts r) (λ x some. declared_is (names_of p r Nothing false) (with_constants (known_in globals (λ x. None)) (routine_acts r)) x some) w

  routine_at : (n : ℕ) (r : Routine) → list_all (routine_is_typed p globals) p.routines ≡ true → slice_get p.routines n ≡ Some r → TextIsTyped (names_of p r Nothing false) true (known_in globals (constants_of p globals (slice_get p.routines n))) (routine_acts r)
  routine_at n r w e = subst (λ z. TextIsTyped (names_of p r Nothing false) true (known_in globals (constants_of p globals z)) (routine_acts r)) (sym e) (routine_is r (all_pass (routine_is_typed p globals) p.routines n r w e))

  typed : typed_with p globals ≡ true → IsTyped p
  typed w = record {
    globals = globals;
    locals = λ n. constants_of p globals (slice_get p.routines n);
    main = text_is (main_names p) false (known_in globals (λ x. None)) (main_acts p) (λ x some. absurd (some refl)) (left (text_is_typed (main_names p) false (known_in globals (λ x. None)) (main_acts p)) (list_all (routine_is_typed p globals) p.routines) w);
    routines = λ n r e. routine_at n r (right (text_is_typed (main_names p) false (known_in globals (λ x. None)) (main_acts p)) (list_all (routine_is_typed p globals) p.routines) w) e;
  }

pub well_formed_is_typed : (p : Program) → is_well_formed p ≡ true → IsTyped p
well_formed_is_typed p w = typed p (global_constants p) (right (exits_leave_loops p && results_differ p) (is_typed p) (right (is_formed p) ((exits_leave_loops p && results_differ p) && is_typed p) w))
