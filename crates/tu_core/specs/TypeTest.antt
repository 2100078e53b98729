-- The test of what the rules on overlap rest on, with the values of the constants that a program declares.
use Rattle.std.specs.Prelude.{ℕ, ◌==◌, Bool, true, false, not, ◌&&◌, List, take, slice_get, is_some, is_none, Option, Some, None, ℤ}
use Rattle.std.specs.List.{list_all}
use Rattle.tu_base.specs.Scalars.{are_equal}
use Rattle.tu_core.specs.Core.{Scalar, Path, Name, OpenItem, Element, ResultOf, Selectors, End, Field, VariantField, Item, Subscripts, NoSubscript, Subscript, Call, Calls, Actuals, NoActual, Given, Lent, AScalar, Start, WithValue, Named, Routine, Program}
use Rattle.tu_core.specs.declared.names.Variable.{Variable}
use Rattle.tu_core.specs.declared.names.Variable.TheVariants.{Global, Local}
use Rattle.tu_core.specs.declared.names.CallResult.TheVariants.{Nothing}
use Rattle.tu_core.specs.Targets.{are_same_indexes}
use Rattle.tu_core.specs.Places.{Names, main_names, names_of, has_some, local_name}
use Rattle.tu_core.specs.Rooms.{is_same}
use Rattle.tu_core.specs.Constants.{Known, value_of, known_in, global_constants, local_constants}
use Rattle.tu_core.specs.Acts.{Subject, AVariable, ACollection, subject_of, Act, Changing, Calling, Binding, Declaring, Defining, routine_acts, main_acts}
use Rattle.tu_core.specs.Effects.{is_one, changes, tails}
use Rattle.tu_core.specs.Typed.{is_constant, is_own}

-- either the test does not hold, or the other one does
abbrev pub unless : (test other : Bool) → Bool
unless true other = other
unless false other = true

module _ (known : Known) where
  abbrev pub has_value : ℤ → Scalar → Bool
  has_value z e = has_some (are_equal z) (value_of known e)

  abbrev pub have_values : Subscripts → Bool
  have_values NoSubscript = true
  have_values (Subscript None e more) = have_values more
  have_values (Subscript (Some z) e more) = has_value z e && have_values more

  abbrev pub selectors_have_values : Selectors → Bool
  selectors_have_values End = true
  selectors_have_values (Field n k more) = selectors_have_values more
  selectors_have_values (VariantField n k more) = selectors_have_values more
  selectors_have_values (Item n es more) = have_values es && selectors_have_values more

  abbrev pub path_has_values : Path → Bool
  path_has_values (Name at x steps) = selectors_have_values steps
  path_has_values (OpenItem at x indexes es steps) = have_values es && selectors_have_values steps
  path_has_values (Element at c e steps) = selectors_have_values steps
  path_has_values (ResultOf at k call steps) = selectors_have_values steps

  abbrev pub starts_with : Start → ℤ → Bool
  starts_with (WithValue target (AScalar e)) z = has_value z e
  starts_with start z = false

  abbrev pub gets_its_value : Named → Bool
  gets_its_value x = elim (known x.name) [ None ↦ true | Some z ↦ starts_with x.start z ]

abbrev pub select_alike : Selectors → Selectors → Bool
select_alike End ys = true
select_alike (Field n k xs) End = true
select_alike (Field n k xs) (Field m j ys) = unless (k == j) (select_alike xs ys)
select_alike (Field n k xs) (VariantField m j ys) = not (k == j)
select_alike (Field n k xs) (Item m es ys) = false
select_alike (VariantField n k xs) End = true
select_alike (VariantField n k xs) (Field m j ys) = not (k == j)
select_alike (VariantField n k xs) (VariantField m j ys) = unless (k == j) (select_alike xs ys)
select_alike (VariantField n k xs) (Item m es ys) = false
select_alike (Item n ds xs) End = true
select_alike (Item n ds xs) (Field m j ys) = false
select_alike (Item n ds xs) (VariantField m j ys) = false
select_alike (Item n ds xs) (Item m es ys) = (n == m) && select_alike xs ys

abbrev pub are_alike : Path → Path → Bool
are_alike (Name at x xs) (Name other y ys) = unless (is_same x y) (select_alike xs ys)
are_alike (OpenItem at x indexes ds xs) (OpenItem other y others es ys) = unless (is_same x y) (are_same_indexes indexes others && select_alike xs ys)
are_alike (Element at c e xs) (Element other d f ys) = unless (c == d) (select_alike xs ys)
are_alike p q = true

abbrev pub alike_with : Path → Actuals → Bool
alike_with p NoActual = true
alike_with p (Given at size e more) = alike_with p more
alike_with p (Lent at is_var bounds q more) = are_alike p q && alike_with p more

abbrev pub lends_right : Known → Actuals → Bool
lends_right known NoActual = true
lends_right known (Given at size e more) = lends_right known more
lends_right known (Lent at is_var bounds path more) = unless is_var (is_some (subject_of path)) && (path_has_values known path && (alike_with path more && lends_right known more))

-- In a text of these names, of a routine or of the program, with these known constants.
module _ (names : Names) (is_routine : Bool) (known : Known) where
  abbrev pub is_variable : Variable → Bool
  is_variable (Global x) = is_none (known (Global x))
  is_variable (Local x) = is_none (known (Local x)) && not (is_constant (slice_get names.formals x))

  abbrev pub is_own_name : Variable → Bool
  is_own_name (Global x) = not is_routine
  is_own_name (Local x) = has_some is_own (local_name names x)

  abbrev pub can_change : Subject → Bool
  can_change (AVariable x) = is_variable x
  can_change (ACollection c) = true

  abbrev pub can_call : Call → Bool
  can_call (Calls at callee invariant actuals) = lends_right known actuals

  abbrev pub act_is_typed : Act → Bool
  act_is_typed (Changing at x) = can_change x
  act_is_typed (Calling call) = can_call call
  act_is_typed (Binding at name is_var path extent) = has_some (λ x. not (is_one x (AVariable (Local name)))) (subject_of path)
  act_is_typed (Declaring at x) = is_variable x && is_own_name x
  act_is_typed (Defining at x) = is_own_name x.name && gets_its_value known x
  act_is_typed act = true

  abbrev pub keeps_bound : Act × List Act → Bool
  keeps_bound (Binding at name false path extent, behind) = list_all (λ act. not (changes (AVariable (Local name)) act)) (take extent behind)
  keeps_bound (act, behind) = true

  abbrev pub text_is_typed : List Act → Bool
  text_is_typed acts = list_all act_is_typed acts && list_all keeps_bound (tails acts)

abbrev pub routine_is_typed : Program → (globals : ℕ → Option ℤ) → Routine → Bool
routine_is_typed p globals r = text_is_typed (names_of p r Nothing false) true (known_in globals (local_constants p globals r)) (routine_acts r)

abbrev pub typed_with : Program → (globals : ℕ → Option ℤ) → Bool
typed_with p globals = text_is_typed (main_names p) false (known_in globals (λ x. None)) (main_acts p) && list_all (routine_is_typed p globals) p.routines

abbrev pub is_typed : Program → Bool
is_typed p = typed_with p (global_constants p)
