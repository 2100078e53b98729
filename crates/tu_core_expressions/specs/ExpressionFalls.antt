-- Each part of an expression is lower than the expression.
use Rattle.std.specs.Prelude.{ℕ, ◌+◌, ◌≤◌, max, List, [], ◌∷◌, Some, None}
use Rattle.std.proofs.Common.{arith}
use denote.Param.Weighed.{most}
use Rattle.tu_core.specs.declared.names.At.{At}
use Rattle.tu_core.specs.Core.{Scalar, Text}
use Rattle.tu_core_expressions.specs.declared.scalar.ScalarForm.{ScalarForm}
use Rattle.tu_core_expressions.specs.declared.scalar.ScalarForm.TheVariants as scalar
use Rattle.tu_core_expressions.specs.declared.scalar.Link.{Link}
use Rattle.tu_core_expressions.specs.declared.scalar.Link.TheVariants as link
use Rattle.tu_core_expressions.specs.declared.text.TextForm.{TextForm}
use Rattle.tu_core_expressions.specs.declared.text.TextForm.TheVariants as text
use Rattle.tu_core_expressions.specs.declared.text.Cut.{Cut}
use Rattle.tu_core_expressions.specs.declared.text.Cut.TheVariants as cut
use Rattle.tu_core_expressions.specs.declared.text.SpotForm.{SpotForm}
use Rattle.tu_core_expressions.specs.declared.text.SpotForm.TheVariants as spot
use Rattle.tu_core_expressions.specs.declared.set.SetForm.{SetForm}
use Rattle.tu_core_expressions.specs.declared.set.SetForm.TheVariants as set
use Rattle.tu_core_expressions.specs.declared.set.SetLink.{SetLink}
use Rattle.tu_core_expressions.specs.declared.pointer.PointerForm.{PointerForm}
use Rattle.tu_core_expressions.specs.declared.pointer.PointerForm.TheVariants as pointer
use Rattle.tu_core_expressions.specs.declared.path.Root.{Root}
use Rattle.tu_core_expressions.specs.declared.path.Root.TheVariants as root
use Rattle.tu_core_expressions.specs.declared.path.Selector.{Selector}
use Rattle.tu_core_expressions.specs.declared.path.Selector.TheVariants as selector
use Rattle.tu_core_expressions.specs.declared.path.Subscript.{Subscript}
use Rattle.tu_core_expressions.specs.declared.call.Actual.{Actual}
use Rattle.tu_core_expressions.specs.declared.call.Actual.TheVariants as actual
use Rattle.tu_core_expressions.specs.declared.call.SimpleForm.{SimpleForm}
use Rattle.tu_core_expressions.specs.declared.call.SimpleForm.TheVariants as simple
use Rattle.tu_core_expressions.specs.declared.scalar.Scalar.TheInside as scalar_inside
use Rattle.tu_core_expressions.specs.declared.text.Text.TheInside as text_inside
use Rattle.tu_core_expressions.specs.declared.text.Spot.TheInside as spot_inside
use Rattle.tu_core_expressions.specs.declared.set.Set.TheInside as set_inside
use Rattle.tu_core_expressions.specs.declared.pointer.Pointer.TheInside as pointer_inside
use Rattle.tu_core_expressions.specs.declared.path.Path.TheInside as path_inside
use Rattle.tu_core_expressions.specs.declared.call.Call.TheInside as call_inside
use Rattle.tu_core_expressions.specs.declared.call.Simple.TheInside as simple_inside
use Rattle.tu_core_expressions.specs.declared.call.Call.TheDeep.{deep-Scalar, deep-ScalarForm, deep-Link, deep-Text, deep-TextForm, deep-Cut, deep-Spot, deep-SpotForm, deep-Set, deep-SetForm, deep-SetLink, deep-Pointer, deep-PointerForm, deep-Path, deep-Root, deep-Selector, deep-Subscript, deep-Call, deep-Actual, deep-Simple, deep-SimpleForm}
use Rattle.tu_core_expressions.specs.ExpressionHeights.{height_of_scalar, height_of_links, height_of_text, height_of_texts, height_of_cuts, height_of_spot, height_of_set, height_of_combinations, height_of_pointer, height_of_scalars, height_of_path, height_of_selectors, height_of_subscripts, height_of_call, height_of_actuals, height_of_simple}
use Rattle.tu_core_expressions.specs.ExpressionViews.{links_view, texts_view, cuts_view, combinations_view, scalars_view, subscripts_view, selectors_view, actuals_view, scalar_view, text_view, spot_view, set_view, pointer_view, path_view, call_view, simple_view}

pub links_fall : (xs : List Link) → most deep-Link xs ≤ height_of_links (links_view xs) + 1
links_fall [] = omega arith
links_fall (link.Operate operator e ∷ xs) = omega (arith, links_fall xs)
links_fall (link.Decide operator e ∷ xs) = omega (arith, links_fall xs)

pub texts_fall : (xs : List Text) → most (λ x. height_of_text x + 1) xs ≤ height_of_texts (texts_view xs) + 1
texts_fall [] = omega arith
texts_fall (x ∷ xs) = omega (arith, texts_fall xs)

pub cuts_fall : (xs : List Cut) → most deep-Cut xs ≤ height_of_cuts (cuts_view xs) + 1
cuts_fall [] = omega arith
cuts_fall (cut.CutCharacter i ∷ xs) = omega (arith, cuts_fall xs)
cuts_fall (cut.CutPart i j ∷ xs) = omega (arith, cuts_fall xs)

pub combinations_fall : (xs : List SetLink) → most deep-SetLink xs ≤ height_of_combinations (combinations_view xs) + 1
combinations_fall [] = omega arith
combinations_fall (x ∷ xs) = omega (arith, combinations_fall xs)

pub scalars_fall : (xs : List Scalar) → most (λ x. height_of_scalar x + 1) xs ≤ height_of_scalars (scalars_view xs) + 1
scalars_fall [] = omega arith
scalars_fall (x ∷ xs) = omega (arith, scalars_fall xs)

pub subscripts_fall : (xs : List Subscript) → most deep-Subscript xs ≤ height_of_subscripts (subscripts_view xs) + 1
subscripts_fall [] = omega arith
subscripts_fall (x ∷ xs) = omega (arith, subscripts_fall xs)

pub selectors_fall : (xs : List Selector) → most deep-Selector xs ≤ height_of_selectors (selectors_view xs) + 1
selectors_fall [] = omega arith
selectors_fall (selector.Field s k ∷ xs) = omega (arith, selectors_fall xs)
selectors_fall (selector.VariantField s k ∷ xs) = omega (arith, selectors_fall xs)
selectors_fall (selector.Item s es ∷ xs) = omega (arith, subscripts_fall es, selectors_fall xs)

pub actuals_fall : (xs : List Actual) → most deep-Actual xs ≤ height_of_actuals (actuals_view xs) + 1
actuals_fall [] = omega arith
actuals_fall (actual.Given at size e ∷ xs) = omega (arith, actuals_fall xs)
actuals_fall (actual.Lent at is_var bounds p ∷ xs) = omega (arith, actuals_fall xs)

pub scalar_form_falls : (n : ℕ) (f : ScalarForm) → deep-ScalarForm f ≤ height_of_scalar (scalar_view n f)
scalar_form_falls n (scalar.Literal z) = omega arith
scalar_form_falls n (scalar.Use p) = omega arith
scalar_form_falls n (scalar.Prefixed operators e) = omega arith
scalar_form_falls n (scalar.Chain e links) = omega (arith, links_fall links)
scalar_form_falls n (scalar.CompareTexts relation a b) = omega arith
scalar_form_falls n (scalar.CompareSets relation base a b) = omega arith
scalar_form_falls n (scalar.ComparePointers is_equal a b) = omega arith
scalar_form_falls n (scalar.Member is_wanted base e s) = omega arith
scalar_form_falls n (scalar.Length e) = omega arith
scalar_form_falls n (scalar.PlaceIn a b) = omega arith
scalar_form_falls n (scalar.ByteOf e) = omega arith
scalar_form_falls n (scalar.TextInt e) = omega arith
scalar_form_falls n (scalar.Bound is_upper indexes p None) = omega arith
scalar_form_falls n (scalar.Bound is_upper indexes p (Some e)) = omega arith
scalar_form_falls n (scalar.AtEnd at None) = omega arith
scalar_form_falls n (scalar.AtEnd at (Some e)) = omega arith
scalar_form_falls n (scalar.CallScalar call) = omega arith

pub scalar_falls : (a : scalar_inside.Inside) → deep-Scalar a ≤ height_of_scalar (scalar_view a.node a.form)
scalar_falls a = omega (arith, scalar_form_falls a.node a.form)

pub text_form_falls : (n : ℕ) (f : TextForm) → deep-TextForm f ≤ height_of_text (text_view n f)
text_form_falls n (text.Written bytes) = omega arith
text_form_falls n (text.UseText p) = omega arith
text_form_falls n (text.Joined e more) = omega (arith, texts_fall more)
text_form_falls n (text.Cut e cuts) = omega (arith, cuts_fall cuts)
text_form_falls n (text.Character e) = omega arith
text_form_falls n (text.IntText e None) = omega arith
text_form_falls n (text.IntText e (Some w)) = omega arith
text_form_falls n (text.Repeat e k) = omega arith
text_form_falls n (text.CallText call) = omega arith

pub text_falls : (a : text_inside.Inside) → deep-Text a ≤ height_of_text (text_view a.node a.form)
text_falls a = omega (arith, text_form_falls a.node a.form)

pub spot_form_falls : (f : SpotForm) → deep-SpotForm f ≤ height_of_spot (spot_view f)
spot_form_falls (spot.Exactly e) = omega arith
spot_form_falls spot.Last = omega arith
spot_form_falls (spot.BeforeLast e) = omega arith

pub spot_falls : (a : spot_inside.Inside) → deep-Spot a ≤ height_of_spot (spot_view a.form)
spot_falls a = omega (arith, spot_form_falls a.form)

pub set_form_falls : (n : ℕ) (f : SetForm) → deep-SetForm f ≤ height_of_set (set_view n f)
set_form_falls n (set.SetOf base es) = omega (arith, scalars_fall es)
set_form_falls n (set.FullSet base) = omega arith
set_form_falls n (set.UseSet p) = omega arith
set_form_falls n (set.Combined base e more) = omega (arith, combinations_fall more)
set_form_falls n (set.CallSet call) = omega arith

pub set_falls : (a : set_inside.Inside) → deep-Set a ≤ height_of_set (set_view a.node a.form)
set_falls a = omega (arith, set_form_falls a.node a.form)

pub pointer_form_falls : (n : ℕ) (f : PointerForm) → deep-PointerForm f ≤ height_of_pointer (pointer_view n f)
pointer_form_falls n (pointer.Nil at c) = omega arith
pointer_form_falls n (pointer.UsePointer p) = omega arith
pointer_form_falls n (pointer.CallPointer call) = omega arith

pub pointer_falls : (a : pointer_inside.Inside) → deep-Pointer a ≤ height_of_pointer (pointer_view a.node a.form)
pointer_falls a = omega (arith, pointer_form_falls a.node a.form)

pub root_falls : (at : At) (r : Root) (steps : List Selector) → max (deep-Root r) (most deep-Selector steps) ≤ height_of_path (path_view at r steps)
root_falls at (root.Name x) steps = omega (arith, selectors_fall steps)
root_falls at (root.OpenItem x indexes es) steps = omega (arith, subscripts_fall es, selectors_fall steps)
root_falls at (root.Element c e) steps = omega (arith, selectors_fall steps)
root_falls at (root.ResultOf k call) steps = omega (arith, selectors_fall steps)

pub path_falls : (a : path_inside.Inside) → deep-Path a ≤ height_of_path (path_view a.at a.root a.steps)
path_falls a = omega (arith, root_falls a.at a.root a.steps)

pub call_falls : (a : call_inside.Inside) → deep-Call a ≤ height_of_call (call_view a.at a.callee a.invariant a.actuals)
call_falls a = omega (arith, actuals_fall a.actuals)

pub simple_form_falls : (f : SimpleForm) → deep-SimpleForm f ≤ height_of_simple (simple_view f)
simple_form_falls (simple.AScalar e) = omega arith
simple_form_falls (simple.AText e) = omega arith
simple_form_falls (simple.ASet e) = omega arith
simple_form_falls (simple.APointer e) = omega arith

pub simple_falls : (a : simple_inside.Inside) → deep-Simple a ≤ height_of_simple (simple_view a.form)
simple_falls a = omega (arith, simple_form_falls a.form)
