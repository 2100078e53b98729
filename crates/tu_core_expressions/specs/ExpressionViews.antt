-- Each type of an expression as the form of the core that it stands for.
use Rattle.std.specs.Prelude.{ℕ, List, [], ◌∷◌, Option, Some, None}
use Rattle.tu_core.specs.declared.names.At.{At}
use Rattle.tu_core.specs.Core as core
use Rattle.tu_core_expressions.specs.declared.scalar.ScalarForm.{ScalarForm}
use Rattle.tu_core_expressions.specs.declared.scalar.ScalarForm.TheVariants as scalar
use Rattle.tu_core_expressions.specs.declared.scalar.Link.{Link}
use Rattle.tu_core_expressions.specs.declared.scalar.Link.TheVariants as link
use Rattle.tu_core_expressions.specs.declared.text.TextForm.{TextForm}
use Rattle.tu_core_expressions.specs.declared.text.TextForm.TheVariants as text
use Rattle.tu_core_expressions.specs.declared.text.Cut.{Cut}
use Rattle.tu_core_expressions.specs.declared.text.Cut.TheVariants as cut
use Rattle.tu_core_expressions.specs.declared.text.SpotForm.{SpotForm}
use Rattle.tu_core_expressions.specs.declared.text.SpotForm.TheVariants as spot
use Rattle.tu_core_expressions.specs.declared.set.SetForm.{SetForm}
use Rattle.tu_core_expressions.specs.declared.set.SetForm.TheVariants as set
use Rattle.tu_core_expressions.specs.declared.set.SetLink.{SetLink}
use Rattle.tu_core_expressions.specs.declared.pointer.PointerForm.{PointerForm}
use Rattle.tu_core_expressions.specs.declared.pointer.PointerForm.TheVariants as pointer
use Rattle.tu_core_expressions.specs.declared.path.Root.{Root}
use Rattle.tu_core_expressions.specs.declared.path.Root.TheVariants as root
use Rattle.tu_core_expressions.specs.declared.path.Selector.{Selector}
use Rattle.tu_core_expressions.specs.declared.path.Selector.TheVariants as selector
use Rattle.tu_core_expressions.specs.declared.path.Subscript.{Subscript}
use Rattle.tu_core_expressions.specs.declared.call.Actual.{Actual}
use Rattle.tu_core_expressions.specs.declared.call.Actual.TheVariants as actual
use Rattle.tu_core_expressions.specs.declared.call.SimpleForm.{SimpleForm}
use Rattle.tu_core_expressions.specs.declared.call.SimpleForm.TheVariants as simple

-- rows
abbrev pub links_view : List Link → core.Links
links_view [] = core.NoLink
links_view (link.Operate operator e ∷ more) = core.Link operator e (links_view more)
links_view (link.Decide operator e ∷ more) = core.Decide operator e (links_view more)

abbrev pub texts_view : List core.Text → core.Texts
texts_view [] = core.NoText
texts_view (e ∷ more) = core.AndText e (texts_view more)

abbrev pub cuts_view : List Cut → core.Cuts
cuts_view [] = core.NoCut
cuts_view (cut.CutCharacter i ∷ more) = core.CutCharacter i (cuts_view more)
cuts_view (cut.CutPart i j ∷ more) = core.CutPart i j (cuts_view more)

abbrev pub combinations_view : List SetLink → core.Combinations
combinations_view [] = core.NoSet
combinations_view (x ∷ more) = core.AndSet x.operator x.set (combinations_view more)

abbrev pub scalars_view : List core.Scalar → core.Scalars
scalars_view [] = core.NoScalar
scalars_view (e ∷ more) = core.AndScalar e (scalars_view more)

abbrev pub subscripts_view : List Subscript → core.Subscripts
subscripts_view [] = core.NoSubscript
subscripts_view (x ∷ more) = core.Subscript x.constant x.index (subscripts_view more)

abbrev pub selectors_view : List Selector → core.Selectors
selectors_view [] = core.End
selectors_view (selector.Field shape k ∷ more) = core.Field shape k (selectors_view more)
selectors_view (selector.VariantField shape k ∷ more) = core.VariantField shape k (selectors_view more)
selectors_view (selector.Item shape es ∷ more) = core.Item shape (subscripts_view es) (selectors_view more)

abbrev pub actuals_view : List Actual → core.Actuals
actuals_view [] = core.NoActual
actuals_view (actual.Given at size e ∷ more) = core.Given at size e (actuals_view more)
actuals_view (actual.Lent at is_var bounds p ∷ more) = core.Lent at is_var bounds p (actuals_view more)

-- forms
abbrev pub optional_view : Option core.Scalar → core.Optional
optional_view None = core.Absent
optional_view (Some e) = core.Present e

abbrev pub scalar_view : (node : ℕ) → ScalarForm → core.Scalar
scalar_view n (scalar.Literal z) = core.Literal n z
scalar_view n (scalar.Use p) = core.Use n p
scalar_view n (scalar.Prefixed operators e) = core.Prefixed n operators e
scalar_view n (scalar.Chain e links) = core.Chain n e (links_view links)
scalar_view n (scalar.CompareTexts relation a b) = core.CompareTexts n relation a b
scalar_view n (scalar.CompareSets relation base a b) = core.CompareSets n relation base a b
scalar_view n (scalar.ComparePointers is_equal a b) = core.ComparePointers n is_equal a b
scalar_view n (scalar.Member is_wanted base e s) = core.Member n is_wanted base e s
scalar_view n (scalar.Length e) = core.Length n e
scalar_view n (scalar.PlaceIn a b) = core.PlaceIn n a b
scalar_view n (scalar.ByteOf e) = core.ByteOf n e
scalar_view n (scalar.TextInt e) = core.TextInt n e
scalar_view n (scalar.Bound is_upper indexes p dimension) = core.Bound n is_upper indexes p (optional_view dimension)
scalar_view n (scalar.AtEnd at stream) = core.AtEnd n at (optional_view stream)
scalar_view n (scalar.CallScalar call) = core.CallScalar n call

abbrev pub text_view : (node : ℕ) → TextForm → core.Text
text_view n (text.Written bytes) = core.Written n bytes
text_view n (text.UseText p) = core.UseText n p
text_view n (text.Joined e more) = core.Joined n e (texts_view more)
text_view n (text.Cut e cuts) = core.Cut n e (cuts_view cuts)
text_view n (text.Character e) = core.Character n e
text_view n (text.IntText e width) = core.IntText n e (optional_view width)
text_view n (text.Repeat e k) = core.Repeat n e k
text_view n (text.CallText call) = core.CallText n call

abbrev pub spot_view : SpotForm → core.Spot
spot_view (spot.Exactly e) = core.Exactly e
spot_view spot.Last = core.Last
spot_view (spot.BeforeLast e) = core.BeforeLast e

abbrev pub set_view : (node : ℕ) → SetForm → core.Set
set_view n (set.SetOf base es) = core.SetOf n base (scalars_view es)
set_view n (set.FullSet base) = core.FullSet n base
set_view n (set.UseSet p) = core.UseSet n p
set_view n (set.Combined base e more) = core.Combined n base e (combinations_view more)
set_view n (set.CallSet call) = core.CallSet n call

abbrev pub pointer_view : (node : ℕ) → PointerForm → core.Pointer
pointer_view n (pointer.Nil at c) = core.Nil n at c
pointer_view n (pointer.UsePointer p) = core.UsePointer n p
pointer_view n (pointer.CallPointer call) = core.CallPointer n call

abbrev pub path_view : At → Root → List Selector → core.Path
path_view at (root.Name x) steps = core.Name at x (selectors_view steps)
path_view at (root.OpenItem x indexes es) steps = core.OpenItem at x indexes (subscripts_view es) (selectors_view steps)
path_view at (root.Element c e) steps = core.Element at c e (selectors_view steps)
path_view at (root.ResultOf k call) steps = core.ResultOf at k call (selectors_view steps)

abbrev pub call_view : At → (callee : ℕ) → Option ℕ → List Actual → core.Call
call_view at callee invariant actuals = core.Calls at callee invariant (actuals_view actuals)

abbrev pub simple_view : SimpleForm → core.Simple
simple_view (simple.AScalar e) = core.AScalar e
simple_view (simple.AText e) = core.AText e
simple_view (simple.ASet e) = core.ASet e
simple_view (simple.APointer e) = core.APointer e
