-- Forms that a type could show in more than one way.
use Rattle.std.specs.Prelude.{◌≡◌, ℕ, ℤ, true, List, [], ◌∷◌, Some, None}
use Rattle.std.proofs.Common.{refl}
use Rattle.tu_core.specs.declared.names.At.{At}
use Rattle.tu_core.specs.Core as core
use Rattle.tu_core_expressions.specs.declared.scalar.ScalarForm.TheVariants as scalar
use Rattle.tu_core_expressions.specs.declared.text.TextForm.TheVariants as text
use Rattle.tu_core_expressions.specs.declared.text.Cut.TheVariants as cut
use Rattle.tu_core_expressions.specs.declared.call.Actual.TheVariants as actual
use Rattle.tu_core_expressions.specs.declared.path.Selector.TheVariants as selector
use Rattle.tu_core_expressions.specs.declared.path.Root.TheVariants as root
use Rattle.tu_core_expressions.specs.ExpressionViews.{scalar_view, text_view, cuts_view, path_view, actuals_view}

-- the text in which another is looked for comes last
place_in : (n : ℕ) (pattern whole : core.Text) → scalar_view n (scalar.PlaceIn pattern whole) ≡ core.PlaceIn n pattern whole
place_in n pattern whole = refl

cut_part : (first end : core.Spot) → cuts_view (cut.CutPart first end ∷ []) ≡ core.CutPart first end core.NoCut
cut_part first end = refl

-- selectors go from left to right
two_fields : (at : At) → path_view at (root.Element 1 (core.Nil 0 at 1)) (selector.Field 2 3 ∷ (selector.VariantField 4 5 ∷ [])) ≡ core.Element at 1 (core.Nil 0 at 1) (core.Field 2 3 (core.VariantField 4 5 core.End))
two_fields at = refl

-- a width may be left out
width : (n : ℕ) (e k : core.Scalar) → text_view n (text.IntText e (Some k)) ≡ core.IntText n e (core.Present k)
width n e k = refl

no_width : (n : ℕ) (e : core.Scalar) → text_view n (text.IntText e None) ≡ core.IntText n e core.Absent
no_width n e = refl

-- a `var` actual stays one
lent : (at : At) (bounds : List ℤ) (p : core.Path) → actuals_view (actual.Lent at true (Some bounds) p ∷ []) ≡ core.Lent at true (Some bounds) p core.NoActual
lent at bounds p = refl

-- and the size for a formal of any size
given : (at : At) (size : ℕ) (e : core.Simple) → actuals_view (actual.Given at (Some size) e ∷ []) ≡ core.Given at (Some size) e core.NoActual
given at size e = refl
