-- What one element of a row adds to the sum of the row.
use Rattle.std.specs.Prelude.{[], ◌∷◌}
use Rattle.tu_core.specs.Core.{Text}
use Rattle.tu_core.specs.Measures.{Measure, of_scalar, of_text, of_spot, of_set, of_path, of_simple, of_subscripts}
use Rattle.tu_core_expressions.specs.declared.scalar.Link.{Link}
use Rattle.tu_core_expressions.specs.declared.scalar.Link.TheVariants as link
use Rattle.tu_core_expressions.specs.declared.text.Cut.{Cut}
use Rattle.tu_core_expressions.specs.declared.text.Cut.TheVariants as cut
use Rattle.tu_core_expressions.specs.declared.set.SetLink.{SetLink}
use Rattle.tu_core_expressions.specs.declared.path.Selector.{Selector}
use Rattle.tu_core_expressions.specs.declared.path.Selector.TheVariants as selector
use Rattle.tu_core_expressions.specs.declared.call.Actual.{Actual}
use Rattle.tu_core_expressions.specs.declared.call.Actual.TheVariants as actual
use Rattle.tu_core_expressions.specs.ExpressionViews.{subscripts_view, actuals_view}

module _ {A : Type 0} (m : Measure A) where
  abbrev pub one_link : Link → A
  one_link (link.Operate operator e) = m.plus m.link (of_scalar m e)
  one_link (link.Decide operator e) = m.plus m.link (of_scalar m e)

  abbrev pub one_text : Text → A
  one_text e = m.plus m.link (of_text m e)

  abbrev pub one_cut : Cut → A
  one_cut (cut.CutCharacter i) = m.plus m.selector (of_spot m i)
  one_cut (cut.CutPart i j) = m.plus m.selector (m.plus (of_spot m i) (of_spot m j))

  abbrev pub one_set : SetLink → A
  one_set x = m.plus m.link (of_set m x.set)

  abbrev pub one_selector : Selector → A
  one_selector (selector.Field shape k) = m.selector
  one_selector (selector.VariantField shape k) = m.selector
  one_selector (selector.Item shape es) = m.plus m.selector (of_subscripts m (subscripts_view es))

  abbrev pub one_actual : Actual → A
  one_actual (actual.Given at size e) = m.plus (m.actual (actuals_view (actual.Given at size e ∷ []))) (of_simple m e)
  one_actual (actual.Lent at is_var bounds p) = m.plus (m.actual (actuals_view (actual.Lent at is_var bounds p ∷ []))) (of_path m p)
