-- The acts of rows of expressions are those of their elements.
use Rattle.std.specs.Prelude.{List}
use Rattle.tu_core.specs.Core.{Scalar, Text}
use Rattle.tu_core.specs.Acts.{Act, links_acts, texts_acts, cuts_acts, combinations_acts, scalars_acts, selectors_acts, subscripts_acts, actuals_acts}
use Rattle.tu_core_expressions.specs.declared.scalar.Link.{Link}
use Rattle.tu_core_expressions.specs.declared.text.Cut.{Cut}
use Rattle.tu_core_expressions.specs.declared.set.SetLink.{SetLink}
use Rattle.tu_core_expressions.specs.declared.path.Selector.{Selector}
use Rattle.tu_core_expressions.specs.declared.path.Subscript.{Subscript}
use Rattle.tu_core_expressions.specs.declared.call.Actual.{Actual}
use Rattle.tu_core_expressions.specs.ExpressionViews.{links_view, texts_view, cuts_view, combinations_view, scalars_view, selectors_view, subscripts_view, actuals_view}

abbrev pub all_links : List Link → List Act
all_links xs = links_acts (links_view xs)

abbrev pub all_texts : List Text → List Act
all_texts xs = texts_acts (texts_view xs)

abbrev pub all_cuts : List Cut → List Act
all_cuts xs = cuts_acts (cuts_view xs)

abbrev pub all_sets : List SetLink → List Act
all_sets xs = combinations_acts (combinations_view xs)

abbrev pub all_scalars : List Scalar → List Act
all_scalars xs = scalars_acts (scalars_view xs)

abbrev pub all_selectors : List Selector → List Act
all_selectors xs = selectors_acts (selectors_view xs)

abbrev pub all_subscripts : List Subscript → List Act
all_subscripts xs = subscripts_acts (subscripts_view xs)

abbrev pub all_actuals : List Actual → List Act
all_actuals xs = actuals_acts (actuals_view xs)
