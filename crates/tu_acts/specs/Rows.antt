-- The acts of one element of a row.
use Rattle.std.specs.Prelude.{ℕ, List, [], ◌∷◌, ◌++◌}
use Rattle.tu_core.specs.Acts.{Act, Changing, Binding, declaration_acts, lending, optional_acts, path_acts, scalar_acts, simple_acts, spot_acts, statement_acts, subscripts_acts, text_acts}
use Rattle.tu_core_expressions.specs.declared.scalar.Link.{Link}
use Rattle.tu_core_expressions.specs.declared.scalar.Link.TheVariants as link
use Rattle.tu_core_expressions.specs.declared.text.Cut.{Cut}
use Rattle.tu_core_expressions.specs.declared.text.Cut.TheVariants as cut
use Rattle.tu_core_expressions.specs.declared.path.Selector.{Selector}
use Rattle.tu_core_expressions.specs.declared.path.Selector.TheVariants as selector
use Rattle.tu_core_expressions.specs.declared.call.Actual.{Actual}
use Rattle.tu_core_expressions.specs.declared.call.Actual.TheVariants as actual
use Rattle.tu_core_types.specs.declared.plain.Shown.{Shown}
use Rattle.tu_core_types.specs.declared.plain.Shown.TheVariants as shown
use Rattle.tu_core_types.specs.declared.plain.Taken.{Taken}
use Rattle.tu_core_types.specs.declared.plain.Taken.TheVariants as taken
use Rattle.tu_core_types.specs.declared.statement.Part.{Part}
use Rattle.tu_core_types.specs.declared.statement.Part.TheVariants as part
use Rattle.tu_core_expressions.specs.ExpressionViews.{optional_view, subscripts_view}

abbrev pub link_acts : Link → List Act
link_acts (link.Operate operator e) = scalar_acts e
link_acts (link.Decide operator e) = scalar_acts e

abbrev pub cut_acts : Cut → List Act
cut_acts (cut.CutCharacter i) = spot_acts i
cut_acts (cut.CutPart i j) = spot_acts i ++ spot_acts j

abbrev pub selector_acts : Selector → List Act
selector_acts (selector.Field shape k) = []
selector_acts (selector.VariantField shape k) = []
selector_acts (selector.Item shape es) = subscripts_acts (subscripts_view es)

abbrev pub actual_acts : Actual → List Act
actual_acts (actual.Given at size e) = simple_acts e
actual_acts (actual.Lent at is_var bounds p) = path_acts (lending is_var) p

abbrev pub one_shown_acts : Shown → List Act
one_shown_acts (shown.ShowInt e width) = scalar_acts e ++ optional_acts (optional_view width)
one_shown_acts (shown.ShowTruth e width) = scalar_acts e ++ optional_acts (optional_view width)
one_shown_acts (shown.ShowText e width) = text_acts e ++ optional_acts (optional_view width)

abbrev pub one_taken_acts : Taken → List Act
one_taken_acts (taken.TakeInt s p) = path_acts Changing p
one_taken_acts (taken.TakeTruth p) = path_acts Changing p
one_taken_acts (taken.TakeToken size p) = path_acts Changing p
one_taken_acts (taken.TakeLine size p) = path_acts Changing p
one_taken_acts (taken.TakeCount size p e) = path_acts Changing p ++ scalar_acts e

-- of a part of a block, with the number of acts of what stands behind it in the block
abbrev pub part_acts : Part → (extent : ℕ) → List Act
part_acts (part.Then s) extent = statement_acts s
part_acts (part.Declare at d) extent = declaration_acts at d
part_acts (part.Bind at x is_var p) extent = path_acts (lending is_var) p ++ Binding at x is_var p extent ∷ []
