-- What the walk along two places finds, as the definition has it.
use Rattle.std.specs.Prelude.{◌==◌, map, if◌then◌else◌}
use Rattle.tu_core.specs.Walk as core
use Rattle.tu_core_expressions.specs.declared.path.Selector.{Selector}
use Rattle.tu_core_expressions.specs.declared.path.Selector.TheVariants.{Field, VariantField, Item}
use Rattle.tu_core_expressions.specs.ExpressionViews.{subscripts_view}
use Rattle.tu_overlap.specs.declared.walking.Brackets.{Brackets}
use Rattle.tu_overlap.specs.declared.walking.Brackets.TheVariants.{Differ, Agree, Unknown}
use Rattle.tu_overlap.specs.declared.walking.Noted.{Noted}
use Rattle.tu_overlap.specs.declared.walking.Noted.TheVariants.{AtElements, AtStep}
use Rattle.tu_overlap.specs.declared.walking.Verdict.{Verdict}
use Rattle.tu_overlap.specs.declared.walking.Verdict.TheVariants.{Apart, Same, Maybe}

abbrev pub noted_view : Noted → core.Noted
noted_view AtElements = core.AtElements
noted_view (AtStep position) = core.AtStep position

abbrev pub verdict_view : Verdict → core.Verdict
verdict_view Apart = core.Apart
verdict_view Same = core.Same
verdict_view (Maybe noted) = core.Maybe (map noted_view noted)

abbrev pub brackets_view : Brackets → core.Brackets
brackets_view Differ = core.Differ
brackets_view Agree = core.Agree
brackets_view Unknown = core.Unknown

-- one step of two ways, as two brackets with one subscript each
abbrev pub step_brackets : Selector → Selector → core.Brackets
step_brackets (Field n k) (Field m j) = if k == j then core.Agree else core.Differ
step_brackets (Field n k) (VariantField m j) = core.Differ
step_brackets (Field n k) (Item m es) = core.Differ
step_brackets (VariantField n k) (Field m j) = core.Differ
step_brackets (VariantField n k) (VariantField m j) = if k == j then core.Agree else core.Differ
step_brackets (VariantField n k) (Item m es) = core.Differ
step_brackets (Item n ds) (Field m j) = core.Differ
step_brackets (Item n ds) (VariantField m j) = core.Differ
step_brackets (Item n ds) (Item m es) = core.brackets (subscripts_view ds) (subscripts_view es)
