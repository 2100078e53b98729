-- What one element of a row of statements adds to the sum of the row.
use Rattle.std.specs.Prelude.{[], ◌∷◌}
use Rattle.tu_core.specs.Core.{Named}
use Rattle.tu_core.specs.Measures.{Measure, of_scalar, of_text, of_path, of_optional, of_start, of_statement, of_declaration, of_block}
use Rattle.tu_core_types.specs.declared.plain.Shown.{Shown}
use Rattle.tu_core_types.specs.declared.plain.Shown.TheVariants as shown
use Rattle.tu_core_types.specs.declared.plain.Taken.{Taken}
use Rattle.tu_core_types.specs.declared.plain.Taken.TheVariants as taken
use Rattle.tu_core_types.specs.declared.statement.Elsif.{Elsif}
use Rattle.tu_core_types.specs.declared.statement.Arm.{Arm}
use Rattle.tu_core_types.specs.declared.statement.Part.{Part}
use Rattle.tu_core_types.specs.declared.statement.Part.TheVariants as part
use Rattle.tu_core_expressions.specs.ExpressionViews.{optional_view}
use Rattle.tu_core_types.specs.StatementViews.{taken_view}

module _ {A : Type 0} (m : Measure A) where
  abbrev pub one_shown : Shown → A
  one_shown (shown.ShowInt e width) = m.plus (of_scalar m e) (of_optional m (optional_view width))
  one_shown (shown.ShowTruth e width) = m.plus (of_scalar m e) (of_optional m (optional_view width))
  one_shown (shown.ShowText e width) = m.plus (of_text m e) (of_optional m (optional_view width))

  abbrev pub one_taken : Taken → A
  one_taken (taken.TakeInt s p) = m.plus (m.taken (taken_view (taken.TakeInt s p ∷ []))) (of_path m p)
  one_taken (taken.TakeTruth p) = m.plus (m.taken (taken_view (taken.TakeTruth p ∷ []))) (of_path m p)
  one_taken (taken.TakeToken size p) = m.plus (m.taken (taken_view (taken.TakeToken size p ∷ []))) (of_path m p)
  one_taken (taken.TakeLine size p) = m.plus (m.taken (taken_view (taken.TakeLine size p ∷ []))) (of_path m p)
  one_taken (taken.TakeCount size p e) = m.plus (m.taken (taken_view (taken.TakeCount size p e ∷ []))) (m.plus (of_path m p) (of_scalar m e))

  abbrev pub one_named : Named → A
  one_named x = of_start m x.start

  abbrev pub one_elsif : Elsif → A
  one_elsif x = m.plus m.arm (m.plus (of_scalar m x.condition) (of_block m x.block))

  abbrev pub one_arm : Arm → A
  one_arm x = m.plus m.arm (of_block m x.block)

  abbrev pub one_part : Part → A
  one_part (part.Then s) = of_statement m s
  one_part (part.Declare at d) = of_declaration m d
  one_part (part.Bind at x is_var p) = m.plus (m.binding at is_var p) (of_path m p)
