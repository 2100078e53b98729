-- Forms that a type could show in more than one way.
use Rattle.std.specs.Prelude.{◌≡◌, true, [], ◌∷◌, Some, None}
use Rattle.std.proofs.Common.{refl}
use Rattle.tu_core.specs.declared.names.At.{At}
use Rattle.tu_core.specs.Core as core
use Rattle.tu_core_types.specs.declared.plain.PlainForm.TheVariants as plain
use Rattle.tu_core_types.specs.declared.program.Handler.{Handler}
use Rattle.tu_core_types.specs.declared.statement.RangeForm.TheVariants as range
use Rattle.tu_core_types.specs.declared.statement.StatementForm.TheVariants as statement
use Rattle.tu_core_types.specs.declared.statement.Elsif.{Elsif}
use Rattle.tu_core_types.specs.declared.statement.Part.TheVariants as part
use Rattle.tu_core_types.specs.StatementViews.{plain_view, range_view, elsifs_view, arms_view, parts_view, statement_view}
use Rattle.tu_core_types.specs.ProgramViews.{handler_view}

copied : (to from : core.Path) → plain_view (plain.Copy 1 to from) ≡ core.Copy 1 to from
copied to from = refl

-- from the first number to the last
from_to : (first last : core.Scalar) → range_view (range.FromTo first last) ≡ core.FromTo first last
from_to first last = refl

-- the arm of `else` comes last
two_arms : (x y : Elsif) (last : core.Block) → elsifs_view (x ∷ (y ∷ [])) last ≡ core.Elsif x.at x.condition x.block (core.Elsif y.at y.condition y.block (core.Else last))
two_arms x y last = refl

no_default : arms_view [] None ≡ core.NoArm
no_default = refl

-- what stands behind a `bind` is in its scope
bound : (at : At) (p : core.Path) (s : core.Statement) → parts_view (part.Bind at 3 true p ∷ (part.Then s ∷ [])) ≡ core.Bind at 3 true p (core.Then s core.Empty)
bound at p s = refl

handled : (h : Handler) → handler_view (Some h) ≡ core.Handles h.at h.name h.block
handled h = refl

-- the invariant of a module, by the number of its routine
kept : (at : At) (block : core.Block) → statement_view at (statement.Module [] [] (Some 1) 2 block) ≡ core.Module at [] [] (Some 1) 2 block
kept at block = refl
