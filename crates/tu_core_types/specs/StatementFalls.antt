-- Each part of a start and of a statement is lower than the whole.
use Rattle.std.specs.Prelude.{◌+◌, ◌≤◌, max, List, [], ◌∷◌, Option, Some, None}
use Rattle.std.proofs.Common.{arith}
use denote.Param.Weighed.{most}
use Rattle.tu_core.specs.declared.names.At.{At}
use Rattle.tu_core.specs.Core.{Start, Block}
use Rattle.tu_core_types.specs.declared.start.StartForm.{StartForm}
use Rattle.tu_core_types.specs.declared.start.StartForm.TheVariants as start
use Rattle.tu_core_types.specs.declared.statement.StatementForm.{StatementForm}
use Rattle.tu_core_types.specs.declared.statement.StatementForm.TheVariants as statement
use Rattle.tu_core_types.specs.declared.statement.Elsif.{Elsif}
use Rattle.tu_core_types.specs.declared.statement.Arm.{Arm}
use Rattle.tu_core_types.specs.declared.statement.Part.{Part}
use Rattle.tu_core_types.specs.declared.statement.Part.TheVariants as part
use Rattle.tu_core_types.specs.declared.start.Start.TheInside as start_inside
use Rattle.tu_core_types.specs.declared.statement.Statement.TheInside as statement_inside
use Rattle.tu_core_types.specs.declared.statement.Block.TheInside as block_inside
use Rattle.tu_core_types.specs.declared.start.Start.TheDeep.{deep-Start, deep-StartForm}
use Rattle.tu_core_types.specs.declared.statement.Block.TheDeep.{deep-Statement, deep-StatementForm, deep-Elsif, deep-Arm, deep-Block, deep-Part}
use Rattle.tu_core_types.specs.StatementHeights.{height_of_start, height_of_starts, height_of_statement, height_of_block, height_of_otherwise, height_of_arms}
use Rattle.tu_core_types.specs.StatementViews.{starts_view, start_view, elsifs_view, arms_view, parts_view, statement_view}

pub starts_fall : (xs : List Start) → most (λ x. height_of_start x + 1) xs ≤ height_of_starts (starts_view xs) + 1
starts_fall [] = omega arith
starts_fall (x ∷ xs) = omega (arith, starts_fall xs)

pub start_form_falls : (f : StartForm) → deep-StartForm f ≤ height_of_start (start_view f)
start_form_falls (start.WithValue target e) = omega arith
start_form_falls (start.WithCopy shape p) = omega arith
start_form_falls (start.WithParts shape xs) = omega (arith, starts_fall xs)

pub start_falls : (a : start_inside.Inside) → deep-Start a ≤ height_of_start (start_view a.form)
start_falls a = omega (arith, start_form_falls a.form)

pub elsifs_fall : (xs : List Elsif) (last : Block) → max (most deep-Elsif xs) (height_of_block last + 1) ≤ height_of_otherwise (elsifs_view xs last) + 1
elsifs_fall [] last = omega arith
elsifs_fall (x ∷ xs) last = omega (arith, elsifs_fall xs last)

pub arms_fall : (xs : List Arm) (last : Option Block) → most deep-Arm xs ≤ height_of_arms (arms_view xs last) + 1
arms_fall [] last = omega arith
arms_fall (x ∷ xs) last = omega (arith, arms_fall xs last)

pub default_falls : (xs : List Arm) (block : Block) → height_of_block block + 1 ≤ height_of_arms (arms_view xs (Some block)) + 1
default_falls [] block = omega arith
default_falls (x ∷ xs) block = omega (arith, default_falls xs block)

pub parts_fall : (xs : List Part) → most deep-Part xs ≤ height_of_block (parts_view xs)
parts_fall [] = omega arith
parts_fall (part.Then s ∷ xs) = omega (arith, parts_fall xs)
parts_fall (part.Declare at d ∷ xs) = omega (arith, parts_fall xs)
parts_fall (part.Bind at x is_var p ∷ xs) = omega (arith, parts_fall xs)

pub form_falls : (at : At) (f : StatementForm) → deep-StatementForm f ≤ height_of_statement (statement_view at f)
form_falls at (statement.Simply s) = omega arith
form_falls at (statement.If e block elsifs last) = omega (arith, elsifs_fall elsifs last)
form_falls at (statement.Loop invariant block) = omega arith
form_falls at (statement.For x is_decreasing r invariant block) = omega arith
form_falls at (statement.Case e arms None) = omega (arith, arms_fall arms None)
form_falls at (statement.Case e arms (Some block)) = omega (arith, arms_fall arms (Some block), default_falls arms block)
form_falls at (statement.Begin block) = omega arith
form_falls at (statement.Module fixed collections invariant line block) = omega arith

pub statement_falls : (a : statement_inside.Inside) → deep-Statement a ≤ height_of_statement (statement_view a.at a.form)
statement_falls a = omega (arith, form_falls a.at a.form)

pub block_falls : (a : block_inside.Inside) → deep-Block a ≤ height_of_block (parts_view a.parts)
block_falls a = omega (arith, parts_fall a.parts)
