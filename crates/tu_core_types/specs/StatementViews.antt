-- Each type of a statement as the form of the core that it stands for.
use Rattle.std.specs.Prelude.{List, [], ◌∷◌, Option, Some, None}
use Rattle.tu_core.specs.declared.names.At.{At}
use Rattle.tu_core.specs.Core as core
use Rattle.tu_core_types.specs.declared.start.StartForm.{StartForm}
use Rattle.tu_core_types.specs.declared.start.StartForm.TheVariants as start
use Rattle.tu_core_types.specs.declared.plain.Shown.{Shown}
use Rattle.tu_core_types.specs.declared.plain.Shown.TheVariants as shown
use Rattle.tu_core_types.specs.declared.plain.Taken.{Taken}
use Rattle.tu_core_types.specs.declared.plain.Taken.TheVariants as taken
use Rattle.tu_core_types.specs.declared.plain.PlainForm.{PlainForm}
use Rattle.tu_core_types.specs.declared.plain.PlainForm.TheVariants as plain
use Rattle.tu_core_types.specs.declared.declaration.DeclarationForm.{DeclarationForm}
use Rattle.tu_core_types.specs.declared.declaration.DeclarationForm.TheVariants as declaration
use Rattle.tu_core_types.specs.declared.statement.RangeForm.{RangeForm}
use Rattle.tu_core_types.specs.declared.statement.RangeForm.TheVariants as range
use Rattle.tu_core_types.specs.declared.statement.StatementForm.{StatementForm}
use Rattle.tu_core_types.specs.declared.statement.StatementForm.TheVariants as statement
use Rattle.tu_core_types.specs.declared.statement.Elsif.{Elsif}
use Rattle.tu_core_types.specs.declared.statement.Arm.{Arm}
use Rattle.tu_core_types.specs.declared.statement.Part.{Part}
use Rattle.tu_core_types.specs.declared.statement.Part.TheVariants as part
use Rattle.tu_core_expressions.specs.ExpressionViews.{optional_view, scalars_view}

-- rows
abbrev pub starts_view : List core.Start → core.Starts
starts_view [] = core.NoStart
starts_view (s ∷ more) = core.AndStart s (starts_view more)

abbrev pub shown_view : List Shown → core.Shown
shown_view [] = core.NoneShown
shown_view (shown.ShowInt e width ∷ more) = core.ShowInt e (optional_view width) (shown_view more)
shown_view (shown.ShowTruth e width ∷ more) = core.ShowTruth e (optional_view width) (shown_view more)
shown_view (shown.ShowText e width ∷ more) = core.ShowText e (optional_view width) (shown_view more)

abbrev pub taken_view : List Taken → core.Taken
taken_view [] = core.NoneTaken
taken_view (taken.TakeInt s p ∷ more) = core.TakeInt s p (taken_view more)
taken_view (taken.TakeTruth p ∷ more) = core.TakeTruth p (taken_view more)
taken_view (taken.TakeToken size p ∷ more) = core.TakeToken size p (taken_view more)
taken_view (taken.TakeLine size p ∷ more) = core.TakeLine size p (taken_view more)
taken_view (taken.TakeCount size p e ∷ more) = core.TakeCount size p e (taken_view more)

abbrev pub elsifs_view : List Elsif → core.Block → core.Otherwise
elsifs_view [] last = core.Else last
elsifs_view (x ∷ more) last = core.Elsif x.at x.condition x.block (elsifs_view more last)

abbrev pub last_view : Option core.Block → core.Arms
last_view None = core.NoArm
last_view (Some block) = core.Default block

abbrev pub arms_view : List Arm → Option core.Block → core.Arms
arms_view [] last = last_view last
arms_view (x ∷ more) last = core.Labelled x.labels x.block (arms_view more last)

abbrev pub parts_view : List Part → core.Block
parts_view [] = core.Empty
parts_view (part.Then s ∷ more) = core.Then s (parts_view more)
parts_view (part.Declare at d ∷ more) = core.Declare at d (parts_view more)
parts_view (part.Bind at x is_var p ∷ more) = core.Bind at x is_var p (parts_view more)

-- forms
abbrev pub start_view : StartForm → core.Start
start_view (start.WithValue target e) = core.WithValue target e
start_view (start.WithCopy shape p) = core.WithCopy shape p
start_view (start.WithParts shape starts) = core.WithParts shape (starts_view starts)

abbrev pub range_view : RangeForm → core.Range
range_view (range.FromTo first last) = core.FromTo first last
range_view (range.Through s) = core.Through s

abbrev pub plain_view : PlainForm → core.Plain
plain_view (plain.Assign target p e) = core.Assign target p e
plain_view (plain.Copy shape to from) = core.Copy shape to from
plain_view (plain.Exit condition) = core.Exit (optional_view condition)
plain_view plain.Return = core.Return
plain_view (plain.Give target e) = core.Give target e
plain_view (plain.GiveCopy shape p) = core.GiveCopy shape p
plain_view (plain.Check claim e) = core.Check claim e
plain_view (plain.New c at p) = core.New c at p
plain_view (plain.Free c at p) = core.Free c at p
plain_view (plain.Tag shape p e) = core.Tag shape p e
plain_view (plain.Put stream parts ends_line) = core.Put (optional_view stream) (shown_view parts) ends_line
plain_view (plain.Get stream parts) = core.Get (optional_view stream) (taken_view parts)
plain_view (plain.OpenStream s p e is_put) = core.OpenStream s p e is_put
plain_view (plain.Close e) = core.Close e
plain_view (plain.Do call) = core.Do call
plain_view (plain.Quit number) = core.Quit (optional_view number)

abbrev pub declaration_view : DeclarationForm → core.Declaration
declaration_view (declaration.Constant x) = core.Constant x
declaration_view (declaration.InitClause xs) = core.InitClause xs
declaration_view (declaration.Variables xs shape) = core.Variables xs shape
declaration_view (declaration.Started xs shape s) = core.Started xs shape s
declaration_view (declaration.Arrays xs indexes component bounds) = core.Arrays xs indexes component (scalars_view bounds)
declaration_view (declaration.Collections cs) = core.Collections cs
declaration_view (declaration.Mention c) = core.Mention c

abbrev pub statement_view : At → StatementForm → core.Statement
statement_view at (statement.Simply s) = core.Simply at s
statement_view at (statement.If e block elsifs last) = core.If at e block (elsifs_view elsifs last)
statement_view at (statement.Loop invariant block) = core.Loop at invariant block
statement_view at (statement.For x is_decreasing r invariant block) = core.For at x is_decreasing r invariant block
statement_view at (statement.Case e arms last) = core.Case at e (arms_view arms last)
statement_view at (statement.Begin block) = core.Begin at block
statement_view at (statement.Module fixed collections invariant line block) = core.Module at fixed collections invariant line block
