-- Each part of a type, a start or a block is lower than what holds it.
use Rattle.std.specs.Prelude.{◌+◌, ◌≤◌, max, Bool, List, [], ◌∷◌, Option, Some, None}
use Rattle.std.proofs.Common.{arith}
use denote.Param.Weighed.{most}
use Rattle.grammar.specs.Falls.{repeated_falls}
use Rattle.grammar.specs.Description.{rule}
use Rattle.grammar.specs.Tree.{n-sequence, height}
use Rattle.tu_token.specs.declared.class.Class.TheVariants.{SignComma, SignSemicolon}
use Rattle.tu_token.specs.Rules.{r-start, r-field, r-variant, r-elsif}
use Rattle.tu_token.specs.Syntax.{Of}
use Rattle.tu_expr.specs.Falls.{chain_falls}
use Rattle.tu_tree.specs.declared.spec.BaseForm.{BaseForm}
use Rattle.tu_tree.specs.declared.spec.BaseForm.TheVariants as base
use Rattle.tu_tree.specs.declared.declaration.StartForm.{StartForm}
use Rattle.tu_tree.specs.declared.declaration.StartForm.TheVariants as start
use Rattle.tu_tree.specs.declared.statement.BlockPart.{BlockPart}
use Rattle.tu_tree.specs.declared.statement.BlockPart.TheVariants as part
use Rattle.tu_tree.specs.declared.statement.StatementForm.{StatementForm}
use Rattle.tu_tree.specs.declared.statement.StatementForm.TheVariants as statement
use Rattle.tu_tree.specs.declared.statement.Arm.{Arm}
use Rattle.tu_tree.specs.declared.statement.Otherwise.{Otherwise}
use Rattle.tu_tree.specs.declared.spec.Spec.TheInside as spec_inside
use Rattle.tu_tree.specs.declared.spec.Base.TheInside as base_inside
use Rattle.tu_tree.specs.declared.spec.Field.TheInside as field_inside
use Rattle.tu_tree.specs.declared.spec.Variant.TheInside as variant_inside
use Rattle.tu_tree.specs.declared.declaration.Start.TheInside as start_inside
use Rattle.tu_tree.specs.declared.statement.Block.TheInside as block_inside
use Rattle.tu_tree.specs.declared.statement.Statement.TheInside as statement_inside
use Rattle.tu_tree.specs.declared.statement.Elsif.TheInside as elsif_inside
use Rattle.tu_tree.specs.declared.spec.Base.TheDeep.{deep-Spec, deep-Base, deep-BaseForm, deep-Field, deep-Variant}
use Rattle.tu_tree.specs.declared.declaration.Start.TheDeep.{deep-Start, deep-StartForm}
use Rattle.tu_tree.specs.declared.statement.Block.TheDeep.{deep-Block, deep-BlockPart, deep-Statement, deep-StatementForm, deep-Arm, deep-Otherwise, deep-Elsif}
use Rattle.tu_tree.specs.Parts.{flag, separated}
use Rattle.tu_tree.specs.TypeViews.{spec_view, fields_view, variants_view, base_view, field_view, variant_view}
use Rattle.tu_tree.specs.DeclarationViews.{start_view}
use Rattle.tu_tree.specs.StatementViews.{block_part, block_part_view, block_view, elsif_view, elsifs_view, arms_view, statement_view}

pub spec_falls : (a : spec_inside.Inside) → deep-Spec a ≤ height (spec_view a.arrays a.base) + 1
spec_falls a = omega arith

fields_fall : (xs : List (Of r-field)) → most (λ x. height x + 1) xs ≤ height (fields_view xs) + 1
fields_fall xs = repeated_falls (rule r-field) (λ x. x) (λ x. height x + 1) (λ x. omega arith) xs

variants_fall : (xs : List (Of r-variant)) → most (λ x. height x + 1) xs ≤ height (variants_view xs) + 1
variants_fall xs = repeated_falls (rule r-variant) (λ x. x) (λ x. height x + 1) (λ x. omega arith) xs

pub base_form_falls : (f : BaseForm) → deep-BaseForm f ≤ height (base_view f) + 1
base_form_falls base.Int = omega arith
base_form_falls base.Boolean = omega arith
base_form_falls (base.String most) = omega arith
base_form_falls (base.Range range) = omega arith
base_form_falls (base.Enum names) = omega arith
base_form_falls (base.Set range) = omega arith
base_form_falls (base.Pointer name) = omega arith
base_form_falls (base.Record first more) = omega (arith, fields_fall more)
base_form_falls (base.Union tag range variants) = omega (arith, variants_fall variants)

pub base_falls : (a : base_inside.Inside) → deep-Base a ≤ height (base_view a.form) + 1
base_falls a = omega (arith, base_form_falls a.form)

pub field_falls : (a : field_inside.Inside) → deep-Field a ≤ height (field_view a.names a.spec a.semicolon) + 1
field_falls a = omega arith

pub variant_falls : (a : variant_inside.Inside) → deep-Variant a ≤ height (variant_view a.labels a.fields) + 1
variant_falls a = omega (arith, fields_fall a.fields)

pub start_form_falls : (f : StartForm) → deep-StartForm f ≤ height (start_view f) + 1
start_form_falls (start.Value value) = omega arith
start_form_falls (start.Init first more) = omega (arith, chain_falls SignComma (rule r-start) more)

pub start_falls : (a : start_inside.Inside) → deep-Start a ≤ height (start_view a.form) + 1
start_falls a = omega (arith, start_form_falls a.form)

block_part_falls : (x : BlockPart × Bool) → max (deep-BlockPart x.0) (max 0 0) ≤ height (n-sequence (block_part_view x.0) (flag SignSemicolon x.1)) + 1
block_part_falls (part.Const x, semicolon) = omega arith
block_part_falls (part.Var x, semicolon) = omega arith
block_part_falls (part.Type x, semicolon) = omega arith
block_part_falls (part.Bind x, semicolon) = omega arith
block_part_falls (part.Statement x, semicolon) = omega arith

pub block_falls : (a : block_inside.Inside) → deep-Block a ≤ height (block_view a.parts) + 1
block_falls a = omega (arith, repeated_falls (separated block_part) (λ x. n-sequence (block_part_view x.0) (flag SignSemicolon x.1)) (λ x. max (deep-BlockPart x.0) (max 0 0)) block_part_falls a.parts)

pub elsif_falls : (a : elsif_inside.Inside) → deep-Elsif a ≤ height (elsif_view a.condition a.block) + 1
elsif_falls a = omega arith

elsifs_fall : (xs : List (Of r-elsif)) → most (λ x. height x + 1) xs ≤ height (elsifs_view xs) + 1
elsifs_fall xs = repeated_falls (rule r-elsif) (λ x. x) (λ x. height x + 1) (λ x. omega arith) xs

arms_fall : (xs : List Arm) (otherwise : Option Otherwise) → most deep-Arm xs ≤ height (arms_view xs otherwise) + 1
arms_fall [] otherwise = omega arith
arms_fall (x ∷ xs) otherwise = omega (arith, arms_fall xs otherwise)

last_arm_falls : (xs : List Arm) (otherwise : Otherwise) → deep-Otherwise otherwise ≤ height (arms_view xs (Some otherwise)) + 1
last_arm_falls [] otherwise = omega arith
last_arm_falls (x ∷ xs) otherwise = omega (arith, last_arm_falls xs otherwise)

pub statement_form_falls : (f : StatementForm) → deep-StatementForm f ≤ height (statement_view f) + 1
statement_form_falls (statement.Assign path value) = omega arith
statement_form_falls (statement.Call path) = omega arith
statement_form_falls (statement.If condition block elsifs None) = omega (arith, elsifs_fall elsifs)
statement_form_falls (statement.If condition block elsifs (Some otherwise)) = omega (arith, elsifs_fall elsifs)
statement_form_falls (statement.Loop invariant block) = omega arith
statement_form_falls (statement.For is_decreasing name range invariant block) = omega arith
statement_form_falls (statement.Case subject arms None) = omega (arith, arms_fall arms None)
statement_form_falls (statement.Case subject arms (Some otherwise)) = omega (arith, arms_fall arms (Some otherwise), last_arm_falls arms otherwise)
statement_form_falls (statement.Begin block) = omega arith
statement_form_falls statement.Exit = omega arith
statement_form_falls (statement.ExitWhen condition) = omega arith
statement_form_falls statement.Return = omega arith
statement_form_falls (statement.Result value) = omega arith
statement_form_falls (statement.Assert condition) = omega arith
statement_form_falls (statement.New collection pointer) = omega arith
statement_form_falls (statement.Free collection pointer) = omega arith
statement_form_falls (statement.Tag path value) = omega arith
statement_form_falls (statement.Put stream first more is_open) = omega arith
statement_form_falls (statement.Get stream first more) = omega arith
statement_form_falls (statement.Open path name mode) = omega arith
statement_form_falls (statement.Close stream) = omega arith
statement_form_falls statement.Quit = omega arith
statement_form_falls (statement.QuitWith number) = omega arith

pub statement_falls : (a : statement_inside.Inside) → deep-Statement a ≤ height (statement_view a.form) + 1
statement_falls a = omega (arith, statement_form_falls a.form)
