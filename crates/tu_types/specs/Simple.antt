-- Statements without blocks, but for those of streams.
use Rattle.std.specs.Prelude.{ℕ, Bool, true, false, Option, Some, None}
use Rattle.grammar.specs.Tree.{Mark}
use Rattle.tu_core.specs.declared.targets.Size.TheVariants.{AtName}
use Rattle.tu_core.specs.declared.targets.Target.TheVariants.{TakesText}
use Rattle.tu_core.specs.Core.{Scalar, AText, Path, Plain, Assign, Copy, Give, GiveCopy, Tag, Do}
use Rattle.tu_token.specs.Rules.{r-expr, r-path}
use Rattle.tu_token.specs.Syntax.{Of}
use Rattle.tu_expr.specs.Parts.{mark_of}
use Rattle.tu_type_base.specs.declared.fault.FaultKind.TheVariants.{Misplaced, Mismatch, NotVariable}
use Rattle.tu_type_base.specs.Checked.{Checked, Good, fault, both, ◌⊳◌, asks}
use Rattle.tu_type_table.specs.declared.types.TypeForm.{TypeForm}
use Rattle.tu_type_table.specs.declared.types.TypeForm.TheVariants.{Union}
use Rattle.tu_type_table.specs.Types.{bare_of, root_of, boolean}
use Rattle.tu_type_operands.specs.declared.kind.Kind.{Kind}
use Rattle.tu_type_operands.specs.declared.kind.Kind.TheVariants.{Whole, AnyText, AnyArray}
use Rattle.tu_type_operands.specs.declared.operand.Place.{Place}
use Rattle.tu_type_operands.specs.Operands.{Operand, number_of, text_of_part, pointer_of_part, value_of, place_of}
use Rattle.tu_type_operands.specs.declared.state.Owner.{Owner}
use Rattle.tu_type_operands.specs.declared.state.Owner.TheVariants.{OfProcedure, OfFunction}
use Rattle.tu_type_operands.specs.declared.state.State.{State}
use Rattle.tu_type_operands.specs.Names.{here, form_of}
use Rattle.tu_type_rules.specs.Paths.{Standing, StandsForCollection, StandsForCall, operand_of}
use Rattle.tu_type_parts.specs.Expressions.{expr, path}
use Rattle.tu_type_parts.specs.Starts.{Stored, AsValue, AsCopy, stored}

-- what is changed at m is a variable
abbrev pub changed : Mark → Option Place → Checked Path
changed m None = fault NotVariable m
changed m (Some place) = asks place.is_variable NotVariable m ⊳ λ _. Good place.path

-- a truth value that is asked for
abbrev pub condition : State → Of r-expr → Checked Scalar
condition s e = expr s e ⊳ λ a. number_of boolean (mark_of e) (value_of a)

-- a path that is a place or a value
abbrev pub operand_at : State → Of r-path → Checked Operand
operand_at s x = path s x ⊳ operand_of (mark_of x)

-- ---- assignments

abbrev pub assigned : Path → Stored → Plain
assigned to (AsValue target e) = Assign target to e
assigned to (AsCopy n from) = Copy n to from

-- An array whose bounds stand at its name is not assigned as a whole.
abbrev pub assigned_to : State → (m n : Mark) → Option Place → Operand → Kind → Checked Plain
assigned_to s m n place b (Whole type) = both (changed m place) (stored s type n b) ⊳ λ z. Good (assigned z.0 z.1)
assigned_to s m n place b AnyText = both (changed m place) (text_of_part n (value_of b)) ⊳ λ z. Good (Assign (TakesText AtName) z.0 (AText z.1))
assigned_to s m n place b (AnyArray indexes component) = fault Mismatch m

abbrev pub assignment : State → (m n : Mark) → Operand × Operand → Checked Plain
assignment s m n z = assigned_to s m n (place_of z.0) z.1 z.0.declared

-- ---- results

abbrev pub given : Stored → Plain
given (AsValue target e) = Give target e
given (AsCopy n from) = GiveCopy n from

abbrev pub result : State → (m n : Mark) → Owner → Operand → Checked Plain
result s m n (OfFunction type) a = stored s type n a ⊳ λ x. Good (given x)
result s m n owner a = fault Misplaced m

abbrev pub is_procedure : Owner → Bool
is_procedure OfProcedure = true
is_procedure owner = false

-- ---- calls and collections

abbrev pub call_of : Mark → Standing → Checked Plain
call_of m (StandsForCall call) = Good (Do call)
call_of m other = fault Mismatch m

-- the collection that a path names and that is changed there
abbrev pub changed_collection : Mark → Standing → Checked ℕ
changed_collection m (StandsForCollection c true) = fault NotVariable m
changed_collection m (StandsForCollection c false) = Good c
changed_collection m other = fault Mismatch m

-- a variable pointer to a collection
abbrev pub changed_pointer : (collection : ℕ) → Mark → Operand → Checked Path
changed_pointer c m a = pointer_of_part c m (value_of a) ⊳ λ _. changed m (place_of a)

abbrev pub of_pointer : (does : ℕ → Path → Plain) → (m n : Mark) → Standing × Operand → Checked Plain
of_pointer does m n z = changed_collection m z.0 ⊳ λ c. changed_pointer c n z.1 ⊳ λ p. Good (does c p)

-- ---- tags

abbrev pub tagged_by : State → (m n : Mark) → (union : ℕ) → Option Place → Operand → TypeForm → Checked Plain
tagged_by s m n u place b (Union written tag_name tag variants) =
    both (changed m place) (number_of (root_of s.types (here s tag)) n (value_of b)) ⊳ λ z. Good (Tag (bare_of s.types u) z.0 z.1)
tagged_by s m n u place b form = fault Mismatch m

abbrev pub tagged : State → (m n : Mark) → Operand → Kind → Option Place → Checked Plain
tagged s m n b (Whole u) place = tagged_by s m n u place b (form_of s u)
tagged s m n b kind place = fault Mismatch m
