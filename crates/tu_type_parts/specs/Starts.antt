-- What a name begins with.
use Rattle.std.specs.Prelude.{ℕ, ◌==◌, List, [], ◌∷◌, map, length, Option, Some, None}
use Rattle.grammar.specs.Tree.{Mark}
use Rattle.tu_base.specs.Shapes.{elements}
use Rattle.tu_core.specs.Core.{Start, WithValue, WithCopy, WithParts, Starts, NoStart, AndStart, Simple, Path}
use Rattle.tu_core.specs.declared.targets.Target.{Target}
use Rattle.tu_token.specs.Rules.{r-start, many, listed}
use Rattle.tu_token.specs.Syntax.{Of}
use Rattle.tu_expr.specs.Parts.{Part, further}
use Rattle.tu_tree.specs.Forms.{More, NoMore, Behind, Listed, ValueStart, InitStart}
use Rattle.tu_type_base.specs.declared.fault.FaultKind.TheVariants.{Mismatch, BadCount}
use Rattle.tu_type_base.specs.Checked.{Checked, Good, fault, both, ◌⊳◌, asks}
use Rattle.tu_type_table.specs.declared.types.TypeForm.{TypeForm}
use Rattle.tu_type_table.specs.declared.types.TypeForm.TheVariants.{ArrayOf, Record}
use Rattle.tu_type_table.specs.Types.{bare_of, span_of}
use Rattle.tu_type_operands.specs.declared.operand.Place.{Place}
use Rattle.tu_type_operands.specs.Operands.{Operand, simple_of, target_of, fits, value_of, place_of}
use Rattle.tu_type_operands.specs.declared.state.State.{State}
use Rattle.tu_type_operands.specs.Names.{form_of, here}
use Rattle.tu_type_parts.specs.Expressions.{expr}

-- a value for its target, or a copy of a place with parts
pub data Stored : Type 0 where
  AsValue : Target → Simple → Stored
  AsCopy : (shape : ℕ) → Path → Stored

abbrev pub start_with : Stored → Start
start_with (AsValue target e) = WithValue target e
start_with (AsCopy n path) = WithCopy n path

-- an expression, which its target is to take, or an `init (..)`, which suits its target already
pub data Begun : Type 0 where
  Plain : Mark → Operand → Begun
  Built : Start → Begun

-- the types of the parts of an `init`: of one type, or of these in turn, or not known
pub data Expected : Type 0 where
  AnyType : Expected
  Each : ℕ → Expected
  InTurn : List ℕ → Expected

abbrev pub first_expected : Expected → Option ℕ
first_expected AnyType = None
first_expected (Each n) = Some n
first_expected (InTurn []) = None
first_expected (InTurn (n ∷ more)) = Some n

abbrev pub behind_first : Expected → Expected
behind_first AnyType = AnyType
behind_first (Each n) = Each n
behind_first (InTurn []) = AnyType
behind_first (InTurn (n ∷ more)) = InTurn more

module _ (s : State) where
  abbrev pub stored_by : Mark → (shape : ℕ) → Option Target → Option Simple → Option Place → Checked Stored
  stored_by m n (Some target) (Some e) place = Good (AsValue target e)
  stored_by m n None e (Some place) = Good (AsCopy n place.path)
  stored_by m n target e place = fault Mismatch m

  -- what stands at m is stored at a name or place of a type, which it fits
  abbrev pub stored : (type : ℕ) → Mark → Operand → Checked Stored
  stored n m a = asks (fits s.types (here s n) a) Mismatch m ⊳ λ _. stored_by m (bare_of s.types (here s n)) (target_of s.types (here s n)) (simple_of (value_of a)) (place_of a)

  abbrev pub fitted : (type : ℕ) → Begun → Checked Start
  fitted n (Plain m a) = stored n m a ⊳ λ x. Good (start_with x)
  fitted n (Built start) = Good start

  abbrev pub fitted_each : (type : ℕ) → List Begun → Checked Starts
  fitted_each n [] = Good NoStart
  fitted_each n (x ∷ more) = both (fitted n x) (fitted_each n more) ⊳ λ z. Good (AndStart z.0 z.1)

  abbrev pub fitted_in_turn : (m : Mark) → List ℕ → List Begun → Checked Starts
  fitted_in_turn m [] [] = Good NoStart
  fitted_in_turn m (n ∷ ns) (x ∷ more) = both (fitted n x) (fitted_in_turn m ns more) ⊳ λ z. Good (AndStart z.0 z.1)
  fitted_in_turn m ns xs = fault BadCount m

  -- `init (..)` begins an array, element by element in row order, or a record, field by field
  abbrev pub init_of_form : Mark → (type : ℕ) → List Begun → TypeForm → Checked Begun
  init_of_form m n xs (ArrayOf indexes component) = asks (length xs == elements (map (span_of s.types) indexes)) BadCount m ⊳ λ _. fitted_each component xs ⊳ λ z. Good (Built (WithParts (bare_of s.types (here s n)) z))
  init_of_form m n xs (Record written fields) = fitted_in_turn m (map (λ f. f.type_number) fields) xs ⊳ λ z. Good (Built (WithParts (bare_of s.types (here s n)) z))
  init_of_form m n xs form = fault Mismatch m

  abbrev pub expected_of : TypeForm → Expected
  expected_of (ArrayOf indexes component) = Each component
  expected_of (Record written fields) = InTurn (map (λ f. f.type_number) fields)
  expected_of form = AnyType

  abbrev pub expected_by : Option ℕ → Expected
  expected_by None = AnyType
  expected_by (Some n) = expected_of (form_of s n)

  -- a part too many, whose list is wrong already, is looked at by itself
  abbrev pub init_by : Mark → Option ℕ → List Begun → Checked Begun
  init_by m None xs = Good (Built (WithParts 0 NoStart))
  init_by m (Some n) xs = init_of_form m n xs (form_of s n)

  abbrev mutual
    pub start : Option ℕ → Of r-start → Checked Begun
    start n (ValueStart m e) = expr s e ⊳ λ a. Good (Plain m a)
    start n (InitStart m _ _ parts _) = starts (expected_by n) parts ⊳ init_by m n

    pub starts : Expected → Part (listed r-start) → Checked (List Begun)
    starts x (Listed first more) = both (start (first_expected x) first) (more_starts (behind_first x) more) ⊳ λ z. Good (z.0 ∷ z.1)

    pub more_starts : Expected → Part (many (further r-start)) → Checked (List Begun)
    more_starts x NoMore = Good []
    more_starts x (More (Behind _ first) more) = both (start (first_expected x) first) (more_starts (behind_first x) more) ⊳ λ z. Good (z.0 ∷ z.1)
