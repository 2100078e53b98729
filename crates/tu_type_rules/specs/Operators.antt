-- What operators ask of their operands, and what they give.
use Rattle.std.specs.Prelude.{ℕ, ◌==◌, Bool, true, false, not, ◌||◌, List, [], ◌∷◌, Option, Some, None, if◌then◌else◌}
use Rattle.grammar.specs.Tree.{Mark}
use Rattle.tu_base.specs.Sets.{Base}
use Rattle.tu_base.specs.declared.operator.Relation.{Relation}
use Rattle.tu_base.specs.declared.operator.Relation.TheVariants.{Equal, NotEqual, Less, Greater}
use Rattle.tu_base.specs.declared.operator.Unary.{Unary}
use Rattle.tu_base.specs.declared.operator.Binary.{Binary}
use Rattle.tu_base.specs.declared.operator.Binary.TheVariants.{Add, Subtract, Multiply, Compare}
use Rattle.tu_base.specs.declared.operator.Junction.{Junction}
use Rattle.tu_base.specs.declared.operator.Combination.{Combination}
use Rattle.tu_base.specs.declared.operator.Combination.TheVariants.{Union, Intersection, Difference}
use Rattle.tu_core.specs.Core.{Scalar, Prefixed, Chain, CompareTexts, CompareSets, ComparePointers, Member, Links, NoLink, Link, Decide, Text, Joined, Texts, NoText, AndText, Set, Combined, Combinations, NoSet, AndSet}
use Rattle.tu_type_base.specs.declared.fault.FaultKind.TheVariants.{Mismatch}
use Rattle.tu_type_base.specs.Checked.{Checked, Good, fault, both, ◌⊳◌, asks}
use Rattle.tu_type_constants.specs.declared.constant.Constant.{Constant}
use Rattle.tu_type_constants.specs.declared.constant.Constant.TheVariants.{NoConstant}
use Rattle.tu_type_constants.specs.Constants.{all_prefixed, of_numbers, of_texts, of_joined, of_truths}
use Rattle.tu_type_table.specs.declared.types.Row.{Row}
use Rattle.tu_type_table.specs.Types.{int, boolean, root_of, base_of}
use Rattle.tu_type_operands.specs.declared.operand.Found.TheVariants.{AValue}
use Rattle.tu_type_operands.specs.declared.value.Value.{Value}
use Rattle.tu_type_operands.specs.declared.value.Value.TheVariants.{Number, String, Members, Points}
use Rattle.tu_type_operands.specs.Operands.{Operand, a_number, a_text, number_of, text_of_part, set_of_part, pointer_of_part, value_of}

pub data Operator : Type 0 where
  -- `+ - * div mod **`
  Computes : Binary → Operator
  Relates : Relation → Operator
  -- `in`, and `not in` where is_wanted is false
  Finds : (is_wanted : Bool) → Operator
  -- `and or =>`
  Decides : Junction → Operator

-- What stands in a row is a list: an operator goes behind those of its own level, which have the level's number.
abbrev pub links_behind : Links → Links → Links
links_behind NoLink more = more
links_behind (Link operator e rest) more = Link operator e (links_behind rest more)
links_behind (Decide operator e rest) more = Decide operator e (links_behind rest more)

abbrev pub chained : (level : ℕ) → Scalar → Links → Scalar
chained level (Chain n e links) link = if n == level then Chain n e (links_behind links link) else Chain level (Chain n e links) link
chained level e link = Chain level e link

abbrev pub texts_behind : Texts → Text → Texts
texts_behind NoText e = AndText e NoText
texts_behind (AndText other rest) e = AndText other (texts_behind rest e)

abbrev pub joined : (level : ℕ) → Text → Text → Text
joined level (Joined n e more) other = if n == level then Joined n e (texts_behind more other) else Joined level (Joined n e more) (AndText other NoText)
joined level e other = Joined level e (AndText other NoText)

abbrev pub sets_behind : Combinations → Combination → Set → Combinations
sets_behind NoSet operator e = AndSet operator e NoSet
sets_behind (AndSet other x rest) operator e = AndSet other x (sets_behind rest operator e)

abbrev pub combined : (level : ℕ) → Base → Combination → Set → Set → Set
combined level base operator (Combined n b e more) other = if n == level then Combined n b e (sets_behind more operator other) else Combined level base (Combined n b e more) (AndSet operator other NoSet)
combined level base operator e other = Combined level base e (AndSet operator other NoSet)

-- what an operator is on sets
abbrev pub combination : Binary → Option Combination
combination Add = Some Union
combination Multiply = Some Intersection
combination Subtract = Some Difference
combination other = None

abbrev pub is_addition : Binary → Bool
is_addition Add = true
is_addition other = false

abbrev pub is_equality : Relation → Bool
is_equality Equal = true
is_equality NotEqual = true
is_equality other = false

-- `=`, `not=`, subset and superset
abbrev pub is_of_sets : Relation → Bool
is_of_sets Less = false
is_of_sets Greater = false
is_of_sets other = true

abbrev pub is_equal_sign : Relation → Bool
is_equal_sign Equal = true
is_equal_sign other = false

abbrev pub a_truth : Scalar → Constant → Operand
a_truth e constant = a_number boolean e constant

-- An operator with its operands, a at m and b at n. Mismatch is at a where no form of the operator takes it, else at b.
module _ (types : List Row) (level link : ℕ) (m n : Mark) (a b : Operand) where
  -- int; strings are joined, and sets combined
  abbrev pub computed : Binary → Value → Checked Operand
  computed operator (Number root x) = asks (root == int) Mismatch m ⊳ λ _. number_of int n (value_of b) ⊳ λ y. Good (a_number int (chained level x (Link operator y NoLink)) (of_numbers operator a.constant b.constant))
  computed operator (String x) = asks (is_addition operator) Mismatch m ⊳ λ _. text_of_part n (value_of b) ⊳ λ y. Good (a_text (joined level x y) (of_joined a.constant b.constant))
  computed operator (Members base x) = elim (combination operator) [
    | None ↦ fault Mismatch m
    | Some c ↦ set_of_part base n (value_of b) ⊳ λ y. Good (record a { found = AValue (Members base (combined level (base_of types base) c x y)); constant = NoConstant })
  ]
  computed operator other = fault Mismatch m

  -- One scalar root, strings, sets of one base, pointers to one collection. Truth values and pointers have no order, and of sets there is `<=`
  -- and `>=` alone.
  abbrev pub related : Relation → Value → Checked Operand
  related relation (Number root x) =
      asks (is_equality relation || not (root == boolean)) Mismatch m ⊳ λ _. number_of root n (value_of b) ⊳ λ y. Good (a_truth (chained level x (Link (Compare relation) y NoLink)) (of_numbers (Compare relation) a.constant b.constant))
  related relation (String x) = text_of_part n (value_of b) ⊳ λ y. Good (a_truth (CompareTexts link relation x y) (of_texts relation a.constant b.constant))
  related relation (Members base x) = asks (is_of_sets relation) Mismatch m ⊳ λ _. set_of_part base n (value_of b) ⊳ λ y. Good (a_truth (CompareSets link relation (base_of types base) x y) NoConstant)
  related relation (Points c x) = asks (is_equality relation) Mismatch m ⊳ λ _. pointer_of_part c n (value_of b) ⊳ λ y. Good (a_truth (ComparePointers link (is_equal_sign relation) x y) NoConstant)
  related relation other = fault Mismatch m

  abbrev pub found_in : (is_wanted : Bool) → (root : ℕ) → Scalar → Value → Checked Operand
  found_in is_wanted root x (Members base y) = asks (root_of types base == root) Mismatch n ⊳ λ _. Good (a_truth (Member link is_wanted (base_of types base) x y) NoConstant)
  found_in is_wanted root x other = fault Mismatch n

  -- an element and a set
  abbrev pub found : (is_wanted : Bool) → Value → Checked Operand
  found is_wanted (Number root x) = asks (not (root == boolean)) Mismatch m ⊳ λ _. found_in is_wanted root x (value_of b)
  found is_wanted other = fault Mismatch m

  abbrev pub decided : Junction → Checked Operand
  decided operator = number_of boolean m (value_of a) ⊳ λ x. number_of boolean n (value_of b) ⊳ λ y. Good (a_truth (chained level x (Decide operator y NoLink)) (of_truths operator a.constant b.constant))

  abbrev pub operated : Operator → Checked Operand
  operated (Computes operator) = computed operator (value_of a)
  operated (Relates relation) = related relation (value_of a)
  operated (Finds is_wanted) = found is_wanted (value_of a)
  operated (Decides operator) = decided operator

-- an operator of a level, with its right operand at a mark
pub record Further : Type 0 where
  pub operator : Operator
  pub link : ℕ
  pub at : Mark
  pub operand : Checked Operand

-- The operators of a level, from the left. All operands so far begin at m, the level's mark.
abbrev pub level : List Row → Mark → Checked Operand → List Further → Checked Operand
level types m x [] = x
level types m x (y ∷ more) = level types m (both x y.operand ⊳ λ z. operated types m.number y.link m y.at z.0 z.1 y.operator) more

-- an operand of a root, at n, behind prefix operators
abbrev pub prefixed : (node root : ℕ) → List Unary → (n : Mark) → Operand → Checked Operand
prefixed node root [] n a = Good a
prefixed node root (operator ∷ more) n a = number_of root n (value_of a) ⊳ λ x. Good (a_number root (Prefixed node (operator ∷ more) x) (all_prefixed (operator ∷ more) a.constant))
