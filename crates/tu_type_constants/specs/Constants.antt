-- The values of constant expressions: those of literals, enumeration values, constants that have constant values, and operators on them.
use Rattle.std.specs.Prelude.{ℕ, Bool, List, [], ◌∷◌, ℤ, Option, Some, None, if◌then◌else◌}
use Rattle.tu_base.specs.declared.operator.Relation.{Relation}
use Rattle.tu_base.specs.declared.operator.Unary.{Unary}
use Rattle.tu_base.specs.declared.operator.Binary.{Binary}
use Rattle.tu_base.specs.declared.operator.Junction.{Junction}
use Rattle.tu_type_constants.specs.declared.constant.Constant.{Constant}
use Rattle.tu_type_constants.specs.declared.constant.Constant.TheVariants.{NoConstant, Raising, Is, IsText}
use Rattle.tu_base.specs.Scalars.{Answer, Gives, Raises, is_int, unary, binary, decided, is_true, truth_number}
use Rattle.tu_base.specs.Texts.{compare_texts, joined}

-- the int that an operator answers, if it answers one
abbrev pub int_in : Answer ℤ → Option ℤ
int_in (Gives z units) = if is_int z then Some z else None
int_in (Raises exception units) = None

-- An expression is no constant expression, or it is one that would raise an exception, or it has a value.
abbrev pub of_int : Option ℤ → Constant
of_int (Some z) = Is z
of_int None = Raising

abbrev pub of_number : Answer ℤ → Constant
of_number answer = of_int (int_in answer)

abbrev pub of_truth : Answer Bool → Constant
of_truth (Gives b units) = Is (truth_number b)
of_truth (Raises exception units) = Raising

abbrev pub of_text : Answer (List ℕ) → Constant
of_text (Gives bytes units) = IsText bytes
of_text (Raises exception units) = Raising

-- prefix operators, of which the last one is applied first
abbrev pub prefixed_by : Unary → Constant → Constant
prefixed_by operator NoConstant = NoConstant
prefixed_by operator Raising = Raising
prefixed_by operator (Is z) = of_number (unary operator z)
prefixed_by operator (IsText bytes) = NoConstant

abbrev pub all_prefixed : List Unary → Constant → Constant
all_prefixed [] x = x
all_prefixed (operator ∷ more) x = prefixed_by operator (all_prefixed more x)

-- Both operands are constant expressions, and what one raises, the whole raises.
abbrev pub with_both : (ℤ → ℤ → Constant) → (List ℕ → List ℕ → Constant) → Constant → Constant → Constant
with_both numbers texts NoConstant y = NoConstant
with_both numbers texts Raising NoConstant = NoConstant
with_both numbers texts Raising y = Raising
with_both numbers texts (Is a) NoConstant = NoConstant
with_both numbers texts (Is a) Raising = Raising
with_both numbers texts (Is a) (Is b) = numbers a b
with_both numbers texts (Is a) (IsText b) = NoConstant
with_both numbers texts (IsText a) NoConstant = NoConstant
with_both numbers texts (IsText a) Raising = Raising
with_both numbers texts (IsText a) (Is b) = NoConstant
with_both numbers texts (IsText a) (IsText b) = texts a b

abbrev pub of_numbers : Binary → Constant → Constant → Constant
of_numbers operator x y = with_both (λ a b. of_number (binary operator a b)) (λ a b. NoConstant) x y

abbrev pub of_texts : Relation → Constant → Constant → Constant
of_texts relation x y = with_both (λ a b. NoConstant) (λ a b. of_truth (compare_texts relation a b)) x y

abbrev pub of_joined : Constant → Constant → Constant
of_joined x y = with_both (λ a b. NoConstant) (λ a b. of_text (joined a b)) x y

-- A right side that is not looked at may raise, and is a constant expression nevertheless.
abbrev pub unless_decided : Option Bool → Constant → Constant
unless_decided d NoConstant = NoConstant
unless_decided None y = y
unless_decided (Some b) y = Is (truth_number b)

abbrev pub of_truths : Junction → Constant → Constant → Constant
of_truths operator NoConstant y = NoConstant
of_truths operator Raising NoConstant = NoConstant
of_truths operator Raising y = Raising
of_truths operator (Is a) y = unless_decided (decided operator (is_true a)) y
of_truths operator (IsText bytes) y = NoConstant

-- the number of a constant expression that has one
abbrev pub number_in : Constant → Option ℤ
number_in (Is z) = Some z
number_in x = None
