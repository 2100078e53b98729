-- The operators and predefined functions on ints, truth values and enumeration values.
use Rattle.std.specs.Prelude.{ℕ, ◌%◌, ◌^◌, ◌==◌, Bool, true, false, not, ◌&&◌, ◌||◌, ℤ, pos, neg_ℤ, ◌+ℤ◌, ◌-ℤ◌, ◌*ℤ◌, unsigned_abs, int_le, int_lt, int_div, int_rem, nat_le, Option, Some, None, if◌then◌else◌}
use Rattle.tu_base.specs.declared.limits.TheConstants.{MOST_INT}
use Rattle.tu_base.specs.declared.kind.Kind.{Kind}
use Rattle.tu_base.specs.declared.kind.Kind.TheVariants.{Overflow, Divide as Divide_kind, Range}
use Rattle.tu_base.specs.declared.operator.Relation.{Relation}
use Rattle.tu_base.specs.declared.operator.Relation.TheVariants.{Equal, NotEqual, Less, Greater, LessOrEqual, GreaterOrEqual}
use Rattle.tu_base.specs.declared.operator.Unary.{Unary}
use Rattle.tu_base.specs.declared.operator.Unary.TheVariants.{Plus, Minus, Not, Absolute, Successor, Predecessor, Next, Previous}
use Rattle.tu_base.specs.declared.operator.Binary.{Binary}
use Rattle.tu_base.specs.declared.operator.Binary.TheVariants.{Add, Subtract, Multiply, Divide, Modulo, Power, Least, Greatest, Compare}
use Rattle.tu_base.specs.declared.operator.Junction.{Junction}
use Rattle.tu_base.specs.declared.operator.Junction.TheVariants.{And, Or, Implies}

-- what an operator answers, and the units that it costs beside its node
pub data Answer (A : Type 0) : Type 0 where
  Gives : A → (units : ℕ) → Answer A
  Raises : Kind → (units : ℕ) → Answer A

-- an int to or from its text, and a power
abbrev pub conversion_units : ℕ
conversion_units = 32

abbrev pub are_equal : ℤ → ℤ → Bool
are_equal a b = int_le a b && int_le b a

-- An int lies from -MOST_INT to MOST_INT.
abbrev pub is_int : ℤ → Bool
is_int z = nat_le (unsigned_abs z) MOST_INT

-- the exact result, or Overflow
abbrev pub exact_for : (units : ℕ) → ℤ → Answer ℤ
exact_for units z = if is_int z then Gives z units else Raises Overflow units

abbrev pub exact : ℤ → Answer ℤ
exact z = exact_for 0 z

-- Division goes toward zero, so that a remainder has the sign of the left operand.
abbrev pub divided : (division : ℤ → ℤ → ℤ) → ℤ → ℤ → Answer ℤ
divided division a b = if are_equal b (pos 0) then Raises Divide_kind 0 else exact (division a b)

abbrev pub is_negative : ℤ → Bool
is_negative z = int_lt z (pos 0)

-- a to the power n, where 0 to the power 0 is 1
abbrev pub raised : ℤ → (n : ℕ) → ℤ
raised a n = if is_negative a && (n % 2 == 1) then neg_ℤ (pos (unsigned_abs a ^ n)) else pos (unsigned_abs a ^ n)

abbrev pub power : ℤ → ℤ → Answer ℤ
power a b = if is_negative b then Raises Range conversion_units else exact_for conversion_units (raised a (unsigned_abs b))

abbrev pub least : ℤ → ℤ → ℤ
least a b = if int_le a b then a else b

abbrev pub greatest : ℤ → ℤ → ℤ
greatest a b = if int_le a b then b else a

-- a place of an enumeration whose last value has the place last
abbrev pub place_within : (last : ℕ) → ℤ → Answer ℤ
place_within last z = if int_le (pos 0) z && int_le z (pos last) then Gives z 0 else Raises Range 0

-- Truth values are 0 for false and 1 for true.
abbrev pub truth_number : Bool → ℤ
truth_number false = pos 0
truth_number true = pos 1

abbrev pub is_true : ℤ → Bool
is_true z = not (are_equal z (pos 0))

-- what a relation says where it is known whether the left value comes before the right one, is equal to it, or comes behind it
abbrev pub by_order : Relation → (before equal behind : Bool) → Bool
by_order Equal before equal behind = equal
by_order NotEqual before equal behind = not equal
by_order Less before equal behind = before
by_order Greater before equal behind = behind
by_order LessOrEqual before equal behind = before || equal
by_order GreaterOrEqual before equal behind = behind || equal

abbrev pub compared : Relation → ℤ → ℤ → Bool
compared relation a b = by_order relation (int_lt a b) (are_equal a b) (int_lt b a)

abbrev pub unary : Unary → ℤ → Answer ℤ
unary Plus z = Gives z 0
unary Minus z = exact (neg_ℤ z)
unary Not z = Gives (truth_number (not (is_true z))) 0
unary Absolute z = Gives (pos (unsigned_abs z)) 0
unary Successor z = exact (z +ℤ pos 1)
unary Predecessor z = exact (z -ℤ pos 1)
unary (Next last) z = place_within last (z +ℤ pos 1)
unary (Previous last) z = place_within last (z -ℤ pos 1)

abbrev pub binary : Binary → ℤ → ℤ → Answer ℤ
binary Add a b = exact (a +ℤ b)
binary Subtract a b = exact (a -ℤ b)
binary Multiply a b = exact (a *ℤ b)
binary Divide a b = divided int_div a b
binary Modulo a b = divided int_rem a b
binary Power a b = power a b
binary Least a b = Gives (least a b) 0
binary Greatest a b = Gives (greatest a b) 0
binary (Compare relation) a b = Gives (truth_number (compared relation a b)) 0

-- what the left operand decides alone
abbrev pub decided : Junction → (left : Bool) → Option Bool
decided And false = Some false
decided And true = None
decided Or true = Some true
decided Or false = None
decided Implies false = Some true
decided Implies true = None
