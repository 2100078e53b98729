-- The operations that read and store values, and those of the operators.
use Rattle.std.specs.Prelude.{ℕ, ◌+◌, List, [], ◌∷◌, ◌++◌}
use Rattle.tu_base.specs.declared.kind.Kind.TheVariants as kind
use Rattle.rv_isa.specs.declared.instr.RegisterOp.TheVariants.{Add, Sub, Sltu, Mul, Mulh, Sra}
use Rattle.rv_isa.specs.declared.instr.Relation.TheVariants.{Equal, NotEqual, LessUnsigned, GreaterOrEqualUnsigned}
use Rattle.ir_form.specs.declared.plain.Width.TheVariants.{Word}
use Rattle.ir_form.specs.declared.op.Op.{Op}
use Rattle.ir_code.specs.Pieces.{constant, compute, load, store, raise_unless}
use Rattle.ir_code.specs.declared.code.Code.{Code}
use Rattle.tu_value.specs.declared.pieces.Fixed.{Fixed}

-- code with operations more, which define so many values from the next one on
abbrev pub with_piece : Code → List Op → (count : ℕ) → Code
with_piece code ops count = record { ops = code.ops ++ ops; next = code.next + count }

-- the two values that a routine begins with, from the value n on
abbrev pub fixed_from : ℕ → Fixed
fixed_from n = record { zero = n; top = n + 1 }

abbrev pub fixed_code : ℕ → List Op
fixed_code n = constant n 0 ∷ constant (n + 1) 2147483648 ∷ []

-- The value n is a number that is written in the program.
abbrev pub literal_code : (number n : ℕ) → List Op
literal_code number n = constant n (2147483648 + number) ∷ []

-- The value n is what stands at an address; it is to be set.
abbrev pub fetch_code : Fixed → (line at n : ℕ) → List Op
fetch_code k line at n = load n Word at ∷ raise_unless NotEqual n k.zero kind.Unset line ∷ []

abbrev pub store_code : (at from : ℕ) → List Op
store_code at from = store Word at from ∷ []

-- The variable at an address is unset.
abbrev pub unset_code : Fixed → (at : ℕ) → List Op
unset_code k at = store_code at k.zero

-- The value n is the number of an int, as a word of the machine.
abbrev pub number_code : Fixed → (value n : ℕ) → List Op
number_code k value n = compute n Add value k.top ∷ []

-- The value n + 1 is the sum of two values. Where the right one is below 0 the sum is below the left one, and else it is not.
abbrev pub sum_code : Fixed → (line left right n : ℕ) → List Op
sum_code k line left right n =
    compute n Add left right ∷ compute (n + 1) Add n k.top ∷ compute (n + 2) Sltu (n + 1) left ∷ compute (n + 3) Sltu right k.top
    ∷ raise_unless Equal (n + 2) (n + 3) kind.Overflow line ∷ raise_unless NotEqual (n + 1) k.zero kind.Overflow line ∷ []

-- The value n + 1 is the difference.
abbrev pub difference_code : Fixed → (line left right n : ℕ) → List Op
difference_code k line left right n =
    compute n Sub left right ∷ compute (n + 1) Add n k.top ∷ compute (n + 2) Sltu left (n + 1) ∷ compute (n + 3) Sltu right k.top
    ∷ raise_unless Equal (n + 2) (n + 3) kind.Overflow line ∷ raise_unless NotEqual (n + 1) k.zero kind.Overflow line ∷ []

-- The value n + 6 is the product. It fits a word where the upper word is the sign of the lower one.
abbrev pub product_code : Fixed → (line left right n : ℕ) → List Op
product_code k line left right n =
    compute n Add left k.top ∷ compute (n + 1) Add right k.top ∷ compute (n + 2) Mul n (n + 1) ∷ compute (n + 3) Mulh n (n + 1) ∷ constant (n + 4) 31
    ∷ compute (n + 5) Sra (n + 2) (n + 4) ∷ raise_unless Equal (n + 3) (n + 5) kind.Overflow line
    ∷ compute (n + 6) Add (n + 2) k.top ∷ raise_unless NotEqual (n + 6) k.zero kind.Overflow line ∷ []

-- The value n + 1 is the sum of a value and a number, or their difference.
abbrev pub more_code : (line left number n : ℕ) → List Op
more_code line left number n = constant n number ∷ compute (n + 1) Add left n ∷ raise_unless GreaterOrEqualUnsigned (n + 1) left kind.Overflow line ∷ []

abbrev pub less_code : (line left number n : ℕ) → List Op
less_code line left number n = constant n number ∷ compute (n + 1) Sub left n ∷ raise_unless LessUnsigned n left kind.Overflow line ∷ []
