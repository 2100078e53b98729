-- What the operations compute, on words of 32 bits.
use Rattle.std.specs.Prelude.{ℕ, ◌+◌, ◌-◌, ◌*◌, ◌/◌, ◌%◌, ◌^◌, Bool, ◌==◌, nat_lt, if◌then◌else◌, bit_and, bit_or, bit_xor, int_lt, ℤ, not}
use Rattle.std.specs.Int.{w32, cast_signed, cast_unsigned}
use Rattle.std.specs.Int.RustNames.{int_div, int_rem}
use Rattle.rv_isa.specs.declared.instr.RegisterOp.{RegisterOp}
use Rattle.rv_isa.specs.declared.instr.RegisterOp.TheVariants.{Add, Sub, Sll, Slt, Sltu, Xor, Srl, Sra, Or, And, Mul, Mulh, Mulhsu, Mulhu, Div, Divu, Rem, Remu}
use Rattle.rv_isa.specs.declared.instr.ImmediateOp.{ImmediateOp}
use Rattle.rv_isa.specs.declared.instr.ImmediateOp.TheVariants.{Addi, Slti, Sltiu, Xori, Ori, Andi}
use Rattle.rv_isa.specs.declared.instr.ShiftOp.{ShiftOp}
use Rattle.rv_isa.specs.declared.instr.ShiftOp.TheVariants.{Slli, Srli, Srai}
use Rattle.rv_isa.specs.declared.instr.Relation.{Relation}
use Rattle.rv_isa.specs.declared.instr.Relation.TheVariants.{Equal, NotEqual, Less, GreaterOrEqual, LessUnsigned, GreaterOrEqualUnsigned}

-- the signed number that a word stands for
abbrev pub signed_of : ℕ → ℤ
signed_of a = cast_signed w32 a

-- a word with its sign, in 64 bits
abbrev pub wide : ℕ → ℕ
wide a = if nat_lt a 2147483648 then a else a + 18446744069414584320

-- 1 where it is true
abbrev pub one_if : Bool → ℕ
one_if b = if b then 1 else 0

-- Sums wrap, and shifts use the low five bits. Mulh, Mulhsu and Mulhu are the high word of the product of signed numbers, of a signed and an
-- unsigned one, and of unsigned ones. Division by zero gives all ones, and the dividend as remainder; -2^31 by -1 gives -2^31 and 0.
abbrev pub register_value : RegisterOp → ℕ → ℕ → ℕ
register_value Add a b = (a + b) % 2 ^ 32
register_value Sub a b = (a + (2 ^ 32 - b)) % 2 ^ 32
register_value Sll a b = a * 2 ^ (b % 32) % 2 ^ 32
register_value Slt a b = one_if (int_lt (signed_of a) (signed_of b))
register_value Sltu a b = one_if (nat_lt a b)
register_value Xor a b = bit_xor a b
register_value Srl a b = a / 2 ^ (b % 32)
register_value Sra a b = wide a / 2 ^ (b % 32) % 2 ^ 32
register_value Or a b = bit_or a b
register_value And a b = bit_and a b
register_value Mul a b = a * b % 2 ^ 32
register_value Mulh a b = wide a * wide b % 2 ^ 64 / 2 ^ 32
register_value Mulhsu a b = wide a * b % 2 ^ 64 / 2 ^ 32
register_value Mulhu a b = a * b / 2 ^ 32
register_value Div a b = if b == 0 then 4294967295 else cast_unsigned w32 (int_div (signed_of a) (signed_of b))
register_value Divu a b = if b == 0 then 4294967295 else a / b
register_value Rem a b = if b == 0 then a else cast_unsigned w32 (int_rem (signed_of a) (signed_of b))
register_value Remu a b = if b == 0 then a else a % b

abbrev pub immediate_value : ImmediateOp → ℕ → ℕ → ℕ
immediate_value Addi a b = (a + b) % 2 ^ 32
immediate_value Slti a b = one_if (int_lt (signed_of a) (signed_of b))
immediate_value Sltiu a b = one_if (nat_lt a b)
immediate_value Xori a b = bit_xor a b
immediate_value Ori a b = bit_or a b
immediate_value Andi a b = bit_and a b

abbrev pub shift_value : ShiftOp → ℕ → ℕ → ℕ
shift_value Slli a k = a * 2 ^ k % 2 ^ 32
shift_value Srli a k = a / 2 ^ k
shift_value Srai a k = wide a / 2 ^ k % 2 ^ 32

-- whether a branch is taken
abbrev pub holds : Relation → ℕ → ℕ → Bool
holds Equal a b = a == b
holds NotEqual a b = not (a == b)
holds Less a b = int_lt (signed_of a) (signed_of b)
holds GreaterOrEqual a b = not (int_lt (signed_of a) (signed_of b))
holds LessUnsigned a b = nat_lt a b
holds GreaterOrEqualUnsigned a b = not (nat_lt a b)
