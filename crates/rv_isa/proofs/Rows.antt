-- Worked rows of the definitions.
use Rattle.std.proofs.Common.{◌≡◌, Some, None, refl}
use Rattle.rv_isa.specs.declared.instr.Instr.TheVariants.{Lui, Jal, Jalr, Branch, Load, Store, Immediate, Shift, Register}
use Rattle.rv_isa.specs.declared.instr.ImmediateOp.TheVariants.{Addi}
use Rattle.rv_isa.specs.declared.instr.RegisterOp.TheVariants.{Add, Sub, Sra, Mul, Mulh, Mulhsu, Mulhu, Div, Divu, Rem, Remu}
use Rattle.rv_isa.specs.declared.instr.ShiftOp.TheVariants.{Srai}
use Rattle.rv_isa.specs.declared.instr.Relation.TheVariants.{Equal}
use Rattle.rv_isa.specs.declared.instr.LoadKind.TheVariants.{Word, Byte, ByteUnsigned}
use Rattle.rv_isa.specs.declared.instr.StoreKind.TheVariants.{Word as store_word}
use Rattle.rv_isa.specs.Encoding.{encoding, decoding}
use Rattle.rv_isa.specs.Arithmetic.{register_value, shift_value}
use Rattle.rv_isa.specs.Memory.{Memory, loaded}
use Rattle.rv_isa.specs.Step.{Space, Goes, execute}

-- addi x1, x0, 5 and addi x1, x0, -1
addi : (encoding (Immediate Addi 1 0 5) ≡ 0x00500093) × (encoding (Immediate Addi 1 0 4294967295) ≡ 0xfff00093)
addi = (refl, refl)

-- add x3, x1, x2, then sub and mul
register_words : (encoding (Register Add 3 1 2) ≡ 0x002081b3) × (encoding (Register Sub 3 1 2) ≡ 0x402081b3) × (encoding (Register Mul 3 1 2) ≡ 0x022081b3)
register_words = (refl, refl, refl)

-- srai x1, x1, 3
srai : encoding (Shift Srai 1 1 3) ≡ 0x4030d093
srai = refl

-- lui x5, 0x12345
lui : encoding (Lui 5 0x12345000) ≡ 0x123452b7
lui = refl

-- lw x2, 8(x1), then sw x2, 8(x1) and sw x2, -4(x1)
memory_words : (encoding (Load Word 2 1 8) ≡ 0x0080a103) × (encoding (Store store_word 1 2 8) ≡ 0x0020a423) × (encoding (Store store_word 1 2 4294967292) ≡ 0xfe20ae23)
memory_words = (refl, refl, refl)

-- beq x1, x2, +8 and beq x0, x0, -4
beq : (encoding (Branch Equal 1 2 8) ≡ 0x00208463) × (encoding (Branch Equal 0 0 4294967292) ≡ 0xfe000ee3)
beq = (refl, refl)

-- jal x1, +16, then jal x0, -4 and jalr x0, 0(x1)
jumps : (encoding (Jal 1 16) ≡ 0x010000ef) × (encoding (Jal 0 4294967292) ≡ 0xffdff06f) × (encoding (Jalr 0 1 0) ≡ 0x00008067)
jumps = (refl, refl, refl)

decoded : (decoding 0x00500093 ≡ Some (Immediate Addi 1 0 5)) × (decoding 0xfe000ee3 ≡ Some (Branch Equal 0 0 4294967292)) × (decoding 0xffdff06f ≡ Some (Jal 0 4294967292))
unfolding decoding
decoded = (refl, refl, refl)

-- no opcode is 0, and no operation on registers has funct7 2
undecoded : (decoding 0 ≡ None) × (decoding 0x042081b3 ≡ None)
unfolding decoding
undecoded = (refl, refl)

division_by_zero : (register_value Div 7 0 ≡ 0xffffffff) × (register_value Divu 7 0 ≡ 0xffffffff) × (register_value Rem 7 0 ≡ 7) × (register_value Remu 7 0 ≡ 7)
division_by_zero = (refl, refl, refl, refl)

-- -2^31 by -1
division_overflow : (register_value Div 0x80000000 0xffffffff ≡ 0x80000000) × (register_value Rem 0x80000000 0xffffffff ≡ 0)
division_overflow = (refl, refl)

-- -7 by 2 is -3, and -1 is left
division_negative : (register_value Div 4294967289 2 ≡ 4294967293) × (register_value Rem 4294967289 2 ≡ 0xffffffff)
division_negative = (refl, refl)

-- the high word of -1 by -1, of -1 by 2^32 - 1, and of 2^32 - 1 by itself
high_products : (register_value Mulh 0xffffffff 0xffffffff ≡ 0) × (register_value Mulhsu 0xffffffff 0xffffffff ≡ 0xffffffff) × (register_value Mulhu 0xffffffff 0xffffffff ≡ 0xfffffffe)
high_products = (refl, refl, refl)

-- the sign fills what a shift leaves free
signed_shifts : (register_value Sra 0x80000000 31 ≡ 0xffffffff) × (shift_value Srai 0x80000000 31 ≡ 0xffffffff)
signed_shifts = (refl, refl)

-- a byte is loaded with its sign, or without
loaded_bytes : (loaded Byte (λ _. 0x80) 0 ≡ 0xffffff80) × (loaded ByteUnsigned (λ _. 0x80) 0 ≡ 0x80)
loaded_bytes = (refl, refl)

-- a jump to 7 by a register comes to 6
jalr_clears : (s : Space) (m : Memory) →
    execute s (Jalr 0 5 0) (record { registers = λ _. 7; memory = m; pc = 65536 }) ≡ Goes (record { registers = λ _. 7; memory = m; pc = 6 })
jalr_clears s m = refl
