-- The words of the instructions.
-- A word has its opcode in bits 6 to 0, rd in 11 to 7, funct3 in 14 to 12, rs1 in 19 to 15, rs2 in 24 to 20 and funct7 in 31 to 25.
use Rattle.std.specs.Prelude.{◌≡◌, ℕ, ◌+◌, ◌-◌, ◌*◌, ◌/◌, ◌%◌, ◌<◌, List, [], ◌∷◌, Option, Some, None, ◌==◌, if◌then◌else◌, option_map, option_and_then}
use Rattle.rv_isa.specs.Tables.{entry, relations, relation_number, loads, load_number, stores, store_number, immediate_ops, immediate_number, shifts, shift_number, register_ops, register_number}
use Rattle.rv_isa.specs.declared.instr.Instr.{Instr}
use Rattle.rv_isa.specs.declared.instr.Instr.TheVariants.{Lui, Auipc, Jal, Jalr, Branch, Load, Store, Immediate, Shift, Register, Fence, Ecall, Ebreak}

-- v stands for a number from -half to half - 1
abbrev pub IsSigned : ℕ → ℕ → Type 0
IsSigned half v = (v < 4294967296) × ((v + half) % 4294967296 < 2 * half)

-- the word of the signed number whose low bits are x
abbrev pub signed : ℕ → ℕ → ℕ
signed half x = ((x + half) % (2 * half) + (4294967296 - half)) % 4294967296

abbrev pub IsUpper : ℕ → Type 0
IsUpper v = (v < 4294967296) × (v % 4096 ≡ 0)

abbrev pub Fits : Instr → Type 0
Fits (Lui rd upper) = (rd < 32) × IsUpper upper
Fits (Auipc rd upper) = (rd < 32) × IsUpper upper
Fits (Jal rd offset) = (rd < 32) × IsSigned 1048576 offset × (offset % 2 ≡ 0)
Fits (Jalr rd rs1 offset) = (rd < 32) × (rs1 < 32) × IsSigned 2048 offset
Fits (Branch relation rs1 rs2 offset) = (rs1 < 32) × (rs2 < 32) × IsSigned 4096 offset × (offset % 2 ≡ 0)
Fits (Load kind rd rs1 offset) = (rd < 32) × (rs1 < 32) × IsSigned 2048 offset
Fits (Store kind rs1 rs2 offset) = (rs1 < 32) × (rs2 < 32) × IsSigned 2048 offset
Fits (Immediate op rd rs1 value) = (rd < 32) × (rs1 < 32) × IsSigned 2048 value
Fits (Shift op rd rs1 amount) = (rd < 32) × (rs1 < 32) × (amount < 32)
Fits (Register op rd rs1 rs2) = (rd < 32) × (rs1 < 32) × (rs2 < 32)
Fits (Fence rd rs1 value) = (rd < 32) × (rs1 < 32) × IsSigned 2048 value
Fits Ecall = Unit {0}
Fits Ebreak = Unit {0}

-- opcode, rd, funct3, rs1, and the bits from 20 on
abbrev pub word : ℕ → ℕ → ℕ → ℕ → ℕ → ℕ
word opcode rd funct3 rs1 high = opcode + 128 * rd + 4096 * funct3 + 32768 * rs1 + 1048576 * high

abbrev pub encoding : Instr → ℕ
encoding (Lui rd upper) = 0x37 + 128 * rd + upper
encoding (Auipc rd upper) = 0x17 + 128 * rd + upper
encoding (Jal rd offset) =
    0x6f + 128 * rd + 4096 * (offset / 4096 % 256) + 1048576 * (offset / 2048 % 2) + 2097152 * (offset / 2 % 1024) + 2147483648 * (offset / 1048576 % 2)
encoding (Jalr rd rs1 offset) = word 0x67 rd 0 rs1 (offset % 4096)
encoding (Branch relation rs1 rs2 offset) =
    word 0x63 (offset / 2048 % 2 + 2 * (offset / 2 % 16)) (relation_number relation) rs1 (rs2 + 32 * (offset / 32 % 64) + 2048 * (offset / 4096 % 2))
encoding (Load kind rd rs1 offset) = word 0x03 rd (load_number kind) rs1 (offset % 4096)
encoding (Store kind rs1 rs2 offset) = word 0x23 (offset % 32) (store_number kind) rs1 (rs2 + 32 * (offset / 32 % 128))
encoding (Immediate op rd rs1 value) = word 0x13 rd (immediate_number op) rs1 (value % 4096)
encoding (Shift op rd rs1 amount) = word 0x13 rd (shift_number op % 8) rs1 (amount + 32 * (shift_number op / 8))
encoding (Register op rd rs1 rs2) = word 0x33 rd (register_number op % 8) rs1 (rs2 + 32 * (register_number op / 8))
encoding (Fence rd rs1 value) = word 0x0f rd 0 rs1 (value % 4096)
encoding Ecall = 0x73
encoding Ebreak = 0x100073

-- the fields of a word
abbrev pub rd_of : ℕ → ℕ
rd_of w = w / 128 % 32

abbrev pub funct3_of : ℕ → ℕ
funct3_of w = w / 4096 % 8

abbrev pub rs1_of : ℕ → ℕ
rs1_of w = w / 32768 % 32

abbrev pub rs2_of : ℕ → ℕ
rs2_of w = w / 1048576 % 32

abbrev pub funct7_of : ℕ → ℕ
funct7_of w = w / 33554432

abbrev pub upper_of : ℕ → ℕ
upper_of w = w / 4096 * 4096

abbrev pub immediate_of : ℕ → ℕ
immediate_of w = signed 2048 (w / 1048576)

abbrev pub store_offset_of : ℕ → ℕ
store_offset_of w = signed 2048 (w / 128 % 32 + 32 * (w / 33554432))

abbrev pub branch_offset_of : ℕ → ℕ
branch_offset_of w = signed 4096 (2 * (w / 256 % 16) + 32 * (w / 33554432 % 64) + 2048 * (w / 128 % 2) + 4096 * (w / 2147483648))

abbrev pub jump_offset_of : ℕ → ℕ
jump_offset_of w = signed 1048576 (2 * (w / 2097152 % 1024) + 2048 * (w / 1048576 % 2) + 4096 * (w / 4096 % 256) + 1048576 * (w / 2147483648))

-- The instruction of a word, by its opcode.
abbrev pub jalr_at : ℕ → Option Instr
jalr_at w = if funct3_of w == 0 then Some (Jalr (rd_of w) (rs1_of w) (immediate_of w)) else None

abbrev pub branch_at : ℕ → Option Instr
branch_at w = option_map (λ r. Branch r (rs1_of w) (rs2_of w) (branch_offset_of w)) (entry relations (funct3_of w))

abbrev pub load_at : ℕ → Option Instr
load_at w = option_map (λ k. Load k (rd_of w) (rs1_of w) (immediate_of w)) (entry loads (funct3_of w))

abbrev pub store_at : ℕ → Option Instr
store_at w = option_map (λ k. Store k (rs1_of w) (rs2_of w) (store_offset_of w)) (entry stores (funct3_of w))

abbrev pub shift_at : ℕ → Option Instr
shift_at w = option_map (λ s. Shift s (rd_of w) (rs1_of w) (rs2_of w)) (entry shifts (funct3_of w + 8 * funct7_of w))

abbrev pub immediate_at : ℕ → Option Instr
immediate_at w = if funct3_of w % 4 == 1 then shift_at w else option_map (λ o. Immediate o (rd_of w) (rs1_of w) (immediate_of w)) (entry immediate_ops (funct3_of w))

abbrev pub register_at : ℕ → Option Instr
register_at w = option_map (λ o. Register o (rd_of w) (rs1_of w) (rs2_of w)) (entry register_ops (funct3_of w + 8 * funct7_of w))

abbrev pub fence_at : ℕ → Option Instr
fence_at w = if funct3_of w == 0 then Some (Fence (rd_of w) (rs1_of w) (immediate_of w)) else None

abbrev pub system_at : ℕ → Option Instr
system_at w = if w == 0x73 then Some Ecall else if w == 0x100073 then Some Ebreak else None

abbrev pub opcodes : List (ℕ × (ℕ → Option Instr))
opcodes =
    (0x37, λ w. Some (Lui (rd_of w) (upper_of w))) ∷ ((0x17, λ w. Some (Auipc (rd_of w) (upper_of w))) ∷ ((0x6f, λ w. Some (Jal (rd_of w) (jump_offset_of w))) ∷ (
    (0x67, jalr_at) ∷ ((0x63, branch_at) ∷ ((0x03, load_at) ∷ ((0x23, store_at) ∷ ((0x13, immediate_at) ∷ ((0x33, register_at) ∷ ((0x0f, fence_at) ∷ ((0x73, system_at) ∷ []))))))))))

-- The instruction of a word, or None where it has none.
unfoldable pub decoding : ℕ → Option Instr
decoding w = option_and_then (λ at. at w) (entry opcodes (w % 128))
