-- Which number stands for which operation, and tables of numbers.
use Rattle.std.specs.Prelude.{ℕ, List, [], ◌∷◌, Option, Some, None, ◌==◌, if◌then◌else◌}
use Rattle.rv_isa.specs.declared.instr.Relation.{Relation}
use Rattle.rv_isa.specs.declared.instr.Relation.TheVariants.{Equal, NotEqual, Less, GreaterOrEqual, LessUnsigned, GreaterOrEqualUnsigned}
use Rattle.rv_isa.specs.declared.instr.LoadKind.{LoadKind}
use Rattle.rv_isa.specs.declared.instr.LoadKind.TheVariants.{Byte, Half, Word, ByteUnsigned, HalfUnsigned}
use Rattle.rv_isa.specs.declared.instr.StoreKind.{StoreKind}
use Rattle.rv_isa.specs.declared.instr.StoreKind.TheVariants.{Byte as store_byte, Half as store_half, Word as store_word}
use Rattle.rv_isa.specs.declared.instr.ImmediateOp.{ImmediateOp}
use Rattle.rv_isa.specs.declared.instr.ImmediateOp.TheVariants.{Addi, Slti, Sltiu, Xori, Ori, Andi}
use Rattle.rv_isa.specs.declared.instr.ShiftOp.{ShiftOp}
use Rattle.rv_isa.specs.declared.instr.ShiftOp.TheVariants.{Slli, Srli, Srai}
use Rattle.rv_isa.specs.declared.instr.RegisterOp.{RegisterOp}
use Rattle.rv_isa.specs.declared.instr.RegisterOp.TheVariants.{Add, Sub, Sll, Slt, Sltu, Xor, Srl, Sra, Or, And, Mul, Mulh, Mulhsu, Mulhu, Div, Divu, Rem, Remu}

-- the entry of a number
abbrev pub entry : {A : Type 0} → List (ℕ × A) → ℕ → Option A
entry [] n = None
entry (e ∷ es) n = if n == e.0 then Some e.1 else entry es n

-- funct3
abbrev pub relations : List (ℕ × Relation)
relations = (0, Equal) ∷ ((1, NotEqual) ∷ ((4, Less) ∷ ((5, GreaterOrEqual) ∷ ((6, LessUnsigned) ∷ ((7, GreaterOrEqualUnsigned) ∷ [])))))

abbrev pub relation_number : Relation → ℕ
relation_number Equal = 0
relation_number NotEqual = 1
relation_number Less = 4
relation_number GreaterOrEqual = 5
relation_number LessUnsigned = 6
relation_number GreaterOrEqualUnsigned = 7

abbrev pub loads : List (ℕ × LoadKind)
loads = (0, Byte) ∷ ((1, Half) ∷ ((2, Word) ∷ ((4, ByteUnsigned) ∷ ((5, HalfUnsigned) ∷ []))))

abbrev pub load_number : LoadKind → ℕ
load_number Byte = 0
load_number Half = 1
load_number Word = 2
load_number ByteUnsigned = 4
load_number HalfUnsigned = 5

abbrev pub stores : List (ℕ × StoreKind)
stores = (0, store_byte) ∷ ((1, store_half) ∷ ((2, store_word) ∷ []))

abbrev pub store_number : StoreKind → ℕ
store_number store_byte = 0
store_number store_half = 1
store_number store_word = 2

abbrev pub immediate_ops : List (ℕ × ImmediateOp)
immediate_ops = (0, Addi) ∷ ((2, Slti) ∷ ((3, Sltiu) ∷ ((4, Xori) ∷ ((6, Ori) ∷ ((7, Andi) ∷ [])))))

abbrev pub immediate_number : ImmediateOp → ℕ
immediate_number Addi = 0
immediate_number Slti = 2
immediate_number Sltiu = 3
immediate_number Xori = 4
immediate_number Ori = 6
immediate_number Andi = 7

-- funct3 and 8 times funct7
abbrev pub shifts : List (ℕ × ShiftOp)
shifts = (1, Slli) ∷ ((5, Srli) ∷ ((261, Srai) ∷ []))

abbrev pub shift_number : ShiftOp → ℕ
shift_number Slli = 1
shift_number Srli = 5
shift_number Srai = 261

abbrev pub register_ops : List (ℕ × RegisterOp)
register_ops =
    (0, Add) ∷ ((256, Sub) ∷ ((1, Sll) ∷ ((2, Slt) ∷ ((3, Sltu) ∷ ((4, Xor) ∷ ((5, Srl) ∷ ((261, Sra) ∷ ((6, Or) ∷ ((7, And) ∷ (
    (8, Mul) ∷ ((9, Mulh) ∷ ((10, Mulhsu) ∷ ((11, Mulhu) ∷ ((12, Div) ∷ ((13, Divu) ∷ ((14, Rem) ∷ ((15, Remu) ∷ [])))))))))))))))))

abbrev pub register_number : RegisterOp → ℕ
register_number Add = 0
register_number Sub = 256
register_number Sll = 1
register_number Slt = 2
register_number Sltu = 3
register_number Xor = 4
register_number Srl = 5
register_number Sra = 261
register_number Or = 6
register_number And = 7
register_number Mul = 8
register_number Mulh = 9
register_number Mulhsu = 10
register_number Mulhu = 11
register_number Div = 12
register_number Divu = 13
register_number Rem = 14
register_number Remu = 15
