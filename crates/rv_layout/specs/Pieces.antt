-- Short sequences of instructions. Register 7 has an address in between.
use Rattle.std.specs.Prelude.{ℕ, ◌+◌, ◌-◌, ◌*◌, ◌/◌, ◌%◌, Bool, true, false, nat_lt, if◌then◌else◌, List, [], ◌∷◌, ◌++◌}
use Rattle.rv_isa.specs.declared.instr.Instr.{Instr}
use Rattle.rv_isa.specs.declared.instr.Instr.TheVariants.{Lui, Jalr, Load, Store, Immediate, Register, Ecall}
use Rattle.rv_isa.specs.declared.instr.LoadKind.TheVariants.{Word}
use Rattle.rv_isa.specs.declared.instr.StoreKind.TheVariants.{Word as whole_word}
use Rattle.rv_isa.specs.declared.instr.ImmediateOp.TheVariants.{Addi}
use Rattle.rv_isa.specs.declared.instr.RegisterOp.TheVariants.{Add}

-- a word as the sum of an upper part, whose low 12 bits are zero, and of a signed part of 12 bits
abbrev pub upper : ℕ → ℕ
upper w = (w + 2048) / 4096 * 4096 % 4294967296

abbrev pub lower : ℕ → ℕ
lower w = (w + (4294967296 - upper w)) % 4294967296

-- the word of a negative number
abbrev pub minus : ℕ → ℕ
minus n = 4294967296 - n

-- one instruction without effect
abbrev pub nothing : List Instr
nothing = Immediate Addi 0 0 0 ∷ []

abbrev pub copy : (to from : ℕ) → Instr
copy to from = Immediate Addi to from 0

-- a number below 2048
abbrev pub small : (to number : ℕ) → Instr
small to number = Immediate Addi to 0 number

-- any word, in two instructions
abbrev pub long : (to word : ℕ) → List Instr
long to word = Lui to (upper word) ∷ Immediate Addi to to (lower word) ∷ []

-- a number is near where 12 bits hold it
abbrev pub is_near : ℕ → Bool
is_near n = nat_lt n 2048

-- a word in as few instructions as there can be
abbrev pub constant_by : Bool → (to word : ℕ) → List Instr
constant_by true to word = small to word ∷ []
constant_by false to word = long to word

abbrev pub constant : (to word : ℕ) → List Instr
constant to word = constant_by (is_near word) to word

-- register 7 becomes an upper part behind an address
abbrev pub far_from : (base offset : ℕ) → List Instr
far_from base offset = Lui 7 (upper offset) ∷ Register Add 7 7 base ∷ []

-- the word that lies so many bytes behind an address
abbrev pub load_by : Bool → (to base offset : ℕ) → List Instr
load_by true to base offset = Load Word to base offset ∷ []
load_by false to base offset = far_from base offset ++ Load Word to 7 (lower offset) ∷ []

abbrev pub load_word : (to base offset : ℕ) → List Instr
load_word to base offset = load_by (is_near offset) to base offset

abbrev pub store_by : Bool → (from base offset : ℕ) → List Instr
store_by true from base offset = Store whole_word base from offset ∷ []
store_by false from base offset = far_from base offset ++ Store whole_word 7 from (lower offset) ∷ []

abbrev pub store_word : (from base offset : ℕ) → List Instr
store_word from base offset = store_by (is_near offset) from base offset

-- the address that lies so many bytes behind another one
abbrev pub address_by : Bool → (to base offset : ℕ) → List Instr
address_by true to base offset = Immediate Addi to base offset ∷ []
address_by false to base offset = far_from base offset ++ Immediate Addi to 7 (lower offset) ∷ []

abbrev pub address_word : (to base offset : ℕ) → List Instr
address_word to base offset = address_by (is_near offset) to base offset

-- on to an address, from anywhere
abbrev pub go_to : ℕ → List Instr
go_to address = Lui 7 (upper address) ∷ Jalr 0 7 (lower address) ∷ []

-- and with the place behind it in register 8
abbrev pub call_to : ℕ → List Instr
call_to address = Lui 7 (upper address) ∷ Jalr 8 7 (lower address) ∷ []

-- a service by its number
abbrev pub ask : ℕ → List Instr
ask service = small 17 service ∷ Ecall ∷ []

-- the program is stopped by an exception whose number and line lie in registers 10 and 11
abbrev pub stopping : List Instr
stopping = ask 1

-- the program is stopped by the exception of a number at a line: five instructions
abbrev pub raising : (kind line : ℕ) → List Instr
raising kind line = small 10 kind ∷ (long 11 line ++ stopping)

-- how many instructions these are
abbrev pub constant_length : ℕ → ℕ
constant_length word = if is_near word then 1 else 2

abbrev pub reach : ℕ → ℕ
reach offset = if is_near offset then 1 else 3
