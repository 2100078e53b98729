-- Worked rows: the words of far and of near values, how many they are, and a small program.
use Rattle.std.proofs.Common.{◌≡◌, ℕ, List, [], ◌∷◌, length, take, drop, true, false, pos, negsuc, refl}
use Rattle.tu_base.specs.declared.kind.Kind.TheVariants.{Overflow}
use Rattle.rv_isa.specs.declared.instr.Instr.{Instr}
use Rattle.rv_isa.specs.declared.instr.Instr.TheVariants.{Lui, Jalr, Load, Store, Immediate, Shift, Register, Ecall, Branch as BranchIf}
use Rattle.rv_isa.specs.declared.instr.LoadKind.TheVariants.{Word as load_whole, ByteUnsigned}
use Rattle.rv_isa.specs.declared.instr.StoreKind.TheVariants.{Word as store_whole}
use Rattle.rv_isa.specs.declared.instr.ImmediateOp.TheVariants.{Addi}
use Rattle.rv_isa.specs.declared.instr.ShiftOp.TheVariants.{Slli, Srli}
use Rattle.rv_isa.specs.declared.instr.Relation.TheVariants.{Less, GreaterOrEqualUnsigned}
use Rattle.rv_isa.specs.declared.instr.RegisterOp.TheVariants.{Add, Sub}
use Rattle.rv_isa.specs.declared.service.Service.TheVariants.{End, Open}
use Rattle.ir_form.specs.declared.plain.Width.TheVariants.{Byte, Word}
use Rattle.ir_form.specs.declared.plain.Plain.TheVariants.{Constant, Global, Heap, Frame, Text, Compute, Load as load, Store as store, Ask, Call, Raise, Take, Give, Throw}
use Rattle.rv_flat.specs.declared.linear.Instruction.{Instruction}
use Rattle.rv_flat.specs.declared.linear.Instruction.TheVariants.{Plain, Branch, Within, Hand, Jump, Label, Back}
use Rattle.rv_flat.specs.declared.linear.LinearRoutine.{LinearRoutine}
use Rattle.rv_flat.specs.declared.linear.Linear.{Linear}
use Rattle.rv_layout.specs.Pieces.{upper, lower}
use Rattle.rv_layout.specs.Moves.{Copy, Swap, moves}
use Rattle.rv_layout.specs.Calling.{entering}
use Rattle.rv_layout.specs.Words.{instruction_words, far_jump}
use Rattle.rv_text.specs.Lengths.{instruction_length}
use Rattle.rv_text.specs.Text.{addresses, around, label_at, routine_words, text_of, place_of_image}

-- two parts of a word, with the signed one above and below 0
halves : (upper 6144 ≡ 8192) × (lower 6144 ≡ 4294965248) × (upper 6143 ≡ 4096) × (lower 6143 ≡ 2047) × (upper 4294967295 ≡ 0) × (lower 4294967295 ≡ 4294967295)
halves = (refl, refl, refl, refl, refl, refl)

-- a chain, an exchange, and three values in a ring
chain : (moves (1 ∷ 2 ∷ []) (0 ∷ 1 ∷ []) ≡ Copy 2 1 ∷ Copy 1 0 ∷ []) × (moves (1 ∷ 2 ∷ []) (2 ∷ 1 ∷ []) ≡ Swap 1 2 ∷ Copy 2 2 ∷ []) × (moves (1 ∷ 2 ∷ 3 ∷ []) (2 ∷ 3 ∷ 1 ∷ []) ≡ Swap 1 2 ∷ Swap 2 3 ∷ Copy 3 3 ∷ [])
chain = (refl, refl, refl)

-- a routine with values near its frame's lowest byte, and one with all of them far away
abbrev near_one : LinearRoutine
near_one = record { parameters = 1 ∷ []; code = []; room = 64; words = 2; depth = 1 }

abbrev far_one : LinearRoutine
far_one = record { parameters = 1 ∷ 3 ∷ []; code = []; room = 4096; words = 1024; depth = 0 }

abbrev both : List LinearRoutine
both = near_one ∷ far_one ∷ []

abbrev linear : Linear
linear = record { globals = 1; main = 0; routines = both; texts = [] }

abbrev words : LinearRoutine → Instruction → List Instr
words r i = instruction_words (addresses linear) both (record { parameters = r.parameters; room = r.room; words = r.words; depth = r.depth }) (far_jump (λ l. 65536)) i

abbrev size : LinearRoutine → Instruction → ℕ
size r i = instruction_length both (record { parameters = r.parameters; room = r.room; words = r.words; depth = r.depth }) i

-- at most as many words, at the price of as many
record Takes (i : Instruction) (least most : ℕ) : Type 0 where
  near : (length (words near_one i) ≡ least) × (size near_one i ≡ least)
  far : (length (words far_one i) ≡ most) × (size far_one i ≡ most)

plain_sizes : Takes (Plain (Constant 1 7)) 2 4 × Takes (Plain (Constant 1 2048)) 3 5 × Takes (Plain (Global 1 0)) 3 5 × Takes (Plain (Heap 1)) 1 3
    × Takes (Plain (Frame 1 511)) 2 4 × Takes (Plain (Frame 1 512)) 4 6 × Takes (Plain (Text 1 0)) 3 5 × Takes (Plain (Compute 1 Add 3 5)) 4 10
    × Takes (Plain (load 1 Word 3)) 3 7 × Takes (Plain (store Byte 1 3)) 3 7 × Takes (Plain (Raise Overflow 70000)) 5 5
plain_sizes = (
  record { near = (refl, refl); far = (refl, refl) },
  record { near = (refl, refl); far = (refl, refl) },
  record { near = (refl, refl); far = (refl, refl) },
  record { near = (refl, refl); far = (refl, refl) },
  record { near = (refl, refl); far = (refl, refl) },
  record { near = (refl, refl); far = (refl, refl) },
  record { near = (refl, refl); far = (refl, refl) },
  record { near = (refl, refl); far = (refl, refl) },
  record { near = (refl, refl); far = (refl, refl) },
  record { near = (refl, refl); far = (refl, refl) },
  record { near = (refl, refl); far = (refl, refl) },
)

host_sizes : Takes (Plain (Ask 1 (Open 3 5 7))) 6 14 × Takes (Plain (Ask 1 End)) 3 5 × Takes (Plain (Take 1 3 9)) 9 13 × Takes (Plain (Give 1)) 7 9
    × Takes (Plain (Call 0 (3 ∷ []) (5 ∷ []) 9)) 14 18 × Takes (Plain (Call 1 (3 ∷ 5 ∷ []) (5 ∷ []) 9)) 20 26
host_sizes = (
  record { near = (refl, refl); far = (refl, refl) },
  record { near = (refl, refl); far = (refl, refl) },
  record { near = (refl, refl); far = (refl, refl) },
  record { near = (refl, refl); far = (refl, refl) },
  record { near = (refl, refl); far = (refl, refl) },
  record { near = (refl, refl); far = (refl, refl) },
)

other_sizes : Takes (Branch Less 1 3 0) 5 9 × Takes (Within 1 (record { low = negsuc 4; high = pos 5 }) 0) 9 11 × Takes (Hand (1 ∷ 3 ∷ []) (3 ∷ 1 ∷ [])) 9 25 × Takes (Hand (1 ∷ 3 ∷ []) (5 ∷ 7 ∷ [])) 5 13
    × Takes (Jump 0) 2 2 × Takes (Label 0 true) 1 1 × Takes (Back (1 ∷ 3 ∷ [])) 8 13
other_sizes = (
  record { near = (refl, refl); far = (refl, refl) },
  record { near = (refl, refl); far = (refl, refl) },
  record { near = (refl, refl); far = (refl, refl) },
  record { near = (refl, refl); far = (refl, refl) },
  record { near = (refl, refl); far = (refl, refl) },
  record { near = (refl, refl); far = (refl, refl) },
  record { near = (refl, refl); far = (refl, refl) },
)

-- a call of a routine of depth 1 with one argument and one result
call_words : words near_one (Plain (Call 0 (3 ∷ []) (5 ∷ []) 9)) ≡
    Lui 7 65536 ∷ Jalr 8 7 80
    ∷ Immediate Addi 10 0 21 ∷ Lui 11 0 ∷ Immediate Addi 11 11 9 ∷ Immediate Addi 17 0 1 ∷ Ecall
    ∷ Load load_whole 5 2 12 ∷ Store store_whole 1 5 8
    ∷ Jalr 8 8 0
    ∷ Load load_whole 9 1 4294967288
    ∷ Store store_whole 9 5 16 ∷ Jalr 8 8 0
    ∷ Immediate Addi 2 9 0 ∷ []
call_words = refl

-- a program that stores the sum of a byte of its text and of 7 in a global
abbrev summing : LinearRoutine
summing = record {
  parameters = [];
  code = Plain (Text 1 2) ∷ Plain (load 3 Byte 1) ∷ Plain (Constant 5 7) ∷ Plain (Compute 3 Add 3 5) ∷ Plain (Global 1 0) ∷ Plain (store Word 1 3) ∷ Jump 0 ∷ Label 0 false ∷ Back [] ∷ [];
  room = 64;
  words = 0;
  depth = 0;
}

abbrev program : Linear
program = record { globals = 1; main = 0; routines = summing ∷ []; texts = 1 ∷ 2 ∷ 3 ∷ 4 ∷ 5 ∷ [] }

-- the words around lie from 65,536 on, the routine's entry from 65,616 on, its code behind 10 words of it, and the texts behind all
program_place : place_of_image program ≡ record { globals_at = 65764; texts_at = 65756 }
program_place = refl

program_size : (length (text_of program) ≡ 57) × (length (around program) ≡ 20) × (label_at (summing ∷ []) 65616 summing 0 ≡ 65736)
program_size = (refl, refl, refl)

program_around : around program ≡
    Lui 3 33554432 ∷ Register Sub 3 2 3 ∷ Lui 6 0 ∷ Immediate Addi 6 6 256 ∷ Register Sub 1 2 6
    ∷ Lui 8 65536 ∷ Immediate Addi 8 8 44 ∷ Store store_whole 2 8 4294967292 ∷ Immediate Addi 2 1 0 ∷ Lui 7 65536 ∷ Jalr 0 7 120
    ∷ Immediate Addi 17 0 0 ∷ Ecall
    ∷ Register Sub 6 1 3 ∷ Shift Srli 6 6 2 ∷ BranchIf GreaterOrEqualUnsigned 6 5 8 ∷ Jalr 0 8 0
    ∷ Shift Slli 5 5 2 ∷ Register Sub 1 1 5 ∷ Jalr 0 8 20 ∷ []
program_around = refl

program_routine : routine_words (addresses program) (summing ∷ []) 65616 summing ≡
    Register Sub 5 1 3 ∷ Immediate Addi 6 0 256 ∷ BranchIf GreaterOrEqualUnsigned 5 6 8 ∷ Jalr 0 8 0
    ∷ Store store_whole 1 2 4294967288 ∷ Register Sub 1 1 6 ∷ Jalr 8 8 20
    ∷ Immediate Addi 2 1 0 ∷ Register Add 6 1 6 ∷ Store store_whole 6 8 4294967292
    ∷ Lui 5 65536 ∷ Immediate Addi 5 5 222 ∷ Store store_whole 2 5 0
    ∷ Load load_whole 5 2 0 ∷ Load ByteUnsigned 5 5 0 ∷ Store store_whole 2 5 4
    ∷ Immediate Addi 5 0 7 ∷ Store store_whole 2 5 8
    ∷ Load load_whole 5 2 4 ∷ Load load_whole 6 2 8 ∷ Register Add 5 5 6 ∷ Store store_whole 2 5 4
    ∷ Lui 5 65536 ∷ Immediate Addi 5 5 228 ∷ Store store_whole 2 5 0
    ∷ Load load_whole 5 2 0 ∷ Load load_whole 6 2 4 ∷ Store store_whole 5 6 0
    ∷ Lui 7 65536 ∷ Jalr 0 7 200
    ∷ Immediate Addi 0 0 0
    ∷ Immediate Addi 1 0 256 ∷ Register Add 1 1 2 ∷ Load load_whole 8 1 4294967292 ∷ Jalr 0 8 0 ∷ []
program_routine = refl

-- the words of instructions, and behind them those of the texts
program_text : (take 4 (text_of program) ≡ 0x020001b7 ∷ 0x403101b3 ∷ 0x00000337 ∷ 0x10030313 ∷ []) × (drop 55 (text_of program) ≡ 0x04030201 ∷ 0x05 ∷ [])
program_text = (refl, refl)

-- the entry of a deeper routine tests nothing
deeper_entry : entering (record { parameters = 1 ∷ []; room = 64; words = 2; depth = 1 }) ≡
    Immediate Addi 6 0 256 ∷ Store store_whole 1 2 4294967288 ∷ Register Sub 1 1 6 ∷ Jalr 8 8 20
    ∷ Immediate Addi 2 1 0 ∷ Register Add 6 1 6 ∷ Store store_whole 6 8 4294967292 ∷ []
deeper_entry = refl

-- a run-time array, and the words of one handed back
array_words : words near_one (Plain (Take 1 3 9)) ≡
    Load load_whole 5 2 12
    ∷ Lui 7 65536 ∷ Jalr 8 7 52
    ∷ Immediate Addi 10 0 21 ∷ Lui 11 0 ∷ Immediate Addi 11 11 9 ∷ Immediate Addi 17 0 1 ∷ Ecall
    ∷ Store store_whole 2 1 8 ∷ []
array_words = refl

back_words : words near_one (Plain (Give 3)) ≡
    Load load_whole 5 2 12
    ∷ Register Sub 6 2 1 ∷ Shift Srli 6 6 2 ∷ BranchIf GreaterOrEqualUnsigned 6 5 8 ∷ Immediate Addi 5 6 0
    ∷ Shift Slli 5 5 2 ∷ Register Add 1 1 5 ∷ []
back_words = refl

-- an exception by two values
throw_words : words near_one (Plain (Throw 1 3)) ≡ Load load_whole 10 2 8 ∷ Load load_whole 11 2 12 ∷ Immediate Addi 17 0 1 ∷ Ecall ∷ []
throw_words = refl

-- a value far from the frame's lowest byte, and a range from -5 to 5
far_words : words far_one (Plain (load 1 Byte 3)) ≡
    Lui 7 4096 ∷ Register Add 7 7 2 ∷ Load load_whole 5 7 4 ∷ Load ByteUnsigned 5 5 0
    ∷ Lui 7 4096 ∷ Register Add 7 7 2 ∷ Store store_whole 7 5 0 ∷ []
far_words = refl

range_words : words near_one (Within 1 (record { low = negsuc 4; high = pos 5 }) 0) ≡
    Load load_whole 5 2 8
    ∷ Lui 6 0 ∷ Immediate Addi 6 6 4294967291 ∷ BranchIf Less 5 6 24
    ∷ Lui 6 0 ∷ Immediate Addi 6 6 5 ∷ BranchIf Less 6 5 12
    ∷ Lui 7 65536 ∷ Jalr 0 7 0 ∷ []
range_words = refl
