-- The words of each instruction of linear code.
use Rattle.std.specs.Prelude.{ℕ, ◌+◌, ◌*◌, List, [], ◌∷◌, ◌++◌, length}
use Rattle.std.specs.Int.{w32, cast_unsigned}
use Rattle.tu_base.specs.Kind.{kind_number}
use Rattle.rv_isa.specs.declared.instr.Instr.{Instr}
use Rattle.rv_isa.specs.declared.instr.Instr.TheVariants.{Load as LoadInto, Store as StoreFrom, Branch as BranchIf, Register}
use Rattle.rv_isa.specs.declared.instr.LoadKind.{LoadKind}
use Rattle.rv_isa.specs.declared.instr.LoadKind.TheVariants.{Word as load_whole, ByteUnsigned as load_byte}
use Rattle.rv_isa.specs.declared.instr.StoreKind.{StoreKind}
use Rattle.rv_isa.specs.declared.instr.StoreKind.TheVariants.{Word as store_whole, Byte as store_byte}
use Rattle.rv_isa.specs.declared.instr.Relation.TheVariants.{Less}
use Rattle.rv_isa.specs.declared.instr.Relation.{Relation}
use Rattle.rv_isa.specs.declared.service.Service.{Service}
use Rattle.rv_isa.specs.declared.service.Service.TheVariants.{End, Stop, PutConsole, GetConsole, Open, Close, PutStream, GetStream, State}
use Rattle.ir_form.specs.declared.plain.Width.{Width}
use Rattle.ir_form.specs.declared.plain.Width.TheVariants.{Byte as one_byte, Word as one_word}
use Rattle.ir_form.specs.declared.plain.Plain.{Plain as PlainOp}
use Rattle.ir_form.specs.declared.plain.Plain.TheVariants.{Constant, Global, Heap, Frame, Text, Compute, Load, Store, Ask, Call, Raise, Throw, Take, Give}
use Rattle.ir_form.specs.declared.op.Range.{Range}
use Rattle.ir_form.specs.Values.{asked}
use Rattle.ir_form.specs.Units.{Head}
use Rattle.rv_flat.specs.declared.linear.Instruction.{Instruction}
use Rattle.rv_flat.specs.declared.linear.Instruction.TheVariants.{Plain, Guarded, Open as Opens, Branch, Within, Hand, Jump, Label, Back}
use Rattle.rv_flat.specs.declared.linear.LinearRoutine.{LinearRoutine}
use Rattle.rv_layout.specs.Pieces.{nothing, constant, long, address_word, go_to, ask, stopping, raising}
use Rattle.rv_layout.specs.Rooms.{cut, head_at, load_value, store_value}
use Rattle.rv_layout.specs.Moves.{handing}
use Rattle.rv_layout.specs.Calling.{calling, returning, taking, handing_back}

-- where the first global, the first byte of the texts, the piece that all run-time arrays share and the entry of each routine lie
pub record Addresses : Type 0 where
  pub globals : ℕ
  pub texts : ℕ
  pub shared : ℕ
  pub entry : ℕ → ℕ

abbrev pub load_kind : Width → LoadKind
load_kind one_byte = load_byte
load_kind one_word = load_whole

abbrev pub store_kind : Width → StoreKind
store_kind one_byte = store_byte
store_kind one_word = store_whole

abbrev pub service_number : Service → ℕ
service_number End = 0
service_number (Stop kind line) = 1
service_number (PutConsole at size) = 2
service_number GetConsole = 3
service_number (Open at size mode) = 4
service_number (Close stream) = 5
service_number (PutStream stream at size) = 6
service_number (GetStream stream) = 7
service_number (State stream) = 8

-- values come into registers, from register 10 on
abbrev pub load_each : Head → (to : ℕ) → List ℕ → List Instr
load_each h to [] = []
load_each h to (v ∷ vs) = load_value h to v ++ load_each h (to + 1) vs

abbrev pub asking : Head → (to : ℕ) → Service → List Instr
asking h to service = load_each h 10 (asked service) ++ (ask (service_number service) ++ store_value h 10 to)

-- of an operation, in a routine with this head
abbrev pub plain_words : Addresses → List LinearRoutine → Head → PlainOp → List Instr
plain_words a rs h (Constant to word) = constant 5 word ++ store_value h 5 to
plain_words a rs h (Global to word) = long 5 (a.globals + 4 * word) ++ store_value h 5 to
plain_words a rs h (Heap to) = store_value h 4 to
plain_words a rs h (Frame to word) = address_word 5 2 (4 * cut word) ++ store_value h 5 to
plain_words a rs h (Text to byte) = long 5 (a.texts + byte) ++ store_value h 5 to
plain_words a rs h (Compute to op left right) = load_value h 5 left ++ (load_value h 6 right ++ (Register op 5 5 6 ∷ store_value h 5 to))
plain_words a rs h (Load to width at) = load_value h 5 at ++ (LoadInto (load_kind width) 5 5 0 ∷ store_value h 5 to)
plain_words a rs h (Store width at from) = load_value h 5 at ++ (load_value h 6 from ++ StoreFrom (store_kind width) 5 6 0 ∷ [])
plain_words a rs h (Ask to service) = asking h to service
plain_words a rs h (Call routine arguments to line) = calling (a.entry routine) h (head_at rs routine) arguments to line
plain_words a rs h (Raise kind line) = raising (kind_number kind) line
plain_words a rs h (Throw kind line) = load_value h 10 kind ++ (load_value h 11 line ++ stopping)
plain_words a rs h (Take to words line) = taking a.shared h to words line
plain_words a rs h (Give words) = handing_back h words

-- how many bytes a test skips that stands before so many words
abbrev pub skip : ℕ → ℕ
skip words = 4 + 4 * words

-- a jump, by these words, unless the relation holds
abbrev pub branching : Head → Relation → (left right : ℕ) → (jump : List Instr) → List Instr
branching h relation left right jump = load_value h 5 left ++ (load_value h 6 right ++ (BranchIf relation 5 6 (skip (length jump)) ∷ jump))

-- a jump, by these words, where neither the value is less than the range's first number nor its last one less than the value
abbrev pub within : Head → (value : ℕ) → Range → (jump : List Instr) → List Instr
within h value range jump =
    load_value h 5 value
    ++ (long 6 (cast_unsigned w32 range.low) ++ (BranchIf Less 5 6 (skip (3 + length jump))
    ∷ (long 6 (cast_unsigned w32 range.high) ++ (BranchIf Less 6 5 (skip (length jump)) ∷ jump))))

-- Of an instruction, where these words jump to each label of its routine. Code without guards is laid out: nothing is said of the last two.
abbrev pub instruction_words : Addresses → List LinearRoutine → Head → (jump : ℕ → List Instr) → Instruction → List Instr
instruction_words a rs h jump (Plain p) = plain_words a rs h p
instruction_words a rs h jump (Branch relation left right label) = branching h relation left right (jump label)
instruction_words a rs h jump (Within value range label) = within h value range (jump label)
instruction_words a rs h jump (Hand to from) = handing h to from
instruction_words a rs h jump (Jump label) = jump label
instruction_words a rs h jump (Label label marked) = nothing
instruction_words a rs h jump (Back values) = returning h values
instruction_words a rs h jump (Guarded p handler) = plain_words a rs h p
instruction_words a rs h jump (Opens mark) = []

abbrev pub code_words : Addresses → List LinearRoutine → Head → (jump : ℕ → List Instr) → List Instruction → List Instr
code_words a rs h jump [] = []
code_words a rs h jump (i ∷ is) = instruction_words a rs h jump i ++ code_words a rs h jump is

-- jumps from anywhere to labels that lie so
abbrev pub far_jump : (label_at : ℕ → ℕ) → (label : ℕ) → List Instr
far_jump label_at label = go_to (label_at label)
