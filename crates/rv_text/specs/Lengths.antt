-- How many words an instruction of linear code takes, wherever it lies.
use Rattle.std.specs.Prelude.{ℕ, ◌+◌, ◌*◌, ◌==◌, if◌then◌else◌, List, [], ◌∷◌}
use Rattle.ir_form.specs.declared.plain.Plain.{Plain as PlainOp}
use Rattle.ir_form.specs.declared.plain.Plain.TheVariants.{Constant, Global, Heap, Frame, Text, Compute, Load, Store, Ask, Call, Raise, Throw, Take, Give}
use Rattle.ir_form.specs.Values.{asked}
use Rattle.ir_form.specs.Units.{Head}
use Rattle.rv_flat.specs.declared.linear.Instruction.{Instruction}
use Rattle.rv_flat.specs.declared.linear.Instruction.TheVariants.{Plain, Guarded, Open as Opens, Branch, Within, Hand, Jump, Label, Back}
use Rattle.rv_flat.specs.declared.linear.LinearRoutine.{LinearRoutine}
use Rattle.rv_flat.specs.Units.{head_of}
use Rattle.rv_layout.specs.Pieces.{constant_length, reach}
use Rattle.rv_layout.specs.Rooms.{cut, slot, head_at}
use Rattle.rv_layout.specs.Moves.{handing_length}
use Rattle.rv_layout.specs.Calling.{entering_length, calling_length, returning_length}

-- the values of a service, each in a slot
abbrev pub load_length : Head → List ℕ → ℕ
load_length h [] = 0
load_length h (v ∷ vs) = reach (slot h v) + load_length h vs

abbrev pub plain_length : List LinearRoutine → Head → PlainOp → ℕ
plain_length rs h (Constant to word) = constant_length word + reach (slot h to)
plain_length rs h (Global to word) = 2 + reach (slot h to)
plain_length rs h (Heap to) = reach (slot h to)
plain_length rs h (Frame to word) = reach (4 * cut word) + reach (slot h to)
plain_length rs h (Text to byte) = 2 + reach (slot h to)
plain_length rs h (Compute to op left right) = reach (slot h left) + reach (slot h right) + 1 + reach (slot h to)
plain_length rs h (Load to width at) = reach (slot h at) + 1 + reach (slot h to)
plain_length rs h (Store width at from) = reach (slot h at) + reach (slot h from) + 1
plain_length rs h (Ask to service) = load_length h (asked service) + 2 + reach (slot h to)
plain_length rs h (Call routine arguments to line) = calling_length h (head_at rs routine) arguments to
plain_length rs h (Raise kind line) = 5
plain_length rs h (Throw kind line) = reach (slot h kind) + reach (slot h line) + 2
plain_length rs h (Take to words line) = reach (slot h words) + 7 + reach (slot h to)
plain_length rs h (Give words) = reach (slot h words) + 6

abbrev pub instruction_length : List LinearRoutine → Head → Instruction → ℕ
instruction_length rs h (Plain p) = plain_length rs h p
instruction_length rs h (Branch relation left right label) = reach (slot h left) + reach (slot h right) + 3
instruction_length rs h (Within value range label) = reach (slot h value) + 8
instruction_length rs h (Hand to from) = handing_length h to from
instruction_length rs h (Jump label) = 2
instruction_length rs h (Label label marked) = 1
instruction_length rs h (Back values) = returning_length h values
instruction_length rs h (Guarded p handler) = plain_length rs h p
instruction_length rs h (Opens mark) = 0

abbrev pub code_length : List LinearRoutine → Head → List Instruction → ℕ
code_length rs h [] = 0
code_length rs h (i ∷ is) = instruction_length rs h i + code_length rs h is

-- a routine begins with its entry
abbrev pub routine_length : List LinearRoutine → LinearRoutine → ℕ
routine_length rs r = entering_length (head_of r) + code_length rs (head_of r) r.code

abbrev pub routines_length : List LinearRoutine → List LinearRoutine → ℕ
routines_length rs [] = 0
routines_length rs (r ∷ more) = routine_length rs r + routines_length rs more

-- how many words lie before a label's first place in code, or in all of it where the label does not stand there
abbrev pub label_offset : List LinearRoutine → Head → ℕ → List Instruction → ℕ
label_offset rs h label [] = 0
label_offset rs h label (Label other marked ∷ is) = if other == label then 0 else 1 + label_offset rs h label is
label_offset rs h label (i ∷ is) = instruction_length rs h i + label_offset rs h label is
