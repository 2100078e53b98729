-- How many words of text linear code takes at most, with values and labels far away. The way to a Guard's handler stands in its opening.
use Rattle.std.specs.Prelude.{ℕ, ◌+◌, ◌*◌, List, [], ◌∷◌, length}
use Rattle.ir_form.specs.declared.plain.Plain.{Plain as PlainOp}
use Rattle.ir_form.specs.declared.plain.Plain.TheVariants.{Constant, Global, Heap, Frame, Text, Compute, Load, Store, Ask, Call, Raise, Throw, Take, Give}
use Rattle.rv_flat.specs.declared.linear.Instruction.{Instruction}
use Rattle.rv_flat.specs.declared.linear.Instruction.TheVariants.{Plain, Guarded, Open, Branch, Within, Hand, Jump, Label, Back}
use Rattle.rv_flat.specs.declared.linear.LinearRoutine.{LinearRoutine}
use Rattle.rv_flat.specs.declared.linear.Linear.{Linear}

abbrev pub plain_size : PlainOp → ℕ
plain_size (Constant to word) = 5
plain_size (Global to word) = 7
plain_size (Heap to) = 4
plain_size (Frame to word) = 7
plain_size (Text to byte) = 7
plain_size (Compute to op left right) = 10
plain_size (Load to width at) = 7
plain_size (Store width at from) = 7
plain_size (Ask to service) = 14
plain_size (Call routine arguments to line) = 14 + 6 * length arguments + 4 * length to
plain_size (Raise kind line) = 6
plain_size (Throw kind line) = 12
plain_size (Take to words line) = 14
plain_size (Give words) = 14

abbrev pub instruction_size : Instruction → ℕ
instruction_size (Plain p) = plain_size p
instruction_size (Guarded p h) = plain_size p
instruction_size (Open mark) = 38
instruction_size (Branch relation left right label) = 9
instruction_size (Within value range label) = 11
instruction_size (Hand to from) = 1 + 12 * length from
instruction_size (Jump label) = 2
instruction_size (Label label marked) = 1
instruction_size (Back values) = 7 + 8 * length values

abbrev pub code_size : List Instruction → ℕ
code_size [] = 0
code_size (i ∷ is) = instruction_size i + code_size is

-- a routine also has words for its entry, and the main program's for the start
abbrev pub routines_size : List LinearRoutine → ℕ
routines_size [] = 0
routines_size (r ∷ rs) = (128 + code_size r.code) + routines_size rs

abbrev pub linear_size : Linear → ℕ
linear_size l = routines_size l.routines
