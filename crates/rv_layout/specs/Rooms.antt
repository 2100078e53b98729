-- The room of an activation is its frame: its words, then a slot for each value, and as its last two words where the caller's frame lies and
-- where the caller goes on. Values are numbered as places are, so that the value 2 * slot + 1 is in a slot.
use Rattle.std.specs.Prelude.{ℕ, ◌+◌, ◌*◌, ◌/◌, min, List, [], Option, Some, None, slice_get}
use Rattle.rv_isa.specs.declared.instr.Instr.{Instr}
use Rattle.ir_form.specs.Units.{Head}
use Rattle.rv_flat.specs.declared.linear.LinearRoutine.{LinearRoutine}
use Rattle.rv_flat.specs.Units.{head_of}
use Rattle.rv_layout.specs.Pieces.{load_word, store_word}

-- No routine runs with more words than rooms may have together, so that a number of words may be cut off behind these.
abbrev pub cut : ℕ → ℕ
cut words = min words 8388609

abbrev pub room_bytes : Head → ℕ
room_bytes h = 4 * cut h.room

-- where a value lies, in bytes behind the frame's lowest one
abbrev pub slot : Head → ℕ → ℕ
slot h value = 4 * (cut h.words + value / 2)

-- from and to the slots of the running activation
abbrev pub load_value : Head → (to value : ℕ) → List Instr
load_value h to value = load_word to 2 (slot h value)

abbrev pub store_value : Head → (from value : ℕ) → List Instr
store_value h from value = store_word from 2 (slot h value)

-- a routine that is not there has a head too, which nothing runs with
abbrev pub head_in : Option LinearRoutine → Head
head_in None = record { parameters = []; room = 0; words = 0; depth = 0 }
head_in (Some r) = head_of r

abbrev pub head_at : List LinearRoutine → ℕ → Head
head_at routines k = head_in (slice_get routines k)
