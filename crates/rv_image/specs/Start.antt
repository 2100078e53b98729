-- Where a run begins: the text at 65,536, then the globals, then a heap of 4,194,304 words, then a stack of 8,392,704 words.
use Rattle.std.specs.Prelude.{ℕ, ◌+◌, ◌-◌, ◌*◌, ◌/◌, ◌%◌, ◌^◌, nat_lt, if◌then◌else◌, List, length, slice_index}
use Rattle.tu_base.specs.declared.limits.TheConstants.{HEAP_WORDS, STACK_WORDS, TEXT_AT}
use Rattle.rv_isa.specs.Memory.{Memory}
use Rattle.rv_isa.specs.Step.{Cpu, Space, Registers, with_any}
use Rattle.rv_image.specs.Picture.{Picture}

-- the byte i of the words
abbrev pub text_byte : List ℕ → ℕ → ℕ
text_byte words i = slice_index words (i / 4) / 256 ^ (i % 4) % 256

-- the text, and zero everywhere else
unfoldable pub start_memory : List ℕ → Memory
start_memory words = λ a. if nat_lt a TEXT_AT then 0 else text_byte words (a - TEXT_AT)

abbrev pub globals_at : ℕ → ℕ
globals_at words = TEXT_AT + 4 * words

abbrev pub heap_at : ℕ → ℕ → ℕ
heap_at words globals = globals_at words + 4 * globals

-- the end of memory
abbrev pub end_at : ℕ → ℕ → ℕ
end_at words globals = heap_at words globals + 4 * (HEAP_WORDS + STACK_WORDS)

unfoldable pub no_registers : Registers
no_registers = λ r. 0

-- the end of memory, the first global and the first heap byte in x2, x3 and x4, and 0 in all others
abbrev pub start_registers : ℕ → ℕ → Registers
start_registers words globals = with_any (with_any (with_any no_registers 2 (end_at words globals)) 3 (globals_at words)) 4 (heap_at words globals)

abbrev pub start_space : Picture → Space
start_space p = record { text = p.text; end = end_at (length p.text) p.globals }

abbrev pub start_cpu : Picture → Cpu
start_cpu p = record { registers = start_registers (length p.text) p.globals; memory = start_memory p.text; pc = TEXT_AT + p.entry }
