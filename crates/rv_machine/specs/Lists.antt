-- Memory, registers and text as the lists that a machine keeps.
use Rattle.std.specs.Prelude.{ℕ, zero, suc, ◌+◌, ◌-◌, List, [], ◌∷◌, length, slice_index, nat_lt, if◌then◌else◌}
use Rattle.tu_base.specs.declared.limits.TheConstants.{TEXT_AT}
use Rattle.rv_isa.specs.Memory.{Memory, word_at}
use Rattle.rv_isa.specs.Step.{Cpu, Space, Registers}

-- the memory that has these bytes from 65,536 on
unfoldable pub memory_of : List ℕ → Memory
memory_of bytes = λ a. if nat_lt a TEXT_AT then 0 else slice_index bytes (a - TEXT_AT)

-- the registers that have these numbers
unfoldable pub registers_of : List ℕ → Registers
registers_of list = λ r. slice_index list r

-- the n words of memory from an address on
unfoldable pub words_at : Memory → ℕ → ℕ → List ℕ
words_at m a zero = []
words_at m a (suc n) = word_at m a ∷ words_at m (a + 4) n

-- the n words of memory from 65,536 on
abbrev pub text_in : ℕ → Memory → List ℕ
text_in n m = words_at m TEXT_AT n

-- the space of a text of n words, in a memory of these bytes
abbrev pub space_at : ℕ → List ℕ → Space
space_at n bytes = record { text = text_in n (memory_of bytes); end = TEXT_AT + length bytes }

abbrev pub cpu_at : List ℕ → List ℕ → ℕ → Cpu
cpu_at registers bytes pc = record { registers = registers_of registers; memory = memory_of bytes; pc = pc }
