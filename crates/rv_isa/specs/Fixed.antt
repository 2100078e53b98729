-- The text stays as it is while a program runs.
use Rattle.std.specs.Prelude.{◌≡◌, ℕ, ◌+◌, ◌*◌, ◌<◌, List, length, slice_index}
use Rattle.tu_base.specs.declared.limits.TheConstants.{TEXT_AT}
use Rattle.rv_isa.specs.Memory.{Memory, word_at}
use Rattle.rv_isa.specs.Step.{Outcome, Goes, Asks, Faults}

-- the words of the text stand in memory
abbrev pub HoldsText : List ℕ → Memory → Type 0
HoldsText text m = (k : ℕ) → k < length text → word_at m (TEXT_AT + 4 * k) ≡ slice_index text k

-- the memory after an instruction
abbrev pub left_memory : Outcome → Memory
left_memory (Goes to) = to.memory
left_memory (Asks what to) = to.memory
left_memory (Faults why at) = at.memory
