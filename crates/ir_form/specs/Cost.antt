-- What region code costs. Each number covers the instructions of the machine that run for it at most, with values far from the frame's
-- lowest byte and labels far away: a value takes 3 instructions to reach, and a jump 2.
use Rattle.std.specs.Prelude.{ℕ, ◌+◌, ◌*◌, length}
use Rattle.ir_form.specs.declared.plain.Plain.{Plain}
use Rattle.ir_form.specs.declared.plain.Plain.TheVariants.{Constant, Global, Heap, Frame, Text, Compute, Load, Store, Ask, Call, Raise, Throw, Take, Give}

-- A call also covers the test of its room, what is saved and loaded round it, what it defines, and that an exception leaves it; an address of
-- the frame a word that is far from its start.
abbrev pub plain_price : Plain → ℕ
plain_price (Constant to word) = 5
plain_price (Global to word) = 7
plain_price (Heap to) = 4
plain_price (Frame to word) = 7
plain_price (Text to byte) = 7
plain_price (Compute to op left right) = 10
plain_price (Load to width at) = 7
plain_price (Store width at from) = 7
plain_price (Ask to service) = 14
plain_price (Call routine arguments to line) = 90 + 7 * length arguments + 4 * length to
plain_price (Raise kind line) = 20
plain_price (Throw kind line) = 20
plain_price (Take to words line) = 40
plain_price (Give words) = 20

-- a value that is handed on, or that a region or a Leave gives: an exchange of two far slots
abbrev pub value_price : ℕ
value_price = 12

-- its branch, a jump over the other region, two labels and the place of a hand-over
abbrev pub if_price : ℕ
if_price = 13

-- the labels of an arm and of its end, a jump between them and the place of a hand-over
abbrev pub case_price : ℕ
case_price = 5

-- a range that is compared: a value, two constants, two steps of arithmetic and a branch
abbrev pub range_price : ℕ
range_price = 11

-- for each round its label, the place of a hand-over and a jump back
abbrev pub round_price : ℕ
round_price = 4

-- a return, or a jump
abbrev pub leave_price : ℕ
leave_price = 7

-- the end of a routine: a return
abbrev pub end_price : ℕ
end_price = 7

-- an exception leaves an activation: the price of each call has this in it
abbrev pub unwind_price : ℕ
unwind_price = 22

-- a Guard's mark, its labels and jumps; and once more, where it takes an exception, the way to its handler, with all registers
abbrev pub guard_price : ℕ
guard_price = 60
