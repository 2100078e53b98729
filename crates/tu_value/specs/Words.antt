-- Which word stands for a scalar, in memory and in region code.
use Rattle.std.specs.Prelude.{ℕ, ◌+◌, ◌-◌, IsTrue, ℤ, pos, negsuc, Option, Some, None}
use Rattle.tu_base.specs.declared.limits.TheConstants.{MOST_INT}
use Rattle.tu_base.specs.Scalars.{is_int}

-- The number and 2^31. So the order of ints is that of their words, and no int has the word 0.
abbrev pub word_of_int : ℤ → ℕ
word_of_int (pos n) = 2147483648 + n
word_of_int (negsuc n) = MOST_INT - n

-- Memory is zero at the start, so 0 stands for what was not stored.
abbrev pub word_of : Option ℤ → ℕ
word_of None = 0
word_of (Some z) = word_of_int z

-- an int is in its range
abbrev pub IsSmall : Option ℤ → Type 0
IsSmall None = Unit {0}
IsSmall (Some z) = IsTrue (is_int z)
