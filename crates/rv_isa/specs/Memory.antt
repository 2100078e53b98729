-- Memory as a map of bytes.
use Rattle.std.specs.Prelude.{ℕ, ◌+◌, ◌*◌, ◌/◌, ◌%◌, ◌==◌, if◌then◌else◌}
use Rattle.rv_isa.specs.declared.instr.LoadKind.{LoadKind}
use Rattle.rv_isa.specs.declared.instr.LoadKind.TheVariants.{Byte, Half, Word, ByteUnsigned, HalfUnsigned}
use Rattle.rv_isa.specs.declared.instr.StoreKind.{StoreKind}
use Rattle.rv_isa.specs.declared.instr.StoreKind.TheVariants.{Byte as store_byte, Half as store_half, Word as store_word}
use Rattle.rv_isa.specs.Encoding.{signed}

-- the byte at each address
abbrev pub Memory : Type 0
Memory = ℕ → ℕ

abbrev pub byte_at : Memory → ℕ → ℕ
byte_at m a = m a

-- with v at a
unfoldable pub with_byte : Memory → ℕ → ℕ → Memory
with_byte m a v = λ b. if b == a then v else m b

-- a half and a word, the lowest byte first
abbrev pub half_at : Memory → ℕ → ℕ
half_at m a = byte_at m a + 256 * byte_at m (a + 1)

abbrev pub word_at : Memory → ℕ → ℕ
word_at m a = byte_at m a + 256 * byte_at m (a + 1) + 65536 * byte_at m (a + 2) + 16777216 * byte_at m (a + 3)

abbrev pub with_half : Memory → ℕ → ℕ → Memory
with_half m a v = with_byte (with_byte m a (v % 256)) (a + 1) (v / 256 % 256)

abbrev pub with_word : Memory → ℕ → ℕ → Memory
with_word m a v = with_byte (with_byte (with_half m a v) (a + 2) (v / 65536 % 256)) (a + 3) (v / 16777216)

-- how many bytes a load or a store takes
abbrev pub load_size : LoadKind → ℕ
load_size Byte = 1
load_size Half = 2
load_size Word = 4
load_size ByteUnsigned = 1
load_size HalfUnsigned = 2

abbrev pub store_size : StoreKind → ℕ
store_size store_byte = 1
store_size store_half = 2
store_size store_word = 4

-- what is loaded
abbrev pub loaded : LoadKind → Memory → ℕ → ℕ
loaded Byte m a = signed 128 (byte_at m a)
loaded Half m a = signed 32768 (half_at m a)
loaded Word m a = word_at m a
loaded ByteUnsigned m a = byte_at m a
loaded HalfUnsigned m a = half_at m a

-- what a store leaves
abbrev pub stored : StoreKind → Memory → ℕ → ℕ → Memory
stored store_byte m a v = with_byte m a (v % 256)
stored store_half m a v = with_half m a v
stored store_word m a v = with_word m a v
