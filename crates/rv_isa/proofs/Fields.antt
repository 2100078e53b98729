-- The fields of a word, and the numbers that they stand for.
use Rattle.std.proofs.Common.{◌≡◌, ℕ, ◌+◌, ◌*◌, ◌/◌, ◌%◌, ◌<◌, arith}
use Rattle.rv_isa.specs.Encoding.{IsSigned, signed, word}

-- w has these fields
pub record IsWord (w op d f a h : ℕ) : Type 0 where
  pub opcode : w % 128 ≡ op
  pub rd : w / 128 % 32 ≡ d
  pub funct3 : w / 4096 % 8 ≡ f
  pub rs1 : w / 32768 % 32 ≡ a
  pub high : w / 1048576 ≡ h

pub word_fields : (opcode rd funct3 rs1 high : ℕ) → opcode < 128 → rd < 32 → funct3 < 8 → rs1 < 32 → IsWord (word opcode rd funct3 rs1 high) opcode rd funct3 rs1 high
word_fields opcode rd funct3 rs1 high a b c d =
    record { opcode = omega arith; rd = omega arith; funct3 = omega arith; rs1 = omega arith; high = omega arith }

pub word_again : (w : ℕ) → word (w % 128) (w / 128 % 32) (w / 4096 % 8) (w / 32768 % 32) (w / 1048576) ≡ w
word_again w = omega arith

-- a signed immediate of 12 bits and its low bits
pub signed_12 : (v : ℕ) → IsSigned 2048 v → signed 2048 (v % 4096) ≡ v
signed_12 v h = omega arith

pub signed_12_fits : (x : ℕ) → IsSigned 2048 (signed 2048 x)
signed_12_fits x = (omega arith, omega arith)

pub signed_12_low : (x : ℕ) → x < 4096 → signed 2048 x % 4096 ≡ x
signed_12_low x h = omega arith

-- each format's parts of an immediate give it back
pub store_again : (v : ℕ) → IsSigned 2048 v → signed 2048 (v % 32 + 32 * (v / 32 % 128)) ≡ v
store_again v h = omega arith

pub branch_again : (v : ℕ) → IsSigned 4096 v → v % 2 ≡ 0 →
    signed 4096 (2 * (v / 2 % 16) + 32 * (v / 32 % 64) + 2048 * (v / 2048 % 2) + 4096 * (v / 4096 % 2)) ≡ v
branch_again v h e = omega arith

pub jump_again : (v : ℕ) → IsSigned 1048576 v → v % 2 ≡ 0 →
    signed 1048576 (2 * (v / 2 % 1024) + 2048 * (v / 2048 % 2) + 4096 * (v / 4096 % 256) + 1048576 * (v / 1048576 % 2)) ≡ v
jump_again v h e = omega arith

-- signed offsets of 13 and of 21 bits, and their low bits
pub signed_13_fits : (x : ℕ) → IsSigned 4096 (signed 4096 x)
signed_13_fits x = (omega arith, omega arith)

pub signed_13_low : (x : ℕ) → x < 8192 → signed 4096 x % 8192 ≡ x
signed_13_low x h = omega arith

pub signed_21_fits : (x : ℕ) → IsSigned 1048576 (signed 1048576 x)
signed_21_fits x = (omega arith, omega arith)

pub signed_21_low : (x : ℕ) → x < 2097152 → signed 1048576 x % 2097152 ≡ x
signed_21_low x h = omega arith

-- the parts of an offset that was read from a word are those of the word
pub jump_spelled : (o w : ℕ) → w < 4294967296 → w % 128 ≡ 0x6f →
    o % 2097152 ≡ 2 * (w / 2097152 % 1024) + 2048 * (w / 1048576 % 2) + 4096 * (w / 4096 % 256) + 1048576 * (w / 2147483648) →
    0x6f + 128 * (w / 128 % 32) + 4096 * (o / 4096 % 256) + 1048576 * (o / 2048 % 2) + 2097152 * (o / 2 % 1024) + 2147483648 * (o / 1048576 % 2) ≡ w
jump_spelled o w h op e = omega arith

pub branch_spelled : (o w : ℕ) → w < 4294967296 →
    o % 8192 ≡ 2 * (w / 256 % 16) + 32 * (w / 33554432 % 64) + 2048 * (w / 128 % 2) + 4096 * (w / 2147483648) →
    (o / 2048 % 2 + 2 * (o / 2 % 16) ≡ w / 128 % 32) × (w / 1048576 % 32 + 32 * (o / 32 % 64) + 2048 * (o / 4096 % 2) ≡ w / 1048576)
branch_spelled o w h e = (omega arith, omega arith)

pub store_spelled : (o w : ℕ) → w < 4294967296 →
    o % 4096 ≡ w / 128 % 32 + 32 * (w / 33554432) →
    (o % 32 ≡ w / 128 % 32) × (w / 1048576 % 32 + 32 * (o / 32 % 128) ≡ w / 1048576)
store_spelled o w h e = (omega arith, omega arith)
