-- Words and their bytes.
use Rattle.std.proofs.Common.{◌≡◌, ℕ, suc, ◌+◌, ◌-◌, ◌*◌, ◌/◌, ◌%◌, ◌<◌, ◌≤◌, List, [], ◌∷◌, length, get_or, drop, refl, arith, ap, drop-cons}
use Rattle.rv_image.specs.Picture.{numbers}
use Rattle.rv_image.specs.Reading.{value, words_of}

-- a number from its bytes
pub value-number : (n : ℕ) → value (n % 256) (n / 256 % 256) (n / 65536 % 256) (n / 16777216) ≡ n
value-number n = omega arith

-- words from their bytes
pub words_of-numbers : (words : List ℕ) → words_of (numbers words) ≡ words
words_of-numbers [] = refl
words_of-numbers (n ∷ words) =
    let one = value-number n in
    let more = words_of-numbers words in
    rw (one, more) refl

pub length-numbers : (words : List ℕ) → length (numbers words) ≡ 4 * length words
length-numbers [] = refl
length-numbers (n ∷ words) = let more = length-numbers words in omega arith

-- the bytes of a number from four bytes
pub number-value : (a b c d : ℕ) → a < 256 → b < 256 → c < 256 → d < 256 →
    (value a b c d % 256 ≡ a) × (value a b c d / 256 % 256 ≡ b) × (value a b c d / 65536 % 256 ≡ c) × (value a b c d / 16777216 ≡ d)
number-value a b c d a_fits b_fits c_fits d_fits = (omega arith, omega arith, omega arith, omega arith)

-- n whole words, and their bytes again
pub numbers-words_of : (bytes : List ℕ) (n : ℕ) → length bytes ≡ 4 * n → ((i : ℕ) → get_or bytes i 0 < 256) → (numbers (words_of bytes) ≡ bytes) × (length (words_of bytes) ≡ n)
numbers-words_of [] n whole fits = (refl, omega arith)
numbers-words_of (a ∷ []) n whole fits = absurd (omega arith)
numbers-words_of (a ∷ (b ∷ [])) n whole fits = absurd (omega arith)
numbers-words_of (a ∷ (b ∷ (c ∷ []))) n whole fits = absurd (omega arith)
numbers-words_of (a ∷ (b ∷ (c ∷ (d ∷ rest)))) n whole fits =
    let one = number-value a b c d (fits 0) (fits 1) (fits 2) (fits 3) in
    let more = numbers-words_of rest (n - 1) (omega arith) (λ i. fits (suc (suc (suc (suc i))))) in
    (rw (one.0, one.1, one.2, one.3) (ap (λ xs. a ∷ (b ∷ (c ∷ (d ∷ xs)))) more.0), omega (arith, more.1))

-- four bytes, and those behind them
pub drop-four : (bytes : List ℕ) (i : ℕ) → i + 4 ≤ length bytes →
    drop i bytes ≡ get_or bytes i 0 ∷ (get_or bytes (i + 1) 0 ∷ (get_or bytes (i + 2) 0 ∷ (get_or bytes (i + 3) 0 ∷ drop (i + 4) bytes)))
drop-four bytes i inside =
    let s1 : suc i ≡ i + 1 = omega arith in
    let s2 : suc (i + 1) ≡ i + 2 = omega arith in
    let s3 : suc (i + 2) ≡ i + 3 = omega arith in
    let s4 : suc (i + 3) ≡ i + 4 = omega arith in
    let d0 = drop-cons bytes i 0 (omega arith) in
    let d1 = drop-cons bytes (i + 1) 0 (omega arith) in
    let d2 = drop-cons bytes (i + 2) 0 (omega arith) in
    let d3 = drop-cons bytes (i + 3) 0 (omega arith) in
    rw (d0, s1, d1, s2, d2, s3, d3, s4) refl
