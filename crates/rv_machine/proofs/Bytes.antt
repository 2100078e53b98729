-- A part of memory as bytes.
use Rattle.std.proofs.Common.{◌≡◌, ℕ, zero, suc, ◌+◌, ◌-◌, ◌<◌, ◌≤◌, List, ◌∷◌, length, get_or, take, drop, refl, arith, ap, drop-cons, ltb, false}
use Rattle.rv_isa.specs.Memory.{byte_at}
use Rattle.rv_image.specs.Streams.{bytes_at}
use Rattle.rv_machine.specs.Lists.{memory_of}

pub byte_is : (xs : List ℕ) (i a : ℕ) → a ≡ i + 65536 → byte_at (memory_of xs) a ≡ get_or xs i 0
unfolding memory_of
byte_is xs i a e = let k : a - 65536 ≡ i = omega arith in let f : ltb a 65536 ≡ false = grind arith in rw (f, k) refl

pub bytes_are : (xs : List ℕ) (i n a : ℕ) → i + n ≤ length xs → a ≡ i + 65536 → take n (drop i xs) ≡ bytes_at (memory_of xs) a n
bytes_are xs i zero a h e = refl
bytes_are xs i (suc n) a h e =
    let lt : i < length xs = omega arith in
    let d : drop i xs ≡ get_or xs i 0 ∷ drop (suc i) xs = drop-cons xs i 0 lt in
    let b = byte_is xs i a e in
    let r = bytes_are xs (suc i) n (a + 1) (omega arith) (omega arith) in
    rw (d, b) (ap (λ ys. get_or xs i 0 ∷ ys) r)
