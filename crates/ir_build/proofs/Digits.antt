-- What digits spell, from the left.
use Rattle.std.proofs.Common.{◌≡◌, ℕ, suc, ◌+◌, ◌-◌, ◌*◌, ◌<◌, ◌≤◌, List, [], ◌∷◌, length, get_or, drop, drop-cons, ap, sym, ◌∙◌, arith}
use Rattle.tu_token.specs.LexFaults.{value_after}
use Rattle.ir_build.specs.Code.{number_of}

-- more digits spell no smaller number
value_grows : (n : ℕ) (digits : List ℕ) → n ≤ value_after n digits
value_grows n [] = omega arith
value_grows n (d ∷ digits) = let r = value_grows (10 * n + (d - 48)) digits in omega arith

-- one digit more is read
value_more : (digits : List ℕ) (i n d : ℕ) → i < length digits → d ≡ get_or digits i 0 → value_after (10 * n + (d - 48)) (drop (i + 1) digits) ≡ value_after n (drop i digits)
value_more digits i n d h is =
    let c : drop i digits ≡ get_or digits i 0 ∷ drop (suc i) digits = drop-cons digits i 0 h in
    let a : i + 1 ≡ suc i = omega arith in
    rw a (ap (λ x. value_after (10 * n + (x - 48)) (drop (suc i) digits)) is ∙ ap (value_after n) (sym c))

-- where the digits up to here spell too much, all of them do
pub stops : (digits : List ℕ) (i n d m : ℕ) → i < length digits → d ≡ get_or digits i 0 → value_after n (drop i digits) ≡ value_after 0 digits
    → m ≡ 10 * n + (d - 48) → 2147483647 < m → 2147483647 ≡ number_of digits
stops digits i n d m h is e f big =
    let v = value_more digits i n d h is in
    let g = value_grows (10 * n + (d - 48)) (drop (i + 1) digits) in
    omega arith
