-- Powers below a bound and above it.
use Rattle.std.specs.Prelude.{◌≡◌, ℕ, zero, suc, ◌^◌, ◌<◌, ◌≤◌, nat_le, ℤ, pos, Option, Some, None, if◌then◌else◌}
use Rattle.std.proofs.Common.{refl, ap, sym, arith}
use Rattle.std.proofs.Math.Nat.{pow-le-pow_right}
use Rattle.std.proofs.lemmas.Bool.Decides.{nat_tests}
use Rattle.tu_base.specs.declared.limits.TheConstants.{MOST_INT}

abbrev pub within : ℕ → Option ℤ
within n = if nat_le n MOST_INT then Some (pos n) else None

power_of_zero : (n : ℕ) → 0 < n → 0 ^ n ≡ 0
power_of_zero zero h = absurd (omega arith)
power_of_zero (suc n) h = omega arith

power_of_one : (n : ℕ) → 1 ^ n ≡ 1
power_of_one zero = refl
power_of_one (suc n) = omega (arith, power_of_one n)

pub of_small : (b n : ℕ) → b ≤ 1 → 0 < n → Some (pos b) ≡ within (b ^ n)
of_small zero n h k = ap within (sym (power_of_zero n k))
of_small (suc zero) n h k = ap within (sym (power_of_one n))
of_small (suc (suc b)) n h k = absurd (omega arith)

above : (n : ℕ) → MOST_INT < n → None ≡ within n
above n h = grind (arith, nat_tests)

-- A power that has passed the bound stays above it.
pub stays_above : (b k n : ℕ) → 1 < b → k ≤ n → MOST_INT < b ^ k → None ≡ within (b ^ n)
stays_above b k n h le lt = above (b ^ n) (omega (arith, pow-le-pow_right {n = b} (omega arith) le))
