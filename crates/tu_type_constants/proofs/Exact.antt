-- Exact results that are ints, or none.
use Rattle.std.specs.Prelude.{◌≡◌, ℕ, suc, zero, ◌<◌, ◌≤◌, ◌/◌, ◌%◌, Bool, true, false, ℤ, pos, negsuc, neg_ℤ, int_div, int_rem, unsigned_abs, Option, Some, None, if◌then◌else◌}
use Rattle.std.specs.Int.Signed.{mag, nat_abs-le}
use Rattle.std.proofs.Common.{refl, ap, ◌∙◌, sym, arith, to_z, of_z, w64}
use Rattle.std.proofs.Math.Nat.{div-le_self, mod-le}
use Rattle.std.proofs.lemmas.Int.{ints, to_z-of_z, fits_signed_from_abs}
use Rattle.tu_base.specs.Scalars.{Gives, Raises, is_int, exact_for, are_equal, divided}
use Rattle.tu_base.specs.declared.kind.Kind.TheVariants.{Overflow, Divide}
use Rattle.tu_type_constants.specs.Constants.{int_in}

by_test : (t : Bool) (u : ℕ) (z : ℤ) → is_int z ≡ t → int_in (if t then Gives z u else Raises Overflow u) ≡ (if t then Some z else None)
by_test true u z e = ap (λ b. if b then Some z else None) e
by_test false u z e = refl

pub of_exact : (u : ℕ) (r : Option ℤ) (z : ℤ) → r ≡ (if is_int z then Some z else None) → r ≡ int_in (exact_for u z)
of_exact u r z h = h ∙ sym (by_test (is_int z) u z refl)

fits : (z : ℤ) → unsigned_abs z ≤ 2147483648 → to_z w64 (of_z w64 z) ≡ z
fits z h = to_z-of_z w64 z (fits_signed_from_abs w64 z (omega arith))

abs_of_neg : (n : ℕ) → unsigned_abs (neg_ℤ (pos n)) ≡ n
abs_of_neg zero = refl
abs_of_neg (suc n) = refl

abs_div : (a b : ℤ) → unsigned_abs (int_div a b) ≤ unsigned_abs a
abs_div (pos a) (pos b) = div-le_self a b
abs_div (pos a) (negsuc b) = omega (arith, abs_of_neg (a / suc b), div-le_self a (suc b))
abs_div (negsuc a) (pos b) = omega (arith, abs_of_neg (suc a / b), div-le_self (suc a) b)
abs_div (negsuc a) (negsuc b) = div-le_self (suc a) (suc b)

abs_rem : (a b : ℤ) → unsigned_abs (int_rem a b) ≤ unsigned_abs a
abs_rem (pos a) b = mod-le a (unsigned_abs b)
abs_rem (negsuc a) b = omega (arith, abs_of_neg (suc a % unsigned_abs b), mod-le (suc a) (unsigned_abs b))

pub quotient_fits : (a b : ℤ) → mag a < 2147483648 → to_z w64 (of_z w64 (int_div a b)) ≡ int_div a b
quotient_fits a b h = fits (int_div a b) (omega (arith, abs_div a b, nat_abs-le a h))

pub remainder_fits : (a b : ℤ) → mag a < 2147483648 → to_z w64 (of_z w64 (int_rem a b)) ≡ int_rem a b
remainder_fits a b h = fits (int_rem a b) (omega (arith, abs_rem a b, nat_abs-le a h))

not_zero : (b : ℤ) → (b ≡ pos 0 → ⊥) → are_equal b (pos 0) ≡ false
not_zero b h = grind (arith, ints)

-- Division by a number that is not 0.
pub of_division : (division : ℤ → ℤ → ℤ) (a b : ℤ) (r : Option ℤ) → (b ≡ pos 0 → ⊥) → r ≡ (if is_int (division a b) then Some (division a b) else None) → r ≡ int_in (divided division a b)
of_division division a b r h e = of_exact 0 r (division a b) e ∙ ap (λ t. int_in (if t then Raises Divide 0 else exact_for 0 (division a b))) (sym (not_zero b h))
