-- The pieces of the operators do what the operators say.
use Rattle.std.proofs.Common.{ℕ, arith}
use Rattle.ir_form.specs.Plain.{Calls}
use Rattle.tu_value.specs.Laws.{sum_most, product_most, more_most}
use Rattle.tu_value.proofs.Sums.{sum_meets, difference_meets, more_meets, less_meets}
use Rattle.tu_value.proofs.Multiplied.{product_meets}
use Rattle.ir_build.specs.Keeps.{Site}
use Rattle.ir_build.proofs.Forms.{Operators}

pub operators : (x : Site) (calls : Calls) (line : ℕ) → Operators x calls line
operators x calls line =
    let g = x.setting in
    record {
      sum = record { most = sum_most; small = omega arith; meets = λ left right n y z st c sy sz h ly lz ey ez. sum_meets g calls x.fixed y z line left right n st c h (record { small = sy; below = ly; is = ey }) (record { small = sz; below = lz; is = ez }) };
      difference = record { most = sum_most; small = omega arith; meets = λ left right n y z st c sy sz h ly lz ey ez. difference_meets g calls x.fixed y z line left right n st c h (record { small = sy; below = ly; is = ey }) (record { small = sz; below = lz; is = ez }) };
      product = record { most = product_most; small = omega arith; meets = λ left right n y z st c sy sz h ly lz ey ez. product_meets g calls x.fixed y z line left right n st c h (record { small = sy; below = ly; is = ey }) (record { small = sz; below = lz; is = ez }) };
      more = record { most = more_most; small = omega arith; meets = λ left number n y st c sy ln h ly ey. more_meets g calls y line left number n st c (record { small = sy; below = ly; is = ey }) ln };
      less = record { most = more_most; small = omega arith; meets = λ left number n y st c sy ln h ly ey. less_meets g calls y line left number n st c (record { small = sy; below = ly; is = ey }) ln };
    }
