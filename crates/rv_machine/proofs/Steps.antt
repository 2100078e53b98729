-- Runs, instruction by instruction.
use Rattle.std.proofs.Common.{◌≡◌, ℕ, zero, suc, ◌+◌, refl, arith, ap, sym, ◌∙◌}
use Rattle.rv_isa.specs.Step.{Cpu, Space, Outcome, step}
use Rattle.rv_image.specs.Steps.{Paused, onward, steps}

pub steps_more : (s : Space) (n k m : ℕ) (c : Cpu) → n ≡ suc m → steps s n k c ≡ onward (steps s m (k + 1)) k (step s c)
unfolding steps
steps_more s zero k m c e = absurd (omega arith)
steps_more s (suc n) k m c e = let q : n ≡ m = omega arith in rw q refl

pub steps_none : (s : Space) (n k : ℕ) (c : Cpu) → n ≡ 0 → steps s n k c ≡ Paused k c
unfolding steps
steps_none s zero k c e = refl
steps_none s (suc n) k c e = absurd (omega arith)

pub one_more : (s : Space) (n k m : ℕ) (c : Cpu) (o : Outcome) → n ≡ suc m → o ≡ step s c → onward (steps s m (k + 1)) k o ≡ steps s n k c
one_more s n k m c o e is = ap (onward (steps s m (k + 1)) k) is ∙ sym (steps_more s n k m c e)

pub no_more : (s : Space) (n k most : ℕ) (c : Cpu) → n ≡ 0 → k ≡ most → Paused most c ≡ steps s n k c
no_more s n k most c e is = ap (λ j. Paused j c) (sym is) ∙ sym (steps_none s n k c e)
