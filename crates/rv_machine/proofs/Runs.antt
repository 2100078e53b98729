-- A run is the machine's rests, one after the other.
use Rattle.std.proofs.Common.{◌≡◌, ℕ, zero, suc, ◌+◌, ◌-◌, refl, arith}
use Rattle.rv_isa.specs.Step.{Cpu, Space, Outcome, Goes, Asks, Faults, step}
use Rattle.rv_image.specs.Steps.{onward, steps}
use Rattle.rv_image.specs.Streams.{Folder, World}
use Rattle.rv_image.specs.Run.{run, continued, rests}

-- one instruction, whatever it came to
one : (folder : Folder) (s : Space) (n k : ℕ) (w : World) (o : Outcome) →
    ((c : Cpu) → run folder s n (k + 1) c w ≡ rests folder s (k + 1 + n) w (steps s n (k + 1) c)) →
    continued folder (run folder s n (k + 1)) k w o ≡ rests folder s (k + suc n) w (onward (steps s n (k + 1)) k o)
one folder s n k w (Goes to) h = let e : k + suc n ≡ k + 1 + n = omega arith in rw e (h to)
one folder s n k w (Asks what to) h = let e : n ≡ k + suc n - (k + 1) = omega arith in rw (← e) refl
one folder s n k w (Faults why at) h = refl

pub run_rests : (folder : Folder) (s : Space) (n k : ℕ) (c : Cpu) (w : World) → run folder s n k c w ≡ rests folder s (k + n) w (steps s n k c)
unfolding run steps
run_rests folder s zero k c w = refl
run_rests folder s (suc n) k c w = one folder s n k w (step s c) (λ d. run_rests folder s n (k + 1) d w)
