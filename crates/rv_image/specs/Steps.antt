-- Many instructions, up to the first that does not simply go on.
use Rattle.std.specs.Prelude.{ℕ, zero, suc, ◌+◌}
use Rattle.rv_isa.specs.declared.service.FaultKind.{FaultKind}
use Rattle.rv_isa.specs.declared.service.Service.{Service}
use Rattle.rv_isa.specs.Step.{Cpu, Space, Outcome, Goes, Asks, Faults, step}

-- Why a machine is at rest, after so many instructions: all that were allowed have run, it asks for a service, or the next one faults.
pub data Rest : Type 0 where
  Paused : (count : ℕ) → (at : Cpu) → Rest
  Asking : (what : Service) → (count : ℕ) → (at : Cpu) → Rest
  Faulty : (why : FaultKind) → (count : ℕ) → (at : Cpu) → Rest

abbrev pub onward : (Cpu → Rest) → ℕ → Outcome → Rest
onward next count (Goes to) = next to
onward next count (Asks what to) = Asking what (count + 1) to
onward next count (Faults why at) = Faulty why count at

-- at most n instructions, after some were counted; the one behind them is not looked at
unfoldable pub steps : Space → ℕ → ℕ → Cpu → Rest
steps s zero count c = Paused count c
steps s (suc n) count c = onward (steps s n (count + 1)) count (step s c)
