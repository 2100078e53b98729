-- What the check of effects answers.
use Rattle.std.specs.Prelude.{◌≡◌, ℕ, ◌≤◌, Option, Some, None}
use Rattle.tu_core.specs.declared.names.At.{At}
use Rattle.tu_core.specs.Core.{Program}
use Rattle.tu_effects.specs.declared.error.EffectError.{EffectError}
use Rattle.tu_effects.specs.declared.error.EffectError.TheVariants as error
use Rattle.tu_effects.specs.declared.fault.EffectKind.{EffectKind}
use Rattle.tu_effects.specs.declared.fault.EffectKind.TheVariants.{FunctionVar, FunctionWrites, FunctionTalks, UnlistedWrite}
use Rattle.tu_effects.specs.declared.fault.Fault.{Fault}
use Rattle.tu_effects.specs.Faults.{HasFault, rank}

abbrev pub HasNoFault : Program → Type 0
HasNoFault program = (kind : EffectKind) (at : At) → HasFault program kind at → ⊥

-- the fault that is told: one that no other goes before
pub record IsLeastFault (program : Program) (kind : EffectKind) (at : At) : Type 0 where
  pub has : HasFault program kind at
  pub least : (other : EffectKind) (there : At) → HasFault program other there → rank kind at ≤ rank other there

abbrev pub IsTold : Program → Option Fault → Type 0
IsTold program None = HasNoFault program
IsTold program (Some fault) = IsLeastFault program fault.kind fault.at

-- the least fault has this kind, and stands on this line
abbrev pub IsToldAs : Program → EffectKind → (line : ℕ) → Type 0
IsToldAs program kind line = (at : At) × IsLeastFault program kind at × (at.line ≡ line)

-- want of memory has no cause in the program
abbrev pub IsCause : Program → EffectError → Type 0
IsCause program (error.FunctionVar line) = IsToldAs program FunctionVar line
IsCause program (error.FunctionWrites line) = IsToldAs program FunctionWrites line
IsCause program (error.FunctionTalks line) = IsToldAs program FunctionTalks line
IsCause program (error.UnlistedWrite line) = IsToldAs program UnlistedWrite line
IsCause program error.Memory = Unit {0}
