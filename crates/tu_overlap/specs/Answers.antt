-- What the check of overlap answers.
use Rattle.std.specs.Prelude.{◌≡◌, ℕ, ◌≤◌, Option, Some, None}
use Rattle.tu_core.specs.declared.names.At.{At}
use Rattle.tu_core.specs.Core.{Program}
use Rattle.tu_overlap.specs.declared.error.AliasError.{AliasError}
use Rattle.tu_overlap.specs.declared.error.AliasError.TheVariants as error
use Rattle.tu_overlap.specs.declared.fault.OverlapKind.{OverlapKind}
use Rattle.tu_overlap.specs.declared.fault.OverlapKind.TheVariants.{SharedActual, ImportedActual, HiddenRoot, ChangedBound}
use Rattle.tu_overlap.specs.declared.fault.Fault.{Fault}
use Rattle.tu_overlap.specs.Faults.{HasFault, rank}

abbrev pub HasNoFault : Program → Type 0
HasNoFault program = (kind : OverlapKind) (at : At) → HasFault program kind at → ⊥

-- the fault that is told: one that no other goes before
pub record IsLeastFault (program : Program) (kind : OverlapKind) (at : At) : Type 0 where
  pub has : HasFault program kind at
  pub least : (other : OverlapKind) (there : At) → HasFault program other there → rank kind at ≤ rank other there

abbrev pub IsTold : Program → Option Fault → Type 0
IsTold program None = HasNoFault program
IsTold program (Some fault) = IsLeastFault program fault.kind fault.at

-- the least fault has this kind, and stands on this line
abbrev pub IsToldAs : Program → OverlapKind → (line : ℕ) → Type 0
IsToldAs program kind line = (at : At) × IsLeastFault program kind at × (at.line ≡ line)

-- want of memory has no cause in the program
abbrev pub IsCause : Program → AliasError → Type 0
IsCause program (error.SharedActual line) = IsToldAs program SharedActual line
IsCause program (error.ImportedActual line) = IsToldAs program ImportedActual line
IsCause program (error.HiddenRoot line) = IsToldAs program HiddenRoot line
IsCause program (error.ChangedBound line) = IsToldAs program ChangedBound line
IsCause program error.Memory = Unit {0}
