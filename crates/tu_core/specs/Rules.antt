-- The programs that the rules on effects and on overlap accept.
use Rattle.tu_core.specs.Core.{Program}
use Rattle.tu_core.specs.declared.names.At.{At}
use Rattle.tu_core.specs.Effects.{FunctionVar, FunctionWrites}
use Rattle.tu_core.specs.Overlap.{SharedActual, ImportedActual, HiddenRoot, ChangedBound}

-- A fault is nowhere.
abbrev pub IsNowhere : (At → Type 0) → Type 0
IsNowhere Fault = (at : At) → Fault at → ⊥

pub record KeepsTheRules (program : Program) : Type 0 where
  -- functions change nothing outside
  pub no_var : IsNowhere (FunctionVar program)
  pub no_writes : IsNowhere (FunctionWrites program)
  pub no_shared : IsNowhere (SharedActual program)
  pub no_imported : IsNowhere (ImportedActual program)
  pub no_hidden : IsNowhere (HiddenRoot program)
  pub no_changed : IsNowhere (ChangedBound program)
