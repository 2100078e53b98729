-- What holds of all programs.
use Rattle.std.specs.Prelude.{◌↔◌}
use Rattle.tu_core.specs.Core.{Program}
use Rattle.tu_core.specs.Effects.{FunctionTalks, UnlistedWrite}
use Rattle.tu_core.specs.Rules.{IsNowhere, KeepsTheRules}
use Rattle.tu_effects.specs.Answers as effects
use Rattle.tu_overlap.specs.Answers as overlap

-- Two more rules have no part in the meaning by reference: functions do not talk, and what import lists let be read is not changed.
abbrev pub KeepsAllRules : Program → Type 0
KeepsAllRules program = KeepsTheRules program × IsNowhere (FunctionTalks program) × IsNowhere (UnlistedWrite program)

-- no fault of effects and of overlap is that all rules are kept
abbrev pub NoFaultIsAllRules : Type 0
NoFaultIsAllRules = (program : Program) → (effects.HasNoFault program × overlap.HasNoFault program) ↔ KeepsAllRules program
