-- The faults of effects: the kinds that a place has, and what is told of them.
use Rattle.std.specs.Prelude.{◌≡◌, ℕ, ◌+◌, ◌*◌, nat_lt, true, Option, Some, None, if◌then◌else◌}
use Rattle.tu_core.specs.declared.names.At.{At}
use Rattle.tu_core.specs.Core.{Routine, Program}
use Rattle.tu_core.specs.Acts.{Act, routine_acts}
use Rattle.tu_core.specs.Effects as core
use Rattle.tu_effects.specs.declared.error.EffectError.{EffectError}
use Rattle.tu_effects.specs.declared.error.EffectError.TheVariants as error
use Rattle.tu_effects.specs.declared.fault.EffectKind.{EffectKind}
use Rattle.tu_effects.specs.declared.fault.EffectKind.TheVariants.{FunctionVar, FunctionWrites, FunctionTalks, UnlistedWrite}
use Rattle.tu_effects.specs.declared.fault.Fault.{Fault}
use Rattle.tu_effects.specs.declared.outside.Deed.{Deed}
use Rattle.tu_effects.specs.declared.outside.Deed.TheVariants as deed

abbrev pub order : EffectKind → ℕ
order FunctionVar = 0
order FunctionWrites = 1
order FunctionTalks = 2
order UnlistedWrite = 3

-- by the place, and on one place by the order of the kinds
abbrev pub rank : EffectKind → At → ℕ
rank kind at = 4 * at.start + order kind

abbrev pub error_at : EffectKind → (line : ℕ) → EffectError
error_at FunctionVar line = error.FunctionVar line
error_at FunctionWrites line = error.FunctionWrites line
error_at FunctionTalks line = error.FunctionTalks line
error_at UnlistedWrite line = error.UnlistedWrite line

-- a place has a fault of a kind
abbrev pub HasFault : Program → EffectKind → At → Type 0
HasFault program FunctionVar at = core.FunctionVar program at
HasFault program FunctionWrites at = core.FunctionWrites program at
HasFault program FunctionTalks at = core.FunctionTalks program at
HasFault program UnlistedWrite at = core.UnlistedWrite program at

abbrev pub sooner_of_two : Fault → Fault → Option Fault
sooner_of_two one other = if nat_lt (rank other.kind other.at) (rank one.kind one.at) then Some other else Some one

abbrev pub sooner : Option Fault → EffectKind → Option At → Option Fault
sooner first kind None = first
sooner None kind (Some at) = Some (record { kind = kind; at = at })
sooner (Some one) kind (Some at) = sooner_of_two one (record { kind = kind; at = at })

-- What a function may not do: change something outside, or talk.
abbrev pub DoesOutside : Deed → Program → Act → At → Type 0
DoesOutside deed.Writes program act at = core.ChangesOutside program act at
DoesOutside deed.Talks program act at = core.TalksOutside program act at

abbrev pub kind_of : Deed → EffectKind
kind_of deed.Writes = FunctionWrites
kind_of deed.Talks = FunctionTalks

-- by a routine, which is a function
abbrev pub FunctionDoes : Deed → Program → Routine → At → Type 0
FunctionDoes forbidden program r at = (core.is_function r ≡ true) × core.Among (DoesOutside forbidden program) (routine_acts r) at

abbrev pub HasVar : Routine → At → Type 0
HasVar r at = (core.is_function r ≡ true) × core.Among core.IsVarFormal r.formals at
