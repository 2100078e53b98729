-- What resolving the names of a text answers.
use Rattle.std.specs.Prelude.{◌≡◌, ℕ, List, reverse, Option, Some, None}
use Rattle.std.specs.Option.{option_map}
use Rattle.tu_scope_rules.specs.declared.fault.FaultKind.{FaultKind}
use Rattle.tu_scope_rules.specs.declared.fault.FaultKind.TheVariants.{Unknown as is_unknown, NotImported as is_not_imported, NotExported as is_not_exported, Twice as is_twice, BodyMissing as is_body_missing, WrongEnd as is_wrong_end}
use Rattle.tu_scope_rules.specs.declared.fault.Fault.{Fault}
use Rattle.tu_scope_rules.specs.declared.event.Event.{Event}
use Rattle.tu_scope_rules.specs.declared.name_use.NameUse.{NameUse}
use Rattle.tu_scope_rules.specs.declared.error.ScopeError.{ScopeError}
use Rattle.tu_scope_rules.specs.declared.error.ScopeError.TheVariants.{Unknown, NotImported, NotExported, Twice, BodyMissing, WrongEnd, Memory}
use Rattle.tu_scope_rules.specs.Faults.{faults_of}
use Rattle.tu_scope_rules.specs.Least.{least}
use Rattle.tu_scope_rules.specs.Uses.{uses_of}

abbrev pub error_with : FaultKind → (line : ℕ) → ScopeError
error_with is_unknown line = Unknown line
error_with is_not_imported line = NotImported line
error_with is_not_exported line = NotExported line
error_with is_twice line = Twice line
error_with is_body_missing line = BodyMissing line
error_with is_wrong_end line = WrongEnd line

abbrev pub error_of : Fault → ScopeError
error_of fault = error_with fault.kind fault.line

-- the error of the fault that is told, if there is one
abbrev pub told : List Event → Option ScopeError
told events = option_map error_of (least (faults_of (reverse events)))

-- A text without faults has these uses.
pub record IsScoped (events : List Event) (uses : List NameUse) : Type 0 where
  pub right : told events ≡ None
  pub declarations : uses ≡ uses_of (reverse events)

-- want of memory has no cause in the text
abbrev pub IsCause : List Event → ScopeError → Type 0
IsCause events Memory = Unit {0}
IsCause events error = told events ≡ Some error
