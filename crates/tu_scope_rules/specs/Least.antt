-- The fault that is told of several: the one at the least place, and of those the first in the order of the kinds.
use Rattle.std.specs.Prelude.{◌≡◌, ℕ, List, [], ◌∷◌, Bool, false, ◌&&◌, ◌||◌, Option, Some, None, if◌then◌else◌, nat_eq, nat_lt, All, Contains}
use Rattle.tu_scope_rules.specs.declared.fault.FaultKind.{FaultKind}
use Rattle.tu_scope_rules.specs.declared.fault.FaultKind.TheVariants.{Unknown, NotImported, NotExported, Twice, BodyMissing, WrongEnd}
use Rattle.tu_scope_rules.specs.declared.fault.Fault.{Fault}

abbrev pub kind_number : FaultKind → ℕ
kind_number Unknown = 0
kind_number NotImported = 1
kind_number NotExported = 2
kind_number Twice = 3
kind_number BodyMissing = 4
kind_number WrongEnd = 5

abbrev pub is_before : Fault → Fault → Bool
is_before a b = nat_lt a.start b.start || (nat_eq a.start b.start && nat_lt (kind_number a.kind) (kind_number b.kind))

-- it is one of them, and none is before it
abbrev pub IsLeast : Fault → List Fault → Type 0
IsLeast fault faults = Contains faults fault × All (λ other. is_before other fault ≡ false) faults

-- of a new one and an older one, the least
abbrev pub earlier : Fault → Option Fault → Fault
earlier new None = new
earlier new (Some old) = if is_before old new then old else new

abbrev pub least : List Fault → Option Fault
least [] = None
least (fault ∷ faults) = Some (earlier fault (least faults))

-- with what one more event has
abbrev pub with_first : Option Fault → Option Fault → Option Fault
with_first None first = first
with_first (Some fault) first = Some (earlier fault first)
