-- The faults of overlap: the kinds that a place has, and what is told of them.
use Rattle.std.specs.Prelude.{◌≡◌, ℕ, ◌+◌, ◌*◌, nat_lt, Bool, true, false, not, ◌&&◌, List, Option, Some, None, option_to_list, ◌∷◌, if◌then◌else◌}
use Rattle.std.specs.List.{Contains}
use Rattle.tu_core.specs.declared.names.At.{At}
use Rattle.tu_core.specs.Core.{Path, Actuals, Program}
use Rattle.tu_core.specs.Acts.{Subject, Act}
use Rattle.tu_core.specs.Effects.{Among, is_one}
use Rattle.tu_core.specs.Overlap as core
use Rattle.tu_core.specs.Walk.{Same, walk}
use Rattle.tu_core_expressions.specs.declared.call.Actual.{Actual}
use Rattle.tu_core_expressions.specs.declared.call.Actual.TheVariants as actual
use Rattle.tu_reach.specs.Marks.{IsMarked}
use Rattle.tu_effects.specs.Relations.{FindsChanging, FindsTouching}
use Rattle.tu_effects.specs.declared.relations.Effects.{Effects}
use Rattle.tu_overlap.specs.declared.error.AliasError.{AliasError}
use Rattle.tu_overlap.specs.declared.error.AliasError.TheVariants as error
use Rattle.tu_overlap.specs.declared.fault.OverlapKind.{OverlapKind}
use Rattle.tu_overlap.specs.declared.fault.OverlapKind.TheVariants.{SharedActual, ImportedActual, HiddenRoot, ChangedBound}
use Rattle.tu_overlap.specs.declared.fault.Fault.{Fault}

abbrev pub order : OverlapKind → ℕ
order SharedActual = 0
order ImportedActual = 1
order HiddenRoot = 2
order ChangedBound = 3

-- by the place, and on one place by the order of the kinds
abbrev pub rank : OverlapKind → At → ℕ
rank kind at = 4 * at.start + order kind

abbrev pub error_at : OverlapKind → (line : ℕ) → AliasError
error_at SharedActual line = error.SharedActual line
error_at ImportedActual line = error.ImportedActual line
error_at HiddenRoot line = error.HiddenRoot line
error_at ChangedBound line = error.ChangedBound line

-- a place has a fault of a kind
abbrev pub HasFault : Program → OverlapKind → At → Type 0
HasFault program SharedActual at = core.SharedActual program at
HasFault program ImportedActual at = core.ImportedActual program at
HasFault program HiddenRoot at = core.HiddenRoot program at
HasFault program ChangedBound at = core.ChangedBound program at

abbrev pub sooner_of_two : Fault → Fault → Option Fault
sooner_of_two one other = if nat_lt (rank other.kind other.at) (rank one.kind one.at) then Some other else Some one

abbrev pub sooner : Option Fault → OverlapKind → Option At → Option Fault
sooner first kind None = first
sooner None kind (Some at) = Some (record { kind = kind; at = at })
sooner (Some one) kind (Some at) = sooner_of_two one (record { kind = kind; at = at })

-- of an act, with those behind it
abbrev pub HasFaultIn : Program → OverlapKind → Act × List Act → At → Type 0
HasFaultIn program SharedActual (act, behind) at = core.SharedOf act at
HasFaultIn program ImportedActual (act, behind) at = core.ImportedOf program act at
HasFaultIn program HiddenRoot (act, behind) at = core.HiddenIn program (act, behind) at
HasFaultIn program ChangedBound (act, behind) at = core.ChangedIn program (act, behind) at

-- of a call with these actuals
abbrev pub CallHas : Program → OverlapKind → (callee : ℕ) → Actuals → At → Type 0
CallHas program SharedActual callee actuals at = core.SharedIn actuals at
CallHas program ImportedActual callee actuals at = core.ImportedIn program callee actuals at
CallHas program HiddenRoot callee actuals at = ⊥
CallHas program ChangedBound callee actuals at = ⊥

abbrev pub is_of_bind : OverlapKind → (is_var : Bool) → Bool
is_of_bind SharedActual is_var = false
is_of_bind ImportedActual is_var = false
is_of_bind HiddenRoot is_var = is_var
is_of_bind ChangedBound is_var = not is_var

-- one actual, behind an actual at a path
abbrev pub SharedWithOne : (is_var : Bool) → Path → Actual → At → Type 0
SharedWithOne is_var p (actual.Given place size e) at = ⊥
SharedWithOne is_var p (actual.Lent place other_is_var bounds q) at = (core.are_compared is_var other_is_var ≡ true) × (walk p q ≡ Same) × (at ≡ place)

-- one actual, before some others
abbrev pub SharedBehind : Actual → Actuals → At → Type 0
SharedBehind (actual.Given place size e) later at = ⊥
SharedBehind (actual.Lent place is_var bounds p) later at = core.SharedWith is_var p later at

abbrev pub ImportedOne : Program → (callee : ℕ) → Actual → At → Type 0
ImportedOne program callee (actual.Given place size e) at = ⊥
ImportedOne program callee (actual.Lent place is_var bounds p) at = core.IsImported program callee is_var p × (at ≡ place)

abbrev pub FindsWith : (is_var : Bool) → Effects → Subject → (marks : List Bool) → Type 0
FindsWith true effects x marks = FindsTouching effects x marks
FindsWith false effects x marks = FindsChanging effects x marks

-- a call of what was found, also as the invariant of a module
abbrev pub CallsMarked : (marks : List Bool) → (callee : ℕ) → (invariant : Option ℕ) → Type 0
CallsMarked marks callee invariant = (p : ℕ) × Contains (callee ∷ option_to_list invariant) p × IsMarked marks p

-- an act breaks the rule of a bind to a part of x
abbrev pub IsBroken : (is_var : Bool) → Program → Subject → Act → At → Type 0
IsBroken true program x act at = core.IsHidden program x act at
IsBroken false program x act at = core.IsChanged program x act at

abbrev pub NamesAt : (is_var : Bool) → Subject → At → Subject → At → Type 0
NamesAt is_var x place y at = ((is_var && is_one x y) ≡ true) × (at ≡ place)

abbrev pub BreaksBind : (is_var : Bool) → Program → Path → (scope : List Act) → At → Type 0
BreaksBind is_var program path scope at = core.OfSubject (λ x. Among (IsBroken is_var program x) scope at) path
