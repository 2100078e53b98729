-- Rows of what is tested at each call, and of which fault is told.
use Rattle.std.proofs.Common.{◌≡◌, ℕ, Bool, true, false, [], ◌∷◌, Some, None, refl}
use Rattle.std.specs.List.{flat_map}
use Rattle.tu_core.specs.declared.names.At.{At}
use Rattle.tu_core.specs.declared.names.Variable.TheVariants.{Global, Local}
use Rattle.tu_core.specs.Core.{Use, Path, Name, End, Item, Subscript, NoSubscript, Calls, Actuals, NoActual, Lent}
use Rattle.tu_core.specs.Acts.{Act, Calling, Talking}
use Rattle.tu_core.specs.Walk.{AtStep}
use Rattle.tu_overlap.specs.declared.fault.OverlapKind.{OverlapKind}
use Rattle.tu_overlap.specs.declared.fault.OverlapKind.TheVariants.{SharedActual, ImportedActual, HiddenRoot, ChangedBound}
use Rattle.tu_overlap.specs.declared.fault.Fault.{Fault}
use Rattle.tu_overlap.specs.Faults.{sooner}
use Rattle.tu_overlap.specs.Pairs.{tests_of_act}

abbrev on : (start line : ℕ) → At
on start line = record { start = start; line = line }

abbrev fault : OverlapKind → At → Fault
fault kind at = record { kind = kind; at = at }

-- c (i) of an array c, with i a local
abbrev item : (local : ℕ) → Path
item i = Name (on 0 1) (Global 2) (Item 1 (Subscript None (Use 0 (Name (on 0 1) (Local i) End)) NoSubscript) End)

abbrev call : Actuals → Act
call actuals = Calling (Calls (on 0 1) 0 None actuals)

abbrev lent : (is_var : Bool) → Path → Actuals → Actuals
lent is_var p more = Lent (on 0 1) is_var (Some []) p more

-- each call has its own list, also where it tests nothing
tested : flat_map tests_of_act (call NoActual ∷ (Talking (on 0 1) ∷ (call (lent true (item 0) (lent false (item 1) NoActual)) ∷ []))) ≡ [] ∷ ((record { first = 0; second = 1; tests = AtStep 0 ∷ [] } ∷ []) ∷ [])
tested = refl

-- the earlier place, whichever was found first
earlier_told : sooner (Some (fault SharedActual (on 9 2))) ChangedBound (Some (on 5 1)) ≡ Some (fault ChangedBound (on 5 1))
earlier_told = refl

-- on one place the first kind
first_kind_told : sooner (Some (fault HiddenRoot (on 5 1))) ImportedActual (Some (on 5 1)) ≡ Some (fault ImportedActual (on 5 1))
first_kind_told = refl
