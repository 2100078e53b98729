-- A text is gone through event by event.
use Rattle.std.proofs.Common.{◌≡◌, ℕ, ◌+◌, ◌<◌, List, [], ◌∷◌, ◌++◌, Option, Some, None, refl, sym, ap, ◌∙◌, length, take, get_or, subst, ◌≤◌}
use Rattle.std.proofs.Common.{add-one}
use Rattle.std.proofs.Math.Seq.{take-suc}
use Rattle.std.proofs.lemmas.List.{reverse-append, take_all}
use Rattle.std.specs.Prelude.{reverse}
use Rattle.tu_scope_rules.specs.declared.event.Event.{Event}
use Rattle.tu_scope_rules.specs.declared.fault.Fault.{Fault}
use Rattle.tu_scope_rules.specs.declared.fault.FaultKind.{FaultKind}
use Rattle.tu_scope_rules.specs.declared.fault.FaultKind.TheVariants.{Unknown, NotImported, NotExported, Twice, BodyMissing, WrongEnd}
use Rattle.std.specs.Option.{option_map}
use Rattle.tu_scope_rules.specs.Answers.{IsCause, error_of, error_with, told}
use Rattle.tu_scope_rules.specs.declared.resolve.Resolver.{Resolver}
use Rattle.tu_scope_rules.specs.Least.{least, with_first}
use Rattle.tu_scope_rules.specs.Faults.{fault_of, faults_of, with_fault}
use Rattle.tu_scope_rules.specs.Uses.{uses_of, uses_of_event}
use Rattle.tu_scope_rules.specs.Views.{view_behind, view_of}
use Rattle.tu_scope_rules.specs.Passes.{Passes}
use Rattle.tu_scope_rules.specs.Seen.{view_in}

-- what has come of the events so far
pub record IsAt (resolver : Resolver) (past : List Event) : Type 0 where
  pub view : view_in resolver.environment ≡ view_of past
  pub fault : resolver.first ≡ least (faults_of past)
  pub uses : resolver.uses.items ≡ uses_of past

least-with_fault : (fault : Option Fault) (faults : List Fault) → least (with_fault fault faults) ≡ with_first fault (least faults)
least-with_fault None faults = refl
least-with_fault (Some fault) faults = refl

-- the step of the loop
pub passed : (old new : Resolver) (event : Event) (past : List Event) → IsAt old past → Passes old new event → IsAt new (event ∷ past)
unfolding view_of faults_of uses_of
passed old new event past at passes = record {
  view = passes.view ∙ ap (λ v. view_behind v event) at.view;
  fault = passes.fault ∙ (ap (λ v. with_first (fault_of v event) old.first) at.view ∙ (ap (with_first (fault_of (view_of past) event)) at.fault ∙ sym (least-with_fault (fault_of (view_of past) event) (faults_of past))));
  uses = passes.uses ∙ (ap (λ v. old.uses.items ++ uses_of_event v event) at.view ∙ ap (λ us. us ++ uses_of_event (view_of past) event) at.uses);
}

pub started : (resolver : Resolver) → view_in resolver.environment ≡ view_of [] → resolver.first ≡ None → resolver.uses.items ≡ [] → IsAt resolver []
unfolding faults_of uses_of
started resolver view fault uses = record { view = view; fault = fault; uses = uses }

-- one more event
pub taken : (events : List Event) (i : ℕ) (event : Event) → i < length events → event ≡ get_or events i event → reverse (take (i + 1) events) ≡ event ∷ reverse (take i events)
taken events i event below is =
    ap (λ n. reverse (take n events)) (add-one i)
    ∙ (ap reverse (take-suc events i event below)
    ∙ (reverse-append (take i events) (get_or events i event ∷ []) ∙ ap (λ e. e ∷ reverse (take i events)) (sym is)))

-- all events
pub finished : (resolver : Resolver) (events : List Event) (i : ℕ) → length events ≤ i → IsAt resolver (reverse (take i events)) → IsAt resolver (reverse events)
finished resolver events i past at = subst (λ es. IsAt resolver (reverse es)) (take_all i events past) at

-- the fault that is told is the cause of its error
pub told_is : (events : List Event) (first : Option Fault) → first ≡ least (faults_of (reverse events)) → told events ≡ option_map error_of first
told_is events first e = ap (option_map error_of) (sym e)

pub caused : (events : List Event) (kind : FaultKind) (line : ℕ) → told events ≡ Some (error_with kind line) → IsCause events (error_with kind line)
caused events Unknown line h = h
caused events NotImported line h = h
caused events NotExported line h = h
caused events Twice line h = h
caused events BodyMissing line h = h
caused events WrongEnd line h = h
