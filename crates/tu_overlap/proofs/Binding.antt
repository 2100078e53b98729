-- What breaks the rule of a `bind`.
use Rattle.std.proofs.Common.{◌≡◌, ◌↔◌, ℕ, Bool, true, false, List, Option, Some}
use Rattle.tu_core.specs.declared.names.At.{At}
use Rattle.tu_core.specs.Core.{Path, Calls, Actuals, Named, Program}
use Rattle.tu_core.specs.declared.names.Variable.{Variable}
use Rattle.tu_core.specs.Acts.{Subject, Act, Calling, Changing, Declaring, Defining, subject_of}
use Rattle.tu_core.specs.Effects.{Among}
use Rattle.tu_core.specs.Overlap.{ChangesAt}
use Rattle.tu_effects.specs.declared.relations.Effects.{Effects}
use Rattle.tu_effects.specs.Least.{at_if, IsLeast}
use Rattle.tu_effects.specs.Relations.{IsEffects}
use Rattle.tu_effects.proofs.FirstPlace.{least_if, least_same}
use Rattle.tu_overlap.specs.Faults.{BreaksBind, CallsMarked, FindsWith, IsBroken}
use Rattle.tu_overlap.proofs.Rows.{of_subject, to_subject}

-- a call of what a search for the subject found breaks the rule
pub call_breaks : (program : Program) (effects : Effects) (marks : List Bool) (is_var : Bool) (x : Subject) (at : At) (callee : ℕ) (invariant : Option ℕ) (actuals : Actuals) (holds : Bool) →
    IsEffects program effects → FindsWith is_var effects x marks → (holds ≡ true ↔ CallsMarked marks callee invariant) → IsLeast (IsBroken is_var program x (Calling (Calls at callee invariant actuals))) (at_if holds at)
call_breaks program effects marks true x at callee invariant actuals holds h finds is =
    least_same (λ b. CallsMarked marks callee invariant × (b ≡ at)) (IsBroken true program x (Calling (Calls at callee invariant actuals)))
    (λ b ((p, c, m), e). ((p, c, (finds program h p).0 m), e)) (λ b ((p, c, t), e). ((p, c, (finds program h p).1 t), e)) (at_if holds at)
    (least_if (CallsMarked marks callee invariant) holds at is.0 is.1)
call_breaks program effects marks false x at callee invariant actuals holds h finds is =
    least_same (λ b. CallsMarked marks callee invariant × (b ≡ at)) (IsBroken false program x (Calling (Calls at callee invariant actuals)))
    (λ b ((p, c, m), e). ((p, c, (finds program h p).0 m), e)) (λ b ((p, c, t), e). ((p, c, (finds program h p).1 t), e)) (at_if holds at)
    (least_if (CallsMarked marks callee invariant) holds at is.0 is.1)

pub bind_breaks : (program : Program) (is_var : Bool) (path : Path) (x : Subject) (scope : List Act) (found : Option At) → subject_of path ≡ Some x → IsLeast (Among (IsBroken is_var program x) scope) found → IsLeast (BreaksBind is_var program path scope) found
bind_breaks program is_var path x scope found e h =
    least_same (Among (IsBroken is_var program x) scope) (BreaksBind is_var program path scope)
    (λ a t. to_subject (λ y. Among (IsBroken is_var program y) scope a) path x e t) (λ a t. of_subject (λ y. Among (IsBroken is_var program y) scope a) path x e t) found h

pub changing_breaks : (is_var : Bool) (program : Program) (x : Subject) (at : At) (y : Subject) (found : Option At) → IsLeast (ChangesAt x (Changing at y)) found → IsLeast (IsBroken is_var program x (Changing at y)) found
changing_breaks true program x at y found h = h
changing_breaks false program x at y found h = h

pub declaring_breaks : (is_var : Bool) (program : Program) (x : Subject) (at : At) (y : Variable) (found : Option At) → IsLeast (ChangesAt x (Declaring at y)) found → IsLeast (IsBroken is_var program x (Declaring at y)) found
declaring_breaks true program x at y found h = h
declaring_breaks false program x at y found h = h

pub defining_breaks : (is_var : Bool) (program : Program) (x : Subject) (at : At) (y : Named) (found : Option At) → IsLeast (ChangesAt x (Defining at y)) found → IsLeast (IsBroken is_var program x (Defining at y)) found
defining_breaks true program x at y found h = h
defining_breaks false program x at y found h = h
