-- The first of the faults of several kinds.
use Rattle.std.proofs.Common.{◌≡◌, ℕ, ◌+◌, ◌<◌, ◌≤◌, Bool, true, false, Option, Some, None, refl, arith, ltb, if◌then◌else◌}
use Rattle.std.proofs.lemmas.Bool.{ltb-true, ltb-false}
use Rattle.tu_core.specs.declared.names.At.{At}
use Rattle.tu_core.specs.Core.{Program}
use Rattle.tu_effects.specs.declared.fault.EffectKind.{EffectKind}
use Rattle.tu_effects.specs.declared.fault.EffectKind.TheVariants.{FunctionVar, FunctionWrites, FunctionTalks, UnlistedWrite}
use Rattle.tu_effects.specs.declared.fault.Fault.{Fault}
use Rattle.tu_effects.specs.Faults.{HasFault, error_at, order, rank, sooner}
use Rattle.tu_effects.specs.Answers.{IsCause, IsLeastFault, IsTold, IsToldAs}
use Rattle.tu_effects.specs.Least.{IsLeast}

-- of the kinds that stand below n in their order
abbrev pub IsToldBelow : Program → (n : ℕ) → Option Fault → Type 0
IsToldBelow program n None = (kind : EffectKind) (at : At) → order kind < n → HasFault program kind at → ⊥
IsToldBelow program n (Some fault) =
    (order fault.kind < n) × HasFault program fault.kind fault.at × ((kind : EffectKind) (at : At) → order kind < n → HasFault program kind at → rank fault.kind fault.at ≤ rank kind at)

pub told_none : (program : Program) → IsToldBelow program 0 None
told_none program kind at lt h = omega (arith, lt)

-- What holds of the kinds below one, and of that one, holds of all up to it.
pub up_to : (P : EffectKind → Type 0) (kind : EffectKind) → ((other : EffectKind) → order other < order kind → P other) → P kind → (other : EffectKind) → order other < order kind + 1 → P other
up_to P FunctionVar below own FunctionVar lt = own
up_to P FunctionVar below own FunctionWrites lt = absurd (omega (arith, lt))
up_to P FunctionVar below own FunctionTalks lt = absurd (omega (arith, lt))
up_to P FunctionVar below own UnlistedWrite lt = absurd (omega (arith, lt))
up_to P FunctionWrites below own FunctionVar lt = below FunctionVar (omega arith)
up_to P FunctionWrites below own FunctionWrites lt = own
up_to P FunctionWrites below own FunctionTalks lt = absurd (omega (arith, lt))
up_to P FunctionWrites below own UnlistedWrite lt = absurd (omega (arith, lt))
up_to P FunctionTalks below own FunctionVar lt = below FunctionVar (omega arith)
up_to P FunctionTalks below own FunctionWrites lt = below FunctionWrites (omega arith)
up_to P FunctionTalks below own FunctionTalks lt = own
up_to P FunctionTalks below own UnlistedWrite lt = absurd (omega (arith, lt))
up_to P UnlistedWrite below own FunctionVar lt = below FunctionVar (omega arith)
up_to P UnlistedWrite below own FunctionWrites lt = below FunctionWrites (omega arith)
up_to P UnlistedWrite below own FunctionTalks lt = below FunctionTalks (omega arith)
up_to P UnlistedWrite below own UnlistedWrite lt = own

small : (kind : EffectKind) → order kind < 4
small FunctionVar = omega arith
small FunctionWrites = omega arith
small FunctionTalks = omega arith
small UnlistedWrite = omega arith

-- no fault of these kinds has a smaller rank
abbrev IsAbove : Program → ℕ → EffectKind → Type 0
IsAbove program m kind = (at : At) → HasFault program kind at → m ≤ rank kind at

two_told : (program : Program) (one other : Fault) (b : Bool) → ltb (rank other.kind other.at) (rank one.kind one.at) ≡ b → IsToldBelow program (order other.kind) (Some one) → IsLeast (HasFault program other.kind) (Some other.at) →
    IsToldBelow program (order other.kind + 1) (if b then Some other else Some one)
two_told program one other true e g h =
    let before = ltb-true (rank other.kind other.at) (rank one.kind one.at) e in
    let m = rank other.kind other.at in
    (omega arith, h.0, λ kind at lt f. up_to (IsAbove program m) other.kind (λ k l a i. let n = g.2 k a l i in omega arith) (λ a i. let n = h.1 a i in omega arith) kind lt at f)
two_told program one other false e g h =
    let before = ltb-false (rank other.kind other.at) (rank one.kind one.at) e in
    let m = rank one.kind one.at in
    (omega (arith, g.0), g.1, λ kind at lt f. up_to (IsAbove program m) other.kind (λ k l a i. g.2 k a l i) (λ a i. let n = h.1 a i in omega arith) kind lt at f)

-- One more kind was looked at.
pub told_more : (program : Program) (first : Option Fault) (kind : EffectKind) (at : Option At) → IsToldBelow program (order kind) first → IsLeast (HasFault program kind) at → IsToldBelow program (order kind + 1) (sooner first kind at)
told_more program None kind None g h = λ other at lt f. up_to (λ k. (a : At) → HasFault program k a → ⊥) kind (λ k l a i. g k a l i) h other lt at f
told_more program (Some one) kind None g h =
    (omega (arith, g.0), g.1, λ other at lt f. up_to (IsAbove program (rank one.kind one.at)) kind (λ k l a i. g.2 k a l i) (λ a i. absurd (h a i)) other lt at f)
told_more program None kind (Some at) g h =
    (omega arith, h.0, λ other there lt f. up_to (IsAbove program (rank kind at)) kind (λ k l a i. absurd (g k a l i)) (λ a i. let n = h.1 a i in omega arith) other lt there f)
told_more program (Some one) kind (Some at) g h = two_told program one (record { kind = kind; at = at }) (ltb (rank kind at) (rank one.kind one.at)) refl g h

pub told_all : (program : Program) (found : Option Fault) → IsToldBelow program 4 found → IsTold program found
told_all program None h = λ kind at f. h kind at (small kind) f
told_all program (Some fault) h = record { has = h.1; least = λ kind at f. h.2 kind at (small kind) f }

told_as : (program : Program) (kind : EffectKind) (at : At) → IsLeastFault program kind at → IsToldAs program kind at.line
told_as program kind at h = (at, h, refl)

pub told_cause : (program : Program) (kind : EffectKind) (at : At) → IsLeastFault program kind at → IsCause program (error_at kind at.line)
told_cause program FunctionVar at h = told_as program FunctionVar at h
told_cause program FunctionWrites at h = told_as program FunctionWrites at h
told_cause program FunctionTalks at h = told_as program FunctionTalks at h
told_cause program UnlistedWrite at h = told_as program UnlistedWrite at h
