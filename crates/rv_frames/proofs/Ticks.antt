-- Runs of the machine, one behind the other.
use Rattle.std.proofs.Common.{◌≡◌, ⊎_elim, ℕ, zero, suc, ◌+◌, ◌-◌, ◌<◌, ◌≤◌, Option, Some, None, refl, ap, ◌∙◌, arith}
use Rattle.std.specs.Prelude.{slice_get}
use Rattle.std.proofs.lemmas.Bool.{cases_lt}
use Rattle.rv_image.specs.Streams.{World}
use Rattle.ir_form.specs.declared.plain.Plain.{Plain as PlainOp}
use Rattle.ir_form.specs.declared.plain.Plain.TheVariants.{Constant, Global, Heap, Frame, Text, Compute, Load, Store, Ask, Call, Raise, Throw, Take, Give}
use Rattle.ir_form.specs.Place.{Setting}
use Rattle.ir_form.specs.State.{Verdict}
use Rattle.rv_flat.specs.declared.linear.Instruction.{Instruction}
use Rattle.rv_flat.specs.declared.linear.Instruction.TheVariants.{Plain, Guarded, Open, Branch, Within, Hand, Jump, Label, Back}
use Rattle.rv_flat.specs.declared.linear.LinearRoutine.{LinearRoutine}
use Rattle.rv_flat.specs.declared.linear.Linear.{Linear}
use Rattle.rv_frames.specs.Frames.{Machine, Running, Halted, tick, ticks, price_of, price_in, price_at, spent, tick_price, instruction_price, Unwinding, Taking}

plain_costs : (p : PlainOp) → 1 ≤ tick_price p
plain_costs (Constant to word) = omega arith
plain_costs (Global to word) = omega arith
plain_costs (Heap to) = omega arith
plain_costs (Frame to word) = omega arith
plain_costs (Text to byte) = omega arith
plain_costs (Compute to op left right) = omega arith
plain_costs (Load to width at) = omega arith
plain_costs (Store width at from) = omega arith
plain_costs (Ask to service) = omega arith
plain_costs (Call routine arguments to line) = omega arith
plain_costs (Raise kind line) = omega arith
plain_costs (Throw kind line) = omega arith
plain_costs (Take to words line) = omega arith
plain_costs (Give words) = omega arith

costs : (i : Instruction) → 1 ≤ instruction_price i
costs (Plain p) = plain_costs p
costs (Guarded p h) = plain_costs p
costs (Open mark) = omega arith
costs (Branch relation left right label) = omega arith
costs (Within value range label) = omega arith
costs (Hand to from) = omega arith
costs (Jump label) = omega arith
costs (Label label marked) = omega arith
costs (Back values) = omega arith

costs_of : (o : Option Instruction) → 1 ≤ price_of o
costs_of None = omega arith
costs_of (Some i) = costs i

costs_in : (o : Option LinearRoutine) (place : ℕ) → 1 ≤ price_in o place
costs_in None place = omega arith
costs_in (Some r) place = costs_of (slice_get r.code place)

-- a tick is not for nothing
pub tick_costs : (l : Linear) (m : Machine) → 1 ≤ price_at l m
tick_costs l (Running routine place state callers) = costs_in (slice_get l.routines routine) place
tick_costs l (Unwinding routine kind line state callers) = omega arith
tick_costs l (Taking routine h kind line state callers) = omega arith
tick_costs l (Halted verdict w) = omega arith

pub ticks_add : (g : Setting) (l : Linear) (a b : ℕ) (m : Machine) → ticks g l (a + b) m ≡ ticks g l b (ticks g l a m)
ticks_add g l zero b m = let e : 0 + b ≡ b = omega arith in ap (λ n. ticks g l n m) e
ticks_add g l (suc a) b m = let e : suc a + b ≡ suc (a + b) = omega arith in ap (λ n. ticks g l n m) e ∙ ticks_add g l a b (tick g l m)

pub spent_add : (g : Setting) (l : Linear) (a b : ℕ) (m : Machine) → spent g l (a + b) m ≡ spent g l a m + spent g l b (ticks g l a m)
spent_add g l zero b m = let e : 0 + b ≡ b = omega arith in ap (λ n. spent g l n m) e ∙ omega arith
spent_add g l (suc a) b m =
    let e : suc a + b ≡ suc (a + b) = omega arith in
    let h = spent_add g l a b (tick g l m) in
    ap (λ n. spent g l n m) e ∙ omega arith

pub ticks_from : (g : Setting) (l : Linear) (a b : ℕ) (m : Machine) → a ≤ b → ticks g l b m ≡ ticks g l (b - a) (ticks g l a m)
ticks_from g l a b m le = let e : b ≡ a + (b - a) = omega arith in ap (λ n. ticks g l n m) e ∙ ticks_add g l a (b - a) m

halted : (g : Setting) (l : Linear) (n : ℕ) (verdict : Verdict) (w : World) → ticks g l n (Halted verdict w) ≡ Halted verdict w
halted g l zero verdict w = refl
halted g l (suc n) verdict w = halted g l n verdict w

-- a machine that is over stays so
pub stays_halted : (g : Setting) (l : Linear) (a b : ℕ) (m : Machine) (verdict : Verdict) (w : World) → a ≤ b → ticks g l a m ≡ Halted verdict w → ticks g l b m ≡ Halted verdict w
stays_halted g l a b m verdict w le e = ticks_from g l a b m le ∙ ap (ticks g l (b - a)) e ∙ halted g l (b - a) verdict w

spent_least : (g : Setting) (l : Linear) (n : ℕ) (m : Machine) → n ≤ spent g l n m
spent_least g l zero m = omega arith
spent_least g l (suc n) m = let p = tick_costs l m in let h = spent_least g l n (tick g l m) in omega arith

-- each tick more costs more
pub spent_more : (g : Setting) (l : Linear) (a b : ℕ) (m : Machine) → spent g l a m + b ≤ spent g l (a + b) m
spent_more g l a b m = let e = spent_add g l a b m in let h = spent_least g l b (ticks g l a m) in omega arith

-- so what has not cost more came not later
pub not_later : (g : Setting) (l : Linear) (a b : ℕ) (m : Machine) → spent g l a m ≤ spent g l b m → a ≤ b
not_later g l a b m le =
    ⊎_elim
    (λ (lt : b < a). let e : b + (a - b) ≡ a = omega arith in let h = spent_more g l b (a - b) m in let f = ap (λ n. spent g l n m) e in absurd (omega arith))
    (λ (ge : a ≤ b). ge)
    (cases_lt b a)
