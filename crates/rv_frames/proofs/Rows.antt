-- Worked rows: what the machine does with small linear code, and what that costs.
use Rattle.std.proofs.Common.{◌≡◌, ℕ, List, [], ◌∷◌, true, false, refl}
use Rattle.tu_base.specs.Trace.{Put}
use Rattle.tu_base.specs.declared.kind.Kind.TheVariants.{Unset as unset}
use Rattle.rv_isa.specs.declared.instr.Relation.TheVariants.{Less}
use Rattle.rv_isa.specs.declared.instr.RegisterOp.TheVariants.{Add}
use Rattle.rv_isa.specs.declared.service.Service.TheVariants.{PutConsole}
use Rattle.rv_image.specs.Streams.{Closed}
use Rattle.ir_form.specs.declared.plain.Plain.TheVariants.{Constant, Global, Store, Compute, Ask, Call, Raise, Throw, Take}
use Rattle.ir_form.specs.declared.plain.Width.TheVariants.{Byte}
use Rattle.ir_form.specs.Place.{Place, Setting}
use Rattle.ir_form.specs.State.{State, Verdict, Ended, Stopped, Going, Stuck}
use Rattle.ir_form.specs.Units.{setting_of}
use Rattle.rv_flat.specs.declared.linear.Handler.{Handler}
use Rattle.rv_flat.specs.declared.linear.Instruction.{Instruction}
use Rattle.rv_flat.specs.declared.linear.Instruction.TheVariants.{Plain, Guarded, Open, Branch, Jump, Label, Back}
use Rattle.rv_flat.specs.declared.linear.LinearRoutine.{LinearRoutine}
use Rattle.rv_flat.specs.declared.linear.Linear.{Linear}
use Rattle.rv_flat.specs.Units.{linear_meaning}
use Rattle.rv_flat.specs.Flow.{place_of_label}
use Rattle.rv_frames.specs.Frames.{Machine, Running, Unwinding, Taking, Halted, ticks, spent, first, world_at}

abbrev low : Place
low = record { globals_at = 65536; texts_at = 65536 }

abbrev main : List Instruction → LinearRoutine
main code = record { parameters = []; code = code; room = 64; words = 0; depth = 0 }

abbrev linear : List LinearRoutine → Linear
linear routines = record { globals = 1; main = 0; routines = routines; texts = [] }

abbrev setting : Setting
setting = setting_of low 1 Closed

-- the sum of a value with itself
abbrev twice : LinearRoutine
twice = record { parameters = 0 ∷ []; code = Plain (Compute 1 Add 0 0) ∷ Back (1 ∷ []) ∷ []; room = 40; words = 0; depth = 1 }

-- puts the first power of 2 that is not below 4
abbrev powers : Linear
powers = linear (main (
    Plain (Constant 0 1) ∷ Plain (Constant 5 4)
    ∷ Label 0 true ∷ Branch Less 0 5 1 ∷ Plain (Call 1 (0 ∷ []) (0 ∷ []) 7) ∷ Jump 0
    ∷ Label 1 false ∷ Plain (Global 2 0) ∷ Plain (Store Byte 2 0) ∷ Plain (Constant 3 1) ∷ Plain (Ask 4 (PutConsole 2 3)) ∷ Back [] ∷ [])
    ∷ twice ∷ [])

abbrev at : ℕ → Machine
at n = ticks setting powers n (first setting powers [])

abbrev verdict_at : Machine → Verdict
verdict_at (Running routine place state callers) = Going
verdict_at (Unwinding routine kind line state callers) = Going
verdict_at (Taking routine h kind line state callers) = Going
verdict_at (Halted verdict w) = verdict

powers_trace : (world_at (at 22)).trace ≡ Put 4 ∷ []
powers_trace = refl

powers_verdict : verdict_at (at 22) ≡ Ended
powers_verdict = refl

powers_going : verdict_at (at 21) ≡ Going
powers_going = refl

-- as much as the linear code costs, but for what two calls pay for exceptions that leave them
powers_spent : spent setting powers 22 (first setting powers []) ≡ 293
powers_spent = refl

powers_cost : (linear_meaning powers low [] Closed 3 0).cost ≡ 337
unfolding Rattle.rv_flat.specs.Units.linear_run
powers_cost = refl

-- in the called routine, with the caller's place behind the call
abbrev second_place : Machine → ℕ
second_place (Running routine place state []) = place
second_place (Running routine place state (f ∷ callers)) = f.place
second_place (Unwinding routine kind line state callers) = 0
second_place (Taking routine h kind line state callers) = 0
second_place (Halted verdict w) = 0

powers_called : second_place (at 5) ≡ 5
powers_called = refl

-- the place of a label, and of one that does not stand there
label_places : place_of_label 7 (Label 3 false ∷ Jump 7 ∷ Label 7 true ∷ []) ≡ 2
label_places = refl

label_absent : place_of_label 8 (Label 3 false ∷ Jump 7 ∷ Label 7 true ∷ []) ≡ 3
label_absent = refl

abbrev alone : List Instruction → Linear
alone code = linear (main code ∷ [])

abbrev verdict_of : Linear → ℕ → Verdict
verdict_of l n = verdict_at (ticks setting l n (first setting l []))

-- a value that is not there, an exception, and code without an end
no_value : verdict_of (alone (Back (9 ∷ []) ∷ [])) 1 ≡ Stuck
no_value = refl

raises : verdict_of (alone (Plain (Raise unset 12) ∷ [])) 1 ≡ Stopped 5 12
raises = refl

no_end : verdict_of (alone (Plain (Constant 0 0) ∷ [])) 2 ≡ Stuck
no_end = refl

-- an exception by two values, of the last number that there is, and of none
throws : verdict_of (alone (Plain (Constant 0 21) ∷ Plain (Constant 1 7) ∷ Plain (Throw 0 1) ∷ [])) 3 ≡ Stopped 21 7
throws = refl

throws_none : verdict_of (alone (Plain (Constant 0 22) ∷ Plain (Constant 1 7) ∷ Plain (Throw 0 1) ∷ [])) 3 ≡ Stuck
throws_none = refl

-- a guard that puts the number of an exception, which comes out of two calls
abbrev handler : Handler
handler = record { label = 0; mark = 8; to = 2 ∷ 3 ∷ [] }

abbrev guarded : (room : ℕ) → Linear
guarded room = linear (main (
    Open 8 ∷ Plain (Constant 0 5) ∷ Guarded (Take 1 0 6) handler ∷ Guarded (Call 1 [] [] 7) handler ∷ Back []
    ∷ Label 0 false ∷ Plain (Global 4 0) ∷ Plain (Store Byte 4 2) ∷ Plain (Constant 5 1) ∷ Plain (Ask 6 (PutConsole 4 5)) ∷ Back [] ∷ [])
    ∷ record { parameters = []; code = Plain (Call 2 [] [] 8) ∷ Back [] ∷ []; room = room; words = 0; depth = 0 }
    ∷ record { parameters = []; code = Plain (Raise unset 12) ∷ []; room = 50; words = 0; depth = 0 } ∷ [])

abbrev guarded_at : ℕ → Machine
guarded_at n = ticks setting (guarded 40) n (first setting (guarded 40) [])

-- the words in use, those that the activation took, and the routine
abbrev in_use : State → ℕ → ℕ × ℕ × ℕ
in_use st routine = (st.rooms, st.taken, routine)

abbrev use_at : Machine → ℕ × ℕ × ℕ
use_at (Running routine place state callers) = in_use state routine
use_at (Unwinding routine kind line state callers) = in_use state routine
use_at (Taking routine h kind line state callers) = in_use state routine
use_at (Halted verdict w) = (0, 0, 0)

before_exception : use_at (guarded_at 5) ≡ (159, 0, 2)
before_exception = refl

-- one activation a tick, whose room is handed back
first_unwound : (use_at (guarded_at 6) ≡ (159, 0, 2)) × (use_at (guarded_at 7) ≡ (109, 0, 1))
first_unwound = (refl, refl)

second_unwound : use_at (guarded_at 8) ≡ (69, 5, 0)
second_unwound = refl

-- what was taken since the guard began is handed back
taken : use_at (guarded_at 9) ≡ (64, 0, 0)
taken = refl

guarded_trace : (world_at (guarded_at 15)).trace ≡ Put 5 ∷ []
guarded_trace = refl

guarded_verdict : verdict_at (guarded_at 15) ≡ Ended
guarded_verdict = refl

-- where the room of a routine is not there, its caller has the exception
refused : (world_at (ticks setting (guarded 8388608) 11 (first setting (guarded 8388608) []))).trace ≡ Put 21 ∷ []
refused = refl

-- with no guard the exception leaves all activations
abbrev unguarded : Linear
unguarded = linear (main (Plain (Call 1 [] [] 7) ∷ Back [] ∷ []) ∷ record { parameters = []; code = Plain (Raise unset 12) ∷ []; room = 50; words = 0; depth = 0 } ∷ [])

unguarded_unwinds : (verdict_of unguarded 2 ≡ Going) × (verdict_of unguarded 3 ≡ Stopped 5 12)
unguarded_unwinds = (refl, refl)
