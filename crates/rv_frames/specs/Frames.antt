-- A machine that runs linear code one instruction after the other, over the callers of the routine that runs.
use Rattle.std.specs.Prelude.{ℕ, zero, suc, ◌+◌, ◌-◌, List, [], ◌∷◌, Option, Some, None, if◌then◌else◌, slice_get}
use Rattle.rv_isa.specs.Arithmetic.{holds, signed_of}
use Rattle.rv_image.specs.Streams.{World, start_world, traced, kept}
use Rattle.ir_form.specs.declared.plain.Plain.{Plain as PlainOp}
use Rattle.ir_form.specs.declared.plain.Plain.TheVariants.{Call}
use Rattle.ir_form.specs.Place.{Setting}
use Rattle.ir_form.specs.State.{State, Verdict, Ended, Stopped, Stuck, How, Next, Left, Ends, Throws, Over, Run, next, over, on_run, words_of, binds}
use Rattle.ir_form.specs.Plain.{Calls, does}
use Rattle.ir_form.specs.Meaning.{hands, is_in, opens, takes_up}
use Rattle.ir_form.specs.Units.{Head, opened, takes_room, restored, start}
use Rattle.rv_flat.specs.declared.linear.Instruction.{Instruction}
use Rattle.rv_flat.specs.declared.linear.Handler.{Handler}
use Rattle.rv_flat.specs.declared.linear.Instruction.TheVariants.{Plain, Guarded, Open, Branch, Within, Hand, Jump, Label, Back}
use Rattle.rv_flat.specs.declared.linear.LinearRoutine.{LinearRoutine}
use Rattle.rv_flat.specs.declared.linear.Linear.{Linear}
use Rattle.ir_form.specs.Cost.{plain_price, unwind_price, guard_price}
use Rattle.rv_flat.specs.Flow.{place_of_label}
use Rattle.rv_flat.specs.Linear.{price}
use Rattle.rv_flat.specs.Units.{head_of}

-- Where a caller goes on: its routine, the place behind its call, the values that take the results, what takes an exception of the call, and its
-- state as it was at the call. Of this state it has the values, rooms, deeper words, frame, run-time arrays and marks back.
pub record Caller : Type 0 where
  pub routine : ℕ
  pub place : ℕ
  pub to : List ℕ
  pub guard : Option Handler
  pub state : State

-- A routine runs, whose next instruction stands at a place of its code, with its callers, the newest first. Or the program is over, and never
-- with Going. Turns and other rounds play no part in what the machine does.
pub data Machine : Type 0 where
  Running : (routine place : ℕ) → (state : State) → (callers : List Caller) → Machine
  -- an exception leaves an activation of a routine, which had come to this state
  Unwinding : (routine : ℕ) → (kind line : ℕ) → (state : State) → (callers : List Caller) → Machine
  -- an exception is about to be taken in an activation of a routine
  Taking : (routine : ℕ) → (handler : Handler) → (kind line : ℕ) → (state : State) → (callers : List Caller) → Machine
  Halted : (verdict : Verdict) → (world : World) → Machine

abbrev pub stuck : State → Machine
stuck st = Halted Stuck st.world

-- the open streams are kept where the program is over
abbrev pub all_kept : World → World
all_kept w = traced w (kept w.streams)

-- what must be there, or the machine is stuck
abbrev pub wants : {A : Type 0} → Option A → State → (A → Machine) → Machine
wants None st go = stuck st
wants (Some v) st go = go v

-- an exception leaves the activation, and where that is the main program's, it stops the program
abbrev pub leaves : (routine : ℕ) → (kind line : ℕ) → State → List Caller → Machine
leaves routine kind line st [] = Halted (Stopped kind line) (all_kept st.world)
leaves routine kind line st (f ∷ callers) = Unwinding routine kind line st (f ∷ callers)

-- operations have ended so, and what follows them stands there
abbrev pub goes_on : (routine place : ℕ) → List Caller → How → State → Machine
goes_on routine place callers Next st = Running routine place st callers
goes_on routine place callers (Left loops ws) st = stuck st
goes_on routine place callers (Ends ws) st = stuck st
goes_on routine place callers (Throws kind line) st = leaves routine kind line st callers
goes_on routine place callers (Over verdict) st = Halted verdict st.world

abbrev pub goes_on_run : (routine place : ℕ) → List Caller → Run → Machine
goes_on_run routine place callers r = goes_on routine place callers r.how r.state

-- the place of a label in a routine, if that is there
abbrev pub label_in : Option LinearRoutine → ℕ → ℕ
label_in None label = 0
label_in (Some r) label = place_of_label label r.code

-- an exception at a place of a routine is taken there, or leaves the activation
abbrev pub raises : Setting → Linear → (routine : ℕ) → Option Handler → (kind line : ℕ) → State → List Caller → Machine
raises g l routine None kind line st callers = leaves routine kind line st callers
raises g l routine (Some h) kind line st callers = Taking routine h kind line st callers

-- as goes_on, with what takes an exception
abbrev pub ends_so : Setting → Linear → (routine place : ℕ) → Option Handler → List Caller → How → State → Machine
ends_so g l routine place guard callers Next st = Running routine place st callers
ends_so g l routine place guard callers (Left loops ws) st = stuck st
ends_so g l routine place guard callers (Ends ws) st = stuck st
ends_so g l routine place guard callers (Throws kind line) st = raises g l routine guard kind line st callers
ends_so g l routine place guard callers (Over verdict) st = Halted verdict st.world

abbrev pub ends_run : Setting → Linear → (routine place : ℕ) → Option Handler → List Caller → Run → Machine
ends_run g l routine place guard callers r = ends_so g l routine place guard callers r.how r.state

-- A call of a routine of depth 0 needs its room, and a deeper one takes it without a test.
abbrev pub makes_room : ℕ → Setting → Head → ℕ → State → ℕ → Run
makes_room zero g h line st c = takes_room g h line st c
makes_room (suc depth) g h line st c = next (opened g h (record st { deeper = st.deeper + h.room })) c

-- a new activation, whose parameters have these words
abbrev pub arrives : Setting → Head → List ℕ → ℕ → State → Run
arrives g h ws line st = on_run (makes_room h.depth g h line st 0) (binds h.parameters ws)

-- a call has come to its routine, or the caller has an exception
abbrev pub begins_call : Setting → Linear → (routine : ℕ) → Caller → List Caller → How → State → Machine
begins_call g l routine f callers Next st = Running routine 0 st (f ∷ callers)
begins_call g l routine f callers (Left loops ws) st = stuck st
begins_call g l routine f callers (Ends ws) st = stuck st
begins_call g l routine f callers (Throws kind line) st = raises g l f.routine f.guard kind line st callers
begins_call g l routine f callers (Over verdict) st = Halted verdict st.world

abbrev pub begins_run : Setting → Linear → (routine : ℕ) → Caller → List Caller → Run → Machine
begins_run g l routine f callers r = begins_call g l routine f callers r.how r.state

-- a call of the routine of this number, if it is there, by a caller
abbrev pub calls : Setting → Linear → (routine : ℕ) → Option LinearRoutine → Caller → List Caller → (arguments : List ℕ) → (line : ℕ) → State → Machine
calls g l routine None f callers arguments line st = stuck st
calls g l routine (Some r) f callers arguments line st = wants (words_of st.env arguments) st (λ ws. begins_run g l routine f callers (arrives g (head_of r) ws line st))

-- the end of an activation gives words to the newest caller, and that of the main program ends all
abbrev pub returns : Head → List Caller → List ℕ → State → Machine
returns h [] ws st = Halted Ended (all_kept st.world)
returns h (f ∷ callers) ws st = goes_on_run f.routine f.place callers (binds f.to ws (restored h f.state st) 0)

abbrev pub no_calls : Calls
no_calls routine arguments to line st c = over Stuck st c

-- an operation, with what follows it at this place, and what takes its exception
abbrev pub operates : Setting → Linear → (routine place : ℕ) → Option Handler → List Caller → PlainOp → State → Machine
operates g l routine place guard callers (Call callee arguments to line) st =
    calls g l callee (slice_get l.routines callee) (record { routine = routine; place = place; to = to; guard = guard; state = st }) callers arguments line st
operates g l routine place guard callers p st = ends_run g l routine place guard callers (does g no_calls p st 0)

-- what the instruction at a place of a routine does
abbrev pub executes : Setting → Linear → LinearRoutine → (routine place : ℕ) → List Caller → Instruction → State → Machine
executes g l r routine place callers (Plain p) st = operates g l routine (place + 1) None callers p st
executes g l r routine place callers (Guarded p h) st = operates g l routine (place + 1) (Some h) callers p st
executes g l r routine place callers (Open mark) st = Running routine (place + 1) (opens mark st) callers
executes g l r routine place callers (Branch relation left right label) st =
    wants (st.env left) st (λ v. wants (st.env right) st (λ w. Running routine (if holds relation v w then place + 1 else place_of_label label r.code) st callers))
executes g l r routine place callers (Within value range label) st =
    wants (st.env value) st (λ v. Running routine (if is_in (signed_of v) range then place_of_label label r.code else place + 1) st callers)
executes g l r routine place callers (Hand to from) st = goes_on_run routine (place + 1) callers (hands to from st 0)
executes g l r routine place callers (Jump label) st = Running routine (place_of_label label r.code) st callers
executes g l r routine place callers (Label label marked) st = Running routine (place + 1) st callers
executes g l r routine place callers (Back values) st = wants (words_of st.env values) st (λ ws. returns (head_of r) callers ws st)

-- behind the end of the code the machine is stuck
abbrev pub executes_at : Setting → Linear → LinearRoutine → (routine place : ℕ) → List Caller → Option Instruction → State → Machine
executes_at g l r routine place callers None st = stuck st
executes_at g l r routine place callers (Some i) st = executes g l r routine place callers i st

abbrev pub executes_in : Setting → Linear → Option LinearRoutine → (routine place : ℕ) → List Caller → State → Machine
executes_in g l None routine place callers st = stuck st
executes_in g l (Some r) routine place callers st = executes_at g l r routine place callers (slice_get r.code place) st

-- the next caller has the exception
abbrev pub unwinds : Setting → Linear → Option LinearRoutine → (kind line : ℕ) → State → List Caller → Machine
unwinds g l o kind line st [] = stuck st
unwinds g l None kind line st (f ∷ callers) = stuck st
unwinds g l (Some r) kind line st (f ∷ callers) = raises g l f.routine f.guard kind line (restored (head_of r) f.state st) callers

-- one instruction, or one activation that an exception leaves
abbrev pub tick : Setting → Linear → Machine → Machine
tick g l (Running routine place st callers) = executes_in g l (slice_get l.routines routine) routine place callers st
tick g l (Unwinding routine kind line st callers) = unwinds g l (slice_get l.routines routine) kind line st callers
tick g l (Taking routine h kind line st callers) =
    goes_on_run routine (label_in (slice_get l.routines routine) h.label) callers (takes_up g h.mark h.to kind line st 0)
tick g l (Halted verdict w) = Halted verdict w

-- so many instructions
abbrev pub ticks : Setting → Linear → ℕ → Machine → Machine
ticks g l zero m = m
ticks g l (suc n) m = ticks g l n (tick g l m)

-- what the next tick costs, which is at least 1; a call's price has that of unwinding in it
abbrev pub tick_price : PlainOp → ℕ
tick_price (Call routine arguments to line) = plain_price (Call routine arguments to line) - unwind_price
tick_price p = plain_price p

abbrev pub instruction_price : Instruction → ℕ
instruction_price (Plain p) = tick_price p
instruction_price (Guarded p h) = tick_price p
instruction_price i = price i

abbrev pub price_of : Option Instruction → ℕ
price_of None = 1
price_of (Some i) = instruction_price i

abbrev pub price_in : Option LinearRoutine → ℕ → ℕ
price_in None place = 1
price_in (Some r) place = price_of (slice_get r.code place)

abbrev pub price_at : Linear → Machine → ℕ
price_at l (Running routine place st callers) = price_in (slice_get l.routines routine) place
price_at l (Unwinding routine kind line st callers) = unwind_price
price_at l (Taking routine h kind line st callers) = guard_price
price_at l (Halted verdict w) = 1

-- what so many ticks cost
abbrev pub spent : Setting → Linear → ℕ → Machine → ℕ
spent g l zero m = 0
spent g l (suc n) m = price_at l m + spent g l n (tick g l m)

-- where the main program begins
abbrev pub begins_main : Setting → Linear → Option LinearRoutine → List ℕ → Machine
begins_main g l None input = Halted Stuck (start_world input)
begins_main g l (Some r) input = Running l.main 0 (start g (head_of r) l.texts input 0 0) []

abbrev pub first : Setting → Linear → List ℕ → Machine
first g l input = begins_main g l (slice_get l.routines l.main) input

-- what the machine has done where others can see it, and how it stands
abbrev pub world_at : Machine → World
world_at (Running routine place st callers) = st.world
world_at (Unwinding routine kind line st callers) = st.world
world_at (Taking routine h kind line st callers) = st.world
world_at (Halted verdict w) = w
