-- The machine of linear code and the machine keep step.
use Rattle.std.proofs.Common.{◌≡◌, inr, ℕ, zero, suc, ◌+◌, List, [], ◌∷◌, Option, Some, None, refl, arith, ap, sym, subst}
use Rattle.std.specs.Prelude.{slice_get}
use Rattle.rv_image.specs.Streams.{World, StoppedBy}
use Rattle.ir_form.specs.declared.plain.Plain.{Plain as PlainOp}
use Rattle.ir_form.specs.declared.plain.Plain.TheVariants.{Constant, Global, Heap, Frame, Text, Compute, Load, Store, Ask, Call, Raise, Throw, Take, Give}
use Rattle.ir_form.specs.Plain.{does}
use Rattle.ir_form.specs.Cost.{plain_price, unwind_price}
use Rattle.ir_form.specs.Units.{restored}
use Rattle.rv_flat.specs.Units.{head_of}
use Rattle.ir_form.specs.Place.{Setting}
use Rattle.ir_form.specs.State.{State, Verdict, Ended, Stopped, Going, Stuck, How, Next, Left, Ends, Throws, Over}
use Rattle.rv_flat.specs.declared.linear.Instruction.{Instruction}
use Rattle.rv_flat.specs.declared.linear.Instruction.TheVariants.{Plain, Guarded, Open as Opens, Branch, Within, Hand, Jump, Label, Back}
use Rattle.rv_flat.specs.declared.linear.LinearRoutine.{LinearRoutine}
use Rattle.rv_flat.specs.declared.linear.Linear.{Linear}
use Rattle.rv_frames.specs.Frames.{Caller, Machine, Running, Unwinding, Taking, Halted, no_calls, goes_on, goes_on_run, ends_so, ends_run, unwinds, tick_price, instruction_price, operates, executes, executes_at, executes_in, all_kept, tick, ticks, price_of, price_in, price_at, spent}
use Rattle.rv_frames.specs.InStep.{IsOverSo, StandsAs}
use Rattle.rv_runs.specs.Moments.{Ground, Moment, Finished, later, Comes}
use Rattle.rv_runs.proofs.Comes.{done, widen, comes_then}
use Rattle.rv_layout.specs.Rooms.{head_at}
use Rattle.rv_layout.specs.Ready.{IsReadyCode}
use Rattle.rv_layout.specs.Held.{Layout, Laid, LiveAt, IsOver, NoGuards, Same}
use Rattle.rv_layout.proofs.Begins.{Sane}
use Rattle.rv_layout.proofs.Plainly.{constant_lock, global_lock, heap_lock, frame_lock, text_lock, compute_lock, load_lock, store_lock}
use Rattle.rv_layout.proofs.Flow.{leaves_so, raise_lock, throw_lock, label_lock, jump_lock, branch_lock, within_lock}
use Rattle.rv_layout.proofs.Asks.{ask_lock}
use Rattle.rv_layout.proofs.Hands.{hand_lock}
use Rattle.rv_layout.proofs.Returns.{back_lock}
use Rattle.rv_layout.proofs.Callable.{callable_of}
use Rattle.rv_layout.proofs.Calls.{call_lock}
use Rattle.rv_layout.proofs.Arrays.{take_lock, give_lock}
use Rattle.rv_layout.proofs.Known.{sane}

module _ (g : Ground) (gs : Setting) (l : Linear) (y : Layout) (laid : Laid g gs l y) (globals : gs.globals ≡ l.globals) (ready : IsReadyCode l) where
  module _ (k i : ℕ) (r : LinearRoutine) (here : slice_get l.routines k ≡ Some r) (callers : List Caller) (st : State) (c : Moment) (is : LiveAt g gs l y k i (head_at l.routines k) st callers c) where
    -- no exception is taken
    ends_as : (how : How) (su : State) → ends_so gs l k (i + 1) None callers how su ≡ goes_on k (i + 1) callers how su
    ends_as Next su = refl
    ends_as (Left loops ws) su = refl
    ends_as (Ends ws) su = refl
    ends_as (Throws kind line) su = refl
    ends_as (Over verdict) su = refl

    quiet : (p : PlainOp) → Comes g 1 (plain_price p) c (Same g gs l y (goes_on_run k (i + 1) callers (does gs no_calls p st 0))) → Comes g 1 (plain_price p) c (Same g gs l y (ends_run gs l k (i + 1) None callers (does gs no_calls p st 0)))
    quiet p h = let run = does gs no_calls p st 0 in subst (λ m. Comes g 1 (plain_price p) c (Same g gs l y m)) (sym (ends_as run.how run.state)) h

    -- an operation, and an instruction
    plain_lock : (p : PlainOp) → slice_get r.code i ≡ Some (Plain p) → Sane l r (Plain p) → Comes g 1 (tick_price p) c (Same g gs l y (operates gs l k (i + 1) None callers p st))
    plain_lock (Constant x w) at ok = quiet (Constant x w) (constant_lock g gs l y laid globals k i r here callers x w st c at ok is)
    plain_lock (Global x w) at ok = quiet (Global x w) (global_lock g gs l y laid globals k i r here callers x w st c at ok is)
    plain_lock (Heap x) at ok = quiet (Heap x) (heap_lock g gs l y laid globals k i r here callers x st c at ok is)
    plain_lock (Frame x w) at ok = quiet (Frame x w) (frame_lock g gs l y laid globals k i r here callers x w st c at ok is)
    plain_lock (Text x b) at ok = quiet (Text x b) (text_lock g gs l y laid globals k i r here callers x b st c at ok is)
    plain_lock (Compute x op a b) at ok = quiet (Compute x op a b) (compute_lock g gs l y laid globals k i r here callers x op a b st c at ok is)
    plain_lock (Load x width a) at ok = quiet (Load x width a) (load_lock g gs l y laid globals k i r here callers x width a st c at ok is)
    plain_lock (Store width a b) at ok = quiet (Store width a b) (store_lock g gs l y laid globals k i r here callers width a b st c at ok is)
    plain_lock (Ask x s) at ok = quiet (Ask x s) (ask_lock g gs l y laid k i r here callers s x st c at ok is)
    plain_lock (Call callee arguments to line) at ok = call_lock g gs l y laid k i r here callers callee arguments to line st c (callable_of l ready) at ok is
    plain_lock (Raise kind line) at ok = quiet (Raise kind line) (raise_lock g gs l y laid k i r here callers kind line st c at ok is)
    plain_lock (Throw a b) at ok = quiet (Throw a b) (throw_lock g gs l y laid k i r here callers a b st c at ok is)
    plain_lock (Take x words line) at ok = quiet (Take x words line) (take_lock g gs l y laid k i r here callers x words line st c at ok is)
    plain_lock (Give words) at ok = quiet (Give words) (give_lock g gs l y laid k i r here callers words st c at ok is)

    one_lock : (x : Instruction) → slice_get r.code i ≡ Some x → Sane l r x → Comes g 1 (instruction_price x) c (Same g gs l y (executes gs l r k i callers x st))
    one_lock (Plain p) at ok = plain_lock p at ok
    one_lock (Guarded p handler) at ok = absurd (ok.unguarded)
    one_lock (Opens mark) at ok = absurd (ok.unguarded)
    one_lock (Branch relation a b label) at ok = branch_lock g gs l y laid k i r here callers relation a b label st c at ok is
    one_lock (Within value range label) at ok = within_lock g gs l y laid k i r here callers value range label st c at ok is
    one_lock (Hand to from) at ok = hand_lock g gs l y laid k i r here callers to from st c at ok is
    one_lock (Jump label) at ok = jump_lock g gs l y laid k i r here callers label st c at ok is
    one_lock (Label label marked) at ok = label_lock g gs l y laid k i r here callers label marked st c at ok is
    one_lock (Back values) at ok = back_lock g gs l y laid k i r here callers values st c at is

    code_lock : (o : Option Instruction) → slice_get r.code i ≡ o → Comes g 1 (price_of o) c (Same g gs l y (executes_at gs l r k i callers o st))
    code_lock None at = record { count = 1; low = omega arith; high = omega arith; there = tt }
    code_lock (Some x) at = one_lock x at (sane l ready k i r x here at)

  routine_lock : (k i : ℕ) (callers : List Caller) (st : State) (c : Moment) → LiveAt g gs l y k i (head_at l.routines k) st callers c → (o : Option LinearRoutine) → slice_get l.routines k ≡ o → Comes g 1 (price_in o i) c (Same g gs l y (executes_in gs l o k i callers st))
  routine_lock k i callers st c is None here = record { count = 1; low = omega arith; high = omega arith; there = tt }
  routine_lock k i callers st c is (Some r) here = code_lock k i r here callers st c is (slice_get r.code i) refl

  -- what is over stays over
  over_lock : (verdict : Verdict) (w : World) (x : Moment) → IsOver verdict w x → IsOver verdict w (later g 1 x)
  over_lock Ended w x h = ap (later g 1) h
  over_lock (Stopped kind line) w x h = ap (later g 1) h
  over_lock Going w x h = tt
  over_lock Stuck w x h = tt

  -- the program was stopped as the exception was raised, and no caller takes it
  stopped_lock : (kind line : ℕ) (w : World) (x : Moment) → x ≡ Finished (StoppedBy kind line) w → later g 1 x ≡ Finished (StoppedBy kind line) w
  stopped_lock kind line w x h = ap (later g 1) h

  unwinds_lock : (o : Option LinearRoutine) (kind line : ℕ) (st : State) (callers : List Caller) (x : Moment) → x ≡ Finished (StoppedBy kind line) (all_kept st.world) → NoGuards callers → Comes g 1 unwind_price x (Same g gs l y (unwinds gs l o kind line st callers))
  unwinds_lock o kind line st [] x h none = record { count = 1; low = omega arith; high = omega arith; there = tt }
  unwinds_lock None kind line st (f ∷ callers) x h none = record { count = 1; low = omega arith; high = omega arith; there = tt }
  unwinds_lock (Some r) kind line st (f ∷ callers) x h none = record {
    count = 1;
    low = omega arith;
    high = omega arith;
    there = rw none.0 (leaves_so g gs l y f.routine kind line (restored (head_of r) f.state st) callers (later g 1 x) none.1 (stopped_lock kind line (all_kept st.world) x h));
  }

  tick_lock : (m : Machine) (x : Moment) → Same g gs l y m x → Comes g 1 (price_at l m) x (Same g gs l y (tick gs l m))
  tick_lock (Running k i st callers) x h = routine_lock k i callers st x h (slice_get l.routines k) refl
  tick_lock (Unwinding k kind line st callers) x h = unwinds_lock (slice_get l.routines k) kind line st callers x h.0 h.1
  tick_lock (Taking k handler kind line st callers) x h = absurd h
  tick_lock (Halted verdict w) x h = record { count = 1; low = omega arith; high = omega arith; there = over_lock verdict w x h }

  -- so many ticks
  pub ticks_lock : (n : ℕ) (m : Machine) (x : Moment) → Same g gs l y m x → Comes g n (spent gs l n m) x (Same g gs l y (ticks gs l n m))
  ticks_lock zero m x h = done g x (Same g gs l y m) h
  ticks_lock (suc n) m x h =
      widen g (1 + n) (price_at l m + spent gs l n (tick gs l m)) (suc n) (price_at l m + spent gs l n (tick gs l m)) x _
      (comes_then g 1 (price_at l m) n (spent gs l n (tick gs l m)) x (Same g gs l y (tick gs l m)) (Same g gs l y (ticks gs l n (tick gs l m))) (tick_lock m x h) (λ z e. ticks_lock n (tick gs l m) z e))
      (omega arith) (omega arith)

  -- where both stand in the same way
  over_so : (verdict : Verdict) (w : World) (x : Moment) → IsOver verdict w x → IsOverSo verdict w x
  over_so Ended w x h = h
  over_so (Stopped kind line) w x h = h
  over_so Going w x h = tt
  over_so Stuck w x h = tt

  pub stands_as : (m : Machine) (x : Moment) → Same g gs l y m x → StandsAs m x
  stands_as (Running k i st callers) x h = record { cpu = h.cpu; is = h.is }
  stands_as (Unwinding k kind line st callers) x h = inr h.0
  stands_as (Taking k handler kind line st callers) x h = absurd h
  stands_as (Halted verdict w) x h = over_so verdict w x h
