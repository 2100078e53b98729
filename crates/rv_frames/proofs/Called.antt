-- The machine follows a call, where it follows what the called routine does.
use Rattle.std.proofs.Common.{◌≡◌, inl, ℕ, zero, suc, ◌+◌, ◌-◌, ◌≤◌, List, ◌∷◌, ap, ◌∙◌, Option, Some, None, Bool, true, false, refl, arith}
use Rattle.std.specs.Prelude.{if◌then◌else◌, nat_le, slice_get}
use Rattle.ir_form.specs.Place.{Setting}
use Rattle.ir_form.specs.State.{Env, State, Going, How, Next, Left, Ends, Throws, Over, Run, next, raised, on_run, needs, words_of, bound, binds, turn_from}
use Rattle.ir_form.specs.Plain.{Calls, most_rooms, storage}
use Rattle.ir_form.specs.Units.{Head, no_values, opened, takes_room, enters_at, enters, restored, returned, returned_run}
use Rattle.rv_flat.specs.declared.linear.LinearRoutine.{LinearRoutine}
use Rattle.rv_flat.specs.Linear.{run_code}
use Rattle.rv_flat.specs.Units.{head_of, calls_to}
use Rattle.rv_frames.specs.Frames.{Caller, Machine, Running, wants, goes_on_run, begins_run, raises, unwinds, Unwinding, makes_room, arrives, calls, tick, ticks, price_at, spent}
use Rattle.ir_form.specs.Cost.{unwind_price}
use Rattle.rv_flat.specs.declared.linear.Handler.{Handler}
use Rattle.rv_flat.specs.declared.linear.Linear.{Linear}
use Rattle.rv_frames.proofs.Ticks.{ticks_add, spent_add}
use Rattle.rv_frames.proofs.Reaches.{bare, Paid, Returned, Behind, Follows, kept, step, last, at_once}

-- what an activation does is followed, whoever called it
abbrev pub BodyFollows : Setting → Linear → (callee : ℕ) → Head → (State → ℕ → Run) → Type 0
BodyFollows g l callee h body = (callers : List Caller) (st : State) (c : ℕ) → Follows g l (Returned callee h callers) (Running callee 0 (bare st) callers) c st (body st c)

abbrev pub by : (routine place : ℕ) → List ℕ → Option Handler → State → Caller
by routine place to guard st = record { routine = routine; place = place; to = to; guard = guard; state = bare st }

-- the end of an activation, where the price of unwinding it is still there
module _ (g : Setting) (l : Linear) (routine place : ℕ) (guard : Option Handler) (callers : List Caller) (callee : ℕ) (r : LinearRoutine) (found : slice_get l.routines callee ≡ Some r) (to : List ℕ) (st : State) (n : Machine) (c d : ℕ) (paid_for : d + unwind_price ≤ c) (sv : State) where
  abbrev h : Head
  h = head_of r

  gives_back : (o : Option Env) (su : State) (q count : ℕ) →
      ticks g l count n ≡ goes_on_run routine place callers (needs o (restored h (bare st) (bare su)) 0 (λ env. next (record (restored h (bare st) (bare su)) { env = env }) 0)) →
      spent g l count n + c ≤ q → Paid count sv su → Follows g l (Behind g l routine place guard callers) n d sv (needs o (restored h st su) q (λ env. next (record (restored h st su) { env = env }) q))
  gives_back None su q count t le p = λ fine. absurd fine
  gives_back (Some env) su q count t le p = λ fine. record { count = count; there = t; cost = omega arith; paid = record { turns = p.turns; others = p.others } }

  -- the exception goes on to the caller, in a tick more
  pub goes_back : (how : How) (su : State) (q : ℕ) → Follows g l (Returned callee h (by routine place to guard st ∷ callers)) n c sv (record { how = how; state = su; cost = q }) →
      Follows g l (Behind g l routine place guard callers) n d sv (returned h to st how su q)
  goes_back Next su q f = λ fine. absurd fine
  goes_back (Left loops ws) su q f = λ fine. absurd fine
  goes_back (Ends ws) su q f = let x = f tt in gives_back (bound to ws st.env) su q x.count x.there x.cost x.paid
  goes_back (Throws kind line) su q f = λ fine.
      let x = f tt in
      let all = by routine place to guard st ∷ callers in
      let one : tick g l (Unwinding callee kind line (bare su) all) ≡ raises g l routine guard kind line (bare (restored h st su)) callers = ap (λ o. unwinds g l o kind line (bare su) all) found in
      let s = spent_add g l x.count 1 n in
      let e : price_at l (ticks g l x.count n) ≡ unwind_price = ap (price_at l) x.there in
      let y = x.cost in
      record {
        count = x.count + 1;
        there = ticks_add g l x.count 1 n ∙ (ap (tick g l) x.there ∙ one);
        cost = omega arith;
        paid = record { turns = (let p = x.paid.turns in omega arith); others = (let p = x.paid.others in omega arith) };
      }
  goes_back (Over verdict) su q f = λ fine. let x = f fine in let y = x.cost in record { count = x.count; there = x.there; cost = omega arith; paid = x.paid }

module _ (g : Setting) (l : Linear) (routine pc place : ℕ) (guard : Option Handler) (callers : List Caller) (to : List ℕ) (line : ℕ) (st : State) (m : Machine) (c e : ℕ) (at : m ≡ Running routine pc (bare st) callers) (le : price_at l m + unwind_price + c ≤ e) (callee : ℕ) where
  abbrev P : How → State → Machine → Type 0
  P = Behind g l routine place guard callers

  abbrev Goal : Run → Type 0
  Goal r = Follows g l P m c st r

  abbrev caller : Caller
  caller = by routine place to guard st

  module _ (r : LinearRoutine) (found : slice_get l.routines callee ≡ Some r) (body : State → ℕ → Run) (b : BodyFollows g l callee (head_of r) body) where
    abbrev new : Head
    new = head_of r

    -- the callee's parameters have their words, if these are as many
    runs_body : (o : Option Env) (su : State) → Paid 1 st su →
        tick g l m ≡ begins_run g l callee caller callers (needs o (bare su) 0 (λ env. next (record (bare su) { env = env }) 0)) →
        Goal (on_run (needs o su e (λ env. next (record su { env = env }) e)) (λ sv i. returned_run new to st (body sv i)))
    runs_body None su p t = λ fine. absurd fine
    runs_body (Some env) su p t =
        let sv : State = record su { env = env } in
        let x = body sv e in
        let d : ℕ = e - unwind_price in
        step g l P m (Running callee 0 (bare sv) (caller ∷ callers)) c d st sv _ t (omega arith) (record { turns = p.turns; others = p.others })
        (goes_back g l routine place guard callers callee r found to st (Running callee 0 (bare sv) (caller ∷ callers)) e d (omega arith) sv x.how x.state x.cost (b (caller ∷ callers) sv e))

    -- its room is there, or is not
    takes_it : (ws : List ℕ) (yes_room : Bool) (su : State) → Paid 1 st su → su.world ≡ st.world →
        tick g l m ≡ begins_run g l callee caller callers (on_run (if yes_room then next (opened g new (record (bare su) { rooms = su.rooms + new.room })) 0 else raised storage line (bare su) 0) (binds new.parameters ws)) →
        Goal (on_run (if yes_room then next (opened g new (record su { rooms = su.rooms + new.room })) e else raised storage line su e) (λ sv k. on_run (binds new.parameters ws sv k) (λ sw i. returned_run new to st (body sw i))))
    takes_it ws true su p w t = runs_body (bound new.parameters ws no_values) (opened g new (record su { rooms = su.rooms + new.room })) (record { turns = p.turns; others = p.others }) t
    takes_it ws false su p w t = last g l P m _ c e st su (Throws storage line) t (omega arith) p refl

    turns_to : (ws : List ℕ) (t : ℕ) → st.turns ≡ t →
        tick g l m ≡ begins_run g l callee caller callers (on_run (takes_room g new line (bare st) 0) (binds new.parameters ws)) →
        Goal (on_run (on_run (turn_from t st e) (takes_room g new line)) (λ sv k. on_run (binds new.parameters ws sv k) (λ sw i. returned_run new to st (body sw i))))
    turns_to ws zero none t = at_once g l P m c e st (Over Going) (omega arith) (record { routine = routine; place = pc; callers = callers; is = at; none = inl none })
    turns_to ws (suc n) one t = takes_it ws (nat_le (st.rooms + new.room) most_rooms) (record st { turns = n }) (record { turns = omega arith; others = omega arith }) refl t

    comes_in : (ws : List ℕ) (depth : ℕ) →
        tick g l m ≡ begins_run g l callee caller callers (on_run (makes_room depth g new line (bare st) 0) (binds new.parameters ws)) →
        Goal (on_run (enters_at depth g new line st e) (λ sv k. on_run (binds new.parameters ws sv k) (λ sw i. returned_run new to st (body sw i))))
    comes_in ws zero t = turns_to ws st.turns refl t
    comes_in ws (suc depth) t = runs_body (bound new.parameters ws no_values) (opened g new (record st { deeper = st.deeper + new.room })) (kept 1 st _ refl refl) t

    has_words : (o : Option (List ℕ)) →
        tick g l m ≡ wants o (bare st) (λ ws. begins_run g l callee caller callers (arrives g new ws line (bare st))) →
        Goal (needs o st e (λ ws. on_run (enters g new line st e) (λ su k. on_run (binds new.parameters ws su k) (λ sv i. returned_run new to st (body sv i)))))
    has_words None t = λ fine. absurd fine
    has_words (Some ws) t = comes_in ws new.depth t

  pub call_follows : (inner : Calls) (arguments : List ℕ) (o : Option LinearRoutine) → slice_get l.routines callee ≡ o → ((r : LinearRoutine) → o ≡ Some r → BodyFollows g l callee (head_of r) (run_code g inner r.code)) →
      tick g l m ≡ calls g l callee o caller callers arguments line (bare st) → Goal (calls_to g inner o arguments to line st e)
  call_follows inner arguments None found f t = λ fine. absurd fine
  call_follows inner arguments (Some r) found f t = has_words r found (run_code g inner r.code) (f r refl) (words_of st.env arguments) t
