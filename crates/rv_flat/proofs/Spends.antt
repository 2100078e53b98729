-- The turns and other rounds that begin in linear code are paid for.
use Rattle.std.proofs.Common.{ℕ, zero, suc, ◌+◌, ◌*◌, ◌≤◌, List, [], ◌∷◌, length, Option, Some, None, Bool, true, false, refl, sym, subst, arith}
use Rattle.std.specs.Prelude.{if◌then◌else◌, ◌==◌, slice_get}
use Rattle.rv_image.specs.Streams.{Folder}
use Rattle.rv_isa.specs.Arithmetic.{holds, signed_of}
use Rattle.ir_form.specs.Place.{Place, Setting}
use Rattle.ir_form.specs.State.{State, How, Next, Left, Ends, Throws, Over, Run, words_of, begins, begun}
use Rattle.ir_form.specs.Cost.{range_price, guard_price}
use Rattle.ir_form.specs.Plain.{Calls, act}
use Rattle.ir_form.specs.Meaning.{hands, is_in, opens, takes_up}
use Rattle.ir_form.specs.Units.{start, setting_of}
use Rattle.ir_form.proofs.Spends.{IsUsedUp, Spends, CallsSpend, GoesOn, GoesOnAfter, Covered, covered, stays, begins_spend, act_spends, takes_up_spends, hands_spend, called_spends, meant_cost, meant_paid}
use Rattle.rv_flat.specs.declared.linear.Instruction.{Instruction}
use Rattle.rv_flat.specs.declared.linear.Instruction.TheVariants.{Plain, Guarded, Open, Branch, Within, Hand, Jump, Label, Back}
use Rattle.rv_flat.specs.declared.linear.Handler.{Handler}
use Rattle.rv_flat.specs.declared.linear.LinearRoutine.{LinearRoutine}
use Rattle.rv_flat.specs.declared.linear.Linear.{Linear}
use Rattle.rv_flat.specs.Linear.{Config, At, Seek, Done, config, wants, open_price, seek_how, handled, do_one, pass_one, one, sweep, finish, run_code}
use Rattle.rv_flat.specs.Units.{head_of, calls_to, calls_within, runs_main, linear_run, linear_meaning, IsPaidWhereGoing}

-- what a configuration leaves, as a run
abbrev run_at : Config → Run
run_at (At st c) = record { how = Next; state = st; cost = c }
run_at (Seek again label st c) = record { how = Next; state = st; cost = c }
run_at (Done how st c) = record { how = how; state = st; cost = c }

abbrev SpendsAt : State → ℕ → Config → Type 0
SpendsAt st c k = Spends st c (run_at k)

abbrev UsesUp : Config → Type 0
UsesUp k = IsUsedUp (run_at k).how (run_at k).state

config_spends : (how : How) (st su : State) (c e : ℕ) → Spends st c (record { how = how; state = su; cost = e }) → SpendsAt st c (config how su e)
config_spends Next st su c e h = h
config_spends (Left k ws) st su c e h = h
config_spends (Ends ws) st su c e h = h
config_spends (Throws kind line) st su c e h = h
config_spends (Over v) st su c e h = h

wants_spends : {A : Type 0} (o : Option A) (st : State) (c e : ℕ) (go : A → Config) → c ≤ e → ((v : A) → SpendsAt st c (go v)) → SpendsAt st c (wants o st e go)
wants_spends None st c e go le h = stays _ st st c e refl refl tt le
wants_spends (Some v) st c e go le h = h v

either_spends : (b : Bool) (st : State) (c : ℕ) (x y : Config) → SpendsAt st c x → SpendsAt st c y → SpendsAt st c (if b then x else y)
either_spends true st c x y h k = h
either_spends false st c x y h k = k

seek_how_spends : (label : ℕ) (how : How) (st su : State) (c e : ℕ) → Spends st c (record { how = how; state = su; cost = e }) → SpendsAt st c (seek_how label how su e)
seek_how_spends label Next st su c e h = h
seek_how_spends label (Left k ws) st su c e h = h
seek_how_spends label (Ends ws) st su c e h = h
seek_how_spends label (Throws kind line) st su c e h = h
seek_how_spends label (Over v) st su c e h = h

-- so far, and from there on
more : (st : State) (c : ℕ) (r s : Run) → Spends st c r → Spends r.state r.cost s → Spends st c s
more st c r s h k = let t = h.turns in let o = h.others in let p = h.paid in let a = k.turns in let b = k.others in let d = k.paid in record { turns = omega arith; others = omega arith; paid = omega arith; used = k.used }

handled_spends : (g : Setting) (t : Handler) (how : How) (st su : State) (c e : ℕ) → Spends st c (record { how = how; state = su; cost = e }) → SpendsAt st c (handled g t how su e)
handled_spends g t Next st su c e h = h
handled_spends g t (Left k ws) st su c e h = h
handled_spends g t (Ends ws) st su c e h = h
handled_spends g t (Throws kind line) st su c e h =
    let r = takes_up g t.mark t.to kind line su (e + guard_price) in
    seek_how_spends t.label r.how st r.state c r.cost (more st c (record { how = Throws kind line; state = su; cost = e }) r h (takes_up_spends g t.mark t.to kind line su e (e + guard_price) (omega arith)))
handled_spends g t (Over v) st su c e h = h

here_spends : (g : Setting) (calls : Calls) → CallsSpend calls → (i : Instruction) (st : State) (c e : ℕ) → c ≤ e → SpendsAt st c (do_one g calls i st e)
here_spends g calls h (Plain p) st c e le = let r = act g calls p st e in config_spends r.how st r.state c r.cost (act_spends g calls h p st c e le)
here_spends g calls h (Guarded p t) st c e le = let r = act g calls p st e in handled_spends g t r.how st r.state c r.cost (act_spends g calls h p st c e le)
here_spends g calls h (Open mark) st c e le = stays Next st (opens mark st) c (e + open_price) refl refl tt (omega arith)
here_spends g calls h (Branch relation a b l) st c e le =
    wants_spends (st.env a) st c _ _ (omega arith) (λ v. wants_spends (st.env b) st c _ _ (omega arith) (λ w. either_spends (holds relation v w) st c _ _ (stays Next st st c (e + 9) refl refl tt (omega arith)) (stays Next st st c (e + 9) refl refl tt (omega arith))))
here_spends g calls h (Within a range l) st c e le =
    wants_spends (st.env a) st c _ _ (omega arith) (λ v. either_spends (is_in (signed_of v) range) st c _ _ (stays Next st st c (e + range_price) refl refl tt (omega arith)) (stays Next st st c (e + range_price) refl refl tt (omega arith)))
here_spends g calls h (Hand to from) st c e le = let r = hands to from st (e + 1) in config_spends r.how st r.state c r.cost (hands_spend to from st c (e + 1) (omega arith))
here_spends g calls h (Jump l) st c e le = stays Next st st c (e + 2) refl refl tt (omega arith)
here_spends g calls h (Label l marked) st c e le = let r = begins marked false st (e + 1) in config_spends r.how st r.state c r.cost (begins_spend marked false st c (e + 1) (omega arith))
here_spends g calls h (Back values) st c e le = wants_spends (words_of st.env values) st c _ _ (omega arith) (λ ws. stays _ st st c (e + 7 + 8 * length values) refl refl tt (omega arith))

seek_spends : (i : Instruction) (again : Bool) (sought : ℕ) (st : State) (c e : ℕ) → c ≤ e → SpendsAt st c (pass_one i again sought st e)
seek_spends (Plain p) again sought st c e le = stays Next st st c e refl refl tt le
seek_spends (Guarded p t) again sought st c e le = stays Next st st c e refl refl tt le
seek_spends (Open mark) again sought st c e le = stays Next st st c e refl refl tt le
seek_spends (Branch relation a b l) again sought st c e le = stays Next st st c e refl refl tt le
seek_spends (Within a range l) again sought st c e le = stays Next st st c e refl refl tt le
seek_spends (Hand to from) again sought st c e le = stays Next st st c e refl refl tt le
seek_spends (Jump l) again sought st c e le = stays Next st st c e refl refl tt le
seek_spends (Label l marked) again sought st c e le =
    let r = begins marked again st (e + 1) in
    either_spends (sought == l) st c _ (Seek again sought st e) (config_spends r.how st r.state c r.cost (begins_spend marked again st c (e + 1) (omega arith))) (stays Next st st c e refl refl tt le)
seek_spends (Back values) again sought st c e le = stays Next st st c e refl refl tt le

one_spends : (g : Setting) (calls : Calls) → CallsSpend calls → (i : Instruction) (k : Config) → UsesUp k → Spends (run_at k).state (run_at k).cost (run_at (one g calls i k))
one_spends g calls h i (At st c) u = here_spends g calls h i st c c (omega arith)
one_spends g calls h i (Seek again l st c) u = seek_spends i again l st c c (omega arith)
one_spends g calls h i (Done how st c) u = stays how st st c c refl refl u (omega arith)

sweep_spends : (g : Setting) (calls : Calls) → CallsSpend calls → (code : List Instruction) (k : Config) → UsesUp k → Spends (run_at k).state (run_at k).cost (run_at (sweep g calls code k))
sweep_spends g calls h [] k u = stays _ (run_at k).state (run_at k).state _ _ refl refl u (omega arith)
sweep_spends g calls h (i ∷ is) k u = let s = one_spends g calls h i k u in more _ _ (run_at (one g calls i k)) _ s (sweep_spends g calls h is (one g calls i k) s.used)

finish_spends : (g : Setting) (calls : Calls) → CallsSpend calls → (code : List Instruction) (n : ℕ) (k : Config) → UsesUp k → Spends (run_at k).state (run_at k).cost (finish g calls code n k)
finish_spends g calls h code zero (At st c) u = stays _ st st c c refl refl tt (omega arith)
finish_spends g calls h code (suc n) (At st c) u = stays _ st st c c refl refl tt (omega arith)
finish_spends g calls h code zero (Done how st c) u = stays _ st st c c refl refl u (omega arith)
finish_spends g calls h code (suc n) (Done how st c) u = stays _ st st c c refl refl u (omega arith)
finish_spends g calls h code zero (Seek again l st c) u = stays _ st st c c refl refl tt (omega arith)
finish_spends g calls h code (suc n) (Seek again l st c) u =
    let k = sweep g calls code (Seek true l st c) in
    let s = sweep_spends g calls h code (Seek true l st c) tt in
    more st c (run_at k) _ s (finish_spends g calls h code n k s.used)

code_spends : (g : Setting) (calls : Calls) → CallsSpend calls → (code : List Instruction) → GoesOn (run_code g calls code)
code_spends g calls h code st c e le =
    let k = sweep g calls code (At st e) in
    let s = sweep_spends g calls h code (At st e) tt in
    more st c (record { how = Next; state = st; cost = e }) _ (stays Next st st c e refl refl tt le)
    (more st e (run_at k) _ s (finish_spends g calls h code (suc (st.turns + st.others)) k s.used))

calls_to_spend : (g : Setting) (calls : Calls) → CallsSpend calls → (o : Option LinearRoutine) (arguments to : List ℕ) (line : ℕ) → GoesOnAfter 1 (calls_to g calls o arguments to line)
calls_to_spend g calls h None arguments to line st c e le = stays _ st st c e refl refl tt (omega arith)
calls_to_spend g calls h (Some r) arguments to line st c e le = called_spends g (run_code g calls r.code) (code_spends g calls h r.code) (head_of r) arguments to line st c e le

calls_spend : (g : Setting) (rs : List LinearRoutine) (n : ℕ) → CallsSpend (calls_within g rs n)
calls_spend g rs zero = record { spend = λ k arguments to line st c e le. stays _ st st c e refl refl tt (omega arith) }
calls_spend g rs (suc n) = record { spend = λ k arguments to line st c e le. calls_to_spend g (calls_within g rs n) (calls_spend g rs n) (slice_get rs k) arguments to line st c e le }

main_covered : (g : Setting) (calls : Calls) → CallsSpend calls → (o : Option LinearRoutine) (texts input : List ℕ) (t s : ℕ) → Covered t s (runs_main g calls o texts input t s)
main_covered g calls h None texts input t s = record { covers = omega arith; used = tt }
main_covered g calls h (Some r) texts input t s = covered t s (start g (head_of r) texts input t s) _ refl refl (code_spends g calls h r.code (start g (head_of r) texts input t s) 0 0 (omega arith))

linear_covered : (linear : Linear) (place : Place) (input : List ℕ) (folder : Folder) (t s : ℕ) → Covered t s (linear_run linear place input folder t s)
unfolding linear_run
linear_covered l place input folder t s =
    let calls = calls_within (setting_of place l.globals folder) l.routines (t + 10) in
    main_covered (setting_of place l.globals folder) calls (calls_spend (setting_of place l.globals folder) l.routines (t + 10)) (slice_get l.routines l.main) l.texts input t s

pub linear_spends : (linear : Linear) (place : Place) (input : List ℕ) (folder : Folder) (t s : ℕ) → begun t s (linear_run linear place input folder t s).state ≤ (linear_meaning linear place input folder t s).cost
linear_spends l place input folder t s =
    let r = linear_run l place input folder t s in subst (λ x. begun t s r.state ≤ x) (sym (meant_cost r.how r.state r.cost)) (linear_covered l place input folder t s).covers

pub linear_paid : (linear : Linear) → IsPaidWhereGoing linear
linear_paid l place input folder t s going =
    let r = linear_run l place input folder t s in let k = linear_covered l place input folder t s in meant_paid t s r.how r.state r.cost k.covers k.used going
