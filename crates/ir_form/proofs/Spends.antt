-- The turns and other rounds that begin are paid for.
use Rattle.std.proofs.Common.{◌≡◌, ℕ, zero, suc, ◌+◌, ◌-◌, ◌≤◌, ◌⊎◌, inl, inr, List, [], ◌∷◌, Option, Some, None, Bool, true, false, refl, sym, subst, arith}
use Rattle.std.specs.Prelude.{nat_le, ◌&&◌, if◌then◌else◌, slice_get}
use Rattle.rv_image.specs.Streams.{Folder, AtItsEnd, StoppedBy, Served, Finishes, Replies, served}
use Rattle.rv_isa.specs.Arithmetic.{holds, signed_of}
use Rattle.ir_form.specs.declared.plain.Plain.{Plain}
use Rattle.ir_form.specs.declared.plain.Plain.TheVariants.{Constant, Global, Heap, Frame, Text, Compute, Load, Store, Ask, Call, Raise, Throw, Take, Give}
use Rattle.ir_form.specs.declared.op.Op.{Op, Plain as Simple, If', Case', Loop', Guard', Leave, Row_of-Op, end_of-Op, more_of-Op, Row_of-Arm, end_of-Arm, more_of-Arm}
use Rattle.ir_form.specs.declared.op.Exit.{Exit}
use Rattle.ir_form.specs.declared.op.Exit.TheVariants.{Routine as the_routine, Loop as the_loop}
use Rattle.ir_form.specs.declared.op.Range.{Range}
use Rattle.ir_form.specs.declared.unit.Routine.{Routine}
use Rattle.ir_form.specs.declared.unit.Unit.{Unit as RegionUnit}
use Rattle.ir_form.specs.Place.{Place, Setting}
use Rattle.ir_form.specs.Cells.{memory_of, loaded, stored}
use Rattle.ir_form.specs.State.{State, Ended, Stopped, Going, Stuck, How, Next, Left, Ends, Throws, Over, Run, next, raised, over, on_how, on_run, needs, chosen, words_of, bound, binds, turn_from, other_from, begins, begun}
use Rattle.ir_form.specs.Cost.{plain_price, round_price, guard_price}
use Rattle.ir_form.specs.Plain.{Calls, most_rooms, storage, defines, stack_top, with_array, service_of, is_accepted, replied, does, act, without_array}
use Rattle.ir_form.specs.Meaning.{takes_words, hands, gives, Cycle, after_round, rounds, looped, leaves, is_in_any, picks, run, run_all, run_arms, run_list, ended, takes_up, caught, caught_run, opens}
use Rattle.ir_form.specs.Units.{Head, opened, enters_at, restored, returned, called, start, concluded, head_of, body_of, calls_to, calls_within, runs_main, setting_of, unit_run, meaning, IsPaidWhereGoing}

-- where a run needs more than it was given, no turn or no other round is left
abbrev pub IsUsedUp : How → State → Type 0
IsUsedUp Next st = Unit {0}
IsUsedUp (Left loops ws) st = Unit {0}
IsUsedUp (Ends ws) st = Unit {0}
IsUsedUp (Throws kind line) st = Unit {0}
IsUsedUp (Over Ended) st = Unit {0}
IsUsedUp (Over (Stopped kind line)) st = Unit {0}
IsUsedUp (Over Going) st = (st.turns ≡ 0) ⊎ (st.others ≡ 0)
IsUsedUp (Over Stuck) st = Unit {0}

-- a run leaves no more of the bounds than there was, and has paid for what it used up
pub record Spends (st : State) (c : ℕ) (r : Run) : Type 0 where
  pub turns : r.state.turns ≤ st.turns
  pub others : r.state.others ≤ st.others
  pub paid : c + (st.turns + st.others) ≤ r.cost + (r.state.turns + r.state.others)
  pub used : IsUsedUp r.how r.state

-- what follows a state spends, for whatever was paid
abbrev pub GoesOn : (State → ℕ → Run) → Type 0
GoesOn go = (st : State) (c e : ℕ) → c ≤ e → Spends st c (go st e)

-- the same, of what follows a run that ended so
abbrev pub GoesOnFrom : How → (State → ℕ → Run) → Type 0
GoesOnFrom how go = (st : State) (c e : ℕ) → IsUsedUp how st → c ≤ e → Spends st c (go st e)

pub record CallsSpend (calls : Calls) : Type 0 where
  pub spend : (k : ℕ) (arguments to : List ℕ) (line : ℕ) (st : State) (c e : ℕ) → c + 1 ≤ e → Spends st c (calls k arguments to line st e)

-- nothing of the bounds is used up
pub stays : (how : How) (st su : State) (c e : ℕ) → su.turns ≡ st.turns → su.others ≡ st.others → IsUsedUp how su → c ≤ e → Spends st c (record { how = how; state = su; cost = e })
stays how st su c e t o u le = record { turns = omega arith; others = omega arith; paid = omega arith; used = u }

pub needs_spends : {A : Type 0} (o : Option A) (st : State) (c e : ℕ) (go : A → Run) → c ≤ e → ((v : A) → Spends st c (go v)) → Spends st c (needs o st e go)
needs_spends None st c e go le h = stays _ st st c e refl refl tt le
needs_spends (Some v) st c e go le h = h v

-- what follows a state spends, where so much more was paid
abbrev pub GoesOnAfter : ℕ → (State → ℕ → Run) → Type 0
GoesOnAfter d go = (st : State) (c e : ℕ) → c + d ≤ e → Spends st c (go st e)

how_spends : (d : ℕ) (how : How) (st su : State) (c e : ℕ) (go : State → ℕ → Run) → su.turns ≤ st.turns → su.others ≤ st.others → c + d + (st.turns + st.others) ≤ e + (su.turns + su.others) → IsUsedUp how su → Spends su (e - d) (go su e) → Spends st c (on_how how su e go)
how_spends d Next st su c e go t o p u h = let a = h.turns in let b = h.others in let k = h.paid in record { turns = omega arith; others = omega arith; paid = omega arith; used = h.used }
how_spends d (Left k ws) st su c e go t o p u h = record { turns = t; others = o; paid = omega arith; used = u }
how_spends d (Ends ws) st su c e go t o p u h = record { turns = t; others = o; paid = omega arith; used = u }
how_spends d (Throws kind line) st su c e go t o p u h = record { turns = t; others = o; paid = omega arith; used = u }
how_spends d (Over v) st su c e go t o p u h = record { turns = t; others = o; paid = omega arith; used = u }

pub run_spends_after : (d : ℕ) (st : State) (c : ℕ) (r : Run) (go : State → ℕ → Run) → Spends st (c + d) r → GoesOnAfter d go → Spends st c (on_run r go)
run_spends_after d st c r go h k =
    let t = h.turns in let o = h.others in let p = h.paid in
    how_spends d r.how st r.state c r.cost go h.turns h.others h.paid h.used (k r.state (r.cost - d) r.cost (omega arith))

pub run_spends : (st : State) (c : ℕ) (r : Run) (go : State → ℕ → Run) → Spends st c r → GoesOn go → Spends st c (on_run r go)
run_spends st c r go h k = run_spends_after 0 st c r go (let t = h.turns in let o = h.others in let p = h.paid in record { turns = t; others = o; paid = omega arith; used = h.used }) (λ su i e le. k su i e (omega arith))

pub binds_spend : (to ws : List ℕ) → GoesOn (binds to ws)
binds_spend to ws st c e le = needs_spends (bound to ws st.env) st c e _ le (λ env. stays _ st (record st { env = env }) c e refl refl tt le)

turn_spends : (t : ℕ) (st : State) (c e : ℕ) → t ≡ st.turns → c + 1 ≤ e → Spends st c (turn_from t st e)
turn_spends zero st c e h le = stays _ st st c e refl refl (inl (sym h)) (omega arith)
turn_spends (suc t) st c e h le = record { turns = omega arith; others = omega arith; paid = omega arith; used = tt }

other_spends : (s : ℕ) (st : State) (c e : ℕ) → s ≡ st.others → c + 1 ≤ e → Spends st c (other_from s st e)
other_spends zero st c e h le = stays _ st st c e refl refl (inr (sym h)) (omega arith)
other_spends (suc s) st c e h le = record { turns = omega arith; others = omega arith; paid = omega arith; used = tt }

pub begins_spend : (marked again : Bool) (st : State) (c e : ℕ) → c + 1 ≤ e → Spends st c (begins marked again st e)
begins_spend true again st c e le = turn_spends st.turns st c e refl le
begins_spend false true st c e le = other_spends st.others st c e refl le
begins_spend false false st c e le = stays _ st st c e refl refl tt (omega arith)

-- operations with no region

defines_spends : (x w : ℕ) → GoesOn (defines x w)
defines_spends x w st c e le = stays _ st _ c e refl refl tt le

replied_spends : (x : ℕ) (s : Served) → GoesOn (replied x s)
replied_spends x (Finishes AtItsEnd w) st c e le = stays _ st _ c e refl refl tt le
replied_spends x (Finishes (StoppedBy kind line) w) st c e le = stays _ st _ c e refl refl tt le
replied_spends x (Replies reply w) st c e le = stays _ st _ c e refl refl tt le

takes_spends : (b : Bool) (g : Setting) (x line w : ℕ) (st : State) (c e : ℕ) → c ≤ e → Spends st c (if b then defines x (stack_top g (with_array g w st)) (with_array g w st) e else raised storage line st e)
takes_spends true g x line w st c e le = stays _ st _ c e refl refl tt le
takes_spends false g x line w st c e le = stays _ st _ c e refl refl tt le

raised_by_spends : (b : Bool) (kind line : ℕ) (st : State) (c e : ℕ) → c ≤ e → Spends st c (if b then raised kind line st e else over Stuck st e)
raised_by_spends true kind line st c e le = stays _ st _ c e refl refl tt le
raised_by_spends false kind line st c e le = stays _ st _ c e refl refl tt le

does_spends : (g : Setting) (calls : Calls) → CallsSpend calls → (p : Plain) (st : State) (c e : ℕ) → c + 1 ≤ e → Spends st c (does g calls p st e)
does_spends g calls h (Constant x word) st c e le = stays _ st _ c e refl refl tt (omega arith)
does_spends g calls h (Global x word) st c e le = stays _ st _ c e refl refl tt (omega arith)
does_spends g calls h (Heap x) st c e le = stays _ st _ c e refl refl tt (omega arith)
does_spends g calls h (Frame x word) st c e le = stays _ st _ c e refl refl tt (omega arith)
does_spends g calls h (Text x byte) st c e le = stays _ st _ c e refl refl tt (omega arith)
does_spends g calls h (Compute x op a b) st c e le =
    needs_spends (st.env a) st c e _ (omega arith) (λ v. needs_spends (st.env b) st c e _ (omega arith) (λ w. stays _ st _ c e refl refl tt (omega arith)))
does_spends g calls h (Load x width at) st c e le =
    needs_spends (st.env at) st c e _ (omega arith) (λ v. needs_spends (loaded width st.cells v) st c e _ (omega arith) (λ w. stays _ st _ c e refl refl tt (omega arith)))
does_spends g calls h (Store width at from) st c e le =
    needs_spends (st.env at) st c e _ (omega arith) (λ v. needs_spends (st.env from) st c e _ (omega arith) (λ w. needs_spends (stored width st.cells v w) st c e _ (omega arith) (λ cells. stays _ st _ c e refl refl tt (omega arith))))
does_spends g calls h (Ask x service) st c e le =
    needs_spends (service_of st.env service) st c e _ (omega arith) (λ what. needs_spends (if is_accepted g st.cells what then Some what else None) st c e _ (omega arith) (λ a. replied_spends x (served g.folder (memory_of st.cells) a st.world) st c e (omega arith)))
does_spends g calls h (Call k arguments to line) st c e le = h.spend k arguments to line st c e le
does_spends g calls h (Raise kind line) st c e le = stays _ st _ c e refl refl tt (omega arith)
does_spends g calls h (Throw kind line) st c e le =
    needs_spends (st.env kind) st c e _ (omega arith) (λ k. needs_spends (st.env line) st c e _ (omega arith) (λ l. raised_by_spends (nat_le 1 k && nat_le k 21) k l st c e (omega arith)))
does_spends g calls h (Take x words line) st c e le =
    needs_spends (st.env words) st c e _ (omega arith) (λ w. takes_spends (nat_le (st.rooms + w) most_rooms) g x line w st c e (omega arith))
does_spends g calls h (Give words) st c e le = needs_spends (st.env words) st c e _ (omega arith) (λ w. stays _ st _ c e refl refl tt (omega arith))

price_positive : (p : Plain) → 1 ≤ plain_price p
price_positive (Constant to word) = omega arith
price_positive (Global to word) = omega arith
price_positive (Heap to) = omega arith
price_positive (Frame to word) = omega arith
price_positive (Text to byte) = omega arith
price_positive (Compute to op left right) = omega arith
price_positive (Load to width at) = omega arith
price_positive (Store width at from) = omega arith
price_positive (Ask to service) = omega arith
price_positive (Call routine arguments to line) = omega arith
price_positive (Raise kind line) = omega arith
price_positive (Throw kind line) = omega arith
price_positive (Take to words line) = omega arith
price_positive (Give words) = omega arith

pub act_spends : (g : Setting) (calls : Calls) → CallsSpend calls → (p : Plain) → GoesOn (act g calls p)
act_spends g calls h p st c e le = does_spends g calls h p st c (e + plain_price p) (let one = price_positive p in omega arith)

-- regions

takes_words_spends : (to ws : List ℕ) → GoesOn (takes_words to ws)
takes_words_spends to [] st c e le = stays _ st _ c e refl refl tt le
takes_words_spends to (w ∷ ws) st c e le = binds_spend to (w ∷ ws) st c e le

pub hands_spend : (to from : List ℕ) → GoesOn (hands to from)
hands_spend to from st c e le = needs_spends (words_of st.env from) st c e _ le (λ ws. takes_words_spends to ws st c _ (omega arith))

gives_spends : (body : State → ℕ → Run) (to results : List ℕ) → GoesOn body → GoesOn (gives body to results)
gives_spends body to results h st c e le = run_spends st c (body st e) _ (h st c e le) (hands_spend to results)

pub chosen_spends : (b : Bool) (first second : State → ℕ → Run) → GoesOn first → GoesOn second → GoesOn (chosen b first second)
chosen_spends true first second h k = h
chosen_spends false first second h k = k

after_spends : (y : Cycle) (again : State → ℕ → Run) → GoesOnAfter 1 again → (how : How) → GoesOnFrom how (after_round y again how)
after_spends y again h Next st c e u le = run_spends_after 1 st c _ again (hands_spend y.parameters y.results st (c + 1) (e + round_price) (omega arith)) h
after_spends y again h (Left zero ws) st c e u le = takes_words_spends y.to ws st c e le
after_spends y again h (Left (suc k) ws) st c e u le = stays _ st _ c e refl refl tt le
after_spends y again h (Ends ws) st c e u le = stays _ st _ c e refl refl tt le
after_spends y again h (Throws kind line) st c e u le = stays _ st _ c e refl refl tt le
after_spends y again h (Over v) st c e u le = stays _ st _ c e refl refl u le

-- a run that goes on in whatever way it has ended
pub any_spends : (st : State) (c : ℕ) (r : Run) (go : How → State → ℕ → Run) → Spends st c r → ((how : How) → GoesOnFrom how (go how)) → Spends st c (go r.how r.state r.cost)
any_spends st c r go h k =
    let s = k r.how r.state r.cost r.cost h.used (omega arith) in let t = h.turns in let o = h.others in let p = h.paid in
    let a = s.turns in let b = s.others in let d = s.paid in record { turns = omega arith; others = omega arith; paid = omega arith; used = s.used }

rounds_spend : (y : Cycle) (body : State → ℕ → Run) → GoesOn body → (n : ℕ) (again : Bool) → GoesOnAfter 1 (rounds y body n again)
rounds_spend y body h zero again st c e le = stays _ st st c e refl refl tt (omega arith)
rounds_spend y body h (suc n) again st c e le =
    run_spends st c _ _ (begins_spend y.marked again st c e le)
    (λ su k i l. any_spends su k (body su i) (after_round y (rounds y body n true)) (h su k i l) (after_spends y (rounds y body n true) (rounds_spend y body h n true)))

looped_spends : (y : Cycle) (start : List ℕ) (body : State → ℕ → Run) → GoesOn body → GoesOn (looped y start body)
looped_spends y start body h st c e le =
    run_spends_after 1 st c _ _ (hands_spend y.parameters start st (c + 1) (e + round_price) (omega arith)) (λ su k i l. rounds_spend y body h (suc (suc (su.turns + su.others))) false su k i l)

picks_spend : (value : ℕ) (ranges : List Range) (arm others : State → ℕ → Run) → GoesOn arm → GoesOn others → GoesOn (picks value ranges arm others)
picks_spend value [] arm others h k st c e le = k st c e le
picks_spend value (r ∷ rs) arm others h k st c e le =
    needs_spends (st.env value) st c _ _ (omega arith) (λ v. chosen_spends (is_in_any (signed_of v) (r ∷ rs)) arm others h k st c _ (omega arith))

leaves_used : (exit : Exit) (ws : List ℕ) (st : State) → IsUsedUp (leaves exit ws) st
leaves_used the_routine ws st = tt
leaves_used (the_loop k) ws st = tt

-- an exception that is taken
pub takes_up_spends : (g : Setting) (mark : ℕ) (to : List ℕ) (kind line : ℕ) → GoesOn (takes_up g mark to kind line)
takes_up_spends g mark to kind line st c e le =
    needs_spends (st.marks mark) st c e _ le (λ taken.
    let su : State = without_array g (st.taken - taken) st in
    let b = binds_spend to (kind ∷ line ∷ []) su c e le in
    record { turns = b.turns; others = b.others; paid = b.paid; used = b.used })

caught_spends : (g : Setting) (mark : ℕ) (to : List ℕ) (handler : State → ℕ → Run) → GoesOn handler → (how : How) → GoesOnFrom how (caught g mark to handler how)
caught_spends g mark to handler h Next st c e u le = stays _ st _ c e refl refl tt le
caught_spends g mark to handler h (Left k ws) st c e u le = stays _ st _ c e refl refl tt le
caught_spends g mark to handler h (Ends ws) st c e u le = stays _ st _ c e refl refl tt le
caught_spends g mark to handler h (Throws kind line) st c e u le = run_spends st c _ handler (takes_up_spends g mark to kind line st c (e + guard_price) (omega arith)) h
caught_spends g mark to handler h (Over v) st c e u le = stays _ st _ c e refl refl u le

guard_spends : (g : Setting) (mark : ℕ) (to : List ℕ) (body handler : State → ℕ → Run) → GoesOn body → GoesOn handler → GoesOn (λ st c. caught_run g mark to handler (body (opens mark st) (c + guard_price)))
guard_spends g mark to body handler b h st c e le =
    let r = body (opens mark st) (e + guard_price) in
    let s = b (opens mark st) c (e + guard_price) (omega arith) in
    any_spends st c r (caught g mark to handler) (record { turns = s.turns; others = s.others; paid = s.paid; used = s.used }) (caught_spends g mark to handler h)

mutual
  pub op_spends : (g : Setting) (calls : Calls) → CallsSpend calls → (op : Op) → GoesOn (run g calls op)
  op_spends g calls h (Simple p) st c e le = act_spends g calls h p st c e le
  op_spends g calls h (If' relation left right a b ops results d f others others_results to) st c e le =
      needs_spends (st.env left) st c _ _ (omega arith) (λ v. needs_spends (st.env right) st c _ _ (omega arith) (λ w.
      chosen_spends (holds relation v w) _ _ (gives_spends _ to results (ops_spend g calls h ops)) (gives_spends _ to others_results (ops_spend g calls h others)) st c _ (omega arith)))
  op_spends g calls h (Case' value a arms b d ops results to) st c e le =
      arms_spend g calls h value to arms _ (gives_spends _ to results (ops_spend g calls h ops)) st c _ (omega arith)
  op_spends g calls h (Loop' marked start parameters a ops results to) st c e le = looped_spends _ start (run_all g calls ops) (ops_spend g calls h ops) st c e le
  op_spends g calls h (Guard' mark a b ops results parameters d others others_results to) st c e le =
      guard_spends g mark parameters (gives (run_all g calls ops) to results) (gives (run_all g calls others) to others_results) (gives_spends _ to results (ops_spend g calls h ops)) (gives_spends _ to others_results (ops_spend g calls h others)) st c e le
  op_spends g calls h (Leave exit values) st c e le =
      needs_spends (words_of st.env values) st c _ _ (omega arith) (λ ws. stays _ st st c _ refl refl (leaves_used exit ws st) (omega arith))

  pub ops_spend : (g : Setting) (calls : Calls) → CallsSpend calls → {n : _} (ops : Row_of-Op n) → GoesOn (run_all g calls ops)
  ops_spend g calls h end_of-Op st c e le = stays _ st st c e refl refl tt le
  ops_spend g calls h (more_of-Op op ops) st c e le = run_spends st c _ _ (op_spends g calls h op st c e le) (ops_spend g calls h ops)

  pub arms_spend : (g : Setting) (calls : Calls) → CallsSpend calls → (value : ℕ) (to : List ℕ) {n : _} (arms : Row_of-Arm n) (others : State → ℕ → Run) → GoesOn others → GoesOn (run_arms g calls value to arms others)
  arms_spend g calls h value to end_of-Arm others k st c e le = k st c e le
  arms_spend g calls h value to (more_of-Arm ranges a b ops results arms) others k st c e le =
      picks_spend value ranges _ _ (gives_spends _ to results (ops_spend g calls h ops)) (arms_spend g calls h value to arms others k) st c e le

pub list_spends : (g : Setting) (calls : Calls) → CallsSpend calls → (ops : List Op) → GoesOn (run_list g calls ops)
list_spends g calls h [] st c e le = stays _ st st c e refl refl tt le
list_spends g calls h (op ∷ ops) st c e le = run_spends st c _ _ (op_spends g calls h op st c e le) (list_spends g calls h ops)

-- routines and units

ended_spends : (results : List ℕ) (how : How) → GoesOnFrom how (ended results how)
ended_spends results Next st c e u le = needs_spends (words_of st.env results) st c _ _ (omega arith) (λ ws. stays _ st st c _ refl refl tt (omega arith))
ended_spends results (Left k ws) st c e u le = stays _ st st c e refl refl tt le
ended_spends results (Ends ws) st c e u le = stays _ st st c e refl refl tt le
ended_spends results (Throws kind line) st c e u le = stays _ st st c e refl refl tt le
ended_spends results (Over v) st c e u le = stays _ st st c e refl refl u le

body_spends : (g : Setting) (calls : Calls) → CallsSpend calls → (r : Routine) → GoesOn (body_of g calls r)
body_spends g calls h r st c e le = any_spends st c (run_list g calls r.body.ops st e) (ended r.body.results) (list_spends g calls h r.body.ops st c e le) (ended_spends r.body.results)

room_spends : (b : Bool) (g : Setting) (h : Head) (line : ℕ) (st : State) (c e : ℕ) → c ≤ e → Spends st c (if b then next (opened g h (record st { rooms = st.rooms + h.room })) e else raised storage line st e)
room_spends true g h line st c e le = stays _ st _ c e refl refl tt le
room_spends false g h line st c e le = stays _ st _ c e refl refl tt le

enters_spends : (depth : ℕ) (g : Setting) (h : Head) (line : ℕ) → GoesOnAfter 1 (enters_at depth g h line)
enters_spends zero g h line st c e le =
    run_spends st c _ _ (turn_spends st.turns st c e refl le) (λ su k i l. room_spends (nat_le (su.rooms + h.room) most_rooms) g h line su k i l)
enters_spends (suc depth) g h line st c e le = stays _ st _ c e refl refl tt (omega arith)

returned_spends : (h : Head) (to : List ℕ) (st : State) (how : How) → GoesOnFrom how (returned h to st how)
returned_spends h to st Next su c e u le = stays _ su su c e refl refl tt le
returned_spends h to st (Left k ws) su c e u le = stays _ su su c e refl refl tt le
returned_spends h to st (Ends ws) su c e u le =
    let s = binds_spend to ws (restored h st su) c e le in record { turns = s.turns; others = s.others; paid = s.paid; used = s.used }
returned_spends h to st (Throws kind line) su c e u le = stays _ su _ c e refl refl tt le
returned_spends h to st (Over v) su c e u le = stays _ su su c e refl refl u le

pub called_spends : (g : Setting) (body : State → ℕ → Run) → GoesOn body → (h : Head) (arguments to : List ℕ) (line : ℕ) → GoesOnAfter 1 (called g body h arguments to line)
called_spends g body b h arguments to line st c e le =
    needs_spends (words_of st.env arguments) st c e _ (omega arith) (λ ws.
    run_spends st c _ _ (enters_spends h.depth g h line st c e le) (λ su k i l.
    run_spends su k _ _ (binds_spend h.parameters ws su k i l) (λ sv j o m.
    any_spends sv j (body sv o) (returned h to st) (b sv j o m) (returned_spends h to st))))

calls_to_spend : (g : Setting) (calls : Calls) → CallsSpend calls → (o : Option Routine) (arguments to : List ℕ) (line : ℕ) → GoesOnAfter 1 (calls_to g calls o arguments to line)
calls_to_spend g calls h None arguments to line st c e le = stays _ st st c e refl refl tt (omega arith)
calls_to_spend g calls h (Some r) arguments to line st c e le = called_spends g (body_of g calls r) (body_spends g calls h r) (head_of r) arguments to line st c e le

pub calls_spend : (g : Setting) (rs : List Routine) (n : ℕ) → CallsSpend (calls_within g rs n)
calls_spend g rs zero = record { spend = λ k arguments to line st c e le. stays _ st st c e refl refl tt (omega arith) }
calls_spend g rs (suc n) = record { spend = λ k arguments to line st c e le. calls_to_spend g (calls_within g rs n) (calls_spend g rs n) (slice_get rs k) arguments to line st c e le }

-- what has begun is at most the cost, and that is all turns or all other rounds where the run needs more
pub record Covered (t s : ℕ) (r : Run) : Type 0 where
  pub covers : begun t s r.state ≤ r.cost
  pub used : IsUsedUp r.how r.state

pub covered : (t s : ℕ) (st : State) (r : Run) → st.turns ≡ t → st.others ≡ s → Spends st 0 r → Covered t s r
covered t s st r et es h = let a = h.turns in let b = h.others in let p = h.paid in record { covers = omega arith; used = h.used }

main_covered : (g : Setting) (calls : Calls) → CallsSpend calls → (o : Option Routine) (texts input : List ℕ) (t s : ℕ) → Covered t s (runs_main g calls o texts input t s)
main_covered g calls h None texts input t s = record { covers = omega arith; used = tt }
main_covered g calls h (Some r) texts input t s = covered t s (start g (head_of r) texts input t s) _ refl refl (body_spends g calls h r (start g (head_of r) texts input t s) 0 0 (omega arith))

pub meant_cost : (how : How) (st : State) (c : ℕ) → (concluded how st c).cost ≡ c
meant_cost Next st c = refl
meant_cost (Left k ws) st c = refl
meant_cost (Ends ws) st c = refl
meant_cost (Throws kind line) st c = refl
meant_cost (Over v) st c = refl

pub meant_paid : (t s : ℕ) (how : How) (st : State) (c : ℕ) → begun t s st ≤ c → IsUsedUp how st → (concluded how st c).verdict ≡ Going → (t ≤ (concluded how st c).cost) ⊎ (s ≤ (concluded how st c).cost)
meant_paid t s Next st c le u e = cc
meant_paid t s (Left k ws) st c le u e = cc
meant_paid t s (Ends ws) st c le u e = cc
meant_paid t s (Throws kind line) st c le u e = cc
meant_paid t s (Over Ended) st c le u e = cc
meant_paid t s (Over (Stopped kind line)) st c le u e = cc
meant_paid t s (Over Going) st c le u e = elim u [ inl none ↦ inl (omega arith) | inr none ↦ inr (omega arith) ]
meant_paid t s (Over Stuck) st c le u e = cc

unit_covered : (unit : RegionUnit) (place : Place) (input : List ℕ) (folder : Folder) (t s : ℕ) → Covered t s (unit_run unit place input folder t s)
unfolding unit_run
unit_covered unit place input folder t s =
    let calls = calls_within (setting_of place unit.globals folder) unit.routines (t + 10) in
    main_covered (setting_of place unit.globals folder) calls (calls_spend (setting_of place unit.globals folder) unit.routines (t + 10)) (slice_get unit.routines unit.main) unit.texts input t s

pub unit_spends : (unit : RegionUnit) (place : Place) (input : List ℕ) (folder : Folder) (t s : ℕ) → begun t s (unit_run unit place input folder t s).state ≤ (meaning unit place input folder t s).cost
unit_spends unit place input folder t s =
    let r = unit_run unit place input folder t s in subst (λ x. begun t s r.state ≤ x) (sym (meant_cost r.how r.state r.cost)) (unit_covered unit place input folder t s).covers

pub unit_paid : (unit : RegionUnit) → IsPaidWhereGoing unit
unit_paid unit place input folder t s going =
    let r = unit_run unit place input folder t s in let k = unit_covered unit place input folder t s in meant_paid t s r.how r.state r.cost k.covers k.used going
