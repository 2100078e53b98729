-- With more other rounds a run is the same, unless it needs more than it was given.
use Rattle.std.proofs.Common.{◌≡◌, ℕ, zero, suc, ◌+◌, ◌≤◌, ◌<◌, List, [], ◌∷◌, Option, Some, None, Bool, true, false, refl, sym, ap, subst, arith}
use Rattle.std.specs.Prelude.{◌≢◌, ◌-◌, ◌&&◌, nat_le, if◌then◌else◌, slice_get}
use Rattle.rv_image.specs.Streams.{Folder, AtItsEnd, StoppedBy, Served, Finishes, Replies, served}
use Rattle.rv_isa.specs.Arithmetic.{holds, signed_of}
use Rattle.ir_form.specs.declared.plain.Plain.{Plain}
use Rattle.ir_form.specs.declared.plain.Plain.TheVariants.{Constant, Global, Heap, Frame, Text, Compute, Load, Store, Ask, Call, Raise, Throw, Take, Give}
use Rattle.ir_form.specs.declared.op.Op.{Op, Plain as Simple, If', Case', Loop', Guard', Leave, Row_of-Op, end_of-Op, more_of-Op, Row_of-Arm, end_of-Arm, more_of-Arm}
use Rattle.ir_form.specs.declared.op.Exit.{Exit}
use Rattle.ir_form.specs.declared.op.Exit.TheVariants.{Routine as the_routine, Loop as the_loop}
use Rattle.ir_form.specs.declared.op.Range.{Range}
use Rattle.ir_form.specs.declared.unit.Routine.{Routine}
use Rattle.ir_form.specs.declared.unit.Unit.{Unit as RegionUnit}
use Rattle.ir_form.specs.Place.{Place, Setting}
use Rattle.ir_form.specs.Cells.{memory_of, loaded, stored}
use Rattle.ir_form.specs.State.{State, Ended, Stopped, Going, Stuck, How, Next, Left, Ends, Throws, Over, Run, next, raised, over, on_how, on_run, needs, chosen, words_of, bound, binds, turn_from, other_from, begins}
use Rattle.ir_form.specs.Cost.{plain_price, round_price, guard_price}
use Rattle.ir_form.specs.Plain.{Calls, most_rooms, storage, defines, stack_top, with_array, service_of, is_accepted, replied, without_array, does}
use Rattle.ir_form.specs.Meaning.{opens, takes_up, caught, takes_words, hands, gives, Cycle, after_round, rounds, looped, leaves, is_in_any, picks, run, run_all, run_arms, run_list, ended}
use Rattle.ir_form.specs.Units.{Head, opened, enters_at, restored, returned, called, start, meant, concluded, head_of, body_of, calls_to, calls_within, runs_main, setting_of, unit_run, IsSteady}
use Rattle.ir_form.proofs.Spends.{GoesOn, CallsSpend, hands_spend, ops_spend, calls_spend}

-- d: how many other rounds more
module _ (d : ℕ) where
  abbrev longer : State → State
  longer st = record st { others = st.others + d }

  -- r ends as a run that ended so, with the rounds that it has more
  abbrev IsAlike : How → State → ℕ → Run → Type 0
  IsAlike Next st c r = r ≡ next (longer st) c
  IsAlike (Left k ws) st c r = r ≡ record { how = Left k ws; state = longer st; cost = c }
  IsAlike (Ends ws) st c r = r ≡ record { how = Ends ws; state = longer st; cost = c }
  IsAlike (Throws kind line) st c r = r ≡ raised kind line (longer st) c
  IsAlike (Over Ended) st c r = r ≡ over Ended (longer st) c
  IsAlike (Over (Stopped kind line)) st c r = r ≡ over (Stopped kind line) (longer st) c
  IsAlike (Over Going) st c r = Unit {0}
  IsAlike (Over Stuck) st c r = r ≡ over Stuck (longer st) c

  abbrev Alike : Run → Run → Type 0
  Alike q r = IsAlike q.how q.state q.cost r

  -- the one from a state, and the other from that state with rounds more
  abbrev GoAlike : (State → ℕ → Run) → (State → ℕ → Run) → Type 0
  GoAlike go to = (st : State) (c : ℕ) → Alike (go st c) (to (longer st) c)

  -- where less than n rounds of both sorts are left
  abbrev GoAlikeBelow : ℕ → (State → ℕ → Run) → (State → ℕ → Run) → Type 0
  GoAlikeBelow n go to = (st : State) (c : ℕ) → st.turns + st.others < n → Alike (go st c) (to (longer st) c)

  alike : (how : How) (st : State) (c : ℕ) → IsAlike how st c (record { how = how; state = longer st; cost = c })
  alike Next st c = refl
  alike (Left k ws) st c = refl
  alike (Ends ws) st c = refl
  alike (Throws kind line) st c = refl
  alike (Over Ended) st c = refl
  alike (Over (Stopped kind line)) st c = refl
  alike (Over Going) st c = tt
  alike (Over Stuck) st c = refl

  how_alike : (n : ℕ) (how : How) (st : State) (c : ℕ) (r : Run) (go to : State → ℕ → Run) → IsAlike how st c r → st.turns + st.others < n → GoAlikeBelow n go to → Alike (on_how how st c go) (on_run r to)
  how_alike n Next st c r go to e lt h = subst (λ (z : Run). Alike (go st c) (on_run z to)) (sym e) (h st c lt)
  how_alike n (Left k ws) st c r go to e lt h = ap (λ (z : Run). on_run z to) e
  how_alike n (Ends ws) st c r go to e lt h = ap (λ (z : Run). on_run z to) e
  how_alike n (Throws kind line) st c r go to e lt h = ap (λ (z : Run). on_run z to) e
  how_alike n (Over Ended) st c r go to e lt h = ap (λ (z : Run). on_run z to) e
  how_alike n (Over (Stopped kind line)) st c r go to e lt h = ap (λ (z : Run). on_run z to) e
  how_alike n (Over Going) st c r go to e lt h = tt
  how_alike n (Over Stuck) st c r go to e lt h = ap (λ (z : Run). on_run z to) e

  run_alike_below : (n : ℕ) (q r : Run) (go to : State → ℕ → Run) → Alike q r → q.state.turns + q.state.others < n → GoAlikeBelow n go to → Alike (on_run q go) (on_run r to)
  run_alike_below n q r go to e lt h = how_alike n q.how q.state q.cost r go to e lt h

  run_alike : (q r : Run) (go to : State → ℕ → Run) → Alike q r → GoAlike go to → Alike (on_run q go) (on_run r to)
  run_alike q r go to e h = run_alike_below (suc (q.state.turns + q.state.others)) q r go to e (omega arith) (λ st c lt. h st c)

  -- what follows a run, however that has ended; where it needs more, so does all
  any_alike : (n : ℕ) (go to : How → State → ℕ → Run) → ((how : How) → GoAlikeBelow n (go how) (to how)) → ((st : State) (c : ℕ) (r : Run) → Alike (go (Over Going) st c) r) → (how : How) (st : State) (c : ℕ) (r : Run) → IsAlike how st c r → st.turns + st.others < n → Alike (go how st c) (to r.how r.state r.cost)
  any_alike n go to h k Next st c r e lt = subst (λ (z : Run). Alike (go Next st c) (to z.how z.state z.cost)) (sym e) (h Next st c lt)
  any_alike n go to h k (Left m ws) st c r e lt = subst (λ (z : Run). Alike (go (Left m ws) st c) (to z.how z.state z.cost)) (sym e) (h (Left m ws) st c lt)
  any_alike n go to h k (Ends ws) st c r e lt = subst (λ (z : Run). Alike (go (Ends ws) st c) (to z.how z.state z.cost)) (sym e) (h (Ends ws) st c lt)
  any_alike n go to h k (Throws kind line) st c r e lt = subst (λ (z : Run). Alike (go (Throws kind line) st c) (to z.how z.state z.cost)) (sym e) (h (Throws kind line) st c lt)
  any_alike n go to h k (Over Ended) st c r e lt = subst (λ (z : Run). Alike (go (Over Ended) st c) (to z.how z.state z.cost)) (sym e) (h (Over Ended) st c lt)
  any_alike n go to h k (Over (Stopped kind line)) st c r e lt = subst (λ (z : Run). Alike (go (Over (Stopped kind line)) st c) (to z.how z.state z.cost)) (sym e) (h (Over (Stopped kind line)) st c lt)
  any_alike n go to h k (Over Going) st c r e lt = k st c (to r.how r.state r.cost)
  any_alike n go to h k (Over Stuck) st c r e lt = subst (λ (z : Run). Alike (go (Over Stuck) st c) (to z.how z.state z.cost)) (sym e) (h (Over Stuck) st c lt)

  needs_alike : {A : Type 0} (o : Option A) (st : State) (c : ℕ) (go to : A → Run) → ((v : A) → Alike (go v) (to v)) → Alike (needs o st c go) (needs o (longer st) c to)
  needs_alike None st c go to h = refl
  needs_alike (Some v) st c go to h = h v

  binds_alike : (to ws : List ℕ) → GoAlike (binds to ws) (binds to ws)
  binds_alike to ws st c = needs_alike (bound to ws st.env) st c (λ env. next (record st { env = env }) c) (λ env. next (record (longer st) { env = env }) c) (λ env. refl)

  -- operations with no region

  replied_alike : (x : ℕ) (s : Served) → GoAlike (replied x s) (replied x s)
  replied_alike x (Finishes AtItsEnd w) st c = refl
  replied_alike x (Finishes (StoppedBy kind line) w) st c = refl
  replied_alike x (Replies reply w) st c = refl

  takes_alike : (b : Bool) (g : Setting) (x line w : ℕ) (st : State) (c : ℕ) →
      Alike (if b then defines x (stack_top g (with_array g w st)) (with_array g w st) c else raised storage line st c)
      (if b then defines x (stack_top g (with_array g w (longer st))) (with_array g w (longer st)) c else raised storage line (longer st) c)
  takes_alike true g x line w st c = refl
  takes_alike false g x line w st c = refl

  raised_by_alike : (b : Bool) (kind line : ℕ) (st : State) (c : ℕ) → Alike (if b then raised kind line st c else over Stuck st c) (if b then raised kind line (longer st) c else over Stuck (longer st) c)
  raised_by_alike true kind line st c = refl
  raised_by_alike false kind line st c = refl

  module _ (g : Setting) (calls : Calls) (alike_calls : (k : ℕ) (arguments to : List ℕ) (line : ℕ) → GoAlike (calls k arguments to line) (calls k arguments to line)) where
    does_alike : (p : Plain) → GoAlike (does g calls p) (does g calls p)
    does_alike (Constant x word) st c = refl
    does_alike (Global x word) st c = refl
    does_alike (Heap x) st c = refl
    does_alike (Frame x word) st c = refl
    does_alike (Text x byte) st c = refl
    does_alike (Compute x op a b) st c = needs_alike (st.env a) st c _ _ (λ v. needs_alike (st.env b) st c _ _ (λ w. refl))
    does_alike (Load x width at) st c = needs_alike (st.env at) st c _ _ (λ v. needs_alike (loaded width st.cells v) st c _ _ (λ w. refl))
    does_alike (Store width at from) st c = needs_alike (st.env at) st c _ _ (λ v. needs_alike (st.env from) st c _ _ (λ w. needs_alike (stored width st.cells v w) st c _ _ (λ cells. refl)))
    does_alike (Ask x service) st c =
        needs_alike (service_of st.env service) st c _ _ (λ what. needs_alike (if is_accepted g st.cells what then Some what else None) st c _ _ (λ a. replied_alike x (served g.folder (memory_of st.cells) a st.world) st c))
    does_alike (Call k arguments to line) st c = alike_calls k arguments to line st c
    does_alike (Raise kind line) st c = refl
    does_alike (Throw kind line) st c = needs_alike (st.env kind) st c _ _ (λ k. needs_alike (st.env line) st c _ _ (λ l. raised_by_alike (nat_le 1 k && nat_le k 21) k l st c))
    does_alike (Take x words line) st c = needs_alike (st.env words) st c _ _ (λ w. takes_alike (nat_le (st.rooms + w) most_rooms) g x line w st c)
    does_alike (Give words) st c = needs_alike (st.env words) st c _ _ (λ w. refl)

  -- regions

  takes_words_alike : (to ws : List ℕ) → GoAlike (takes_words to ws) (takes_words to ws)
  takes_words_alike to [] st c = refl
  takes_words_alike to (w ∷ ws) st c = binds_alike to (w ∷ ws) st c

  hands_alike : (to from : List ℕ) → GoAlike (hands to from) (hands to from)
  hands_alike to from st c = needs_alike (words_of st.env from) st c _ _ (λ ws. takes_words_alike to ws st _)

  gives_alike : (body : State → ℕ → Run) (to results : List ℕ) → GoAlike body body → GoAlike (gives body to results) (gives body to results)
  gives_alike body to results h st c = run_alike (body st c) (body (longer st) c) _ _ (h st c) (hands_alike to results)

  chosen_alike : (b : Bool) (first second : State → ℕ → Run) → GoAlike first first → GoAlike second second → GoAlike (chosen b first second) (chosen b first second)
  chosen_alike true first second h k = h
  chosen_alike false first second h k = k

  after_alike : (n : ℕ) (y : Cycle) (go to : State → ℕ → Run) → GoAlikeBelow n go to → (how : How) → GoAlikeBelow n (after_round y go how) (after_round y to how)
  after_alike n y go to h Next st c lt =
      let s = hands_spend y.parameters y.results st (c + round_price) (c + round_price) (omega arith) in let t = s.turns in let o = s.others in
      run_alike_below n (hands y.parameters y.results st (c + round_price)) (hands y.parameters y.results (longer st) (c + round_price)) go to (hands_alike y.parameters y.results st (c + round_price)) (omega arith) h
  after_alike n y go to h (Left zero ws) st c lt = takes_words_alike y.to ws st c
  after_alike n y go to h (Left (suc k) ws) st c lt = refl
  after_alike n y go to h (Ends ws) st c lt = refl
  after_alike n y go to h (Throws kind line) st c lt = refl
  after_alike n y go to h (Over Ended) st c lt = refl
  after_alike n y go to h (Over (Stopped kind line)) st c lt = refl
  after_alike n y go to h (Over Going) st c lt = tt
  after_alike n y go to h (Over Stuck) st c lt = refl

  takes_up_alike : (g : Setting) (mark : ℕ) (to : List ℕ) (kind line : ℕ) → GoAlike (takes_up g mark to kind line) (takes_up g mark to kind line)
  takes_up_alike g mark to kind line st c = needs_alike (st.marks mark) st c _ _ (λ taken. binds_alike to (kind ∷ line ∷ []) (without_array g (st.taken - taken) st) c)

  caught_alike : (g : Setting) (mark : ℕ) (to : List ℕ) (handler : State → ℕ → Run) → GoAlike handler handler → (how : How) → GoAlike (caught g mark to handler how) (caught g mark to handler how)
  caught_alike g mark to handler h Next st c = refl
  caught_alike g mark to handler h (Left k ws) st c = refl
  caught_alike g mark to handler h (Ends ws) st c = refl
  caught_alike g mark to handler h (Throws kind line) st c =
      run_alike (takes_up g mark to kind line st (c + guard_price)) (takes_up g mark to kind line (longer st) (c + guard_price)) handler handler (takes_up_alike g mark to kind line st (c + guard_price)) h
  caught_alike g mark to handler h (Over Ended) st c = refl
  caught_alike g mark to handler h (Over (Stopped kind line)) st c = refl
  caught_alike g mark to handler h (Over Going) st c = tt
  caught_alike g mark to handler h (Over Stuck) st c = refl

  -- what follows a run, however that has ended
  all_alike : (go to : How → State → ℕ → Run) → ((how : How) → GoAlike (go how) (to how)) → ((st : State) (c : ℕ) (r : Run) → Alike (go (Over Going) st c) r) → (q r : Run) → Alike q r → Alike (go q.how q.state q.cost) (to r.how r.state r.cost)
  all_alike go to h k q r e = any_alike (suc (q.state.turns + q.state.others)) go to (λ how st c lt. h how st c) k q.how q.state q.cost r e (omega arith)

  -- a first round without the mark uses nothing up
  abbrev used_by : (marked again : Bool) → ℕ
  used_by true again = 1
  used_by false true = 1
  used_by false false = 0

  turn_alike : (n t : ℕ) (st : State) (c : ℕ) (go to : State → ℕ → Run) → t ≡ st.turns → st.turns + st.others < suc n → GoAlikeBelow n go to → Alike (on_run (turn_from t st c) go) (on_run (turn_from t (longer st) c) to)
  turn_alike n zero st c go to e lt h = tt
  turn_alike n (suc t) st c go to e lt h = h (record st { turns = t }) c (omega (arith, e, lt))

  other_alike : (n s : ℕ) (st : State) (c : ℕ) (go to : State → ℕ → Run) → s ≡ st.others → st.turns + st.others < suc n → GoAlikeBelow n go to → Alike (on_run (other_from s st c) go) (on_run (other_from (s + d) (longer st) c) to)
  other_alike n zero st c go to e lt h = tt
  other_alike n (suc s) st c go to e lt h =
      let q : suc (s + d) ≡ suc s + d = omega arith in
      subst (λ (z : ℕ). Alike (on_run (other_from (suc s) st c) go) (on_run (other_from z (longer st) c) to)) q (h (record st { others = s }) c (omega (arith, e, lt)))

  begins_alike : (n : ℕ) (marked again : Bool) (st : State) (c : ℕ) (go to : State → ℕ → Run) → st.turns + st.others < n + used_by marked again → GoAlikeBelow n go to → Alike (on_run (begins marked again st c) go) (on_run (begins marked again (longer st) c) to)
  begins_alike n true again st c go to lt h = turn_alike n st.turns st c go to refl (omega (arith, lt)) h
  begins_alike n false true st c go to lt h = other_alike n st.others st c go to refl (omega (arith, lt)) h
  begins_alike n false false st c go to lt h = h st c (omega (arith, lt))

  used_most : (marked : Bool) → used_by marked true ≡ 1
  used_most true = refl
  used_most false = refl

  -- what a round does, and the rounds behind it
  round_alike : (y : Cycle) (body : State → ℕ → Run) → GoesOn body → GoAlike body body → (n k : ℕ) → n ≤ k → GoAlikeBelow n (λ su e. after_round y (rounds y body n true) (body su e).how (body su e).state (body su e).cost) (λ su e. after_round y (rounds y body k true) (body su e).how (body su e).state (body su e).cost)
  round_alike y body o h zero k le st c lt = absurd (omega (arith, lt))
  round_alike y body o h (suc n) zero le st c lt = absurd (omega (arith, le))
  round_alike y body o h (suc n) (suc k) le st c lt =
      let s = o st c c (omega arith) in let t = s.turns in let q = s.others in let w = used_most y.marked in
      any_alike (suc n) (after_round y (rounds y body (suc n) true)) (after_round y (rounds y body (suc k) true))
      (after_alike (suc n) y (rounds y body (suc n) true) (rounds y body (suc k) true) (λ su e small. begins_alike n y.marked true su e _ _ (omega (arith, small, w)) (λ sv i few. round_alike y body o h n k (omega (arith, le)) sv i few)))
      (λ su e r. tt) (body st c).how (body st c).state (body st c).cost (body (longer st) c) (h st c) (omega (arith, lt, t, q))

  rounds_alike : (y : Cycle) (body : State → ℕ → Run) → GoesOn body → GoAlike body body → (n k : ℕ) (again : Bool) → n ≤ k → GoAlikeBelow (n + used_by y.marked again) (rounds y body (suc n) again) (rounds y body (suc k) again)
  rounds_alike y body o h n k again le st c lt = begins_alike n y.marked again st c _ _ lt (λ su e small. round_alike y body o h n k le su e small)

  looped_alike : (y : Cycle) (start : List ℕ) (body : State → ℕ → Run) → GoesOn body → GoAlike body body → GoAlike (looped y start body) (looped y start body)
  looped_alike y start body o h st c =
      run_alike (hands y.parameters start st (c + round_price)) (hands y.parameters start (longer st) (c + round_price)) _ _ (hands_alike y.parameters start st (c + round_price))
      (λ su e. rounds_alike y body o h (suc (su.turns + su.others)) (suc (su.turns + (su.others + d))) false (omega arith) su e (omega arith))

  picks_alike : (value : ℕ) (ranges : List Range) (arm others : State → ℕ → Run) → GoAlike arm arm → GoAlike others others → GoAlike (picks value ranges arm others) (picks value ranges arm others)
  picks_alike value [] arm others h k st c = k st c
  picks_alike value (r ∷ rs) arm others h k st c = needs_alike (st.env value) st _ _ _ (λ v. chosen_alike (is_in_any (signed_of v) (r ∷ rs)) arm others h k st _)

  leaves_alike : (exit : Exit) (ws : List ℕ) (st : State) (c : ℕ) → IsAlike (leaves exit ws) st c (record { how = leaves exit ws; state = longer st; cost = c })
  leaves_alike the_routine ws st c = refl
  leaves_alike (the_loop k) ws st c = refl

  abbrev AlikeCalls : Calls → Type 0
  AlikeCalls calls = (k : ℕ) (arguments to : List ℕ) (line : ℕ) → GoAlike (calls k arguments to line) (calls k arguments to line)

  module _ (g : Setting) (calls : Calls) (spend : CallsSpend calls) (h : AlikeCalls calls) where
    mutual
      op_alike : (op : Op) → GoAlike (run g calls op) (run g calls op)
      op_alike (Simple p) st c = does_alike g calls h p st (c + plain_price p)
      op_alike (If' relation left right a b ops results e f others others_results to) st c =
          needs_alike (st.env left) st _ _ _ (λ v. needs_alike (st.env right) st _ _ _ (λ w.
          chosen_alike (holds relation v w) _ _ (gives_alike _ to results (ops_alike ops)) (gives_alike _ to others_results (ops_alike others)) st _))
      op_alike (Case' value m arms a b ops results to) st c = arms_alike value to arms _ (gives_alike _ to results (ops_alike ops)) st _
      op_alike (Loop' marked start parameters b ops results to) st c = looped_alike (record { marked = marked; parameters = parameters; results = results; to = to }) start (run_all g calls ops) (ops_spend g calls spend ops) (ops_alike ops) st c
      op_alike (Guard' mark a b ops results parameters e others others_results to) st c =
          let body : State → ℕ → Run = gives (run_all g calls ops) to results in
          let handler : State → ℕ → Run = gives (run_all g calls others) to others_results in
          all_alike (caught g mark parameters handler) (caught g mark parameters handler) (caught_alike g mark parameters handler (gives_alike _ to others_results (ops_alike others))) (λ su i r. tt)
          (body (opens mark st) (c + guard_price)) (body (opens mark (longer st)) (c + guard_price)) (gives_alike _ to results (ops_alike ops) (opens mark st) (c + guard_price))
      op_alike (Leave exit values) st c = needs_alike (words_of st.env values) st _ _ _ (λ ws. leaves_alike exit ws st _)

      ops_alike : {n : _} (ops : Row_of-Op n) → GoAlike (run_all g calls ops) (run_all g calls ops)
      ops_alike end_of-Op st c = refl
      ops_alike (more_of-Op op ops) st c = run_alike (run g calls op st c) (run g calls op (longer st) c) _ _ (op_alike op st c) (ops_alike ops)

      arms_alike : (value : ℕ) (to : List ℕ) {n : _} (arms : Row_of-Arm n) (others : State → ℕ → Run) → GoAlike others others → GoAlike (run_arms g calls value to arms others) (run_arms g calls value to arms others)
      arms_alike value to end_of-Arm others k st c = k st c
      arms_alike value to (more_of-Arm ranges a b ops results arms) others k st c = picks_alike value ranges _ _ (gives_alike _ to results (ops_alike ops)) (arms_alike value to arms others k) st c

    list_alike : (ops : List Op) → GoAlike (run_list g calls ops) (run_list g calls ops)
    list_alike [] st c = refl
    list_alike (op ∷ ops) st c = run_alike (run g calls op st c) (run g calls op (longer st) c) _ _ (op_alike op st c) (list_alike ops)

  -- routines and units

  ended_alike : (results : List ℕ) (how : How) → GoAlike (ended results how) (ended results how)
  ended_alike results Next st c = needs_alike (words_of st.env results) st _ _ _ (λ ws. refl)
  ended_alike results (Left k ws) st c = refl
  ended_alike results (Ends ws) st c = refl
  ended_alike results (Throws kind line) st c = refl
  ended_alike results (Over Ended) st c = refl
  ended_alike results (Over (Stopped kind line)) st c = refl
  ended_alike results (Over Going) st c = tt
  ended_alike results (Over Stuck) st c = refl

  body_alike : (g : Setting) (calls : Calls) → CallsSpend calls → AlikeCalls calls → (r : Routine) → GoAlike (body_of g calls r) (body_of g calls r)
  body_alike g calls spend h r st c =
      all_alike (ended r.body.results) (ended r.body.results) (ended_alike r.body.results) (λ su e q. tt) (run_list g calls r.body.ops st c) (run_list g calls r.body.ops (longer st) c) (list_alike g calls spend h r.body.ops st c)

  room_alike : (b : Bool) (g : Setting) (h : Head) (line : ℕ) (st : State) (c : ℕ) →
      Alike (if b then next (opened g h (record st { rooms = st.rooms + h.room })) c else raised storage line st c)
      (if b then next (opened g h (record (longer st) { rooms = st.rooms + h.room })) c else raised storage line (longer st) c)
  room_alike true g h line st c = refl
  room_alike false g h line st c = refl

  enters_alike : (depth : ℕ) (g : Setting) (h : Head) (line : ℕ) → GoAlike (enters_at depth g h line) (enters_at depth g h line)
  enters_alike zero g h line st c =
      turn_alike (suc (st.turns + st.others)) st.turns st c _ _ refl (omega arith) (λ su e lt. room_alike (nat_le (su.rooms + h.room) most_rooms) g h line su e)
  enters_alike (suc depth) g h line st c = refl

  returned_alike : (h : Head) (to : List ℕ) (st : State) (how : How) → GoAlike (returned h to st how) (returned h to (longer st) how)
  returned_alike h to st Next su c = refl
  returned_alike h to st (Left k ws) su c = refl
  returned_alike h to st (Ends ws) su c = binds_alike to ws (restored h st su) c
  returned_alike h to st (Throws kind line) su c = refl
  returned_alike h to st (Over Ended) su c = refl
  returned_alike h to st (Over (Stopped kind line)) su c = refl
  returned_alike h to st (Over Going) su c = tt
  returned_alike h to st (Over Stuck) su c = refl

  called_alike : (g : Setting) (body : State → ℕ → Run) → GoAlike body body → (h : Head) (arguments to : List ℕ) (line : ℕ) → GoAlike (called g body h arguments to line) (called g body h arguments to line)
  called_alike g body b h arguments to line st c =
      needs_alike (words_of st.env arguments) st c _ _ (λ ws.
      run_alike _ _ _ _ (enters_alike h.depth g h line st c) (λ su i.
      run_alike _ _ _ _ (binds_alike h.parameters ws su i) (λ sv j.
      all_alike (returned h to st) (returned h to (longer st)) (returned_alike h to st) (λ sw e q. tt) (body sv j) (body (longer sv) j) (b sv j))))

  calls_to_alike : (g : Setting) (calls : Calls) → CallsSpend calls → AlikeCalls calls → (o : Option Routine) (arguments to : List ℕ) (line : ℕ) → GoAlike (calls_to g calls o arguments to line) (calls_to g calls o arguments to line)
  calls_to_alike g calls spend h None arguments to line st c = refl
  calls_to_alike g calls spend h (Some r) arguments to line st c = called_alike g (body_of g calls r) (body_alike g calls spend h r) (head_of r) arguments to line st c

  calls_alike : (g : Setting) (rs : List Routine) (n : ℕ) → AlikeCalls (calls_within g rs n)
  calls_alike g rs zero k arguments to line st c = refl
  calls_alike g rs (suc n) k arguments to line st c = calls_to_alike g (calls_within g rs n) (calls_spend g rs n) (calls_alike g rs n) (slice_get rs k) arguments to line st c

  main_alike : (g : Setting) (calls : Calls) → CallsSpend calls → AlikeCalls calls → (o : Option Routine) (texts input : List ℕ) (t s : ℕ) → Alike (runs_main g calls o texts input t s) (runs_main g calls o texts input t (s + d))
  main_alike g calls spend h None texts input t s = refl
  main_alike g calls spend h (Some r) texts input t s = body_alike g calls spend h r (start g (head_of r) texts input t s) 0

  concluded_alike : (how : How) (st : State) (c : ℕ) (r : Run) → IsAlike how st c r → (concluded how st c).verdict ≢ Going → meant r ≡ concluded how st c
  concluded_alike Next st c r e k = ap meant e
  concluded_alike (Left m ws) st c r e k = ap meant e
  concluded_alike (Ends ws) st c r e k = ap meant e
  concluded_alike (Throws kind line) st c r e k = ap meant e
  concluded_alike (Over Ended) st c r e k = ap meant e
  concluded_alike (Over (Stopped kind line)) st c r e k = ap meant e
  concluded_alike (Over Going) st c r e k = absurd (k refl)
  concluded_alike (Over Stuck) st c r e k = ap meant e

  unit_alike : (unit : RegionUnit) (place : Place) (input : List ℕ) (folder : Folder) (t s : ℕ) → Alike (unit_run unit place input folder t s) (unit_run unit place input folder t (s + d))
  unfolding unit_run
  unit_alike unit place input folder t s =
      let g = setting_of place unit.globals folder in
      main_alike g (calls_within g unit.routines (t + 10)) (calls_spend g unit.routines (t + 10)) (calls_alike g unit.routines (t + 10)) (slice_get unit.routines unit.main) unit.texts input t s

pub unit_steady : (unit : RegionUnit) → IsSteady unit
unit_steady unit place input folder t s more not_going =
    let r = unit_run unit place input folder t s in
    concluded_alike more r.how r.state r.cost (unit_run unit place input folder t (s + more)) (unit_alike more unit place input folder t s) not_going
