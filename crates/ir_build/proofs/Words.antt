-- A step of the meaning and a run of code side by side: one lemma for each word of which steps are made.
use Rattle.std.proofs.Common.{◌≡◌, ℕ, zero, suc, ◌+◌, ◌*◌, ◌≤◌, true, false, ◌++◌, refl, sym, ◌∙◌, ap, subst, arith, append_assoc, nat_lt}
use Rattle.std.proofs.lemmas.List.{append-nil}
use Rattle.std.proofs.lemmas.Bool.Decides.{nat_tests}
use Rattle.tu_base.specs.declared.kind.Kind.{Kind}
use Rattle.tu_base.specs.Kind.{kind_number}
use Rattle.tu_base.specs.Trace.{Trace}
use Rattle.rv_image.specs.Streams.{traced}
use Rattle.ir_form.specs.State.{State as CodeState, Verdict, Going as code_going, How, Throws, Over, Run, raised, over, on_how, on_run, turn_from}
use Rattle.tu_tree_meaning.specs.Steps.{Added, joined, State, Outcome, Done, Raised, Going, Step, after, give, raise, stop, look, change, pay, turn, turned, ◌>>=◌, ◌>>◌}
use Rattle.tu_tree_meaning.specs.Store.{Store}
use Rattle.ir_build.specs.Keeps.{factor, exception_most, spare, Site, Holds, Post, Met, Keeps}

-- how code goes on that does not look at exceptions and at the end of all
pub record Passes (go : How → CodeState → ℕ → Run) : Type 0 where
  pub overs : (v : Verdict) (st : CodeState) (c : ℕ) → go (Over v) st c ≡ over v st c
  pub throws : (kind line : ℕ) (st : CodeState) (c : ℕ) → go (Throws kind line) st c ≡ raised kind line st c

pub passes_next : (go : CodeState → ℕ → Run) → Passes (λ how st c. on_how how st c go)
passes_next go = record { overs = λ v st c. refl; throws = λ kind line st c. refl }

-- what follows, in the meaning and in the code, from each state that the step can be done in; p: what was paid before for it
abbrev pub Each : {A B : Type 0} → Site → Post A → Post B → (p : ℕ) → (A → Step Store B) → (How → CodeState → ℕ → Run) → Type 0
Each {A} {B} x P Q p k go = (a : A) (s : State Store) (how : How) (st : CodeState) (c : ℕ) (tr : Trace) (b : ℕ) → P a s how st c → st.world ≡ traced x.world tr → c ≤ b → Keeps x Q tr (b + p) (k a s) (go how st c)

module _ {x : Site} where
  met_joined : {B : Type 0} (Q : Post B) (tr : Trace) (b p : ℕ) (a y : Added) (o : Outcome Store B) (f : Run) → Met x Q (tr ++ a.trace) (b + factor * a.units + p) y o f → Met x Q tr (b + p) (joined a y) o f
  met_joined Q tr b p a y o f h = record {
    world = h.world ∙ ap (λ z. traced x.world z) (append_assoc tr a.trace y.trace);
    cost = let l : f.cost ≤ b + factor * a.units + p + factor * y.units + spare o = h.cost in let q : f.cost ≤ b + p + factor * (a.units + y.units) + spare o = omega arith in q;
    ends = h.ends;
  }

  flow_met : {A B : Type 0} (P : Post A) (Q : Post B) (tr : Trace) (b p : ℕ) (y : Added) (o : Outcome Store A) (k : A → Step Store B) (f : Run) (go : How → CodeState → ℕ → Run) → Passes go →
      (b + factor * y.units ≤ x.most → Met x P tr b y o f) → Each x P Q p k go → b + p + factor * (after y o k).0.units ≤ x.most → Met x Q tr (b + p) (after y o k).0 (after y o k).1 (go f.how f.state f.cost)
  flow_met P Q tr b p y (Done a s) k f go passes h each le =
      let le' : b + p + factor * (y.units + (k a s).0.units) ≤ x.most = le in
      let m = h (omega arith) in
      met_joined Q tr b p y (k a s).0 (k a s).1 (go f.how f.state f.cost) ((each a s f.how f.state f.cost (tr ++ y.trace) (b + factor * y.units) m.ends m.world (let q : f.cost ≤ b + factor * y.units + 0 = m.cost in let r : f.cost ≤ b + factor * y.units = omega arith in r)).met (omega arith))
  flow_met P Q tr b p y (Raised kind line s) k f go passes h each le =
      let le' : b + p + factor * y.units ≤ x.most = le in
      let m = h (omega arith) in
      subst (λ z. Met x Q tr (b + p) y (Raised kind line s) z) (sym (ap (λ z. go z f.state f.cost) m.ends ∙ passes.throws (kind_number kind) line f.state f.cost)) (record { world = m.world; cost = let q : f.cost ≤ b + factor * y.units + exception_most = m.cost in let r : f.cost ≤ b + p + factor * y.units + exception_most = omega arith in r; ends = refl })
  flow_met P Q tr b p y (Going s) k f go passes h each le =
      let le' : b + p + factor * y.units ≤ x.most = le in
      let m = h (omega arith) in
      subst (λ z. Met x Q tr (b + p) y (Going s) z) (sym (ap (λ z. go z f.state f.cost) m.ends ∙ passes.overs code_going f.state f.cost)) (record { world = m.world; cost = let q : f.cost ≤ b + factor * y.units + 0 = m.cost in let r : f.cost ≤ b + p + factor * y.units + 0 = omega arith in r; ends = refl })

  -- a step, and what follows it
  pub keeps_flow : {A B : Type 0} {P : Post A} {Q : Post B} {tr : Trace} {b : ℕ} (p : ℕ) (s : State Store) (m : Step Store A) (k : A → Step Store B) (f : Run) (go : How → CodeState → ℕ → Run) → Passes go →
      Keeps x P tr b (m s) f → Each x P Q p k go → Keeps x Q tr (b + p) ((m >>= k) s) (go f.how f.state f.cost)
  unfolding ◌>>=◌
  keeps_flow {A} {B} {P} {Q} {tr} {b} p s m k f go passes h each = record { met = flow_met P Q tr b p (m s).0 (m s).1 k f go passes h.met each }

  pub keeps_is : {A : Type 0} {P : Post A} {tr : Trace} {b : ℕ} {r : Added × Outcome Store A} {f h : Run} → f ≡ h → Keeps x P tr b r h → Keeps x P tr b r f
  keeps_is {A} {P} {tr} {b} {r} e h = subst (λ z. Keeps x P tr b r z) (sym e) h

  pub keeps_more : {A : Type 0} {P : Post A} {tr : Trace} {b b' : ℕ} {r : Added × Outcome Store A} {f : Run} → b ≤ b' → Keeps x P tr b r f → Keeps x P tr b' r f
  keeps_more {A} {P} {tr} {b} {b'} {r} {f} le h = record { met = λ l. let l' : b' + factor * r.0.units ≤ x.most = l in let m = h.met (omega arith) in record { world = m.world; cost = let q : f.cost ≤ b + factor * r.0.units + spare r.1 = m.cost in let r' : f.cost ≤ b' + factor * r.0.units + spare r.1 = omega arith in r'; ends = m.ends } }

  pub keeps_paid : {A : Type 0} {P : Post A} {tr : Trace} {b : ℕ} (n : ℕ) (s : State Store) (m : Step Store A) (f : Run) → Keeps x P tr (b + factor * n) (m s) f → Keeps x P tr b ((pay n >> m) s) f
  unfolding ◌>>=◌ pay
  keeps_paid {A} {P} {tr} {b} n s m f h = record { met = λ le. let le' : b + factor * (n + (m s).0.units) ≤ x.most = le in let g = h.met (omega arith) in record { world = g.world; cost = let l : f.cost ≤ b + factor * n + factor * (m s).0.units + spare (m s).1 = g.cost in let q : f.cost ≤ b + factor * (n + (m s).0.units) + spare (m s).1 = omega arith in q; ends = g.ends } }

  pub keeps_give : {A : Type 0} {P : Post A} {tr : Trace} {b : ℕ} (a : A) (s : State Store) (f : Run) → P a s f.how f.state f.cost → f.state.world ≡ traced x.world tr → f.cost ≤ b → Keeps x P tr b (give a s) f
  unfolding give
  keeps_give {A} {P} {tr} {b} a s f h e l = record { met = λ le. record { world = e ∙ ap (λ z. traced x.world z) (sym (append-nil tr)); cost = omega arith; ends = h } }

  pub keeps_raise : {A : Type 0} {P : Post A} {tr : Trace} {b : ℕ} (kind : Kind) (line : ℕ) (s : State Store) (f : Run) → f.how ≡ Throws (kind_number kind) line → f.state.world ≡ traced x.world tr → f.cost ≤ b + exception_most → Keeps x P tr b (raise kind line s) f
  unfolding raise
  keeps_raise {A} {P} {tr} {b} kind line s f h e l = record { met = λ le. record { world = e ∙ ap (λ z. traced x.world z) (sym (append-nil tr)); cost = omega arith; ends = h } }

  pub keeps_stop : {A : Type 0} {P : Post A} {tr : Trace} {b : ℕ} (s : State Store) (f : Run) → f.how ≡ Over code_going → f.state.world ≡ traced x.world tr → f.cost ≤ b → Keeps x P tr b (stop s) f
  unfolding stop
  keeps_stop {A} {P} {tr} {b} s f h e l = record { met = λ le. record { world = e ∙ ap (λ z. traced x.world z) (sym (append-nil tr)); cost = omega arith; ends = h } }

  pub keeps_look : {A B : Type 0} {Q : Post B} {tr : Trace} {b : ℕ} (g : Store → A) (k : A → Step Store B) (s : State Store) (f : Run) → Keeps x Q tr b (k (g s.store) s) f → Keeps x Q tr b ((look g >>= k) s) f
  unfolding ◌>>=◌ look
  keeps_look {A} {B} {Q} {tr} {b} g k s f h = record { met = λ le. let le' : b + factor * (0 + (k (g s.store) s).0.units) ≤ x.most = le in let q = h.met (omega arith) in record { world = q.world; cost = let l : f.cost ≤ b + factor * (k (g s.store) s).0.units + spare (k (g s.store) s).1 = q.cost in let l' : f.cost ≤ b + factor * (0 + (k (g s.store) s).0.units) + spare (k (g s.store) s).1 = omega arith in l'; ends = q.ends } }

  pub keeps_change : {B : Type 0} {Q : Post B} {tr : Trace} {b : ℕ} (g : Store → Store) (m : Step Store B) (s : State Store) (f : Run) → Keeps x Q tr b (m (record s { store = g s.store })) f → Keeps x Q tr b ((change g >> m) s) f
  unfolding ◌>>=◌ change
  keeps_change {B} {Q} {tr} {b} g m s f h =
      let u = (m (record s { store = g s.store })).0.units in let o = spare (m (record s { store = g s.store })).1 in
      record { met = λ le. let le' : b + factor * (0 + u) ≤ x.most = le in let q = h.met (omega arith) in record { world = q.world; cost = let l : f.cost ≤ b + factor * u + o = q.cost in let l' : f.cost ≤ b + factor * (0 + u) + o = omega arith in l'; ends = q.ends } }

  -- giving a value and going on with it is going on with it
  pub keeps_given : {A B : Type 0} {Q : Post B} {tr : Trace} {b : ℕ} (a : A) (k : A → Step Store B) (s : State Store) (f : Run) → Keeps x Q tr b (k a s) f → Keeps x Q tr b ((give a >>= k) s) f
  unfolding ◌>>=◌ give
  keeps_given {A} {B} {Q} {tr} {b} a k s f h = record { met = λ le. let le' : b + factor * (0 + (k a s).0.units) ≤ x.most = le in let q = h.met (omega arith) in record { world = q.world; cost = let l : f.cost ≤ b + factor * (k a s).0.units + spare (k a s).1 = q.cost in let l' : f.cost ≤ b + factor * (0 + (k a s).0.units) + spare (k a s).1 = omega arith in l'; ends = q.ends } }

  -- a turn
  pub keeps_turn : {A : Type 0} {Q : Post A} {tr : Trace} {b : ℕ} (left k : ℕ) (s : State Store) (st : CodeState) (c : ℕ) (m : Step Store A) (go : CodeState → ℕ → Run) →
      Holds x left s st c → st.world ≡ traced x.world tr → c ≤ b → st.turns ≡ k →
      ((j : ℕ) → st.turns ≡ suc j → Keeps x Q tr (b + factor) (m (record s { counts = turned s.counts })) (go (record st { turns = j }) c)) →
      Keeps x Q tr b ((turn x.turns >> m) s) (on_run (turn_from k st c) go)
  unfolding ◌>>=◌ turn
  keeps_turn {A} {Q} {tr} {b} left zero s st c m go h e le is each =
      let none : nat_lt s.counts.turns x.turns ≡ false = let q : s.counts.turns + st.turns ≡ x.turns = h.turns in grind (arith, nat_tests, is, q) in
      rw none (record { met = λ le'. record { world = e ∙ ap (λ z. traced x.world z) (sym (append-nil tr)); cost = omega arith; ends = refl } })
  keeps_turn {A} {Q} {tr} {b} left (suc j) s st c m go h e le is each =
      let more : nat_lt s.counts.turns x.turns ≡ true = let q : s.counts.turns + st.turns ≡ x.turns = h.turns in grind (arith, nat_tests, is, q) in
      let s' : State Store = record s { counts = turned s.counts } in
      let f : Run = go (record st { turns = j }) c in
      let g = each j is in
      rw more (record { met = λ l. let l' : b + factor * (1 + (m s').0.units) ≤ x.most = l in let q = g.met (omega arith) in record { world = q.world; cost = let w : f.cost ≤ b + factor + factor * (m s').0.units + spare (m s').1 = q.cost in let w' : f.cost ≤ b + factor * (1 + (m s').0.units) + spare (m s').1 = omega arith in w'; ends = q.ends } })

  assoc_met : {A B C : Type 0} (Q : Post C) (tr : Trace) (b : ℕ) (y : Added) (o : Outcome Store A) (h : A → Step Store B) (k : B → Step Store C) (f : Run) → b + factor * (after (after y o h).0 (after y o h).1 k).0.units ≤ x.most → (b + factor * (after y o (λ a. h a >>= k)).0.units ≤ x.most → Met x Q tr b (after y o (λ a. h a >>= k)).0 (after y o (λ a. h a >>= k)).1 f) → Met x Q tr b (after (after y o h).0 (after y o h).1 k).0 (after (after y o h).0 (after y o h).1 k).1 f
  unfolding ◌>>=◌
  assoc_met {A} {B} {C} Q tr b y (Done a s) h k f le m = of (h a s).0 (h a s).1 le m
    where
      of : (z : Added) (o : Outcome Store B) → b + factor * (after (joined y z) o k).0.units ≤ x.most → (b + factor * (joined y (after z o k).0).units ≤ x.most → Met x Q tr b (joined y (after z o k).0) (after z o k).1 f) → Met x Q tr b (after (joined y z) o k).0 (after (joined y z) o k).1 f
      of z (Done c s1) le m =
          let w = (k c s1).0 in
          let le' : b + factor * (y.units + z.units + w.units) ≤ x.most = le in
          let q = m (omega arith) in
          record { world = q.world ∙ ap (λ t. traced x.world (tr ++ t)) (sym (append_assoc y.trace z.trace w.trace)); cost = let v = spare (k c s1).1 in let l : f.cost ≤ b + factor * (y.units + (z.units + w.units)) + v = q.cost in let l' : f.cost ≤ b + factor * (y.units + z.units + w.units) + v = omega arith in l'; ends = q.ends }
      of z (Raised kind line s1) le m = m le
      of z (Going s1) le m = m le
  assoc_met Q tr b y (Raised kind line s) h k f le m = m le
  assoc_met Q tr b y (Going s) h k f le m = m le

  -- steps may be grouped
  pub keeps_grouped : {A B C : Type 0} {Q : Post C} {tr : Trace} {b : ℕ} (m : Step Store A) (h : A → Step Store B) (k : B → Step Store C) (s : State Store) (f : Run) → Keeps x Q tr b ((m >>= λ a. h a >>= k) s) f → Keeps x Q tr b (((m >>= h) >>= k) s) f
  unfolding ◌>>=◌
  keeps_grouped {A} {B} {C} {Q} {tr} {b} m h k s f g = record { met = λ le. assoc_met Q tr b (m s).0 (m s).1 h k f le g.met }

  -- what follows an exception is not done
  pub keeps_raise_then : {A B : Type 0} {Q : Post B} {tr : Trace} {b : ℕ} (kind : Kind) (line : ℕ) (k : A → Step Store B) (s : State Store) (f : Run) → f.how ≡ Throws (kind_number kind) line → f.state.world ≡ traced x.world tr → f.cost ≤ b + exception_most → Keeps x Q tr b ((raise kind line >>= k) s) f
  unfolding ◌>>=◌ raise
  keeps_raise_then {A} {B} {Q} {tr} {b} kind line k s f h e l = record { met = λ le. record { world = e ∙ ap (λ z. traced x.world z) (sym (append-nil tr)); cost = omega arith; ends = h } }

  then_met : {A : Type 0} (P Q : Post A) (tr : Trace) (b p : ℕ) (y : Added) (o : Outcome Store A) (f : Run) (go : How → CodeState → ℕ → Run) → Passes go →
      Met x P tr b y o f → ((a : A) (s : State Store) (how : How) (st : CodeState) (c : ℕ) (t : Trace) (d : ℕ) → P a s how st c → st.world ≡ traced x.world t → c ≤ d → Keeps x Q t (d + p) (give a s) (go how st c)) → b + p + factor * y.units ≤ x.most → Met x Q tr (b + p) y o (go f.how f.state f.cost)
  unfolding give
  then_met P Q tr b p y (Done a s) f go passes m each le =
      let le' : b + p + factor * y.units ≤ x.most = le in
      let g = go f.how f.state f.cost in
      let q = (each a s f.how f.state f.cost (tr ++ y.trace) (b + factor * y.units) m.ends m.world (let q : f.cost ≤ b + factor * y.units + 0 = m.cost in let r : f.cost ≤ b + factor * y.units = omega arith in r)).met (omega arith) in
      record { world = q.world ∙ ap (λ z. traced x.world z) (append-nil (tr ++ y.trace)); cost = let l : g.cost ≤ b + factor * y.units + p + factor * 0 + 0 = q.cost in let l' : g.cost ≤ b + p + factor * y.units + 0 = omega arith in l'; ends = q.ends }
  then_met P Q tr b p y (Raised kind line s) f go passes m each le =
      subst (λ z. Met x Q tr (b + p) y (Raised kind line s) z) (sym (ap (λ z. go z f.state f.cost) m.ends ∙ passes.throws (kind_number kind) line f.state f.cost)) (record { world = m.world; cost = let q : f.cost ≤ b + factor * y.units + exception_most = m.cost in let r : f.cost ≤ b + p + factor * y.units + exception_most = omega arith in r; ends = refl })
  then_met P Q tr b p y (Going s) f go passes m each le =
      subst (λ z. Met x Q tr (b + p) y (Going s) z) (sym (ap (λ z. go z f.state f.cost) m.ends ∙ passes.overs code_going f.state f.cost)) (record { world = m.world; cost = let q : f.cost ≤ b + factor * y.units + 0 = m.cost in let r : f.cost ≤ b + p + factor * y.units + 0 = omega arith in r; ends = refl })

  -- what the code does behind a step, of which the meaning knows nothing
  pub keeps_then : {A : Type 0} {P Q : Post A} {tr : Trace} {b : ℕ} (p : ℕ) (r : Added × Outcome Store A) (f : Run) (go : How → CodeState → ℕ → Run) → Passes go → Keeps x P tr b r f →
      ((a : A) (s : State Store) (how : How) (st : CodeState) (c : ℕ) (t : Trace) (d : ℕ) → P a s how st c → st.world ≡ traced x.world t → c ≤ d → Keeps x Q t (d + p) (give a s) (go how st c)) → Keeps x Q tr (b + p) r (go f.how f.state f.cost)
  keeps_then {A} {P} {Q} {tr} {b} p r f go passes h each = record { met = λ le. let le' : b + p + factor * r.0.units ≤ x.most = le in then_met P Q tr b p r.0 r.1 f go passes (h.met (omega arith)) each le }
