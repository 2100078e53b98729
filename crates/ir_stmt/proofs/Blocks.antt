-- Statements with blocks.
use Rattle.std.proofs.Common.{◌≡◌, ℕ, zero, suc, ◌+◌, ◌<◌, ◌≤◌, Bool, true, false, List, [], ◌∷◌, ◌++◌, refl, sym, ◌∙◌, ap, subst, arith, append_assoc}
use Rattle.std.specs.Prelude.{if◌then◌else◌}
use Rattle.tu_base.specs.Trace.{Trace}
use Rattle.rv_image.specs.Streams.{traced}
use Rattle.ir_form.specs.declared.op.Op.{Op}
use Rattle.ir_form.specs.Plain.{Calls}
use Rattle.ir_form.specs.Meaning.{run_list, run, hands, rounds as code_rounds, after_round, after_run}
use Rattle.ir_form.specs.State.{State as CodeState, Env, How, Next as goes_on, Left, Run, on_run, on_how, turn_from}
use Rattle.ir_code.specs.Pieces.{leave, once, repeat, with_op}
use Rattle.ir_code.specs.Laws.{cycle}
use Rattle.ir_code.specs.declared.code.Code.{Code}
use Rattle.ir_code.proofs.Running.{runs_in_order, once_runs, repeat_runs}
use Rattle.tu_tree_meaning.specs.Interpreter.{Flow, Next, Exits, and_then, unless_left, rounds}
use Rattle.tu_tree_meaning.specs.Steps.{State, Step, give, pay, stop, turned, ◌>>=◌, ◌>>◌}
use Rattle.tu_tree_meaning.specs.Store.{Store}
use Rattle.ir_build.specs.Does.{TestDoes}
use Rattle.ir_build.specs.Keeps.{Named, Site, AllLie, Holds, Keeps, Tells}
use Rattle.ir_build.specs.Code.{Tested, where_tested}
use Rattle.ir_build.proofs.Words.{Passes, passes_next, keeps_flow, keeps_then, keeps_is, keeps_more, keeps_paid, keeps_give, keeps_stop, keeps_turn}
use Rattle.ir_build.proofs.States.{holds_still}
use Rattle.ir_build.proofs.Values.{then_none}
use Rattle.ir_stmt.specs.Leaves.{Leaves}
use Rattle.ir_stmt.specs.Code.{inside, enclosed, with_arm}
use Rattle.ir_stmt.proofs.Simple.{StatementDoes, tells_next, where_runs}

-- how arms end, in the loop around them: it is left, or with it the innermost loop of the program
abbrev EndsAs : (is_inside : Bool) → (outside : ℕ) → Flow → How → Type 0
EndsAs is_inside outside Next how = how ≡ Left 0 []
EndsAs is_inside outside Exits how = (how ≡ Left (suc outside) []) × (is_inside ≡ true)

record LeavesOnce (x : Site) (left : ℕ) (is_inside : Bool) (outside : ℕ) (flow : Flow) (s : State Store) (how : How) (st : CodeState) (c : ℕ) : Type 0 where
  way : EndsAs is_inside outside flow how
  holds : Holds x left s st c

-- arms that do a statement's part, in their place behind the code so far, for at most p that is not paid yet
pub record ArmsDo (x : Site) (calls : Calls) (is_inside : Bool) (outside p : ℕ) (m : Step Store Flow) (code made : Code) : Type 0 where
  ops : List Op
  is : made.ops ≡ code.ops ++ ops
  more : code.next ≤ made.next
  keeps : (left : ℕ) (s : State Store) (st : CodeState) (c : ℕ) (tr : Trace) (b : ℕ) → Holds x left s st c → st.world ≡ traced x.world tr → c ≤ b → Keeps x (LeavesOnce x left is_inside outside) tr (b + p) (m s) (run_list x.setting calls ops st c)

next_of : (n : ℕ) → n + 1 ≡ suc n
next_of n = omega arith

later : {x : Site} {left : ℕ} {s : State Store} {st : CodeState} {c c' : ℕ} → c ≤ c' → Holds x left s st c → Holds x left s st c'
later {st = st} le h = holds_still st.env (λ j lt. refl) le h

module _ (x : Site) (calls : Calls) where
  -- an arm that is chosen is the last one
  kept : {is_inside : Bool} {outside : ℕ} (ops : List Op) (flow : Flow) (left : ℕ) (s : State Store) (how : How) (st : CodeState) (c : ℕ) (tr : Trace) (b : ℕ) → LeavesOnce x left is_inside outside flow s how st c → st.world ≡ traced x.world tr → c ≤ b →
      Keeps x (LeavesOnce x left is_inside outside) tr (b + 0) (give flow s) (on_run (on_how how st c (hands [] [])) (run_list x.setting calls ops))
  kept {is_inside} {outside} ops Next left s how st c tr b g w le = subst (λ z. Keeps x (LeavesOnce x left is_inside outside) tr (b + 0) (give Next s) (on_run (on_how z st c (hands [] [])) (run_list x.setting calls ops))) (sym g.way)
      (keeps_give Next s _ (record { way = refl; holds = g.holds }) w (omega arith))
  kept {is_inside} {outside} ops Exits left s how st c tr b g w le = subst (λ z. Keeps x (LeavesOnce x left is_inside outside) tr (b + 0) (give Exits s) (on_run (on_how z st c (hands [] [])) (run_list x.setting calls ops))) (sym g.way.0)
      (keeps_give Exits s _ (record { way = (refl, g.way.1); holds = g.holds }) w (omega arith))

  passes_arm : (ops : List Op) → Passes (λ how st c. on_run (on_how how st c (hands [] [])) (run_list x.setting calls ops))
  passes_arm ops = record { overs = λ v st c. refl; throws = λ kind line st c. refl }

  chosen_keeps : (is_inside : Bool) (outside : ℕ) (m n : Step Store Flow) (first others : List Op) (left : ℕ) (b : Bool) (t : Tested) (base : ℕ) (env : Env) (s : State Store) (st : CodeState) (c : ℕ) (tr : Trace) (d : ℕ) →
      ((st : CodeState) (c : ℕ) (d : ℕ) → Holds x left s st c → st.world ≡ traced x.world tr → c ≤ d → Keeps x (LeavesOnce x left is_inside outside) tr (d + 60) (m s) (run_list x.setting calls first st c)) →
      ((st : CodeState) (c : ℕ) (d : ℕ) → Holds x left s st c → st.world ≡ traced x.world tr → c ≤ d → Keeps x (LeavesOnce x left is_inside outside) tr (d + 60) (n s) (run_list x.setting calls others st c)) →
      Tells x left t.comparison t.left t.right base env b s goes_on st c → st.world ≡ traced x.world tr → c ≤ d →
      Keeps x (LeavesOnce x left is_inside outside) tr (d + 100) ((if b then m else n) s) (run_list x.setting calls (where_tested t first [] ∷ others) st c)
  chosen_keeps is_inside outside m n first others left true t base env s st c tr d a e g w le =
      keeps_is (ap (λ r. on_run r (run_list x.setting calls others)) (where_runs x calls t first [] g.word g.other true st c g.first_is g.second_is g.says))
      (keeps_more (omega arith) (keeps_then {b = d + 13 + 60} 0 (m s) (run_list x.setting calls first st (c + 13)) (λ how st c. on_run (on_how how st c (hands [] [])) (run_list x.setting calls others)) (passes_arm others)
      (a st (c + 13) (d + 13) (later (omega arith) g.holds) w (omega arith))
      (λ flow s1 how1 st1 c1 tr1 b1 g1 w1 le1. kept others flow left s1 how1 st1 c1 tr1 b1 g1 w1 le1)))
  chosen_keeps is_inside outside m n first others left false t base env s st c tr d a e g w le =
      keeps_is (ap (λ r. on_run r (run_list x.setting calls others)) (where_runs x calls t first [] g.word g.other false st c g.first_is g.second_is g.says))
      (keeps_more (omega arith) (e st (c + 13 + 0) (d + 13) (later (omega arith) g.holds) w (omega arith)))

  -- the loop around arms ends with them
  unwrapped : {is_inside : Bool} {outside : ℕ} (again : CodeState → ℕ → Run) (flow : Flow) (left : ℕ) (s : State Store) (how : How) (st : CodeState) (c : ℕ) (tr : Trace) (b : ℕ) → LeavesOnce x left is_inside outside flow s how st c → st.world ≡ traced x.world tr → c ≤ b →
      Keeps x (Leaves x left is_inside outside) tr (b + 0) (give flow s) (after_round (cycle false) again how st c)
  unwrapped {is_inside} {outside} again Next left s how st c tr b g w le = subst (λ z. Keeps x (Leaves x left is_inside outside) tr (b + 0) (give Next s) (after_round (cycle false) again z st c)) (sym g.way)
      (keeps_give Next s _ (record { way = refl; holds = g.holds }) w (omega arith))
  unwrapped {is_inside} {outside} again Exits left s how st c tr b g w le = subst (λ z. Keeps x (Leaves x left is_inside outside) tr (b + 0) (give Exits s) (after_round (cycle false) again z st c)) (sym g.way.0)
      (keeps_give Exits s _ (record { way = (refl, g.way.1); holds = g.holds }) w (omega arith))

  passes_round : (again : CodeState → ℕ → Run) → Passes (λ how st c. after_round (cycle false) again how st c)
  passes_round again = record { overs = λ v st c. refl; throws = λ kind line st c. refl }

module _ {x : Site} {calls : Calls} where
  -- behind the last arm the loop is left
  pub closed : {is_inside : Bool} {outside : ℕ} {m : Step Store Flow} {code made : Code} → StatementDoes x calls is_inside (outside + 1) m code made → ArmsDo x calls is_inside outside 60 m code (with_op made (leave 0))
  closed {is_inside} {outside} {m} {code} {made} a =
      let p : List Op = leave 0 ∷ [] in
      record {
        ops = a.ops ++ p;
        is = ap (λ z. z ++ p) a.is ∙ append_assoc code.ops a.ops p;
        more = a.more;
        keeps = λ left s st c tr b h w le. keeps_is (runs_in_order x.setting calls a.ops p st c)
            (keeps_then {b = b} 60 (m s) (run_list x.setting calls a.ops st c) (λ how st c. on_how how st c (run_list x.setting calls p)) (passes_next (run_list x.setting calls p)) (a.keeps left s st c tr b h w le)
            (λ flow s1 how1 st1 c1 tr1 b1 g w1 le1. ended flow left s1 how1 st1 c1 tr1 b1 g w1 le1));
      }
    where
      ended : (flow : Flow) (left : ℕ) (s1 : State Store) (how1 : How) (st1 : CodeState) (c1 : ℕ) (tr1 : Trace) (b1 : ℕ) → Leaves x left is_inside (outside + 1) flow s1 how1 st1 c1 → st1.world ≡ traced x.world tr1 → c1 ≤ b1 → Keeps x (LeavesOnce x left is_inside outside) tr1 (b1 + 60) (give flow s1) (on_how how1 st1 c1 (run_list x.setting calls (leave 0 ∷ [])))
      ended Next left s1 how1 st1 c1 tr1 b1 g w1 le1 = subst (λ z. Keeps x (LeavesOnce x left is_inside outside) tr1 (b1 + 60) (give Next s1) (on_how z st1 c1 (run_list x.setting calls (leave 0 ∷ [])))) (sym g.way)
          (keeps_give Next s1 _ (record { way = refl; holds = later (omega arith) g.holds }) w1 (omega arith))
      ended Exits left s1 how1 st1 c1 tr1 b1 g w1 le1 = subst (λ z. Keeps x (LeavesOnce x left is_inside outside) tr1 (b1 + 60) (give Exits s1) (on_how z st1 c1 (run_list x.setting calls (leave 0 ∷ [])))) (sym g.way.0)
          (keeps_give Exits s1 _ (record { way = (ap (λ k. Left k []) (next_of outside), g.way.1); holds = g.holds }) w1 (omega arith))

  -- an arm, and the arms behind it
  pub arm_does : {is_inside : Bool} {outside : ℕ} {m : Step Store Bool} {block rest : Step Store Flow} {code body made : Code} {t : Tested} → TestDoes x calls m code t → StatementDoes x calls is_inside (outside + 1) block (inside t.code) body → ArmsDo x calls is_inside outside 60 rest (with_arm t body) made →
      ArmsDo x calls is_inside outside 100 (m >>= λ b. if b then block else rest) code made
  arm_does {is_inside} {outside} {m} {block} {rest} {code} {body} {made} {t} a d e =
      let B = closed d in
      let first : List Op = body.ops ++ leave 0 ∷ [] in
      let p : List Op = where_tested t first [] ∷ e.ops in
      record {
        ops = a.ops ++ p;
        is = e.is ∙ append_assoc t.code.ops (where_tested t first [] ∷ []) e.ops ∙ ap (λ z. z ++ p) a.is ∙ append_assoc code.ops a.ops p;
        more = let q = a.more in let r = d.more in let u = e.more in omega arith;
        keeps = λ left s st c tr b h w le. keeps_is (runs_in_order x.setting calls a.ops p st c)
            (keeps_flow {b = b} 100 s m (λ b. if b then block else rest) (run_list x.setting calls a.ops st c) (λ how st c. on_how how st c (run_list x.setting calls p)) (passes_next (run_list x.setting calls p)) (a.keeps left s st c tr b h w le)
            (λ v s1 how1 st1 c1 tr1 b1 g w1 le1. subst (λ z. Keeps x (LeavesOnce x left is_inside outside) tr1 (b1 + 100) ((if v then block else rest) s1) (on_how z st1 c1 (run_list x.setting calls p))) (sym g.goes)
            (chosen_keeps x calls is_inside outside block rest first e.ops left v t code.next st.env s1 st1 c1 tr1 b1
            (λ st2 c2 d2 h2 w2 le2. subst (λ z. Keeps x (LeavesOnce x left is_inside outside) tr1 (d2 + 60) (block s1) (run_list x.setting calls z st2 c2)) (sym B.is) (B.keeps left s1 st2 c2 tr1 d2 h2 w2 le2))
            (λ st2 c2 d2 h2 w2 le2. e.keeps left s1 st2 c2 tr1 d2 h2 w2 le2) (tells_next g) w1 le1)));
      }

  pub paid_arm : {is_inside : Bool} {outside : ℕ} {m : Step Store Flow} {code made : Code} → ArmsDo x calls is_inside outside 100 m code made → ArmsDo x calls is_inside outside 60 (pay 1 >> m) code made
  paid_arm {m = m} a = record { ops = a.ops; is = a.is; more = a.more; keeps = λ left s st c tr b h w le. keeps_paid 1 s m _ (keeps_more (omega arith) (a.keeps left s st c tr b h w le)) }

  pub once_does : {is_inside : Bool} {outside : ℕ} {m : Step Store Flow} {code made : Code} → ArmsDo x calls is_inside outside 100 m (inside code) made → StatementDoes x calls is_inside outside (pay 1 >> m) code (enclosed code once made)
  once_does {is_inside} {outside} {m} {code} {made} a = record {
    ops = once made.ops ∷ [];
    is = refl;
    more = a.more;
    keeps = λ left s st c tr b h w le. keeps_paid 1 s m _ (keeps_is (then_none (run x.setting calls (once made.ops) st c) ∙ once_runs x.setting calls made.ops st c ∙ ap (λ z. after_run (cycle false) (code_rounds (cycle false) (run_list x.setting calls made.ops) (suc (st.turns + st.others)) true) (run_list x.setting calls z st (c + 4 + 0))) a.is)
        (let again : CodeState → ℕ → Run = code_rounds (cycle false) (run_list x.setting calls made.ops) (suc (st.turns + st.others)) true in
        keeps_more (omega arith) (keeps_then {b = b + 4 + 100} 0 (m s) (run_list x.setting calls a.ops st (c + 4 + 0)) (λ how st c. after_round (cycle false) again how st c) (passes_round x calls again) (a.keeps left s st (c + 4 + 0) tr (b + 4) (later (omega arith) h) w (omega arith))
        (λ flow s1 how1 st1 c1 tr1 b1 g w1 le1. unwrapped x calls again flow left s1 how1 st1 c1 tr1 b1 g w1 le1))));
  }

  -- the one statement, and then the other
  pub in_order : {is_inside : Bool} {outside : ℕ} {m n : Step Store Flow} {code middle made : Code} → StatementDoes x calls is_inside outside m code middle → StatementDoes x calls is_inside outside n middle made → StatementDoes x calls is_inside outside (m >>= λ flow. and_then flow n) code made
  in_order {is_inside} {outside} {m} {n} {code} {middle} {made} a d = record {
    ops = a.ops ++ d.ops;
    is = d.is ∙ ap (λ z. z ++ d.ops) a.is ∙ append_assoc code.ops a.ops d.ops;
    more = let p = a.more in let q = d.more in omega arith;
    keeps = λ left s st c tr b h w le. keeps_is (runs_in_order x.setting calls a.ops d.ops st c)
        (keeps_more (omega arith) (keeps_flow {b = b} 0 s m (λ flow. and_then flow n) (run_list x.setting calls a.ops st c) (λ how st c. on_how how st c (run_list x.setting calls d.ops)) (passes_next (run_list x.setting calls d.ops)) (a.keeps left s st c tr b h w le)
        (λ flow s1 how1 st1 c1 tr1 b1 g w1 le1. goes flow left s1 how1 st1 c1 tr1 b1 g w1 le1)));
  }
    where
      goes : (flow : Flow) (left : ℕ) (s : State Store) (how : How) (st : CodeState) (c : ℕ) (tr : Trace) (b : ℕ) → Leaves x left is_inside outside flow s how st c → st.world ≡ traced x.world tr → c ≤ b → Keeps x (Leaves x left is_inside outside) tr (b + 0) (and_then flow n s) (on_how how st c (run_list x.setting calls d.ops))
      goes Next left s how st c tr b g w le = subst (λ z. Keeps x (Leaves x left is_inside outside) tr (b + 0) (n s) (on_how z st c (run_list x.setting calls d.ops))) (sym g.way) (keeps_more (omega arith) (d.keeps left s st c tr b g.holds w le))
      goes Exits left s how st c tr b g w le = subst (λ z. Keeps x (Leaves x left is_inside outside) tr (b + 0) (give Exits s) (on_how z st c (run_list x.setting calls d.ops))) (sym g.way.0) (keeps_give Exits s _ (record { way = (refl, g.way.1); holds = g.holds }) w (omega arith))

module _ (x : Site) (calls : Calls) where
  fewer : {left j : ℕ} {s : State Store} {st : CodeState} {c : ℕ} → j ≤ left → Holds x j s st c → Holds x left s st c
  fewer le h = record { fixed = h.fixed; variables = h.variables; values = h.values; writable = h.writable; turns = h.turns; few = let q = h.few in omega arith; others = h.others; rooms = h.rooms }

  one_turn : {left j : ℕ} {s : State Store} {st : CodeState} {c : ℕ} → st.turns ≡ suc j → Holds x left s st c → Holds x j (record s { counts = turned s.counts }) (record st { turns = j }) c
  one_turn {left} {j} {s} {st} {c} is h = record {
    fixed = record { zero_below = h.fixed.zero_below; zero_is = h.fixed.zero_is; top_below = h.fixed.top_below; top_is = h.fixed.top_is };
    variables = lie_turned x.names h.variables;
    values = h.values;
    writable = h.writable;
    turns = let q = h.turns in let r : s.counts.turns + 1 + j ≡ x.turns = omega arith in r;
    few = omega arith;
    others = h.others;
    rooms = h.rooms;
  }
    where
      lie_turned : (names : List Named) → AllLie x s.store st names → AllLie x s.store (record st { turns = j }) names
      lie_turned [] l = tt
      lie_turned (n ∷ names) l = (record { below = l.0.below; address = l.0.address; inside = l.0.inside; stored = l.0.stored }, lie_turned names l.1)

  passes_rounds : (again : CodeState → ℕ → Run) → Passes (λ how st c. after_round (cycle true) again how st c)
  passes_rounds again = record { overs = λ v st c. refl; throws = λ kind line st c. refl }

  -- the rounds of a loop: the depth and the code's count are enough
  rounds_keep : (is_inside : Bool) (outside : ℕ) (body : Step Store Flow) (ops : List Op) →
      ((left : ℕ) (s : State Store) (st : CodeState) (c : ℕ) (tr : Trace) (b : ℕ) → Holds x left s st c → st.world ≡ traced x.world tr → c ≤ b → Keeps x (Leaves x left true 0) tr b (body s) (run_list x.setting calls ops st c)) →
      (depth n : ℕ) (again : Bool) (left : ℕ) (s : State Store) (st : CodeState) (c : ℕ) (tr : Trace) (b : ℕ) → Holds x left s st c → st.world ≡ traced x.world tr → c ≤ b → st.turns ≤ depth → st.turns < n →
      Keeps x (Leaves x left is_inside outside) tr (b + 20) (rounds x.turns 0 depth body s) (code_rounds (cycle true) (run_list x.setting calls ops) n again st c)
  rounds_keep is_inside outside body ops does depth zero again left s st c tr b h w le ld ln = absurd (omega arith)
  rounds_keep is_inside outside body ops does zero (suc n) again left s st c tr b h w le ld ln =
      subst (λ k. Keeps x (Leaves x left is_inside outside) tr (b + 20) (stop s) (on_run (turn_from k st c) (λ su i. after_run (cycle true) (code_rounds (cycle true) (run_list x.setting calls ops) n true) (run_list x.setting calls ops su i)))) (sym (none_left st.turns ld)) (keeps_stop s _ refl w (omega arith))
    where
      none_left : (k : ℕ) → k ≤ 0 → k ≡ 0
      none_left k le = omega arith
  rounds_keep is_inside outside body ops does (suc depth) (suc n) again left s st c tr b h w le ld ln =
      let rest : CodeState → ℕ → Run = code_rounds (cycle true) (run_list x.setting calls ops) n true in
      let K : Flow → Step Store Flow = λ flow. unless_left flow (rounds x.turns 0 depth body) in
      keeps_turn {b = b + 20} left st.turns s st c (pay 0 >> (body >>= K)) (λ su i. after_run (cycle true) rest (run_list x.setting calls ops su i)) h w (omega arith) refl λ j is.
      let s' : State Store = record s { counts = turned s.counts } in
      let st' : CodeState = record st { turns = j } in
      keeps_paid 0 s' (body >>= K) _
      (keeps_more (omega arith) (keeps_flow {b = b} 24 s' body K (run_list x.setting calls ops st' c) (λ how st c. after_round (cycle true) rest how st c) (passes_rounds rest) (does j s' st' c tr b (one_turn is h) w le)
      (λ flow s1 how1 st1 c1 tr1 b1 g w1 le1. follows (λ s2 st2 c2 tr2 b2 h2 w2 le2 ld2 ln2. rounds_keep is_inside outside body ops does depth n true left s2 st2 c2 tr2 b2 h2 w2 le2 ld2 ln2) j is flow s1 how1 st1 c1 tr1 b1 g w1 le1)))
    where
      follows : ((s2 : State Store) (st2 : CodeState) (c2 : ℕ) (tr2 : Trace) (b2 : ℕ) → Holds x left s2 st2 c2 → st2.world ≡ traced x.world tr2 → c2 ≤ b2 → st2.turns ≤ depth → st2.turns < n → Keeps x (Leaves x left is_inside outside) tr2 (b2 + 20) (rounds x.turns 0 depth body s2) (code_rounds (cycle true) (run_list x.setting calls ops) n true st2 c2)) → (j : ℕ) → st.turns ≡ suc j → (flow : Flow) (s1 : State Store) (how1 : How) (st1 : CodeState) (c1 : ℕ) (tr1 : Trace) (b1 : ℕ) → Leaves x j true 0 flow s1 how1 st1 c1 → st1.world ≡ traced x.world tr1 → c1 ≤ b1 →
          Keeps x (Leaves x left is_inside outside) tr1 (b1 + 24) (unless_left flow (rounds x.turns 0 depth body) s1) (after_round (cycle true) (code_rounds (cycle true) (run_list x.setting calls ops) n true) how1 st1 c1)
      follows more j is Next s1 how1 st1 c1 tr1 b1 g w1 le1 =
          let f = g.holds.few in let fl = h.few in
          subst (λ z. Keeps x (Leaves x left is_inside outside) tr1 (b1 + 24) (rounds x.turns 0 depth body s1) (after_round (cycle true) (code_rounds (cycle true) (run_list x.setting calls ops) n true) z st1 c1)) (sym g.way)
          (keeps_more (omega arith) (more s1 st1 (c1 + 4 + 0) tr1 (b1 + 4) (fewer (omega arith) (later (omega arith) g.holds)) w1 (omega arith) (omega arith) (omega arith)))
      follows more j is Exits s1 how1 st1 c1 tr1 b1 g w1 le1 =
          let f = g.holds.few in let fl = h.few in
          subst (λ z. Keeps x (Leaves x left is_inside outside) tr1 (b1 + 24) (give Next s1) (after_round (cycle true) (code_rounds (cycle true) (run_list x.setting calls ops) n true) z st1 c1)) (sym g.way.0)
          (keeps_give Next s1 _ (record { way = refl; holds = fewer (omega arith) g.holds }) w1 (omega arith))

  pub loop_does : {is_inside : Bool} {outside depth : ℕ} {body : Step Store Flow} {code made : Code} → x.turns ≤ depth → StatementDoes x calls true 0 body (inside code) made → StatementDoes x calls is_inside outside (pay 1 >> rounds x.turns 0 depth body) code (enclosed code repeat made)
  loop_does {is_inside} {outside} {depth} {body} {code} {made} enough a = record {
    ops = repeat made.ops ∷ [];
    is = refl;
    more = a.more;
    keeps = λ left s st c tr b h w le.
        let q = h.turns in
        keeps_paid 1 s (rounds x.turns 0 depth body) _ (keeps_is (then_none (run x.setting calls (repeat made.ops) st c) ∙ repeat_runs x.setting calls made.ops st c)
        (keeps_more (omega arith) (rounds_keep is_inside outside body made.ops (λ left s st c tr b h w le. subst (λ z. Keeps x (Leaves x left true 0) tr b (body s) (run_list x.setting calls z st c)) (sym a.is) (a.keeps left s st c tr b h w le)) depth (suc (suc (st.turns + st.others))) false left s st (c + 4 + 0) tr (b + 4) (later (omega arith) h) w (omega arith) (omega arith) (omega arith))));
  }
