-- Statements without blocks, but for `put`.
use Rattle.std.proofs.Common.{◌≡◌, ℕ, ◌+◌, ◌≤◌, Bool, true, false, List, [], ◌∷◌, ◌++◌, refl, sym, ◌∙◌, ap, subst, arith, append_assoc, Some, map}
use Rattle.std.specs.Prelude.{if◌then◌else◌, ℤ}
use Rattle.std.specs.List.{list_any}
use Rattle.std.specs.Str.{bytes_eq}
use Rattle.tu_base.specs.Trace.{Trace}
use Rattle.rv_image.specs.Streams.{traced}
use Rattle.ir_form.specs.declared.op.Op.{Op}
use Rattle.ir_form.specs.Cells.{with_word}
use Rattle.ir_form.specs.Plain.{Calls}
use Rattle.ir_form.specs.Meaning.{run_list, run}
use Rattle.ir_form.specs.State.{State as CodeState, Env, How, Next as goes_on, chosen, on_run, on_how}
use Rattle.ir_code.specs.Pieces.{leave}
use Rattle.ir_code.specs.Laws.{done}
use Rattle.ir_code.specs.declared.code.Code.{Code}
use Rattle.ir_code.proofs.Running.{runs_in_order}
use Rattle.ir_code.proofs.Steps.{chosen_runs}
use Rattle.tu_token.specs.Rules.{r-expr, t as lexeme}
use Rattle.tu_token.specs.declared.class.Class.TheVariants.{Name, SignAssign, WordExit, WordWhen}
use Rattle.tu_expr.specs.Parts.{Part}
use Rattle.grammar.specs.Tree.{Mark}
use Rattle.tu_token.specs.Syntax.{Of}
use Rattle.tu_expr.specs.Forms.{NoMore, Path}
use Rattle.tu_tree.specs.Forms.{Assign, Simple, Exit, ExitWhen}
use Rattle.tu_tree_meaning.specs.Interpreter.{Flow, Next, Exits, evaluate, condition, execute_simple, locate}
use Rattle.tu_base.specs.Scalars.{is_int}
use Rattle.tu_tree_meaning.specs.Steps.{State, Step, give, pay, change, ◌>>=◌, ◌>>◌}
use Rattle.tu_tree_meaning.specs.Store.{Store, by_copying, assign_root}
use Rattle.tu_tree_meaning.specs.Values.{Value, Int, Variable, variable_of, Place, place_of, Global}
use Rattle.tu_value.specs.Comparisons.{Comparison, compares}
use Rattle.tu_value.specs.Words.{word_of_int}
use Rattle.tu_value.specs.Pieces.{store_code}
use Rattle.tu_value.specs.Meets.{StoresWord}
use Rattle.tu_value.proofs.Leaves.{store_runs}
use Rattle.ir_build.specs.Keeps.{Named, Site, word_at, stored_word, IsStored, Holds, Keeps, Gives, Tells}
use Rattle.ir_build.specs.Code.{Tested, where_tested, code_expr, test_expr}
use Rattle.ir_build.specs.Built.{is_built, is_tested}
use Rattle.ir_build.proofs.Words.{passes_next, keeps_flow, keeps_is, keeps_more, keeps_paid, keeps_give, keeps_given, keeps_grouped, keeps_change}
use Rattle.ir_build.proofs.States.{holds_still, Found, find, lies_of}
use Rattle.ir_build.proofs.Conditions.{expressions_do}
use Rattle.ir_build.proofs.Conditions.{conditions_do}
use Rattle.ir_stmt.specs.Leaves.{Leaves}
use Rattle.ir_stmt.specs.Code.{stored, code_simple}
use Rattle.ir_stmt.proofs.Stores.{IsOrdered, stored_holds}

-- Code that does a statement, in its place behind the code so far.
pub record StatementDoes (x : Site) (calls : Calls) (is_inside : Bool) (outside : ℕ) (m : Step Store Flow) (code made : Code) : Type 0 where
  pub ops : List Op
  pub is : made.ops ≡ code.ops ++ ops
  pub more : code.next ≤ made.next
  pub keeps : (left : ℕ) (s : State Store) (st : CodeState) (c : ℕ) (tr : Trace) (b : ℕ) → Holds x left s st c → st.world ≡ traced x.world tr → c ≤ b → Keeps x (Leaves x left is_inside outside) tr b (m s) (run_list x.setting calls ops st c)

-- a test chooses as it tells
pub where_runs : (x : Site) (calls : Calls) (t : Tested) (first others : List Op) (w o : ℕ) (b : Bool) (st : CodeState) (c : ℕ) → st.env t.left ≡ Some w → st.env t.right ≡ Some o → compares t.comparison w o ≡ b → run x.setting calls (where_tested t first others) st c ≡ chosen b (done x.setting calls first) (done x.setting calls others) st (c + 13)
where_runs x calls t first others w o b st c e f h = by t.comparison.swapped h
  where
    by : (turned : Bool) → compares (record t.comparison { swapped = turned }) w o ≡ b → run x.setting calls (where_tested (record t { comparison = record t.comparison { swapped = turned } }) first others) st c ≡ chosen b (done x.setting calls first) (done x.setting calls others) st (c + 13)
    by true h = chosen_runs x.setting calls t.comparison.relation t.right t.left o w first others b st c f e h
    by false h = chosen_runs x.setting calls t.comparison.relation t.left t.right w o first others b st c e f h

-- where the code goes on, it does
pub int_given : {x : Site} {left at base : ℕ} {env : Env} {v : Value} {s : State Store} {how : How} {st : CodeState} {c : ℕ} (g : Gives x left at base env v s how st c) → Gives x left at base env (Int g.int) s goes_on st c
int_given g = record { goes = refl; holds = g.holds; int = g.int; is = refl; small = g.small; result = g.result; kept = g.kept }

pub tells_next : {x : Site} {left : ℕ} {k : Comparison} {a d base : ℕ} {env : Env} {b : Bool} {s : State Store} {how : How} {st : CodeState} {c : ℕ} → Tells x left k a d base env b s how st c → Tells x left k a d base env b s goes_on st c
tells_next g = record { goes = refl; holds = g.holds; word = g.word; other = g.other; first_is = g.first_is; second_is = g.second_is; says = g.says; kept = g.kept }

module _ (x : Site) (calls : Calls) (depth : ℕ) (ordered : IsOrdered x.names) where
  abbrev declared : List Variable
  declared = map (λ (n : Named). n.name) x.names

  store_does : (left : ℕ) (y : Variable) (f : Found y x.names) (value : ℕ) (z : ℤ) (s : State Store) (st : CodeState) (c : ℕ) (tr : Trace) (b base : ℕ) (env : Env) (is_inside : Bool) (outside : ℕ) → Gives x left value base env (Int z) s goes_on st c → st.world ≡ traced x.world tr → c ≤ b →
      Keeps x (Leaves x left is_inside outside) tr (b + 7) ((change (λ s. assign_root s (Global y) (Int z)) >> give Next) s) (run_list x.setting calls (store_code f.it.at value) st c)
  store_does left y f value z s st c tr b base env is_inside outside g w le =
      let l = lies_of x s.store st y f.it x.names f.is g.holds.variables in
      let r = run_list x.setting calls (store_code f.it.at value) st c in
      let q : StoresWord (word_at x.setting f.it.word) (word_of_int g.int) st c r = store_runs x.setting calls f.it.at value (word_at x.setting f.it.word) (word_of_int g.int) st c l.address g.result (g.holds.writable f.it.word l.inside) in
      let same : word_of_int g.int ≡ stored_word (Int z) = ap stored_word (sym g.is) in
      keeps_change (λ s. assign_root s (Global y) (Int z)) (give Next) s r (keeps_give Next _ r (record {
        way = q.how;
        holds = subst (λ (su : CodeState). Holds x left (record s { store = assign_root s.store (Global y) (Int z) }) su r.cost) (sym (q.state ∙ ap (λ v. record st { cells = with_word st.cells (word_at x.setting f.it.word) v }) same))
            (subst (λ n. Holds x left (record s { store = assign_root s.store (Global n) (Int z) }) (record st { cells = with_word st.cells (word_at x.setting f.it.word) (stored_word (Int z)) }) r.cost) (sym f.name)
            (stored_holds x left s st c r.cost y f.it (Int z) ordered f.is (small_int z g.int g.is g.small) q.costs.begun g.holds));
      }) (ap (λ (su : CodeState). su.world) q.state ∙ w) (let u = q.costs.bound in omega arith))
    where
      small_int : (z i : ℤ) → Int z ≡ Int i → is_int i ≡ true → is_int z ≡ true
      small_int z i e h = subst (λ v. IsStored v) (sym e) h

  pub assign_does : (is_inside : Bool) (outside : ℕ) (m mp : Mark) (root : Part (lexeme Name)) (sign : Part (lexeme SignAssign)) (e : Of r-expr) → list_any (bytes_eq (variable_of root)) declared ≡ true → is_built declared e ≡ true → (code : Code) → x.low ≤ code.next →
      StatementDoes x calls is_inside outside (execute_simple Store by_copying x.turns depth [] (Assign m (Path mp root NoMore) sign e)) code (code_simple x.fixed x.names outside (Assign m (Path mp root NoMore) sign e) code)
  assign_does is_inside outside m mp root sign e d b code low =
      let y = variable_of root in
      let f = find y x.names d in
      let a = expressions_do x calls depth m.line e b code low in
      let made = code_expr x.fixed x.names m.line e code in
      let p = place_of y in
      let K : Place → Step Store Flow = λ place. evaluate Store by_copying x.turns depth [] m.line e >>= λ v. change (λ s. assign_root s place.root v) >> give Next in
      subst (λ z. StatementDoes x calls is_inside outside (execute_simple Store by_copying x.turns depth [] (Assign m (Path mp root NoMore) sign e)) code (stored x.fixed x.names made.code z made.value)) (sym f.is) (record {
        ops = a.ops ++ store_code f.it.at made.value;
        is = ap (λ z. z ++ store_code f.it.at made.value) a.is ∙ append_assoc code.ops a.ops (store_code f.it.at made.value);
        more = let q = a.more in omega arith;
        keeps = λ left s st c tr b h w le. keeps_paid 1 s (locate Store by_copying x.turns depth [] m.line (Path mp root NoMore) >>= K) _ (keeps_grouped (pay 1) (λ _. give p) K s _ (keeps_paid 1 s (give p >>= K) _ (keeps_given p K s _
            (keeps_is (runs_in_order x.setting calls a.ops (store_code f.it.at made.value) st c)
            (keeps_more (omega arith) (keeps_flow {b = b} 7 s (evaluate Store by_copying x.turns depth [] m.line e) (λ v. change (λ s. assign_root s (Global y) v) >> give Next) (run_list x.setting calls a.ops st c) (λ how st c. on_how how st c (run_list x.setting calls (store_code f.it.at made.value))) (passes_next (run_list x.setting calls (store_code f.it.at made.value))) (a.keeps left s st c tr b h w le)
            (λ v s1 how1 st1 c1 tr1 b1 g w1 le1.
            subst (λ z. Keeps x (Leaves x left is_inside outside) tr1 (b1 + 7) ((change (λ s. assign_root s (Global y) v) >> give Next) s1) (on_how z st1 c1 (run_list x.setting calls (store_code f.it.at made.value)))) (sym g.goes)
            (subst (λ z. Keeps x (Leaves x left is_inside outside) tr1 (b1 + 7) ((change (λ s. assign_root s (Global y) z) >> give Next) s1) (run_list x.setting calls (store_code f.it.at made.value) st1 c1)) (sym g.is)
            (store_does left y f made.value g.int s1 st1 c1 tr1 b1 code.next st.env is_inside outside (int_given g) w1 le1)))))))));
      })

  pub exit_does : (outside : ℕ) (m : Mark) (word : Part (lexeme WordExit)) (code : Code) → x.low ≤ code.next → StatementDoes x calls true outside (execute_simple Store by_copying x.turns depth [] (Simple m (Exit word))) code (code_simple x.fixed x.names outside (Simple m (Exit word)) code)
  exit_does outside m word code low = record {
    ops = leave outside ∷ [];
    is = refl;
    more = omega arith;
    keeps = λ left s st c tr b h w le. keeps_paid 1 s (give Exits) _ (keeps_give Exits s _ (record { way = (refl, refl); holds = holds_still st.env (λ j lt. refl) (omega arith) h }) w (omega arith));
  }

  -- a test, and the end of a loop where it holds
  left_does : (left outside : ℕ) (t : Tested) (base : ℕ) (env : Env) (b : Bool) (s : State Store) (st : CodeState) (c : ℕ) (tr : Trace) (d : ℕ) → Tells x left t.comparison t.left t.right base env b s goes_on st c → st.world ≡ traced x.world tr → c ≤ d →
      Keeps x (Leaves x left true outside) tr (d + 60) (give (if b then Exits else Next) s) (run_list x.setting calls (where_tested t (leave outside ∷ []) [] ∷ []) st c)
  left_does left outside t base env true s st c tr d g w le = keeps_is (ap (λ r. on_run r (run_list x.setting calls [])) (where_runs x calls t (leave outside ∷ []) [] g.word g.other true st c g.first_is g.second_is g.says))
      (keeps_give Exits s _ (record { way = (refl, refl); holds = holds_still st.env (λ j lt. refl) (omega arith) g.holds }) w (omega arith))
  left_does left outside t base env false s st c tr d g w le = keeps_is (ap (λ r. on_run r (run_list x.setting calls [])) (where_runs x calls t (leave outside ∷ []) [] g.word g.other false st c g.first_is g.second_is g.says))
      (keeps_give Next s _ (record { way = refl; holds = holds_still st.env (λ j lt. refl) (omega arith) g.holds }) w (omega arith))

  pub exit_when_does : (outside : ℕ) (m : Mark) (word : Part (lexeme WordExit)) (when : Part (lexeme WordWhen)) (e : Of r-expr) → is_tested declared e ≡ true → (code : Code) → x.low ≤ code.next → StatementDoes x calls true outside (execute_simple Store by_copying x.turns depth [] (Simple m (ExitWhen word when e))) code (code_simple x.fixed x.names outside (Simple m (ExitWhen word when e)) code)
  exit_when_does outside m word when e b code low =
      let a = conditions_do x calls depth m.line e b code low in
      let t = test_expr x.fixed x.names m.line e code in
      let p : List Op = where_tested t (leave outside ∷ []) [] ∷ [] in
      record {
        ops = a.ops ++ p;
        is = ap (λ z. z ++ p) a.is ∙ append_assoc code.ops a.ops p;
        more = a.more;
        keeps = λ left s st c tr b h w le. keeps_paid 1 s (condition Store by_copying x.turns depth [] m.line e >>= λ leaves. give (if leaves then Exits else Next)) _
            (keeps_is (runs_in_order x.setting calls a.ops p st c)
            (keeps_more (omega arith) (keeps_flow {b = b} 60 s (condition Store by_copying x.turns depth [] m.line e) (λ leaves. give (if leaves then Exits else Next)) (run_list x.setting calls a.ops st c) (λ how st c. on_how how st c (run_list x.setting calls p)) (passes_next (run_list x.setting calls p)) (a.keeps left s st c tr b h w le)
            (λ v s1 how1 st1 c1 tr1 b1 g w1 le1.
            subst (λ z. Keeps x (Leaves x left true outside) tr1 (b1 + 60) (give (if v then Exits else Next) s1) (on_how z st1 c1 (run_list x.setting calls p))) (sym g.goes)
            (left_does left outside t code.next st.env v s1 st1 c1 tr1 b1 (tells_next g) w1 le1)))));
      }
