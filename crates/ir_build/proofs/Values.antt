-- Expressions: one clause for each form.
use Rattle.std.proofs.Common.{◌≡◌, ℕ, ◌+◌, ◌*◌, ◌<◌, ◌≤◌, Bool, true, false, List, [], ◌++◌, refl, sym, ◌∙◌, ap, subst, arith, append_assoc, Some}
use Rattle.std.specs.Prelude.{if◌then◌else◌, ℤ, pos}
use Rattle.std.proofs.lemmas.List.{append-nil}
use Rattle.tu_base.specs.declared.kind.Kind.TheVariants as kind
use Rattle.tu_base.specs.Scalars as scalars
use Rattle.tu_base.specs.Scalars.{is_int}
use Rattle.tu_base.specs.Trace.{Trace}
use Rattle.rv_image.specs.Streams.{traced}
use Rattle.ir_form.specs.declared.op.Op.{Op}
use Rattle.ir_form.specs.Plain.{Calls}
use Rattle.ir_form.specs.Meaning.{run_list}
use Rattle.ir_form.specs.State.{State as CodeState, Env, How, Next, Left, Throws, Ends, Over, Run, next, on_run, on_how}
use Rattle.ir_code.proofs.Running.{runs_in_order}
use Rattle.ir_code.specs.declared.code.Code.{Code}
use Rattle.tu_tree_meaning.specs.Operators.{Answer, Gives as AnswersWith, Raises, exact}
use Rattle.tu_tree_meaning.specs.Interpreter.{answered}
use Rattle.tu_tree_meaning.specs.Steps.{State, Step, give, pay, ◌>>=◌, ◌>>◌}
use Rattle.tu_tree_meaning.specs.Store.{Store}
use Rattle.tu_tree_meaning.specs.Values.{Value, Int}
use Rattle.tu_value.specs.Words.{word_of_int}
use Rattle.tu_value.specs.Meets.{OnlyFrom, GivesInt, Meets, HasFixed}
use Rattle.ir_build.specs.Keeps.{factor, Site, Holds, Post, Keeps, Gives}
use Rattle.ir_build.specs.Code.{Made, with_values}
use Rattle.ir_build.specs.Does.{Does}
use Rattle.ir_build.proofs.Words.{passes_next, keeps_flow, keeps_is, keeps_more, keeps_paid, keeps_give, keeps_raise}
use Rattle.ir_build.proofs.States.{holds_only, fixed_above}

-- what a piece leaves, seen from before it
pub after_piece : {x : Site} {left n at base : ℕ} {env : Env} (z : ℤ) (s : State Store) (st : CodeState) (c most : ℕ) (r : Run) → x.low ≤ n → base ≤ n → Holds x left s st c → ((j : ℕ) → j < base → st.env j ≡ env j) → is_int z ≡ true → GivesInt n at most z st c r → Gives x left at base env (Int z) s r.how r.state r.cost
after_piece z s st c most r ln lb h kept small g = record {
  goes = g.how;
  holds = holds_only g.only ln g.costs.begun h;
  int = z;
  is = refl;
  small = small;
  result = g.result;
  kept = λ j lt. g.only.kept j (omega arith) ∙ kept j lt;
}

pub world_of : {n : ℕ} {st su : CodeState} → OnlyFrom n st su → su.world ≡ st.world
world_of o = ap (λ (z : CodeState). z.world) o.same

module _ {x : Site} where
  -- an operator's answer, and what its piece comes to
  exact_keeps : {left at base n most : ℕ} {env : Env} {tr : Trace} {b : ℕ} (line : ℕ) (z : ℤ) (big : Bool) (s : State Store) (st : CodeState) (c : ℕ) (r : Run) → is_int z ≡ big → x.low ≤ n → base ≤ n → most ≤ factor → Holds x left s st c → ((j : ℕ) → j < base → st.env j ≡ env j) → st.world ≡ traced x.world tr → c ≤ b →
      Meets line n at most (if big then scalars.Gives z 0 else scalars.Raises kind.Overflow 0) st c r → Keeps x (Gives x left at base env) tr (b + factor) (answered line (if big then AnswersWith (Int z) else Raises kind.Overflow) s) r
  exact_keeps line z true s st c r e ln lb lm h kept w le m = keeps_give (Int z) s r (after_piece z s st c _ r ln lb h kept e m) (world_of m.only ∙ w) (let q = m.costs.bound in omega arith)
  exact_keeps line z false s st c r e ln lb lm h kept w le m = keeps_raise kind.Overflow line s r m.how (world_of m.only ∙ w) (let q = m.costs.bound in omega arith)

  pub answer_keeps : {left at base n most : ℕ} {env : Env} {tr : Trace} {b : ℕ} (line : ℕ) (z : ℤ) (s : State Store) (st : CodeState) (c : ℕ) (r : Run) → x.low ≤ n → base ≤ n → most ≤ factor → Holds x left s st c → ((j : ℕ) → j < base → st.env j ≡ env j) → st.world ≡ traced x.world tr → c ≤ b →
      Meets line n at most (scalars.exact z) st c r → Keeps x (Gives x left at base env) tr (b + factor) (answered line (exact z) s) r
  answer_keeps line z s st c r ln lb lm h kept w le m = exact_keeps line z (is_int z) s st c r refl ln lb lm h kept w le m

-- the piece of an operator does what the operator says
pub record Operator (x : Site) (line : ℕ) (calls : Calls) (op : ℤ → ℤ → ℤ) (piece : (left right n : ℕ) → List Op) (at : ℕ) : Type 0 where
  pub most : ℕ
  pub small : most ≤ factor
  pub meets : (left right n : ℕ) (y z : ℤ) (st : CodeState) (c : ℕ) → is_int y ≡ true → is_int z ≡ true → HasFixed x.fixed n st → left < n → right < n → st.env left ≡ Some (word_of_int y) → st.env right ≡ Some (word_of_int z) → Meets line n (n + at) most (scalars.exact (op y z)) st c (run_list x.setting calls (piece left right n) st c)

-- and that of one whose right operand is a number
pub record Shortcut (x : Site) (line : ℕ) (calls : Calls) (op : ℤ → ℤ → ℤ) (piece : (left number n : ℕ) → List Op) : Type 0 where
  pub most : ℕ
  pub small : most ≤ factor
  pub meets : (left number n : ℕ) (y : ℤ) (st : CodeState) (c : ℕ) → is_int y ≡ true → number ≤ 2147483647 → HasFixed x.fixed n st → left < n → st.env left ≡ Some (word_of_int y) → Meets line n (n + 1) most (scalars.exact (op y (pos number))) st c (run_list x.setting calls (piece left number n) st c)

-- a step that does nothing but give a number, for a unit
pub record IsNumber (m : Step Store Value) (number : ℕ) : Type 1 where
  pub small : number ≤ 2147483647
  pub goes_on : {x : Site} {B : Type 0} {Q : Post B} {tr : Trace} {b : ℕ} (k : Value → Step Store B) (s : State Store) (f : Run) → Keeps x Q tr (b + factor * 1) (k (Int (pos number)) s) f → Keeps x Q tr b ((m >>= k) s) f

-- Code that does a step which begins with an int, behind the code that gives this.
pub record DoesFrom (x : Site) (calls : Calls) (base : ℕ) (m : Value → Step Store Value) (from made : Made) : Type 0 where
  pub ops : List Op
  pub is : made.code.ops ≡ from.code.ops ++ ops
  pub more : from.code.next ≤ made.code.next
  pub value : made.value < made.code.next
  pub keeps : (left : ℕ) (env : Env) (v : Value) (s : State Store) (how : How) (st : CodeState) (c : ℕ) (tr : Trace) (b : ℕ) → Gives x left from.value base env v s how st c → st.world ≡ traced x.world tr → c ≤ b → Keeps x (Gives x left made.value base env) tr b (m v s) (on_how how st c (run_list x.setting calls ops))

pub then_none : (f : Run) → on_run f next ≡ f
then_none f = by f.how f.state f.cost
  where
    by : (how : How) (st : CodeState) (c : ℕ) → on_how how st c next ≡ record { how = how; state = st; cost = c }
    by Next st c = refl
    by (Left k ws) st c = refl
    by (Throws kind line) st c = refl
    by (Ends ws) st c = refl
    by (Over v) st c = refl

module _ {x : Site} {calls : Calls} where
  -- a part that gives a value, and what goes on with it
  pub does_then : {m : Step Store Value} {k : Value → Step Store Value} {code : Code} {first made : Made} → Does x calls m code first → DoesFrom x calls code.next k first made → Does x calls (m >>= k) code made
  does_then {m = m} {k = k} {code = code} {first = first} {made = made} a f = record {
    ops = a.ops ++ f.ops;
    is = f.is ∙ ap (λ z. z ++ f.ops) a.is ∙ append_assoc code.ops a.ops f.ops;
    more = let p = a.more in let q = f.more in omega arith;
    value = f.value;
    keeps = λ left s st c tr b h w le. keeps_is (runs_in_order x.setting calls a.ops f.ops st c)
        (keeps_more (omega arith) (keeps_flow {b = b} 0 s m k (run_list x.setting calls a.ops st c) (λ how st c. on_how how st c (run_list x.setting calls f.ops)) (passes_next (run_list x.setting calls f.ops)) (a.keeps left s st c tr b h w le)
        (λ v s1 how st1 c1 tr1 b1 g w1 le1. keeps_more (omega arith) (f.keeps left st.env v s1 how st1 c1 tr1 b1 g w1 le1))));
  }

  -- nothing more is done
  pub does_no_more : (base : ℕ) (from : Made) → from.value < from.code.next → DoesFrom x calls base give from from
  does_no_more base from lt = record {
    ops = [];
    is = sym (append-nil from.code.ops);
    more = omega arith;
    value = lt;
    keeps = λ left env v s how st c tr b g w le. keeps_is (then_none (record { how = how; state = st; cost = c })) (keeps_give v s (record { how = how; state = st; cost = c }) g w le);
  }

  -- an operand behind an operator, the operator's piece, and what follows
  pub does_operator : (base line at count : ℕ) (f : Value → Value → Answer) (op : ℤ → ℤ → ℤ) (piece : (left right n : ℕ) → List Op) (m : Step Store Value) (k : Value → Step Store Value) (from y made : Made) → ((a b : ℤ) → f (Int a) (Int b) ≡ exact (op a b)) → Operator x line calls op piece at → x.low ≤ from.code.next → base ≤ from.code.next → from.value < from.code.next → at < count →
      Does x calls m from.code y → DoesFrom x calls base k (with_values y.code (piece from.value y.value) count at) made → DoesFrom x calls base (λ v. pay 1 >> (m >>= λ w. answered line (f v w) >>= k)) from made
  does_operator base line at count f op piece m k from y made is o ln lb lv la a rest =
      let p : List Op = piece from.value y.value y.code.next in
      record {
        ops = a.ops ++ (p ++ rest.ops);
        is = rest.is ∙ append_assoc y.code.ops p rest.ops ∙ ap (λ z. z ++ (p ++ rest.ops)) a.is ∙ append_assoc from.code.ops a.ops (p ++ rest.ops);
        more = let q = a.more in let r = rest.more in omega arith;
        value = rest.value;
        keeps = λ left env v s how st c tr b g w le.
            subst (λ z. Keeps x (Gives x left made.value base env) tr b ((pay 1 >> (m >>= λ u. answered line (f z u) >>= k)) s) (on_how how st c (run_list x.setting calls (a.ops ++ (p ++ rest.ops))))) (sym g.is)
            (subst (λ z. Keeps x (Gives x left made.value base env) tr b ((pay 1 >> (m >>= λ u. answered line (f (Int g.int) u) >>= k)) s) (on_how z st c (run_list x.setting calls (a.ops ++ (p ++ rest.ops))))) (sym g.goes)
            (keeps_paid 1 s (m >>= λ u. answered line (f (Int g.int) u) >>= k) _ (keeps_is (runs_in_order x.setting calls a.ops (p ++ rest.ops) st c)
            (keeps_more (omega arith) (keeps_flow {b = b} factor s m (λ u. answered line (f (Int g.int) u) >>= k) (run_list x.setting calls a.ops st c) (λ how st c. on_how how st c (run_list x.setting calls (p ++ rest.ops))) (passes_next (run_list x.setting calls (p ++ rest.ops))) (a.keeps left s st c tr b g.holds w le)
            λ u s1 how1 st1 c1 tr1 b1 g1 w1 le1.
            subst (λ z. Keeps x (Gives x left made.value base env) tr1 (b1 + factor) ((answered line (f (Int g.int) z) >>= k) s1) (on_how how1 st1 c1 (run_list x.setting calls (p ++ rest.ops)))) (sym g1.is)
            (subst (λ z. Keeps x (Gives x left made.value base env) tr1 (b1 + factor) ((answered line (f (Int g.int) (Int g1.int)) >>= k) s1) (on_how z st1 c1 (run_list x.setting calls (p ++ rest.ops)))) (sym g1.goes)
            (subst (λ z. Keeps x (Gives x left made.value base env) tr1 (b1 + factor) ((answered line z >>= k) s1) (run_list x.setting calls (p ++ rest.ops) st1 c1)) (sym (is g.int g1.int))
            (keeps_is (runs_in_order x.setting calls p rest.ops st1 c1)
            (keeps_more (omega arith) (keeps_flow {b = b1 + factor} 0 s1 (answered line (exact (op g.int g1.int))) k (run_list x.setting calls p st1 c1) (λ how st c. on_how how st c (run_list x.setting calls rest.ops)) (passes_next (run_list x.setting calls rest.ops))
            (let more = a.more in
            answer_keeps line (op g.int g1.int) s1 st1 c1 (run_list x.setting calls p st1 c1) (omega arith) (omega arith) o.small g1.holds (λ j lt. g1.kept j (omega arith) ∙ g.kept j lt) w1 le1
            (o.meets from.value y.value y.code.next g.int g1.int st1 c1 g.small g1.small (fixed_above x (omega arith) g1.holds.fixed) (omega arith) a.value (g1.kept from.value lv ∙ g.result) g1.result))
            (λ v2 s2 how2 st2 c2 tr2 b2 g2 w2 le2. keeps_more (omega arith) (rest.keeps left env v2 s2 how2 st2 c2 tr2 b2 g2 w2 le2))))))))))));
      }

  -- the same with a number behind the operator
  pub does_shortcut : (base line number : ℕ) (f : Value → Value → Answer) (op : ℤ → ℤ → ℤ) (piece : (left number n : ℕ) → List Op) (m : Step Store Value) (k : Value → Step Store Value) (from made : Made) → ((a b : ℤ) → f (Int a) (Int b) ≡ exact (op a b)) → Shortcut x line calls op piece → IsNumber m number → x.low ≤ from.code.next → base ≤ from.code.next → from.value < from.code.next →
      DoesFrom x calls base k (with_values from.code (piece from.value number) 2 1) made → DoesFrom x calls base (λ v. pay 1 >> (m >>= λ w. answered line (f v w) >>= k)) from made
  does_shortcut base line number f op piece m k from made is o a ln lb lv rest =
      let p : List Op = piece from.value number from.code.next in
      record {
        ops = p ++ rest.ops;
        is = rest.is ∙ append_assoc from.code.ops p rest.ops;
        more = let r = rest.more in omega arith;
        value = rest.value;
        keeps = λ left env v s how st c tr b g w le.
            subst (λ z. Keeps x (Gives x left made.value base env) tr b ((pay 1 >> (m >>= λ u. answered line (f z u) >>= k)) s) (on_how how st c (run_list x.setting calls (p ++ rest.ops)))) (sym g.is)
            (subst (λ z. Keeps x (Gives x left made.value base env) tr b ((pay 1 >> (m >>= λ u. answered line (f (Int g.int) u) >>= k)) s) (on_how z st c (run_list x.setting calls (p ++ rest.ops)))) (sym g.goes)
            (keeps_paid 1 s (m >>= λ u. answered line (f (Int g.int) u) >>= k) _ (a.goes_on (λ u. answered line (f (Int g.int) u) >>= k) s _
            (subst (λ z. Keeps x (Gives x left made.value base env) tr (b + factor * 1 + factor * 1) ((answered line z >>= k) s) (run_list x.setting calls (p ++ rest.ops) st c)) (sym (is g.int (pos number)))
            (keeps_is (runs_in_order x.setting calls p rest.ops st c)
            (keeps_more (omega arith) (keeps_flow {b = b + factor} 0 s (answered line (exact (op g.int (pos number)))) k (run_list x.setting calls p st c) (λ how st c. on_how how st c (run_list x.setting calls rest.ops)) (passes_next (run_list x.setting calls rest.ops))
            (answer_keeps line (op g.int (pos number)) s st c (run_list x.setting calls p st c) ln lb o.small g.holds g.kept w le
            (o.meets from.value number from.code.next g.int st c g.small a.small (fixed_above x ln g.holds.fixed) lv g.result))
            (λ v2 s2 how2 st2 c2 tr2 b2 g2 w2 le2. keeps_more (omega arith) (rest.keeps left env v2 s2 how2 st2 c2 tr2 b2 g2 w2 le2)))))))));
      }
