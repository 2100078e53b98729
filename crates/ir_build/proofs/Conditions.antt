-- Conditions.
use Rattle.std.proofs.Common.{◌≡◌, ℕ, ◌+◌, ◌≤◌, Bool, true, false, List, [], ◌++◌, refl, sym, ◌∙◌, ap, subst, arith, append_assoc, Option, Some, None, map}
use Rattle.std.specs.Prelude.{◌&&◌, is_some, ℤ}
use Rattle.ir_form.specs.Plain.{Calls}
use Rattle.ir_form.specs.Meaning.{run_list}
use Rattle.ir_form.specs.State.{State as CodeState, How, Run, on_how}
use Rattle.ir_code.proofs.Running.{runs_in_order}
use Rattle.ir_code.specs.declared.code.Code.{Code}
use Rattle.tu_token.specs.Rules.{r-expr, r-compare, r-relation}
use Rattle.tu_token.specs.Syntax.{Of}
use Rattle.tu_base.specs.declared.operator.Relation.TheVariants as base
use Rattle.tu_base.specs.Scalars.{is_int}
use Rattle.tu_expr.specs.Forms.{NoMore, More, Compare, Related, Equal, NotEqual, Less, Greater, LessOrEqual, GreaterOrEqual, In, NotIn}
use Rattle.tu_expr.specs.Levels.{OnlyCompare}
use Rattle.tu_tree_meaning.specs.Operators.{Answer, NoRule, relate, truth}
use Rattle.tu_tree_meaning.specs.Interpreter.{answered, evaluate_compare, evaluate_sum, condition, truth_of}
use Rattle.tu_tree_meaning.specs.Steps.{Step, give, pay, ◌>>=◌, ◌>>◌}
use Rattle.tu_tree_meaning.specs.Store.{Store, by_copying}
use Rattle.tu_tree_meaning.specs.Values.{Value, Int, Truth, Variable}
use Rattle.tu_value.specs.Comparisons.{Comparison, compares}
use Rattle.tu_value.specs.Words.{word_of_int}
use Rattle.tu_value.proofs.Comparing.{relations_hold as scalars_compare}
use Rattle.ir_build.specs.Relations.{comparison_of}
use Rattle.ir_build.specs.Keeps.{Named, Site, Keeps, Tells}
use Rattle.ir_build.specs.Code.{Made, tested, code_sum, test_expr, test_compare}
use Rattle.ir_build.specs.Does.{Does, TestDoes}
use Rattle.ir_build.specs.Laws.{ExpressionsDo, ConditionsDo}
use Rattle.ir_build.specs.Built.{is_built_sum, is_tested, is_tested_compare}
use Rattle.ir_build.proofs.Words.{Passes, passes_next, keeps_flow, keeps_is, keeps_more, keeps_paid, keeps_give, keeps_given, keeps_grouped}
use Rattle.ir_build.proofs.Forms.{no_so, both, expr_does, sum_built}
use Rattle.ir_build.proofs.Pieces.{operators}

-- what a relation says of two ints is what its comparison says of their words
abbrev compared : Option Comparison → (left right : ℕ) → Answer
compared None left right = NoRule
compared (Some c) left right = truth (compares c left right)

relations_hold : (relation : Of r-relation) (x y : ℤ) → is_int x ≡ true → is_int y ≡ true → relate relation (Int x) (Int y) ≡ compared (comparison_of relation) (word_of_int x) (word_of_int y)
relations_hold (Equal m _) x y e f = ap truth (scalars_compare base.Equal x y e f)
relations_hold (NotEqual m _) x y e f = ap truth (scalars_compare base.NotEqual x y e f)
relations_hold (Less m _) x y e f = ap truth (scalars_compare base.Less x y e f)
relations_hold (Greater m _) x y e f = ap truth (scalars_compare base.Greater x y e f)
relations_hold (LessOrEqual m _) x y e f = ap truth (scalars_compare base.LessOrEqual x y e f)
relations_hold (GreaterOrEqual m _) x y e f = ap truth (scalars_compare base.GreaterOrEqual x y e f)
relations_hold (In m _) x y e f = refl
relations_hold (NotIn m _ _) x y e f = refl

abbrev as_it_is : How → CodeState → ℕ → Run
as_it_is how st c = record { how = how; state = st; cost = c }

passes_all : Passes as_it_is
passes_all = record { overs = λ v st c. refl; throws = λ kind line st c. refl }

module _ {x : Site} {calls : Calls} where
  -- two sums, and their relation
  compared_does : (line : ℕ) (relation : Of r-relation) (c : Comparison) (A B : Step Store Value) (code : Code) (first second : Made) → comparison_of relation ≡ Some c → Does x calls A code first → Does x calls B first.code second →
      TestDoes x calls ((A >>= λ v. pay 1 >> (B >>= λ y. answered line (relate relation v y) >>= λ z. give z)) >>= truth_of) code (record { code = second.code; comparison = c; left = first.value; right = second.value })
  compared_does line relation cmp A B code first second is a d =
      let H : Value → Step Store Value = λ v. pay 1 >> (B >>= λ y. answered line (relate relation v y) >>= λ z. give z) in
      let C : ℤ → Value → Step Store Value = λ i y. answered line (relate relation (Int i) y) >>= λ z. give z in
      let le = d.more in let le' = a.more in let av = a.value in
      record {
        ops = a.ops ++ d.ops;
        is = d.is ∙ ap (λ z. z ++ d.ops) a.is ∙ append_assoc code.ops a.ops d.ops;
        more = omega arith;
        first_below = omega arith;
        second_below = d.value;
        keeps = λ left s st c tr b h w lb.
            keeps_grouped A H truth_of s _ (keeps_is (runs_in_order x.setting calls a.ops d.ops st c)
            (keeps_more (omega arith) (keeps_flow {b = b} 0 s A (λ v. H v >>= truth_of) (run_list x.setting calls a.ops st c) (λ how st c. on_how how st c (run_list x.setting calls d.ops)) (passes_next (run_list x.setting calls d.ops)) (a.keeps left s st c tr b h w lb)
            λ v s1 how1 st1 c1 tr1 b1 g w1 le1.
            subst (λ z. Keeps x (Tells x left cmp first.value second.value code.next st.env) tr1 (b1 + 0) ((H z >>= truth_of) s1) (on_how how1 st1 c1 (run_list x.setting calls d.ops))) (sym g.is)
            (subst (λ z. Keeps x (Tells x left cmp first.value second.value code.next st.env) tr1 (b1 + 0) ((H (Int g.int) >>= truth_of) s1) (on_how z st1 c1 (run_list x.setting calls d.ops))) (sym g.goes)
            (keeps_grouped (pay 1) (λ _. B >>= C g.int) truth_of s1 _ (keeps_paid 1 s1 ((B >>= C g.int) >>= truth_of) _ (keeps_grouped B (C g.int) truth_of s1 _
            (keeps_more (omega arith) (keeps_flow {b = b1} 0 s1 B (λ y. C g.int y >>= truth_of) (run_list x.setting calls d.ops st1 c1) as_it_is passes_all (d.keeps left s1 st1 c1 tr1 b1 g.holds w1 le1)
            λ y s2 how2 st2 c2 tr2 b2 g2 w2 le2.
            let bb : Bool = compares cmp (word_of_int g.int) (word_of_int g2.int) in
            let e : relate relation (Int g.int) (Int g2.int) ≡ compared (Some cmp) (word_of_int g.int) (word_of_int g2.int) = relations_hold relation g.int g2.int g.small g2.small ∙ ap (λ o. compared o (word_of_int g.int) (word_of_int g2.int)) is in
            subst (λ z. Keeps x (Tells x left cmp first.value second.value code.next st.env) tr2 (b2 + 0) ((C g.int z >>= truth_of) s2) (as_it_is how2 st2 c2)) (sym g2.is)
            (subst (λ z. Keeps x (Tells x left cmp first.value second.value code.next st.env) tr2 (b2 + 0) (((answered line z >>= λ u. give u) >>= truth_of) s2) (as_it_is how2 st2 c2)) (sym e)
            (keeps_grouped (give (Truth bb)) (λ u. give u) truth_of s2 _ (keeps_given (Truth bb) (λ u. give u >>= truth_of) s2 _ (keeps_given (Truth bb) truth_of s2 _
            (keeps_give bb s2 (as_it_is how2 st2 c2) (record {
              goes = g2.goes;
              holds = g2.holds;
              word = word_of_int g.int;
              other = word_of_int g2.int;
              first_is = g2.kept first.value av ∙ g.result;
              second_is = g2.result;
              says = refl;
              kept = λ j lt. g2.kept j (omega arith) ∙ g.kept j lt;
            }) w2 (omega arith)))))))))))))));
      }

  tested_does : (line : ℕ) (relation : Of r-relation) (o : Option Comparison) (A B : Step Store Value) (code : Code) (first second : Made) → comparison_of relation ≡ o → is_some o ≡ true → Does x calls A code first → Does x calls B first.code second →
      TestDoes x calls ((A >>= λ v. pay 1 >> (B >>= λ y. answered line (relate relation v y) >>= λ z. give z)) >>= truth_of) code (tested (comparison_of relation) first second)
  tested_does line relation None A B code first second is some a d = absurd (let q : false ≡ true = some in grind (arith, q))
  tested_does line relation (Some c) A B code first second is some a d = subst (λ z. TestDoes x calls ((A >>= λ v. pay 1 >> (B >>= λ y. answered line (relate relation v y) >>= λ z. give z)) >>= truth_of) code (tested z first second)) (sym is) (compared_does line relation c A B code first second is a d)

module _ (x : Site) (calls : Calls) (depth line : ℕ) where
  abbrev declared : List Variable
  declared = map (λ (n : Named). n.name) x.names

  compare_tests : (e : Of r-compare) → is_tested_compare declared e ≡ true → (code : Code) → x.low ≤ code.next → TestDoes x calls (evaluate_compare Store by_copying x.turns depth [] line e >>= truth_of) code (test_compare x.fixed x.names line e code)
  compare_tests (Compare m first (More (Related relation operand) NoMore)) b code low =
      let q = both (is_built_sum declared first) (is_some (comparison_of relation) && is_built_sum declared operand) b in
      let r = both (is_some (comparison_of relation)) (is_built_sum declared operand) q.1 in
      let a = sum_built x calls depth line (operators x calls line) first q.0 code low in
      let le = a.more in
      let d = sum_built x calls depth line (operators x calls line) operand r.1 (code_sum x.fixed x.names line first code).code (omega arith) in
      tested_does line relation (comparison_of relation) (evaluate_sum Store by_copying x.turns depth [] line first) (evaluate_sum Store by_copying x.turns depth [] line operand) code (code_sum x.fixed x.names line first code) _ refl r.0 a d
  compare_tests (Compare m first NoMore) b code low = no_so b
  compare_tests (Compare m first (More (Related relation operand) (More z zs))) b code low = no_so b

  pub condition_does : (e : Of r-expr) → is_tested declared e ≡ true → (code : Code) → x.low ≤ code.next → TestDoes x calls (condition Store by_copying x.turns depth [] line e) code (test_expr x.fixed x.names line e code)
  condition_does (OnlyCompare m a c d e) b code low = compare_tests e b code low
  condition_does other b code low = no_so b

pub expressions_do : ExpressionsDo
expressions_do x calls depth line e b code low = expr_does x calls depth line (operators x calls line) e b code low

pub conditions_do : ConditionsDo
conditions_do x calls depth line e b code low = condition_does x calls depth line e b code low
