-- The forms of expressions.
use Rattle.std.proofs.Common.{◌≡◌, ℕ, zero, suc, ◌+◌, ◌*◌, ◌<◌, ◌≤◌, Bool, true, false, List, [], refl, sym, ◌∙◌, ap, subst, arith, Option, Some, None, map}
use Rattle.std.specs.Prelude.{◌&&◌, nat_le, min, pos, ◌+ℤ◌, ◌-ℤ◌, ◌*ℤ◌}
use Rattle.std.proofs.lemmas.Bool.Decides.{nat_tests}
use Rattle.grammar.specs.Tree.{Mark, n-rule, n-right, height}
use Rattle.tu_base.specs.declared.kind.Kind.TheVariants as kind
use Rattle.tu_base.specs.Scalars.{is_int}
use Rattle.tu_base.specs.Trace.{Trace}
use Rattle.rv_image.specs.Streams.{traced}
use Rattle.ir_form.specs.Meaning.{run_list}
use Rattle.ir_form.specs.Plain.{Calls}
use Rattle.ir_form.specs.State.{State as CodeState, Run}
use Rattle.ir_code.specs.declared.code.Code.{Code}
use Rattle.tu_token.specs.LexFaults.{value_after}
use Rattle.tu_token.specs.Rules.{r-expr, r-sum, r-term, r-prefix, r-primary, many}
use Rattle.tu_token.specs.Syntax.{Of}
use Rattle.tu_expr.specs.Parts.{Part, text_of}
use Rattle.tu_expr.specs.Views.{signed, multiplied}
use Rattle.tu_expr.specs.Levels.{OnlySum, OnlyPrimary}
use Rattle.tu_expr.specs.Forms.{NoMore, More, Sum, Term, Prefix, Power, Added, Subtracted, Multiplied, Divided, Reduced, NumberValue, TrueValue, FalseValue, PathValue, Brackets, TextValue, NilValue, Path}
use Rattle.tu_tree_meaning.specs.Operators.{plus, minus, times}
use Rattle.tu_tree_meaning.specs.Interpreter.{answered, read, evaluate, evaluate_sum, add, evaluate_term, multiply, evaluate_prefix, evaluate_primary}
use Rattle.tu_tree_meaning.specs.Steps.{State, Step, give, pay, look, ◌>>=◌, ◌>>◌}
use Rattle.tu_tree_meaning.specs.Store.{Store, by_copying, fetch_root}
use Rattle.tu_tree_meaning.specs.Values.{Value, Unset, Int, Truth, Variable, variable_of, int_in, Place, place_of}
use Rattle.tu_value.specs.Laws.{fetch_most}
use Rattle.tu_value.specs.Meets.{GivesInt, Meets, fetched}
use Rattle.tu_value.proofs.Leaves.{fetch_meets, literal_meets}
use Rattle.tu_value.specs.Words.{IsSmall}
use Rattle.tu_value.specs.Pieces.{literal_code, fetch_code, sum_code, difference_code, product_code, more_code, less_code}
use Rattle.ir_build.specs.Keeps.{factor, Named, Site, word_at, stored_word, IsStored, Holds, Post, Keeps, Gives}
use Rattle.ir_build.specs.Code.{plus as code_plus, minus as code_minus, fetched as code_fetched, Made, with_value, number_of, literal_of, code_expr, code_sum, code_terms, code_term, code_factors, code_prefix, code_primary}
use Rattle.ir_build.specs.Built.{is_built, is_built_sum, are_built_terms, is_built_term, are_built_factors, is_built_prefix, is_built_primary}
use Rattle.ir_build.specs.Does.{Does}
use Rattle.ir_build.proofs.Words.{keeps_paid, keeps_give, keeps_raise, keeps_look, keeps_given, keeps_grouped}
use Rattle.ir_build.proofs.States.{fixed_above, Found, find, lies_of}
use Rattle.ir_build.proofs.Values.{after_piece, world_of, Operator, Shortcut, IsNumber, DoesFrom, does_then, does_no_more, does_operator, does_shortcut}

pub no_so : {A : Type 0} → false ≡ true → A
no_so e = absurd (let q : false ≡ true = e in grind (arith, q))

pub both : (a b : Bool) → (a && b) ≡ true → (a ≡ true) × (b ≡ true)
both true b e = (refl, e)
both false b e = no_so e

-- an operand is nothing but a number, or it is not
pub data Operand (x : Of r-term) : Type 0 where
  Literal : (m a b c : Mark) (digits : _) → x ≡ Term m (Prefix a NoMore (Power b (NumberValue c digits) NoMore)) NoMore → Operand x
  Other : literal_of x ≡ None → Operand x

operand_is : (x : Of r-term) → Operand x
operand_is (Term m (Prefix a NoMore (Power b (NumberValue c digits) NoMore)) NoMore) = Literal m a b c digits refl
operand_is (Term m (Prefix a NoMore (Power b (NumberValue c digits) NoMore)) (More z zs)) = Other refl
operand_is (Term m (Prefix a NoMore (Power b (NumberValue c digits) (More w ws))) more) = Other refl
operand_is (Term m (Prefix a NoMore (Power b (n-rule c (n-right form)) others)) more) = Other refl
operand_is (Term m (Prefix a (More z zs) power) more) = Other refl

number_or : ℕ → Option ℕ → ℕ
number_or d None = d
number_or d (Some n) = n

number_inj : {a b : ℕ} → Some a ≡ Some b → a ≡ b
unfolding number_or
number_inj {a} e = ap (number_or a) e

IsNone : Option ℕ → Type 0
IsNone None = Unit {0}
IsNone (Some n) = ⊥

no_number : {n : ℕ} → None ≡ Some n → ⊥
unfolding IsNone
no_number e = subst IsNone e tt

small_number : (n : ℕ) → nat_le n 2147483647 ≡ true → (min n 2147483647 ≡ n) × (n ≤ 2147483647)
small_number n e = let le : n ≤ 2147483647 = grind (arith, nat_tests, e) in (omega (arith, le), le)

is_small : (v : Value) → IsStored v → IsSmall (int_in v)
is_small Unset h = tt
is_small (Int z) h = h
is_small (Truth b) h = absurd h

read_keeps : {x : Site} {left : ℕ} {tr : Trace} {b : ℕ} (line n at : ℕ) (v : Value) (s : State Store) (st : CodeState) (c : ℕ) (r : Run) → x.low ≤ n → Holds x left s st c → st.world ≡ traced x.world tr → c ≤ b → IsStored v → Meets line n n fetch_most (fetched (int_in v)) st c r → Keeps x (Gives x left n n st.env) tr (b + factor) (read line v s) r
read_keeps line n at Unset s st c r low h w le i m = keeps_raise kind.Unset line s r m.how (world_of m.only ∙ w) (let q = m.costs.bound in omega arith)
read_keeps line n at (Int z) s st c r low h w le i m = keeps_give (Int z) s r (after_piece z s st c fetch_most r low (omega arith) h (λ j lt. refl) i m) (world_of m.only ∙ w) (let q = m.costs.bound in omega arith)
read_keeps line n at (Truth b) s st c r low h w le i m = absurd i

-- what the pieces of the operators do
pub record Operators (x : Site) (calls : Calls) (line : ℕ) : Type 0 where
  pub sum : Operator x line calls ◌+ℤ◌ (sum_code x.fixed line) 1
  pub difference : Operator x line calls ◌-ℤ◌ (difference_code x.fixed line) 1
  pub product : Operator x line calls ◌*ℤ◌ (product_code x.fixed line) 6
  pub more : Shortcut x line calls ◌+ℤ◌ (more_code line)
  pub less : Shortcut x line calls ◌-ℤ◌ (less_code line)

module _ (x : Site) (calls : Calls) (depth line : ℕ) where
  -- what an expression and its parts mean
  abbrev t : ℕ
  t = x.turns

  number_on : {z : Site} {B : Type 0} {Q : Post B} {tr : Trace} {d : ℕ} (m a b c : Mark) (digits : _) (k : Value → Step Store B) (s : State Store) (f : Run) → nat_le (value_after 0 (text_of digits)) 2147483647 ≡ true → Keeps z Q tr (d + factor * 1) (k (Int (pos (number_of (text_of digits)))) s) f →
      Keeps z Q tr d ((evaluate_term Store by_copying t depth [] line (Term m (Prefix a NoMore (Power b (NumberValue c digits) NoMore)) NoMore) >>= k) s) f
  number_on {z} {B} {Q} {tr} {d} m a b c digits k s f e h =
      let n = value_after 0 (text_of digits) in
      keeps_grouped (pay 1 >> give (Int (pos n))) give k s f (keeps_grouped (pay 1) (λ _. give (Int (pos n))) (λ v. give v >>= k) s f
      (keeps_paid 1 s (give (Int (pos n)) >>= λ v. give v >>= k) f (keeps_given (Int (pos n)) (λ v. give v >>= k) s f (keeps_given (Int (pos n)) k s f
      (subst (λ y. Keeps z Q tr (d + factor * 1) (k (Int (pos y)) s) f) (small_number n e).0 h)))))

  number_goes : (m a b c : Mark) (digits : _) → nat_le (value_after 0 (text_of digits)) 2147483647 ≡ true → IsNumber (evaluate_term Store by_copying t depth [] line (Term m (Prefix a NoMore (Power b (NumberValue c digits) NoMore)) NoMore)) (number_of (text_of digits))
  number_goes m a b c digits e =
      let q = small_number (value_after 0 (text_of digits)) e in
      record {
        small = let r = q.0 in let l = q.1 in omega arith;
        goes_on = λ k s f h. number_on m a b c digits k s f e h;
      }

  number_does : (m : Mark) (digits : _) → nat_le (value_after 0 (text_of digits)) 2147483647 ≡ true → (code : Code) → x.low ≤ code.next → Does x calls (evaluate_primary Store by_copying t depth [] line (NumberValue m digits)) code (code_primary x.fixed x.names line (NumberValue m digits) code)
  number_does m digits e code low =
      let n = value_after 0 (text_of digits) in
      let q = small_number n e in
      record {
        ops = literal_code (number_of (text_of digits)) code.next;
        is = refl;
        more = omega arith;
        value = omega arith;
        keeps = λ left s st c tr b h w le.
            let number = number_of (text_of digits) in
            let r = run_list x.setting calls (literal_code number code.next) st c in
            let g : GivesInt code.next code.next 5 (pos number) st c r = literal_meets x.setting calls number line code.next st c (let i = q.0 in let l = q.1 in omega arith) in
            keeps_paid 1 s (give (Int (pos n))) _ (subst (λ y. Keeps x (Gives x left code.next code.next st.env) tr (b + factor * 1) (give (Int (pos y)) s) r) q.0
            (keeps_give (Int (pos number)) s r (after_piece (pos number) s st c 5 r low (omega arith) h (λ j lt. refl) (subst (λ y. is_int (pos y) ≡ true) (sym q.0) e) g) (world_of g.only ∙ w) (let z = g.costs.bound in omega arith)));
      }

  variable_does : (m mp : Mark) (root : _) (f : Found (variable_of root) x.names) (code : Code) → x.low ≤ code.next → Does x calls (evaluate_primary Store by_copying t depth [] line (PathValue m (Path mp root NoMore))) code (with_value code (fetch_code x.fixed line f.it.at))
  variable_does m mp root f code low = record {
    ops = fetch_code x.fixed line f.it.at code.next;
    is = refl;
    more = omega arith;
    value = omega arith;
    keeps = λ left s st c tr b h w le.
        let y = variable_of root in let g = place_of y in let k : Place → Step Store Value = λ place. look (λ s. fetch_root s place.root) >>= λ v. read line v in
        keeps_grouped (pay 1) (λ _. give g) k s _ (keeps_paid 1 s (give g >>= k) _ (keeps_given g k s _ (keeps_look (λ s. fetch_root s g.root) (λ v. read line v) s _
        (let l = lies_of x s.store st y f.it x.names f.is h.variables in
        read_keeps line code.next f.it.at (s.store.globals y) s st c _ low h w le (h.values y) (fetch_meets x.setting calls x.fixed (int_in (s.store.globals y)) line f.it.at code.next (word_at x.setting f.it.word) st c (fixed_above x low h.fixed) l.address (l.stored ∙ ap (λ z. Some (stored_word (s.store.globals z))) (sym f.name)) (is_small (s.store.globals y) (h.values y)))))));
  }

  abbrev declared : List Variable
  declared = map (λ (n : Named). n.name) x.names

  -- an operand that is a number gives an int
  literal_small : (e : Of r-term) → is_built_term declared e ≡ true → (n : ℕ) → literal_of e ≡ Some n → IsNumber (evaluate_term Store by_copying t depth [] line e) n
  literal_small e b n is = of (operand_is e)
    where
      of : Operand e → IsNumber (evaluate_term Store by_copying t depth [] line e) n
      of (Literal m a d c digits is') =
          let b' : is_built_term declared (Term m (Prefix a NoMore (Power d (NumberValue c digits) NoMore)) NoMore) ≡ true = subst (λ z. is_built_term declared z ≡ true) is' b in
          let s' = (both (nat_le (value_after 0 (text_of digits)) 2147483647) true b').0 in
          let q : Some (number_of (text_of digits)) ≡ Some n = subst (λ z. literal_of z ≡ Some n) is' is in
          subst (λ z. IsNumber (evaluate_term Store by_copying t depth [] line z) n) (sym is') (subst (λ z. IsNumber (evaluate_term Store by_copying t depth [] line (Term m (Prefix a NoMore (Power d (NumberValue c digits) NoMore)) NoMore)) z) (number_inj q) (number_goes m a d c digits s'))
      of (Other none) = absurd (no_number (sym none ∙ is))

  module _ (o : Operators x calls line) where
    abbrev Of_ : (m : Step Store Value) → (Code → Made) → Type 0
    Of_ m make = (code : Code) → x.low ≤ code.next → Does x calls m code (make code)

    -- what goes on behind an operand
    abbrev Rest : ℕ → (Value → Step Store Value) → (Made → Made) → Type 0
    Rest base k make = (from : Made) → x.low ≤ from.code.next → base ≤ from.code.next → from.value < from.code.next → DoesFrom x calls base k from (make from)

    added_do : (operand : Of r-term) (more : Part (many signed)) (base : ℕ) (from : Made) → x.low ≤ from.code.next → base ≤ from.code.next → from.value < from.code.next → Does x calls (evaluate_term Store by_copying t depth [] line operand) from.code (code_term x.fixed x.names line operand from.code) →
        ((n : ℕ) → literal_of operand ≡ Some n → IsNumber (evaluate_term Store by_copying t depth [] line operand) n) → Rest base (λ z. add Store by_copying t depth [] line z more) (λ from. code_terms x.fixed x.names line from more) →
        DoesFrom x calls base (λ v. pay 1 >> (evaluate_term Store by_copying t depth [] line operand >>= λ w. answered line (plus v w) >>= λ z. add Store by_copying t depth [] line z more)) from (code_terms x.fixed x.names line (code_plus x.fixed x.names line from (literal_of operand) (code_term x.fixed x.names line operand from.code)) more)
    added_do operand more base from low le lv a small rest = of (literal_of operand) refl
      where
        of : (n : Option ℕ) → literal_of operand ≡ n → DoesFrom x calls base (λ v. pay 1 >> (evaluate_term Store by_copying t depth [] line operand >>= λ w. answered line (plus v w) >>= λ z. add Store by_copying t depth [] line z more)) from (code_terms x.fixed x.names line (code_plus x.fixed x.names line from n (code_term x.fixed x.names line operand from.code)) more)
        of (Some n) is = does_shortcut base line n plus ◌+ℤ◌ (more_code line) (evaluate_term Store by_copying t depth [] line operand) (λ z. add Store by_copying t depth [] line z more) from _ (λ c d. refl) o.more (small n is) low le lv (rest _ (omega arith) (omega arith) (omega arith))
        of None is = let le1 = a.more in does_operator base line 1 4 plus ◌+ℤ◌ (sum_code x.fixed line) (evaluate_term Store by_copying t depth [] line operand) (λ z. add Store by_copying t depth [] line z more) from (code_term x.fixed x.names line operand from.code) _ (λ c d. refl) o.sum low le lv (omega arith) a (rest _ (omega arith) (omega arith) (omega arith))

    subtracted_do : (operand : Of r-term) (more : Part (many signed)) (base : ℕ) (from : Made) → x.low ≤ from.code.next → base ≤ from.code.next → from.value < from.code.next → Does x calls (evaluate_term Store by_copying t depth [] line operand) from.code (code_term x.fixed x.names line operand from.code) →
        ((n : ℕ) → literal_of operand ≡ Some n → IsNumber (evaluate_term Store by_copying t depth [] line operand) n) → Rest base (λ z. add Store by_copying t depth [] line z more) (λ from. code_terms x.fixed x.names line from more) →
        DoesFrom x calls base (λ v. pay 1 >> (evaluate_term Store by_copying t depth [] line operand >>= λ w. answered line (minus v w) >>= λ z. add Store by_copying t depth [] line z more)) from (code_terms x.fixed x.names line (code_minus x.fixed x.names line from (literal_of operand) (code_term x.fixed x.names line operand from.code)) more)
    subtracted_do operand more base from low le lv a small rest = of (literal_of operand) refl
      where
        of : (n : Option ℕ) → literal_of operand ≡ n → DoesFrom x calls base (λ v. pay 1 >> (evaluate_term Store by_copying t depth [] line operand >>= λ w. answered line (minus v w) >>= λ z. add Store by_copying t depth [] line z more)) from (code_terms x.fixed x.names line (code_minus x.fixed x.names line from n (code_term x.fixed x.names line operand from.code)) more)
        of (Some n) is = does_shortcut base line n minus ◌-ℤ◌ (less_code line) (evaluate_term Store by_copying t depth [] line operand) (λ z. add Store by_copying t depth [] line z more) from _ (λ c d. refl) o.less (small n is) low le lv (rest _ (omega arith) (omega arith) (omega arith))
        of None is = let le1 = a.more in does_operator base line 1 4 minus ◌-ℤ◌ (difference_code x.fixed line) (evaluate_term Store by_copying t depth [] line operand) (λ z. add Store by_copying t depth [] line z more) from (code_term x.fixed x.names line operand from.code) _ (λ c d. refl) o.difference low le lv (omega arith) a (rest _ (omega arith) (omega arith) (omega arith))

    -- n: above the heights of the expressions in brackets
    module _ (n : ℕ) (inner : (e : Of r-expr) → height e < n → is_built declared e ≡ true → Of_ (evaluate Store by_copying t depth [] line e) (code_expr x.fixed x.names line e)) where
      primary_does : (e : Of r-primary) → height e ≤ n → is_built_primary declared e ≡ true → Of_ (evaluate_primary Store by_copying t depth [] line e) (code_primary x.fixed x.names line e)
      primary_does (NumberValue m digits) h b code low = number_does m digits b code low
      primary_does (PathValue m (Path mp root NoMore)) h b code low =
          let f = find (variable_of root) x.names b in
          subst (λ z. Does x calls (evaluate_primary Store by_copying t depth [] line (PathValue m (Path mp root NoMore))) code (code_fetched x.fixed x.names line code z)) (sym f.is) (variable_does m mp root f code low)
      primary_does (PathValue m (Path mp root (More z zs))) h b code low = no_so b
      primary_does (Brackets m left e right) h b code low = inner e (omega (arith, h)) b code low
      primary_does (TrueValue m word) h b code low = no_so b
      primary_does (FalseValue m word) h b code low = no_so b
      primary_does (TextValue m text parts) h b code low = no_so b
      primary_does (NilValue m word left path right) h b code low = no_so b

      prefix_does : (e : Of r-prefix) → height e ≤ n → is_built_prefix declared e ≡ true → Of_ (evaluate_prefix Store by_copying t depth [] line e) (code_prefix x.fixed x.names line e)
      prefix_does (OnlyPrimary m a y) h b code low = primary_does y (omega (arith, h)) b code low
      prefix_does other h b code low = no_so b

      factors_do : (more : Part (many multiplied)) → height more ≤ n → are_built_factors declared more ≡ true → (base : ℕ) (from : Made) → x.low ≤ from.code.next → base ≤ from.code.next → from.value < from.code.next → DoesFrom x calls base (λ v. multiply Store by_copying t depth [] line v more) from (code_factors x.fixed x.names line from more)
      factors_do NoMore h b base from low le lv = does_no_more base from lv
      factors_do (More (Multiplied sign operand) more) h b base from low le lv =
          let q = both (is_built_prefix declared operand) (are_built_factors declared more) b in
          let a = prefix_does operand (omega (arith, h)) q.0 from.code low in
          let le1 = a.more in
          does_operator base line 6 7 times ◌*ℤ◌ (product_code x.fixed line) (evaluate_prefix Store by_copying t depth [] line operand) (λ z. multiply Store by_copying t depth [] line z more) from (code_prefix x.fixed x.names line operand from.code) _ (λ c d. refl) o.product low le lv (omega arith) a
          (factors_do more (omega (arith, h)) q.1 base _ (omega arith) (omega arith) (omega arith))
      factors_do (More (Divided word operand) more) h b base from low le lv = no_so b
      factors_do (More (Reduced word operand) more) h b base from low le lv = no_so b

      term_does : (e : Of r-term) → height e ≤ n → is_built_term declared e ≡ true → Of_ (evaluate_term Store by_copying t depth [] line e) (code_term x.fixed x.names line e)
      term_does (Term m first more) h b code low =
          let q = both (is_built_prefix declared first) (are_built_factors declared more) b in
          let a = prefix_does first (omega (arith, h)) q.0 code low in
          let le = a.more in
          does_then a (factors_do more (omega (arith, h)) q.1 code.next (code_prefix x.fixed x.names line first code) (omega arith) le a.value)

      terms_do : (more : Part (many signed)) → height more ≤ n → are_built_terms declared more ≡ true → (base : ℕ) (from : Made) → x.low ≤ from.code.next → base ≤ from.code.next → from.value < from.code.next → DoesFrom x calls base (λ v. add Store by_copying t depth [] line v more) from (code_terms x.fixed x.names line from more)
      terms_do NoMore h b base from low le lv = does_no_more base from lv
      terms_do (More (Added sign operand) more) h b base from low le lv =
          let q = both (is_built_term declared operand) (are_built_terms declared more) b in
          added_do operand more base from low le lv (term_does operand (omega (arith, h)) q.0 from.code low) (literal_small operand q.0) (λ from1 low1 le1 lv1. terms_do more (omega (arith, h)) q.1 base from1 low1 le1 lv1)
      terms_do (More (Subtracted sign operand) more) h b base from low le lv =
          let q = both (is_built_term declared operand) (are_built_terms declared more) b in
          subtracted_do operand more base from low le lv (term_does operand (omega (arith, h)) q.0 from.code low) (literal_small operand q.0) (λ from1 low1 le1 lv1. terms_do more (omega (arith, h)) q.1 base from1 low1 le1 lv1)

      sum_does : (e : Of r-sum) → height e ≤ n → is_built_sum declared e ≡ true → Of_ (evaluate_sum Store by_copying t depth [] line e) (code_sum x.fixed x.names line e)
      sum_does (Sum m first more) h b code low =
          let q = both (is_built_term declared first) (are_built_terms declared more) b in
          let a = term_does first (omega (arith, h)) q.0 code low in
          let le = a.more in
          does_then a (terms_do more (omega (arith, h)) q.1 code.next (code_term x.fixed x.names line first code) (omega arith) le a.value)

      level_does : (e : Of r-expr) → height e ≤ n → is_built declared e ≡ true → Of_ (evaluate Store by_copying t depth [] line e) (code_expr x.fixed x.names line e)
      level_does (OnlySum m a b c d y) h e code low = let f = sum_does y (omega (arith, h)) e code low in does_then f (does_no_more code.next _ f.value)
      level_does other h b code low = no_so b

    below_does : (n : ℕ) (e : Of r-expr) → height e < n → is_built declared e ≡ true → Of_ (evaluate Store by_copying t depth [] line e) (code_expr x.fixed x.names line e)
    below_does zero e lt = absurd (omega (arith, lt))
    below_does (suc n) e lt = level_does n (below_does n) e (omega (arith, lt))

    pub expr_does : (e : Of r-expr) → is_built declared e ≡ true → Of_ (evaluate Store by_copying t depth [] line e) (code_expr x.fixed x.names line e)
    expr_does e b code low = below_does (suc (height e)) e (omega arith) b code low

    pub sum_built : (e : Of r-sum) → is_built_sum declared e ≡ true → Of_ (evaluate_sum Store by_copying t depth [] line e) (code_sum x.fixed x.names line e)
    sum_built e b code low = sum_does (height e) (λ e lt. expr_does e) e (omega arith) b code low
