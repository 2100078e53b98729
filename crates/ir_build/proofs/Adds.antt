-- The code of expressions and conditions changes its own values alone, and defines at most 6 for each node.
use Rattle.std.proofs.Common.{◌≡◌, ℕ, zero, suc, ◌+◌, ◌-◌, ◌*◌, ◌<◌, ◌≤◌, Bool, true, false, List, [], ◌∷◌, ◌++◌, refl, sym, ap, ◌∙◌, subst, append_assoc, arith, Option, Some, None}
use Rattle.std.proofs.lemmas.List.{append-nil}
use Rattle.grammar.specs.Tree.{height}
use Rattle.tu_base.specs.declared.kind.Kind.{Kind}
use Rattle.tu_base.specs.declared.kind.Kind.TheVariants.{Overflow, Unset}
use Rattle.tu_base.specs.Kind.{kind_number}
use Rattle.rv_isa.specs.Arithmetic.{holds, register_value}
use Rattle.rv_isa.specs.declared.instr.RegisterOp.{RegisterOp}
use Rattle.rv_isa.specs.declared.instr.RegisterOp.TheVariants.{Add, Sub, Sltu, Mul, Mulh, Sra}
use Rattle.rv_isa.specs.declared.instr.Relation.{Relation}
use Rattle.rv_isa.specs.declared.instr.Relation.TheVariants.{Equal, NotEqual, LessUnsigned, GreaterOrEqualUnsigned}
use Rattle.ir_form.specs.declared.op.Op.{Op}
use Rattle.ir_form.specs.declared.plain.Width.{Width}
use Rattle.ir_form.specs.declared.plain.Width.TheVariants.{Word}
use Rattle.ir_form.specs.Cells.{loaded}
use Rattle.ir_form.specs.Meaning.{run, run_list}
use Rattle.ir_form.specs.Place.{Setting}
use Rattle.ir_form.specs.Plain.{Calls, defines}
use Rattle.ir_form.specs.State.{State, How, Next, Left, Ends, Throws, Over, Run, on_how, needs}
use Rattle.ir_code.specs.Laws.{raised_unless}
use Rattle.ir_code.specs.Pieces.{constant, compute, load, raise_unless}
use Rattle.ir_code.specs.declared.code.Code.{Code}
use Rattle.ir_code.proofs.Running.{runs_in_order, raise_runs}
use Rattle.tu_token.specs.Rules.{r-expr, r-compare, r-sum, r-term, r-prefix, r-primary, r-path, many}
use Rattle.tu_token.specs.Syntax.{Of}
use Rattle.tu_expr.specs.Parts.{Part, text_of}
use Rattle.tu_expr.specs.Views.{signed, multiplied}
use Rattle.tu_expr.specs.Levels.{OnlyCompare, OnlySum, OnlyPrimary}
use Rattle.tu_expr.specs.Forms.{NoMore, More, Compare, Related, Sum, Term, Prefix, Power, Added, Subtracted, Multiplied, Divided, Reduced, NumberValue, TrueValue, FalseValue, PathValue, Brackets, TextValue, NilValue, Path}
use Rattle.tu_tree_meaning.specs.Values.{variable_of}
use Rattle.tu_value.specs.Comparisons.{Comparison}
use Rattle.ir_build.specs.Relations.{comparison_of}
use Rattle.tu_value.specs.Meets.{OnlyFrom}
use Rattle.tu_value.specs.Pieces.{with_piece, literal_code, fetch_code, sum_code, difference_code, product_code, more_code, less_code}
use Rattle.tu_value.specs.declared.pieces.Fixed.{Fixed}
use Rattle.tu_value.proofs.Outcomes.{unchanged, also}
use Rattle.ir_build.specs.Keeps.{Named}
use Rattle.ir_build.specs.Code.{Made, number_of, literal_of, named, fetched, plus, minus, times, tested, code_expr, code_sum, code_terms, code_term, code_factors, code_prefix, code_primary, code_path, test_compare, test_expr}
use Rattle.ir_build.specs.Tokens.{nodes_in}
use Rattle.ir_build.specs.Laws.{Adds, ExpressionsAdd, ConditionsAdd}

-- the one, and then the other
from_both : {n : ℕ} {st su sv : State} → OnlyFrom n st su → OnlyFrom n su sv → OnlyFrom n st sv
from_both {sv = sv} f s = record { same = s.same ∙ ap (λ (x : State). record x { env = sv.env }) f.same; kept = λ j lt. s.kept j lt ∙ f.kept j lt }

from_later : {n m : ℕ} {st su : State} → n ≤ m → OnlyFrom m st su → OnlyFrom n st su
from_later le f = record { same = f.same; kept = λ j lt. f.kept j (omega (arith, le, lt)) }

-- a run, and what follows where it goes on
on_from : {n : ℕ} {st su : State} (how : How) (k : ℕ) (go : State → ℕ → Run) → OnlyFrom n st su → ((sv : State) (i : ℕ) → OnlyFrom n sv (go sv i).state) → OnlyFrom n st (on_how how su k go).state
on_from {su = su} Next k go f s = from_both f (s su k)
on_from (Left loops ws) k go f s = f
on_from (Ends ws) k go f s = f
on_from (Throws kind line) k go f s = f
on_from (Over v) k go f s = f

needs_from : (n : ℕ) (o : Option ℕ) (st : State) (c : ℕ) (go : ℕ → Run) → ((v : ℕ) → OnlyFrom n st (go v).state) → OnlyFrom n st (needs o st c go).state
needs_from n None st c go f = unchanged n st
needs_from n (Some v) st c go f = f v

-- However the operation ends, only values from n on have changed.
record QuietOne (n : ℕ) (op : Op) : Type 0 where
  only : (g : Setting) (calls : Calls) (st : State) (c : ℕ) → OnlyFrom n st (run g calls op st c).state

-- the same of operations
record Quiet (n : ℕ) (ops : List Op) : Type 0 where
  only : (g : Setting) (calls : Calls) (st : State) (c : ℕ) → OnlyFrom n st (run_list g calls ops st c).state

none : {n : ℕ} → Quiet n []
none {n} = record { only = λ g calls st c. unchanged n st }

infixr 8 ◌▸◌
◌▸◌ : {n : ℕ} {op : Op} {ops : List Op} → QuietOne n op → Quiet n ops → Quiet n (op ∷ ops)
◌▸◌ {n} {op} {ops} one more = record { only = λ g calls st c. let r = run g calls op st c in on_from r.how r.cost (run_list g calls ops) (one.only g calls st c) (more.only g calls) }

quiet_both : {n : ℕ} {xs ys : List Op} → Quiet n xs → Quiet n ys → Quiet n (xs ++ ys)
quiet_both {n} {xs} {ys} f s = record {
  only = λ g calls st c.
      let r = run_list g calls xs st c in
      subst (λ (q : Run). OnlyFrom n st q.state) (sym (runs_in_order g calls xs ys st c)) (on_from r.how r.cost (run_list g calls ys) (f.only g calls st c) (s.only g calls));
}

quiet_later : {n m : ℕ} {ops : List Op} → n ≤ m → Quiet m ops → Quiet n ops
quiet_later le f = record { only = λ g calls st c. from_later le (f.only g calls st c) }

-- the operations of the pieces
constant_quiet : {n : ℕ} (to word : ℕ) → n ≤ to → QuietOne n (constant to word)
constant_quiet {n} to word le = record { only = λ g calls st c. also n to word le (unchanged n st) }

compute_quiet : {n : ℕ} (to : ℕ) (op : RegisterOp) (left right : ℕ) → n ≤ to → QuietOne n (compute to op left right)
compute_quiet {n} to op left right le = record {
  only = λ g calls st c.
      needs_from n (st.env left) st (c + 10) (λ v. needs (st.env right) st (c + 10) (λ w. defines to (register_value op v w) st (c + 10))) λ v.
      needs_from n (st.env right) st (c + 10) (λ w. defines to (register_value op v w) st (c + 10)) λ w. also n to (register_value op v w) le (unchanged n st);
}

load_quiet : {n : ℕ} (to : ℕ) (width : Width) (at : ℕ) → n ≤ to → QuietOne n (load to width at)
load_quiet {n} to width at le = record {
  only = λ g calls st c.
      needs_from n (st.env at) st (c + 7) (λ a. needs (loaded width st.cells a) st (c + 7) (λ w. defines to w st (c + 7))) λ a.
      needs_from n (loaded width st.cells a) st (c + 7) (λ w. defines to w st (c + 7)) λ w. also n to w le (unchanged n st);
}

raised_from : (n : ℕ) (b : Bool) (kind line : ℕ) (st : State) (c : ℕ) → OnlyFrom n st (raised_unless b kind line st c).state
raised_from n true kind line st c = unchanged n st
raised_from n false kind line st c = unchanged n st

raise_quiet : {n : ℕ} (relation : Relation) (left right : ℕ) (kind : Kind) (line : ℕ) → QuietOne n (raise_unless relation left right kind line)
raise_quiet {n} relation left right kind line = record {
  only = λ g calls st c.
      let go : ℕ → ℕ → Run = λ v w. raised_unless (holds relation v w) (kind_number kind) line st (c + 13) in
      subst (λ (q : Run). OnlyFrom n st q.state) (sym (raise_runs g calls relation left right kind line st c))
      (needs_from n (st.env left) st (c + 13) (λ v. needs (st.env right) st (c + 13) (go v)) λ v.
      needs_from n (st.env right) st (c + 13) (go v) λ w. raised_from n (holds relation v w) (kind_number kind) line st (c + 13));
}

-- the pieces, each from its first value on
literal_quiet : (number n : ℕ) → Quiet n (literal_code number n)
literal_quiet number n = constant_quiet n _ (omega arith) ▸ none

fetch_quiet : (k : Fixed) (line at n : ℕ) → Quiet n (fetch_code k line at n)
fetch_quiet k line at n = load_quiet n Word at (omega arith) ▸ raise_quiet NotEqual n k.zero Unset line ▸ none

sum_quiet : (k : Fixed) (line left right n : ℕ) → Quiet n (sum_code k line left right n)
sum_quiet k line left right n =
    compute_quiet n Add left right (omega arith) ▸ compute_quiet (n + 1) Add n k.top (omega arith) ▸ compute_quiet (n + 2) Sltu (n + 1) left (omega arith) ▸ compute_quiet (n + 3) Sltu right k.top (omega arith)
    ▸ raise_quiet Equal (n + 2) (n + 3) Overflow line ▸ raise_quiet NotEqual (n + 1) k.zero Overflow line ▸ none

difference_quiet : (k : Fixed) (line left right n : ℕ) → Quiet n (difference_code k line left right n)
difference_quiet k line left right n =
    compute_quiet n Sub left right (omega arith) ▸ compute_quiet (n + 1) Add n k.top (omega arith) ▸ compute_quiet (n + 2) Sltu left (n + 1) (omega arith) ▸ compute_quiet (n + 3) Sltu right k.top (omega arith)
    ▸ raise_quiet Equal (n + 2) (n + 3) Overflow line ▸ raise_quiet NotEqual (n + 1) k.zero Overflow line ▸ none

product_quiet : (k : Fixed) (line left right n : ℕ) → Quiet n (product_code k line left right n)
product_quiet k line left right n =
    compute_quiet n Add left k.top (omega arith) ▸ compute_quiet (n + 1) Add right k.top (omega arith) ▸ compute_quiet (n + 2) Mul n (n + 1) (omega arith) ▸ compute_quiet (n + 3) Mulh n (n + 1) (omega arith)
    ▸ constant_quiet (n + 4) 31 (omega arith) ▸ compute_quiet (n + 5) Sra (n + 2) (n + 4) (omega arith) ▸ raise_quiet Equal (n + 3) (n + 5) Overflow line
    ▸ compute_quiet (n + 6) Add (n + 2) k.top (omega arith) ▸ raise_quiet NotEqual (n + 6) k.zero Overflow line ▸ none

more_quiet : (line left number n : ℕ) → Quiet n (more_code line left number n)
more_quiet line left number n =
    constant_quiet n number (omega arith) ▸ compute_quiet (n + 1) Add left n (omega arith) ▸ raise_quiet GreaterOrEqualUnsigned (n + 1) left Overflow line ▸ none

less_quiet : (line left number n : ℕ) → Quiet n (less_code line left number n)
less_quiet line left number n =
    constant_quiet n number (omega arith) ▸ compute_quiet (n + 1) Sub left n (omega arith) ▸ raise_quiet LessUnsigned n left Overflow line ▸ none

-- operations more, with at most so many values, and the next value is no lower
record Adding (most : ℕ) (code made : Code) : Type 0 where
  ops : List Op
  is : made.ops ≡ code.ops ++ ops
  few : made.next ≤ code.next + most
  more : code.next ≤ made.next
  quiet : Quiet code.next ops

adds_of : {most : ℕ} {code made : Code} → Adding most code made → Adds most code made
adds_of a = record { ops = a.ops; is = a.is; few = a.few; only = a.quiet.only }

adding_more : {a most : ℕ} {code made : Code} → Adding a code made → a ≤ most → Adding most code made
adding_more a le = record { ops = a.ops; is = a.is; few = let few = a.few in omega (arith, le); more = a.more; quiet = a.quiet }

nothing_added : (most : ℕ) (code : Code) → Adding most code code
nothing_added most code = record { ops = []; is = sym (append-nil code.ops); few = omega arith; more = omega arith; quiet = none }

adding_then : {a b most : ℕ} {code middle made : Code} → Adding a code middle → Adding b middle made → a + b ≤ most → Adding most code made
adding_then {code = code} f s le = record {
  ops = f.ops ++ s.ops;
  is = s.is ∙ ap (λ z. z ++ s.ops) f.is ∙ append_assoc code.ops f.ops s.ops;
  few = let p = f.few in let q = s.few in omega (arith, le);
  more = let p = f.more in let q = s.more in omega arith;
  quiet = quiet_both f.quiet (quiet_later f.more s.quiet);
}

piece_added : (count : ℕ) (code : Code) (ops : List Op) → Quiet code.next ops → Adding count code (with_piece code ops count)
piece_added count code ops q = record { ops = ops; is = refl; few = omega arith; more = omega arith; quiet = q }

-- A term is a node at least, and a factor two.
term_node : (e : Of r-term) → 1 ≤ nodes_in e
term_node (Term m first more) = omega arith

prefix_nodes : (e : Of r-prefix) → 2 ≤ nodes_in e
prefix_nodes (Prefix m before (Power mark first more)) = omega arith

module _ (k : Fixed) (names : List Named) (line : ℕ) where
  fetched_added : (o : Option Named) (code : Code) → Adding 1 code (fetched k names line code o).code
  fetched_added None code = nothing_added 1 code
  fetched_added (Some n) code = piece_added 1 code (fetch_code k line n.at code.next) (fetch_quiet k line n.at code.next)

  plus_added : {a b most : ℕ} {code : Code} (x y : Made) (number : Option ℕ) → Adding a code x.code → Adding b x.code y.code → a + b + 4 ≤ most → Adding most code (plus k names line x number y).code
  plus_added x y (Some number) f s le = adding_then f (piece_added 2 x.code (more_code line x.value number x.code.next) (more_quiet line x.value number x.code.next)) (omega (arith, le))
  plus_added x y None f s le = adding_then (adding_then f s (omega arith)) (piece_added 4 y.code (sum_code k line x.value y.value y.code.next) (sum_quiet k line x.value y.value y.code.next)) le

  minus_added : {a b most : ℕ} {code : Code} (x y : Made) (number : Option ℕ) → Adding a code x.code → Adding b x.code y.code → a + b + 4 ≤ most → Adding most code (minus k names line x number y).code
  minus_added x y (Some number) f s le = adding_then f (piece_added 2 x.code (less_code line x.value number x.code.next) (less_quiet line x.value number x.code.next)) (omega (arith, le))
  minus_added x y None f s le = adding_then (adding_then f s (omega arith)) (piece_added 4 y.code (difference_code k line x.value y.value y.code.next) (difference_quiet k line x.value y.value y.code.next)) le

  times_added : {a b most : ℕ} {code : Code} (x y : Made) → Adding a code x.code → Adding b x.code y.code → a + b + 7 ≤ most → Adding most code (times k names line x y).code
  times_added x y f s le = adding_then (adding_then f s (omega arith)) (piece_added 7 y.code (product_code k line x.value y.value y.code.next) (product_quiet k line x.value y.value y.code.next)) le

  -- n: above the heights of the expressions in brackets
  module _ (n : ℕ) (inner : (e : Of r-expr) → height e < n → (code : Code) → Adding (6 * nodes_in e) code (code_expr k names line e code).code) where
    path_added : (e : Of r-path) (code : Code) → Adding (6 * nodes_in e) code (code_path k names line e code).code
    path_added (Path m root NoMore) code = adding_more (fetched_added (named (variable_of root) names) code) (omega arith)
    path_added (Path m root (More z zs)) code = nothing_added (6 * nodes_in (Path m root (More z zs))) code

    primary_added : (e : Of r-primary) → height e ≤ n → (code : Code) → Adding (6 * nodes_in e) code (code_primary k names line e code).code
    primary_added (NumberValue m digits) h code = adding_more (piece_added 1 code (literal_code (number_of (text_of digits)) code.next) (literal_quiet (number_of (text_of digits)) code.next)) (omega arith)
    primary_added (PathValue m path) h code = adding_more (path_added path code) (omega arith)
    primary_added (Brackets m left e right) h code = adding_more (inner e (omega (arith, h)) code) (omega arith)
    primary_added (TrueValue m word) h code = nothing_added (6 * nodes_in (TrueValue m word)) code
    primary_added (FalseValue m word) h code = nothing_added (6 * nodes_in (FalseValue m word)) code
    primary_added (TextValue m text parts) h code = nothing_added (6 * nodes_in (TextValue m text parts)) code
    primary_added (NilValue m word left path right) h code = nothing_added (6 * nodes_in (NilValue m word left path right)) code

    -- The nodes of a factor itself, as that of a term, are left for the values of the operator before it.
    prefix_added : (e : Of r-prefix) → height e ≤ n → (code : Code) (most : ℕ) → 6 * nodes_in e ≤ most + 12 → Adding most code (code_prefix k names line e code).code
    prefix_added (OnlyPrimary m a y) h code most le = adding_more (primary_added y (omega (arith, h)) code) (omega (arith, le))
    prefix_added other h code most le = nothing_added most code

    factors_added : (more : Part (many multiplied)) → height more ≤ n → {code : Code} (x : Made) (a : ℕ) → Adding a code x.code → Adding (a + 6 * nodes_in more) code (code_factors k names line x more).code
    factors_added NoMore h x a added = adding_more added (omega arith)
    factors_added (More (Multiplied sign operand) more) h x a added =
        let nodes = prefix_nodes operand in
        let y = code_prefix k names line operand x.code in
        let m = times_added {most = a + 6 * nodes_in operand} x y added (prefix_added operand (omega (arith, h)) x.code (6 * nodes_in operand - 12) (omega arith)) (omega arith) in
        adding_more (factors_added more (omega (arith, h)) (times k names line x y) (a + 6 * nodes_in operand) m) (omega arith)
    factors_added (More (Divided word operand) more) h x a added = adding_more added (omega arith)
    factors_added (More (Reduced word operand) more) h x a added = adding_more added (omega arith)

    term_added : (e : Of r-term) → height e ≤ n → (code : Code) (most : ℕ) → 6 * nodes_in e ≤ most + 6 → Adding most code (code_term k names line e code).code
    term_added (Term m first more) h code most le =
        adding_more (factors_added more (omega (arith, h)) (code_prefix k names line first code) (6 * nodes_in first) (prefix_added first (omega (arith, h)) code (6 * nodes_in first) (omega arith))) (omega (arith, le))

    terms_added : (more : Part (many signed)) → height more ≤ n → {code : Code} (x : Made) (a : ℕ) → Adding a code x.code → Adding (a + 6 * nodes_in more) code (code_terms k names line x more).code
    terms_added NoMore h x a added = adding_more added (omega arith)
    terms_added (More (Added sign operand) more) h x a added =
        let nodes = term_node operand in
        let y = code_term k names line operand x.code in
        let m = plus_added {most = a + 6 * nodes_in operand} x y (literal_of operand) added (term_added operand (omega (arith, h)) x.code (6 * nodes_in operand - 6) (omega arith)) (omega arith) in
        adding_more (terms_added more (omega (arith, h)) (plus k names line x (literal_of operand) y) (a + 6 * nodes_in operand) m) (omega arith)
    terms_added (More (Subtracted sign operand) more) h x a added =
        let nodes = term_node operand in
        let y = code_term k names line operand x.code in
        let m = minus_added {most = a + 6 * nodes_in operand} x y (literal_of operand) added (term_added operand (omega (arith, h)) x.code (6 * nodes_in operand - 6) (omega arith)) (omega arith) in
        adding_more (terms_added more (omega (arith, h)) (minus k names line x (literal_of operand) y) (a + 6 * nodes_in operand) m) (omega arith)

    sum_added : (e : Of r-sum) → height e ≤ n → (code : Code) → Adding (6 * nodes_in e) code (code_sum k names line e code).code
    sum_added (Sum m first more) h code =
        adding_more (terms_added more (omega (arith, h)) (code_term k names line first code) (6 * nodes_in first) (term_added first (omega (arith, h)) code (6 * nodes_in first) (omega arith))) (omega arith)

    level_added : (e : Of r-expr) → height e ≤ n → (code : Code) → Adding (6 * nodes_in e) code (code_expr k names line e code).code
    level_added (OnlySum m a b c d y) h code = adding_more (sum_added y (omega (arith, h)) code) (omega arith)
    level_added other h code = nothing_added (6 * nodes_in other) code

  below_added : (n : ℕ) (e : Of r-expr) → height e < n → (code : Code) → Adding (6 * nodes_in e) code (code_expr k names line e code).code
  below_added zero e lt = absurd (omega (arith, lt))
  below_added (suc n) e lt = level_added n (below_added n) e (omega (arith, lt))

  -- an expression, and a side of a condition
  expr_added : (e : Of r-expr) (code : Code) → Adding (6 * nodes_in e) code (code_expr k names line e code).code
  expr_added e code = below_added (suc (height e)) e (omega arith) code

  side_added : (e : Of r-sum) (code : Code) → Adding (6 * nodes_in e) code (code_sum k names line e code).code
  side_added e code = sum_added (height e) (λ e lt. expr_added e) e (omega arith) code

  tested_added : {most : ℕ} {code : Code} (c : Option Comparison) (x y : Made) → Adding most code y.code → Adding most code (tested c x y).code
  tested_added None x y added = added
  tested_added (Some c) x y added = added

  test_compare_added : (e : Of r-compare) (code : Code) → Adding (6 * nodes_in e) code (test_compare k names line e code).code
  test_compare_added (Compare m first (More (Related relation operand) NoMore)) code =
      let x = code_sum k names line first code in
      tested_added (comparison_of relation) x (code_sum k names line operand x.code) (adding_then (side_added first code) (side_added operand x.code) (omega arith))
  test_compare_added (Compare m first NoMore) code = nothing_added (6 * nodes_in (Compare m first NoMore)) code
  test_compare_added (Compare m first (More (Related relation operand) (More x xs))) code = nothing_added (6 * nodes_in (Compare m first (More (Related relation operand) (More x xs)))) code

  -- a condition
  test_added : (e : Of r-expr) (code : Code) → Adding (6 * nodes_in e) code (test_expr k names line e code).code
  test_added (OnlyCompare m a b c x) code = adding_more (test_compare_added x code) (omega arith)
  test_added other code = nothing_added (6 * nodes_in other) code

pub expressions_add : ExpressionsAdd
expressions_add k names line e code = adds_of (expr_added k names line e code)

pub conditions_add : ConditionsAdd
conditions_add k names line e code = adds_of (test_added k names line e code)
