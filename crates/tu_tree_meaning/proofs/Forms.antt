-- The one induction over the tree: what relates two stores is kept by each form, so the runs are alike.
use Rattle.std.proofs.Common.{◌≡◌, ℕ, zero, suc, ◌≤◌, Bool, List, [], ◌∷◌, length, map, arith}
use Rattle.std.specs.Prelude.{unsigned_abs}
use Rattle.grammar.specs.Description.{rule}
use Rattle.tu_base.specs.Trace.{Put as put_byte}
use Rattle.tu_base.specs.declared.kind.Kind.TheVariants as kind
use Rattle.tu_token.specs.declared.class.Class.TheVariants.{SignColon, SignComma, SignRange, WordElse}
use Rattle.tu_token.specs.Rules.{r-program, r-item, r-block, r-var, r-statement, r-elsif, r-shown, r-expr, r-or, r-and, r-not, r-compare, r-sum, r-term, r-prefix, r-power, r-primary, r-path, ◌⨟◌, many, maybe, t}
use Rattle.tu_token.specs.Syntax.{Of}
use Rattle.tu_expr.specs.Forms.{Present, Absent, More, NoMore, Behind, Listed, Expr, Or, And, Not, Compare, Sum, Term, Prefix, Power, Related, Added, Subtracted, Multiplied, NumberValue, PathValue, Brackets, Path}
use Rattle.tu_expr.specs.Parts.{Part}
use Rattle.tu_expr.specs.Views.{related, signed, multiplied}
use Rattle.tu_tree.specs.Forms.{Separated, Program, ItemVar, ItemStatement, Block, BlockStatement, StartedDeclaration, TypedDeclaration, ValueStart, Spec, IntType, Assign, If, Elsif, Loop, Simple, Exit, ExitWhen, Put, Shown}
use Rattle.tu_tree.specs.Parts.{separated}
use Rattle.tu_tree.specs.StatementViews.{block_part}
use Rattle.tu_tree_meaning.specs.Values.{Value, Unset, Int, Truth, Variable, Place}
use Rattle.tu_tree_meaning.specs.Store.{Passing}
use Rattle.tu_tree_meaning.specs.Operators.{Answer, Gives, Raises, NoRule, plus, minus, times, relate}
use Rattle.tu_tree_meaning.specs.Rooms.{joins}
use Rattle.tu_tree_meaning.specs.Steps.{Step, look}
use Rattle.tu_tree_meaning.specs.Interpreter.{stuck, answered, read, truth_of, is_width, width_of, put, put_value, Flow, Next, Exits, and_then, unless_left, rounds, evaluate, evaluate_or, evaluate_and, evaluate_not, evaluate_compare, compare, evaluate_sum, add, evaluate_term, multiply, evaluate_prefix, evaluate_power, evaluate_primary, locate, condition, evaluate_width, show, show_more, end_line, execute_simple, execute, execute_elsifs, execute_otherwise, execute_block, execute_parts, names_of, declare_all, assign_all, execute_var, execute_item, only_next, execute_items, execute_program}
use Rattle.tu_tree_meaning.proofs.Alike.{Sim, sim_bind, sim_give, sim_raise, sim_look, sim_change, sim_pay, sim_happen, sim_if, sim_less, sim_stop, sim_cut, sim_turn}

abbrev pub Any : {A : Type 0} → A → Type 0
Any a = Unit {0}

module _ (S S' : Type 0) (p : Passing S) (p' : Passing S') (turns turns' : ℕ) (R : S → S' → Type 0) where
  abbrev pub Sims : (n : ℕ) (A : Type 0) → Step S A → Step S' A → Type 0
  Sims n A m m' = Sim S S' turns turns' R n R R A Any m m'

  -- what each form needs of the relation
  pub record Kept : Type 0 where
    pub more : turns ≤ turns'
    pub fetch : (place : Place) (s : S) (r : S') → R s r → p.fetch s place ≡ p'.fetch r place
    pub assign : (place : Place) (v : Value) (s : S) (r : S') → R s r → R (p.assign s place v) (p'.assign r place v)
    pub declare : (x : Variable) (v : Value) (s : S) (r : S') → R s r → R (p.declare s x v) (p'.declare r x v)

  module _ (k : Kept) where
    sim_stuck : (n : ℕ) (A : Type 0) → Sims n A stuck stuck
    sim_stuck n A = sim_raise kind.Case 0 (λ s r rel. rel)

    sim_answered : (n line : ℕ) (answer : Answer) → Sims n Value (answered line answer) (answered line answer)
    sim_answered n line (Gives v) = sim_give v tt
    sim_answered n line (Raises exception) = sim_raise exception line (λ s r rel. rel)
    sim_answered n line NoRule = sim_stuck n Value

    sim_read : (n line : ℕ) (v : Value) → Sims n Value (read line v) (read line v)
    sim_read n line Unset = sim_raise kind.Unset line (λ s r rel. rel)
    sim_read n line (Int z) = sim_give (Int z) tt
    sim_read n line (Truth b) = sim_give (Truth b) tt

    sim_fetch : (n : ℕ) (place : Place) → Sims n Value (look (λ s. p.fetch s place)) (look (λ r. p'.fetch r place))
    sim_fetch n place = sim_look {Q = Any} _ _ (λ s r rel. (k.fetch place s r rel, tt))

    sim_truth : (n : ℕ) (v : Value) → Sims n Bool (truth_of v) (truth_of v)
    sim_truth n (Truth b) = sim_give b tt
    sim_truth n Unset = sim_stuck n Bool
    sim_truth n (Int z) = sim_stuck n Bool

    sim_width : (n line : ℕ) (v : Value) → Sims n ℕ (width_of line v) (width_of line v)
    sim_width n line (Int z) = sim_if (is_width z) (λ _. sim_give (unsigned_abs z) tt) (λ _. sim_raise kind.Range line (λ s r rel. rel))
    sim_width n line Unset = sim_stuck n ℕ
    sim_width n line (Truth b) = sim_stuck n ℕ

    sim_put : (n : ℕ) (bytes : List ℕ) → Sims n (Unit {0}) (put bytes) (put bytes)
    sim_put n bytes = sim_bind (sim_pay (length bytes)) λ _ _. sim_happen (map put_byte bytes)

    sim_put_value : (n : ℕ) (v : Value) (width : ℕ) → Sims n (Unit {0}) (put_value v width) (put_value v width)
    sim_put_value n (Int z) width = sim_bind (sim_pay 32) λ _ _. sim_put n _
    sim_put_value n Unset width = sim_stuck n (Unit {0})
    sim_put_value n (Truth b) width = sim_stuck n (Unit {0})

    sim_and_then : (n : ℕ) (flow : Flow) (m : Step S Flow) (m' : Step S' Flow) → Sims n Flow m m' → Sims n Flow (and_then flow m) (and_then flow m')
    sim_and_then n Next m m' h = h
    sim_and_then n Exits m m' h = sim_give Exits tt

    sim_unless_left : (n : ℕ) (flow : Flow) (m : Step S Flow) (m' : Step S' Flow) → Sims n Flow m m' → Sims n Flow (unless_left flow m) (unless_left flow m')
    sim_unless_left n Next m m' h = h
    sim_unless_left n Exits m m' h = sim_give Next tt

    sim_only_next : (n : ℕ) (flow : Flow) (m : Step S (Unit {0})) (m' : Step S' (Unit {0})) → Sims n (Unit {0}) m m' → Sims n (Unit {0}) (only_next flow m) (only_next flow m')
    sim_only_next n Next m m' h = h
    sim_only_next n Exits m m' h = sim_stuck n (Unit {0})

    -- a loop with more rounds
    sim_rounds : (j n n' : ℕ) → n ≤ n' → (m : Step S Flow) (m' : Step S' Flow) → Sims n Flow m m' → Sims n Flow (rounds turns j n m) (rounds turns' j n' m')
    sim_rounds j zero zero le m m' h = sim_stop
    sim_rounds j zero (suc n') le m m' h = sim_cut _ k.more
    sim_rounds j (suc n) zero le m m' h = absurd (omega (arith, le))
    sim_rounds j (suc n) (suc n') le m m' h = sim_turn k.more λ _. sim_bind (sim_pay j) λ _ _. sim_bind (sim_less (omega arith) h) λ flow _. sim_unless_left n flow _ _ (sim_rounds j n n' (omega (arith, le)) m m' (sim_less (omega arith) h))

    module _ (n n' : ℕ) (le : n ≤ n') (locals : List Variable) where
      mutual
        sim_evaluate : (line : ℕ) (e : Of r-expr) → Sims n Value (evaluate S p turns n locals line e) (evaluate S' p' turns' n' locals line e)
        sim_evaluate line (Expr m x NoMore) = sim_or line x
        sim_evaluate line other = sim_stuck n Value

        sim_or : (line : ℕ) (e : Of r-or) → Sims n Value (evaluate_or S p turns n locals line e) (evaluate_or S' p' turns' n' locals line e)
        sim_or line (Or m x NoMore) = sim_and line x
        sim_or line other = sim_stuck n Value

        sim_and : (line : ℕ) (e : Of r-and) → Sims n Value (evaluate_and S p turns n locals line e) (evaluate_and S' p' turns' n' locals line e)
        sim_and line (And m x NoMore) = sim_not line x
        sim_and line other = sim_stuck n Value

        sim_not : (line : ℕ) (e : Of r-not) → Sims n Value (evaluate_not S p turns n locals line e) (evaluate_not S' p' turns' n' locals line e)
        sim_not line (Not m NoMore x) = sim_compare line x
        sim_not line other = sim_stuck n Value

        sim_compare : (line : ℕ) (e : Of r-compare) → Sims n Value (evaluate_compare S p turns n locals line e) (evaluate_compare S' p' turns' n' locals line e)
        sim_compare line (Compare m first more) = sim_bind (sim_sum line first) λ x _. sim_relations line x more

        sim_relations : (line : ℕ) (x : Value) (more : Part (many related)) → Sims n Value (compare S p turns n locals line x more) (compare S' p' turns' n' locals line x more)
        sim_relations line x NoMore = sim_give x tt
        sim_relations line x (More (Related relation operand) more) = sim_bind (sim_pay 1) λ _ _. sim_bind (sim_sum line operand) λ y _. sim_bind (sim_answered n line (relate relation x y)) λ z _. sim_relations line z more

        sim_sum : (line : ℕ) (e : Of r-sum) → Sims n Value (evaluate_sum S p turns n locals line e) (evaluate_sum S' p' turns' n' locals line e)
        sim_sum line (Sum m first more) = sim_bind (sim_term line first) λ x _. sim_add line x more

        sim_add : (line : ℕ) (x : Value) (more : Part (many signed)) → Sims n Value (add S p turns n locals line x more) (add S' p' turns' n' locals line x more)
        sim_add line x NoMore = sim_give x tt
        sim_add line x (More (Added _ operand) more) = sim_bind (sim_pay 1) λ _ _. sim_bind (sim_term line operand) λ y _. sim_bind (sim_answered n line (plus x y)) λ z _. sim_add line z more
        sim_add line x (More (Subtracted _ operand) more) = sim_bind (sim_pay 1) λ _ _. sim_bind (sim_term line operand) λ y _. sim_bind (sim_answered n line (minus x y)) λ z _. sim_add line z more

        sim_term : (line : ℕ) (e : Of r-term) → Sims n Value (evaluate_term S p turns n locals line e) (evaluate_term S' p' turns' n' locals line e)
        sim_term line (Term m first more) = sim_bind (sim_prefix line first) λ x _. sim_multiply line x more

        sim_multiply : (line : ℕ) (x : Value) (more : Part (many multiplied)) → Sims n Value (multiply S p turns n locals line x more) (multiply S' p' turns' n' locals line x more)
        sim_multiply line x NoMore = sim_give x tt
        sim_multiply line x (More (Multiplied _ operand) more) = sim_bind (sim_pay 1) λ _ _. sim_bind (sim_prefix line operand) λ y _. sim_bind (sim_answered n line (times x y)) λ z _. sim_multiply line z more
        sim_multiply line x other = sim_stuck n Value

        sim_prefix : (line : ℕ) (e : Of r-prefix) → Sims n Value (evaluate_prefix S p turns n locals line e) (evaluate_prefix S' p' turns' n' locals line e)
        sim_prefix line (Prefix m NoMore x) = sim_power line x
        sim_prefix line other = sim_stuck n Value

        sim_power : (line : ℕ) (e : Of r-power) → Sims n Value (evaluate_power S p turns n locals line e) (evaluate_power S' p' turns' n' locals line e)
        sim_power line (Power m x NoMore) = sim_primary line x
        sim_power line other = sim_stuck n Value

        sim_primary : (line : ℕ) (e : Of r-primary) → Sims n Value (evaluate_primary S p turns n locals line e) (evaluate_primary S' p' turns' n' locals line e)
        sim_primary line (NumberValue m digits) = sim_bind (sim_pay 1) λ _ _. sim_give _ tt
        sim_primary line (PathValue m path) = sim_bind (sim_locate line path) λ place _. sim_bind (sim_fetch n place) λ v _. sim_read n line v
        sim_primary line (Brackets m _ e _) = sim_evaluate line e
        sim_primary line other = sim_stuck n Value

        sim_locate : (line : ℕ) (path : Of r-path) → Sims n Place (locate S p turns n locals line path) (locate S' p' turns' n' locals line path)
        sim_locate line (Path m name NoMore) = sim_bind (sim_pay 1) λ _ _. sim_give _ tt
        sim_locate line other = sim_stuck n Place

      sim_condition : (line : ℕ) (e : Of r-expr) → Sims n Bool (condition S p turns n locals line e) (condition S' p' turns' n' locals line e)
      sim_condition line e = sim_bind (sim_evaluate line e) λ v _. sim_truth n v

      sim_evaluate_width : (line : ℕ) (width : Part (maybe (t SignColon ⨟ rule r-expr))) → Sims n ℕ (evaluate_width S p turns n locals line width) (evaluate_width S' p' turns' n' locals line width)
      sim_evaluate_width line Absent = sim_give 0 tt
      sim_evaluate_width line (Present (Behind _ e)) = sim_bind (sim_evaluate line e) λ v _. sim_width n line v

      sim_show : (line : ℕ) (part : Of r-shown) → Sims n (Unit {0}) (show S p turns n locals line part) (show S' p' turns' n' locals line part)
      sim_show line (Shown m e width) = sim_bind (sim_evaluate line e) λ v _. sim_bind (sim_evaluate_width line width) λ w _. sim_put_value n v w

      sim_show_more : (line : ℕ) (more : Part (many (t SignComma ⨟ rule r-shown))) → Sims n (Unit {0}) (show_more S p turns n locals line more) (show_more S' p' turns' n' locals line more)
      sim_show_more line NoMore = sim_give tt tt
      sim_show_more line (More (Behind _ part) more) = sim_bind (sim_show line part) λ _ _. sim_show_more line more

      sim_end_line : (dots : Part (maybe (t SignRange))) → Sims n (Unit {0}) (end_line S p turns n locals dots) (end_line S' p' turns' n' locals dots)
      sim_end_line Absent = sim_put n (10 ∷ [])
      sim_end_line (Present _) = sim_give tt tt

      sim_simple : (s : Of r-statement) → Sims n Flow (execute_simple S p turns n locals s) (execute_simple S' p' turns' n' locals s)
      sim_simple (Assign m path _ e) = sim_bind (sim_pay 1) λ _ _. sim_bind (sim_locate m.line path) λ place _. sim_bind (sim_evaluate m.line e) λ v _. sim_bind (sim_change _ _ (k.assign place v)) λ _ _. sim_give Next tt
      sim_simple (Simple m (Exit _)) = sim_bind (sim_pay 1) λ _ _. sim_give Exits tt
      sim_simple (Simple m (ExitWhen _ _ e)) = sim_bind (sim_pay 1) λ _ _. sim_bind (sim_condition m.line e) λ holds _. sim_give _ tt
      sim_simple (Simple m (Put _ Absent (Listed first more) dots)) = sim_bind (sim_pay 1) λ _ _. sim_bind (sim_show m.line first) λ _ _. sim_bind (sim_show_more m.line more) λ _ _. sim_bind (sim_end_line dots) λ _ _. sim_give Next tt
      sim_simple other = sim_stuck n Flow

      mutual
        sim_execute : (s : Of r-statement) → Sims n Flow (execute S p turns n locals s) (execute S' p' turns' n' locals s)
        sim_execute (If m _ e _ block elsifs otherwise _ _) = sim_bind (sim_pay _) λ _ _. sim_bind (sim_condition m.line e) λ holds _. sim_if holds (λ _. sim_block block) (λ _. sim_elsifs elsifs _ _ (sim_otherwise otherwise))
        sim_execute (Loop m _ Absent block _ _) = sim_bind (sim_pay _) λ _ _. sim_rounds (joins locals block) n n' le _ _ (sim_block block)
        sim_execute other = sim_simple other

        sim_elsifs : (elsifs : Part (many (rule r-elsif))) (m : Step S Flow) (m' : Step S' Flow) → Sims n Flow m m' → Sims n Flow (execute_elsifs S p turns n locals elsifs m) (execute_elsifs S' p' turns' n' locals elsifs m')
        sim_elsifs NoMore m m' h = h
        sim_elsifs (More (Elsif a _ e _ block) more) m m' h = sim_bind (sim_pay 1) λ _ _. sim_bind (sim_condition a.line e) λ holds _. sim_if holds (λ _. sim_block block) (λ _. sim_elsifs more m m' h)

        sim_otherwise : (otherwise : Part (maybe (t WordElse ⨟ rule r-block))) → Sims n Flow (execute_otherwise S p turns n locals otherwise) (execute_otherwise S' p' turns' n' locals otherwise)
        sim_otherwise (Present (Behind _ block)) = sim_block block
        sim_otherwise Absent = sim_give Next tt

        sim_block : (block : Of r-block) → Sims n Flow (execute_block S p turns n locals block) (execute_block S' p' turns' n' locals block)
        sim_block (Block m parts) = sim_parts parts

        sim_parts : (parts : Part (many (separated block_part))) → Sims n Flow (execute_parts S p turns n locals parts) (execute_parts S' p' turns' n' locals parts)
        sim_parts NoMore = sim_give Next tt
        sim_parts (More (Separated (BlockStatement s) _) more) = sim_bind (sim_execute s) λ flow _. sim_and_then n flow _ _ (sim_parts more)
        sim_parts other = sim_stuck n Flow

      sim_declare_all : (names : List Variable) → Sims n (Unit {0}) (declare_all S p turns n locals names) (declare_all S' p' turns' n' locals names)
      sim_declare_all [] = sim_give tt tt
      sim_declare_all (x ∷ names) = sim_bind (sim_pay 2) λ _ _. sim_bind (sim_change _ _ (k.declare x Unset)) λ _ _. sim_declare_all names

      sim_assign_all : (v : Value) (names : List Variable) → Sims n (Unit {0}) (assign_all S p turns n locals v names) (assign_all S' p' turns' n' locals v names)
      sim_assign_all v [] = sim_give tt tt
      sim_assign_all v (x ∷ names) = sim_bind (sim_change _ _ (k.assign _ v)) λ _ _. sim_assign_all v names

      sim_var : (x : Of r-var) → Sims n (Unit {0}) (execute_var S p turns n locals x) (execute_var S' p' turns' n' locals x)
      sim_var (StartedDeclaration m _ names _ e) = sim_bind (sim_declare_all (names_of names)) λ _ _. sim_bind (sim_evaluate m.line e) λ v _. sim_assign_all v (names_of names)
      sim_var (TypedDeclaration m _ names _ (Spec spec NoMore (IntType base _)) Absent) = sim_declare_all (names_of names)
      sim_var (TypedDeclaration m _ names _ (Spec spec NoMore (IntType base _)) (Present (Behind _ (ValueStart start e)))) = sim_bind (sim_declare_all (names_of names)) λ _ _. sim_bind (sim_evaluate m.line e) λ v _. sim_assign_all v (names_of names)
      sim_var other = sim_stuck n (Unit {0})

      sim_item : (item : Of r-item) → Sims n Flow (execute_item S p turns n locals item) (execute_item S' p' turns' n' locals item)
      sim_item (ItemVar m x) = sim_bind (sim_var x) λ _ _. sim_give Next tt
      sim_item (ItemStatement m s) = sim_execute s
      sim_item other = sim_stuck n Flow

      sim_items : (items : Part (many (separated (rule r-item)))) → Sims n (Unit {0}) (execute_items S p turns n locals items) (execute_items S' p' turns' n' locals items)
      sim_items NoMore = sim_give tt tt
      sim_items (More (Separated item _) more) = sim_bind (sim_item item) λ flow _. sim_only_next n flow _ _ (sim_items more)

      pub sim_program : (program : Of r-program) → Sims n (Unit {0}) (execute_program S p turns n locals program) (execute_program S' p' turns' n' locals program)
      sim_program (Program m items) = sim_items items
