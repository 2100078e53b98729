-- What the code of expressions and conditions does, what it changes, and how much it is.
use Rattle.std.specs.Prelude.{◌≡◌, ℕ, ◌+◌, ◌*◌, ◌≤◌, true, List, [], ◌++◌}
use Rattle.ir_form.specs.declared.op.Op.{Op}
use Rattle.ir_form.specs.declared.unit.Routine.{Routine}
use Rattle.ir_form.specs.declared.unit.Unit.{Unit as RegionUnit}
use Rattle.ir_form.specs.Meaning.{run_list}
use Rattle.ir_form.specs.Place.{Setting}
use Rattle.ir_form.specs.Plain.{Calls}
use Rattle.ir_form.specs.State.{State}
use Rattle.ir_code.specs.declared.code.Code.{Code}
use Rattle.tu_token.specs.Rules.{r-expr}
use Rattle.tu_token.specs.Syntax.{Of}
use Rattle.tu_tree_meaning.specs.Interpreter.{evaluate, condition}
use Rattle.tu_tree_meaning.specs.Store.{Store, by_copying}
use Rattle.tu_value.specs.Meets.{OnlyFrom}
use Rattle.tu_value.specs.declared.pieces.Fixed.{Fixed}
use Rattle.ir_build.specs.Built.{is_built, is_tested}
use Rattle.ir_build.specs.Code.{code_expr, test_expr}
use Rattle.ir_build.specs.Behind.{Makes, Tests}
use Rattle.ir_build.specs.Does.{Does, TestDoes}
use Rattle.ir_build.specs.Keeps.{Named, Site, variables_of}
use Rattle.ir_build.specs.Tokens.{tokens_in, nodes_in}

-- The code of an expression that is built gives its value or raises its exception at the line, at a cost of at most `factor` for each of its units, and
-- `spare` for an exception. That of a condition tells whether it holds.
abbrev pub ExpressionsDo : Type 0
ExpressionsDo = (x : Site) (calls : Calls) (depth line : ℕ) (e : Of r-expr) → is_built (variables_of x.names) e ≡ true → (code : Code) → x.low ≤ code.next → Does x calls (evaluate Store by_copying x.turns depth [] line e) code (code_expr x.fixed x.names line e code)

abbrev pub ConditionsDo : Type 0
ConditionsDo = (x : Site) (calls : Calls) (depth line : ℕ) (e : Of r-expr) → is_tested (variables_of x.names) e ≡ true → (code : Code) → x.low ≤ code.next → TestDoes x calls (condition Store by_copying x.turns depth [] line e) code (test_expr x.fixed x.names line e code)

-- Its values are those from the next one on, in their order, and it may stand wherever the fixed values and the addresses of the variables are seen.
-- It defines and weighs at most 12 for each token, and has no Guards.
abbrev pub ExpressionsFit : Type 0
ExpressionsFit = (u : RegionUnit) (r : Routine) (k : Fixed) (names : List Named) (line : ℕ) (e : Of r-expr) (code : Code) → Makes u r k names (12 * tokens_in e) code (code_expr k names line e code)

abbrev pub ConditionsFit : Type 0
ConditionsFit = (u : RegionUnit) (r : Routine) (k : Fixed) (names : List Named) (line : ℕ) (e : Of r-expr) (code : Code) → Tests u r k names (12 * tokens_in e) code (test_expr k names line e code)

-- Operations more, which define at most so many values. However they end, they have changed nothing but the values from the next one on: no memory, no
-- frame and nothing outside.
pub record Adds (most : ℕ) (code made : Code) : Type 0 where
  pub ops : List Op
  pub is : made.ops ≡ code.ops ++ ops
  pub few : made.next ≤ code.next + most
  pub only : (g : Setting) (calls : Calls) (st : State) (c : ℕ) → let r = run_list g calls ops st c in OnlyFrom code.next st r.state

-- at most 6 values for each node
abbrev pub ExpressionsAdd : Type 0
ExpressionsAdd = (k : Fixed) (names : List Named) (line : ℕ) (e : Of r-expr) (code : Code) → Adds (6 * nodes_in e) code (code_expr k names line e code).code

abbrev pub ConditionsAdd : Type 0
ConditionsAdd = (k : Fixed) (names : List Named) (line : ℕ) (e : Of r-expr) (code : Code) → Adds (6 * nodes_in e) code (test_expr k names line e code).code
