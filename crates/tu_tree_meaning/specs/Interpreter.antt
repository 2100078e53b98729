-- What a program does, over any store.
use Rattle.std.specs.Prelude.{ℕ, zero, suc, ◌+◌, ◌-◌, Bool, ◌&&◌, List, [], ◌∷◌, ◌++◌, length, map, replicate, ℤ, pos, int_le, unsigned_abs, if◌then◌else◌}
use Rattle.std.specs.Fmt.{signed_decimal}
use Rattle.tu_base.specs.declared.limits.TheConstants.{MOST_WIDTH}
use Rattle.grammar.specs.Description.{rule}
use Rattle.tu_base.specs.Trace.{Put as put_byte}
use Rattle.tu_base.specs.declared.kind.Kind.TheVariants as kind
use Rattle.tu_token.specs.declared.class.Class.TheVariants.{SignColon, SignComma, SignRange, WordElse}
use Rattle.tu_token.specs.LexFaults.{value_after}
use Rattle.tu_token.specs.Rules.{r-program, r-item, r-block, r-var, r-names, r-statement, r-elsif, r-shown, r-expr, r-or, r-and, r-not, r-compare, r-sum, r-term, r-prefix, r-power, r-primary, r-path, ◌⨟◌, many, maybe, t as lexeme}
use Rattle.tu_token.specs.Syntax.{Of}
use Rattle.tu_expr.specs.Forms.{Present, Absent, More, NoMore, Behind, Listed, Expr, Or, And, Not, Compare, Sum, Term, Prefix, Power, Related, Added, Subtracted, Multiplied, NumberValue, PathValue, Brackets, Path}
use Rattle.tu_expr.specs.Parts.{Part, text_of}
use Rattle.tu_expr.specs.Views.{related, signed, multiplied}
use Rattle.tu_tree.specs.Forms.{Separated, Program, ItemVar, ItemStatement, Block, BlockStatement, StartedDeclaration, TypedDeclaration, Names, ValueStart, Spec, IntType, Assign, If, Elsif, Loop, Simple, Exit, ExitWhen, Put, Shown}
use Rattle.tu_tree.specs.Parts.{separated}
use Rattle.tu_tree.specs.StatementViews.{block_part}
use Rattle.tu_tree.specs.TypeViews.{named}
use Rattle.tu_tree_meaning.specs.Values.{Value, Unset, Int, Truth, Variable, variable_of, Place, place_of}
use Rattle.tu_tree_meaning.specs.Store.{Passing}
use Rattle.tu_tree_meaning.specs.Operators.{Answer, Gives, Raises, NoRule, plus, minus, times, relate}
use Rattle.tu_tree_meaning.specs.Rooms.{joins}
use Rattle.tu_tree_meaning.specs.Steps.{Step, give, raise, stop, look, change, pay, happen, turn, ◌>>=◌, ◌>>◌}

-- No rule says what comes: a form has no meaning yet, or values do not fit. This is in no accepted program. It shows as an exception at
-- line 0, which no text has.
abbrev pub stuck : {S A : Type 0} → Step S A
stuck = raise kind.Case 0

-- goes on with what an operator answers
abbrev pub answered : {S : Type 0} → (line : ℕ) → Answer → Step S Value
answered line (Gives v) = give v
answered line (Raises exception) = raise exception line
answered line NoRule = stuck

-- what is read is to be set
abbrev pub read : {S : Type 0} → (line : ℕ) → Value → Step S Value
read line Unset = raise kind.Unset line
read line v = give v

-- a condition is a truth value
abbrev pub truth_of : {S : Type 0} → Value → Step S Bool
truth_of (Truth b) = give b
truth_of v = stuck

-- a width is from 0 to 255
abbrev pub is_width : ℤ → Bool
is_width z = int_le (pos 0) z && int_le z (pos MOST_WIDTH)

-- a width as a number, or Range
abbrev pub width_of : {S : Type 0} → (line : ℕ) → Value → Step S ℕ
width_of line (Int z) = if is_width z then give (unsigned_abs z) else raise kind.Range line
width_of line v = stuck

-- each byte that is put costs a unit
abbrev pub put : {S : Type 0} → List ℕ → Step S (Unit {0})
put bytes = do
  pay (length bytes)
  happen (map put_byte bytes)

-- An int is put in decimal, which costs 32 for its text, with blanks before it up to its width.
abbrev pub put_value : {S : Type 0} → Value → (width : ℕ) → Step S (Unit {0})
put_value (Int z) width = do
  pay 32
  put (replicate (width - length (signed_decimal z)) 32 ++ signed_decimal z)
put_value v width = stuck

-- how a statement is left
pub data Flow : Type 0 where
  Next : Flow
  -- by `exit`, which leaves the loop around it
  Exits : Flow

-- the rest of a block, behind a statement
abbrev pub and_then : {S : Type 0} → Flow → Step S Flow → Step S Flow
and_then Next rest = rest
and_then Exits rest = give Exits

-- the rest of a loop, behind a round
abbrev pub unless_left : {S : Type 0} → Flow → Step S Flow → Step S Flow
unless_left Next rest = rest
unless_left Exits rest = give Next

-- the rest of the program, behind an item; there is no loop around it
abbrev pub only_next : {S : Type 0} → Flow → Step S (Unit {0}) → Step S (Unit {0})
only_next Next rest = rest
only_next Exits rest = stuck

-- The rounds of a loop. Each begins a turn, and costs the loop's joins. The depth bounds their number for the definition alone: where it
-- is t or more, the turns run out before it does.
abbrev pub rounds : {S : Type 0} → (t joins depth : ℕ) → Step S Flow → Step S Flow
rounds t joins zero body = stop
rounds t joins (suc depth) body = do
  turn t
  pay joins
  flow ← body
  unless_left flow (rounds t joins depth body)

-- the names of a declaration behind the first
abbrev pub more_names : Part (many named) → List Variable
more_names NoMore = []
more_names (More (Behind _ name) more) = variable_of name ∷ more_names more

-- the names of a declaration
abbrev pub names_of : Of r-names → List Variable
names_of (Names m first more) = variable_of first ∷ more_names more

-- a text with these scalar locals, within t turns
module _ (S : Type 0) (passing : Passing S) (t depth : ℕ) (locals : List Variable) where
  -- An expression, from the left. What it raises has the line of the statement, declaration or arm around it. Each literal, name and
  -- operator costs a unit. More than one operand of `=>`, `or`, `and` and `**`, and `not` and signs before one, have no meaning yet.
  abbrev mutual
    pub evaluate : (line : ℕ) → Of r-expr → Step S Value
    evaluate line (Expr m x NoMore) = evaluate_or line x
    evaluate line other = stuck

    pub evaluate_or : (line : ℕ) → Of r-or → Step S Value
    evaluate_or line (Or m x NoMore) = evaluate_and line x
    evaluate_or line other = stuck

    pub evaluate_and : (line : ℕ) → Of r-and → Step S Value
    evaluate_and line (And m x NoMore) = evaluate_not line x
    evaluate_and line other = stuck

    pub evaluate_not : (line : ℕ) → Of r-not → Step S Value
    evaluate_not line (Not m NoMore x) = evaluate_compare line x
    evaluate_not line other = stuck

    pub evaluate_compare : (line : ℕ) → Of r-compare → Step S Value
    evaluate_compare line (Compare m first more) = do
      x ← evaluate_sum line first
      compare line x more

    -- x is compared with the next operand, and what comes of it with the one behind that
    pub compare : (line : ℕ) → Value → Part (many related) → Step S Value
    compare line x NoMore = give x
    compare line x (More (Related relation operand) more) = do
      pay 1
      y ← evaluate_sum line operand
      z ← answered line (relate relation x y)
      compare line z more

    pub evaluate_sum : (line : ℕ) → Of r-sum → Step S Value
    evaluate_sum line (Sum m first more) = do
      x ← evaluate_term line first
      add line x more

    -- the next operand is added to x or subtracted from it
    pub add : (line : ℕ) → Value → Part (many signed) → Step S Value
    add line x NoMore = give x
    add line x (More (Added _ operand) more) = do
      pay 1
      y ← evaluate_term line operand
      z ← answered line (plus x y)
      add line z more
    add line x (More (Subtracted _ operand) more) = do
      pay 1
      y ← evaluate_term line operand
      z ← answered line (minus x y)
      add line z more

    pub evaluate_term : (line : ℕ) → Of r-term → Step S Value
    evaluate_term line (Term m first more) = do
      x ← evaluate_prefix line first
      multiply line x more

    -- x is multiplied by the next operand; `div` and `mod` have no meaning yet
    pub multiply : (line : ℕ) → Value → Part (many multiplied) → Step S Value
    multiply line x NoMore = give x
    multiply line x (More (Multiplied _ operand) more) = do
      pay 1
      y ← evaluate_prefix line operand
      z ← answered line (times x y)
      multiply line z more
    multiply line x other = stuck

    pub evaluate_prefix : (line : ℕ) → Of r-prefix → Step S Value
    evaluate_prefix line (Prefix m NoMore x) = evaluate_power line x
    evaluate_prefix line other = stuck

    pub evaluate_power : (line : ℕ) → Of r-power → Step S Value
    evaluate_power line (Power m x NoMore) = evaluate_primary line x
    evaluate_power line other = stuck

    -- a number, what stands at a path's place, or what stands in brackets; texts, `true`, `false` and `nil` have no meaning yet
    pub evaluate_primary : (line : ℕ) → Of r-primary → Step S Value
    evaluate_primary line (NumberValue m digits) = do
      pay 1
      give (Int (pos (value_after 0 (text_of digits))))
    evaluate_primary line (PathValue m path) = do
      place ← locate line path
      v ← look (λ s. passing.fetch s place)
      read line v
    evaluate_primary line (Brackets m _ e _) = evaluate line e
    evaluate_primary line other = stuck

    -- the place that a path names; steps behind its root have no meaning yet
    pub locate : (line : ℕ) → Of r-path → Step S Place
    locate line (Path m root NoMore) = do
      pay 1
      give (place_of (variable_of root))
    locate line other = stuck

  -- whether a condition holds
  abbrev pub condition : (line : ℕ) → Of r-expr → Step S Bool
  condition line e = do
    v ← evaluate line e
    truth_of v

  -- the width of a part of `put`, which is 0 where none is written
  abbrev pub evaluate_width : (line : ℕ) → Part (maybe (lexeme SignColon ⨟ rule r-expr)) → Step S ℕ
  evaluate_width line Absent = give 0
  evaluate_width line (Present (Behind _ e)) = do
    v ← evaluate line e
    width_of line v

  -- a part of `put`: its value, then its width, and then it is put
  abbrev pub show : (line : ℕ) → Of r-shown → Step S (Unit {0})
  show line (Shown m e width) = do
    v ← evaluate line e
    w ← evaluate_width line width
    put_value v w

  -- the parts behind the first
  abbrev pub show_more : (line : ℕ) → Part (many (lexeme SignComma ⨟ rule r-shown)) → Step S (Unit {0})
  show_more line NoMore = give tt
  show_more line (More (Behind _ part) more) = do
    show line part
    show_more line more

  -- the end of the line, unless `..` stands there
  abbrev pub end_line : Part (maybe (lexeme SignRange)) → Step S (Unit {0})
  end_line Absent = put (10 ∷ [])
  end_line (Present _) = give tt

  -- A statement without blocks. It costs a unit as it begins. A call, `return`, `result`, `assert`, `new`, `free`, `tag`, `get`, `open`,
  -- `close` and `put` to a stream have no meaning yet.
  abbrev pub execute_simple : Of r-statement → Step S Flow
  -- the place is evaluated, then the value, and then it is stored
  execute_simple (Assign m path _ e) = do
    pay 1
    place ← locate m.line path
    v ← evaluate m.line e
    change (λ s. passing.assign s place v)
    give Next
  execute_simple (Simple m (Exit _)) = do
    pay 1
    give Exits
  execute_simple (Simple m (ExitWhen _ _ e)) = do
    pay 1
    leaves ← condition m.line e
    give (if leaves then Exits else Next)
  -- each part is put before the next is evaluated
  execute_simple (Simple m (Put _ Absent (Listed first more) dots)) = do
    pay 1
    show m.line first
    show_more m.line more
    end_line dots
    give Next
  execute_simple other = stuck

  -- A statement. One with blocks costs its joins more. `for`, `case`, `begin` and an invariant have no meaning yet.
  abbrev mutual
    pub execute : Of r-statement → Step S Flow
    execute (If m _ e _ block elsifs otherwise _ _) = do
      pay (1 + joins locals (Behind block (Behind elsifs otherwise)))
      holds ← condition m.line e
      if holds then execute_block block else execute_elsifs elsifs (execute_otherwise otherwise)
    execute (Loop m _ Absent block _ _) = do
      pay (1 + joins locals block)
      rounds t (joins locals block) depth (execute_block block)
    execute other = execute_simple other

    -- the first arm whose condition holds, else what stands behind the arms; an arm costs a unit as it is looked at, and has a line of its own
    pub execute_elsifs : Part (many (rule r-elsif)) → Step S Flow → Step S Flow
    execute_elsifs NoMore otherwise = otherwise
    execute_elsifs (More (Elsif m _ e _ block) more) otherwise = do
      pay 1
      holds ← condition m.line e
      if holds then execute_block block else execute_elsifs more otherwise

    -- what stands behind the arms, if anything does
    pub execute_otherwise : Part (maybe (lexeme WordElse ⨟ rule r-block)) → Step S Flow
    execute_otherwise Absent = give Next
    execute_otherwise (Present (Behind _ block)) = execute_block block

    -- a block
    pub execute_block : Of r-block → Step S Flow
    execute_block (Block m parts) = execute_parts parts

    -- the statements of a block in order; declarations in it have no meaning yet
    pub execute_parts : Part (many (separated block_part)) → Step S Flow
    execute_parts NoMore = give Next
    execute_parts (More (Separated (BlockStatement s) _) more) = do
      flow ← execute s
      and_then flow (execute_parts more)
    execute_parts other = stuck

  -- each variable is declared, and unset; its name costs a unit, and its word one
  abbrev pub declare_all : List Variable → Step S (Unit {0})
  declare_all [] = give tt
  declare_all (x ∷ names) = do
    pay 2
    change (λ s. passing.declare s x Unset)
    declare_all names

  -- each variable receives the value
  abbrev pub assign_all : Value → List Variable → Step S (Unit {0})
  assign_all v [] = give tt
  assign_all v (x ∷ names) = do
    change (λ s. passing.assign s (place_of x) v)
    assign_all v names

  -- The variables are unset. Then the start, if there is one, is evaluated once, and each of them receives it. Types other than `int`,
  -- `init` and collections have no meaning yet.
  abbrev pub execute_var : Of r-var → Step S (Unit {0})
  execute_var (StartedDeclaration m _ names _ e) = do
    declare_all (names_of names)
    v ← evaluate m.line e
    assign_all v (names_of names)
  execute_var (TypedDeclaration m _ names _ (Spec at NoMore (IntType base _)) Absent) = declare_all (names_of names)
  execute_var (TypedDeclaration m _ names _ (Spec at NoMore (IntType base _)) (Present (Behind _ (ValueStart start e)))) = do
    declare_all (names_of names)
    v ← evaluate m.line e
    assign_all v (names_of names)
  execute_var other = stuck

  -- an item of the program; constants, types, subprograms and modules have no meaning yet
  abbrev pub execute_item : Of r-item → Step S Flow
  execute_item (ItemVar m x) = do
    execute_var x
    give Next
  execute_item (ItemStatement m s) = execute s
  execute_item other = stuck

  -- the items of the program in order
  abbrev pub execute_items : Part (many (separated (rule r-item))) → Step S (Unit {0})
  execute_items NoMore = give tt
  execute_items (More (Separated item _) more) = do
    flow ← execute_item item
    only_next flow (execute_items more)

  -- a program
  abbrev pub execute_program : Of r-program → Step S (Unit {0})
  execute_program (Program m items) = execute_items items
