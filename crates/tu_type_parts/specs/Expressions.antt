-- The type of an expression, by cases on its form, and what it becomes.
use Rattle.std.specs.Prelude.{ℕ, true, false, min, List, [], ◌∷◌, pos}
use Rattle.grammar.specs.Tree.{Mark}
use Rattle.tu_base.specs.declared.limits.TheConstants.{MOST_INT}
use Rattle.tu_base.specs.declared.operator.Relation.TheVariants as relation
use Rattle.tu_base.specs.declared.operator.Unary.{Unary}
use Rattle.tu_base.specs.declared.operator.Unary.TheVariants as unary
use Rattle.tu_base.specs.declared.operator.Binary.TheVariants as binary
use Rattle.tu_base.specs.declared.operator.Junction.TheVariants as junction
use Rattle.tu_token.specs.LexFaults.{value_after}
use Rattle.tu_token.specs.Scans.{literal_of}
use Rattle.tu_token.specs.Rules.{r-expr, r-or, r-and, r-not, r-compare, r-relation, r-sum, r-term, r-prefix, r-power, r-primary, r-path, r-arg, r-place, many, maybe, listed, t}
use Rattle.tu_token.specs.declared.class.Class.TheVariants.{WordNot}
use Rattle.tu_token.specs.Syntax.{Of}
use Rattle.tu_expr.specs.Parts.{Part, further, mark_of, text_of, start_of}
use Rattle.tu_expr.specs.Views.{implied, ored, anded, related, signs, signed, multiplied, raised, bracketed as brackets, steps}
use Rattle.tu_expr.specs.Forms.{Present, Absent, NoMore, More, Behind, Listed, Expr, Or, And, Not, Compare, Sum, Term, Prefix, Power, Related, Equal, NotEqual, Less, Greater, LessOrEqual, GreaterOrEqual, In, NotIn, Added, Subtracted, Multiplied, Divided, Reduced, Plus, Minus, NumberValue, TrueValue, FalseValue, PathValue, Brackets, TextValue, NilValue, Bracketed, Path, FieldStep, ArgumentStep, OneArg, PartArg, AllArg, ValuePlace, LengthPlace, LengthLessPlace}
use Rattle.tu_core.specs.Core.{Literal, Written, Nil}
use Rattle.tu_type_base.specs.declared.fault.FaultKind.TheVariants.{Mismatch}
use Rattle.tu_type_base.specs.Checked.{Checked, Good, fault, both, ◌⊳◌}
use Rattle.tu_type_constants.specs.declared.constant.Constant.TheVariants.{NoConstant, Is, IsText}
use Rattle.tu_type_table.specs.Types.{int, boolean}
use Rattle.tu_type_operands.specs.declared.value.Value.TheVariants.{Points}
use Rattle.tu_type_operands.specs.Operands.{Operand, at_mark, a_value, a_number, a_text, number_of, text_of_part, value_of}
use Rattle.tu_type_operands.specs.declared.state.State.{State}
use Rattle.tu_type_operands.specs.Names.{pointer_type}
use Rattle.tu_type_rules.specs.Operators.{Operator, Computes, Relates, Finds, Decides, a_truth, Further, level, prefixed}
use Rattle.tu_type_rules.specs.Arguments.{Position, ValueAt, Length, LessLength, Argument, One, Two, All}
use Rattle.tu_type_rules.specs.Paths.{Standing, StandsForCollection, root, completed, dotted, bracketed, part_of_string, operand_of}

-- ---- literals, signs and relations

abbrev pub number_of_digits : List ℕ → ℕ
number_of_digits digits = min (value_after 0 digits) MOST_INT

abbrev pub nots : Part (many (t WordNot)) → List Unary
nots NoMore = []
nots (More word more) = unary.Not ∷ nots more

abbrev pub signs_of : Part (many signs) → List Unary
signs_of NoMore = []
signs_of (More (Plus _) more) = unary.Plus ∷ signs_of more
signs_of (More (Minus _) more) = unary.Minus ∷ signs_of more

abbrev pub relation_of : Of r-relation → Operator
relation_of (Equal m _) = Relates relation.Equal
relation_of (NotEqual m _) = Relates relation.NotEqual
relation_of (Less m _) = Relates relation.Less
relation_of (Greater m _) = Relates relation.Greater
relation_of (LessOrEqual m _) = Relates relation.LessOrEqual
relation_of (GreaterOrEqual m _) = Relates relation.GreaterOrEqual
relation_of (In m _) = Finds true
relation_of (NotIn m _ _) = Finds false

-- an operand behind its operator; only a relation is a node of its own
abbrev pub behind : Operator → (link : ℕ) → Mark → Checked Operand → Further
behind operator link m x = record { operator = operator; link = link; at = m; operand = x }

-- what `nil` names
abbrev pub nil_of : State → (node : ℕ) → (m : Mark) → Standing → Checked Operand
nil_of s node m (StandsForCollection c is_foreign) = Good (a_value (pointer_type s c) (Points c (Nil node (at_mark m) c)) NoConstant)
nil_of s node m other = fault Mismatch m

-- a part of a text literal, or of such a part
abbrev pub part_of_literal : Mark → Operand × Argument → Checked Operand
part_of_literal m z = text_of_part m (value_of z.0) ⊳ λ e. part_of_string m e (z.1 ∷ [])

module _ (s : State) where
  abbrev mutual
    pub expr : Of r-expr → Checked Operand
    expr (Expr m first more) = level s.types m (or first) (implications more)

    pub implications : Part (many implied) → List Further
    implications NoMore = []
    implications (More (Behind _ y) more) = behind (Decides junction.Implies) 0 (mark_of y) (or y) ∷ implications more

    pub or : Of r-or → Checked Operand
    or (Or m first more) = level s.types m (and first) (alternatives more)

    pub alternatives : Part (many ored) → List Further
    alternatives NoMore = []
    alternatives (More (Behind _ y) more) = behind (Decides junction.Or) 0 (mark_of y) (and y) ∷ alternatives more

    pub and : Of r-and → Checked Operand
    and (And m first more) = level s.types m (not first) (conjunctions more)

    pub conjunctions : Part (many anded) → List Further
    conjunctions NoMore = []
    conjunctions (More (Behind _ y) more) = behind (Decides junction.And) 0 (mark_of y) (not y) ∷ conjunctions more

    pub not : Of r-not → Checked Operand
    not (Not m words y) = compare y ⊳ prefixed m.number boolean (nots words) (mark_of y)

    pub compare : Of r-compare → Checked Operand
    compare (Compare m first more) = level s.types m (sum first) (relations more)

    pub relations : Part (many related) → List Further
    relations NoMore = []
    relations (More (Related x y) more) = behind (relation_of x) (mark_of x).number (mark_of y) (sum y) ∷ relations more

    pub sum : Of r-sum → Checked Operand
    sum (Sum m first more) = level s.types m (term first) (terms more)

    pub terms : Part (many signed) → List Further
    terms NoMore = []
    terms (More (Added _ y) more) = behind (Computes binary.Add) 0 (mark_of y) (term y) ∷ terms more
    terms (More (Subtracted _ y) more) = behind (Computes binary.Subtract) 0 (mark_of y) (term y) ∷ terms more

    pub term : Of r-term → Checked Operand
    term (Term m first more) = level s.types m (prefix first) (factors more)

    pub factors : Part (many multiplied) → List Further
    factors NoMore = []
    factors (More (Multiplied _ y) more) = behind (Computes binary.Multiply) 0 (mark_of y) (prefix y) ∷ factors more
    factors (More (Divided _ y) more) = behind (Computes binary.Divide) 0 (mark_of y) (prefix y) ∷ factors more
    factors (More (Reduced _ y) more) = behind (Computes binary.Modulo) 0 (mark_of y) (prefix y) ∷ factors more

    pub prefix : Of r-prefix → Checked Operand
    prefix (Prefix m before y) = power y ⊳ prefixed m.number int (signs_of before) (mark_of y)

    pub power : Of r-power → Checked Operand
    power (Power m first more) = level s.types m (primary first) (powers more)

    pub powers : Part (many raised) → List Further
    powers NoMore = []
    powers (More (Behind _ y) more) = behind (Computes binary.Power) 0 (mark_of y) (primary y) ∷ powers more

    pub primary : Of r-primary → Checked Operand
    primary (NumberValue m digits) = Good (a_number int (Literal m.number (pos (number_of_digits (text_of digits)))) (Is (pos (number_of_digits (text_of digits)))))
    primary (TrueValue m _) = Good (a_truth (Literal m.number (pos 1)) (Is (pos 1)))
    primary (FalseValue m _) = Good (a_truth (Literal m.number (pos 0)) (Is (pos 0)))
    primary (PathValue m x) = path x ⊳ operand_of m
    primary (Brackets m _ y _) = expr y
    primary (TextValue m text parts) = text_parts m (Good (a_text (Written m.number (literal_of (text_of text))) (IsText (literal_of (text_of text))))) parts
    primary (NilValue m _ _ x _) = path x ⊳ nil_of s m.number (mark_of x)

    pub text_parts : Mark → Checked Operand → Part (many brackets) → Checked Operand
    text_parts m x NoMore = x
    text_parts m x (More (Bracketed _ y _) more) = text_parts m (both x (argument y) ⊳ part_of_literal m) more

    -- what a path stands for; where steps follow one another, the front is a part of the longer path
    pub path : Of r-path → Checked Standing
    path (Path m name more) = path_steps m (root s m (text_of name) (start_of name)) more ⊳ completed s m

    pub path_steps : Mark → Checked Standing → Part (many steps) → Checked Standing
    path_steps m x NoMore = x
    path_steps m x (More (FieldStep _ name) more) = path_steps m (x ⊳ dotted s m (text_of name) (start_of name)) more
    path_steps m x (More (ArgumentStep _ args _) more) = path_steps m (both x (arguments args) ⊳ bracketed s m) more

    pub arguments : Part (maybe (listed r-arg)) → Checked (List Argument)
    arguments Absent = Good []
    arguments (Present (Listed first more)) = both (argument first) (more_arguments more) ⊳ λ z. Good (z.0 ∷ z.1)

    pub more_arguments : Part (many (further r-arg)) → Checked (List Argument)
    more_arguments NoMore = Good []
    more_arguments (More (Behind _ x) more) = both (argument x) (more_arguments more) ⊳ λ z. Good (z.0 ∷ z.1)

    pub argument : Of r-arg → Checked Argument
    argument (OneArg m x) = position x ⊳ λ z. Good (One m z)
    argument (PartArg m x _ y) = both (position x) (position y) ⊳ λ z. Good (Two m z.0 (mark_of y) z.1)
    argument (AllArg m _) = Good (All m)

    pub position : Of r-place → Checked Position
    position (ValuePlace m y) = expr y ⊳ λ a. Good (ValueAt a)
    position (LengthPlace m _) = Good Length
    position (LengthLessPlace m _ _ y) = term y ⊳ λ a. number_of int (mark_of y) (value_of a) ⊳ λ e. Good (LessLength e)
