-- Small trees, and what they spell.
use Rattle.std.specs.Prelude.{◌≡◌, ℕ, List, [], ◌∷◌, ◌++◌, refl}
use Rattle.grammar.specs.Description.{Lexeme, rule, print}
use Rattle.grammar.specs.Tree.{no_mark, n-rule, erase}
use Rattle.tu_token.specs.declared.class.Class.{Class}
use Rattle.tu_token.specs.declared.class.Class.TheVariants.{Name, Number, Text, SignImplies, SignRange, SignPower, SignPlus, SignMinus, SignStar, SignLeftBracket, SignRightBracket, SignComma, SignDot, WordAll, WordAnd, WordIn, WordNil, WordNot, WordOr}
use Rattle.tu_token.specs.ClassNumbers.{number}
use Rattle.tu_token.specs.Rules.{Rule, ◌⨟◌, many, maybe, t, listed, body, r-expr, r-or, r-and, r-not, r-compare, r-sum, r-term, r-prefix, r-power, r-primary, r-path, r-arg, r-place}
use Rattle.tu_token.specs.Syntax.{Of}
use Rattle.tu_expr.specs.declared.leaf.Leaf.{Leaf}
use Rattle.tu_expr.specs.declared.expr.RelationKind.TheVariants as relation
use Rattle.tu_expr.specs.declared.expr.Sign.TheVariants as sign
use Rattle.tu_expr.specs.declared.expr.Multiplication.TheVariants as multiplication
use Rattle.tu_expr.specs.declared.expr.PrimaryForm.{PrimaryForm}
use Rattle.tu_expr.specs.declared.expr.PrimaryForm.TheVariants as primary
use Rattle.tu_expr.specs.declared.path.Step.{Step}
use Rattle.tu_expr.specs.declared.path.Step.TheVariants as step
use Rattle.tu_expr.specs.declared.path.ArgForm.TheVariants as arg
use Rattle.tu_expr.specs.declared.path.PlaceForm.TheVariants as place
use Rattle.tu_expr.specs.Parts.{Part, text_of}
use Rattle.tu_expr.specs.Views.{related, signed, multiplied, bracketed, steps, expr_view, or_view, and_view, not_view, relation_view, compare_view, sum_view, term_view, prefix_view, power_view, primary_view, path_view, arg_view, place_view}
use Rattle.tu_expr.specs.Forms.{Present, Absent, More, NoMore, Behind, Listed, Expr, Or, And, Not, Compare, Sum, Term, Prefix, Power, Related, Added, Subtracted, Multiplied, Divided, Reduced, NumberValue, TrueValue, FalseValue, PathValue, Brackets, TextValue, NilValue, Bracketed, Path, FieldStep, ArgumentStep, OneArg, PartArg, AllArg, ValuePlace, LengthPlace, LengthLessPlace}

-- the leaf of a name or literal of one byte
abbrev letter : ℕ → Leaf
letter c = record { text = c ∷ []; start = 0; line = 1 }

abbrev made : {n : Rule} → Part (body n) → Of n
made x = n-rule no_mark x

-- a primary alone, as each level of operators
abbrev power_of : PrimaryForm → Of r-power
power_of x = made (power_view (made (primary_view x)) [])

abbrev prefix_of : PrimaryForm → Of r-prefix
prefix_of x = made (prefix_view [] (power_of x))

abbrev term_of : PrimaryForm → Of r-term
term_of x = made (term_view (prefix_of x) [])

abbrev sum_of : PrimaryForm → Of r-sum
sum_of x = made (sum_view (term_of x) [])

abbrev expr_of : Of r-compare → Of r-expr
expr_of x = made (expr_view (made (or_view (made (and_view (made (not_view 0 x)) [])) [])) [])

abbrev alone : PrimaryForm → Of r-expr
alone x = expr_of (made (compare_view (sum_of x) []))

abbrev path_at : ℕ → List Step → PrimaryForm
path_at c more = primary.Path (made (path_view (letter c) more))

abbrev one : PrimaryForm → Of r-arg
one x = made (arg_view (arg.One (made (place_view (place.Value (alone x))))))

abbrev word : Class → Lexeme
word c = (number c, [])

abbrev name_at : ℕ → Lexeme
name_at c = (number Name, c ∷ [])

abbrev number_at : ℕ → Lexeme
number_at c = (number Number, c ∷ [])

-- a.b (1, * - 2 .. *, all)
abbrev first_path : Of r-expr
first_path =
    alone (path_at 97 (step.Field (letter 98) ∷ step.Arguments (
    one (primary.Number (letter 49))
    ∷ made (arg_view (arg.Part (made (place_view (place.LengthLess (term_of (primary.Number (letter 50)))))) (made (place_view place.Length))))
    ∷ made (arg_view arg.All)
    ∷ []) ∷ []))

path_row : print (erase first_path) ≡ name_at 97 ∷ word SignDot ∷ name_at 98 ∷ word SignLeftBracket ∷ number_at 49 ∷ word SignComma ∷ word SignStar ∷ word SignMinus ∷ number_at 50 ∷ word SignRange ∷ word SignStar ∷ word SignComma ∷ word WordAll ∷ word SignRightBracket ∷ []
path_row = refl

-- not - 1 + 2 * 3 ** 4 not in (a) and "t" (1) => nil (c)
abbrev chains : Of r-expr
chains =
    made (expr_view
    (made (or_view (made (and_view
    (made (not_view 1 (made (compare_view
    (made (sum_view
    (made (term_view (made (prefix_view (sign.Minus ∷ []) (power_of (primary.Number (letter 49))))) []))
    ((
      sign.Plus,
      made (term_view (prefix_of (primary.Number (letter 50)))
          ((multiplication.Times, made (prefix_view [] (made (power_view (made (primary_view (primary.Number (letter 51)))) (made (primary_view (primary.Number (letter 52))) ∷ []))))) ∷ [])),
    ) ∷ [])))
    ((made (relation_view relation.NotIn), sum_of (primary.Brackets (alone (path_at 97 [])))) ∷ [])))))
    (made (not_view 0 (made (compare_view (sum_of (primary.Text (letter 116) (one (primary.Number (letter 49)) ∷ []))) []))) ∷ []))) []))
    (made (or_view (made (and_view (made (not_view 0 (made (compare_view (sum_of (primary.Nil (made (path_view (letter 99) [])))) [])))) [])) []) ∷ []))

chains_row : print (erase chains)
    ≡ word WordNot ∷ word SignMinus ∷ number_at 49 ∷ word SignPlus ∷ number_at 50 ∷ word SignStar ∷ number_at 51 ∷ word SignPower ∷ number_at 52 ∷ word WordNot ∷ word WordIn ∷ word SignLeftBracket ∷ name_at 97 ∷ word SignRightBracket
    ∷ word WordAnd ∷ (number Text, 116 ∷ []) ∷ word SignLeftBracket ∷ number_at 49 ∷ word SignRightBracket ∷ word SignImplies ∷ word WordNil ∷ word SignLeftBracket ∷ name_at 99 ∷ word SignRightBracket ∷ []
chains_row = refl

-- a definition by the forms: the names in an expression
abbrev mutual
  names : Of r-expr → List (List ℕ)
  names (Expr m first more) = names_in_or first ++ names_in_ors more

  names_in_ors : Part (many (t SignImplies ⨟ rule r-or)) → List (List ℕ)
  names_in_ors NoMore = []
  names_in_ors (More (Behind _ x) more) = names_in_or x ++ names_in_ors more

  names_in_or : Of r-or → List (List ℕ)
  names_in_or (Or m first more) = names_in_and first ++ names_in_ands more

  names_in_ands : Part (many (t WordOr ⨟ rule r-and)) → List (List ℕ)
  names_in_ands NoMore = []
  names_in_ands (More (Behind _ x) more) = names_in_and x ++ names_in_ands more

  names_in_and : Of r-and → List (List ℕ)
  names_in_and (And m first more) = names_in_not first ++ names_in_nots more

  names_in_nots : Part (many (t WordAnd ⨟ rule r-not)) → List (List ℕ)
  names_in_nots NoMore = []
  names_in_nots (More (Behind _ x) more) = names_in_not x ++ names_in_nots more

  names_in_not : Of r-not → List (List ℕ)
  names_in_not (Not m _ compare) = names_in_compare compare

  names_in_compare : Of r-compare → List (List ℕ)
  names_in_compare (Compare m first more) = names_in_sum first ++ names_in_related more

  names_in_related : Part (many related) → List (List ℕ)
  names_in_related NoMore = []
  names_in_related (More (Related _ x) more) = names_in_sum x ++ names_in_related more

  names_in_sum : Of r-sum → List (List ℕ)
  names_in_sum (Sum m first more) = names_in_term first ++ names_in_signed more

  names_in_signed : Part (many signed) → List (List ℕ)
  names_in_signed NoMore = []
  names_in_signed (More (Added _ x) more) = names_in_term x ++ names_in_signed more
  names_in_signed (More (Subtracted _ x) more) = names_in_term x ++ names_in_signed more

  names_in_term : Of r-term → List (List ℕ)
  names_in_term (Term m first more) = names_in_prefix first ++ names_in_multiplied more

  names_in_multiplied : Part (many multiplied) → List (List ℕ)
  names_in_multiplied NoMore = []
  names_in_multiplied (More (Multiplied _ x) more) = names_in_prefix x ++ names_in_multiplied more
  names_in_multiplied (More (Divided _ x) more) = names_in_prefix x ++ names_in_multiplied more
  names_in_multiplied (More (Reduced _ x) more) = names_in_prefix x ++ names_in_multiplied more

  names_in_prefix : Of r-prefix → List (List ℕ)
  names_in_prefix (Prefix m _ power) = names_in_power power

  names_in_power : Of r-power → List (List ℕ)
  names_in_power (Power m first more) = names_in_primary first ++ names_in_powers more

  names_in_powers : Part (many (t SignPower ⨟ rule r-primary)) → List (List ℕ)
  names_in_powers NoMore = []
  names_in_powers (More (Behind _ x) more) = names_in_primary x ++ names_in_powers more

  names_in_primary : Of r-primary → List (List ℕ)
  names_in_primary (NumberValue m _) = []
  names_in_primary (TrueValue m _) = []
  names_in_primary (FalseValue m _) = []
  names_in_primary (PathValue m path) = names_in_path path
  names_in_primary (Brackets m _ inner _) = names inner
  names_in_primary (TextValue m _ parts) = names_in_parts parts
  names_in_primary (NilValue m _ _ path _) = names_in_path path

  names_in_parts : Part (many bracketed) → List (List ℕ)
  names_in_parts NoMore = []
  names_in_parts (More (Bracketed _ x _) more) = names_in_arg x ++ names_in_parts more

  names_in_path : Of r-path → List (List ℕ)
  names_in_path (Path m root more) = text_of root ∷ names_in_steps more

  names_in_steps : Part (many steps) → List (List ℕ)
  names_in_steps NoMore = []
  names_in_steps (More (FieldStep _ name) more) = text_of name ∷ names_in_steps more
  names_in_steps (More (ArgumentStep _ args _) more) = names_in_args args ++ names_in_steps more

  names_in_args : Part (maybe (listed r-arg)) → List (List ℕ)
  names_in_args Absent = []
  names_in_args (Present (Listed first more)) = names_in_arg first ++ names_in_arg_list more

  names_in_arg_list : Part (many (t SignComma ⨟ rule r-arg)) → List (List ℕ)
  names_in_arg_list NoMore = []
  names_in_arg_list (More (Behind _ x) more) = names_in_arg x ++ names_in_arg_list more

  names_in_arg : Of r-arg → List (List ℕ)
  names_in_arg (OneArg m place) = names_in_place place
  names_in_arg (PartArg m from _ to) = names_in_place from ++ names_in_place to
  names_in_arg (AllArg m _) = []

  names_in_place : Of r-place → List (List ℕ)
  names_in_place (ValuePlace m value) = names value
  names_in_place (LengthPlace m _) = []
  names_in_place (LengthLessPlace m _ _ term) = names_in_term term

names_row : names first_path ++ names chains ≡ (97 ∷ []) ∷ (98 ∷ []) ∷ (97 ∷ []) ∷ (99 ∷ []) ∷ []
names_row = refl
