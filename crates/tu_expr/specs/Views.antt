-- Each type of the tree of an expression, as the rule that it stands for.
use Rattle.std.specs.Prelude.{ℕ, List, replicate}
use Rattle.grammar.specs.Description.{Description, rule}
use Rattle.grammar.specs.Tree.{n-token, n-empty, n-sequence, n-left, n-right, repeated}
use Rattle.tu_token.specs.declared.class.Class.TheVariants.{Name, Number, Text, SignImplies, SignPower, SignPlus, SignMinus, SignStar, SignLeftBracket, SignRightBracket, SignDot, WordAnd, WordDiv, WordMod, WordNot, WordOr}
use Rattle.tu_token.specs.Rules.{Rule, ◌⨟◌, ◌∣◌, many, maybe, t, listed, body, r-expr, r-or, r-and, r-not, r-compare, r-relation, r-sum, r-term, r-prefix, r-power, r-primary, r-path, r-arg, r-place}
use Rattle.tu_token.specs.Syntax.{Of}
use Rattle.tu_expr.specs.declared.leaf.Leaf.{Leaf}
use Rattle.tu_expr.specs.declared.expr.RelationKind.{RelationKind}
use Rattle.tu_expr.specs.declared.expr.RelationKind.TheVariants.{Equal, NotEqual, Less, Greater, LessOrEqual, GreaterOrEqual, In, NotIn}
use Rattle.tu_expr.specs.declared.expr.Sign.{Sign}
use Rattle.tu_expr.specs.declared.expr.Sign.TheVariants.{Plus, Minus}
use Rattle.tu_expr.specs.declared.expr.Multiplication.{Multiplication}
use Rattle.tu_expr.specs.declared.expr.Multiplication.TheVariants.{Times, Div, Mod}
use Rattle.tu_expr.specs.declared.expr.PrimaryForm.{PrimaryForm}
use Rattle.tu_expr.specs.declared.expr.PrimaryForm.TheVariants as primary
use Rattle.tu_expr.specs.declared.path.Step.{Step}
use Rattle.tu_expr.specs.declared.path.Step.TheVariants as step
use Rattle.tu_expr.specs.declared.path.ArgForm.{ArgForm}
use Rattle.tu_expr.specs.declared.path.ArgForm.TheVariants as arg
use Rattle.tu_expr.specs.declared.path.PlaceForm.{PlaceForm}
use Rattle.tu_expr.specs.declared.path.PlaceForm.TheVariants as place
use Rattle.tu_expr.specs.Parts.{Part, chain, any_listing}
use Rattle.tu_expr.specs.Leaves.{leaf_view}

-- an operand behind its operator, for the levels with one operator
abbrev pub implied : Description Rule
implied = t SignImplies ⨟ rule r-or

abbrev pub ored : Description Rule
ored = t WordOr ⨟ rule r-and

abbrev pub anded : Description Rule
anded = t WordAnd ⨟ rule r-not

abbrev pub raised : Description Rule
raised = t SignPower ⨟ rule r-primary

abbrev pub expr_view : Of r-or → List (Of r-or) → Part (body r-expr)
expr_view first more = n-sequence first (chain SignImplies (rule r-or) more)

abbrev pub or_view : Of r-and → List (Of r-and) → Part (body r-or)
or_view first more = n-sequence first (chain WordOr (rule r-and) more)

abbrev pub and_view : Of r-not → List (Of r-not) → Part (body r-and)
and_view first more = n-sequence first (chain WordAnd (rule r-not) more)

abbrev pub nots_view : ℕ → Part (many (t WordNot))
nots_view nots = repeated {A = ℕ} (t WordNot) (λ x. n-token) (replicate nots 0)

abbrev pub not_view : ℕ → Of r-compare → Part (body r-not)
not_view nots compare = n-sequence (nots_view nots) compare

abbrev pub relation_view : RelationKind → Part (body r-relation)
relation_view Equal = n-left n-token
relation_view NotEqual = n-right (n-left n-token)
relation_view Less = n-right (n-right (n-left n-token))
relation_view Greater = n-right (n-right (n-right (n-left n-token)))
relation_view LessOrEqual = n-right (n-right (n-right (n-right (n-left n-token))))
relation_view GreaterOrEqual = n-right (n-right (n-right (n-right (n-right (n-left n-token)))))
relation_view In = n-right (n-right (n-right (n-right (n-right (n-right (n-left n-token))))))
relation_view NotIn = n-right (n-right (n-right (n-right (n-right (n-right (n-right (n-sequence n-token n-token)))))))

-- a sum behind its relation
abbrev pub related : Description Rule
related = rule r-relation ⨟ rule r-sum

abbrev pub related_view : Of r-relation × Of r-sum → Part related
related_view x = n-sequence x.0 x.1

abbrev pub compare_view : Of r-sum → List (Of r-relation × Of r-sum) → Part (body r-compare)
compare_view first more = n-sequence first (repeated related related_view more)

abbrev pub signs : Description Rule
signs = t SignPlus ∣ t SignMinus

abbrev pub sign_view : Sign → Part signs
sign_view Plus = n-left n-token
sign_view Minus = n-right n-token

-- a term behind its sign
abbrev pub signed : Description Rule
signed = signs ⨟ rule r-term

abbrev pub signed_view : Sign × Of r-term → Part signed
signed_view x = n-sequence (sign_view x.0) x.1

abbrev pub sum_view : Of r-term → List (Sign × Of r-term) → Part (body r-sum)
sum_view first more = n-sequence first (repeated signed signed_view more)

abbrev pub multiplications : Description Rule
multiplications = t SignStar ∣ t WordDiv ∣ t WordMod

abbrev pub multiplication_view : Multiplication → Part multiplications
multiplication_view Times = n-left n-token
multiplication_view Div = n-right (n-left n-token)
multiplication_view Mod = n-right (n-right n-token)

-- a factor behind its operator
abbrev pub multiplied : Description Rule
multiplied = multiplications ⨟ rule r-prefix

abbrev pub multiplied_view : Multiplication × Of r-prefix → Part multiplied
multiplied_view x = n-sequence (multiplication_view x.0) x.1

abbrev pub term_view : Of r-prefix → List (Multiplication × Of r-prefix) → Part (body r-term)
term_view first more = n-sequence first (repeated multiplied multiplied_view more)

abbrev pub prefix_view : List Sign → Of r-power → Part (body r-prefix)
prefix_view before power = n-sequence (repeated signs sign_view before) power

abbrev pub power_view : Of r-primary → List (Of r-primary) → Part (body r-power)
power_view first more = n-sequence first (chain SignPower (rule r-primary) more)

abbrev pub bracketed : Description Rule
bracketed = t SignLeftBracket ⨟ rule r-arg ⨟ t SignRightBracket

abbrev pub bracketed_view : Of r-arg → Part bracketed
bracketed_view x = n-sequence n-token (n-sequence x n-token)

abbrev pub primary_view : PrimaryForm → Part (body r-primary)
primary_view (primary.Number number) = n-left (leaf_view Number number)
primary_view primary.True = n-right (n-left n-token)
primary_view primary.False = n-right (n-right (n-left n-token))
primary_view (primary.Path path) = n-right (n-right (n-right (n-left path)))
primary_view (primary.Brackets inner) = n-right (n-right (n-right (n-right (n-left (n-sequence n-token (n-sequence inner n-token))))))
primary_view (primary.Text text parts) = n-right (n-right (n-right (n-right (n-right (n-left (n-sequence (leaf_view Text text) (repeated bracketed bracketed_view parts)))))))
primary_view (primary.Nil path) = n-right (n-right (n-right (n-right (n-right (n-right (n-sequence n-token (n-sequence n-token (n-sequence path n-token))))))))

abbrev pub steps : Description Rule
steps = t SignDot ⨟ t Name ∣ t SignLeftBracket ⨟ maybe (listed r-arg) ⨟ t SignRightBracket

abbrev pub step_view : Step → Part steps
step_view (step.Field name) = n-left (n-sequence n-token (leaf_view Name name))
step_view (step.Arguments args) = n-right (n-sequence n-token (n-sequence (any_listing r-arg args) n-token))

abbrev pub path_view : Leaf → List Step → Part (body r-path)
path_view root more = n-sequence (leaf_view Name root) (repeated steps step_view more)

abbrev pub arg_view : ArgForm → Part (body r-arg)
arg_view (arg.One place) = n-left (n-sequence place (n-right n-empty))
arg_view (arg.Part from to) = n-left (n-sequence from (n-left (n-sequence n-token to)))
arg_view arg.All = n-right n-token

abbrev pub place_view : PlaceForm → Part (body r-place)
place_view (place.Value value) = n-left value
place_view place.Length = n-right (n-sequence n-token (n-right n-empty))
place_view (place.LengthLess term) = n-right (n-sequence n-token (n-left (n-sequence n-token term)))
