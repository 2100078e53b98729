-- Each part of an expression is lower than the expression.
use Rattle.std.specs.Prelude.{ℕ, ◌+◌, ◌*◌, ◌≤◌, max, List, [], ◌∷◌}
use Rattle.std.proofs.Common.{arith}
use denote.Param.Weighed.{most}
use Rattle.grammar.specs.Falls.{repeated_falls}
use Rattle.grammar.specs.Description.{Description, rule}
use Rattle.grammar.specs.Tree.{n-token, n-sequence, height}
use Rattle.tu_token.specs.declared.class.Class.{Class}
use Rattle.tu_token.specs.declared.class.Class.TheVariants.{SignImplies, SignPower, SignComma, WordAnd, WordOr}
use Rattle.tu_token.specs.Rules.{Rule, ◌⨟◌, t, r-or, r-and, r-not, r-primary, r-arg}
use Rattle.tu_token.specs.Syntax.{Of}
use Rattle.tu_expr.specs.declared.expr.PrimaryForm.{PrimaryForm}
use Rattle.tu_expr.specs.declared.expr.PrimaryForm.TheVariants as primary
use Rattle.tu_expr.specs.declared.path.Step.{Step}
use Rattle.tu_expr.specs.declared.path.Step.TheVariants as step
use Rattle.tu_expr.specs.declared.path.ArgForm.{ArgForm}
use Rattle.tu_expr.specs.declared.path.ArgForm.TheVariants as arg
use Rattle.tu_expr.specs.declared.path.PlaceForm.{PlaceForm}
use Rattle.tu_expr.specs.declared.path.PlaceForm.TheVariants as place
use Rattle.tu_expr.specs.declared.expr.Expr.TheInside as expr_inside
use Rattle.tu_expr.specs.declared.expr.Or.TheInside as or_inside
use Rattle.tu_expr.specs.declared.expr.And.TheInside as and_inside
use Rattle.tu_expr.specs.declared.expr.Not.TheInside as not_inside
use Rattle.tu_expr.specs.declared.expr.Compare.TheInside as compare_inside
use Rattle.tu_expr.specs.declared.expr.Sum.TheInside as sum_inside
use Rattle.tu_expr.specs.declared.expr.Term.TheInside as term_inside
use Rattle.tu_expr.specs.declared.expr.Prefix.TheInside as prefix_inside
use Rattle.tu_expr.specs.declared.expr.Power.TheInside as power_inside
use Rattle.tu_expr.specs.declared.expr.Primary.TheInside as primary_inside
use Rattle.tu_expr.specs.declared.path.Path.TheInside as path_inside
use Rattle.tu_expr.specs.declared.path.Arg.TheInside as arg_inside
use Rattle.tu_expr.specs.declared.path.Place.TheInside as place_inside
use Rattle.tu_expr.specs.declared.expr.And.TheDeep.{deep-Expr, deep-Or, deep-And, deep-Not, deep-Compare, deep-Sum, deep-Term, deep-Prefix, deep-Power, deep-Primary, deep-PrimaryForm, deep-Path, deep-Step, deep-Arg, deep-ArgForm, deep-Place, deep-PlaceForm}
use Rattle.tu_expr.specs.Parts.{Part, chain, any_listing}
use Rattle.tu_expr.specs.Views.{expr_view, or_view, and_view, not_view, related, related_view, compare_view, signed, signed_view, sum_view, multiplied, multiplied_view, term_view, prefix_view, power_view, bracketed, bracketed_view, primary_view, steps, step_view, path_view, arg_view, place_view}

-- The measure that is tried for a function over a list is three times the greatest depth of its elements, and some rank.
pub scaled_falls : {A : Type 0} (part : A → ℕ) (rank : ℕ) (xs : List A) → most (λ x. 3 * part x + rank) xs ≤ 3 * most part xs + rank
scaled_falls part rank [] = omega arith
scaled_falls part rank (x ∷ xs) = omega (arith, scaled_falls part rank xs)

-- the parts of a chain, and those of a list with commas
pub chain_falls : (c : Class) (d : Description Rule) (xs : List (Part d)) → most (λ x. height x + 1) xs ≤ height (chain c d xs) + 1
chain_falls c d xs = repeated_falls (t c ⨟ d) (λ x. n-sequence n-token x) (λ x. height x + 1) (λ x. omega arith) xs

pub any_listing_falls : (n : Rule) (xs : List (Of n)) → most (λ x. height x + 1) xs ≤ height (any_listing n xs) + 1
any_listing_falls n [] = omega arith
any_listing_falls n (x ∷ xs) = omega (arith, chain_falls SignComma (rule n) xs)

pub expr_falls : (a : expr_inside.Inside) → deep-Expr a ≤ height (expr_view a.first a.more) + 1
expr_falls a = omega (arith, chain_falls SignImplies (rule r-or) a.more)

pub or_falls : (a : or_inside.Inside) → deep-Or a ≤ height (or_view a.first a.more) + 1
or_falls a = omega (arith, chain_falls WordOr (rule r-and) a.more)

pub and_falls : (a : and_inside.Inside) → deep-And a ≤ height (and_view a.first a.more) + 1
and_falls a = omega (arith, chain_falls WordAnd (rule r-not) a.more)

pub not_falls : (a : not_inside.Inside) → deep-Not a ≤ height (not_view a.nots a.compare) + 1
not_falls a = omega arith

pub compare_falls : (a : compare_inside.Inside) → deep-Compare a ≤ height (compare_view a.first a.more) + 1
compare_falls a = omega (arith, repeated_falls related related_view (λ x. max 0 (max (height x.1 + 1) 0)) (λ x. omega arith) a.more)

pub sum_falls : (a : sum_inside.Inside) → deep-Sum a ≤ height (sum_view a.first a.more) + 1
sum_falls a = omega (arith, repeated_falls signed signed_view (λ x. max 0 (max (height x.1 + 1) 0)) (λ x. omega arith) a.more)

pub term_falls : (a : term_inside.Inside) → deep-Term a ≤ height (term_view a.first a.more) + 1
term_falls a = omega (arith, repeated_falls multiplied multiplied_view (λ x. max 0 (max (height x.1 + 1) 0)) (λ x. omega arith) a.more)

pub prefix_falls : (a : prefix_inside.Inside) → deep-Prefix a ≤ height (prefix_view a.signs a.power) + 1
prefix_falls a = omega arith

pub power_falls : (a : power_inside.Inside) → deep-Power a ≤ height (power_view a.first a.more) + 1
power_falls a = omega (arith, chain_falls SignPower (rule r-primary) a.more)

pub primary_form_falls : (f : PrimaryForm) → deep-PrimaryForm f ≤ height (primary_view f) + 1
primary_form_falls (primary.Number number) = omega arith
primary_form_falls primary.True = omega arith
primary_form_falls primary.False = omega arith
primary_form_falls (primary.Path path) = omega arith
primary_form_falls (primary.Brackets inner) = omega arith
primary_form_falls (primary.Text text parts) = omega (arith, repeated_falls bracketed bracketed_view (λ x. height x + 1) (λ x. omega arith) parts)
primary_form_falls (primary.Nil path) = omega arith

pub primary_falls : (a : primary_inside.Inside) → deep-Primary a ≤ height (primary_view a.form) + 1
primary_falls a = omega (arith, primary_form_falls a.form)

pub step_falls : (s : Step) → deep-Step s ≤ height (step_view s) + 1
step_falls (step.Field name) = omega arith
step_falls (step.Arguments args) = omega (arith, any_listing_falls r-arg args)

pub path_falls : (a : path_inside.Inside) → deep-Path a ≤ height (path_view a.root a.steps) + 1
path_falls a = omega (arith, repeated_falls steps step_view deep-Step step_falls a.steps)

pub arg_form_falls : (f : ArgForm) → deep-ArgForm f ≤ height (arg_view f) + 1
arg_form_falls (arg.One place) = omega arith
arg_form_falls (arg.Part from to) = omega arith
arg_form_falls arg.All = omega arith

pub arg_falls : (a : arg_inside.Inside) → deep-Arg a ≤ height (arg_view a.form) + 1
arg_falls a = omega (arith, arg_form_falls a.form)

pub place_form_falls : (f : PlaceForm) → deep-PlaceForm f ≤ height (place_view f) + 1
place_form_falls (place.Value value) = omega arith
place_form_falls place.Length = omega arith
place_form_falls (place.LengthLess term) = omega arith

pub place_falls : (a : place_inside.Inside) → deep-Place a ≤ height (place_view a.form) + 1
place_falls a = omega (arith, place_form_falls a.form)
