-- Expressions that are names.
use Rattle.std.proofs.Common.{◌≡◌, Option, Some, None, refl, ◌∙◌, ap}
use Rattle.grammar.specs.Description.{Description, repetition, rule, Derivation, d-sequence, d-left, d-right, d-none, d-more, d-rule}
use Rattle.grammar.specs.Tree.{Mark, n-token, n-text, n-sequence, n-left, n-right, n-none, n-more, n-rule, erase}
use Rattle.tu_token.specs.Rules.{Rule, r-expr, r-or, r-and, r-not, r-compare, r-sum, r-term, r-prefix, r-power, r-primary, r-path, r-name, body}
use Rattle.tu_token.specs.Syntax.{Of}
use Rattle.tu_token.specs.Table.{only_path, path_in, name_in, shorten}
use Rattle.tu_expr.specs.Parts.{Part, mark_of}
use Rattle.tu_types_reader.specs.Shortened.{alone, expr_path, or_path, and_path, not_path, compare_path, sum_path, term_path, prefix_path, power_path, primary_path, named, name_of}

abbrev pub D : Rule → Type 0
D n = Derivation body (rule n)

-- the same of derivations
abbrev pub erased : {n : Rule} → Option (Of n) → Option (D n)
erased None = None
erased (Some x) = Some (erase x)

-- with no turns behind it
abbrev lone : {A : Type 0} {d : Description Rule} → Derivation body (repetition d) → Option A → Option A
lone turns None = None
lone d-none (Some x) = Some x
lone (d-more y turns) (Some x) = None

lone_erased : {d : Description Rule} {n : Rule} (turns : Part (repetition d)) (o : Option (Of n)) → lone (erase turns) (erased o) ≡ erased (alone turns o)
lone_erased turns None = refl
lone_erased n-none (Some x) = refl
lone_erased (n-more y turns) (Some x) = refl

-- with no turns before it, in the order in which the table's pattern looks
abbrev bare : {A : Type 0} {d : Description Rule} → Derivation body (repetition d) → Option A → Option A
bare d-none o = o
bare (d-more y turns) o = None

bare_erased : {d : Description Rule} {n : Rule} (turns : Part (repetition d)) (o : Option (Of n)) → bare (erase turns) (erased o) ≡ erased (alone turns o)
bare_erased n-none None = refl
bare_erased n-none (Some x) = refl
bare_erased (n-more y turns) None = refl
bare_erased (n-more y turns) (Some x) = refl

abbrev d_primary : D r-primary → Option (D r-path)
d_primary (d-rule (d-right (d-right (d-right (d-left path))))) = Some path
d_primary primary = None

abbrev d_power : D r-power → Option (D r-path)
d_power (d-rule (d-sequence x more)) = lone more (d_primary x)

abbrev d_prefix : D r-prefix → Option (D r-path)
d_prefix (d-rule (d-sequence signs x)) = bare signs (d_power x)

abbrev d_term : D r-term → Option (D r-path)
d_term (d-rule (d-sequence x more)) = lone more (d_prefix x)

abbrev d_sum : D r-sum → Option (D r-path)
d_sum (d-rule (d-sequence x more)) = lone more (d_term x)

abbrev d_compare : D r-compare → Option (D r-path)
d_compare (d-rule (d-sequence x more)) = lone more (d_sum x)

abbrev d_not : D r-not → Option (D r-path)
d_not (d-rule (d-sequence nots x)) = bare nots (d_compare x)

abbrev d_and : D r-and → Option (D r-path)
d_and (d-rule (d-sequence x more)) = lone more (d_not x)

abbrev d_or : D r-or → Option (D r-path)
d_or (d-rule (d-sequence x more)) = lone more (d_and x)

abbrev d_expr : D r-expr → Option (D r-path)
d_expr (d-rule (d-sequence x more)) = lone more (d_or x)

primary_is : (x : Of r-primary) → d_primary (erase x) ≡ erased (primary_path x)
primary_is (n-rule m (n-right (n-right (n-right (n-left path))))) = refl
primary_is (n-rule m (n-left x)) = refl
primary_is (n-rule m (n-right (n-left x))) = refl
primary_is (n-rule m (n-right (n-right (n-left x)))) = refl
primary_is (n-rule m (n-right (n-right (n-right (n-right x))))) = refl

power_is : (x : Of r-power) → d_power (erase x) ≡ erased (power_path x)
power_is (n-rule m (n-sequence x more)) = ap (lone (erase more)) (primary_is x) ∙ lone_erased more (primary_path x)

prefix_is : (x : Of r-prefix) → d_prefix (erase x) ≡ erased (prefix_path x)
prefix_is (n-rule m (n-sequence signs x)) = ap (bare (erase signs)) (power_is x) ∙ bare_erased signs (power_path x)

term_is : (x : Of r-term) → d_term (erase x) ≡ erased (term_path x)
term_is (n-rule m (n-sequence x more)) = ap (lone (erase more)) (prefix_is x) ∙ lone_erased more (prefix_path x)

sum_is : (x : Of r-sum) → d_sum (erase x) ≡ erased (sum_path x)
sum_is (n-rule m (n-sequence x more)) = ap (lone (erase more)) (term_is x) ∙ lone_erased more (term_path x)

compare_is : (x : Of r-compare) → d_compare (erase x) ≡ erased (compare_path x)
compare_is (n-rule m (n-sequence x more)) = ap (lone (erase more)) (sum_is x) ∙ lone_erased more (sum_path x)

not_is : (x : Of r-not) → d_not (erase x) ≡ erased (not_path x)
not_is (n-rule m (n-sequence nots x)) = ap (bare (erase nots)) (compare_is x) ∙ bare_erased nots (compare_path x)

and_is : (x : Of r-and) → d_and (erase x) ≡ erased (and_path x)
and_is (n-rule m (n-sequence x more)) = ap (lone (erase more)) (not_is x) ∙ lone_erased more (not_path x)

or_is : (x : Of r-or) → d_or (erase x) ≡ erased (or_path x)
or_is (n-rule m (n-sequence x more)) = ap (lone (erase more)) (and_is x) ∙ lone_erased more (and_path x)

expr_is : (x : Of r-expr) → d_expr (erase x) ≡ erased (expr_path x)
expr_is (n-rule m (n-sequence x more)) = ap (lone (erase more)) (or_is x) ∙ lone_erased more (or_path x)

-- the table's one deep pattern is the walk down the levels
deep : (x : D r-expr) → path_in x ≡ d_expr x
deep (only_path p) = refl
deep x = refl

path_is : (x : Of r-expr) → path_in (erase x) ≡ erased (expr_path x)
path_is x = deep (erase x) ∙ expr_is x

name_is : (m : Mark) (o : Option (Of r-path)) → name_in (erased o) ≡ erased (named m o)
name_is m None = refl
name_is m (Some (n-rule k (n-sequence (n-text x s l) n-none))) = refl
name_is m (Some (n-rule k (n-sequence (n-text x s l) (n-more (n-left (n-sequence (n-text dot a b) (n-text y h r))) n-none)))) = refl
name_is m (Some (n-rule k (n-sequence (n-text x s l) (n-more (n-left (n-sequence (n-text dot a b) n-token)) n-none)))) = refl
name_is m (Some (n-rule k (n-sequence (n-text x s l) (n-more (n-left (n-sequence n-token (n-text y h r))) n-none)))) = refl
name_is m (Some (n-rule k (n-sequence (n-text x s l) (n-more (n-left (n-sequence n-token n-token)) n-none)))) = refl
name_is m (Some (n-rule k (n-sequence n-token n-none))) = refl
name_is m (Some (n-rule k (n-sequence n-token (n-more (n-left (n-sequence (n-text dot a b) (n-text y h r))) n-none)))) = refl
name_is m (Some (n-rule k (n-sequence n-token (n-more (n-left (n-sequence (n-text dot a b) n-token)) n-none)))) = refl
name_is m (Some (n-rule k (n-sequence n-token (n-more (n-left (n-sequence n-token (n-text y h r))) n-none)))) = refl
name_is m (Some (n-rule k (n-sequence n-token (n-more (n-left (n-sequence n-token n-token)) n-none)))) = refl
name_is m o = refl

pub shortens : (x : Of r-expr) → shorten r-expr r-name (erase x) ≡ erased (name_of x)
shortens x = ap name_in (path_is x) ∙ name_is (mark_of x) (expr_path x)
