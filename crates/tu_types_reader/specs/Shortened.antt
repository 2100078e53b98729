-- An expression that is no more than a name, as that name.
use Rattle.std.specs.Prelude.{◌≡◌, ◌+◌, Option, Some, None, Result, Ok, Err}
use Rattle.grammar.specs.Description.{Description, repetition}
use Rattle.grammar.specs.Tree.{Mark, n-rule, n-sequence, n-left, n-right, n-empty, n-none, n-more}
use Rattle.tu_token.specs.Rules.{Rule, r-expr, r-or, r-and, r-not, r-compare, r-sum, r-term, r-prefix, r-power, r-primary, r-path, r-name}
use Rattle.tu_token.specs.Syntax.{Of}
use Rattle.tu_expr.specs.Parts.{Part, mark_of}
use Rattle.tu_reader.specs.Ahead.{Ahead}
use Rattle.tu_reader.specs.declared.stop.Stop.{Stop}
use Rattle.tu_reader.specs.declared.stop.Stop.TheVariants.{Unexpected, Memory}

-- what stands alone, where there are no further turns
abbrev pub alone : {A : Type 0} {d : Description Rule} → Part (repetition d) → Option A → Option A
alone turns None = None
alone n-none (Some x) = Some x
alone (n-more y turns) (Some x) = None

abbrev pub primary_path : Of r-primary → Option (Of r-path)
primary_path (n-rule m (n-right (n-right (n-right (n-left path))))) = Some path
primary_path primary = None

abbrev pub power_path : Of r-power → Option (Of r-path)
power_path (n-rule m (n-sequence x more)) = alone more (primary_path x)

abbrev pub prefix_path : Of r-prefix → Option (Of r-path)
prefix_path (n-rule m (n-sequence signs x)) = alone signs (power_path x)

abbrev pub term_path : Of r-term → Option (Of r-path)
term_path (n-rule m (n-sequence x more)) = alone more (prefix_path x)

abbrev pub sum_path : Of r-sum → Option (Of r-path)
sum_path (n-rule m (n-sequence x more)) = alone more (term_path x)

abbrev pub compare_path : Of r-compare → Option (Of r-path)
compare_path (n-rule m (n-sequence x more)) = alone more (sum_path x)

abbrev pub not_path : Of r-not → Option (Of r-path)
not_path (n-rule m (n-sequence nots x)) = alone nots (compare_path x)

abbrev pub and_path : Of r-and → Option (Of r-path)
and_path (n-rule m (n-sequence x more)) = alone more (not_path x)

abbrev pub or_path : Of r-or → Option (Of r-path)
or_path (n-rule m (n-sequence x more)) = alone more (and_path x)

-- the path that an expression is, where it is no more than that
abbrev pub expr_path : Of r-expr → Option (Of r-path)
expr_path (n-rule m (n-sequence x more)) = alone more (or_path x)

-- the name that a path is, with a mark of its own
abbrev pub named : Mark → Option (Of r-path) → Option (Of r-name)
named m (Some (n-rule k (n-sequence first n-none))) = Some (n-rule m (n-sequence first (n-right n-empty)))
named m (Some (n-rule k (n-sequence first (n-more (n-left (n-sequence dot second)) n-none)))) = Some (n-rule m (n-sequence first (n-left (n-sequence dot second))))
named m path = None

-- the name that an expression is, where it is no more than that
abbrev pub name_of : Of r-expr → Option (Of r-name)
name_of x = named (mark_of x) (expr_path x)

-- the name behind an expression that was read, with the number that it takes as a name
abbrev pub Shortens : Of r-expr → Result (Of r-name) Stop → Ahead → Ahead → Type 0
Shortens x (Ok name) i j = (name_of x ≡ Some name) × (j ≡ record i { number = (mark_of x).number + 1 })
Shortens x (Err Unexpected) i j = (name_of x ≡ None) × (j ≡ i)
Shortens x (Err Memory) i j = Unit {0}
