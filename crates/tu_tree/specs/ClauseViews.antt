-- Each type of the tree of a clause or an end, as the rule that it stands for.
use Rattle.std.specs.Prelude.{List}
use Rattle.grammar.specs.Tree.{n-token, n-sequence}
use Rattle.tu_token.specs.declared.class.Class.TheVariants.{Name}
use Rattle.tu_token.specs.Rules.{body, r-expr, r-given, r-pre, r-givens, r-post, r-invariant, r-ending}
use Rattle.tu_token.specs.Syntax.{Of}
use Rattle.tu_expr.specs.declared.leaf.Leaf.{Leaf}
use Rattle.tu_expr.specs.Leaves.{leaf_view}
use Rattle.tu_expr.specs.Parts.{Part, listing}

abbrev pub pre_view : Of r-expr → Part (body r-pre)
pre_view condition = n-sequence n-token condition

abbrev pub post_view : Of r-expr → Part (body r-post)
post_view condition = n-sequence n-token condition

abbrev pub invariant_view : Of r-expr → Part (body r-invariant)
invariant_view condition = n-sequence n-token condition

abbrev pub givens_view : Of r-given → List (Of r-given) → Part (body r-givens)
givens_view first more = n-sequence n-token (listing r-given first more)

abbrev pub given_view : Leaf → Of r-expr → Part (body r-given)
given_view name value = n-sequence (leaf_view Name name) (n-sequence n-token value)

abbrev pub ending_view : Leaf → Part (body r-ending)
ending_view name = n-sequence n-token (leaf_view Name name)
