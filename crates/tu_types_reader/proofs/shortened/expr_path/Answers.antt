use Rattle.std.proofs.Common.{◌∙◌, ap}
use Rattle.grammar.specs.Description.{rule}
use Rattle.grammar.specs.Tree.{n-token, n-sequence}
use Rattle.tu_token.specs.declared.class.Class.TheVariants.{SignImplies}
use Rattle.tu_token.specs.Rules.{◌⨟◌, t, r-or}
use Rattle.tu_types_reader.specs.Shortened.{expr_path}
use Rattle.tu_types_reader.proofs.Alone.{more_alone}
use Rattle.tu_types_reader.proofs.shortened.expr_path.Goals as goal

pub returns-else-is_empty : goal.returns-else-is_empty
returns-else-is_empty c = more_alone (t SignImplies ⨟ rule r-or) (λ x. n-sequence n-token x) c.expr.inside.more c.in_ok-path.ensures c.is_empty.ensures c.if-is_empty.false ∙ ap expr_path c.expr.view_is
