use Rattle.std.proofs.Common.{◌∙◌, ap}
use Rattle.grammar.specs.Description.{rule}
use Rattle.grammar.specs.Tree.{n-token, n-sequence}
use Rattle.tu_token.specs.declared.class.Class.TheVariants.{WordOr}
use Rattle.tu_token.specs.Rules.{◌⨟◌, t, r-and}
use Rattle.tu_types_reader.specs.Shortened.{or_path}
use Rattle.tu_types_reader.proofs.Alone.{more_alone}
use Rattle.tu_types_reader.proofs.shortened.or_path.Goals as goal

pub returns-else-is_empty : goal.returns-else-is_empty
returns-else-is_empty c = more_alone (t WordOr ⨟ rule r-and) (λ x. n-sequence n-token x) c.or.inside.more c.in_ok-path.ensures c.is_empty.ensures c.if-is_empty.false ∙ ap or_path c.or.view_is
