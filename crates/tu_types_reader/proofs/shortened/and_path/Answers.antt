use Rattle.std.proofs.Common.{◌∙◌, ap}
use Rattle.grammar.specs.Description.{rule}
use Rattle.grammar.specs.Tree.{n-token, n-sequence}
use Rattle.tu_token.specs.declared.class.Class.TheVariants.{WordAnd}
use Rattle.tu_token.specs.Rules.{◌⨟◌, t, r-not}
use Rattle.tu_types_reader.specs.Shortened.{and_path}
use Rattle.tu_types_reader.proofs.Alone.{more_alone}
use Rattle.tu_types_reader.proofs.shortened.and_path.Goals as goal

pub returns-else-is_empty : goal.returns-else-is_empty
returns-else-is_empty c = more_alone (t WordAnd ⨟ rule r-not) (λ x. n-sequence n-token x) c.and.inside.more c.in_ok-path.ensures c.is_empty.ensures c.if-is_empty.false ∙ ap and_path c.and.view_is
