use Rattle.std.proofs.Common.{◌∙◌, ap}
use Rattle.grammar.specs.Description.{rule}
use Rattle.grammar.specs.Tree.{n-token, n-sequence}
use Rattle.tu_token.specs.declared.class.Class.TheVariants.{SignPower}
use Rattle.tu_token.specs.Rules.{◌⨟◌, t, r-primary}
use Rattle.tu_types_reader.specs.Shortened.{power_path}
use Rattle.tu_types_reader.proofs.Alone.{more_alone}
use Rattle.tu_types_reader.proofs.shortened.power_path.Goals as goal

pub returns-else-is_empty : goal.returns-else-is_empty
returns-else-is_empty c = more_alone (t SignPower ⨟ rule r-primary) (λ x. n-sequence n-token x) c.power.inside.more c.in_ok-path.ensures c.is_empty.ensures c.if-is_empty.false ∙ ap power_path c.power.view_is
