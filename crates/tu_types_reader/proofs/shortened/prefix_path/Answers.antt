use Rattle.std.proofs.Common.{◌∙◌, ap}
use Rattle.tu_expr.specs.Views.{signs, sign_view}
use Rattle.tu_types_reader.specs.Shortened.{prefix_path}
use Rattle.tu_types_reader.proofs.Alone.{more_alone}
use Rattle.tu_types_reader.proofs.shortened.prefix_path.Goals as goal

pub returns-else-is_empty : goal.returns-else-is_empty
returns-else-is_empty c = more_alone signs sign_view c.prefix.inside.signs c.in_ok-path.ensures c.is_empty.ensures c.if-is_empty.false ∙ ap prefix_path c.prefix.view_is
