use Rattle.std.proofs.Common.{◌∙◌, ap}
use Rattle.tu_expr.specs.Views.{related, related_view}
use Rattle.tu_types_reader.specs.Shortened.{compare_path}
use Rattle.tu_types_reader.proofs.Alone.{more_alone}
use Rattle.tu_types_reader.proofs.shortened.compare_path.Goals as goal

pub returns-else-is_empty : goal.returns-else-is_empty
returns-else-is_empty c = more_alone related related_view c.compare.inside.more c.in_ok-path.ensures c.is_empty.ensures c.if-is_empty.false ∙ ap compare_path c.compare.view_is
