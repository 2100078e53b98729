use Rattle.std.proofs.Common.{◌∙◌, ap}
use Rattle.tu_expr.specs.Views.{signed, signed_view}
use Rattle.tu_types_reader.specs.Shortened.{sum_path}
use Rattle.tu_types_reader.proofs.Alone.{more_alone}
use Rattle.tu_types_reader.proofs.shortened.sum_path.Goals as goal

pub returns-else-is_empty : goal.returns-else-is_empty
returns-else-is_empty c = more_alone signed signed_view c.sum.inside.more c.in_ok-path.ensures c.is_empty.ensures c.if-is_empty.false ∙ ap sum_path c.sum.view_is
