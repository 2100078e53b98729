use Rattle.std.proofs.Common.{◌∙◌, ap}
use Rattle.tu_expr.specs.Views.{multiplied, multiplied_view}
use Rattle.tu_types_reader.specs.Shortened.{term_path}
use Rattle.tu_types_reader.proofs.Alone.{more_alone}
use Rattle.tu_types_reader.proofs.shortened.term_path.Goals as goal

pub returns-else-is_empty : goal.returns-else-is_empty
returns-else-is_empty c = more_alone multiplied multiplied_view c.term.inside.more c.in_ok-path.ensures c.is_empty.ensures c.if-is_empty.false ∙ ap term_path c.term.view_is
