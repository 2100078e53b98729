use Rattle.std.proofs.Common.{ap, ◌∙◌, ◌++◌}
use Rattle.tu_outside.specs.Cells.{line_cells}
use Rattle.tu_outside.proofs.CellLemmas.{same_rest, first_of}
use Rattle.tu_outside.proofs.memory_notes.+are_cells_of.Goals as goal

pub returns-in-Some : goal.returns-in-Some
returns-in-Some t c =
    same_rest c.args.cells.now c.in-Some.rest.now c.line-item.result _ c.args.lines.now c.are_cells_of.result
    (first_of _ _ c.in-len1-up.len_at_least c.line-item.is)
    (c.in-Some.ensures ∙ ap (λ w. line_cells w ++ c.in-Some.rest.now) c.as_slice.ensures) c.are_cells_of.ensures
