use Rattle.std.proofs.Common.{◌∙◌}
use Rattle.tu_reader.proofs.Tokens.{text_taken, next_missed}
use Rattle.tu_reader.proofs.cursor.Cursor.leaf.Goals as goal

pub returns-in_ok-from_slice-in-Some-clause-reads :
    goal.returns-in_ok-from_slice-in-Some-clause-reads
returns-in_ok-from_slice-in-Some-clause-reads c = text_taken _ _ _ _ _ c.requires c.in-Some.ensures (c.in_ok-from_slice-in-Some.ensures ∙ c.as_slice.ensures)

pub returns-in-None-clause-reads : goal.returns-in-None-clause-reads
returns-in-None-clause-reads c = next_missed _ _ _ c.in-None.ensures.0 c.in-None.ensures.1
