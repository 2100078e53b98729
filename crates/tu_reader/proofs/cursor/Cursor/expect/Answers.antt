use Rattle.tu_reader.proofs.Tokens.{next_taken, next_missed}
use Rattle.tu_reader.proofs.cursor.Cursor.expect.Goals as goal

pub returns-in-Some-clause-reads : goal.returns-in-Some-clause-reads
returns-in-Some-clause-reads c = next_taken _ _ _ _ c.requires c.in-Some.ensures

pub returns-in-None-clause-reads : goal.returns-in-None-clause-reads
returns-in-None-clause-reads c = next_missed _ _ _ c.in-None.ensures.0 c.in-None.ensures.1
