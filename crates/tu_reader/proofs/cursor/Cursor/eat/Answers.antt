use Rattle.tu_reader.proofs.Tokens.{sees_next, next_taken, nothing_taken}
use Rattle.tu_reader.proofs.cursor.Cursor.eat.Goals as goal

pub returns-in-Some-clause-eats : goal.returns-in-Some-clause-eats
returns-in-Some-clause-eats c = (sees_next _ _ _ _ c.in-Some.ensures, next_taken _ _ _ _ c.requires c.in-Some.ensures)

pub returns-in-None-clause-eats : goal.returns-in-None-clause-eats
returns-in-None-clause-eats c = (c.in-None.ensures.0, nothing_taken _ _ c.in-None.ensures.1)
