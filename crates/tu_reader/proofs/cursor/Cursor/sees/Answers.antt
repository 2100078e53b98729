use Rattle.tu_reader.proofs.Tokens.{sees_first}
use Rattle.tu_reader.proofs.cursor.Cursor.sees.Goals as goal

pub returns-in-Some : goal.returns-in-Some
returns-in-Some c = rw (← c.self.view_is) (record { is = sees_first c.args.class c.self.inside.tokens.now c.in-Some.token.now c.eq.result c.in-Some.ensures.value c.eq.ensures })
