use Rattle.std.proofs.Common.{refl}
use Rattle.tu_reader.proofs.Tokens.{seen_taken}
use Rattle.tu_reader.proofs.cursor.Cursor.skip.Goals as goal

pub returns-in-Some-clause-takes : goal.returns-in-Some-clause-takes
returns-in-Some-clause-takes c =
    let seen = rw (← c.self.view_is) at c.requires.seen in
    rw (← c.self.view_is) (seen_taken _ _ _ _ c.requires.kind seen c.in-Some.ensures.cases.0 refl)
