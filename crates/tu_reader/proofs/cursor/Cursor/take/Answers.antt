use Rattle.std.proofs.Common.{rules, sym, refl}
use denote.Enum.Bare.{same_true}
use Rattle.tu_token.specs.contracts.class.Class.{the_type}
use Rattle.tu_reader.proofs.cursor.Cursor.take.Goals as goal

pub returns-then-eq : goal.returns-then-eq
returns-then-eq c = record {
  tokens = rw (← c.self.view_is) c.in-Some.ensures.cases.0;
  class = same_true the_type (search rules) _ _ (sym c.if-eq.ensures);
  after = rw (← c.self.view_is) refl;
}
