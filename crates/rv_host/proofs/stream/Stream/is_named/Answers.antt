use Rattle.std.proofs.Common.{◌∙◌}
use Rattle.std.specs.Cmp.Lexicographic.{texts_ties}
use Rattle.rv_host.proofs.stream.Stream.is_named.Goals as goal

pub returns-in-Reading : goal.returns-in-Reading
returns-in-Reading c = rw (c.in-Reading.is, ← c.as_slice.ensures) (c.eq.ensures ∙ texts_ties c.args.name.now c.as_slice.result.now)

pub returns-in-Writing : goal.returns-in-Writing
returns-in-Writing c = rw (c.in-Writing.is, ← c.as_slice-in-Writing.ensures) (c.eq-in-Writing.ensures ∙ texts_ties c.args.name.now c.as_slice-in-Writing.result.now)
