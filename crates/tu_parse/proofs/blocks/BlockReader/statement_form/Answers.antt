use Rattle.std.proofs.Common.{refl}
use Rattle.tu_reader.proofs.Choices.{end_stops}
use Rattle.tu_parse.proofs.blocks.BlockReader.statement_form.Goals as goal

pub returns-in_default-clause-reads : goal.returns-in_default-clause-reads
returns-in_default-clause-reads g c = end_stops refl c.in_default.ensures

pub simple-requires-clause-simple : goal.simple-requires-clause-simple
simple-requires-clause-simple g c = (c.in_default-class.not-WordIf, (c.in_default-class.not-WordLoop, (c.in_default-class.not-WordFor, (c.in_default-class.not-WordCase, (c.in_default-class.not-WordBegin, tt)))))
