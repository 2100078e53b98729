use Rattle.rv_isa.proofs.RoundTrip.{missed}
use Rattle.rv_isa.proofs.decoder.decode.Goals as goal

pub returns-clause-none : goal.returns-clause-none
returns-clause-none c = missed c.args.word c.decode_word.result c.decode_word.ensures
