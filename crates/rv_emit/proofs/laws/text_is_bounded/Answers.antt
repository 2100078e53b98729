use Rattle.rv_emit.proofs.Measures.{text_bounded}
use Rattle.rv_emit.proofs.laws.text_is_bounded.Goals as goal

pub returns : goal.returns
returns c = text_bounded c.text_is_measured.ensures.length c.text_is_measured.ensures.small
