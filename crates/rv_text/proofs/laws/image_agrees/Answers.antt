use Rattle.rv_text.proofs.Whole.{images_agree}
use Rattle.rv_text.proofs.laws.image_agrees.Goals as goal

pub returns : goal.returns
returns c = images_agree
