use Rattle.rv_text.proofs.Whole.{images_are_places}
use Rattle.rv_text.proofs.laws.image_is_allowed.Goals as goal

pub returns-clause-places : goal.returns-clause-places
returns-clause-places c = images_are_places
