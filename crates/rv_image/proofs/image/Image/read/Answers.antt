use Rattle.rv_image.proofs.RoundTrip.{only_if}
use Rattle.rv_image.proofs.image.Image.read.Goals as goal

pub returns-clause-only : goal.returns-clause-only
returns-clause-only c = rw (← c.as_slice.ensures) (only_if _ _ c.image_of.ensures.exact)
