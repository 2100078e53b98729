use Rattle.rv_isa.proofs.RoundTrip.{spelled}
use Rattle.rv_isa.proofs.laws.decoded_fits.Goals as goal

pub returns : goal.returns
returns c = λ w h op e. spelled w h op e
