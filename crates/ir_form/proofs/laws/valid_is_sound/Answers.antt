use Rattle.ir_form.proofs.Sound.{valid_sound}
use Rattle.ir_form.proofs.laws.valid_is_sound.Goals as goal

pub returns : goal.returns
returns c = valid_sound
