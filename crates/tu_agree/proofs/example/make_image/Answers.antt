use Rattle.std.proofs.Common.{refl}
use Rattle.tu_tree_meaning.specs.Programs.{meaning}
use Rattle.tu_agree.specs.Agrees.{over_folder}
use Rattle.tu_agree.specs.Example.{empty_program}
use Rattle.tu_agree.proofs.example.make_image.Goals as goal

pub returns : goal.returns
returns c = c.compile.ensures.agrees (over_folder (meaning empty_program)) (λ image. image) refl (λ after. refl)
