use Rattle.std.proofs.Common.{refl}
use Rattle.tu_tree_meaning.specs.Programs.{meaning}
use Rattle.tu_agree.specs.Agrees.{over_folder}
use Rattle.tu_compile.proofs.compiler.compile.Goals as goal

-- src/compiler.rt:32:1
pub returns : goal.returns
returns c = c.compile.ensures.agrees (over_folder (meaning c.args.checked.now)) (λ image. image) refl (λ made. refl)
