use Rattle.std.proofs.Common.{◌≡◌, rules, sym, subst}
use Rattle.tu_tree_meaning.specs.Programs.{meaning}
use Rattle.tu_agree.specs.Agrees.{over_folder}
use Rattle.tu_agree.specs.Example.{empty_program, halting}
use Rattle.tu_agree.specs.Keep.{KeepsInstructions}
use Rattle.tu_agree.specs.Outcomes.{program_meant, image_meant}
use Rattle.tu_agree.proofs.Halting.{halt_keeps}
use Rattle.tu_agree.proofs.example.HaltPass.pass.Goals as goal

pub returns-clause-keep : goal.returns-clause-keep
returns-clause-keep c =
    let image = c.make.result in
    let made : image ≡ halting = search rules in
    subst (λ made. KeepsInstructions 1 1 (program_meant (over_folder (meaning empty_program))) (image_meant made)) (sym made) halt_keeps
