-- Worked rows of the definitions.
use Rattle.std.proofs.Common.{◌≡◌, refl}
use Rattle.tu_base.specs.declared.kind.Kind.TheVariants.{Storage}
use Rattle.tu_base.specs.declared.event.Verdict.TheVariants.{Ended as verdict_ended, Stopped as verdict_stopped, Going as verdict_going}
use Rattle.rv_image.specs.Run.{Ended, Stopped, Going, machine_verdict}

verdicts : (machine_verdict verdict_ended ≡ Ended) × (machine_verdict (verdict_stopped Storage 7) ≡ Stopped 21 7) × (machine_verdict verdict_going ≡ Going)
verdicts = (refl, refl, refl)
