use Rattle.std.proofs.Common.{Err, ap, refl, ◌∙◌}
use Rattle.tu_outside.specs.Files.{with_file}
use Rattle.rv_image.specs.Picture.{spelling}
use Rattle.tu_run.proofs.Commands.{build_answers, build_failed, nothing_done, fails_shows}
use Rattle.tu_run.proofs.answer.build.Goals as goal

pub returns-in-Ok-clause-build : goal.returns-in-Ok-clause-build
returns-in-Ok-clause-build g c = λ left events faults.
    build_answers c.args.file.now c.args.image.now _ _ c.keep_image.result c.in-Ok.made c.in-Ok.ensures.makes c.keep_image.ensures.image c.keep_image.ensures.none
    c.keep_image.ensures.kind (λ e. c.keep_image.ensures.kept e ∙ ap (λ f. with_file f c.args.image.now (spelling c.in-Ok.made)) c.made_image.ensures.files)
    (λ e. c.keep_image.ensures.same e ∙ c.made_image.ensures.files) refl refl

pub returns-in-Err-clause-build : goal.returns-in-Err-clause-build
returns-in-Err-clause-build g c = λ left events faults.
    rw c.plain.ensures (build_failed c.args.file.now c.args.image.now _ _ c.in-Err.status c.in-Err.ensures.makes c.made_image.ensures.files refl refl)

pub returns-in-Err-clause-any : goal.returns-in-Err-clause-any
returns-in-Err-clause-any g c = λ left events faults.
    let shows = fails_shows c.in-Err.status (c.in-Err.ensures.makes.read.kind c.in-Err.status refl) in
    rw c.plain.ensures (nothing_done _ c.in-Err.status (g.K.Cabinet.files c.made_image.new.cabinet) (g.K.Cabinet.faults c.made_image.new.cabinet)
    c.made_image.ensures.later shows.1 (λ e. c.in-Err.ensures.fault (ap Err e)))
