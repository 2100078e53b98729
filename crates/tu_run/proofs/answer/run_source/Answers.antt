use Rattle.std.proofs.Common.{Err, ap, refl}
use Rattle.tu_run.proofs.Commands.{run_answers, run_failed, nothing_done, fails_shows}
use Rattle.tu_run.proofs.answer.run_source.Goals as goal

pub returns-in-Ok-clause-run : goal.returns-in-Ok-clause-run
returns-in-Ok-clause-run g c =
    run_answers c.meaning_is_run.ensures c.program_is_final.ensures c.args.file.now c.args.budget _ _ c.run_image.result c.in-Ok.image
    (g.K.Cabinet.files c.made_image.new.cabinet) (g.K.Cabinet.faults c.made_image.new.cabinet)
    c.in-Ok.ensures.makes c.made_image.ensures.files c.run_image.ensures.image c.run_image.ensures.status c.run_image.ensures.runs

pub returns-in-Err-clause-run : goal.returns-in-Err-clause-run
returns-in-Err-clause-run g c =
    rw c.plain.ensures (run_failed c.args.file.now c.args.budget _ c.in-Err.status (g.K.Cabinet.files c.made_image.new.cabinet) (g.K.Cabinet.faults c.made_image.new.cabinet)
    c.made_image.ensures.files c.in-Err.ensures.makes)

pub returns-in-Err-clause-any : goal.returns-in-Err-clause-any
returns-in-Err-clause-any g c =
    let shows = fails_shows c.in-Err.status (c.in-Err.ensures.makes.read.kind c.in-Err.status refl) in
    rw c.plain.ensures (nothing_done _ c.in-Err.status (g.K.Cabinet.files c.made_image.new.cabinet) (g.K.Cabinet.faults c.made_image.new.cabinet)
    c.made_image.ensures.later shows.1 (λ e. c.in-Err.ensures.fault (ap Err e)))
