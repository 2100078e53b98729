use Rattle.std.proofs.Common.{Err, ap, refl}
use Rattle.tu_run.proofs.Commands.{exec_answers, exec_failed, nothing_done, read_shows}
use Rattle.tu_run.proofs.answer.exec.Goals as goal

pub returns-in-Ok-clause-exec : goal.returns-in-Ok-clause-exec
returns-in-Ok-clause-exec g c =
    exec_answers c.args.image.now c.args.budget _ _ c.run_image.result c.in-Ok.read
    (g.K.Cabinet.files c.read_image.new.cabinet) (g.K.Cabinet.faults c.read_image.new.cabinet)
    c.in-Ok.ensures.reads c.read_image.ensures.files c.run_image.ensures.image c.run_image.ensures.status c.run_image.ensures.runs

pub returns-in-Err-clause-exec : goal.returns-in-Err-clause-exec
returns-in-Err-clause-exec g c =
    rw c.plain.ensures (exec_failed c.args.image.now c.args.budget _ c.in-Err.status (g.K.Cabinet.files c.read_image.new.cabinet) (g.K.Cabinet.faults c.read_image.new.cabinet)
    c.read_image.ensures.files c.in-Err.ensures.reads)

pub returns-in-Err-clause-any : goal.returns-in-Err-clause-any
returns-in-Err-clause-any g c =
    let shows = read_shows c.in-Err.status (c.in-Err.ensures.reads.kind c.in-Err.status refl) in
    rw c.plain.ensures (nothing_done _ c.in-Err.status (g.K.Cabinet.files c.read_image.new.cabinet) (g.K.Cabinet.faults c.read_image.new.cabinet)
    c.read_image.ensures.later shows.1 (λ e. c.in-Err.ensures.fault (ap Err e)))
