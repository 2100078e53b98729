use Rattle.std.proofs.Common.{Err, ap, refl}
use Rattle.tu_run.specs.declared.report.Status.TheVariants.{Ended}
use Rattle.tu_run.proofs.Commands.{check_answers, check_failed, nothing_done, fails_shows}
use Rattle.tu_run.proofs.answer.check_source.Goals as goal

pub returns-in-Ok-clause-check : goal.returns-in-Ok-clause-check
returns-in-Ok-clause-check g c = λ left events faults.
    rw c.plain.ensures (check_answers c.args.file.now _ (g.K.Cabinet.files c.check_file.new.cabinet) (g.K.Cabinet.faults c.check_file.new.cabinet) tt c.in-Ok.ensures.reads c.check_file.ensures.files)

pub returns-in-Ok-clause-any : goal.returns-in-Ok-clause-any
returns-in-Ok-clause-any g c = λ left events faults.
    rw c.plain.ensures (nothing_done _ Ended (g.K.Cabinet.files c.check_file.new.cabinet) (g.K.Cabinet.faults c.check_file.new.cabinet)
    c.check_file.ensures.later (λ e. cc e) (λ e. absurd (cc e)))

pub returns-in-Err-clause-check : goal.returns-in-Err-clause-check
returns-in-Err-clause-check g c = λ left events faults.
    rw c.plain-in-Err.ensures (check_failed c.args.file.now _ (g.K.Cabinet.files c.check_file.new.cabinet) (g.K.Cabinet.faults c.check_file.new.cabinet) c.in-Err.status c.in-Err.ensures.reads c.check_file.ensures.files)

pub returns-in-Err-clause-any : goal.returns-in-Err-clause-any
returns-in-Err-clause-any g c = λ left events faults.
    let shows = fails_shows c.in-Err.status (c.in-Err.ensures.reads.kind c.in-Err.status refl) in
    rw c.plain-in-Err.ensures (nothing_done _ c.in-Err.status (g.K.Cabinet.files c.check_file.new.cabinet) (g.K.Cabinet.faults c.check_file.new.cabinet)
    c.check_file.ensures.later shows.1 (λ e. c.in-Err.ensures.fault (ap Err e)))
