use Rattle.tu_run.proofs.Words.{build_is_reached, build_is_answered, run_is_reached, run_is_answered, check_is_reached, check_is_answered, exec_is_reached, exec_is_answered, usage_is_answered}
use Rattle.tu_run.proofs.answer.answer.Goals as goal

pub returns-in-Some-Run-clause-reached : goal.returns-in-Some-Run-clause-reached
returns-in-Some-Run-clause-reached g c = run_is_reached _ _ _ _ c.run_source.result c.run_source.ensures.run

pub returns-in-Some-Run-clause-answers : goal.returns-in-Some-Run-clause-answers
returns-in-Some-Run-clause-answers g c =
    run_is_answered c.args.words.now c.in-Some-Run.file.now c.in-Some-Run.budget _ _ c.run_source.result (rw c.in-Some-Run.field-0-is at c.in-Some-Run.ensures.found) c.run_source.ensures.run c.run_source.ensures.any

pub returns-in-Some-Check-clause-reached : goal.returns-in-Some-Check-clause-reached
returns-in-Some-Check-clause-reached g c =
    check_is_reached _ _ _ c.check_source.result (c.check_source.ensures.check (g.C.Console.left c.args.console.now) (g.C.Console.events c.args.console.now) (g.C.Console.faults c.args.console.now))

pub returns-in-Some-Check-clause-answers : goal.returns-in-Some-Check-clause-answers
returns-in-Some-Check-clause-answers g c =
    check_is_answered c.args.words.now c.in-Some-Check.file.now _ _ c.check_source.result (rw c.in-Some-Check.field-0-is at c.in-Some-Check.ensures.found)
    (c.check_source.ensures.check (g.C.Console.left c.args.console.now) (g.C.Console.events c.args.console.now) (g.C.Console.faults c.args.console.now))
    (c.check_source.ensures.any (g.C.Console.left c.args.console.now) (g.C.Console.events c.args.console.now) (g.C.Console.faults c.args.console.now))

pub returns-in-Some-Build-clause-reached : goal.returns-in-Some-Build-clause-reached
returns-in-Some-Build-clause-reached g c =
    build_is_reached _ _ _ _ c.build.result (c.build.ensures.build (g.C.Console.left c.args.console.now) (g.C.Console.events c.args.console.now) (g.C.Console.faults c.args.console.now))

pub returns-in-Some-Build-clause-answers : goal.returns-in-Some-Build-clause-answers
returns-in-Some-Build-clause-answers g c =
    build_is_answered c.args.words.now c.in-Some-Build.file.now c.in-Some-Build.image.now _ _ c.build.result (rw c.in-Some-Build.field-0-is at c.in-Some-Build.ensures.found)
    (c.build.ensures.build (g.C.Console.left c.args.console.now) (g.C.Console.events c.args.console.now) (g.C.Console.faults c.args.console.now))
    (c.build.ensures.any (g.C.Console.left c.args.console.now) (g.C.Console.events c.args.console.now) (g.C.Console.faults c.args.console.now))

pub returns-in-Some-Exec-clause-reached : goal.returns-in-Some-Exec-clause-reached
returns-in-Some-Exec-clause-reached g c = exec_is_reached _ _ _ _ c.exec.result c.exec.ensures.exec

pub returns-in-Some-Exec-clause-answers : goal.returns-in-Some-Exec-clause-answers
returns-in-Some-Exec-clause-answers g c =
    exec_is_answered c.args.words.now c.in-Some-Exec.image.now c.in-Some-Exec.budget _ _ c.exec.result (rw c.in-Some-Exec.field-0-is at c.in-Some-Exec.ensures.found) c.exec.ensures.exec c.exec.ensures.any

pub returns-in-None-clause-answers : goal.returns-in-None-clause-answers
returns-in-None-clause-answers g c = rw c.plain.ensures (usage_is_answered c.args.words.now _ c.in-None.ensures.none)
