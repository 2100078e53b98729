use Rattle.tu_run.proofs.Making.{not_compiled, no_memory_compiled, program_compiled}
use Rattle.tu_run.proofs.answer.compiled.Goals as goal

pub returns-in-Err : goal.returns-in-Err
returns-in-Err c = rw c.check_status.ensures (not_compiled c.args.source.now c.in-Err.error c.in-Err.ensures.refused)

pub returns-in-Ok-compile : goal.returns-in-Ok-compile
returns-in-Ok-compile c = program_compiled c.one_answer.ensures.accepted c.args.source.now c.in-Ok.checked c.in-Ok-compile.image c.in-Ok.ensures.accepted c.in-Ok-compile.ensures

pub returns : goal.returns
returns c = no_memory_compiled c.args.source.now
