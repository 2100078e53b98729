use Rattle.tu_run.proofs.Making.{fetch_failed}
use Rattle.tu_run.proofs.answer.source_in.Goals as goal

pub returns-in-Ok-Whole-clause-fetches : goal.returns-in-Ok-Whole-clause-fetches
returns-in-Ok-Whole-clause-fetches g c = rw c.in-Ok-Whole.field-0-is at c.in-Ok-Whole.ensures.answer

pub returns-in-Ok-Absent-clause-fetches : goal.returns-in-Ok-Absent-clause-fetches
returns-in-Ok-Absent-clause-fetches g c = rw c.in-Ok-Absent.field-0-is at c.in-Ok-Absent.ensures.answer

pub returns-in-Ok-TooLong-clause-fetches : goal.returns-in-Ok-TooLong-clause-fetches
returns-in-Ok-TooLong-clause-fetches g c = rw c.in-Ok-TooLong.field-0-is at c.in-Ok-TooLong.ensures.answer

pub returns-in-Err-clause-fetches : goal.returns-in-Err-clause-fetches
returns-in-Err-clause-fetches g c = fetch_failed _ c.args.file.now c.in-Err.error c.file_status.result c.file_status.ensures.failed c.file_status.ensures.memory
