use Rattle.tu_run.proofs.Making.{fetched_image, fetched_long, fetched_error}
use Rattle.tu_run.proofs.answer.read_image.Goals as goal

pub returns-in-Ok-TooLong-clause-reads : goal.returns-in-Ok-TooLong-clause-reads
returns-in-Ok-TooLong-clause-reads g c =
    fetched_long _ c.args.file.now c.reads_again.ensures (rw c.in-Ok-TooLong.field-0-is at c.in-Ok-TooLong.ensures.answer)

pub returns-in-Ok-clause-reads : goal.returns-in-Ok-clause-reads
returns-in-Ok-clause-reads g c =
    fetched_image _ c.args.file.now c.in-Ok-Whole.bytes c.in-Ok.image (rw c.in-Ok-Whole.field-0-is at c.in-Ok-Whole.ensures.answer) c.in-Ok.ensures.exact c.in-Ok.ensures.found c.in-Ok.ensures.only

pub returns-clause-reads : goal.returns-clause-reads
returns-clause-reads g c =
    fetched_error _ c.args.file.now c.in-Ok-Whole.bytes c.in-Err-read.error c.image_status.result c.image_status.ensures.memory c.image_status.ensures.bad
    (rw c.in-Ok-Whole.field-0-is at c.in-Ok-Whole.ensures.answer) c.in-Err-read.ensures.exact c.in-Err-read.ensures.only
