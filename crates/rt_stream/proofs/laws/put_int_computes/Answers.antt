use Rattle.rt_stream.proofs.Calls.{put_int_meets, put_int_is_cheap}
use Rattle.rt_stream.proofs.laws.put_int_computes.Goals as goal

pub returns-clause-run : goal.returns-clause-run
returns-clause-run c = put_int_meets

pub returns-clause-cost : goal.returns-clause-cost
returns-clause-cost c = put_int_is_cheap
