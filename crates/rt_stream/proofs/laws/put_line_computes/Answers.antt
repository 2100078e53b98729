use Rattle.rt_stream.proofs.Calls.{put_line_meets}
use Rattle.rt_stream.proofs.laws.put_line_computes.Goals as goal

pub returns : goal.returns
returns c = put_line_meets
