use Rattle.std.proofs.Common.{arith}
use Rattle.rv_host.proofs.StreamServices.{get_byte_comes, get_none_comes}
use Rattle.rv_host.proofs.files.get_stream.Goals as goal

pub returns-in-Some : goal.returns-in-Some
returns-in-Some c = get_byte_comes c.args.number c.in-Some.byte _ _ (omega arith) c.in-Some.ensures.byte c.in-Some.ensures.left

pub returns-in-None : goal.returns-in-None
returns-in-None c = get_none_comes c.args.number _ _ c.in-None.ensures.byte c.in-None.ensures.left
