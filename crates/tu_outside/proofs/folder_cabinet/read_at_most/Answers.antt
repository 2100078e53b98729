use Rattle.std.proofs.Common.{◌++◌, take, arith, length-append, length-take}
use Rattle.tu_outside.proofs.ReadLemmas.{loses, consumes_more}
use Rattle.tu_outside.proofs.folder_cabinet.read_at_most.Goals as goal

pub returns-then-count-left-clause-taken : goal.returns-then-count-left-clause-taken
returns-then-count-left-clause-taken g c =
    let last = take c.in-Ok.count c.read.new.buf in
    loses _ _ (c.loop-count.bytes ++ last) _
    (consumes_more _ _ _ c.loop-count.bytes last c.loop-count.invariant.read c.in-Ok.ensures.bytes.0)
    (omega (arith, length-append c.loop-count.bytes last, length-take c.in-Ok.count c.read.new.buf, length-take c.min-wanted.result c.loop-count.piece))

pub returns-in_err-extend-clause-taken : goal.returns-in_err-extend-clause-taken
returns-in_err-extend-clause-taken g c =
    let last = take c.in-Ok.count c.read.new.buf in
    loses _ _ (c.loop-count.bytes ++ last) _
    (consumes_more _ _ _ c.loop-count.bytes last c.loop-count.invariant.read c.in-Ok.ensures.bytes.0)
    (omega (arith, length-append c.loop-count.bytes last, length-take c.in-Ok.count c.read.new.buf))
