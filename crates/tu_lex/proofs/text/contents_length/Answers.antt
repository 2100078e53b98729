use Rattle.std.proofs.Common.{arith}
use Rattle.std.proofs.lemmas.Grind.{common_steps}
use Rattle.tu_lex.proofs.Scanning.{contents_more}
use Rattle.tu_lex.proofs.text.contents_length.Goals as goal

pub loop-byte-preserved : goal.loop-byte-preserved
loop-byte-preserved c = let more = contents_more c.loop-byte.escaped c.loop-byte.byte-index c.args.body.now c.loop-byte-test.true in grind (arith, common_steps)
