use Rattle.std.proofs.Common.{◌∙◌, rules, refl}
use Rattle.rv_machine.proofs.Start.{start_more, start_none}
use Rattle.rv_machine.proofs.load.put_text.Goals as goal

pub loop-k-init : goal.loop-k-init
loop-k-init c = start_none c.args.bytes.now c.requires.empty

pub loop-k-preserved : goal.loop-k-preserved
loop-k-preserved c = c.put_word.ensures ∙ rw c.loop-k.invariant (start_more c.args.words.now c.loop-k.k _ c.loop-k-test.true refl (search rules))
