use Rattle.std.proofs.Common.{◌≡◌, map, take}
use Rattle.rv_isa.specs.Encoding.{decoding}
use Rattle.rv_machine.proofs.load.decoded.Given as goal

abbrev pub invariant-loop-word : goal.invariant-loop-word
invariant-loop-word l = l.decoded.items ≡ map decoding (take l.word-index l.words)
