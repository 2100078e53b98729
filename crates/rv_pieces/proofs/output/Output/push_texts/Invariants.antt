use Rattle.std.proofs.Common.{◌≡◌, ◌++◌, length}
use Rattle.rv_text.specs.Text.{packed}
use Rattle.rv_pieces.proofs.output.Output.push_texts.Given as goal

abbrev pub invariant-words : goal.invariant-words
invariant-words l = l.self ++ packed l.left ≡ l.fn.self ++ packed l.bytes

abbrev pub decreases-words : goal.decreases-words
decreases-words l = length l.left
