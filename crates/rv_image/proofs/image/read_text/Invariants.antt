use Rattle.std.proofs.Common.{◌≡◌, ◌+◌, ◌*◌, ◌++◌, drop, vec_len}
use Rattle.rv_image.specs.Reading.{words_of}
use Rattle.rv_image.proofs.image.read_text.Given as goal

-- how many words there are so far, and that they and those of the bytes that are left are all
abbrev pub invariant-loop-k : goal.invariant-loop-k
invariant-loop-k l = (vec_len l.text ≡ l.k) × (l.text.items ++ words_of (drop (20 + 4 * l.k) l.bytes) ≡ words_of (drop 20 l.bytes))
