use Rattle.std.proofs.Common.{◌≡◌, ◌++◌, drop}
use Rattle.rv_image.specs.Picture.{numbers, spelling}
use Rattle.rv_image.proofs.image.Image.bytes.Given as goal

-- the bytes so far and the rest of the text
abbrev pub invariant-loop-word : goal.invariant-loop-word
invariant-loop-word l = l.bytes ++ numbers (drop l.word-index l.text) ≡ spelling l.self
