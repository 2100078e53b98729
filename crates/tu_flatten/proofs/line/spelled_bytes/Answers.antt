use Rattle.std.proofs.Common.{◌≡◌, ◌+◌, ◌≤◌, ℕ, min, arith}
use Rattle.std.proofs.lemmas.List.{at_drop_all}
use Rattle.tu_token.specs.ClassNumbers.{lexemes}
use Rattle.tu_token.specs.Spellings.{bytes_of}
use Rattle.tu_flatten.proofs.Lines.{none_more}
use Rattle.tu_flatten.proofs.line.spelled_bytes.Goals as goal

pub returns : goal.returns
returns c = none_more (at_drop_all (λ z. bytes_of (lexemes z)) c.as_slice-token-items.result.now c.loop-token.token-index (omega (arith, c.loop-token-test.false))) c.loop-token.invariant.0 c.loop-token.invariant.1
