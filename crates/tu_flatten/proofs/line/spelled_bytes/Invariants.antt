use Rattle.std.proofs.Common.{◌≡◌, ◌+◌, ◌≤◌, min, drop}
use Rattle.tu_token.specs.ClassNumbers.{lexemes}
use Rattle.tu_token.specs.Spellings.{bytes_of}
use Rattle.tu_flatten.proofs.line.spelled_bytes.Given as goal

abbrev pub invariant-loop-token : goal.invariant-loop-token
invariant-loop-token l = (min (l.total + bytes_of (lexemes (drop l.token-index l.token-items))) 18446744073709551615 ≡ min (bytes_of (lexemes l.tokens.items)) 18446744073709551615) × (l.total ≤ 18446744073709551615)
