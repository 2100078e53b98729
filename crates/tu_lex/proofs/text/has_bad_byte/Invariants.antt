use Rattle.std.proofs.Common.{◌≡◌, ◌+◌, false, drop}
use Rattle.tu_token.specs.Scans.{bad_place}
use Rattle.tu_lex.proofs.text.has_bad_byte.Given as goal

abbrev pub invariant-loop-byte : goal.invariant-loop-byte
invariant-loop-byte l = bad_place false 1 l.body ≡ bad_place l.escaped (1 + l.byte-index) (drop l.byte-index l.body)
