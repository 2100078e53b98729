use Rattle.std.proofs.Common.{◌≡◌, ◌+◌, ◌≤◌, false, length, drop}
use Rattle.tu_token.specs.Scans.{contents}
use Rattle.tu_lex.proofs.text.contents_length.Given as goal

abbrev pub invariant-loop-byte : goal.invariant-loop-byte
invariant-loop-byte l = record {
  so_far : l.count + length (contents l.escaped (drop l.byte-index l.body)) ≡ length (contents false l.body);
  few : l.count ≤ l.byte-index;
}
