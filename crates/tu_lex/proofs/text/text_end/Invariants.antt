use Rattle.tu_token.specs.Scans.{text_scan}
use Rattle.tu_lex.proofs.Scanning.{Left}
use Rattle.tu_lex.proofs.text.text_end.Given as goal

abbrev pub invariant-loop-place : goal.invariant-loop-place
invariant-loop-place l = Left text_scan l.escaped l.place l.body
