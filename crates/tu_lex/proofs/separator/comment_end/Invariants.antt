use Rattle.tu_token.specs.Scans.{comment_scan}
use Rattle.tu_lex.proofs.Scanning.{Left}
use Rattle.tu_lex.proofs.separator.comment_end.Given as goal

abbrev pub invariant-loop-place : goal.invariant-loop-place
invariant-loop-place l = Left comment_scan l.behind_star l.place l.body
