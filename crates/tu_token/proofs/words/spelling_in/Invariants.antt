use Rattle.std.proofs.Common.{◌≡◌, map, drop}
use Rattle.tu_token.specs.ClassNumbers.{number}
use Rattle.tu_token.specs.Spellings.{spelled_in}
use Rattle.tu_token.proofs.words.spelling_in.Given as goal

abbrev pub invariant-loop-entry : goal.invariant-loop-entry
invariant-loop-entry l = spelled_in (map (λ e. (e.0.now, e.1)) (drop l.entry-index l.table)) (number l.class) ≡ spelled_in (map (λ e. (e.0.now, e.1)) l.table) (number l.class)
