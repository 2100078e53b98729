use Rattle.std.proofs.Common.{◌≡◌, map, length}
use Rattle.tu_token.specs.Words.{entry}
use Rattle.tu_token.proofs.words.class_in.Given as goal

abbrev pub invariant-loop-table : goal.invariant-loop-table
invariant-loop-table l = entry (map (λ e. (e.0.now, e.1)) l.table) l.word ≡ entry (map (λ e. (e.0.now, e.1)) l.initial.table) l.word

abbrev pub decreases-loop-table : goal.decreases-loop-table
decreases-loop-table l = length l.table
