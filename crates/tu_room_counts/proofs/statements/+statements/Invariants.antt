use Rattle.std.specs.Prelude.{◌+◌, ◌*◌, [], ◌∷◌}
use Rattle.tu_core_types.specs.StatementHeights.{height_of_statement, height_of_block, height_of_otherwise, height_of_arms}
use Rattle.tu_core_types.specs.StatementViews.{elsifs_view, last_view, arms_view, parts_view}
use Rattle.tu_room_parts.proofs.Sums.{Summed}
use Rattle.tu_room_counts.proofs.StatementRows.{all_elsifs, all_arms, all_parts}
use Rattle.tu_room_counts.proofs.statements.+statements.Given as goal

abbrev pub invariant-elsifs-loop-x : goal.invariant-elsifs-loop-x
invariant-elsifs-loop-x l = Summed (all_elsifs l.count l.last) l.xs l.x-index l.sum

abbrev pub invariant-arms-loop-x : goal.invariant-arms-loop-x
invariant-arms-loop-x l = Summed (all_arms l.count l.last) l.xs l.x-index l.sum

abbrev pub invariant-block-loop-x : goal.invariant-block-loop-x
invariant-block-loop-x l = Summed (all_parts l.count) l.x-items l.x-index l.sum

abbrev pub decreases-statement : goal.decreases-statement
decreases-statement l = 2 * height_of_statement l.s.now + 1

abbrev pub decreases-elsifs : goal.decreases-elsifs
decreases-elsifs l = 2 * height_of_otherwise (elsifs_view l.xs.now l.last.now)

abbrev pub decreases-default : goal.decreases-default
decreases-default l = 2 * height_of_arms (last_view l.last.now)

abbrev pub decreases-arms : goal.decreases-arms
decreases-arms l = 2 * height_of_arms (arms_view l.xs.now l.last.now) + 1

abbrev pub decreases-block : goal.decreases-block
decreases-block l = 2 * height_of_block l.b.now + 1

abbrev pub decreases-part : goal.decreases-part
decreases-part l = 2 * height_of_block (parts_view (l.x.now ∷ []))
