use Rattle.std.specs.Prelude.{◌+◌, ◌*◌, max, [], ◌∷◌}
use Rattle.tu_core_types.specs.StatementHeights.{height_of_statement, height_of_block, height_of_otherwise, height_of_arms}
use Rattle.tu_core_types.specs.StatementViews.{elsifs_view, last_view, arms_view, parts_view}
use Rattle.tu_room_joins.specs.Flags.{scalars_in}
use Rattle.tu_room_joins.proofs.Joined.{elsifs_joins, elsifs_changes, arms_joins, arms_changes, parts_joins, parts_changes}
use Rattle.tu_room_joins.proofs.Walked.{Walked}
use Rattle.tu_room_joins.proofs.statements.+statements.Given as goal

abbrev pub invariant-elsifs-loop-x : goal.invariant-elsifs-loop-x
invariant-elsifs-loop-x l = Walked (λ s. elsifs_joins (scalars_in s) l.last) (elsifs_changes l.last) l.xs l.x-index l.sum l.initial.scalars l.scalars l.initial.found l.found

abbrev pub invariant-arms-loop-x : goal.invariant-arms-loop-x
invariant-arms-loop-x l = Walked (λ s. arms_joins (scalars_in s) l.last) (arms_changes l.last) l.xs l.x-index l.sum l.initial.scalars l.scalars l.initial.found l.found

abbrev pub invariant-block-loop-x : goal.invariant-block-loop-x
invariant-block-loop-x l = Walked (λ s. parts_joins (scalars_in s)) parts_changes l.x-items l.x-index l.sum l.initial.scalars l.scalars l.initial.found l.found

abbrev pub decreases-statement : goal.decreases-statement
decreases-statement l = 4 * height_of_statement l.s.now + 1

abbrev pub decreases-inner : goal.decreases-inner
decreases-inner l = 4 * height_of_statement l.s.now

abbrev pub decreases-choice : goal.decreases-choice
decreases-choice l = 4 * max (height_of_block l.b.now) (height_of_otherwise (elsifs_view l.xs.now l.last.now)) + 2

abbrev pub decreases-repeated : goal.decreases-repeated
decreases-repeated l = 4 * height_of_block l.b.now + 2

abbrev pub decreases-elsif : goal.decreases-elsif
decreases-elsif l = 4 * height_of_block l.x.now.block + 2

abbrev pub decreases-elsifs : goal.decreases-elsifs
decreases-elsifs l = 4 * height_of_otherwise (elsifs_view l.xs.now l.last.now) + 1

abbrev pub decreases-default : goal.decreases-default
decreases-default l = 4 * height_of_arms (last_view l.last.now)

abbrev pub decreases-arms : goal.decreases-arms
decreases-arms l = 4 * height_of_arms (arms_view l.xs.now l.last.now) + 1

abbrev pub decreases-block : goal.decreases-block
decreases-block l = 4 * height_of_block l.b.now + 1

abbrev pub decreases-part : goal.decreases-part
decreases-part l = 4 * height_of_block (parts_view (l.x.now ∷ []))
