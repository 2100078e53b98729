use Rattle.std.specs.Prelude.{◌≡◌, ◌+◌, ◌*◌, ◌++◌, [], ◌∷◌, drop}
use Rattle.tu_core_types.specs.StatementHeights.{height_of_statement, height_of_block, height_of_otherwise, height_of_arms}
use Rattle.tu_core_types.specs.StatementViews.{elsifs_view, last_view, arms_view, parts_view}
use Rattle.tu_acts.proofs.StatementRows.{all_elsifs, all_arms, all_parts}
use Rattle.tu_acts.proofs.statements.+statements.Given as goal

abbrev pub invariant-elsifs-loop-place : goal.invariant-elsifs-loop-place
invariant-elsifs-loop-place l = l.acts ≡ all_elsifs l.last (drop l.place l.xs) ++ l.fn.acts

abbrev pub invariant-arms-loop-place : goal.invariant-arms-loop-place
invariant-arms-loop-place l = l.acts ≡ all_arms l.last (drop l.place l.xs) ++ l.fn.acts

abbrev pub invariant-block-loop-place : goal.invariant-block-loop-place
invariant-block-loop-place l = l.acts ≡ all_parts (drop l.place l.parts) ++ l.initial.acts

abbrev pub decreases-statement : goal.decreases-statement
decreases-statement l = 2 * height_of_statement l.s.now

abbrev pub decreases-elsifs : goal.decreases-elsifs
decreases-elsifs l = 2 * height_of_otherwise (elsifs_view l.xs.now l.last.now)

abbrev pub decreases-default : goal.decreases-default
decreases-default l = 2 * height_of_arms (last_view l.last.now)

abbrev pub decreases-arms : goal.decreases-arms
decreases-arms l = 2 * height_of_arms (arms_view l.xs.now l.last.now) + 1

abbrev pub decreases-block : goal.decreases-block
decreases-block l = 2 * height_of_block l.b.now + 1

abbrev pub decreases-part : goal.decreases-part
decreases-part l = 2 * height_of_block (parts_view (l.x.now ∷ []))
