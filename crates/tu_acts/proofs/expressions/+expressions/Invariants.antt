use Rattle.std.specs.Prelude.{◌≡◌, ◌+◌, ◌*◌, ◌++◌, [], ◌∷◌, drop}
use Rattle.tu_core_expressions.specs.ExpressionHeights.{height_of_scalar, height_of_links, height_of_text, height_of_texts, height_of_cuts, height_of_spot, height_of_set, height_of_combinations, height_of_pointer, height_of_scalars, height_of_optional, height_of_path, height_of_selectors, height_of_subscripts, height_of_call, height_of_actuals, height_of_simple}
use Rattle.tu_core_expressions.specs.ExpressionViews.{links_view, texts_view, cuts_view, combinations_view, scalars_view, optional_view, subscripts_view, selectors_view, actuals_view}
use Rattle.tu_acts.proofs.Rows.{all_links, all_texts, all_cuts, all_sets, all_scalars, all_selectors, all_subscripts, all_actuals}
use Rattle.tu_acts.proofs.expressions.+expressions.Given as goal

abbrev pub invariant-links-loop-place : goal.invariant-links-loop-place
invariant-links-loop-place l = l.acts ≡ all_links (drop l.place l.xs) ++ l.initial.acts

abbrev pub invariant-texts-loop-place : goal.invariant-texts-loop-place
invariant-texts-loop-place l = l.acts ≡ all_texts (drop l.place l.xs) ++ l.initial.acts

abbrev pub invariant-cuts-loop-place : goal.invariant-cuts-loop-place
invariant-cuts-loop-place l = l.acts ≡ all_cuts (drop l.place l.xs) ++ l.initial.acts

abbrev pub invariant-combinations-loop-place : goal.invariant-combinations-loop-place
invariant-combinations-loop-place l = l.acts ≡ all_sets (drop l.place l.xs) ++ l.initial.acts

abbrev pub invariant-scalars-loop-place : goal.invariant-scalars-loop-place
invariant-scalars-loop-place l = l.acts ≡ all_scalars (drop l.place l.xs) ++ l.initial.acts

abbrev pub invariant-selectors-loop-place : goal.invariant-selectors-loop-place
invariant-selectors-loop-place l = l.acts ≡ all_selectors (drop l.place l.xs) ++ l.initial.acts

abbrev pub invariant-subscripts-loop-place : goal.invariant-subscripts-loop-place
invariant-subscripts-loop-place l = l.acts ≡ all_subscripts (drop l.place l.xs) ++ l.initial.acts

abbrev pub invariant-actuals-loop-place : goal.invariant-actuals-loop-place
invariant-actuals-loop-place l = l.acts ≡ all_actuals (drop l.place l.xs) ++ l.initial.acts

abbrev pub decreases-scalar : goal.decreases-scalar
decreases-scalar l = 2 * height_of_scalar l.e.now

abbrev pub decreases-inner : goal.decreases-inner
decreases-inner l = 2 * height_of_optional (optional_view l.e.now)

abbrev pub decreases-links : goal.decreases-links
decreases-links l = 2 * height_of_links (links_view l.xs.now) + 1

abbrev pub decreases-link : goal.decreases-link
decreases-link l = 2 * height_of_links (links_view (l.x.now ∷ []))

abbrev pub decreases-text : goal.decreases-text
decreases-text l = 2 * height_of_text l.e.now

abbrev pub decreases-texts : goal.decreases-texts
decreases-texts l = 2 * height_of_texts (texts_view l.xs.now)

abbrev pub decreases-cuts : goal.decreases-cuts
decreases-cuts l = 2 * height_of_cuts (cuts_view l.xs.now) + 1

abbrev pub decreases-cut : goal.decreases-cut
decreases-cut l = 2 * height_of_cuts (cuts_view (l.x.now ∷ []))

abbrev pub decreases-spot : goal.decreases-spot
decreases-spot l = 2 * height_of_spot l.i.now

abbrev pub decreases-set : goal.decreases-set
decreases-set l = 2 * height_of_set l.e.now

abbrev pub decreases-combinations : goal.decreases-combinations
decreases-combinations l = 2 * height_of_combinations (combinations_view l.xs.now)

abbrev pub decreases-pointer : goal.decreases-pointer
decreases-pointer l = 2 * height_of_pointer l.e.now

abbrev pub decreases-scalars : goal.decreases-scalars
decreases-scalars l = 2 * height_of_scalars (scalars_view l.xs.now)

abbrev pub decreases-path : goal.decreases-path
decreases-path l = 2 * height_of_path l.p.now

abbrev pub decreases-selectors : goal.decreases-selectors
decreases-selectors l = 2 * height_of_selectors (selectors_view l.xs.now) + 1

abbrev pub decreases-selector : goal.decreases-selector
decreases-selector l = 2 * height_of_selectors (selectors_view (l.x.now ∷ []))

abbrev pub decreases-subscripts : goal.decreases-subscripts
decreases-subscripts l = 2 * height_of_subscripts (subscripts_view l.xs.now)

abbrev pub decreases-call : goal.decreases-call
decreases-call l = 2 * height_of_call l.c.now

abbrev pub decreases-actuals : goal.decreases-actuals
decreases-actuals l = 2 * height_of_actuals (actuals_view l.xs.now) + 1

abbrev pub decreases-actual : goal.decreases-actual
decreases-actual l = 2 * height_of_actuals (actuals_view (l.x.now ∷ []))

abbrev pub decreases-simple : goal.decreases-simple
decreases-simple l = 2 * height_of_simple l.e.now
