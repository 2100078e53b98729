use Rattle.std.specs.Prelude.{◌+◌, ◌*◌, max, [], ◌∷◌}
use Rattle.tu_core_expressions.specs.ExpressionHeights.{height_of_scalar, height_of_links, height_of_text, height_of_texts, height_of_cuts, height_of_spot, height_of_set, height_of_combinations, height_of_pointer, height_of_scalars, height_of_optional, height_of_path, height_of_selectors, height_of_subscripts, height_of_call, height_of_actuals, height_of_simple}
use Rattle.tu_core_expressions.specs.ExpressionViews.{links_view, texts_view, cuts_view, combinations_view, scalars_view, optional_view, subscripts_view, selectors_view, actuals_view}
use Rattle.tu_room_parts.proofs.Sums.{Summed}
use Rattle.tu_room_parts.proofs.Rows.{all_links, all_texts, all_cuts, all_sets, all_scalars, all_selectors, all_subscripts, all_actuals}
use Rattle.tu_room_parts.proofs.expressions.+expressions.Given as goal

abbrev pub invariant-links-loop-x : goal.invariant-links-loop-x
invariant-links-loop-x l = Summed (all_links l.count) l.xs l.x-index l.sum

abbrev pub invariant-texts-loop-x : goal.invariant-texts-loop-x
invariant-texts-loop-x l = Summed (all_texts l.count) l.xs l.x-index l.sum

abbrev pub invariant-cuts-loop-x : goal.invariant-cuts-loop-x
invariant-cuts-loop-x l = Summed (all_cuts l.count) l.xs l.x-index l.sum

abbrev pub invariant-combinations-loop-x : goal.invariant-combinations-loop-x
invariant-combinations-loop-x l = Summed (all_sets l.count) l.xs l.x-index l.sum

abbrev pub invariant-scalars-loop-x : goal.invariant-scalars-loop-x
invariant-scalars-loop-x l = Summed (all_scalars l.count) l.xs l.x-index l.sum

abbrev pub invariant-selectors-loop-x : goal.invariant-selectors-loop-x
invariant-selectors-loop-x l = Summed (all_selectors l.count) l.xs l.x-index l.sum

abbrev pub invariant-subscripts-loop-x : goal.invariant-subscripts-loop-x
invariant-subscripts-loop-x l = Summed (all_subscripts l.count) l.xs l.x-index l.sum

abbrev pub invariant-actuals-loop-x : goal.invariant-actuals-loop-x
invariant-actuals-loop-x l = Summed (all_actuals l.count) l.xs l.x-index l.sum

abbrev pub decreases-scalar : goal.decreases-scalar
decreases-scalar l = 2 * height_of_scalar l.e.now

abbrev pub decreases-two_texts : goal.decreases-two_texts
decreases-two_texts l = 2 * max (height_of_text l.a.now) (height_of_text l.b.now) + 1

abbrev pub decreases-two_pointers : goal.decreases-two_pointers
decreases-two_pointers l = 2 * max (height_of_pointer l.a.now) (height_of_pointer l.b.now) + 1

abbrev pub decreases-inner : goal.decreases-inner
decreases-inner l = 2 * height_of_optional (optional_view l.e.now)

abbrev pub decreases-links : goal.decreases-links
decreases-links l = 2 * height_of_links (links_view l.xs.now) + 1

abbrev pub decreases-link : goal.decreases-link
decreases-link l = 2 * height_of_links (links_view (l.x.now ∷ []))

abbrev pub decreases-text : goal.decreases-text
decreases-text l = 2 * height_of_text l.e.now

abbrev pub decreases-texts : goal.decreases-texts
decreases-texts l = 2 * height_of_texts (texts_view l.xs.now)

abbrev pub decreases-cuts : goal.decreases-cuts
decreases-cuts l = 2 * height_of_cuts (cuts_view l.xs.now) + 1

abbrev pub decreases-cut : goal.decreases-cut
decreases-cut l = 2 * height_of_cuts (cuts_view (l.x.now ∷ []))

abbrev pub decreases-spot : goal.decreases-spot
decreases-spot l = 2 * height_of_spot l.i.now

abbrev pub decreases-set : goal.decreases-set
decreases-set l = 2 * height_of_set l.e.now

abbrev pub decreases-combinations : goal.decreases-combinations
decreases-combinations l = 2 * height_of_combinations (combinations_view l.xs.now)

abbrev pub decreases-pointer : goal.decreases-pointer
decreases-pointer l = 2 * height_of_pointer l.e.now

abbrev pub decreases-scalars : goal.decreases-scalars
decreases-scalars l = 2 * height_of_scalars (scalars_view l.xs.now)

abbrev pub decreases-path : goal.decreases-path
decreases-path l = 2 * height_of_path l.p.now

abbrev pub decreases-selectors : goal.decreases-selectors
decreases-selectors l = 2 * height_of_selectors (selectors_view l.xs.now) + 1

abbrev pub decreases-selector : goal.decreases-selector
decreases-selector l = 2 * height_of_selectors (selectors_view (l.x.now ∷ []))

abbrev pub decreases-subscripts : goal.decreases-subscripts
decreases-subscripts l = 2 * height_of_subscripts (subscripts_view l.xs.now)

abbrev pub decreases-call : goal.decreases-call
decreases-call l = 2 * height_of_call l.c.now

abbrev pub decreases-actuals : goal.decreases-actuals
decreases-actuals l = 2 * height_of_actuals (actuals_view l.xs.now) + 1

abbrev pub decreases-actual : goal.decreases-actual
decreases-actual l = 2 * height_of_actuals (actuals_view (l.x.now ∷ []))

abbrev pub decreases-simple : goal.decreases-simple
decreases-simple l = 2 * height_of_simple l.e.now
