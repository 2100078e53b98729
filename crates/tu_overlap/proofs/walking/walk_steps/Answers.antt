use Rattle.std.proofs.Common.{◌+◌, length, map, arith, sym, ◌∙◌}
use Rattle.tu_overlap.specs.Verdicts.{noted_view}
use Rattle.tu_overlap.proofs.Steps.{min_past, steps_end}
use Rattle.tu_overlap.proofs.walking.walk_steps.Goals as goal

pub returns : goal.returns
returns c =
    let xs = c.args.first.now in
    let ys = c.args.second.now in
    let k = c.loop-place.place in
    let past = min_past (length xs) (length ys) c.min-place-end.result k c.min-place-end.ensures (omega (arith, c.loop-place-test.false)) in
    c.ended.ensures ∙ sym (steps_end (c.args.position + k) (map noted_view c.loop-place.noted) xs ys k past) ∙ c.loop-place.invariant
