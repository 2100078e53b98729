use Rattle.std.proofs.Common.{length, sym}
use Rattle.tu_overlap.proofs.Steps.{brackets_end, min_end}
use Rattle.tu_overlap.proofs.walking.compare_brackets.Goals as goal

pub loop-place-init : goal.loop-place-init
loop-place-init c =
    let xs = c.args.first.now in
    let ys = c.args.second.now in
    sym (brackets_end xs ys c.min-place.result (min_end (length xs) (length ys) c.min-place.result c.min-place.ensures))
