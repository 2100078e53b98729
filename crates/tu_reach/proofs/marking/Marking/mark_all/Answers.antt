use Rattle.std.proofs.Common.{◌<◌, length, get_or, arith}
use Rattle.std.proofs.lemmas.List.{take_more}
use Rattle.tu_reach.proofs.Searching.{marked_one, marked_both}
use Rattle.tu_reach.proofs.marking.Marking.mark_all.Goals as goal

pub loop-text-preserved : goal.loop-text-preserved
loop-text-preserved c =
    let s = c.loop-text.self in
    let i = c.loop-text.text-index in
    let texts = c.args.texts.now in
    let lt : i < length texts = omega arith in
    let under : get_or texts i 0 < length s.marks.items = omega (arith, c.requires i 0 lt, c.loop-text.invariant.marked.same_length, s.marks.ok.0, c.args.self.now.marks.ok.0) in
    record {
      marked = rw (take_more texts i 0 lt) (marked_both _ _ _ _ _ _ _ _ c.loop-text.invariant.marked (marked_one _ _ _ _ _ under c.in_ok-mark.ensures.marked));
      listed = λ h. c.in_ok-mark.ensures.listed (c.loop-text.invariant.listed h);
    }
