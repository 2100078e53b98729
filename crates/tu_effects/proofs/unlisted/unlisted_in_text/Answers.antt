use Rattle.std.proofs.Common.{◌<◌, ◌+◌, length, drop, arith, subst}
use Rattle.std.proofs.lemmas.List.{take_rest}
use Rattle.tu_core.specs.Effects.{UnlistedIn, tails}
use Rattle.tu_effects.specs.Least.{IsLeast}
use Rattle.tu_effects.proofs.FirstPlace.{least_item, least_all}
use Rattle.tu_effects.proofs.Tails.{length-tails, tails_at}
use Rattle.tu_effects.proofs.unlisted.unlisted_in_text.Goals as goal

pub loop-place-preserved : goal.loop-place-preserved
loop-place-preserved c =
    let xs = c.args.acts.now in
    let i = c.loop-place.place in
    let x = c.index-acts-place.result in
    let lt : i < length xs = omega arith in
    let h : IsLeast (UnlistedIn (x, drop (i + 1) xs)) c.unlisted_in.result =
    subst (λ r. IsLeast (UnlistedIn (x, r)) c.unlisted_in.result) (take_rest xs (i + 1)) c.unlisted_in.ensures in
    least_item UnlistedIn (tails xs) i (x, drop (i + 1) xs) c.loop-place.least c.unlisted_in.result c.earlier-least.result
    (omega (arith, length-tails xs)) (tails_at xs i x (x, drop (i + 1) xs) lt c.index-acts-place.is) c.earlier-least.ensures c.loop-place.invariant h

pub returns : goal.returns
returns c = least_all UnlistedIn (tails c.args.acts.now) c.loop-place.place c.loop-place.least (omega (arith, length-tails c.args.acts.now)) c.loop-place.invariant
