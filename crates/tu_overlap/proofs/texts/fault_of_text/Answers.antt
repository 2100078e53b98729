use Rattle.std.proofs.Common.{◌<◌, ◌+◌, length, drop, arith, subst, ◌∙◌}
use Rattle.std.proofs.lemmas.List.{take_rest}
use Rattle.tu_core.specs.Effects.{tails}
use Rattle.tu_effects.specs.Least.{IsLeast}
use Rattle.tu_effects.proofs.FirstPlace.{least_all, least_item}
use Rattle.tu_effects.proofs.Tails.{length-tails, tails_at}
use Rattle.tu_overlap.specs.Faults.{HasFaultIn}
use Rattle.tu_overlap.proofs.texts.fault_of_text.Goals as goal

pub loop-place-preserved : goal.loop-place-preserved
loop-place-preserved c =
    let has = HasFaultIn c.args.program.now c.args.kind in
    let xs = c.args.acts.now in
    let i = c.loop-place.place in
    let x = c.index-acts-place.result in
    let lt : i < length xs = c.loop-place-test.true in
    let h : IsLeast (has (x, drop (i + 1) xs)) c.in_ok-found.found = subst (λ r. IsLeast (has (x, r)) c.in_ok-found.found) (take_rest xs (i + 1)) c.in_ok-found.ensures.found in
    record {
      length = c.in_ok-found.ensures.length ∙ c.loop-place.invariant.length;
      least = least_item has (tails xs) i (x, drop (i + 1) xs) c.loop-place.least c.in_ok-found.found c.earlier-least.result
          (omega (arith, length-tails xs)) (tails_at xs i x (x, drop (i + 1) xs) lt c.index-acts-place.is) c.earlier-least.ensures c.loop-place.invariant.least h;
    }

pub returns-clause-found : goal.returns-clause-found
returns-clause-found c =
    least_all (HasFaultIn c.args.program.now c.args.kind) (tails c.args.acts.now) c.loop-place.place c.loop-place.least (omega (arith, length-tails c.args.acts.now)) c.loop-place.invariant.least
