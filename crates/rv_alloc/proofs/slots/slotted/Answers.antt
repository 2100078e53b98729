use Rattle.std.proofs.Common.{◌≡◌, get_or, ap, ◌∙◌, length, arith}
use Rattle.rv_alloc.specs.Holds.{HoldsRoutine, IsSlotted}
use Rattle.rv_alloc.proofs.Zips.{zip_made}
use Rattle.rv_alloc.proofs.slots.slotted.Goals as goal

pub loop-r-preserved : goal.loop-r-preserved
loop-r-preserved c =
    let rs = c.args.linear.now.routines in let i = c.loop-r.r-index in let r = c.r-item.result in let p = c.in_ok-of_routine.of_routine in
    let is : r ≡ get_or rs i r = c.r-item.is ∙ ap (λ xs. get_or xs i r) c.as_slice-r-items.ensures in
    let same = ap length c.as_slice-r-items.ensures in
    record {
      holds = zip_made HoldsRoutine rs c.loop-r.places c.push.new.self i r p (omega arith) is c.in_ok-push.ensures.ok c.loop-r.invariant.holds c.in_ok-of_routine.ensures.holds;
      slots = zip_made IsSlotted rs c.loop-r.places c.push.new.self i r p (omega arith) is c.in_ok-push.ensures.ok c.loop-r.invariant.slots c.in_ok-of_routine.ensures.slots;
    }
