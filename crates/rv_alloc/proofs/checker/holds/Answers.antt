use Rattle.std.proofs.Common.{length, sym, ap, ◌∙◌, subst, arith}
use Rattle.std.specs.List.{AllZip}
use Rattle.rv_alloc.specs.Holds.{HoldsRoutine, Holds}
use Rattle.rv_alloc.proofs.Zips.{zip_more, zip_at, zip_length}
use Rattle.rv_alloc.proofs.checker.holds.Goals as goal

pub returns-then-routines-places : goal.returns-then-routines-places
returns-then-routines-places c =
    let same = λ (h : Holds c.args.linear.now c.args.assigned.now).
    ap length c.as_slice-routines.ensures ∙ zip_length HoldsRoutine c.args.linear.now.routines c.args.assigned.now.places h.routines ∙ sym (ap length c.places-places.ensures) in
    ((λ h. cc), (λ h. absurd (c.if-routines-places.true (same h))))

pub returns-then-not-branch : goal.returns-then-not-branch
returns-then-not-branch c =
    let rs = c.as_slice-routines.result.now in let ps = c.places-places.result.now in let i = c.loop-i.i in
    let both = λ (h : Holds c.args.linear.now c.args.assigned.now).
    subst (λ xs. AllZip HoldsRoutine xs ps) (sym c.as_slice-routines.ensures) (subst (AllZip HoldsRoutine c.args.linear.now.routines) (sym c.places-places.ensures) h.routines) in
    let at = λ (h : Holds c.args.linear.now c.args.assigned.now). zip_at HoldsRoutine rs ps i c.index-routines-i.result c.index-places-i.result (omega arith) c.index-routines-i.is c.index-places-i.is (both h) in
    ((λ h. cc), (λ h. sym c.if-not-branch.true ∙ c.in_ok-holds_routine.ensures.1 (at h)))

pub loop-i-preserved : goal.loop-i-preserved
loop-i-preserved c =
    let rs = c.as_slice-routines.result.now in let ps = c.places-places.result.now in let i = c.loop-i.i in
    zip_more HoldsRoutine rs ps i c.index-routines-i.result c.index-places-i.result (omega arith) (omega arith) c.index-routines-i.is c.index-places-i.is c.loop-i.invariant (c.in_ok-holds_routine.ensures.0 c.if-not-branch.false)
