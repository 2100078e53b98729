use Rattle.std.proofs.Common.{◌≡◌, arith, refl}
use Rattle.rv_alloc.specs.Assigned.{placed_code}
use Rattle.rv_text.specs.Text.{image_of}
use Rattle.rv_emit.specs.Ready.{picture_of}
use Rattle.rv_emit.proofs.Readying.{ready, agrees}
use Rattle.rv_emit.proofs.emitter.emit.Goals as goal

pub whole_text-requires : goal.whole_text-requires
whole_text-requires c = let e = c.text_is_measured.ensures.length (placed_code c.args.assigned.now) in let r = c.requires in omega arith

pub returns-clause-place : goal.returns-clause-place
returns-clause-place c = λ h.
    let a = c.args.assigned.now in c.image_is_allowed.ensures.places (placed_code a) (ready a h c.in_ok-text.ensures.small c.in_ok-text.ensures.bytes c.requires)

pub returns-clause-agrees : goal.returns-clause-agrees
returns-clause-agrees c = λ h.
    let a = c.args.assigned.now in
    let ok = ready a h c.in_ok-text.ensures.small c.in_ok-text.ensures.bytes c.requires in
    let same : picture_of (record { text = c.in_ok-text.text; entry = 0; globals = c.linear.result.now.globals }) ≡ image_of (placed_code a) = rw (c.in_ok-text.ensures.text, c.linear.ensures) refl in
    agrees a c.image_agrees.ensures c.image_is_allowed.ensures.places ok h (record { text = c.in_ok-text.text; entry = 0; globals = c.linear.result.now.globals }) same
