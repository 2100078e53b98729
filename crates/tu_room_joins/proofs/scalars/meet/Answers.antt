use Rattle.std.proofs.Common.{◌≡◌, ℕ, ◌+◌, ap, sym, ◌∙◌, arith}
use Rattle.tu_core.specs.Rooms.{one_if}
use Rattle.tu_room_parts.specs.Capped.{capped}
use Rattle.tu_room_joins.proofs.Flags.{met_next, hits_none, left_none}
use Rattle.tu_room_joins.proofs.scalars.meet.Goals.{then-flag, else-flag}
use Rattle.tu_room_joins.proofs.scalars.meet.Goals as goal

-- a number that is cut off already
low : (n k : ℕ) → n ≡ capped k → n ≡ capped (n + 0)
low n k e = omega (arith, e)

pub loop-x-init : goal.loop-x-init
loop-x-init c = (omega (arith, hits_none c.args.first c.args.flags.now), left_none c.args.first c.args.flags.now)

pub loop-x-preserved : goal.loop-x-preserved
loop-x-preserved c =
    let after : c.if-flag.count ≡ capped (c.loop-x.count + one_if c.flag.result) =
    elim c.if-flag.branch [
      | then-flag w ↦ w.count-is ∙ w.plus-count.ensures ∙ ap (λ b. capped (c.loop-x.count + one_if b)) (sym w.if-flag.true)
      | else-flag w ↦ w.count-is ∙ low c.loop-x.count _ c.loop-x.invariant.0 ∙ ap (λ b. capped (c.loop-x.count + one_if b)) (sym w.if-flag.false)
    ] in
    met_next c.args.first c.args.flags.now c.args.list.now c.loop-x.x-index c.loop-x.count c.if-flag.count c.loop-x.flags c.set_flag.new.flags c.flag.result c.loop-x.invariant c.loop-x-test.true c.flag.ensures after c.set_flag.ensures
