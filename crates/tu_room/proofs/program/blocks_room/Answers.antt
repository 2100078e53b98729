use Rattle.std.proofs.Common.{◌≡◌, ℕ, ◌+◌, ap, ◌∙◌, arith}
use Rattle.tu_core.specs.Core.{Routine}
use Rattle.tu_core_types.specs.ProgramViews.{handler_view}
use Rattle.tu_room_parts.specs.Capped.{capped}
use Rattle.tu_room_joins.specs.Flags.{scalars_in}
use Rattle.tu_room.specs.Tables.{block_room_of, handler_room_of, blocks_room_of}
use Rattle.tu_room.proofs.program.blocks_room.Goals as goal

-- four numbers that are cut off
four : (a b c d x y z k l m n : ℕ) → k ≡ capped (c + d) → l ≡ capped (b + k) → m ≡ capped (a + l) → a ≡ capped x → b ≡ capped y → c ≡ capped z → d ≡ capped n → m ≡ capped (x + (y + (z + n)))
four a b c d x y z k l m n e f g p q r s = omega (arith, e, f, g, p, q, r, s)

pub returns : goal.returns
returns c =
    let results = c.args.results.now in
    let ss = scalars_in c.args.scalars.now in
    let r = c.r.inside in
    let twice = c.in_ok-body.ensures.same ∙ c.in_ok-before.ensures.same in
    let thrice = c.in_ok-after.ensures.same ∙ twice in
    let body : c.in_ok-body.body ≡ capped (block_room_of results ss r.body) = c.in_ok-body.ensures.room ∙ ap (λ s. capped (block_room_of results (scalars_in s) r.body)) c.in_ok-before.ensures.same in
    let after : c.in_ok-after.after ≡ capped (block_room_of results ss r.after) = c.in_ok-after.ensures.room ∙ ap (λ s. capped (block_room_of results (scalars_in s) r.after)) twice in
    let handler : c.in_ok-handler.handler ≡ capped (handler_room_of results ss (handler_view r.handler)) = c.in_ok-handler.ensures.room ∙ ap (λ s. capped (handler_room_of results (scalars_in s) (handler_view r.handler))) thrice in
    four c.in_ok-before.before c.in_ok-body.body c.in_ok-after.after c.in_ok-handler.handler (block_room_of results ss r.before) (block_room_of results ss r.body) (block_room_of results ss r.after) c.plus.result c.plus-2.result c.plus-3.result (handler_room_of results ss (handler_view r.handler)) c.plus.ensures c.plus-2.ensures c.plus-3.ensures c.in_ok-before.ensures.room body after handler
    ∙ ap (λ (r : Routine). capped (blocks_room_of results ss r)) c.r.view_is
