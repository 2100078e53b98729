use Rattle.std.proofs.Common.{◌≡◌, ◌++◌, [], drop, true, arith, ap, sym, ◌∙◌}
use Rattle.std.proofs.lemmas.Result.{on_ok_weaker}
use Rattle.std.proofs.lemmas.List.{length-map}
use Rattle.rv_runs.specs.Stands.{codes_of}
use Rattle.rv_layout.specs.Moves.{moves, move_words}
use Rattle.rv_emit.specs.Placed.{frame_head, number_in, numbers_in}
use Rattle.rv_emit.specs.Mixed.{put_off}
use Rattle.rv_emit.proofs.Moving.{moves_end}
use Rattle.rv_emit.proofs.frame.Frame.push_mixed.Goals as goal

pub returns : goal.returns
returns c =
    let tos = numbers_in c.args.self c.args.to.now in let m = c.loop-i.mixed in
    let none : moves (drop c.loop-i.i tos) (drop c.loop-i.i m.rest.items) ≡ [] = moves_end tos m.rest.items c.loop-i.i (omega (arith, length-map c.args.to.now (number_in c.args.self))) in
    on_ok_weaker c.push_put_off.result
    (λ e. e ∙ (ap (λ ms. c.loop-i.out ++ codes_of (move_words (frame_head c.args.self) c.args.near true ms ++ put_off c.args.near m.copies.items)) (sym none) ∙ c.loop-i.invariant.words))
    c.push_put_off.ensures
