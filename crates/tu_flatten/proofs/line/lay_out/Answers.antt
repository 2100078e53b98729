use Rattle.std.proofs.Common.{◌∙◌}
use Rattle.std.proofs.lemmas.Iterator.Adapters.{YieldsList-from_vec}
use Rattle.std.proofs.lemmas.Iterator.Consumers.{YieldsList-end}
use Rattle.tu_flatten.proofs.Lines.{none_laid, laid_more, all_laid, all_yielded}
use Rattle.tu_flatten.proofs.line.lay_out.Goals as goal

pub loop-piece-init : goal.loop-piece-init
loop-piece-init c = none_laid c.make-tokens.result c.make-tokens.ensures

pub loop-piece-preserved : goal.loop-piece-preserved
loop-piece-preserved c = laid_more c.in-Some.piece c.loop-piece.invariant c.in_ok-add.ensures.added c.in_ok-token.ensures.place c.in_ok-token.ensures.lexeme c.in_ok-token.ensures.text

pub returns : goal.returns
returns c =
    let gives = c.into_iter-piece-iterator.ensures.into_iter_gives in
    let road = YieldsList-from_vec {s = c.into_iter-piece-iterator.result} c.args.pieces.items gives.0 (gives.1 ∙ c.args.pieces.ok.0) in
    let end = YieldsList-end road c.loop-piece.yielded c.loop-piece.piece-iterator c.loop-piece.yielded_by c.next.result c.next.new.self c.in-None.is c.next.ensures.steps in
    let laid = all_yielded c.loop-piece.yielded c.args.pieces.items end.0 (all_laid c.loop-piece.invariant (rw c.saturating_sub.ensures at c.end_at.ensures)) in
    record { lexemes = laid.0; places = laid.1 }
