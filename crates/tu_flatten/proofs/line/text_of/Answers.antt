use Rattle.std.proofs.Common.{◌≡◌, sym, ◌∙◌}
use Rattle.std.proofs.lemmas.Result.{IfOk-weaker}
use Rattle.tu_flatten.proofs.Lines.{unkept}
use Rattle.tu_flatten.proofs.line.text_of.Goals as goal

pub returns-in-Word : goal.returns-in-Word
returns-in-Word c = rw c.in-Word.is (IfOk-weaker c.from_slice.result (λ x. x ≡ c.spelling.result.now) _ (λ x p. p ∙ c.spelling.ensures ∙ sym (unkept c.in-Word.class)) c.from_slice.ensures)
