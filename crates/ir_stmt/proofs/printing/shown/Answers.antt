use Rattle.std.proofs.Common.{◌≡◌, [], ◌∷◌, subst}
use Rattle.std.specs.Prelude.{OnOk}
use Rattle.ir_code.specs.Pieces.{with_op, call}
use Rattle.ir_build.specs.Code.{Made}
use Rattle.ir_stmt.specs.Code.{put_int}
use Rattle.ir_stmt.proofs.printing.shown.Goals as goal

pub returns-in_ok-size-in-Some-clause-code : goal.returns-in_ok-size-in-Some-clause-code
returns-in_ok-size-in-Some-clause-code c =
    rw (← c.shown.view_is, c.in-Some.is, ← c.get.ensures, ← c.get-in-Some.ensures, ← c.in_ok-value.ensures.made)
    (subst (λ (w : Made). OnOk c.call-in-Some.result (c.call-in-Some.new.self ≡ with_op w.code (call put_int (c.in_ok-value.value ∷ w.value ∷ []) c.args.line))) c.in_ok-size-in-Some.ensures.made c.call-in-Some.ensures)
