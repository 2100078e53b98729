use Rattle.std.proofs.Common.{◌≡◌, ◌≤◌, Some, length, ◌∙◌, ap, arith}
use Rattle.tu_expr.specs.Leaves.{mark}
use Rattle.tu_expr.specs.Parts.{mark_of}
use Rattle.tu_types_reader.specs.Shortened.{named}
use Rattle.tu_types_reader.proofs.Alone.{named_long}
use Rattle.tu_types_reader.proofs.shortened.name_of.Goals as goal

pub returns-in-len2-up : goal.returns-in-len2-up
returns-in-len2-up c =
    let m = mark_of c.args.expr.now in
    let same : length c.as_slice.result.now ≡ length c.path.inside.steps = ap length c.as_slice.ensures in
    let more : 2 ≤ length c.path.inside.steps = omega (arith, same, c.in-len2-up.len_at_least) in
    named_long m (mark c.path.inside.at) c.path.inside.root c.path.inside.steps more ∙ ap (λ z. named m (Some z)) c.path.view_is ∙ ap (named m) c.in-Some.ensures
