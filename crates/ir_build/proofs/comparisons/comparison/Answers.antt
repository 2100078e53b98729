use Rattle.std.proofs.Common.{arith}
use Rattle.ir_build.proofs.Compares.{not_one}
use Rattle.ir_build.proofs.comparisons.comparison.Goals as goal

pub returns-then-len-ne1-clause-made : goal.returns-then-len-ne1-clause-made
returns-then-len-ne1-clause-made c =
    not_one c.args.environment.now.fixed c.args.environment.now.names.now c.args.line c.args.code.now c.args.compare.now _ c.compare.inside.first c.compare.inside.more c.compare.view_is
    (λ e. absurd (omega (arith, e, c.len.ensures, c.if-len-ne1.true)))
