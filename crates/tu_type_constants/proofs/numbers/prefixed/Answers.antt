use Rattle.std.proofs.Common.{◌∙◌, ◌-◌, arith}
use Rattle.tu_base.specs.declared.operator.Unary.TheVariants.{Plus}
use Rattle.tu_type_constants.proofs.Prefixes.{one_more}
use Rattle.tu_type_constants.proofs.numbers.prefixed.Goals as goal

pub loop-left-preserved : goal.loop-left-preserved
loop-left-preserved c =
    (omega arith, c.prefixed_by-value.ensures ∙ one_more c.args.operators.now c.args.x c.loop-left.value (c.loop-left.left - 1) c.loop-left.left Plus (omega arith) c.loop-left.invariant.0 c.loop-left.invariant.1)
