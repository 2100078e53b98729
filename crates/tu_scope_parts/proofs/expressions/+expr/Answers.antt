use Rattle.tu_expr.specs.Leaves.{mark}
use Rattle.tu_scope_parts.proofs.Turns.{turn, not_done, prefix_done, related_done, path_done}
use Rattle.tu_scope_parts.proofs.expressions.+expr.Goals as goal

pub walk_not-returns : goal.walk_not-returns
walk_not-returns t c = not_done c.args.context (mark c.not.inside.at) c.not.inside.nots c.not.inside.compare c.args.not.now c.args.out.now c.walk_compare.new.out c.not.view_is c.in_ok-walk_compare.ensures

pub walk_prefix-returns : goal.walk_prefix-returns
walk_prefix-returns t c = prefix_done c.args.context (mark c.prefix.inside.at) c.prefix.inside.signs c.prefix.inside.power c.args.prefix.now c.args.out.now c.walk_power.new.out c.prefix.view_is c.in_ok-walk_power.ensures

pub walk_compare-loop-x-preserved : goal.walk_compare-loop-x-preserved
walk_compare-loop-x-preserved t c = turn c.loop-x.invariant c.loop-x-test.true c.x-item.is (related_done c.args.context c.x-item.result c.loop-x.out c.walk_sum-in-loop-x.new.out c.in_ok-walk_sum-2.ensures)

pub walk_path-returns : goal.walk_path-returns
walk_path-returns t c =
    path_done c.args.context (mark c.path.inside.at) c.path.inside.root c.path.inside.steps c.as_slice-steps.result.now c.args.path.now c.args.out.now c.push.new.self c.loop-x.out c.root_use.result c.loop-x.x-index
    c.path.view_is c.as_slice-steps.ensures c.root_use.ensures c.in_ok-push.ensures c.loop-x.invariant c.loop-x-test.false
