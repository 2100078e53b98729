use Rattle.std.proofs.Common.{◌∙◌, sym, ap}
use Rattle.tu_check.specs.Built.{is_declared}
use Rattle.tu_check.proofs.Levels.{fails, path_more, path_unknown}
use Rattle.tu_check.proofs.values.unbuilt_path.Goals as goal
use Rattle.tu_check.proofs.values.unbuilt_path.Goals.{else-is_empty-via-then-is_empty+else-contains, else-is_empty-via-else-is_empty}

pub returns-else-is_empty : goal.returns-else-is_empty
returns-else-is_empty c = elim c.else-is_empty.branch [
  | else-is_empty-via-then-is_empty+else-contains w ↦
      sym (path_unknown c.args.declared.now c.args.path.now _ c.path.inside.root c.path.inside.steps c.path.view_is (ap (is_declared c.args.declared.now) (sym w.as_slice.ensures) ∙ (sym w.contains.ensures ∙ w.if-contains.false)))
  | else-is_empty-via-else-is_empty w ↦ sym (path_more c.args.declared.now c.args.path.now _ c.path.inside.root c.path.inside.steps c.path.view_is (fails c.is_empty.ensures.1 w.if-is_empty.false))
]
