use Rattle.std.proofs.Common.{◌≡◌, ◌++◌, drop}
use Rattle.tu_tree.specs.Parts.{sequel}
use Rattle.tu_tree.specs.ProgramViews.{module_part, module_part_view}
use Rattle.tu_scope_parts.specs.Walk.{parts_awaited}
use Rattle.tu_scope.proofs.programs.await_parts.Given as goal

abbrev pub invariant-loop-x : goal.invariant-loop-x
invariant-loop-x l = l.out ++ parts_awaited (sequel module_part module_part_view (drop l.x-index l.x-items)) ≡ l.initial.out ++ parts_awaited (sequel module_part module_part_view l.x-items)
