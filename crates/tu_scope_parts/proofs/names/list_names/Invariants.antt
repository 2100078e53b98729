use Rattle.std.proofs.Common.{◌≡◌, ◌++◌, drop}
use Rattle.grammar.specs.Tree.{repeated}
use Rattle.tu_tree.specs.TypeViews.{named, named_view}
use Rattle.tu_scope_parts.specs.Roles.{event_for}
use Rattle.tu_scope_parts.specs.Walk.{each_more}
use Rattle.tu_scope_parts.proofs.names.list_names.Given as goal

abbrev pub invariant-loop-x : goal.invariant-loop-x
invariant-loop-x l = l.out ++ each_more (event_for l.role) (repeated named named_view (drop l.x-index l.x-items)) ≡ l.initial.out ++ each_more (event_for l.role) (repeated named named_view l.x-items)
