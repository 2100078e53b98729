use Rattle.tu_tree.specs.TypeViews.{named, named_view}
use Rattle.tu_flatten_parts.proofs.Lists.{Turns}
use Rattle.tu_flatten_parts.proofs.types.write_names.Given as goal

abbrev pub invariant-loop-x : goal.invariant-loop-x
invariant-loop-x l = Turns named named_view l.x-items l.x-index l.initial.out l.out
