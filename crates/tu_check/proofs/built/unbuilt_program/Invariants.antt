use Rattle.tu_check.proofs.Items.{IsPassed}
use Rattle.tu_check.proofs.built.unbuilt_program.Given as goal

abbrev pub invariant-loop-item : goal.invariant-loop-item
invariant-loop-item l = IsPassed l.tree l.declared l.item-items l.item-index
