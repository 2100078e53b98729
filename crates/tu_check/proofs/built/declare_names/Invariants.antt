use Rattle.tu_check.specs.Built.{names_of}
use Rattle.tu_check.proofs.Declarations.{IsPassed}
use Rattle.tu_check.proofs.built.declare_names.Given as goal

abbrev pub invariant-loop-name : goal.invariant-loop-name
invariant-loop-name l = IsPassed l.fn.declared l.declared (names_of l.fn.names) l.name-items l.name-index
