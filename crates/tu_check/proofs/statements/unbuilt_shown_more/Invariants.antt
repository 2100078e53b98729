use Rattle.std.proofs.Common.{◌≡◌, drop}
use Rattle.tu_check.specs.Built.{unbuilt_shown}
use Rattle.tu_check.proofs.Lists.{first_of}
use Rattle.tu_check.proofs.statements.unbuilt_shown_more.Given as goal

abbrev pub invariant-loop-shown : goal.invariant-loop-shown
invariant-loop-shown l = first_of (unbuilt_shown l.declared) (drop l.shown-index l.more) ≡ first_of (unbuilt_shown l.declared) l.more
