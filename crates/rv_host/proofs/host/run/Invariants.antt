use Rattle.std.proofs.Common.{◌≡◌, ◌≤◌, ◌-◌, ℕ, List, Some, None}
use Rattle.tu_base.specs.declared.event.Event.{Event}
use Rattle.tu_base.specs.Files.{Files}
use Rattle.rv_host.specs.Host.{run_on}
use Rattle.rv_host.specs.Served.{seen}
use Rattle.rv_host.proofs.Turns.{IsUnderway}
use Rattle.rv_host.proofs.host.run.Given as goal

abbrev pub invariant-turns : goal.invariant-turns
invariant-turns g l = record {
  ready : l.machine.waiting ≡ None;
  within : l.machine.count ≤ l.budget;
  later : g.C.Console.faults l.fn.console ≤ g.C.Console.faults l.console;
  cabinet_later : g.K.Cabinet.faults l.fn.cabinet ≤ g.K.Cabinet.faults l.cabinet;
  underway : (input : List ℕ) (events : List Event) (files : Files) → g.C.Console.left l.fn.console ≡ Some input → g.C.Console.events l.fn.console ≡ Some events
      → g.K.Cabinet.files l.fn.cabinet ≡ Some files
      → IsUnderway (run_on l.fn.machine input files) events files l.machine
      (seen (g.C.Console.left l.console) (g.C.Console.events l.console) (g.K.Cabinet.files l.cabinet) l.streams);
}

abbrev pub decreases-turns : goal.decreases-turns
decreases-turns g l = l.budget - l.machine.count
