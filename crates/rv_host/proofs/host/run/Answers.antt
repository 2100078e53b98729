use Rattle.std.proofs.Common.{refl, arith, ◌∙◌}
use Rattle.rv_image.specs.Run.{Fault, Going}
use Rattle.rv_image.specs.Streams.{AtItsEnd, StoppedBy}
use Rattle.tu_base.specs.Kind.{kind_number}
use Rattle.rv_machine.specs.declared.pause.Pause.TheVariants.{Paused, Fault as faulted}
use Rattle.rv_host.specs.Host.{run_on}
use Rattle.rv_host.specs.Served.{seen}
use Rattle.rv_host.specs.declared.host.HostEnd.TheVariants.{Ended as ended, Stopped as stopped, Spent as spent, Fault as fault, ConsoleFault, CabinetFault, Memory}
use Rattle.rv_host.specs.declared.service.Reply.TheVariants.{Ended as over, Stopped as stop}
use Rattle.rv_host.specs.declared.service.ServiceError.TheVariants.{Console, Cabinet, Memory as no_memory}
use Rattle.rv_host.proofs.Turns.{begins, turn, asked_well, goes_on, leaves_whole, leaves_over, leaves_cut, spent_all}
use Rattle.rv_host.proofs.host.run.Goals as goal

pub turns-init : goal.turns-init
turns-init g c = record {
  ready = c.requires.ready;
  within = omega arith;
  later = omega arith;
  cabinet_later = omega arith;
  underway = λ input events files left_is events_are files_are.
      begins c.args.machine.now input events files _ c.requires.fresh left_is events_are files_are c.make-streams.ensures;
}

pub returns-in-Paused-clause-spent : goal.returns-in-Paused-clause-spent
returns-in-Paused-clause-spent g c = λ _.
    spent_all c.turns.machine c.advance.new.self c.args.budget c.turns.invariant.within (rw c.count.ensures at c.in-Paused.ensures.run)

pub returns-in-Paused-clause-leaves : goal.returns-in-Paused-clause-leaves
returns-in-Paused-clause-leaves g c = λ input events files left_is events_are files_are.
    let u = c.turns.invariant.underway input events files left_is events_are files_are in
    leaves_whole (run_on c.args.machine.now input files) c.args.budget spent Going c.advance.new.self.count u.world events files (seen (g.C.Console.left c.turns.console) (g.C.Console.events c.turns.console) (g.K.Cabinet.files c.turns.cabinet) c.turns.streams) refl
    (turn c.runs_rest.ensures (run_on c.args.machine.now input files) events files c.turns.machine c.advance.new.self
    (seen (g.C.Console.left c.turns.console) (g.C.Console.events c.turns.console) (g.K.Cabinet.files c.turns.cabinet) c.turns.streams) c.args.budget Paused u c.turns.invariant.within
    (rw c.count.ensures at c.in-Paused.ensures.run))
    u.told

pub returns-in-Fault-clause-leaves : goal.returns-in-Fault-clause-leaves
returns-in-Fault-clause-leaves g c = λ input events files left_is events_are files_are.
    let u = c.turns.invariant.underway input events files left_is events_are files_are in
    leaves_whole (run_on c.args.machine.now input files) c.args.budget (fault c.in-Fault.kind c.in-Fault.pc) (Fault c.in-Fault.kind c.in-Fault.pc)
    c.advance.new.self.count u.world events files (seen (g.C.Console.left c.turns.console) (g.C.Console.events c.turns.console) (g.K.Cabinet.files c.turns.cabinet) c.turns.streams) refl
    (rw c.in-Fault.ensures.place
    (turn c.runs_rest.ensures (run_on c.args.machine.now input files) events files c.turns.machine c.advance.new.self
    (seen (g.C.Console.left c.turns.console) (g.C.Console.events c.turns.console) (g.K.Cabinet.files c.turns.cabinet) c.turns.streams) c.args.budget
    (faulted c.in-Fault.kind c.in-Fault.pc) u c.turns.invariant.within (rw c.count.ensures at c.in-Fault.ensures.run)))
    u.told

pub serve-requires-clause-kind : goal.serve-requires-clause-kind
serve-requires-clause-kind g c = (asked_well c.turns.machine c.advance.new.self _ c.in-Ask.service c.in-Ask.ensures.run).kind

pub turns-preserved : goal.turns-preserved
turns-preserved g c = record {
  ready = c.answer.ensures.waiting;
  within = omega (arith, c.answer.ensures.count, c.in-Ask.ensures.count, c.count.ensures, c.turns.invariant.within);
  later = omega (arith, c.turns.invariant.later, c.serve.ensures.console.later);
  cabinet_later = omega (arith, c.turns.invariant.cabinet_later, c.serve.ensures.cabinet.later);
  underway = λ input events files left_is events_are files_are.
      let u = c.turns.invariant.underway input events files left_is events_are files_are in
      goes_on c.runs_rest.ensures (run_on c.args.machine.now input files) events files c.turns.machine c.advance.new.self c.answer.new.self
      (seen (g.C.Console.left c.turns.console) (g.C.Console.events c.turns.console) (g.K.Cabinet.files c.turns.cabinet) c.turns.streams)
      (seen (g.C.Console.left c.serve.new.console) (g.C.Console.events c.serve.new.console) (g.K.Cabinet.files c.serve.new.cabinet) c.serve.new.streams)
      c.in-Ask.service c.in-Ok-Word.word u
      (asked_well c.turns.machine c.advance.new.self _ c.in-Ask.service c.in-Ask.ensures.run)
      (rw c.in-Ok-Word.field-0-is at (c.in-Ok-Word.ensures.serves u.world events files u.told))
      (c.answer.ensures.space ∙ c.in-Ask.ensures.space) c.answer.ensures.count c.answer.ensures.cpu;
}

pub returns-in-Ok-Ended-clause-leaves : goal.returns-in-Ok-Ended-clause-leaves
returns-in-Ok-Ended-clause-leaves g c = λ input events files left_is events_are files_are.
    let u = c.turns.invariant.underway input events files left_is events_are files_are in
    leaves_over c.runs_rest.ensures (run_on c.args.machine.now input files) c.args.budget ended events files c.turns.machine c.advance.new.self
    (seen (g.C.Console.left c.turns.console) (g.C.Console.events c.turns.console) (g.K.Cabinet.files c.turns.cabinet) c.turns.streams)
    (seen (g.C.Console.left c.serve.new.console) (g.C.Console.events c.serve.new.console) (g.K.Cabinet.files c.serve.new.cabinet) c.serve.new.streams)
    c.in-Ask.service over AtItsEnd refl (λ w. refl) u
    (asked_well c.turns.machine c.advance.new.self _ c.in-Ask.service c.in-Ask.ensures.run)
    (rw c.in-Ok-Ended.field-0-is at (c.in-Ok-Ended.ensures.serves u.world events files u.told))
    (omega (arith, c.in-Ask.ensures.count, c.count.ensures, c.turns.invariant.within))

pub returns-in-Ok-Stopped-clause-leaves : goal.returns-in-Ok-Stopped-clause-leaves
returns-in-Ok-Stopped-clause-leaves g c = λ input events files left_is events_are files_are.
    let u = c.turns.invariant.underway input events files left_is events_are files_are in
    leaves_over c.runs_rest.ensures (run_on c.args.machine.now input files) c.args.budget (stopped c.in-Ok-Stopped.kind c.in-Ok-Stopped.line) events files
    c.turns.machine c.advance.new.self
    (seen (g.C.Console.left c.turns.console) (g.C.Console.events c.turns.console) (g.K.Cabinet.files c.turns.cabinet) c.turns.streams)
    (seen (g.C.Console.left c.serve.new.console) (g.C.Console.events c.serve.new.console) (g.K.Cabinet.files c.serve.new.cabinet) c.serve.new.streams)
    c.in-Ask.service (stop c.in-Ok-Stopped.kind c.in-Ok-Stopped.line) (StoppedBy (kind_number c.in-Ok-Stopped.kind) c.in-Ok-Stopped.line) refl (λ w. refl) u
    (asked_well c.turns.machine c.advance.new.self _ c.in-Ask.service c.in-Ask.ensures.run)
    (rw c.in-Ok-Stopped.field-0-is at (c.in-Ok-Stopped.ensures.serves u.world events files u.told))
    (omega (arith, c.in-Ask.ensures.count, c.count.ensures, c.turns.invariant.within))

pub returns-in-Err-Console-clause-leaves : goal.returns-in-Err-Console-clause-leaves
returns-in-Err-Console-clause-leaves g c = λ input events files left_is events_are files_are.
    let u = c.turns.invariant.underway input events files left_is events_are files_are in
    leaves_cut c.runs_rest.ensures (run_on c.args.machine.now input files) c.args.budget ConsoleFault Console events files c.turns.machine c.advance.new.self
    (seen (g.C.Console.left c.turns.console) (g.C.Console.events c.turns.console) (g.K.Cabinet.files c.turns.cabinet) c.turns.streams)
    (record { left = g.C.Console.left c.serve.new.console; events = g.C.Console.events c.serve.new.console; files = g.K.Cabinet.files c.serve.new.cabinet })
    c.in-Ask.service refl (λ other. absurd (other refl)) u
    (asked_well c.turns.machine c.advance.new.self _ c.in-Ask.service c.in-Ask.ensures.run)
    (rw c.in-Err-Console.field-0-is at (c.in-Err-Console.ensures.serves u.world events files u.told))

pub returns-in-Err-Cabinet-clause-leaves : goal.returns-in-Err-Cabinet-clause-leaves
returns-in-Err-Cabinet-clause-leaves g c = λ input events files left_is events_are files_are.
    let u = c.turns.invariant.underway input events files left_is events_are files_are in
    leaves_cut c.runs_rest.ensures (run_on c.args.machine.now input files) c.args.budget CabinetFault Cabinet events files c.turns.machine c.advance.new.self
    (seen (g.C.Console.left c.turns.console) (g.C.Console.events c.turns.console) (g.K.Cabinet.files c.turns.cabinet) c.turns.streams)
    (record { left = g.C.Console.left c.serve.new.console; events = g.C.Console.events c.serve.new.console; files = g.K.Cabinet.files c.serve.new.cabinet })
    c.in-Ask.service refl (λ _ e. cc e) u
    (asked_well c.turns.machine c.advance.new.self _ c.in-Ask.service c.in-Ask.ensures.run)
    (rw c.in-Err-Cabinet.field-0-is at (c.in-Err-Cabinet.ensures.serves u.world events files u.told))

pub returns-in-Err-Memory-clause-leaves : goal.returns-in-Err-Memory-clause-leaves
returns-in-Err-Memory-clause-leaves g c = λ input events files left_is events_are files_are.
    let u = c.turns.invariant.underway input events files left_is events_are files_are in
    leaves_cut c.runs_rest.ensures (run_on c.args.machine.now input files) c.args.budget Memory no_memory events files c.turns.machine c.advance.new.self
    (seen (g.C.Console.left c.turns.console) (g.C.Console.events c.turns.console) (g.K.Cabinet.files c.turns.cabinet) c.turns.streams)
    (record { left = g.C.Console.left c.serve.new.console; events = g.C.Console.events c.serve.new.console; files = g.K.Cabinet.files c.serve.new.cabinet })
    c.in-Ask.service refl (λ _ e. cc e) u
    (asked_well c.turns.machine c.advance.new.self _ c.in-Ask.service c.in-Ask.ensures.run)
    (rw c.in-Err-Memory.field-0-is at (c.in-Err-Memory.ensures.serves u.world events files u.told))
