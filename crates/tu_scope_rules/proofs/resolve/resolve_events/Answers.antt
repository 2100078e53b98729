use Rattle.std.proofs.Common.{ap, sym, subst, ◌∙◌, take}
use Rattle.std.specs.Prelude.{reverse}
use Rattle.std.specs.Option.{option_map}
use Rattle.tu_scope_rules.proofs.Passed.{passed, started, taken, finished, told_is, caused}
use Rattle.tu_scope_rules.specs.Views.{view_of}
use Rattle.tu_scope_rules.specs.Answers.{IsCause, error_of}
use Rattle.tu_scope_rules.proofs.resolve.resolve_events.Goals as goal

pub loop-event-init : goal.loop-event-init
unfolding view_of
loop-event-init c = started c.in_ok-resolver.resolver c.in_ok-resolver.ensures.view c.in_ok-resolver.ensures.fault c.in_ok-resolver.ensures.uses

pub loop-event-preserved : goal.loop-event-preserved
loop-event-preserved c =
    rw (taken c.args.events.now c.loop-event.event-index c.event-item.result c.loop-event-test.true c.event-item.is)
    (passed c.loop-event.resolver c.pass.new.self c.event-item.result (reverse (take c.loop-event.event-index c.args.events.now)) c.loop-event.invariant c.in_ok-pass.ensures)

pub returns-in-None-clause-scoped : goal.returns-in-None-clause-scoped
returns-in-None-clause-scoped c =
    let at = finished c.loop-event.resolver c.args.events.now c.loop-event.event-index c.loop-event-test.false c.loop-event.invariant in
    record { right = told_is c.args.events.now c.loop-event.resolver.first at.fault ∙ ap (option_map error_of) c.in-None.is; declarations = at.uses }

pub returns-in-Some : goal.returns-in-Some
returns-in-Some c =
    let at = finished c.loop-event.resolver c.args.events.now c.loop-event.event-index c.loop-event-test.false c.loop-event.invariant in
    let is = told_is c.args.events.now c.loop-event.resolver.first at.fault ∙ ap (option_map error_of) c.in-Some.is in
    record {
      scoped = tt;
      refused = subst (λ e. IsCause c.args.events.now e) (sym c.error.ensures) (caused c.args.events.now c.in-Some.fault.kind c.in-Some.fault.line is);
    }
