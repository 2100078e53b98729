use Rattle.std.proofs.Common.{◌∙◌, sym}
use Rattle.tu_check.specs.Built.{unbuilt_shown}
use Rattle.tu_check.proofs.Lists.{found, none_found, shown_first}
use Rattle.tu_check.proofs.statements.unbuilt_shown_more.Goals as goal

pub returns-in-Some : goal.returns-in-Some
returns-in-Some c =
    sym (shown_first c.args.declared.now c.args.more.now
    ∙ found (unbuilt_shown c.args.declared.now) c.args.more.now c.loop-shown.shown-index c.in-Some.line c.shown-item.result c.loop-shown.invariant c.loop-shown-test.true c.shown-item.is (sym c.in-Some.ensures))

pub returns : goal.returns
returns c = sym (shown_first c.args.declared.now c.args.more.now ∙ none_found (unbuilt_shown c.args.declared.now) c.args.more.now c.loop-shown.shown-index c.loop-shown.invariant c.loop-shown-test.false)
