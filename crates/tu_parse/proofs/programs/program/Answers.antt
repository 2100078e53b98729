use Rattle.std.proofs.Common.{arith, refl}
use Rattle.tu_reader.proofs.Steps.{◌▸◌, first_stops, rule_takes, rule_stops, no_turns, turns_more, turns_stop, turns_end, exits}
use Rattle.tu_reader.proofs.Tokens.{nothing_taken}
use Rattle.tu_token.specs.declared.class.Class.TheVariants.{SignSemicolon}
use Rattle.tu_types_reader.proofs.Flags.{flag_takes}
use Rattle.tu_parse.proofs.programs.program.Goals as goal

pub loop-alloc-init : goal.loop-alloc-init
loop-alloc-init c = (no_turns c.new-items.ensures, omega arith)

pub returns-in_err-item : goal.returns-in_err-item
returns-in_err-item c = exits _ _ _ _ c.from_residual.ensures.1 (rule_stops c.mark-at.ensures.marks (turns_stop refl c.loop-alloc.invariant.0 c.loop-alloc-test.ensures (first_stops c.in_err-item.ensures.reads)))

pub loop-alloc-preserved : goal.loop-alloc-preserved
loop-alloc-preserved c = (turns_more c.in_ok-push.ensures.ok refl c.loop-alloc.invariant.0 (c.in_ok-item.ensures.reads ▸ flag_takes SignSemicolon c.eat-semicolon.result c.eat-semicolon.ensures.eats), omega (arith, c.loop-alloc.invariant.1, c.in_ok-item.ensures.less, c.eat-semicolon.ensures.less))

pub returns : goal.returns
returns c = rule_takes refl c.mark-at.ensures.marks (turns_end refl c.loop-alloc.invariant.0 c.loop-alloc-test.ensures (nothing_taken _ _ refl))
