use Rattle.std.proofs.Common.{arith, refl}
use Rattle.tu_reader.proofs.Steps.{◌▸◌, first_stops, rule_takes, rule_stops, no_turns, turns_more, turns_stop, turns_end, exits}
use Rattle.tu_reader.proofs.Tokens.{nothing_taken}
use Rattle.tu_token.specs.declared.class.Class.TheVariants.{SignSemicolon}
use Rattle.tu_types_reader.proofs.Flags.{flag_takes}
use Rattle.tu_parse.proofs.blocks.BlockReader.whole.Goals as goal

pub loop-tokens-init : goal.loop-tokens-init
loop-tokens-init g c = (no_turns c.new-parts.ensures, omega arith)

pub returns-in_err-part-clause-reads : goal.returns-in_err-part-clause-reads
returns-in_err-part-clause-reads g c = exits _ _ _ _ c.from_residual.ensures.1 (rule_stops c.mark-at.ensures.marks (turns_stop refl c.loop-tokens.invariant.0 c.loop-tokens-test.ensures (first_stops c.in_err-part.ensures.reads)))

pub loop-tokens-preserved : goal.loop-tokens-preserved
loop-tokens-preserved g c = (turns_more c.in_ok-push.ensures.ok refl c.loop-tokens.invariant.0 (c.in_ok-part.ensures.reads ▸ flag_takes SignSemicolon c.eat-semicolon.result c.eat-semicolon.ensures.eats), omega (arith, c.loop-tokens.invariant.1, c.in_ok-part.ensures.less, c.eat-semicolon.ensures.less))

pub returns-clause-reads : goal.returns-clause-reads
returns-clause-reads g c = rule_takes refl c.mark-at.ensures.marks (turns_end refl c.loop-tokens.invariant.0 c.loop-tokens-test.ensures (nothing_taken _ _ refl))
