use Rattle.std.proofs.Common.{arith, ap, sym, ◌∙◌}
use Rattle.tu_reader.specs.Ahead.{weight}
use Rattle.tu_parse.proofs.Places.{is_tree, is_found, taken_within, fault_within, more_is_fault, is_fault, is_unexpected, nothing_found}
use Rattle.tu_parse.proofs.parser.parse.Goals as goal

pub program-requires : goal.program-requires
program-requires c = omega (arith, ap weight c.new-cursor.ensures, c.len-count.ensures.number)

pub unexpected-requires : goal.unexpected-requires
unexpected-requires c = taken_within c.args.tokens.now c.new-cursor.ensures c.in-Ok.ensures

pub unexpected-requires-in-Err-Unexpected : goal.unexpected-requires-in-Err-Unexpected
unexpected-requires-in-Err-Unexpected c = fault_within c.args.tokens.now c.new-cursor.ensures c.in-Err-Unexpected.field-0-is c.in-Err-Unexpected.ensures

pub returns-then-left-eq0-clause-parsed : goal.returns-then-left-eq0-clause-parsed
returns-then-left-eq0-clause-parsed c = is_tree c.args.tokens.now c.new-cursor.ensures c.in-Ok.ensures (sym c.left-left.ensures ∙ c.if-left-eq0.true)

pub returns-then-left-eq0-clause-found : goal.returns-then-left-eq0-clause-found
returns-then-left-eq0-clause-found c = is_found (is_tree c.args.tokens.now c.new-cursor.ensures c.in-Ok.ensures (sym c.left-left.ensures ∙ c.if-left-eq0.true))

pub returns-else-left-eq0-clause-found : goal.returns-else-left-eq0-clause-found
returns-else-left-eq0-clause-found c = nothing_found c.args.tokens.now _ c.unexpected.result (more_is_fault c.args.tokens.now c.new-cursor.ensures c.in-Ok.ensures (λ h. c.if-left-eq0.false (c.left-left.ensures ∙ h)))

pub returns-else-left-eq0-clause-refused : goal.returns-else-left-eq0-clause-refused
returns-else-left-eq0-clause-refused c = is_unexpected c.args.tokens.now _ c.unexpected.result (more_is_fault c.args.tokens.now c.new-cursor.ensures c.in-Ok.ensures (λ h. c.if-left-eq0.false (c.left-left.ensures ∙ h))) c.unexpected.ensures

pub returns-in-Err-Unexpected-clause-found : goal.returns-in-Err-Unexpected-clause-found
returns-in-Err-Unexpected-clause-found c = nothing_found c.args.tokens.now _ c.unexpected-in-Err-Unexpected.result (is_fault c.args.tokens.now c.new-cursor.ensures c.in-Err-Unexpected.field-0-is c.in-Err-Unexpected.ensures)

pub returns-in-Err-Unexpected-clause-refused : goal.returns-in-Err-Unexpected-clause-refused
returns-in-Err-Unexpected-clause-refused c = is_unexpected c.args.tokens.now _ c.unexpected-in-Err-Unexpected.result (is_fault c.args.tokens.now c.new-cursor.ensures c.in-Err-Unexpected.field-0-is c.in-Err-Unexpected.ensures) c.unexpected-in-Err-Unexpected.ensures
