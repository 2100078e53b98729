use Rattle.std.proofs.Common.{length, ap, ◌∙◌, arith}
use Rattle.ir_build.specs.Keeps.{variables_of}
use Rattle.ir_build.proofs.Tokens.{tokens_are}
use Rattle.ir_stmt.specs.Made.{declared}
use Rattle.ir_stmt.proofs.Programs.{item_new, item_tokens_at, built_at, built_on, item_at, program_begin, built_begin, tokens_begin}
use Rattle.ir_stmt.proofs.program.unit_of.Goals as goal

pub loop-part-init : goal.loop-part-init
loop-part-init c =
    let tree = c.args.tree.now in
    let more = c.tree.inside.items in
    let xs = c.as_slice-part-items.result.now in
    let tokens = tokens_begin tree _ more xs c.tree.view_is c.as_slice-part-items.ensures in
    let printed = tokens_are tree in
    record {
      rest = program_begin tree _ more xs c.in_ok-fixed.fixed c.new-code.result c.fixed_values.new.code c.new-names.result c.tree.view_is c.as_slice-part-items.ensures c.new-code.ensures c.in_ok-fixed.ensures.values c.in_ok-fixed.ensures.appended
          c.new-names.ensures;
      built = built_begin tree _ more xs c.new-names.result c.tree.view_is c.as_slice-part-items.ensures c.new-names.ensures c.requires.built;
      next = omega (arith, tokens, printed, c.requires.short, ap (λ z. z.next) c.in_ok-fixed.ensures.appended, ap (λ z. z.next) c.new-code.ensures);
      words = omega (arith, tokens, printed, c.requires.short, ap length c.new-names.ensures);
    }

pub item-requires-clause-new : goal.item-requires-clause-new
item-requires-clause-new c =
    let x = c.loop-part-item.result in
    item_new (variables_of c.loop-part.names) x.0 (built_at (variables_of c.loop-part.names) c.as_slice-part-items.result.now c.loop-part.part-index x c.loop-part-test.true c.loop-part-item.is c.loop-part.invariant.built).0

pub loop-part-preserved : goal.loop-part-preserved
loop-part-preserved c =
    let k = c.in_ok-fixed.fixed in
    let xs = c.as_slice-part-items.result.now in
    let i = c.loop-part.part-index in
    let x = c.loop-part-item.result in
    let before = declared c.loop-part.code c.loop-part.names in
    let after = declared c.item.new.code c.item.new.names in
    let tokens = item_tokens_at xs i x c.loop-part-test.true c.loop-part-item.is in
    record {
      rest = item_at k before after xs i x c.loop-part-test.true c.loop-part-item.is c.in_ok-item.ensures.code ∙ c.loop-part.invariant.rest;
      built = built_on k before after xs i x c.loop-part-test.true c.loop-part-item.is c.loop-part.invariant.built c.in_ok-item.ensures.code;
      next = omega (arith, tokens, c.loop-part.invariant.next, c.in_ok-item.ensures.next);
      words = omega (arith, tokens, c.loop-part.invariant.words, c.in_ok-item.ensures.words);
    }
