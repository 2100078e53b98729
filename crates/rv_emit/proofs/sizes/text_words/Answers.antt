use Rattle.std.proofs.Common.{arith}
use Rattle.rv_alloc.specs.Assigned.{placed_code}
use Rattle.rv_emit.proofs.Measures.{text_bounded}
use Rattle.rv_emit.proofs.sizes.text_words.Goals as goal

pub returns-clause-is : goal.returns-clause-is
returns-clause-is c = let e = c.text_is_measured.ensures.length (placed_code c.args.assigned.now) in omega arith

pub returns-clause-bound : goal.returns-clause-bound
returns-clause-bound c = λ l.
    let e = c.text_is_measured.ensures.length (placed_code c.args.assigned.now) in
    let b = text_bounded c.text_is_measured.ensures.length c.text_is_measured.ensures.small c.args.assigned.now l in omega arith
