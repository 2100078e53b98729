use Rattle.std.proofs.Common.{◌≡◌, ◌+◌, ap, ap₂, ◌∙◌}
use Rattle.tu_base.specs.declared.kind.Kind.TheVariants as kind
use Rattle.rv_isa.specs.declared.instr.RegisterOp.TheVariants.{Add, Mul, Mulh, Sra}
use Rattle.rv_isa.specs.declared.instr.Relation.TheVariants.{Equal, NotEqual}
use Rattle.ir_code.specs.Pieces.{constant, compute, raise_unless, defining, with_op}
use Rattle.tu_value.proofs.Growing.{begins, defines, pushes, next_is}
use Rattle.tu_value.proofs.pieces.product.Goals as goal

-- each value by its number, and so each operation as it stands in the piece
pub returns-clause-appended : goal.returns-clause-appended
returns-clause-appended c =
    let n = c.args.code.now.next in let top = c.args.fixed.top in let line = c.args.line in
    let first : c.in_ok-first.first ≡ n = c.in_ok-first.ensures.value in
    let g1 = begins (λ to. compute to Add c.args.left top) c.in_ok-first.ensures.code in
    let second : c.in_ok-second.second ≡ n + 1 = next_is g1 c.in_ok-second.ensures.value in
    let g2 = defines (λ to. compute to Add c.args.right top) g1 c.in_ok-second.ensures.code in
    let lower : c.in_ok-lower.lower ≡ n + 2 = next_is g2 c.in_ok-lower.ensures.value in
    let g3 = defines (λ to. compute to Mul n (n + 1)) g2 (c.in_ok-lower.ensures.code ∙ ap₂ (λ a b. defining c.compute-2.new.self (λ to. compute to Mul a b)) first second) in
    let upper : c.in_ok-upper.upper ≡ n + 3 = next_is g3 c.in_ok-upper.ensures.value in
    let g4 = defines (λ to. compute to Mulh n (n + 1)) g3 (c.in_ok-upper.ensures.code ∙ ap₂ (λ a b. defining c.compute-3.new.self (λ to. compute to Mulh a b)) first second) in
    let bits : c.in_ok-bits.bits ≡ n + 4 = next_is g4 c.in_ok-bits.ensures.value in
    let g5 = defines (λ to. constant to 31) g4 c.in_ok-bits.ensures.code in
    let sign : c.in_ok-sign.sign ≡ n + 5 = next_is g5 c.in_ok-sign.ensures.value in
    let g6 = defines (λ to. compute to Sra (n + 2) (n + 4)) g5 (c.in_ok-sign.ensures.code ∙ ap₂ (λ a b. defining c.constant.new.self (λ to. compute to Sra a b)) lower bits) in
    let g7 = pushes (raise_unless Equal (n + 3) (n + 5) kind.Overflow line) g6 (c.in_ok-overflow_unless.ensures ∙ ap₂ (λ a b. with_op c.compute-5.new.self (raise_unless Equal a b kind.Overflow line)) upper sign) in
    let value : c.in_ok-value.value ≡ n + 6 = next_is g7 c.in_ok-value.ensures.value in
    let g8 = defines (λ to. compute to Add (n + 2) top) g7 (c.in_ok-value.ensures.code ∙ ap (λ a. defining c.overflow_unless.new.code (λ to. compute to Add a top)) lower) in
    let g9 = pushes (raise_unless NotEqual (n + 6) c.args.fixed.zero kind.Overflow line) g8 (c.in_ok-overflow_unless-2.ensures ∙ ap (λ a. with_op c.compute-6.new.self (raise_unless NotEqual a c.args.fixed.zero kind.Overflow line)) value) in
    g9.is
