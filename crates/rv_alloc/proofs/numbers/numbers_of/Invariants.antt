use Rattle.std.proofs.Common.{◌≡◌, ◌++◌, drop}
use Rattle.rv_flat.specs.Parts.{gathered, instruction_numbers, linear_numbers}
use Rattle.rv_alloc.proofs.numbers.numbers_of.Given as goal

abbrev pub invariant-loop-i : goal.invariant-loop-i
invariant-loop-i l = l.numbers.items ++ gathered instruction_numbers (drop l.i-index l.r.code) ≡ linear_numbers l.r
