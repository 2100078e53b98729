use Rattle.grammar.specs.Description.{rule}
use Rattle.grammar.specs.Tree.{n-sequence, n-token}
use Rattle.tu_token.specs.declared.class.Class.TheVariants.{SignComma}
use Rattle.tu_token.specs.Rules.{◌⨟◌, t, r-imp}
use Rattle.tu_flatten_parts.proofs.Lists.{Turns, Listed}
use Rattle.tu_flatten_parts.proofs.imports.write_import.Given as goal

abbrev pub invariant-loop-i : goal.invariant-loop-i
invariant-loop-i l = Listed r-imp l.x-items l.i l.initial.out l.out

abbrev pub invariant-loop-x : goal.invariant-loop-x
invariant-loop-x l = Turns (t SignComma ⨟ rule r-imp) (λ x. n-sequence n-token x) l.x-items l.x-index l.initial.out l.out
