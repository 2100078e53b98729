use Rattle.grammar.specs.Description.{rule}
use Rattle.grammar.specs.Tree.{n-sequence, n-token}
use Rattle.tu_token.specs.declared.class.Class.TheVariants.{SignComma}
use Rattle.tu_token.specs.Rules.{◌⨟◌, t, r-start}
use Rattle.tu_scope_rules.specs.declared.event.Context.TheVariants.{Elsewhere}
use Rattle.tu_scope_parts.proofs.Turns.{Turns}
use Rattle.tu_scope_parts.proofs.declarations.+start.Given as goal

abbrev pub invariant-loop-x : goal.invariant-loop-x
invariant-loop-x l = Turns Elsewhere (t SignComma ⨟ rule r-start) (λ x. n-sequence n-token x) l.x-items l.x-index l.initial.out l.out
