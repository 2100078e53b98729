use Rattle.std.proofs.Common.{◌≡◌, ℕ, ◌+◌, ◌≤◌, length, ap, arith}
use Rattle.std.proofs.lemmas.List.{length-map}
use Rattle.grammar.specs.Description.{print}
use Rattle.grammar.specs.Tree.{erase}
use Rattle.tu_token.specs.ClassNumbers.{lexeme_of}
use Rattle.tu_rows.proofs.sources.flattened.Goals as goal

pub flatten-requires-clause-few : goal.flatten-requires-clause-few
flatten-requires-clause-few c =
    let same = ap length c.in_ok-tree.ensures.parsed.spelled in
    let size = length-map c.args.tokens.now.items lexeme_of in
    let number = c.len.ensures.number in let few = c.len.ensures.few in omega arith
