-- Items, each with what is declared before it.
use Rattle.std.proofs.Common.{◌≡◌, ℕ, Bool, List, drop}
use Rattle.grammar.specs.Description.{rule}
use Rattle.tu_token.specs.Rules.{r-program, r-item, many}
use Rattle.tu_token.specs.Syntax.{Of}
use Rattle.tu_expr.specs.Parts.{Part}
use Rattle.tu_tree.specs.Parts.{separated, sequel}
use Rattle.tu_check.specs.Built.{unbuilt_items, unbuilt_program}

abbrev pub items : List (Of r-item × Bool) → Part (many (separated (rule r-item)))
items xs = sequel (rule r-item) (λ x. x) xs

-- what is told of the items behind those that are passed is told of the program
abbrev pub IsPassed : Of r-program → (declared : List (List ℕ)) → (xs : List (Of r-item × Bool)) → ℕ → Type 0
IsPassed tree declared xs i = unbuilt_program tree ≡ unbuilt_items declared (items (drop i xs))
