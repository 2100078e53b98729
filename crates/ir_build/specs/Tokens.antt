-- How many tokens a tree spells, and how many nodes it has.
use Rattle.std.specs.Prelude.{ℕ, ◌+◌}
use Rattle.grammar.specs.Description.{Description}
use Rattle.grammar.specs.Tree.{Node, n-token, n-text, n-empty, n-sequence, n-left, n-right, n-none, n-more, n-rule, n-span, n-short}

abbrev pub tokens_in : {Rule : Type 0} {body : Rule → Description Rule} {d : Description Rule} → Node body d → ℕ
tokens_in n-token = 1
tokens_in (n-text text start line) = 1
tokens_in n-empty = 0
tokens_in (n-sequence x y) = tokens_in x + tokens_in y
tokens_in (n-left x) = tokens_in x
tokens_in (n-right y) = tokens_in y
tokens_in n-none = 0
tokens_in (n-more x xs) = tokens_in x + tokens_in xs
tokens_in (n-rule mark x) = tokens_in x
tokens_in (n-span x y) = tokens_in x + tokens_in y
tokens_in (n-short z) = tokens_in z

-- how many nodes: one for each rule
abbrev pub nodes_in : {Rule : Type 0} {body : Rule → Description Rule} {d : Description Rule} → Node body d → ℕ
nodes_in n-token = 0
nodes_in (n-text text start line) = 0
nodes_in n-empty = 0
nodes_in (n-sequence x y) = nodes_in x + nodes_in y
nodes_in (n-left x) = nodes_in x
nodes_in (n-right y) = nodes_in y
nodes_in n-none = 0
nodes_in (n-more x xs) = nodes_in x + nodes_in xs
nodes_in (n-rule mark x) = 1 + nodes_in x
nodes_in (n-span x y) = nodes_in x + nodes_in y
nodes_in (n-short z) = nodes_in z
