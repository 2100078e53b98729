-- The marks of nodes, and the texts of leaves.
use Rattle.grammar.specs.Tree.{Mark, n-text}
use Rattle.tu_token.specs.declared.class.Class.{Class}
use Rattle.tu_token.specs.Rules.{t}
use Rattle.tu_expr.specs.declared.leaf.At.{At}
use Rattle.tu_expr.specs.declared.leaf.Spot.{Spot}
use Rattle.tu_expr.specs.declared.leaf.Leaf.{Leaf}
use Rattle.tu_expr.specs.Parts.{Part}

abbrev pub mark : At → Mark
mark at = record { number = at.number; start = at.start; line = at.line }

abbrev pub spot_mark : Spot → Mark
spot_mark spot = record { number = 0; start = spot.start; line = spot.line }

-- a name or a literal of a class
abbrev pub leaf_view : (c : Class) → Leaf → Part (t c)
leaf_view c leaf = n-text leaf.text leaf.start leaf.line
