-- Parts written one behind the other.
use Rattle.std.specs.Prelude.{List, ◌++◌}
use Rattle.std.proofs.Common.{ap, ◌∙◌, append_assoc}
use Rattle.grammar.specs.Description.{Lexeme, Description, print}
use Rattle.grammar.specs.Tree.{n-sequence, n-left, n-right, erase}
use Rattle.tu_token.specs.Rules.{Rule}
use Rattle.tu_expr.specs.Parts.{Part}
use Rattle.tu_flatten_parts.specs.Writes.{Writes}

infixr 5 ◌▸◌
-- one part and then another
pub ◌▸◌ : {a b : Description Rule} {u v w : List Lexeme} {x : Part a} {y : Part b} → Writes x u v → Writes y v w → Writes (n-sequence x y) u w
◌▸◌ {u = u} {x = x} {y = y} p q = record { is = q.is ∙ ap (λ (z : List Lexeme). z ++ print (erase y)) p.is ∙ append_assoc u (print (erase x)) (print (erase y)) }

-- one of two alternatives
pub left : {a b : Description Rule} {u v : List Lexeme} {x : Part a} → Writes x u v → Writes (n-left {a = a} {b = b} x) u v
left p = record { is = p.is }

pub right : {a b : Description Rule} {u v : List Lexeme} {y : Part b} → Writes y u v → Writes (n-right {a = a} {b = b} y) u v
right p = record { is = p.is }
