-- What was read, as a tree that is equal.
use Rattle.std.proofs.Common.{◌≡◌, sym, subst}
use Rattle.grammar.specs.Description.{Description}
use Rattle.tu_token.specs.Rules.{Rule}
use Rattle.tu_expr.specs.Parts.{Part}
use Rattle.tu_reader.specs.Ahead.{Ahead}
use Rattle.tu_reader.specs.Reads.{Takes}

pub equal_takes : {d : Description Rule} {i j : Ahead} {x y : Part d} → x ≡ y → Takes d i y j → Takes d i x j
equal_takes {d = d} {i = i} {j = j} e p = let T : Part d → Type 0 = λ z. Takes d i z j in subst T (sym e) p
