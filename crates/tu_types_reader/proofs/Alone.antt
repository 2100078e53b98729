-- What stands alone, by whether further turns follow it.
use Rattle.std.proofs.Common.{◌≡◌, ◌≤◌, Bool, false, List, [], ◌∷◌, length, Option, Some, None, refl, subst, arith}
use Rattle.std.specs.Prelude.{◌↔◌, IsTrue}
use Rattle.grammar.specs.Description.{Description}
use Rattle.grammar.specs.Tree.{Mark, n-rule, repeated}
use Rattle.tu_token.specs.Rules.{Rule}
use Rattle.tu_expr.specs.declared.leaf.Leaf.{Leaf}
use Rattle.tu_expr.specs.declared.path.Step.{Step}
use Rattle.tu_expr.specs.declared.path.Step.TheVariants as step
use Rattle.tu_expr.specs.Parts.{Part}
use Rattle.tu_expr.specs.Views.{path_view}
use Rattle.tu_types_reader.specs.Shortened.{alone, named}

-- further turns follow
pub more_alone : {A B : Type 0} (d : Description Rule) (show : B → Part d) (more : List B) {o : Option A} {x : A} {is_empty : Bool} → Some x ≡ o → (IsTrue is_empty ↔ (more ≡ [])) → is_empty ≡ false → None ≡ alone (repeated d show more) o
more_alone d show [] e h b = absurd (let k = h.1 refl in cc)
more_alone {A = A} d show (y ∷ ys) e h b = let S : Option A → Type 0 = λ z. None ≡ alone (repeated d show (y ∷ ys)) z in subst S e refl

-- a path of several steps is no name
pub named_long : (m k : Mark) (root : Leaf) (steps : List Step) → 2 ≤ length steps → None ≡ named m (Some (n-rule k (path_view root steps)))
named_long m k root [] h = absurd (omega arith)
named_long m k root (x ∷ []) h = absurd (omega arith)
named_long m k root (step.Field name ∷ y ∷ steps) h = refl
named_long m k root (step.Arguments args ∷ y ∷ steps) h = refl
