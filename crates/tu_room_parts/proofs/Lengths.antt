-- A row of the core has as many elements as the list that it stands for.
use Rattle.std.specs.Prelude.{◌≡◌, List, [], ◌∷◌, length}
use Rattle.std.proofs.Common.{refl, arith}
use Rattle.tu_core.specs.Core.{Text}
use Rattle.tu_core.specs.Nodes.{text_count, cut_count, set_count}
use Rattle.tu_core_expressions.specs.declared.text.Cut.{Cut}
use Rattle.tu_core_expressions.specs.declared.text.Cut.TheVariants as cut
use Rattle.tu_core_expressions.specs.declared.set.SetLink.{SetLink}
use Rattle.tu_core_expressions.specs.ExpressionViews.{texts_view, cuts_view, combinations_view}

pub count_texts : (xs : List Text) → text_count (texts_view xs) ≡ length xs
count_texts [] = refl
count_texts (x ∷ xs) = omega (arith, count_texts xs)

pub count_cuts : (xs : List Cut) → cut_count (cuts_view xs) ≡ length xs
count_cuts [] = refl
count_cuts (cut.CutCharacter i ∷ xs) = omega (arith, count_cuts xs)
count_cuts (cut.CutPart i j ∷ xs) = omega (arith, count_cuts xs)

pub count_sets : (xs : List SetLink) → set_count (combinations_view xs) ≡ length xs
count_sets [] = refl
count_sets (x ∷ xs) = omega (arith, count_sets xs)
