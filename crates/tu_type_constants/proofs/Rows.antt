-- Worked rows of constant expressions.
use Rattle.std.proofs.Common.{◌≡◌, [], ◌∷◌, pos, refl}
use Rattle.std.specs.Prelude.{codes, neg_ℤ, replicate, Some, None}
use Rattle.tu_base.specs.declared.operator.Relation.TheVariants.{Equal, Less, Greater}
use Rattle.tu_base.specs.declared.operator.Unary.TheVariants.{Plus, Minus, Not}
use Rattle.tu_base.specs.declared.operator.Binary.TheVariants.{Add, Subtract, Divide, Modulo, Power, Compare}
use Rattle.tu_base.specs.declared.operator.Junction.TheVariants.{And, Or, Implies}
use Rattle.tu_type_constants.specs.declared.constant.Constant.TheVariants.{NoConstant, Raising, Is, IsText}
use Rattle.tu_type_constants.specs.Constants.{all_prefixed, of_numbers, of_texts, of_joined, of_truths, number_in}

-- `2 ** 30`, `2 ** 31`, `(-2) ** 31`, `0 ** 0`, `(-1) ** 3` and `2 ** (-1)`
powers : (of_numbers Power (Is (pos 2)) (Is (pos 30)) ≡ Is (pos 1073741824))
    × (of_numbers Power (Is (pos 2)) (Is (pos 31)) ≡ Raising)
    × (of_numbers Power (Is (neg_ℤ (pos 2))) (Is (pos 31)) ≡ Raising)
    × (of_numbers Power (Is (pos 0)) (Is (pos 0)) ≡ Is (pos 1))
    × (of_numbers Power (Is (neg_ℤ (pos 1))) (Is (pos 3)) ≡ Is (neg_ℤ (pos 1)))
    × (of_numbers Power (Is (pos 2)) (Is (neg_ℤ (pos 1))) ≡ Raising)
powers = (refl, refl, refl, refl, refl, refl)

-- `-7 div 2`, `-7 mod 2`, `7 div 0`, `2147483647 + 1`, `-2147483647 - 1` and `3 < 5`
numbers : (of_numbers Divide (Is (neg_ℤ (pos 7))) (Is (pos 2)) ≡ Is (neg_ℤ (pos 3)))
    × (of_numbers Modulo (Is (neg_ℤ (pos 7))) (Is (pos 2)) ≡ Is (neg_ℤ (pos 1)))
    × (of_numbers Divide (Is (pos 7)) (Is (pos 0)) ≡ Raising)
    × (of_numbers Add (Is (pos 2147483647)) (Is (pos 1)) ≡ Raising)
    × (of_numbers Subtract (Is (neg_ℤ (pos 2147483647))) (Is (pos 1)) ≡ Raising)
    × (of_numbers (Compare Less) (Is (pos 3)) (Is (pos 5)) ≡ Is (pos 1))
numbers = (refl, refl, refl, refl, refl, refl)

-- `1 + x` for a variable x, `7 div 0 + x`, and `7 div 0 + 1`
operands : (of_numbers Add (Is (pos 1)) NoConstant ≡ NoConstant)
    × (of_numbers Add Raising NoConstant ≡ NoConstant)
    × (of_numbers Add Raising (Is (pos 1)) ≡ Raising)
    × (number_in Raising ≡ None)
    × (number_in (Is (pos 1)) ≡ Some (pos 1))
operands = (refl, refl, refl, refl, refl)

-- `false and 1 div 0 = 1`, `true and 1 div 0 = 1`, `true or x` for a variable x, `false => 1 div 0 = 1`, and `true => false`
truths : (of_truths And (Is (pos 0)) Raising ≡ Is (pos 0))
    × (of_truths And (Is (pos 1)) Raising ≡ Raising)
    × (of_truths Or (Is (pos 1)) NoConstant ≡ NoConstant)
    × (of_truths Implies (Is (pos 0)) Raising ≡ Is (pos 1))
    × (of_truths Implies (Is (pos 1)) (Is (pos 0)) ≡ Is (pos 0))
truths = (refl, refl, refl, refl, refl)

-- `"a" < "ab"`, `"b" < "ab"`, `"ab" > "a"`, `"" = ""`, `"ab" + "c"`, and a text of 256 bytes
texts : (of_texts Less (IsText (codes "a")) (IsText (codes "ab")) ≡ Is (pos 1))
    × (of_texts Less (IsText (codes "b")) (IsText (codes "ab")) ≡ Is (pos 0))
    × (of_texts Greater (IsText (codes "ab")) (IsText (codes "a")) ≡ Is (pos 1))
    × (of_texts Equal (IsText []) (IsText []) ≡ Is (pos 1))
    × (of_joined (IsText (codes "ab")) (IsText (codes "c")) ≡ IsText (codes "abc"))
    × (of_joined (IsText (replicate 255 120)) (IsText (codes "y")) ≡ Raising)
texts = (refl, refl, refl, refl, refl, refl)

-- `- + 5`, `not true`, and `- (1 div 0)`
prefixes : (all_prefixed (Minus ∷ (Plus ∷ [])) (Is (pos 5)) ≡ Is (neg_ℤ (pos 5)))
    × (all_prefixed (Not ∷ []) (Is (pos 1)) ≡ Is (pos 0))
    × (all_prefixed (Minus ∷ []) Raising ≡ Raising)
prefixes = (refl, refl, refl)
