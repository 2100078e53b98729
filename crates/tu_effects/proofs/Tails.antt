-- The elements of a list with those behind them, by their places.
use Rattle.std.proofs.Common.{◌≡◌, ℕ, ◌+◌, ◌<◌, List, [], ◌∷◌, length, get_or, drop, suc, zero, refl, sym, ◌∙◌, ap, arith, add-one}
use Rattle.tu_core.specs.Effects.{tails}

pub length-tails : {X : Type 0} (xs : List X) → length (tails xs) ≡ length xs
length-tails [] = refl
length-tails (x ∷ xs) = ap suc (length-tails xs)

pub tails_at : {X : Type 0} (xs : List X) (i : ℕ) (x : X) (e : X × List X) → i < length xs → x ≡ get_or xs i x → (x, drop (i + 1) xs) ≡ get_or (tails xs) i e
tails_at [] i x e lt is = absurd (omega arith)
tails_at (y ∷ ys) zero x e lt is = ap (λ z. (z, ys)) is
tails_at (y ∷ ys) (suc i) x e lt is = ap (λ n. (x, drop n (y ∷ ys))) (add-one (suc i)) ∙ ap (λ n. (x, drop n ys)) (sym (add-one i)) ∙ tails_at ys i x e (omega arith) is
