-- Numbers that are cut off.
use Rattle.std.proofs.Common.{◌≡◌, ℕ, zero, suc, ◌+◌, ◌*◌, ◌≤◌, ◌<◌, min, Bool, true, false, List, [], ◌∷◌, length, drop, map, slice_index_or, if◌then◌else◌, refl, sym, ap, ◌∙◌, arith}
use Rattle.std.proofs.lemmas.List.{at_drop_more}
use Rattle.std.proofs.Math.Nat.{mul_assoc}
use Rattle.tu_base.specs.Shapes.{span_length, elements}
use Rattle.tu_type_table.specs.declared.types.Row.{Row}
use Rattle.tu_type_table.specs.Types.{limited, span_of}

min_low : (m a : ℕ) → a ≤ m → min a m ≡ a
min_low m a h = omega arith

min_high : (m a : ℕ) → m ≤ a → min a m ≡ m
min_high m a h = omega arith

times_more : (m a e : ℕ) → m ≤ a → m ≤ a * suc e
times_more m a e h = grind arith

cut_high : (m a e : ℕ) → m ≤ a → min (m * e) m ≡ min (a * e) m
cut_high m a zero h = grind arith
cut_high m a (suc e) h = min_high m (m * suc e) (times_more m m e (omega arith)) ∙ sym (min_high m (a * suc e) (times_more m a e h))

either : {P : Type 0} (m a : ℕ) → (a ≤ m → P) → (m ≤ a → P) → P
either m a low high = Prim.search (Rattle.std.proofs.Common.rules)

cut_times : (m a e : ℕ) → min (min a m * e) m ≡ min (a * e) m
cut_times m a e =
    either m a
    (λ low. ap (λ x. min (x * e) m) (min_low m a low))
    (λ high. ap (λ x. min (x * e) m) (min_high m a high) ∙ cut_high m a e high)

pub times_cut : (a e : ℕ) → limited (limited a * e) ≡ limited (a * e)
times_cut a e = cut_times 4194305 a e

cut_product : (p s e : ℕ) → limited (limited (p * s) * e) ≡ limited (p * (s * e))
cut_product p s e = cut_times 4194305 (p * s) e ∙ ap limited (mul_assoc p s e)

-- one more index of an array
pub one_more : (types : List Row) (xs : List ℕ) (i p : ℕ) → i < length xs → limited (limited (p * span_length (span_of types (slice_index_or xs i 0))) * elements (map (span_of types) (drop (i + 1) xs))) ≡ limited (p * elements (map (span_of types) (drop i xs)))
one_more types xs i p within =
    cut_product p (span_length (span_of types (slice_index_or xs i 0))) (elements (map (span_of types) (drop (i + 1) xs)))
    ∙ sym (at_drop_more (λ (ys : List ℕ). limited (p * elements (map (span_of types) ys))) xs i 0 within)

pub where_true : (b : Bool) (x y : ℕ) → true ≡ b → x ≡ (if b then x else y)
where_true true x y h = refl
where_true false x y h = cc

pub where_false : (b : Bool) (x y : ℕ) → false ≡ b → y ≡ (if b then x else y)
where_false true x y h = cc
where_false false x y h = refl
