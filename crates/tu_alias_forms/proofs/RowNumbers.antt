-- Subscripts within their bounds are known by their number in row order.
use Rattle.std.proofs.Common.{◌≡◌, ℕ, zero, suc, ◌+◌, ◌*◌, ◌<◌, ◌≤◌, Bool, true, false, ◌&&◌, List, [], ◌∷◌, ◌⊎◌, inl, inr, refl, sym, ◌∙◌, ap, subst, arith, if◌then◌else◌}
use Rattle.std.specs.Prelude.{ℤ, ◌-ℤ◌, int_le, int_lt, unsigned_abs}
use Rattle.std.proofs.lemmas.Int.{ints}
use Rattle.std.proofs.Math.Nat.{mul-le-mul_left}
use Rattle.tu_base.specs.declared.shape.Span.{Span}
use Rattle.tu_base.specs.Shapes.{span_length, elements}
use Rattle.tu_meaning.specs.Words.{is_in_span, are_within, row_number}

both : (a b : Bool) → (a && b) ≡ true → (a ≡ true) × (b ≡ true)
both true b e = (refl, e)
both false b e = absurd (let h : false ≡ true = e in cc)

one_number : (l x y : ℤ) → int_le l x ≡ true → int_le l y ≡ true → unsigned_abs (x -ℤ l) ≡ unsigned_abs (y -ℤ l) → x ≡ y
one_number l x y h g e = omega (arith, ints, h, g, e)

not_empty : (l h x : ℤ) → int_le l x ≡ true → int_le x h ≡ true → int_lt h l ≡ false
not_empty l h x a b = grind (arith, ints)

nearer : (l h x : ℤ) → int_le l x ≡ true → int_le x h ≡ true → unsigned_abs (x -ℤ l) ≤ unsigned_abs (h -ℤ l)
nearer l h x a b = omega (arith, ints, a, b)

in_span : (s : Span) (x : ℤ) → is_in_span s x ≡ true → unsigned_abs (x -ℤ s.low) < span_length s
in_span s x e =
    let h = both (int_le s.low x) (int_le x s.high) e in
    let near : unsigned_abs (x -ℤ s.low) ≤ unsigned_abs (s.high -ℤ s.low) = nearer s.low s.high x h.0 h.1 in
    subst (λ b. unsigned_abs (x -ℤ s.low) < (if b then 0 else unsigned_abs (s.high -ℤ s.low) + 1)) (sym (not_empty s.low s.high x h.0 h.1)) (omega (arith, near))

-- a row is no longer than its place allows
in_row : (a m n r : ℕ) → a < m → r < n → a * n + r < m * n
in_row a m n r lt lt' =
    let le : n * suc a ≤ n * m = mul-le-mul_left n (omega (arith, lt)) in
    grind arith

pub number_below : (spans : List Span) (xs : List ℤ) → are_within spans xs ≡ true → row_number spans xs < elements spans
number_below [] [] e = omega arith
number_below [] (x ∷ xs) e = absurd (let h : false ≡ true = e in cc)
number_below (s ∷ more) [] e = absurd (let h : false ≡ true = e in cc)
number_below (s ∷ more) (x ∷ xs) e =
    let h = both (is_in_span s x) (are_within more xs) e in
    in_row (unsigned_abs (x -ℤ s.low)) (span_length s) (elements more) (row_number more xs) (in_span s x h.0) (number_below more xs h.1)

not_before : (n a b r q : ℕ) → r < n → a < b → a * n + r ≡ b * n + q → ⊥
not_before n a b r q lt less e =
    let le : n * suc a ≤ n * b = mul-le-mul_left n (omega (arith, less)) in
    grind arith

same_row : (n a b r q : ℕ) → r < n → q < n → a * n + r ≡ b * n + q → (a ≡ b) × (r ≡ q)
same_row n a b r q lt lt' e = by (order a b)
  where
    order : (a b : ℕ) → (a < b) ⊎ ((b < a) ⊎ (a ≡ b))
    order zero zero = inr (inr refl)
    order zero (suc b) = inl (omega arith)
    order (suc a) zero = inr (inl (omega arith))
    order (suc a) (suc b) = elim (order a b) [ inl lt ↦ inl (omega (arith, lt)) | inr more ↦ elim more [ inl gt ↦ inr (inl (omega (arith, gt))) | inr e ↦ inr (inr (ap suc e)) ] ]

    by : (a < b) ⊎ ((b < a) ⊎ (a ≡ b)) → (a ≡ b) × (r ≡ q)
    by (inl less) = absurd (not_before n a b r q lt less e)
    by (inr (inl less)) = absurd (not_before n b a q r lt' less (sym e))
    by (inr (inr same)) = (same, (let f : a * n + r ≡ a * n + q = e ∙ ap (λ z. z * n + q) (sym same) in omega (arith, f)))

-- equal numbers are those of equal subscripts
pub same_subscripts : (spans : List Span) (xs ys : List ℤ) → are_within spans xs ≡ true → are_within spans ys ≡ true → row_number spans xs ≡ row_number spans ys → xs ≡ ys
same_subscripts [] [] [] h g e = refl
same_subscripts [] [] (y ∷ ys) h g e = absurd (let f : false ≡ true = g in cc)
same_subscripts [] (x ∷ xs) ys h g e = absurd (let f : false ≡ true = h in cc)
same_subscripts (s ∷ more) [] ys h g e = absurd (let f : false ≡ true = h in cc)
same_subscripts (s ∷ more) (x ∷ xs) [] h g e = absurd (let f : false ≡ true = g in cc)
same_subscripts (s ∷ more) (x ∷ xs) (y ∷ ys) h g e =
    let a = both (is_in_span s x) (are_within more xs) h in
    let b = both (is_in_span s y) (are_within more ys) g in
    let rows = same_row (elements more) (unsigned_abs (x -ℤ s.low)) (unsigned_abs (y -ℤ s.low)) (row_number more xs) (row_number more ys) (number_below more xs a.1) (number_below more ys b.1) e in
    let low = (both (int_le s.low x) (int_le x s.high) a.0).0 in
    let low' = (both (int_le s.low y) (int_le y s.high) b.0).0 in
    ap (λ z. z ∷ xs) (one_number s.low x y low low' rows.0) ∙ ap (λ zs. y ∷ zs) (same_subscripts more xs ys a.1 b.1 rows.1)
