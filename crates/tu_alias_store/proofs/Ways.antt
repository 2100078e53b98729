-- Parts of contents by their ways: what a new part changes, and what it leaves.
use Rattle.std.proofs.Common.{◌≡◌, ◌≢◌, ℕ, zero, suc, ◌==◌, Bool, true, false, [], ◌∷◌, ◌++◌, ◌⊎◌, inl, inr, Some, None, refl, sym, ◌∙◌, ap, subst, arith, append_assoc, if◌then◌else◌}
use Rattle.std.proofs.lemmas.Bool.Decides.{nat_tests}
use mathlib.Core.Path.{fun_ext}
use Rattle.tu_base.specs.Values.{Content, Way, behind, part, with_part}

-- neither is within the other
abbrev pub ApartWays : Way → Way → Type 0
ApartWays [] q = ⊥
ApartWays (i ∷ p) [] = ⊥
ApartWays (i ∷ p) (j ∷ q) = (i ≢ j) ⊎ ((i ≡ j) × ApartWays p q)

pub same_or_not : (x y : ℕ) → (x ≡ y) ⊎ (x ≢ y)
same_or_not zero zero = inl refl
same_or_not zero (suc y) = inr (λ e. omega arith)
same_or_not (suc x) zero = inr (λ e. omega arith)
same_or_not (suc x) (suc y) = elim (same_or_not x y) [ inl e ↦ inl (ap suc e) | inr ne ↦ inr (λ e. ne (omega arith)) ]

pub ways_sym : (p q : Way) → ApartWays p q → ApartWays q p
ways_sym [] q a = absurd a
ways_sym (i ∷ p) [] a = absurd a
ways_sym (i ∷ p) (j ∷ q) a = elim a [ inl ne ↦ inl (λ e. ne (sym e)) | inr e ↦ inr (sym e.0, ways_sym p q e.1) ]

-- a component of a content
abbrev under : Content → ℕ → Content
under c k = λ way. c (k ∷ way)

within : (c : Content) (k : ℕ) (p : Way) (n : Content) (x : Way) → with_part c (k ∷ p) n (k ∷ x) ≡ with_part (under c k) p n x
within c k p n x = by (k == k) (grind (arith, nat_tests))
  where
    by : (b : Bool) → b ≡ true → elim (if b then behind p x else None) [ None ↦ c (k ∷ x) | Some more ↦ n more ] ≡ with_part (under c k) p n x
    by true e = refl
    by false e = absurd (let h : false ≡ true = e in cc)

outside : (c : Content) (k j : ℕ) (p : Way) (n : Content) (x : Way) → k ≢ j → with_part c (k ∷ p) n (j ∷ x) ≡ c (j ∷ x)
outside c k j p n x ne = by (k == j) (grind (arith, nat_tests))
  where
    by : (b : Bool) → b ≡ false → elim (if b then behind p x else None) [ None ↦ c (j ∷ x) | Some more ↦ n more ] ≡ c (j ∷ x)
    by false e = refl
    by true e = absurd (let h : true ≡ false = e in cc)

-- the same as functions
under_within : (c : Content) (k : ℕ) (p : Way) (n : Content) → under (with_part c (k ∷ p) n) k ≡ with_part (under c k) p n
under_within c k p n = fun_ext (within c k p n)

under_outside : (c : Content) (k j : ℕ) (p : Way) (n : Content) → k ≢ j → under (with_part c (k ∷ p) n) j ≡ under c j
under_outside c k j p n ne = fun_ext (λ x. outside c k j p n x ne)

-- a content is known by its components and what stands at the empty way
by_components : (c d : Content) → c [] ≡ d [] → ((k : ℕ) → under c k ≡ under d k) → c ≡ d
by_components c d top each = fun_ext at
  where
    at : (x : Way) → c x ≡ d x
    at [] = top
    at (k ∷ x) = ap (λ f. f x) (each k)

pub part_with : (c : Content) (p : Way) (n : Content) → part (with_part c p n) p ≡ n
part_with c [] n = refl
part_with c (k ∷ p) n = ap (λ d. part d p) (under_within c k p n) ∙ part_with (under c k) p n

pub with_same : (c : Content) (p : Way) → with_part c p (part c p) ≡ c
with_same c [] = refl
with_same c (k ∷ p) = by_components _ c refl (each (with_same (under c k) p))
  where
    each : with_part (under c k) p (part (under c k) p) ≡ under c k → (j : ℕ) → under (with_part c (k ∷ p) (part c (k ∷ p))) j ≡ under c j
    each ih j = elim (same_or_not k j) [
      | inl e ↦ subst (λ i. under (with_part c (k ∷ p) (part c (k ∷ p))) i ≡ under c i) e (under_within c k p (part c (k ∷ p)) ∙ ih)
      | inr ne ↦ under_outside c k j p _ ne
    ]

pub part_append : (c : Content) (p q : Way) → part c (p ++ q) ≡ part (part c p) q
part_append c p q = fun_ext (λ x. ap c (append_assoc p q x))

pub with_append : (c : Content) (p q : Way) (n : Content) → with_part c (p ++ q) n ≡ with_part c p (with_part (part c p) q n)
with_append c [] q n = refl
with_append c (k ∷ p) q n = by_components _ _ refl (each (with_append (under c k) p q n))
  where
    each : with_part (under c k) (p ++ q) n ≡ with_part (under c k) p (with_part (part (under c k) p) q n) → (j : ℕ) → under (with_part c (k ∷ (p ++ q)) n) j ≡ under (with_part c (k ∷ p) (with_part (part c (k ∷ p)) q n)) j
    each ih j = elim (same_or_not k j) [
      | inl e ↦ subst (λ i. under (with_part c (k ∷ (p ++ q)) n) i ≡ under (with_part c (k ∷ p) (with_part (part c (k ∷ p)) q n)) i) e (under_within c k (p ++ q) n ∙ ih ∙ sym (under_within c k p (with_part (part c (k ∷ p)) q n)))
      | inr ne ↦ under_outside c k j (p ++ q) n ne ∙ sym (under_outside c k j p _ ne)
    ]

pub with_twice : (c : Content) (p : Way) (m n : Content) → with_part (with_part c p m) p n ≡ with_part c p n
with_twice c [] m n = refl
with_twice c (k ∷ p) m n = by_components _ _ refl (each (with_twice (under c k) p m n))
  where
    each : with_part (with_part (under c k) p m) p n ≡ with_part (under c k) p n → (j : ℕ) → under (with_part (with_part c (k ∷ p) m) (k ∷ p) n) j ≡ under (with_part c (k ∷ p) n) j
    each ih j = elim (same_or_not k j) [
      | inl e ↦ subst (λ i. under (with_part (with_part c (k ∷ p) m) (k ∷ p) n) i ≡ under (with_part c (k ∷ p) n) i) e
          (under_within (with_part c (k ∷ p) m) k p n ∙ ap (λ d. with_part d p n) (under_within c k p m) ∙ ih ∙ sym (under_within c k p n))
      | inr ne ↦ under_outside (with_part c (k ∷ p) m) k j p n ne ∙ under_outside c k j p m ne ∙ sym (under_outside c k j p n ne)
    ]

pub part_apart : (c : Content) (p q : Way) (n : Content) → ApartWays p q → part (with_part c p n) q ≡ part c q
part_apart c [] q n a = absurd a
part_apart c (k ∷ p) [] n a = absurd a
part_apart c (k ∷ p) (j ∷ q) n a = elim a [
  | inl ne ↦ ap (λ d. part d q) (under_outside c k j p n ne)
  | inr e ↦ subst (λ i. part (with_part c (k ∷ p) n) (i ∷ q) ≡ part c (i ∷ q)) e.0 (ap (λ d. part d q) (under_within c k p n) ∙ part_apart (under c k) p q n e.1)
]

pub with_apart : (c : Content) (p q : Way) (m n : Content) → ApartWays p q → with_part (with_part c p m) q n ≡ with_part (with_part c q n) p m
with_apart c [] q m n a = absurd a
with_apart c (k ∷ p) [] m n a = absurd a
with_apart c (k ∷ p) (j ∷ q) m n a = elim a [ inl ne ↦ by_components _ _ refl (other ne) | inr e ↦ subst (λ i. with_part (with_part c (k ∷ p) m) (i ∷ q) n ≡ with_part (with_part c (i ∷ q) n) (k ∷ p) m) e.0 (by_components _ _ refl (same (with_apart (under c k) p q m n e.1))) ]
  where
    same : with_part (with_part (under c k) p m) q n ≡ with_part (with_part (under c k) q n) p m → (i : ℕ) → under (with_part (with_part c (k ∷ p) m) (k ∷ q) n) i ≡ under (with_part (with_part c (k ∷ q) n) (k ∷ p) m) i
    same ih i = elim (same_or_not k i) [
      | inl e ↦ subst (λ i. under (with_part (with_part c (k ∷ p) m) (k ∷ q) n) i ≡ under (with_part (with_part c (k ∷ q) n) (k ∷ p) m) i) e
          (under_within (with_part c (k ∷ p) m) k q n ∙ ap (λ d. with_part d q n) (under_within c k p m) ∙ ih ∙ ap (λ d. with_part d p m) (sym (under_within c k q n)) ∙ sym (under_within (with_part c (k ∷ q) n) k p m))
      | inr ne ↦ under_outside (with_part c (k ∷ p) m) k i q n ne ∙ under_outside c k i p m ne ∙ sym (under_outside (with_part c (k ∷ q) n) k i p m ne ∙ under_outside c k i q n ne)
    ]

    other : k ≢ j → (i : ℕ) → under (with_part (with_part c (k ∷ p) m) (j ∷ q) n) i ≡ under (with_part (with_part c (j ∷ q) n) (k ∷ p) m) i
    other ne i = elim (same_or_not k i) [
      | inl e ↦ subst (λ i. under (with_part (with_part c (k ∷ p) m) (j ∷ q) n) i ≡ under (with_part (with_part c (j ∷ q) n) (k ∷ p) m) i) e
          (under_outside (with_part c (k ∷ p) m) j k q n (λ e. ne (sym e)) ∙ under_within c k p m ∙ ap (λ d. with_part d p m) (sym (under_outside c j k q n (λ e. ne (sym e)))) ∙ sym (under_within (with_part c (j ∷ q) n) k p m))
      | inr nk ↦ elim (same_or_not j i) [
        | inl e ↦ subst (λ i. k ≢ i → under (with_part (with_part c (k ∷ p) m) (j ∷ q) n) i ≡ under (with_part (with_part c (j ∷ q) n) (k ∷ p) m) i) e
            (λ nk. under_within (with_part c (k ∷ p) m) j q n ∙ ap (λ d. with_part d q n) (under_outside c k j p m nk) ∙ sym (under_within c j q n) ∙ sym (under_outside (with_part c (j ∷ q) n) k j p m nk)) nk
        | inr nj ↦ under_outside (with_part c (k ∷ p) m) j i q n nj ∙ under_outside c k i p m nk ∙ sym (under_outside (with_part c (j ∷ q) n) k i p m nk ∙ under_outside c j i q n nj)
      ]
    ]
