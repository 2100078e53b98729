-- Runs of bytes that close.
use Rattle.std.proofs.Common.{◌≡◌, ℕ, zero, suc, ◌+◌, ◌<◌, ◌≤◌, Bool, true, false, eqb, List, [], ◌∷◌, ◌++◌, length, length-take, take, refl, ap, sym, arith}
use Rattle.std.specs.Prelude.{Option, Some, None}
use Rattle.std.proofs.lemmas.Bool.{eqb-true}
use Rattle.tu_token.specs.Scans.{Scan, Closes, Fails, Goes, one_more, closed_by, close_of, is_number, closes_last}

pub more_is : (o : Option ℕ) (n : ℕ) → one_more o ≡ Some n → (m : ℕ) × (o ≡ Some m) × (n ≡ 1 + m)
more_is None n e = absurd (cc)
more_is (Some m) n e = (m, refl, let f : n ≡ 1 + m = cc in f)

-- a run that closes at n closes there in each part that is not shorter
pub record ClosesAt (scan : Bool → ℕ → Scan) (marked : Bool) (bytes : List ℕ) (n : ℕ) : Type 0 where
  pub some : 0 < n
  pub within : n ≤ length bytes
  pub parts : (k : ℕ) → n ≤ k → close_of scan marked (take k bytes) ≡ Some n

pub closes_at : (scan : Bool → ℕ → Scan) (marked : Bool) (bytes : List ℕ) (n : ℕ) → close_of scan marked bytes ≡ Some n → ClosesAt scan marked bytes n
closes_at scan marked [] n e = absurd (cc)
closes_at scan marked (b ∷ rest) n e =
    elim (scan marked b) as (λ s. scan marked b ≡ s → closed_by s (λ m. close_of scan m rest) ≡ Some n → ClosesAt scan marked (b ∷ rest) n) [
      | Closes ↦ λ is f.
          let one : n ≡ 1 = cc in
          record { some = omega arith; within = omega arith; parts = λ k h. part k h one is }
      | Fails ↦ λ is f. absurd (cc)
      | Goes m ↦ λ is f.
          let g = more_is (close_of scan m rest) n f in
          let r = closes_at scan m rest g.0 g.1 in
          let a = r.some in
          let w = r.within in
          let e = g.2 in
          record { some = omega arith; within = omega arith; parts = λ k h. later k m g.0 is r.parts e h }
    ] refl e
  where
    part : (k : ℕ) → n ≤ k → n ≡ 1 → scan marked b ≡ Closes → close_of scan marked (take k (b ∷ rest)) ≡ Some n
    part zero h one is = absurd (omega arith)
    part (suc k) h one is = rw (is, one) refl

    later : (k : ℕ) (m : Bool) (j : ℕ) → scan marked b ≡ Goes m → ((i : ℕ) → j ≤ i → close_of scan m (take i rest) ≡ Some j) → n ≡ 1 + j → n ≤ k → close_of scan marked (take k (b ∷ rest)) ≡ Some n
    later zero m j is parts one h = absurd (omega arith)
    later (suc k) m j is parts one h = let p = parts k (omega arith) in rw (is, p, one) refl

eqb_same : (n : ℕ) → eqb n n ≡ true
eqb_same n = grind arith

eqb_less : (n m : ℕ) → n < m → eqb n m ≡ false
eqb_less n m h = grind arith

long_enough : (k : ℕ) (bytes : List ℕ) → k ≤ length bytes → length (take k bytes) ≡ k
long_enough k bytes h = omega (arith, length-take k bytes)

-- it closes with the last byte of its part, and not with that of a longer one
pub part_closes : (scan : Bool → ℕ → Scan) (bytes : List ℕ) (n : ℕ) → close_of scan false bytes ≡ Some n → closes_last scan (take n bytes) ≡ true
part_closes scan bytes n e =
    let c = closes_at scan false bytes n e in
    let p = c.parts n (omega arith) in
    let l = long_enough n bytes c.within in
    rw (p, l) (eqb_same n)

pub longer_closes_not : (scan : Bool → ℕ → Scan) (bytes : List ℕ) (n k : ℕ) → close_of scan false bytes ≡ Some n → n < k → k ≤ length bytes → closes_last scan (take k bytes) ≡ false
longer_closes_not scan bytes n k e h w =
    let c = closes_at scan false bytes n e in
    let p = c.parts k (omega arith) in
    let l = long_enough k bytes w in
    rw (p, l) (eqb_less n k h)

-- bytes behind the closing one change nothing
pub close_longer : (scan : Bool → ℕ → Scan) (marked : Bool) (a c : List ℕ) (n : ℕ) → close_of scan marked a ≡ Some n → close_of scan marked (a ++ c) ≡ Some n
close_longer scan marked [] c n e = absurd (cc)
close_longer scan marked (b ∷ a) c n e =
    elim (scan marked b) as (λ s. closed_by s (λ m. close_of scan m a) ≡ Some n → closed_by s (λ m. close_of scan m (a ++ c)) ≡ Some n) [
      | Closes ↦ λ f. f
      | Fails ↦ λ f. absurd (cc)
      | Goes m ↦ λ f. let g = more_is (close_of scan m a) n f in let r = close_longer scan m a c g.0 g.1 in rw r (ap (λ k. Some k) (sym g.2))
    ] e

number_is : (o : Option ℕ) (n : ℕ) → is_number o n ≡ true → o ≡ Some n
number_is None n e = absurd (cc)
number_is (Some m) n e = ap (λ k. Some k) (eqb-true m n e)

pub last_is : (scan : Bool → ℕ → Scan) (bytes : List ℕ) → closes_last scan bytes ≡ true → close_of scan false bytes ≡ Some (length bytes)
last_is scan bytes e = number_is (close_of scan false bytes) (length bytes) e
