-- A run of bytes that is read up to a place.
use Rattle.std.proofs.Common.{◌≡◌, ℕ, ◌+◌, ◌<◌, suc, Bool, true, false, cond, eqb, not, ◌&&◌, List, ◌∷◌, length, get_or, drop, drop-cons, refl, ap, sym, ◌∙◌, arith}
use Rattle.std.proofs.Math.Seq.{drop-length}
use Rattle.std.specs.Prelude.{Option, Some, None}
use Rattle.tu_token.specs.Scans.{Scan, Closes, Fails, Goes, one_more, closed_by, close_of, contents}

-- more bytes before the closing one
abbrev pub plus : ℕ → Option ℕ → Option ℕ
plus n None = None
plus n (Some m) = Some (n + m)

plus_more : (i : ℕ) (o : Option ℕ) → plus i (one_more o) ≡ plus (i + 1) o
plus_more i None = refl
plus_more i (Some m) = ap (λ n. Some n) (omega arith)

-- the whole run closes as what is left of it does
pub record Left (scan : Bool → ℕ → Scan) (marked : Bool) (i : ℕ) (bytes : List ℕ) : Type 0 where
  pub same : close_of scan false bytes ≡ plus i (close_of scan marked (drop i bytes))

pub none_read : (scan : Bool → ℕ → Scan) (bytes : List ℕ) → Left scan false 0 bytes
none_read scan bytes = record { same = zero (close_of scan false bytes) } where
  zero : (o : Option ℕ) → o ≡ plus 0 o
  zero None = refl
  zero (Some m) = ap (λ n. Some n) (omega arith)

at : (scan : Bool → ℕ → Scan) (marked : Bool) (i : ℕ) (bytes : List ℕ) (s : Scan) → i < length bytes → scan marked (get_or bytes i 0) ≡ s
    → close_of scan marked (drop i bytes) ≡ closed_by s (λ m. close_of scan m (drop (i + 1) bytes))
at scan marked i bytes s h e =
    let c : drop i bytes ≡ get_or bytes i 0 ∷ drop (suc i) bytes = drop-cons bytes i 0 h in
    let a : i + 1 ≡ suc i = omega arith in
    rw (a, ← e) (ap (close_of scan marked) c)

pub goes : (scan : Bool → ℕ → Scan) (marked next : Bool) (i : ℕ) (bytes : List ℕ) → i < length bytes → scan marked (get_or bytes i 0) ≡ Goes next → Left scan marked i bytes → Left scan next (i + 1) bytes
goes scan marked next i bytes h e l = record { same = l.same ∙ (ap (plus i) (at scan marked i bytes (Goes next) h e) ∙ plus_more i (close_of scan next (drop (i + 1) bytes))) }

pub closes : (scan : Bool → ℕ → Scan) (marked : Bool) (i : ℕ) (bytes : List ℕ) → i < length bytes → scan marked (get_or bytes i 0) ≡ Closes → Left scan marked i bytes → Some (i + 1) ≡ close_of scan false bytes
closes scan marked i bytes h e l = sym (l.same ∙ ap (plus i) (at scan marked i bytes Closes h e))

pub fails : (scan : Bool → ℕ → Scan) (marked : Bool) (i : ℕ) (bytes : List ℕ) → i < length bytes → scan marked (get_or bytes i 0) ≡ Fails → Left scan marked i bytes → ◌≡◌ {A = Option ℕ} None (close_of scan false bytes)
fails scan marked i bytes h e l = sym (l.same ∙ ap (plus i) (at scan marked i bytes Fails h e))

pub ends : (scan : Bool → ℕ → Scan) (marked : Bool) (bytes : List ℕ) → Left scan marked (length bytes) bytes → ◌≡◌ {A = Option ℕ} None (close_of scan false bytes)
ends scan marked bytes l = sym (l.same ∙ ap (λ x. plus (length bytes) (close_of scan marked x)) (drop-length bytes))

-- a byte more of a text is read: it ends an escape, begins one, or stands for itself
pub contents_more : (marked : Bool) (i : ℕ) (body : List ℕ) → i < length body
    → length (contents marked (drop i body)) ≡ cond (not marked && eqb (get_or body i 0) 92) 0 1 + length (contents (not marked && eqb (get_or body i 0) 92) (drop (i + 1) body))
contents_more marked i body h =
    let c : drop i body ≡ get_or body i 0 ∷ drop (suc i) body = drop-cons body i 0 h in
    let a : i + 1 ≡ suc i = omega arith in
    rw (a, c) (one marked (get_or body i 0) (drop (suc i) body))
  where
    one : (m : Bool) (b : ℕ) (rest : List ℕ) → length (contents m (b ∷ rest)) ≡ cond (not m && eqb b 92) 0 1 + length (contents (not m && eqb b 92) rest)
    one true b rest = omega arith
    one false b rest = elim (eqb b 92) as (λ t. length (cond t (contents true rest) (b ∷ contents false rest)) ≡ cond t 0 1 + length (contents t rest)) [ true ↦ omega arith | false ↦ omega arith ]
