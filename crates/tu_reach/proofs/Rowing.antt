-- Rows that grow.
use Rattle.std.proofs.Common.{◌≡◌, ap, ℕ, ◌<◌, List, [], ◌∷◌, ◌++◌, length, get_or, set, refl, sym, ◌∙◌, subst, arith, inl, inr, ⊎_elim, get_or-set_same, get_or-set_other}
use Rattle.std.proofs.lemmas.Bool.{cases_eq}
use Rattle.std.proofs.lemmas.List.{get_or_default}
use Rattle.std.proofs.lemmas.List.Elements.{Contains-push, Contains-push_cases, Contains-append_left, All-weaker, All-contains_itself}
use Rattle.std.specs.List.{All, Contains}
use Rattle.tu_reach.specs.Rows.{RowsOf, row, HasNumber, HasOneMore, IsExtended}

pub extended_none : (rows : List (List ℕ)) → IsExtended rows rows
extended_none rows = record { same = λ k. refl; long = omega arith }

pub one_more : (old g : List (List ℕ)) (k a : ℕ) → IsExtended old g → k < length g → HasOneMore old (set g k (row g k ++ a ∷ [])) k a
one_more old g k a h lt =
    let new = set g k (row g k ++ a ∷ []) in
    let same : row new k ≡ row g k ++ a ∷ [] = get_or-set_same g k (row g k ++ a ∷ []) [] lt in
    let other = λ (l : ℕ) (n : l ≡ k → ⊥). get_or-set_other g k l (row g k ++ a ∷ []) [] n in
    record {
      added = subst (λ r. Contains r a) (sym same) (Contains-push (row g k) a);
      kept = λ l b m. let m' : HasNumber g l b = subst (λ r. Contains r b) (sym (h.same l)) m in ⊎_elim
          (λ (e : l ≡ k). subst (λ x. HasNumber new x b) (sym e)
          (subst (λ r. Contains r b) (sym same) (Contains-append_left (row g k) (a ∷ []) b (subst (λ x. HasNumber g x b) e m'))))
          (λ (n : l ≡ k → ⊥). subst (λ r. Contains r b) (sym (other l n)) m')
          (cases_eq l k);
      only = λ l b m. ⊎_elim
          (λ (e : l ≡ k). ⊎_elim
          (λ i. inl (subst (λ r. Contains r b) (h.same l) (subst (λ x. HasNumber g x b) (sym e) i)))
          (λ (f : a ≡ b). inr (e, sym f))
          (Contains-push_cases (row g k) a b (subst (λ r. Contains r b) same (subst (λ x. HasNumber new x b) e m))))
          (λ (n : l ≡ k → ⊥). inl (subst (λ r. Contains r b) (h.same l) (subst (λ r. Contains r b) (other l n) m)))
          (cases_eq l k);
    }

-- the numbers of a row are below what all are below
pub row_below : (rows : List (List ℕ)) (n : ℕ) → ((k a : ℕ) → HasNumber rows k a → a < n) → (k : ℕ) → All (λ a. a < n) (row rows k)
row_below rows n below k = All-weaker (Contains (row rows k)) (λ a. a < n) (λ a h. below k a h) (row rows k) (All-contains_itself (row rows k))

pub below_view : (v : RowsOf) (rows : List (List ℕ)) (n : ℕ) → ◌≡◌ {A = RowsOf} (record { texts = n; rows = rows }) v → ((k a : ℕ) → HasNumber rows k a → a < n) →
    (k : ℕ) (r : List ℕ) → r ≡ row v.rows k → All (λ a. a < v.texts) r
below_view v rows n e below k r is =
    subst (λ (w : RowsOf). All (λ a. a < w.texts) r) e
    (subst (λ ys. All (λ a. a < n) ys) (sym (is ∙ ap (λ (w : RowsOf). row w.rows k) (sym e))) (row_below rows n below k))

-- One more number below that bound keeps all below it.
pub below_one_more : (old new : List (List ℕ)) (n k a : ℕ) → ((l b : ℕ) → HasNumber old l b → b < n) → a < n → HasOneMore old new k a → (l b : ℕ) → HasNumber new l b → b < n
below_one_more old new n k a below lt h l b is = ⊎_elim (λ o. below l b o) (λ (e, f). subst (λ x. x < n) (sym f) lt) (h.only l b is)

pub below_extended : (old new : List (List ℕ)) (n : ℕ) → ((l b : ℕ) → HasNumber old l b → b < n) → IsExtended old new → (l b : ℕ) → HasNumber new l b → b < n
below_extended old new n below h l b is = below l b (subst (λ r. Contains r b) (h.same l) is)

-- A row that is put back leaves all as it was.
put_back : (g : List (List ℕ)) (k : ℕ) (x : List ℕ) → k < length g → x ≡ get_or g k x → (l : ℕ) → row (set g k x) l ≡ row g l
put_back g k x lt is l = ⊎_elim
    (λ (e : l ≡ k). subst (λ m. row (set g k x) m ≡ row g m) (sym e) (get_or-set_same g k x [] lt ∙ is ∙ get_or_default g k x [] lt))
    (λ (n : l ≡ k → ⊥). get_or-set_other g k l x [] n)
    (cases_eq l k)

pub below_put_back : (old g : List (List ℕ)) (n k : ℕ) (x y : List ℕ) → ((l b : ℕ) → HasNumber old l b → b < n) → IsExtended old g → k < length g → x ≡ get_or g k x → y ≡ x →
    (l b : ℕ) → HasNumber (set g k y) l b → b < n
below_put_back old g n k x y below h lt is e l b m =
    below_extended old g n below h l b (subst (λ r. Contains r b) (put_back g k x lt is l) (subst (λ z. HasNumber (set g k z) l b) e m))

pub added_row : (old g : List (List ℕ)) (k a : ℕ) (x y : List ℕ) → IsExtended old g → k < length g → x ≡ get_or g k x → y ≡ x ++ a ∷ [] → HasOneMore old (set g k y) k a
added_row old g k a x y h lt is e =
    subst (λ z. HasOneMore old (set g k z) k a) (sym (e ∙ ap (λ r. r ++ a ∷ []) (is ∙ get_or_default g k x [] lt))) (one_more old g k a h lt)
