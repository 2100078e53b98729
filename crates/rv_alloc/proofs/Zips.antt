-- Two lists side by side.
use Rattle.std.proofs.Common.{◌≡◌, ℕ, zero, suc, ◌+◌, ◌<◌, List, [], ◌∷◌, ◌++◌, length, take, get_or, sym, ap, ◌∙◌, subst, arith}
use Rattle.std.specs.List.{AllZip}
use Rattle.std.proofs.lemmas.List.{take_more}

module _ {A B : Type 0} (R : A → B → Type 0) where
  zip_push : (xs : List A) (ys : List B) (x : A) (y : B) → AllZip R xs ys → R x y → AllZip R (xs ++ x ∷ []) (ys ++ y ∷ [])
  zip_push [] [] x y h r = (r, tt)
  zip_push [] (b ∷ ys) x y h r = absurd h
  zip_push (a ∷ xs) [] x y h r = absurd h
  zip_push (a ∷ xs) (b ∷ ys) x y h r = (h.0, zip_push xs ys x y h.1 r)

  zip_get : (xs : List A) (ys : List B) (i : ℕ) (d : A) (e : B) → AllZip R xs ys → i < length xs → R (get_or xs i d) (get_or ys i e)
  zip_get [] ys i d e h l = absurd (omega arith)
  zip_get (a ∷ xs) [] i d e h l = absurd h
  zip_get (a ∷ xs) (b ∷ ys) zero d e h l = h.0
  zip_get (a ∷ xs) (b ∷ ys) (suc i) d e h l = zip_get xs ys i d e h.1 (omega arith)

  -- one more of both lists
  pub zip_more : (xs : List A) (ys : List B) (i : ℕ) (x : A) (y : B) → i < length xs → i < length ys → x ≡ get_or xs i x → y ≡ get_or ys i y
      → AllZip R (take i xs) (take i ys) → R x y → AllZip R (take (i + 1) xs) (take (i + 1) ys)
  zip_more xs ys i x y l m e f h r =
      subst (λ z. AllZip R z (take (i + 1) ys)) (sym (take_more xs i x l ∙ ap (λ z. take i xs ++ z ∷ []) (sym e)))
      (subst (λ z. AllZip R (take i xs ++ x ∷ []) z) (sym (take_more ys i y m ∙ ap (λ z. take i ys ++ z ∷ []) (sym f))) (zip_push (take i xs) (take i ys) x y h r))

  -- one more of the first list, where the second is made
  pub zip_made : (xs : List A) (ys after : List B) (i : ℕ) (x : A) (y : B) → i < length xs → x ≡ get_or xs i x → after ≡ ys ++ y ∷ [] → AllZip R (take i xs) ys → R x y → AllZip R (take (i + 1) xs) after
  zip_made xs ys after i x y l e f h r =
      subst (λ z. AllZip R z after) (sym (take_more xs i x l ∙ ap (λ z. take i xs ++ z ∷ []) (sym e))) (subst (AllZip R (take i xs ++ x ∷ [])) (sym f) (zip_push (take i xs) ys x y h r))

  pub zip_at : (xs : List A) (ys : List B) (i : ℕ) (x : A) (y : B) → i < length xs → x ≡ get_or xs i x → y ≡ get_or ys i y → AllZip R xs ys → R x y
  zip_at xs ys i x y l e f h = subst (λ z. R z y) (sym e) (subst (R (get_or xs i x)) (sym f) (zip_get xs ys i x y h l))

  pub zip_length : (xs : List A) (ys : List B) → AllZip R xs ys → length xs ≡ length ys
  zip_length [] [] h = omega arith
  zip_length [] (b ∷ ys) h = absurd h
  zip_length (a ∷ xs) [] h = absurd h
  zip_length (a ∷ xs) (b ∷ ys) h = ap suc (zip_length xs ys h.1)
