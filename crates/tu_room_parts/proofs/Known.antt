-- What is read of a table of words, and of one that is cut off.
use Rattle.std.specs.Prelude.{◌≡◌, ℕ, zero, suc, ◌+◌, ◌*◌, ◌<◌, ◌≤◌, max, List, [], ◌∷◌, ◌++◌, map, fold, length, drop, take, slice_get, slice_index, sum_by, Some, None}
use Rattle.std.proofs.Common.{arith, ap, sym, ◌∙◌, get_or, refl, ◌⊎◌, inl, inr}
use Rattle.std.proofs.Math.ListN.{get_or-map}
use Rattle.std.proofs.Math.Nat.{mul_comm, mul_assoc}
use Rattle.std.proofs.lemmas.Bool.{cases_lt}
use Rattle.std.proofs.lemmas.List.Sums.{sum_by_more}
use Rattle.std.proofs.lemmas.List.{drop_more, at_drop_all, take_more, take_all, map-append}
use Rattle.std.proofs.lemmas.Option.{get_or_from_slice_get}
use Rattle.tu_base.specs.declared.shape.Span.{Span}
use Rattle.tu_base.specs.declared.shape.Variant.{Variant}
use Rattle.tu_base.specs.declared.shape.Shape.{Shape}
use Rattle.tu_base.specs.declared.shape.Shape.TheVariants.{Scalar, Text, Set, Pointer, Array, Record, Union}
use Rattle.tu_base.specs.Shapes.{span_length, elements, field_words, largest, words_of, table_behind, all_words}
use Rattle.tu_room_parts.specs.declared.capped.TheConstants.{MOST_ROOM}
use Rattle.tu_room_parts.specs.Capped.{capped}

pub is_there : (xs : List ℕ) (k n : ℕ) → slice_get xs k ≡ Some n → n ≡ slice_index xs k
is_there xs k n e = sym (get_or_from_slice_get xs k n 0 e)

pub is_past : (xs : List ℕ) (k : ℕ) → slice_get xs k ≡ None → 0 ≡ slice_index xs k
is_past [] k e = refl
is_past (x ∷ xs) zero e = grind (arith, e)
is_past (x ∷ xs) (suc k) e = is_past xs k e

-- products
over_most : (a b : ℕ) → MOST_ROOM ≤ a → capped (MOST_ROOM * b) ≡ capped (a * b)
over_most a zero le = omega arith
over_most a (suc b) le = omega (arith, over_most a b le)

within_cases : (a b : ℕ) → (a < MOST_ROOM) ⊎ (MOST_ROOM ≤ a) → capped (capped a * b) ≡ capped (a * b)
within_cases a b (inl lt) =
    let same : capped a ≡ a = omega (arith, lt) in
    ap (λ n. capped (n * b)) same
within_cases a b (inr le) =
    let most : capped a ≡ MOST_ROOM = omega (arith, le) in
    ap (λ n. capped (n * b)) most ∙ over_most a b le

pub product_within : (a b : ℕ) → capped (capped a * b) ≡ capped (a * b)
product_within a b = within_cases a b (cases_lt a MOST_ROOM)

pub product_capped : (a b : ℕ) → capped (a * capped b) ≡ capped (a * b)
product_capped a b = ap capped (mul_comm a (capped b)) ∙ product_within b a ∙ ap capped (mul_comm b a)

-- the spans before the k-th were multiplied
pub record Multiplied (xs : List Span) (k product : ℕ) : Type 0 where
  pub is : capped (product * elements (drop k xs)) ≡ capped (elements xs)
  pub low : product ≤ MOST_ROOM

pub multiplied_one : (xs : List Span) → Multiplied xs 0 1
multiplied_one xs = record { is = omega arith; low = omega arith }

pub multiplied_more : (xs : List Span) (k product new : ℕ) (d : Span) → Multiplied xs k product → k < length xs → new ≡ capped (product * span_length (get_or xs k d)) → Multiplied xs (k + 1) new
multiplied_more xs k product new d before lt o =
    let rest = drop_more xs k d lt in
    let len = span_length (get_or xs k d) in
    let more = elements (drop (k + 1) xs) in
    let step : capped (new * more) ≡ capped (product * elements (drop k xs)) = ap (λ n. capped (n * more)) o ∙ product_within (product * len) more ∙ ap capped (mul_assoc product len more) ∙ ap (λ z. capped (product * elements z)) (sym rest) in
    record { is = step ∙ before.is; low = omega (arith, o) }

pub multiplied_all : (xs : List Span) (k product : ℕ) → Multiplied xs k product → length xs ≤ k → product ≡ capped (elements xs)
multiplied_all xs k product before le =
    let last : product * elements (drop k xs) ≡ product * 1 = ap (λ n. product * n) (at_drop_all elements xs k le) in
    omega (arith, before.is, before.low, last)

-- the variants before the k-th were compared
pub largest_more : (known : List ℕ) (xs : List Variant) (k most new : ℕ) (v : Variant) → max most (capped (largest known (drop k xs))) ≡ capped (largest known xs) → k < length xs → v ≡ get_or xs k v → new ≡ max most (capped (field_words known v.fields)) → max new (capped (largest known (drop (k + 1) xs))) ≡ capped (largest known xs)
largest_more known xs k most new v before lt e o =
    let rest : drop k xs ≡ v ∷ drop (k + 1) xs = drop_more xs k v lt ∙ ap (λ z. z ∷ drop (k + 1) xs) (sym e) in
    let step : largest known (drop k xs) ≡ max (field_words known v.fields) (largest known (drop (k + 1) xs)) = ap (largest known) rest in
    omega (arith, before, o, step)

pub largest_all : (known : List ℕ) (xs : List Variant) (k most : ℕ) → max most (capped (largest known (drop k xs))) ≡ capped (largest known xs) → length xs ≤ k → most ≡ capped (largest known xs)
largest_all known xs k most before le = omega (arith, before, at_drop_all (largest known) xs k le)

-- sums over the first k elements of a list, cut off
pub sum_more : {A : Type 0} (f : A → ℕ) (xs : List A) (k sum new : ℕ) (x : A) → sum ≡ capped (sum_by f (take k xs)) → k < length xs → x ≡ get_or xs k x → new ≡ capped (sum + f x) → new ≡ capped (sum_by f (take (k + 1) xs))
sum_more f xs k sum new x before lt e o = omega (arith, before, o, sum_by_more f xs k x lt, ap f e)

pub sum_all : {A : Type 0} (f : A → ℕ) (xs : List A) (k sum : ℕ) → sum ≡ capped (sum_by f (take k xs)) → length xs ≤ k → sum ≡ capped (sum_by f xs)
sum_all f xs k sum before le = before ∙ ap (λ z. capped (sum_by f z)) (take_all k xs le)

-- What a table that is cut off gives is cut off too.
pub known_capped : (known : List ℕ) (k : ℕ) → slice_index (map capped known) k ≡ capped (slice_index known k)
known_capped known k = get_or-map capped known k 0

pub known_again : (known : List ℕ) (k : ℕ) → capped (slice_index (map capped known) k) ≡ capped (slice_index known k)
known_again known k = omega (arith, known_capped known k)

fold_capped : {A : Type 0} (f g : A → ℕ) → ((x : A) → capped (g x) ≡ capped (f x)) → (xs : List A) (a b : ℕ) → capped a ≡ capped b → capped (fold (λ n x. n + g x) a xs) ≡ capped (fold (λ n x. n + f x) b xs)
fold_capped f g same [] a b e = e
fold_capped f g same (x ∷ xs) a b e = fold_capped f g same xs (a + g x) (b + f x) (omega (arith, e, same x))

pub sum_capped : {A : Type 0} (f g : A → ℕ) → ((x : A) → capped (g x) ≡ capped (f x)) → (xs : List A) → capped (sum_by g xs) ≡ capped (sum_by f xs)
sum_capped f g same xs = fold_capped f g same xs 0 0 refl

largest_capped : (known : List ℕ) (xs : List Variant) → capped (largest (map capped known) xs) ≡ capped (largest known xs)
largest_capped known [] = refl
largest_capped known (v ∷ xs) = omega (arith, largest_capped known xs, sum_capped (slice_index known) (slice_index (map capped known)) (known_again known) v.fields)

pub words_capped : (known : List ℕ) (s : Shape) → capped (words_of (map capped known) s) ≡ capped (words_of known s)
words_capped known (Scalar s) = refl
words_capped known (Text most) = refl
words_capped known (Set low members) = refl
words_capped known (Pointer collection) = refl
words_capped known (Array indexes component) = ap (λ n. capped (elements indexes * n)) (known_capped known component) ∙ product_capped (elements indexes) (slice_index known component)
words_capped known (Record fields) = sum_capped (slice_index known) (slice_index (map capped known)) (known_again known) fields
words_capped known (Union tag variants) = omega (arith, largest_capped known variants)

-- the table of a list with one more shape
behind_more : (known : List ℕ) (xs : List Shape) (s : Shape) → table_behind words_of known (xs ++ s ∷ []) ≡ table_behind words_of known xs ++ words_of (table_behind words_of known xs) s ∷ []
behind_more known [] s = refl
behind_more known (x ∷ xs) s = behind_more (known ++ words_of known x ∷ []) xs s

-- the words of the first k shapes
pub words_more : (xs : List Shape) (k : ℕ) (known new : List ℕ) (n : ℕ) (s : Shape) → known ≡ map capped (all_words (take k xs)) → k < length xs → s ≡ get_or xs k s → n ≡ capped (words_of known s) → new ≡ known ++ n ∷ [] → new ≡ map capped (all_words (take (k + 1) xs))
words_more xs k known new n s before lt e o is =
    let before_it = all_words (take k xs) in
    let item : n ≡ capped (words_of before_it s) = o ∙ ap (λ z. capped (words_of z s)) before ∙ words_capped before_it s in
    let longer : take (k + 1) xs ≡ take k xs ++ s ∷ [] = take_more xs k s lt ∙ ap (λ z. take k xs ++ z ∷ []) (sym e) in
    is ∙ ap (λ z. z ++ n ∷ []) before ∙ ap (λ z. map capped before_it ++ z ∷ []) item ∙ sym (map-append capped before_it (words_of before_it s ∷ [])) ∙ ap (map capped) (sym (behind_more [] (take k xs) s)) ∙ ap (λ z. map capped (all_words z)) (sym longer)

pub words_all : (xs : List Shape) (k : ℕ) (known : List ℕ) → known ≡ map capped (all_words (take k xs)) → length xs ≤ k → known ≡ map capped (all_words xs)
words_all xs k known before le = before ∙ ap (λ z. map capped (all_words z)) (take_all k xs le)
