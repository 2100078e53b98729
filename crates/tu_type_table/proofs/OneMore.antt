-- A table with one more row, and its index.
use Rattle.std.proofs.Common.{◌≡◌, ℕ, zero, suc, ◌+◌, Bool, true, false, cond, List, [], ◌∷◌, ◌++◌, length, ℤ, Option, Some, None, Vec, if◌then◌else◌, refl, sym, ap, ◌∙◌, arith}
use Rattle.std.specs.declared.alloc.Global.{Global}
use Rattle.std.specs.declared.cmp.Ordering.{Ordering}
use Rattle.std.specs.declared.cmp.Ordering.TheVariants.{Less, Equal, Greater}
use Rattle.std.specs.Ordering.{is_eq, int_cmp, match_ordering, ordering_reverse}
use Rattle.std.specs.Cmp.{int_cmp_total}
use Rattle.std.specs.Cmp.Lexicographic.{slice_cmp, lists_total}
use Rattle.std.specs.BTreeMap.{insert_entry}
use Rattle.std.specs.Map.{lookup}
use Rattle.tu_type_table.specs.declared.types.Row.{Row}
use Rattle.tu_type_table.specs.Types.{no_row, row_at, found_from}
use Rattle.tu_type_table.specs.Index.{key_of, is_key, number_from, IsSmall, IsTable}
use Rattle.tu_type_table.proofs.Keys.{found_by_key}

small_push : (types : List Row) (row : Row) → ((n : ℕ) → IsSmall (row_at types n).form) → IsSmall row.form → (n : ℕ) → IsSmall (row_at (types ++ row ∷ []) n).form
small_push [] row h s zero = s
small_push [] row h s (suc n) = h zero
small_push (x ∷ xs) row h s zero = h zero
small_push (x ∷ xs) row h s (suc n) = small_push xs row (λ k. h (suc k)) s n

pub table_push : (types : List Row) (row : Row) → IsTable types → IsSmall row.form → IsTable (types ++ row ∷ [])
table_push [] row h s = absurd (let e = h.begins in cc)
table_push (x ∷ xs) row h s = record { begins = h.begins; small = small_push (x ∷ xs) row h.small s }

pub table_first : IsTable (no_row ∷ [])
table_first = record { begins = refl; small = small_push [] no_row (λ n. omega arith) (omega arith) }

abbrev first_or : Option ℕ → Option ℕ → Option ℕ
first_or (Some n) other = Some n
first_or None other = other

pushed : (b : Bool) (n : ℕ) (s t last : Option ℕ) → t ≡ first_or s last → (if b then Some n else t) ≡ first_or (if b then Some n else s) last
pushed true n s t last h = refl
pushed false n s t last h = h

number_push : (key : List ℤ) (n k : ℕ) (types : List Row) (row : Row) → k ≡ n + length types → number_from key n (types ++ row ∷ []) ≡ first_or (number_from key n types) (if is_key key (key_of row.form) then Some k else None)
number_push key n k [] row h = let e : n ≡ k = omega arith in ap (λ (m : ℕ). if is_key key (key_of row.form) then Some m else None) e
number_push key n k (x ∷ xs) row h = pushed (is_key key (key_of x.form)) n (number_from key (suc n) xs) (number_from key (suc n) (xs ++ row ∷ [])) _ (number_push key (suc n) k xs row (omega arith))

same_order : (a b c : List ℤ) → slice_cmp int_cmp a b ≡ Equal → slice_cmp int_cmp a c ≡ slice_cmp int_cmp b c
same_order = (lists_total int_cmp_total).congr

equal_of : (o : Ordering) → is_eq o ≡ true → o ≡ Equal
equal_of Less h = cc
equal_of Equal h = refl
equal_of Greater h = cc

number_same : (a b : List ℤ) (n : ℕ) (types : List Row) → slice_cmp int_cmp a b ≡ Equal → number_from a n types ≡ number_from b n types
number_same a b n [] h = refl
number_same a b n (x ∷ xs) h = λ i. if is_eq (same_order a b (key_of x.form) h i) then Some n else number_same a b (suc n) xs h i

symmetric : (o : Ordering) → o ≡ ordering_reverse o → is_eq o ≡ true
symmetric Less h = cc
symmetric Equal h = refl
symmetric Greater h = cc

is_key_itself : (key : List ℤ) → is_key key key ≡ true
is_key_itself key = symmetric (slice_cmp int_cmp key key) ((lists_total int_cmp_total).antisymm key key)

abbrev Key : Type 0
Key = Vec ℤ Global

-- an entry that is put before others, or behind a smaller one
abbrev Inserted : (q : List ℤ) (k : Key) (v : ℕ) (es new : List (Key × ℕ)) → Type 0
Inserted q k v es new = lookup (λ (x : Key). is_key q x.items) new ≡ cond (is_key q k.items) (Some v) (lookup (λ (x : Key). is_key q x.items) es)

apart : (b c : Bool) (x y : ℕ) (o : Option ℕ) → (c ≡ true → b ≡ false) → cond b (Some x) (cond c (Some y) o) ≡ cond c (Some y) (cond b (Some x) o)
apart true true x y o h = let e = h refl in cc
apart true false x y o h = refl
apart false c x y o h = refl

greater_apart : (q k e : List ℤ) → slice_cmp int_cmp k e ≡ Greater → is_key q k ≡ true → is_key q e ≡ false
greater_apart q k e g h = ap is_eq (same_order q k e (equal_of _ h) ∙ g)

none_here : {P : Type 0} (b : Bool) (x : ℕ) (o : Option ℕ) → b ≡ true → cond b (Some x) o ≡ None → P
none_here true x o e h = absurd cc
none_here false x o e h = absurd cc

none_behind : (b : Bool) (x : ℕ) (o : Option ℕ) → b ≡ false → cond b (Some x) o ≡ None → o ≡ None
none_behind true x o e h = cc
none_behind false x o e h = h

abbrev by_items : Key → Key → Ordering
by_items x y = slice_cmp int_cmp x.items y.items

put_by : (q : List ℤ) (k : Key) (v : ℕ) (e : Key × ℕ) (es : List (Key × ℕ)) (o : Ordering) → by_items k e.0 ≡ o → cond (is_eq (by_items k e.0)) (Some e.1) (lookup (λ (x : Key). is_key k.items x.items) es) ≡ None → (lookup (λ (x : Key). is_key k.items x.items) es ≡ None → Inserted q k v es (insert_entry by_items es k v)) → Inserted q k v (e ∷ es) (match_ordering o ((k, v) ∷ e ∷ es) ((e.0, v) ∷ es) (e ∷ insert_entry by_items es k v))
put_by q k v e es Less c h more = refl
put_by q k v e es Equal c h more = none_here (is_eq (by_items k e.0)) e.1 (lookup (λ (x : Key). is_key k.items x.items) es) (ap is_eq c) h
put_by q k v e es Greater c h more =
    ap (λ (o : Option ℕ). cond (is_key q e.0.items) (Some e.1) o) (more (none_behind (is_eq (by_items k e.0)) e.1 (lookup (λ (x : Key). is_key k.items x.items) es) (ap is_eq c) h))
    ∙ apart (is_key q e.0.items) (is_key q k.items) e.1 v (lookup (λ (x : Key). is_key q x.items) es) (greater_apart q k.items e.0.items c)

lookup_insert : (q : List ℤ) (k : Key) (v : ℕ) (es : List (Key × ℕ)) → lookup (λ (x : Key). is_key k.items x.items) es ≡ None → Inserted q k v es (insert_entry by_items es k v)
lookup_insert q k v [] h = refl
lookup_insert q k v (e ∷ es) h = put_by q k v e es (by_items k e.0) refl h (lookup_insert q k v es)

last_or : (b : Bool) (s : Option ℕ) (v : ℕ) → (b ≡ true → s ≡ None) → cond b (Some v) s ≡ first_or s (if b then Some v else None)
last_or true s v h = ap (λ (o : Option ℕ). first_or o (Some v)) (sym (h refl))
last_or false (Some n) v h = refl
last_or false None v h = refl

pub index_put : (types : List Row) (row : Row) (k : Key) (v : ℕ) (es new : List (Key × ℕ)) → ((q : List ℤ) → lookup (λ (x : Key). is_key q x.items) es ≡ number_from q 0 types) → new ≡ insert_entry by_items es k v → k.items ≡ key_of row.form → number_from k.items 0 types ≡ None → v ≡ length types → (q : List ℤ) → lookup (λ (x : Key). is_key q x.items) new ≡ number_from q 0 (types ++ row ∷ [])
index_put types row k v es new tied is keyed is_new at q =
    ap (λ (xs : List (Key × ℕ)). lookup (λ (x : Key). is_key q x.items) xs) is
    ∙ lookup_insert q k v es (tied k.items ∙ is_new)
    ∙ ap (λ (s : Option ℕ). cond (is_key q k.items) (Some v) s) (tied q)
    ∙ last_or (is_key q k.items) (number_from q 0 types) v (λ t. number_same q k.items 0 types (equal_of _ t) ∙ is_new)
    ∙ ap (λ (key : List ℤ). first_or (number_from q 0 types) (if is_key q key then Some v else None)) keyed
    ∙ sym (number_push q 0 v types row (omega arith))

pub found_itself : (types : List Row) (row : Row) → found_from types row.form 0 types ≡ None → found_from (types ++ row ∷ []) row.form 0 (types ++ row ∷ []) ≡ Some (length types)
found_itself types row h =
    let key = key_of row.form in
    let none : number_from key 0 types ≡ None = sym (found_by_key types row.form 0 types) ∙ h in
    found_by_key (types ++ row ∷ []) row.form 0 (types ++ row ∷ [])
    ∙ number_push key 0 (length types) types row (omega arith)
    ∙ (λ i. first_or (none i) (if is_key_itself key i then Some (length types) else None))
