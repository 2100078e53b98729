-- The number that a type gets.
use Rattle.std.proofs.Common.{◌≡◌, ℕ, ◌++◌, List, [], ◌∷◌, length, ℤ, Option, Some, None, Result, Ok, Err, IfOk, refl, sym, ap, ◌∙◌, subst}
use Rattle.tu_type_table.specs.declared.types.TypeForm.{TypeForm}
use Rattle.tu_type_table.specs.declared.types.TypeForm.TheVariants.{Int, Boolean, Subrange, Enumeration, String, SetOf, PointerTo, ArrayOf, Record, Union, Opaque}
use Rattle.tu_type_table.specs.declared.types.Row.{Row}
use Rattle.tu_type_table.specs.Types.{found_from, own_or, words_or, entered, with_parts, bare_of, seen, numbered}
use Rattle.tu_type_table.specs.Index.{key_of, number_from}
use Rattle.tu_type_table.proofs.Keys.{found_by_key}
use Rattle.tu_type_table.proofs.OneMore.{found_itself}

pub found_by_find : (types : List Row) (form : TypeForm) (key : List ℤ) (found : Option ℕ) → found ≡ number_from key 0 types → key ≡ key_of form → found_from types form 0 types ≡ found
found_by_find types form key found h e = found_by_key types form 0 types ∙ ap (λ (k : List ℤ). number_from k 0 types) (sym e) ∙ sym h

abbrev pub new_row : List Row → Option ℕ → TypeForm → (inside bare : Option ℕ) → Row
new_row types home form inside bare = record { form = form; home = home; inside = own_or types inside; bare = own_or types bare; words = words_or types form bare }

abbrev entered_by : Option ℕ → List Row → Row → List Row × ℕ
entered_by found types row = elim found [ Some n ↦ (types, n) | None ↦ (types ++ row ∷ [], length types) ]

entered_is : (types : List Row) (home : Option ℕ) (form : TypeForm) (inside bare : Option ℕ) → entered types home form inside bare ≡ entered_by (found_from types form 0 types) types (new_row types home form inside bare)
entered_is types home form inside bare = refl

pub entered_found : (types : List Row) (home : Option ℕ) (form : TypeForm) (inside bare : Option ℕ) (n : ℕ) → found_from types form 0 types ≡ Some n → entered types home form inside bare ≡ (types, n)
entered_found types home form inside bare n h = entered_is types home form inside bare ∙ ap (λ (o : Option ℕ). entered_by o types (new_row types home form inside bare)) h

pub entered_new : (types : List Row) (home : Option ℕ) (form : TypeForm) (inside bare : Option ℕ) → found_from types form 0 types ≡ None → entered types home form inside bare ≡ (types ++ new_row types home form inside bare ∷ [], length types)
entered_new types home form inside bare h = entered_is types home form inside bare ∙ ap (λ (o : Option ℕ). entered_by o types (new_row types home form inside bare)) h

abbrev IsFound : TypeForm → List Row × ℕ → Type 0
IsFound form p = found_from p.0 form 0 p.0 ≡ Some p.1

found_by_case : (types : List Row) (home : Option ℕ) (form : TypeForm) (inside bare found : Option ℕ) → found_from types form 0 types ≡ found → IsFound form (entered types home form inside bare)
found_by_case types home form inside bare (Some n) h = subst (IsFound form) (sym (entered_found types home form inside bare n h)) h
found_by_case types home form inside bare None h = subst (IsFound form) (sym (entered_new types home form inside bare h)) (found_itself types (new_row types home form inside bare) h)

found_after : (types : List Row) (home : Option ℕ) (form : TypeForm) (inside bare : Option ℕ) → IsFound form (entered types home form inside bare)
found_after types home form inside bare = found_by_case types home form inside bare (found_from types form 0 types) refl

abbrev after_inside : (home : Option ℕ) → TypeForm → (bare : ℕ) → List Row × ℕ → List Row × ℕ
after_inside home form bare q = entered q.0 home form (Some q.1) (Some bare)

abbrev after_bare : (home : Option ℕ) → (form inside : TypeForm) → List Row × ℕ → List Row × ℕ
after_bare home form inside q = after_inside home form q.1 (entered q.0 home inside None (Some q.1))

numbered_from : (t0 t1 t2 : List Row) (p : List Row × ℕ) (home : Option ℕ) (form bare inside : TypeForm) (b i : ℕ) → with_parts t0 (bare_of t0) form ≡ bare → with_parts t0 (seen t0 home) form ≡ inside → entered t0 home bare None None ≡ (t1, b) → entered t1 home inside None (Some b) ≡ (t2, i) → entered t2 home form (Some i) (Some b) ≡ p → numbered t0 home form ≡ p
numbered_from t0 t1 t2 p home form bare inside b i e1 e2 h1 h2 h3 =
    ap (λ (x : TypeForm). after_bare home form (with_parts t0 (seen t0 home) form) (entered t0 home x None None)) e1
    ∙ ap (λ (x : TypeForm). after_bare home form x (entered t0 home bare None None)) e2
    ∙ ap (after_bare home form inside) h1
    ∙ ap (after_inside home form b) h2
    ∙ h3

numbered_same : (types : List Row) (home : Option ℕ) (form : TypeForm) (p : List Row × ℕ) → ((new : ℕ → ℕ) → with_parts types new form ≡ form) → entered types home form None None ≡ p → numbered types home form ≡ p
numbered_same types home form p whole h =
    let found : IsFound form p = subst (IsFound form) h (found_after types home form None None) in
    numbered_from types p.0 p.0 p home form form form p.1 p.1 (whole (bare_of types)) (whole (seen types home)) h
    (entered_found p.0 home form None (Some p.1) p.1 found) (entered_found p.0 home form (Some p.1) (Some p.1) p.1 found)

whole_parts : (types : List Row) (form : TypeForm) → ((m : ℕ) → form ≡ SetOf m → ⊥) → ((ms : List ℕ) (m : ℕ) → form ≡ ArrayOf ms m → ⊥) → (new : ℕ → ℕ) → with_parts types new form ≡ form
whole_parts types Int no_set no_array new = refl
whole_parts types Boolean no_set no_array new = refl
whole_parts types (Subrange r a b) no_set no_array new = refl
whole_parts types (Enumeration m values) no_set no_array new = refl
whole_parts types (String m) no_set no_array new = refl
whole_parts types (PointerTo m) no_set no_array new = refl
whole_parts types (Record m fields) no_set no_array new = refl
whole_parts types (Union m tag_name tag variants) no_set no_array new = refl
whole_parts types (Opaque m) no_set no_array new = refl
whole_parts types (SetOf m) no_set no_array new = absurd (no_set m refl)
whole_parts types (ArrayOf ms m) no_set no_array new = absurd (no_array ms m refl)

-- a type that has no parts to be seen through
pub numbered_whole : {E : Type 0} (answer : Result ℕ E) (types after : List Row) (home : Option ℕ) (form : TypeForm) → ((m : ℕ) → form ≡ SetOf m → ⊥) → ((ms : List ℕ) (m : ℕ) → form ≡ ArrayOf ms m → ⊥) → IfOk answer (λ n. entered types home form None None ≡ (after, n)) → IfOk answer (λ n. numbered types home form ≡ (after, n))
numbered_whole (Ok n) types after home form no_set no_array h = numbered_same types home form (after, n) (whole_parts types form no_set no_array) h
numbered_whole (Err e) types after home form no_set no_array h = tt
