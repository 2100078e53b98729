-- Types are the same where their keys are equal.
use Rattle.std.proofs.Common.{◌≡◌, ℕ, suc, Bool, true, false, ◌&&◌, ◌==◌, List, [], ◌∷◌, map, ℤ, pos, negsuc, Option, Some, if◌then◌else◌, refl, sym, ◌∙◌, arith}
use Rattle.std.specs.declared.cmp.Ordering.{Ordering}
use Rattle.std.specs.declared.cmp.Ordering.TheVariants.{Less, Equal, Greater}
use Rattle.std.specs.Ordering.{is_eq, int_cmp, ordering_then}
use Rattle.std.proofs.lemmas.Bool.Decides.{nat_tests}
use Rattle.tu_base.specs.Scalars.{are_equal}
use Rattle.tu_type_table.specs.declared.types.TypeForm.{TypeForm}
use Rattle.tu_type_table.specs.declared.types.TypeForm.TheVariants.{Int, Boolean, Subrange, Enumeration, String, SetOf, PointerTo, ArrayOf, Record, Union, Opaque}
use Rattle.tu_type_table.specs.declared.types.Row.{Row}
use Rattle.tu_type_table.specs.Types.{are_same, are_same_numbers, found_from}
use Rattle.tu_type_table.specs.Index.{key_of, is_key, number_from}

both_parts : (o p : Ordering) → is_eq (ordering_then o p) ≡ (is_eq o && is_eq p)
both_parts Less p = refl
both_parts Equal p = refl
both_parts Greater p = refl

and_true : (b : Bool) → (b && true) ≡ b
and_true true = refl
and_true false = refl

order_number : (m n : ℕ) → is_eq (int_cmp (pos m) (pos n)) ≡ are_equal (pos m) (pos n)
order_number m n = grind (arith, nat_tests)

same_int : (a b : ℤ) → is_eq (int_cmp a b) ≡ are_equal a b
same_int (pos m) (pos n) = order_number m n
same_int (pos m) (negsuc n) = refl
same_int (negsuc m) (pos n) = refl
same_int (negsuc m) (negsuc n) = grind (arith, nat_tests)

same_number : (m n : ℕ) → is_eq (int_cmp (pos m) (pos n)) ≡ (m == n)
same_number m n = grind (arith, nat_tests)

key_of_one : (m n : ℕ) → is_eq (ordering_then (int_cmp (pos m) (pos n)) Equal) ≡ (m == n)
key_of_one m n = both_parts (int_cmp (pos m) (pos n)) Equal ∙ and_true _ ∙ same_number m n

key_of_range : (r s : ℕ) (a b c d : ℤ) → is_key (pos r ∷ a ∷ b ∷ []) (pos s ∷ c ∷ d ∷ []) ≡ ((r == s) && (are_equal a c && are_equal b d))
key_of_range r s a b c d =
    both_parts (int_cmp (pos r) (pos s)) _
    ∙ (λ i. same_number r s i && (both_parts (int_cmp a c) (ordering_then (int_cmp b d) Equal) ∙ (λ j. same_int a c j && (both_parts (int_cmp b d) Equal ∙ and_true _ ∙ same_int b d) j)) i)

key_of_numbers : (is js : List ℕ) → is_key (map pos is) (map pos js) ≡ are_same_numbers is js
key_of_numbers [] [] = refl
key_of_numbers [] (y ∷ ys) = refl
key_of_numbers (x ∷ xs) [] = refl
key_of_numbers (x ∷ xs) (y ∷ ys) = both_parts (int_cmp (pos x) (pos y)) _ ∙ (λ i. same_number x y i && key_of_numbers xs ys i)

swapped : (a b : Bool) → (a && b) ≡ (b && a)
swapped true true = refl
swapped true false = refl
swapped false true = refl
swapped false false = refl

key_of_array : (is js : List ℕ) (m n : ℕ) → is_key (pos m ∷ map pos is) (pos n ∷ map pos js) ≡ (are_same_numbers is js && (m == n))
key_of_array is js m n = both_parts (int_cmp (pos m) (pos n)) _ ∙ (λ i. same_number m n i && key_of_numbers is js i) ∙ swapped (m == n) (are_same_numbers is js)

pub same_by_key : (x y : TypeForm) → are_same x y ≡ is_key (key_of x) (key_of y)
same_by_key Int Int = refl
same_by_key Int Boolean = refl
same_by_key Int (Subrange s c d) = refl
same_by_key Int (Enumeration n others) = refl
same_by_key Int (String n) = refl
same_by_key Int (SetOf n) = refl
same_by_key Int (PointerTo n) = refl
same_by_key Int (ArrayOf js n) = refl
same_by_key Int (Record n others) = refl
same_by_key Int (Union n other_name other others) = refl
same_by_key Int (Opaque n) = refl
same_by_key Boolean Int = refl
same_by_key Boolean Boolean = refl
same_by_key Boolean (Subrange s c d) = refl
same_by_key Boolean (Enumeration n others) = refl
same_by_key Boolean (String n) = refl
same_by_key Boolean (SetOf n) = refl
same_by_key Boolean (PointerTo n) = refl
same_by_key Boolean (ArrayOf js n) = refl
same_by_key Boolean (Record n others) = refl
same_by_key Boolean (Union n other_name other others) = refl
same_by_key Boolean (Opaque n) = refl
same_by_key (Subrange r a b) Int = refl
same_by_key (Subrange r a b) Boolean = refl
same_by_key (Subrange r a b) (Subrange s c d) = sym (key_of_range r s a b c d)
same_by_key (Subrange r a b) (Enumeration n others) = refl
same_by_key (Subrange r a b) (String n) = refl
same_by_key (Subrange r a b) (SetOf n) = refl
same_by_key (Subrange r a b) (PointerTo n) = refl
same_by_key (Subrange r a b) (ArrayOf js n) = refl
same_by_key (Subrange r a b) (Record n others) = refl
same_by_key (Subrange r a b) (Union n other_name other others) = refl
same_by_key (Subrange r a b) (Opaque n) = refl
same_by_key (Enumeration m values) Int = refl
same_by_key (Enumeration m values) Boolean = refl
same_by_key (Enumeration m values) (Subrange s c d) = refl
same_by_key (Enumeration m values) (Enumeration n others) = sym (key_of_one m n)
same_by_key (Enumeration m values) (String n) = refl
same_by_key (Enumeration m values) (SetOf n) = refl
same_by_key (Enumeration m values) (PointerTo n) = refl
same_by_key (Enumeration m values) (ArrayOf js n) = refl
same_by_key (Enumeration m values) (Record n others) = refl
same_by_key (Enumeration m values) (Union n other_name other others) = refl
same_by_key (Enumeration m values) (Opaque n) = refl
same_by_key (String m) Int = refl
same_by_key (String m) Boolean = refl
same_by_key (String m) (Subrange s c d) = refl
same_by_key (String m) (Enumeration n others) = refl
same_by_key (String m) (String n) = sym (key_of_one m n)
same_by_key (String m) (SetOf n) = refl
same_by_key (String m) (PointerTo n) = refl
same_by_key (String m) (ArrayOf js n) = refl
same_by_key (String m) (Record n others) = refl
same_by_key (String m) (Union n other_name other others) = refl
same_by_key (String m) (Opaque n) = refl
same_by_key (SetOf m) Int = refl
same_by_key (SetOf m) Boolean = refl
same_by_key (SetOf m) (Subrange s c d) = refl
same_by_key (SetOf m) (Enumeration n others) = refl
same_by_key (SetOf m) (String n) = refl
same_by_key (SetOf m) (SetOf n) = sym (key_of_one m n)
same_by_key (SetOf m) (PointerTo n) = refl
same_by_key (SetOf m) (ArrayOf js n) = refl
same_by_key (SetOf m) (Record n others) = refl
same_by_key (SetOf m) (Union n other_name other others) = refl
same_by_key (SetOf m) (Opaque n) = refl
same_by_key (PointerTo m) Int = refl
same_by_key (PointerTo m) Boolean = refl
same_by_key (PointerTo m) (Subrange s c d) = refl
same_by_key (PointerTo m) (Enumeration n others) = refl
same_by_key (PointerTo m) (String n) = refl
same_by_key (PointerTo m) (SetOf n) = refl
same_by_key (PointerTo m) (PointerTo n) = sym (key_of_one m n)
same_by_key (PointerTo m) (ArrayOf js n) = refl
same_by_key (PointerTo m) (Record n others) = refl
same_by_key (PointerTo m) (Union n other_name other others) = refl
same_by_key (PointerTo m) (Opaque n) = refl
same_by_key (ArrayOf is m) Int = refl
same_by_key (ArrayOf is m) Boolean = refl
same_by_key (ArrayOf is m) (Subrange s c d) = refl
same_by_key (ArrayOf is m) (Enumeration n others) = refl
same_by_key (ArrayOf is m) (String n) = refl
same_by_key (ArrayOf is m) (SetOf n) = refl
same_by_key (ArrayOf is m) (PointerTo n) = refl
same_by_key (ArrayOf is m) (ArrayOf js n) = sym (key_of_array is js m n)
same_by_key (ArrayOf is m) (Record n others) = refl
same_by_key (ArrayOf is m) (Union n other_name other others) = refl
same_by_key (ArrayOf is m) (Opaque n) = refl
same_by_key (Record m fields) Int = refl
same_by_key (Record m fields) Boolean = refl
same_by_key (Record m fields) (Subrange s c d) = refl
same_by_key (Record m fields) (Enumeration n others) = refl
same_by_key (Record m fields) (String n) = refl
same_by_key (Record m fields) (SetOf n) = refl
same_by_key (Record m fields) (PointerTo n) = refl
same_by_key (Record m fields) (ArrayOf js n) = refl
same_by_key (Record m fields) (Record n others) = sym (key_of_one m n)
same_by_key (Record m fields) (Union n other_name other others) = refl
same_by_key (Record m fields) (Opaque n) = refl
same_by_key (Union m tag_name tag variants) Int = refl
same_by_key (Union m tag_name tag variants) Boolean = refl
same_by_key (Union m tag_name tag variants) (Subrange s c d) = refl
same_by_key (Union m tag_name tag variants) (Enumeration n others) = refl
same_by_key (Union m tag_name tag variants) (String n) = refl
same_by_key (Union m tag_name tag variants) (SetOf n) = refl
same_by_key (Union m tag_name tag variants) (PointerTo n) = refl
same_by_key (Union m tag_name tag variants) (ArrayOf js n) = refl
same_by_key (Union m tag_name tag variants) (Record n others) = refl
same_by_key (Union m tag_name tag variants) (Union n other_name other others) = sym (key_of_one m n)
same_by_key (Union m tag_name tag variants) (Opaque n) = refl
same_by_key (Opaque m) Int = refl
same_by_key (Opaque m) Boolean = refl
same_by_key (Opaque m) (Subrange s c d) = refl
same_by_key (Opaque m) (Enumeration n others) = refl
same_by_key (Opaque m) (String n) = refl
same_by_key (Opaque m) (SetOf n) = refl
same_by_key (Opaque m) (PointerTo n) = refl
same_by_key (Opaque m) (ArrayOf js n) = refl
same_by_key (Opaque m) (Record n others) = refl
same_by_key (Opaque m) (Union n other_name other others) = refl
same_by_key (Opaque m) (Opaque n) = sym (key_of_one m n)

chosen : (b : Bool) (x y : Option ℕ) → elim b [ true ↦ x | false ↦ y ] ≡ (if b then x else y)
chosen true x y = refl
chosen false x y = refl

pub found_by_key : (types : List Row) (form : TypeForm) (n : ℕ) (rows : List Row) → found_from types form n rows ≡ number_from (key_of form) n rows
found_by_key types form n [] = refl
found_by_key types form n (row ∷ more) =
    chosen (are_same form row.form) (Some n) (found_from types form (suc n) more)
    ∙ (λ i. if same_by_key form row.form i then Some n else found_by_key types form (suc n) more i)
