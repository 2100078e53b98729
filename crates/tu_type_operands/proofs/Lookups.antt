-- What an ordered map finds is what stands under the number.
use Rattle.std.proofs.Common.{◌≡◌, ℕ, ◌+◌, ◌-◌, ◌<◌, ◌≤◌, List, [], ◌∷◌, Some, Option, length, refl, ap, sym, ◌∙◌, arith, get_or}
use Rattle.std.specs.Prelude.{◌==◌, drop, if◌then◌else◌}
use Rattle.std.proofs.lemmas.List.{drop_more}
use Rattle.std.specs.Map.{lookup}
use Rattle.std.specs.Ordering.{is_eq, nat_cmp}
use Rattle.tu_scope_rules.specs.declared.name_use.NameUse.{NameUse}
use Rattle.tu_type_operands.specs.Tables.{found_in, uses_by_start, with_entry}

equal_numbers : (m n : ℕ) → is_eq (nat_cmp m n) ≡ (n == m)
equal_numbers m n = grind arith

pub found : {A : Type 0} → (n : ℕ) (es : List (ℕ × A)) → lookup (λ k. is_eq (nat_cmp n k)) es ≡ found_in es n
found n [] = refl
found n (e ∷ es) = ap (λ b. if b then Some e.1 else lookup (λ k. is_eq (nat_cmp n k)) es) (equal_numbers n e.0) ∙ ap (λ rest. if e.0 == n then Some e.1 else rest) (found n es)

-- One use more, from the end of a list, is in the table.
pub next_use : (xs : List NameUse) (place : ℕ) (d : NameUse) (now new : List (ℕ × Option ℕ)) →
    now ≡ uses_by_start (drop place xs) → 0 < place → place ≤ length xs → new ≡ with_entry (get_or xs (place - 1) d).start (get_or xs (place - 1) d).declaration now → new ≡ uses_by_start (drop (place - 1) xs)
next_use xs place d now new h some le e =
    let k = place - 1 in
    let lt : k < length xs = omega arith in
    let whole : place ≡ k + 1 = omega arith in
    e ∙ ap (with_entry (get_or xs k d).start (get_or xs k d).declaration) (h ∙ ap (λ n. uses_by_start (drop n xs)) whole) ∙ sym (ap uses_by_start (drop_more xs k d lt))
