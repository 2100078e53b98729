-- The values that are defined before an operation.
use Rattle.std.proofs.Common.{◌≡◌, ℕ, zero, suc, ◌<◌, ◌==◌, Bool, true, false, List, [], ◌∷◌, ◌++◌, refl, sym, ap, ◌∙◌, length, get_or, arith}
use Rattle.std.specs.Prelude.{◌||◌, ◌-◌, Option, Some, None, slice_get}
use Rattle.ir_form.specs.declared.op.Op.{Op}
use Rattle.ir_form.specs.Values.{given}
use Rattle.ir_form.specs.Valid.{leaves, leaves_list, given_list}
use Rattle.ir_form.specs.Tests.{contains}

pub contains-append : (xs ys : List ℕ) (v : ℕ) → contains (xs ++ ys) v ≡ (contains xs v || contains ys v)
contains-append [] ys v = refl
contains-append (x ∷ xs) ys v = elim (x == v) as (λ b. (b || contains (xs ++ ys) v) ≡ ((b || contains xs v) || contains ys v)) [ true ↦ refl | false ↦ contains-append xs ys v ]

-- what one of them defines, they define
pub given_at : (ops : List Op) (i v : ℕ) (d : Op) → i < length ops → contains (given (get_or ops i d)) v ≡ true → contains (given_list ops) v ≡ true
given_at [] i v d h e = absurd (omega arith)
given_at (op ∷ ops) zero v d h e = contains-append (given op) (given_list ops) v ∙ ap (λ b. b || contains (given_list ops) v) e
given_at (op ∷ ops) (suc i) v d h e =
    let f : contains (given_list ops) v ≡ true = given_at ops i v d (omega arith) e in
    contains-append (given op) (given_list ops) v ∙ ap (λ b. contains (given op) v || b) f ∙ or_true (contains (given op) v)
  where
    or_true : (b : Bool) → (b || true) ≡ true
    or_true true = refl
    or_true false = refl

abbrev pub leaves_or : Bool → Option Op → Bool
leaves_or before None = before
leaves_or before (Some op) = leaves op

leaves-at : (before : Bool) (op : Op) (ops : List Op) → leaves_list before (op ∷ ops) ≡ leaves_or false (slice_get (op ∷ ops) (length ops))
leaves-at before op [] = refl
leaves-at before op (o ∷ ops) = leaves-at (leaves op) o ops

pub leaves-last : (ops : List Op) → leaves_list false ops ≡ leaves_or false (slice_get ops (length ops - 1))
leaves-last [] = refl
leaves-last (op ∷ ops) = let e : length (op ∷ ops) - 1 ≡ length ops = omega arith in leaves-at false op ops ∙ ap (λ n. leaves_or false (slice_get (op ∷ ops) n)) (sym e)
