-- Code that fits where it lies, defines its values in order, and has a small weight.
use Rattle.std.proofs.Common.{◌≡◌, ℕ, ◌+◌, ◌≤◌, Bool, true, false, List, [], ◌∷◌, ◌++◌, length, refl, sym, ◌∙◌, ap, subst, append_assoc, arith}
use Rattle.std.specs.Prelude.{◌&&◌, ◌||◌}
use Rattle.std.proofs.lemmas.List.{append-nil, length-append}
use Rattle.ir_form.specs.declared.op.Op.{Op}
use Rattle.ir_form.specs.declared.unit.Routine.{Routine}
use Rattle.ir_form.specs.declared.unit.Unit.{Unit as RegionUnit}
use Rattle.ir_form.specs.Values.{given, defined, defined_list, marks, marks_list}
use Rattle.ir_form.specs.Valid.{Scope, with, given_list}
use Rattle.ir_form.specs.Weight.{weight_list}
use Rattle.ir_form.specs.Tests.{contains, fits, fits_list}
use Rattle.ir_form.proofs.Sights.{contains-append}
use Rattle.ir_code.specs.declared.code.Code.{Code}
use Rattle.tu_value.specs.Pieces.{with_piece}
use Rattle.ir_build.specs.Behind.{behind, Seen, IsFit, AreFrom, Grows}

pub is_and : {a b : Bool} → a ≡ true → b ≡ true → (a && b) ≡ true
is_and {a} {b} e f = ap (λ z. z && b) e ∙ f

pub kept_front : (xs ys : List ℕ) (v : ℕ) → contains xs v ≡ true → contains (xs ++ ys) v ≡ true
kept_front xs ys v e = contains-append xs ys v ∙ ap (λ z. z || contains ys v) e

pub kept_back : (xs ys : List ℕ) (v : ℕ) → contains ys v ≡ true → contains (xs ++ ys) v ≡ true
kept_back xs ys v e = contains-append xs ys v ∙ or_true (contains xs v) e
  where
    or_true : (b : Bool) {c : Bool} → c ≡ true → (b || c) ≡ true
    or_true true e = refl
    or_true false e = e

from_append : (n m : ℕ) (xs ys : List ℕ) → AreFrom n xs → n + length xs ≡ m → AreFrom m ys → AreFrom n (xs ++ ys)
from_append n m [] ys h e g = subst (λ z. AreFrom z ys) (let q : m ≡ n = omega (arith, e) in q) g
from_append n m (x ∷ xs) ys h e g = (h.0, from_append (n + 1) m xs ys h.1 (omega (arith, e)) g)

given_append : (xs ys : List Op) → given_list (xs ++ ys) ≡ given_list xs ++ given_list ys
given_append [] ys = refl
given_append (x ∷ xs) ys = ap (λ z. given x ++ z) (given_append xs ys) ∙ sym (append_assoc (given x) (given_list xs) (given_list ys))

pub defined_append : (xs ys : List Op) → defined_list (xs ++ ys) ≡ defined_list xs ++ defined_list ys
defined_append [] ys = refl
defined_append (x ∷ xs) ys = ap (λ z. defined x ++ z) (defined_append xs ys) ∙ sym (append_assoc (defined x) (defined_list xs) (defined_list ys))

pub marks_append : (xs ys : List Op) → marks_list (xs ++ ys) ≡ marks_list xs ++ marks_list ys
marks_append [] ys = refl
marks_append (x ∷ xs) ys = ap (λ z. marks x ++ z) (marks_append xs ys) ∙ sym (append_assoc (marks x) (marks_list xs) (marks_list ys))

pub weight_append : (xs ys : List Op) → weight_list (xs ++ ys) ≡ weight_list xs + weight_list ys
weight_append [] ys = omega arith
weight_append (x ∷ xs) ys = let e = weight_append xs ys in omega arith

pub with_both : (s : Scope) (xs ys : List ℕ) → with (with s xs) ys ≡ with s (xs ++ ys)
with_both s xs ys = ap (λ vs. record s { values = vs }) (append_assoc s.values xs ys)

pub with_none : (s : Scope) → with s [] ≡ s
with_none s = ap (λ vs. record s { values = vs }) (append-nil s.values)

pub same_grows : (most : ℕ) (code : Code) → Grows most code code
same_grows most code = record { few = omega arith; light = omega arith; tidy = λ n t. t; unguarded = λ e. e; kept = λ s v h. h }

pub grows_then : {a b most : ℕ} {code middle made : Code} → Grows a code middle → Grows b middle made → a + b ≤ most → Grows most code made
grows_then g h le = record {
  few = let p = g.few in let q = h.few in omega (arith, le);
  light = let p = g.light in let q = h.light in omega (arith, le);
  tidy = λ n t. h.tidy n (g.tidy n t);
  unguarded = λ e. h.unguarded (g.unguarded e);
  kept = λ s v e. h.kept s v (g.kept s v e);
}

pub grows_more : {a most : ℕ} {code made : Code} → Grows a code made → a ≤ most → Grows most code made
grows_more g le = record { few = let p = g.few in omega (arith, le); light = let p = g.light in omega (arith, le); tidy = g.tidy; unguarded = g.unguarded; kept = g.kept }

-- operations behind the code, which define the values up to the next one
pub appended_grows : (most next : ℕ) (code : Code) (ops : List Op) → weight_list ops ≤ most → next ≤ code.next + most → AreFrom code.next (defined_list ops) → code.next + length (defined_list ops) ≡ next → marks_list ops ≡ [] → Grows most code (record { ops = code.ops ++ ops; next = next })
appended_grows most next code ops light few from is free = record {
  few = few;
  light = let e = weight_append code.ops ops in omega (arith, light);
  tidy = λ n t.
      let l = t.last in
      record {
        values = subst (AreFrom n) (sym (defined_append code.ops ops)) (from_append n code.next (defined_list code.ops) (defined_list ops) t.values l from);
        last = let e = ap length (defined_append code.ops ops) in let f = length-append (defined_list code.ops) (defined_list ops) in omega (arith, is);
      };
  unguarded = λ e. marks_append code.ops ops ∙ ap (λ z. z ++ marks_list ops) e ∙ free;
  kept = λ s v h. subst (λ z. contains (s.values ++ z) v ≡ true) (sym (given_append code.ops ops)) (subst (λ z. contains z v ≡ true) (append_assoc s.values (given_list code.ops) (given_list ops)) (kept_front (s.values ++ given_list code.ops) (given_list ops) v h));
}

pub behind_grows : (most count : ℕ) (code : Code) (ops : List Op) → weight_list ops ≤ most → count ≤ most → AreFrom code.next (defined_list ops) → length (defined_list ops) ≡ count → marks_list ops ≡ [] → Grows most code (with_piece code ops count)
behind_grows most count code ops light few from is free = appended_grows most (code.next + count) code ops light (omega (arith, few)) from (omega (arith, is)) free

-- what is given behind the code is seen
pub behind_seen : (count : ℕ) (s : Scope) (code : Code) (ops : List Op) (v : ℕ) → contains (given_list ops) v ≡ true → Seen s (with_piece code ops count) v
behind_seen count s code ops v h = subst (λ z. contains (s.values ++ z) v ≡ true) (sym (given_append code.ops ops)) (kept_back s.values (given_list code.ops ++ given_list ops) v (kept_back (given_list code.ops) (given_list ops) v h))

-- operations that fit in a scope
pub record FitIn (u : RegionUnit) (r : Routine) (s : Scope) (ops : List Op) : Type 0 where
  pub is : fits_list u r s ops ≡ true

module _ (u : RegionUnit) (r : Routine) where
  fits_append : (s : Scope) (xs ys : List Op) → fits_list u r s (xs ++ ys) ≡ (fits_list u r s xs && fits_list u r (with s (given_list xs)) ys)
  fits_append s [] ys = ap (λ z. fits_list u r z ys) (sym (with_none s))
  fits_append s (x ∷ xs) ys =
      let e = fits_append (with s (given x)) xs ys ∙ ap (λ z. fits_list u r (with s (given x)) xs && fits_list u r z ys) (with_both s (given x) (given_list xs)) in
      ap (λ z. fits u r s x && z) e ∙ and_in (fits u r s x) (fits_list u r (with s (given x)) xs) (fits_list u r (with s (given x ++ given_list xs)) ys)
    where
      and_in : (a b c : Bool) → (a && (b && c)) ≡ ((a && b) && c)
      and_in true b c = refl
      and_in false b c = refl

  pub behind_fits : (count : ℕ) (s : Scope) (code : Code) (ops : List Op) → IsFit u r s code → FitIn u r (behind s code) ops → IsFit u r s (with_piece code ops count)
  behind_fits count s code ops h e = fits_append s code.ops ops ∙ is_and h e.is
