-- What stands at a place of the text.
use Rattle.std.proofs.Common.{◌≡◌, ℕ, ◌+◌, ◌-◌, ◌*◌, ◌/◌, ◌%◌, true, eqb, leb, List, [], ◌∷◌, ◌++◌, length, length-append, append_assoc, Some, refl, sym, ap, subst, ◌∙◌, arith, slice_get}
use Rattle.std.proofs.lemmas.Bool.{eq-eqb, le-leb}
use Rattle.rv_isa.specs.declared.instr.Instr.{Instr}
use Rattle.rv_isa.specs.Encoding.{encoding}
use Rattle.rv_isa.specs.Step.{Space, fetched}
use Rattle.rv_runs.specs.Stands.{codes_of, AllFit, Stands}

pub fetched_at : (s : Space) (i x : ℕ) → slice_get s.text i ≡ Some x → fetched s (65536 + 4 * i) ≡ Some x
fetched_at s i x h =
    let a : leb 65536 (65536 + 4 * i) ≡ true = le-leb 65536 (65536 + 4 * i) (omega arith) in
    let b : eqb ((65536 + 4 * i) % 4) 0 ≡ true = eq-eqb ((65536 + 4 * i) % 4) 0 (omega arith) in
    let c : (65536 + 4 * i - 65536) / 4 ≡ i = omega arith in
    rw (a, b, c) h

get_at : {A : Type 0} (before : List A) (x : A) (rest : List A) → slice_get (before ++ (x ∷ rest)) (length before) ≡ Some x
get_at [] x rest = refl
get_at (b ∷ bs) x rest = get_at bs x rest

-- instructions whose words are a part of the text
pub stands_in : (s : Space) (before rest : List ℕ) (ops : List Instr) → s.text ≡ before ++ (codes_of ops ++ rest) → AllFit ops → Stands s (65536 + 4 * length before) ops
stands_in s before rest [] e fit = tt
stands_in s before rest (op ∷ ops) e fit =
    let n : ℕ = length before in
    let here : slice_get s.text n ≡ Some (encoding op) = ap (λ text. slice_get text n) e ∙ get_at before (encoding op) (codes_of ops ++ rest) in
    let m = length-append before (encoding op ∷ []) in
    let place : 65536 + 4 * length (before ++ (encoding op ∷ [])) ≡ 65536 + 4 * n + 4 = omega arith in (
      record { word = fetched_at s n (encoding op) here; fits = fit.0 },
      subst (λ j. Stands s j ops) place (stands_in s (before ++ (encoding op ∷ [])) rest ops (e ∙ sym (append_assoc before (encoding op ∷ []) (codes_of ops ++ rest))) fit.1),
    )

pub stands_left : (s : Space) (at : ℕ) (xs ys : List Instr) → Stands s at (xs ++ ys) → Stands s at xs
stands_left s at [] ys h = tt
stands_left s at (x ∷ xs) ys h = (h.0, stands_left s (at + 4) xs ys h.1)

pub stands_right : (s : Space) (at : ℕ) (xs ys : List Instr) → Stands s at (xs ++ ys) → Stands s (at + 4 * length xs) ys
stands_right s at [] ys h = let e : at + 0 ≡ at = omega arith in subst (λ p. Stands s p ys) (sym e) h
stands_right s at (x ∷ xs) ys h = let e : at + 4 * length (x ∷ xs) ≡ at + 4 + 4 * length xs = omega arith in subst (λ p. Stands s p ys) (sym e) (stands_right s (at + 4) xs ys h.1)

pub fit_both : (xs ys : List Instr) → AllFit xs → AllFit ys → AllFit (xs ++ ys)
fit_both [] ys h k = k
fit_both (x ∷ xs) ys h k = (h.0, fit_both xs ys h.1 k)
