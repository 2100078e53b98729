-- Operations one by one, in the scopes that grow with them.
use Rattle.std.proofs.Common.{◌≡◌, ℕ, zero, suc, ◌+◌, ◌<◌, List, [], ◌∷◌, ◌++◌, sym, ap, ◌∙◌, length, take, drop, get_or, add-one, append_assoc, arith}
use Rattle.std.specs.Prelude.{◌&&◌}
use Rattle.std.proofs.Math.Seq.{drop-cons}
use Rattle.std.proofs.lemmas.List.{append-nil}
use Rattle.ir_form.specs.declared.op.Op.{Op}
use Rattle.ir_form.specs.declared.unit.Routine.{Routine}
use Rattle.ir_form.specs.declared.unit.Unit.{Unit as Program}
use Rattle.ir_form.specs.Values.{given}
use Rattle.ir_form.specs.Valid.{Scope, with, given_list}
use Rattle.ir_form.specs.Tests.{fits, fits_list}

with-more : (s : Scope) (xs ys : List ℕ) → with (with s xs) ys ≡ with s (xs ++ ys)
with-more s xs ys = ap (λ vs. record s { values = vs }) (append_assoc s.values xs ys)

given_take : (ops : List Op) (i : ℕ) (d : Op) → i < length ops → given_list (take (suc i) ops) ≡ given_list (take i ops) ++ given (get_or ops i d)
given_take [] i d h = absurd (omega arith)
given_take (op ∷ ops) zero d h = append-nil (given op)
given_take (op ∷ ops) (suc i) d h = ap (λ vs. given op ++ vs) (given_take ops i d (omega arith)) ∙ sym (append_assoc (given op) (given_list (take i ops)) (given (get_or ops i d)))

no_values : (vs ws : List ℕ) → length ws ≡ 0 → vs ++ ws ≡ vs
no_values vs [] h = append-nil vs
no_values vs (w ∷ ws) h = absurd (omega arith)

-- an operation that defines nothing adds nothing
pub given_same : (ops : List Op) (i : ℕ) (d : Op) → i < length ops → length (given (get_or ops i d)) ≡ 0 → given_list (take (i + 1) ops) ≡ given_list (take i ops)
given_same ops i d h n = ap (λ m. given_list (take m ops)) (add-one i) ∙ given_take ops i d h ∙ no_values (given_list (take i ops)) (given (get_or ops i d)) n

-- the operations from one place on: the one there, and those from the next place on with what it defines
pub fits_more : (u : Program) (r : Routine) (s : Scope) (ops : List Op) (i : ℕ) (d : Op) → i < length ops
    → fits_list u r (with s (given_list (take i ops))) (drop i ops)
    ≡ (fits u r (with s (given_list (take i ops))) (get_or ops i d) && fits_list u r (with s (given_list (take (i + 1) ops))) (drop (i + 1) ops))
fits_more u r s ops i d h =
    let t : Scope = with s (given_list (take i ops)) in
    let x : Op = get_or ops i d in
    let e : with t (given x) ≡ with s (given_list (take (suc i) ops)) = with-more s (given_list (take i ops)) (given x) ∙ ap (with s) (sym (given_take ops i d h)) in
    ap (fits_list u r t) (drop-cons ops i d h) ∙ ap (λ z. fits u r t x && fits_list u r z (drop (suc i) ops)) e
    ∙ ap (λ n. fits u r t x && fits_list u r (with s (given_list (take n ops))) (drop n ops)) (sym (add-one i))
