-- The moves of a hand-over, from its end.
use Rattle.std.proofs.Common.{◌≡◌, ℕ, zero, suc, ◌+◌, ◌<◌, ◌≤◌, min, List, [], ◌∷◌, ◌++◌, length, map, drop, get_or, Bool, true, false, inl, inr, refl, ap, sym, ◌∙◌, arith, add-one, drop-cons, append_assoc, append-nil}
use Rattle.std.specs.Prelude.{nat_eq}
use Rattle.std.proofs.lemmas.Bool.{cases_lt, or_parts, and_parts, ltb-true}
use Rattle.std.proofs.lemmas.List.{drop_all}
use Rattle.ir_form.specs.Units.{Head}
use Rattle.rv_layout.specs.Rooms.{slot}
use Rattle.std.proofs.lemmas.List.{map-append}
use Rattle.rv_isa.specs.Encoding.{encoding}
use Rattle.rv_runs.specs.Stands.{codes_of}
use Rattle.rv_layout.specs.Moves.{Move, Copy, Swap, moves, is_among, is_mixed, are_near, move_words, copy_words, swap_words}

among_drop : (x : ℕ) (ts : List ℕ) (k : ℕ) → is_among ts x ≡ false → is_among (drop k ts) x ≡ false
among_drop x ts zero e = e
among_drop x [] (suc k) e = e
among_drop x (t ∷ ts) (suc k) e = among_drop x ts k (or_parts (nat_eq x t) (is_among ts x) e).1

mixed_at : (g : ℕ → ℕ) (to from : List ℕ) (i : ℕ) → is_mixed to (map g from) ≡ false → i < length from → is_among to (g (get_or from i 0)) ≡ false
mixed_at g to [] i e l = absurd (omega arith)
mixed_at g to (f ∷ fs) zero e l = (or_parts (is_among to (g f)) (is_mixed to (map g fs)) e).0
mixed_at g to (f ∷ fs) (suc i) e l = mixed_at g to fs i (or_parts (is_among to (g f)) (is_mixed to (map g fs)) e).1 (omega arith)

pub drop_map : (g : ℕ → ℕ) (xs : List ℕ) (k : ℕ) → drop k (map g xs) ≡ map g (drop k xs)
drop_map g xs zero = refl
drop_map g [] (suc k) = refl
drop_map g (x ∷ xs) (suc k) = drop_map g xs k

-- one move more, which is done behind the others
pub unmixed_step : (g : ℕ → ℕ) (to from : List ℕ) (i : ℕ) → is_mixed (map g to) (map g from) ≡ false → i < length to → i < length from
    → moves (map g (drop i to)) (map g (drop i from)) ≡ moves (map g (drop (i + 1) to)) (map g (drop (i + 1) from)) ++ Copy (g (get_or to i 0)) (g (get_or from i 0)) ∷ []
unmixed_step g to from i e l m =
    let no : is_among (map g (drop (suc i) to)) (g (get_or from i 0)) ≡ false =
    ap (λ xs. is_among xs (g (get_or from i 0))) (sym (drop_map g to (suc i))) ∙ among_drop (g (get_or from i 0)) (map g to) (suc i) (mixed_at g (map g to) from i e m) in
    rw (add-one, drop-cons to i 0 l, drop-cons from i 0 m, no) refl

pub no_moves : (to : List ℕ) → moves to [] ≡ []
no_moves [] = refl
no_moves (t ∷ ts) = refl

pub unmixed_end : (g : ℕ → ℕ) (to from : List ℕ) (i : ℕ) → min (length to) (length from) ≤ i → moves (map g (drop i to)) (map g (drop i from)) ≡ []
unmixed_end g to from i l = elim (cases_lt (length from) (length to)) [
  | inl a ↦ rw (drop_all i from (omega arith)) (no_moves (map g (drop i to)))
  | inr b ↦ rw (drop_all i to (omega arith)) refl
]

pub words_append : (h : Head) (near mixed : Bool) (ms ns : List Move) → move_words h near mixed (ms ++ ns) ≡ move_words h near mixed ms ++ move_words h near mixed ns
words_append h near mixed [] ns = refl
words_append h near mixed (Copy t f ∷ ms) ns = ap (λ ops. copy_words near mixed (slot h t) (slot h f) ++ ops) (words_append h near mixed ms ns) ∙ sym (append_assoc (copy_words near mixed (slot h t) (slot h f)) (move_words h near mixed ms) (move_words h near mixed ns))
words_append h near mixed (Swap t f ∷ ms) ns = ap (λ ops. swap_words near (slot h t) (slot h f) ++ ops) (words_append h near mixed ms ns) ∙ sym (append_assoc (swap_words near (slot h t) (slot h f)) (move_words h near mixed ms) (move_words h near mixed ns))

-- where all are near, each of them is
pub near_at : (h : Head) (g : ℕ → ℕ) (values : List ℕ) (i : ℕ) → are_near h (map g values) ≡ true → i < length values → slot h (g (get_or values i 0)) < 2048
near_at h g [] i e l = absurd (omega arith)
near_at h g (v ∷ vs) zero e l = ltb-true (slot h (g v)) 2048 (and_parts _ (are_near h (map g vs)) e).0
near_at h g (v ∷ vs) (suc i) e l = near_at h g vs i (and_parts _ (are_near h (map g vs)) e).1 (omega arith)

module _ (h : Head) (near : Bool) (g : ℕ → ℕ) (to from : List ℕ) where
  -- one copy more, behind those of later values
  pub copied : (i j : ℕ) → i ≡ j + 1 → (out after start : List ℕ) (a b : ℕ) → is_mixed (map g to) (map g from) ≡ false → j < length to → j < length from
      → out ≡ start ++ codes_of (move_words h near false (moves (map g (drop i to)) (map g (drop i from))))
      → a ≡ slot h (g (get_or to j 0)) → b ≡ slot h (g (get_or from j 0))
      → after ≡ out ++ codes_of (copy_words near false a b)
      → after ≡ start ++ codes_of (move_words h near false (moves (map g (drop j to)) (map g (drop j from))))
  copied i j e out after start a b u l m w p q r =
      let earlier = move_words h near false (moves (map g (drop (j + 1) to)) (map g (drop (j + 1) from))) in
      let last = copy_words near false (slot h (g (get_or to j 0))) (slot h (g (get_or from j 0))) in
      let all : codes_of (move_words h near false (moves (map g (drop j to)) (map g (drop j from)))) ≡ codes_of earlier ++ codes_of last =
      ap (λ ms. codes_of (move_words h near false ms)) (unmixed_step g to from j u l m)
      ∙ (ap codes_of (words_append h near false _ _ ∙ ap (λ ops. earlier ++ ops) (append-nil last)) ∙ map-append encoding earlier last) in
      r ∙ (rw (w, p, q, e) (append_assoc start (codes_of earlier) (codes_of last) ∙ ap (λ xs. start ++ xs) (sym all)))

  pub near_slot : (j : ℕ) (values : List ℕ) (a : ℕ) → near ≡ true → are_near h (map g values) ≡ true → j < length values → a ≡ slot h (g (get_or values j 0)) → a < 2048
  near_slot j values a n e l p = let q = near_at h g values j e l in omega arith

pub moves_end : (to from : List ℕ) (i : ℕ) → min (length to) (length from) ≤ i → moves (drop i to) (drop i from) ≡ []
moves_end to from i l = elim (cases_lt (length from) (length to)) [
  | inl a ↦ rw (drop_all i from (omega arith)) (no_moves (drop i to))
  | inr b ↦ rw (drop_all i to (omega arith)) refl
]
