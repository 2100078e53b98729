-- Where the routines lie, one behind the other.
use Rattle.std.proofs.Common.{◌≡◌, ℕ, zero, suc, ◌+◌, ◌*◌, ◌<◌, ◌≤◌, List, [], ◌∷◌, ◌++◌, length, take, drop, Some, None, refl, ap, sym, subst, ◌∙◌, arith, add-one, get_or, take_all}
use Rattle.std.specs.Prelude.{slice_get}
use Rattle.std.specs.Option.{unwrap_or}
use Rattle.std.proofs.lemmas.Option.{unwrap_or-slice_get}
use Rattle.std.proofs.lemmas.List.{get_or_past, get_or_default, get_or_push, get_or_append_left, length-append}
use Rattle.std.proofs.lemmas.Bool.{cases_lt}
use Rattle.std.specs.Prelude.{◌⊎◌}
use Rattle.std.proofs.Common.{inl, inr}
use Rattle.rv_flat.specs.declared.linear.LinearRoutine.{LinearRoutine}
use Rattle.rv_flat.specs.declared.linear.Linear.{Linear}
use Rattle.rv_text.specs.Lengths.{routine_length, routines_length}
use Rattle.rv_text.specs.Text.{entry_at, routines_at}
use Rattle.rv_emit.specs.Placed.{length_in}
use Rattle.rv_emit.specs.Site.{word_count, HasLabels}
use Rattle.rv_emit.specs.declared.site.Labels.{Labels}

module _ (rs : List LinearRoutine) where
  next_length : (xs : List LinearRoutine) (k : ℕ) (r : LinearRoutine) → slice_get xs k ≡ Some r → routines_length rs (take (suc k) xs) ≡ routines_length rs (take k xs) + routine_length rs r
  next_length [] k r e = absurd (cc)
  next_length (x ∷ xs) zero r e = let same : x ≡ r = cc in rw same (omega arith)
  next_length (x ∷ xs) (suc k) r e = let ih = next_length xs k r e in omega arith

  part_length : (xs : List LinearRoutine) (k : ℕ) → routines_length rs (take k xs) ≤ routines_length rs xs
  part_length xs zero = omega arith
  part_length [] (suc k) = omega arith
  part_length (x ∷ xs) (suc k) = let ih = part_length xs k in omega arith

  pub entry_next : (k : ℕ) (r : LinearRoutine) → slice_get rs k ≡ Some r → entry_at rs (k + 1) ≡ entry_at rs k + 4 * routine_length rs r
  entry_next k r e = let n = next_length rs k r e in rw add-one (omega arith)

  pub entry_below : (k : ℕ) → entry_at rs k ≤ routines_at + 4 * routines_length rs rs
  entry_below k = let b = part_length rs k in omega arith

  pub entry_end : (k : ℕ) → length rs ≤ k → entry_at rs k ≡ routines_at + 4 * routines_length rs rs
  entry_end k l = rw (take_all k rs l) refl

  -- an entry by its number, also of a routine that is not there
  pub entries_found : (es : List ℕ) (end : ℕ) → length es ≡ length rs → end ≡ routines_at + 4 * routines_length rs rs → ((k : ℕ) → k < length es → get_or es k 0 ≡ entry_at rs k) → (k : ℕ) → unwrap_or (slice_get es k) end ≡ entry_at rs k
  entries_found es end n e h k = elim (cases_lt k (length es)) [
    | inl a ↦ unwrap_or-slice_get es k end ∙ (get_or_default es k end 0 a ∙ h k a)
    | inr b ↦ unwrap_or-slice_get es k end ∙ (get_or_past es k end b ∙ (e ∙ sym (entry_end k (omega arith))))
  ]

pub routine_fits : (l : Linear) (k : ℕ) (r : LinearRoutine) → slice_get l.routines k ≡ Some r → word_count l ≤ 16777216 → entry_at l.routines k + 4 * routine_length l.routines r < 4294967296
routine_fits l k r e w = let n = entry_next l.routines k r e in let b = entry_below l.routines (k + 1) in omega arith

pub no_more : {X : Type 0} → (xs : List X) (k : ℕ) → slice_get xs k ≡ None → length xs ≤ k
no_more [] k e = omega arith
no_more (x ∷ xs) zero e = absurd (cc)
no_more (x ∷ xs) (suc k) e = let ih = no_more xs k e in omega arith

at_push : {X : Type 0} → (xs : List X) (x m : X) (k : ℕ) → slice_get (xs ++ x ∷ []) k ≡ Some m → (slice_get xs k ≡ Some m) ⊎ ((k ≡ length xs) × (x ≡ m))
at_push [] x m zero e = inr (refl, cc)
at_push [] x m (suc k) e = absurd (cc)
at_push (y ∷ ys) x m zero e = inl e
at_push (y ∷ ys) x m (suc k) e = elim (at_push ys x m k e) [ inl a ↦ inl a | inr b ↦ inr (ap suc b.0, b.1) ]

module _ (rs : List LinearRoutine) where
  pub entries_more : (es more : List ℕ) (at : ℕ) → more ≡ es ++ at ∷ [] → at ≡ entry_at rs (length es) → ((k : ℕ) → k < length es → get_or es k 0 ≡ entry_at rs k) → (k : ℕ) → k < length more → get_or more k 0 ≡ entry_at rs k
  entries_more es more at e a h k l = elim (cases_lt k (length es)) [
    | inl m ↦ ap (λ xs. get_or xs k 0) e ∙ (get_or_append_left es (at ∷ []) 0 k m ∙ h k m)
    | inr m ↦ let same : length es ≡ k = omega (arith, ap length e, length-append es (at ∷ [])) in ap (λ xs. get_or xs k 0) e ∙ (get_or_push es at 0 k same ∙ (a ∙ ap (entry_at rs) same))
  ]

  pub labels_more : (ls more : List Labels) (l : Labels) → more ≡ ls ++ l ∷ [] → HasLabels rs (length ls) l → ((k : ℕ) (m : Labels) → slice_get ls k ≡ Some m → HasLabels rs k m) → (k : ℕ) (m : Labels) → slice_get more k ≡ Some m → HasLabels rs k m
  labels_more ls more l e g h k m f = elim (at_push ls l m k (ap (λ xs. slice_get xs k) (sym e) ∙ f)) [
    | inl a ↦ h k m a
    | inr b ↦ subst (λ (n : ℕ). HasLabels rs n m) (sym b.0) (subst (HasLabels rs (length ls)) b.1 g)
  ]

-- the routines from a number on take as many words as this one and those behind it
pub rest_length : (rs xs : List LinearRoutine) (k : ℕ) → routines_length rs (drop k xs) ≡ length_in rs (slice_get xs k) + routines_length rs (drop (suc k) xs)
rest_length rs [] zero = refl
rest_length rs [] (suc k) = refl
rest_length rs (x ∷ xs) zero = refl
rest_length rs (x ∷ xs) (suc k) = rest_length rs xs k
