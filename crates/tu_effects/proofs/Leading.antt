-- What a search finds is what routines do by themselves or by calls.
use Rattle.std.proofs.Common.{◌≡◌, ◌↔◌, ℕ, Bool, true, List, [], ◌∷◌, map, suc, zero, refl, inl, inr, ◌⊎◌, ⊎_elim, Some, None}
use Rattle.std.specs.Prelude.{slice_get}
use Rattle.std.proofs.lemmas.Bool.{false≢true}
use Rattle.std.specs.List.{Contains, list_any}
use Rattle.tu_core.specs.declared.names.Variable.TheVariants.{Local}
use Rattle.tu_core.specs.Core.{Routine, Program}
use Rattle.tu_core.specs.Acts.{Subject, AVariable, Act, routine_acts}
use Rattle.tu_core.specs.Effects.{Leads, here, step, CallsOne, Writes, Talks, WritesAny, acts_of, changes, is_outer, reads, talks}
use Rattle.tu_reach.specs.Rows.{HasNumber, IsCaller, row}
use Rattle.tu_reach.specs.Marks.{IsFound, IsMarked}
use Rattle.tu_effects.specs.declared.question.Question.{Question}
use Rattle.tu_effects.specs.declared.question.Question.TheVariants as asks
use Rattle.tu_effects.specs.Questions.{asked}
use Rattle.tu_effects.specs.Relations.{AreCallersIn, HasAddedAll, LeadsToAnswer, Touches, text_at}
use Rattle.tu_effects.proofs.Adding.{none_in}
use Rattle.tu_effects.proofs.Asking.{callers, outer_changers, talkers}

pub text_is : (rs : List Routine) (p : ℕ) → text_at (map routine_acts rs) p ≡ elim (slice_get rs p) [ None ↦ [] | Some r ↦ routine_acts r ]
text_is [] p = refl
text_is (r ∷ rs) zero = refl
text_is (r ∷ rs) (suc p) = text_is rs p

pub leads_also : (R S : ℕ → ℕ → Type 0) → ((a b : ℕ) → R a b → S a b) → (a b : ℕ) → Leads R a b → Leads S a b
leads_also R S also a b here = here
leads_also R S also a c (step {b = b} r t) = step (also a b r) (leads_also R S also b c t)

no_number : (k a : ℕ) → HasNumber [] k a → ⊥
no_number k a h = none_in a h

-- the rows of all answers, where there were none
pub answers_are : (question : Question) (texts : List (List Act)) (rows : List (List ℕ)) → HasAddedAll [] rows question texts →
    (k p : ℕ) → HasNumber rows k p ↔ Contains (asked question (text_at texts p)) k
answers_are question texts rows h k p = (λ i. ⊎_elim (λ o. absurd (no_number k p o)) (λ c. c) (h.only k p i), h.added k p)

pub callers_are : (texts : List (List Act)) (rows rows' : List (List ℕ)) → HasAddedAll [] rows asks.Calls texts → HasAddedAll rows rows' asks.CallsInvariant texts → AreCallersIn texts rows'
callers_are texts rows rows' g h p q = (
  λ i. (callers (text_at texts p) q).1 (⊎_elim (λ o. inl ((answers_are asks.Calls texts rows g q p).0 o)) (λ c. inr c) (h.only q p i)),
  λ c. ⊎_elim (λ l. h.kept q p (g.added q p l)) (λ r. h.added q p r) ((callers (text_at texts p) q).0 c),
)

pub leading_are : (calls : List (List ℕ)) (texts : List (List Act)) (question : Question) (rows : List (List ℕ)) (marks : List Bool) → HasAddedAll [] rows question texts →
    IsFound calls (row rows 0) marks → LeadsToAnswer calls texts question marks
leading_are calls texts question rows marks h found p = (
  λ m. let t = (found p).0 m in (t.0, t.1, (answers_are question texts rows h 0 t.0).0 t.2),
  λ (q, leads, c). (found p).1 (q, leads, (answers_are question texts rows h 0 q).1 c),
)

module _ (program : Program) (calls : List (List ℕ)) (are : (p q : ℕ) → IsCaller calls p q ↔ CallsOne program p q) where
  -- from routines of which P holds
  pub leads_is : (P Q : ℕ → Type 0) → ((q : ℕ) → P q ↔ Q q) → (p : ℕ) → ((q : ℕ) × Leads (IsCaller calls) p q × P q) ↔ ((q : ℕ) × Leads (CallsOne program) p q × Q q)
  leads_is P Q same p = (
    λ (q, leads, h). (q, leads_also (IsCaller calls) (CallsOne program) (λ a b i. (are a b).0 i) p q leads, (same q).0 h),
    λ (q, leads, h). (q, leads_also (CallsOne program) (IsCaller calls) (λ a b i. (are a b).1 i) p q leads, (same q).1 h),
  )

  pub writes_are : (marks : List Bool) → ((p : ℕ) → IsMarked marks p ↔ ((q : ℕ) × Leads (IsCaller calls) p q × Contains (asked asks.ChangesOuter (acts_of program q)) 0)) →
      (p : ℕ) → IsMarked marks p ↔ WritesAny program p
  writes_are marks found p =
      let same = leads_is (λ q. Contains (asked asks.ChangesOuter (acts_of program q)) 0) (λ q. (x : Subject) × (is_outer x ≡ true) × (list_any (changes x) (acts_of program q) ≡ true)) (λ q. outer_changers (acts_of program q)) p in (
        λ m. let t = same.0 ((found p).0 m) in (t.2.0, (t.2.1, (t.0, t.1, t.2.2))),
        λ (x, (out, (q, leads, h))). (found p).1 (same.1 (q, leads, (x, out, h))),
      )

  pub talks_are : (marks : List Bool) → ((p : ℕ) → IsMarked marks p ↔ ((q : ℕ) × Leads (IsCaller calls) p q × Contains (asked asks.Talks (acts_of program q)) 0)) →
      (p : ℕ) → IsMarked marks p ↔ Talks program p
  talks_are marks found p =
      let same = leads_is (λ q. Contains (asked asks.Talks (acts_of program q)) 0) (λ q. list_any talks (acts_of program q) ≡ true) (λ q. talkers (acts_of program q)) p in
      (λ m. same.0 ((found p).0 m), λ t. (found p).1 (same.1 t))

  -- found from the routines of a row, which change a subject
  pub changing_are : (x : Subject) (row : List ℕ) (marks : List Bool) → is_outer x ≡ true → ((q : ℕ) → Contains row q ↔ (list_any (changes x) (acts_of program q) ≡ true)) → IsFound calls row marks →
      (p : ℕ) → IsMarked marks p ↔ Writes program p x
  changing_are x row marks out same found p =
      let both = leads_is (λ q. Contains row q) (λ q. list_any (changes x) (acts_of program q) ≡ true) same p in
      (λ m. (out, both.0 ((found p).0 m)), λ (o, t). (found p).1 (both.1 t))

  -- and which touch it
  pub touching_are : (x : Subject) (row : List ℕ) (marks : List Bool) → is_outer x ≡ true → ((q : ℕ) → Contains row q ↔ ((list_any (reads x) (acts_of program q) ≡ true) ⊎ (list_any (changes x) (acts_of program q) ≡ true))) →
      IsFound calls row marks → (p : ℕ) → IsMarked marks p ↔ Touches program p x
  touching_are x row marks out same found p =
      let both = leads_is (λ q. Contains row q) (λ q. (list_any (reads x) (acts_of program q) ≡ true) ⊎ (list_any (changes x) (acts_of program q) ≡ true)) same p in (
        λ m. let t = both.0 ((found p).0 m) in ⊎_elim (λ l. inl (out, (t.0, t.1, l))) (λ r. inr (out, (t.0, t.1, r))) t.2,
        λ h. (found p).1 (both.1 (⊎_elim (λ (o, (q, leads, l)). (q, leads, inl l)) (λ (o, (q, leads, r)). (q, leads, inr r)) h)),
      )

  -- A name of a text is touched by no other.
  pub local_untouched : (k : ℕ) (marks : List Bool) → IsFound calls [] marks → (p : ℕ) → IsMarked marks p ↔ Touches program p (AVariable (Local k))
  local_untouched k marks found p = (λ m. let t = (found p).0 m in none_in t.0 t.2, λ h. ⊎_elim (λ (o, t). absurd (false≢true o)) (λ (o, t). absurd (false≢true o)) h)

  pub local_unchanged : (k : ℕ) (marks : List Bool) → IsFound calls [] marks → (p : ℕ) → IsMarked marks p ↔ Writes program p (AVariable (Local k))
  local_unchanged k marks found p = (λ m. let t = (found p).0 m in none_in t.0 t.2, λ (o, t). absurd (false≢true o))
