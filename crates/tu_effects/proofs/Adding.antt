-- Texts that are added to the rows of their answers.
use Rattle.std.proofs.Common.{◌≡◌, ℕ, ◌+◌, ◌<◌, List, [], ◌∷◌, ◌++◌, length, get_or, take, sym, ◌∙◌, ap, subst, arith, inl, inr, ⊎_elim, Some, None, option_to_list}
use Rattle.std.proofs.lemmas.Bool.{cases_eq}
use Rattle.std.proofs.lemmas.List.{take_more, append-nil, append_assoc, get_or_default}
use Rattle.std.proofs.lemmas.List.Elements.{Contains-push, Contains-push_cases, Contains-append_cases, Contains-append_left, Contains-append_right}
use Rattle.std.specs.List.{Contains}
use Rattle.tu_core.specs.Acts.{Act}
use Rattle.tu_reach.specs.Rows.{HasNumber, HasOneMore}
use Rattle.tu_effects.specs.declared.question.Question.{Question}
use Rattle.tu_effects.specs.Questions.{asked, number, numbers}
use Rattle.tu_effects.specs.Relations.{HasAdded, HasAddedBelow, text_at}

pub none_in : {X : Type 0} {P : Type 0} (a : X) → Contains [] a → P
none_in a (k, lt, is) = absurd (omega arith)

pub the_one : {X : Type 0} (b a : X) → Contains (b ∷ []) a → b ≡ a
the_one b a h = ⊎_elim (λ e. none_in a e) (λ e. e) (Contains-push_cases [] b a h)

pub added_none : (g : List (List ℕ)) (p : ℕ) → HasAdded g g p []
added_none g p = record { added = λ k h. none_in k h; kept = λ k b h. h; only = λ k b h. inl h }

pub added_one : (g h : List (List ℕ)) (k p : ℕ) → HasOneMore g h k p → HasAdded g h p (k ∷ [])
added_one g h k p m = record {
  added = λ l c. subst (λ x. HasNumber h x p) (the_one k l c) m.added;
  kept = m.kept;
  only = λ l b e. ⊎_elim (λ o. inl o) (λ (f, i). inr (i, subst (λ x. Contains (k ∷ []) x) (sym f) (Contains-push [] k))) (m.only l b e);
}

added_both : (g h i : List (List ℕ)) (p : ℕ) (xs ys : List ℕ) → HasAdded g h p xs → HasAdded h i p ys → HasAdded g i p (xs ++ ys)
added_both g h i p xs ys m n = record {
  added = λ k c. ⊎_elim (λ l. n.kept k p (m.added k l)) (λ r. n.added k r) (Contains-append_cases xs ys k c);
  kept = λ k b e. n.kept k b (m.kept k b e);
  only = λ k b e. ⊎_elim
      (λ l. ⊎_elim (λ o. inl o) (λ (f, c). inr (f, Contains-append_left xs ys k c)) (m.only k b l))
      (λ (f, c). inr (f, Contains-append_right xs ys k c))
      (n.only k b e);
}

asked_push : (question : Question) (acts : List Act) (act : Act) → asked question (acts ++ act ∷ []) ≡ asked question acts ++ numbers question act
asked_push question [] act = append-nil (numbers question act)
asked_push question (x ∷ xs) act = ap (λ r. numbers question x ++ r) (asked_push question xs act) ∙ sym (append_assoc (numbers question x) (asked question xs) (numbers question act))

asked_more : (question : Question) (acts : List Act) (i : ℕ) (act : Act) → i < length acts → act ≡ get_or acts i act → asked question (take (i + 1) acts) ≡ asked question (take i acts) ++ numbers question act
asked_more question acts i act lt is =
    ap (asked question) (take_more acts i act lt) ∙ asked_push question (take i acts) (get_or acts i act) ∙ ap (λ a. asked question (take i acts) ++ numbers question a) (sym is)

-- An act was asked, and its text added where it answers.
pub asked_act : (question : Question) (acts : List Act) (i : ℕ) (act : Act) (p : ℕ) (g h h' : List (List ℕ)) → i < length acts → act ≡ get_or acts i act →
    HasAdded g h p (asked question (take i acts)) → HasAdded h h' p (numbers question act) → HasAdded g h' p (asked question (take (i + 1) acts))
asked_act question acts i act p g h h' lt is m n =
    subst (λ ks. HasAdded g h' p ks) (sym (asked_more question acts i act lt is)) (added_both g h h' p (asked question (take i acts)) (numbers question act) m n)

pub answered : (question : Question) (act : Act) (k p : ℕ) (h h' : List (List ℕ)) → number question act ≡ Some k → HasOneMore h h' k p → HasAdded h h' p (numbers question act)
answered question act k p h h' e m = subst (λ o. HasAdded h h' p (option_to_list o)) (sym e) (added_one h h' k p m)

pub unanswered : (question : Question) (act : Act) (p : ℕ) (h : List (List ℕ)) → number question act ≡ None → HasAdded h h p (numbers question act)
unanswered question act p h e = subst (λ o. HasAdded h h p (option_to_list o)) (sym e) (added_none h p)

-- one more text
pub texts_more : (question : Question) (texts : List (List Act)) (n : ℕ) (acts : List Act) (g h h' : List (List ℕ)) → n < length texts → acts ≡ get_or texts n acts →
    HasAddedBelow g h question texts n → HasAdded h h' n (asked question acts) → HasAddedBelow g h' question texts (n + 1)
texts_more question texts n acts g h h' lt is m a =
    let same : acts ≡ text_at texts n = is ∙ get_or_default texts n acts [] lt in record {
      added = λ k p under c. ⊎_elim
          (λ (e : p ≡ n). subst (λ x. HasNumber h' k x) (sym e) (a.added k (subst (λ x. Contains (asked question x) k) (ap (text_at texts) e ∙ sym same) c)))
          (λ (no : p ≡ n → ⊥). a.kept k p (m.added k p (omega arith) c))
          (cases_eq p n);
      kept = λ k p e. a.kept k p (m.kept k p e);
      only = λ k p e. ⊎_elim (λ l. m.only k p l) (λ (f, c). inr (subst (λ x. Contains (asked question x) k) (same ∙ ap (text_at texts) (sym f)) c)) (a.only k p e);
    }
