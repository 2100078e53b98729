-- The steps of a search keep what it says of its marks, and where nothing is left to follow they are right.
use Rattle.std.proofs.Common.{◌≡◌, ℕ, ◌+◌, ◌<◌, zero, suc, replicate, Bool, true, false, not, List, [], ◌∷◌, ◌++◌, length, get_or, set, refl, sym, ◌∙◌, ap, subst, arith, inl, inr, ◌⊎◌, ⊎_elim, cond, get_or-set_same, get_or-set_other, if◌then◌else◌}
use Rattle.std.proofs.lemmas.Bool.{cases_eq, false≢true}
use Rattle.std.proofs.lemmas.List.{length-set, length_push}
use Rattle.std.proofs.lemmas.List.Sums.{sum_by-set}
use Rattle.std.proofs.lemmas.List.Elements.{Contains-push, Contains-push_cases, Contains-append_cases, Contains-append_left, Contains-append_right}
use Rattle.std.specs.List.{Contains}
use Rattle.tu_core.specs.Effects.{Leads, here, step}
use Rattle.tu_reach.specs.Rows.{row, IsCaller, LeadsToOne}
use Rattle.tu_reach.specs.Marks.{unmarked, is_marked, IsMarked, IsUnmarked, HasMarked, HasMarkedAll, IsSearch, IsFound}

none_in : {P : Type 0} (a : ℕ) → Contains [] a → P
none_in a (k, lt, is) = absurd (omega arith)

the_one : (b a : ℕ) → Contains (b ∷ []) a → b ≡ a
the_one b a h = ⊎_elim (λ e. none_in a e) (λ e. e) (Contains-push_cases [] b a h)

set_kept : (marks : List Bool) (a b : ℕ) → a < length marks → IsMarked marks b → IsMarked (set marks a true) b
set_kept marks a b lt m =
    ⊎_elim
    (λ (e : b ≡ a). subst (λ x. IsMarked (set marks a true) x) (sym e) (get_or-set_same marks a true false lt))
    (λ (n : b ≡ a → ⊥). get_or-set_other marks a b true false n ∙ m)
    (cases_eq b a)

set_only : (marks : List Bool) (a b : ℕ) → IsMarked (set marks a true) b → IsMarked marks b ⊎ (a ≡ b)
set_only marks a b m =
    ⊎_elim
    (λ (e : b ≡ a). inr (sym e))
    (λ (n : b ≡ a → ⊥). inl (sym (get_or-set_other marks a b true false n) ∙ m))
    (cases_eq b a)

true_again : (marks : List Bool) (a b : ℕ) → IsMarked marks a → IsMarked (set marks a true) b → IsMarked marks b
true_again marks a b is m = ⊎_elim (λ h. h) (λ (e : a ≡ b). subst (λ x. IsMarked marks x) e is) (set_only marks a b m)

as_before : (marks : List Bool) (a : ℕ) → a < length marks → IsMarked marks a → unmarked (set marks a true) ≡ unmarked marks
as_before marks a lt is =
    let e = sum_by-set (λ (x : Bool). cond (not x) 1 0) marks a true false lt in
    let f = rw is at e in
    omega arith

one_less : (marks : List Bool) (a : ℕ) → a < length marks → get_or marks a false ≡ false → unmarked (set marks a true) + 1 ≡ unmarked marks
one_less marks a lt is =
    let e = sum_by-set (λ (x : Bool). cond (not x) 1 0) marks a true false lt in
    let f = rw is at e in
    omega arith

marked_again : (marks : List Bool) (work : List ℕ) (a : ℕ) → a < length marks → IsMarked marks a → HasMarkedAll marks work (set marks a true) work (a ∷ [])
marked_again marks work a lt is = record {
  same_length = length-set marks a true;
  marks_kept = λ b m. set_kept marks a b lt m;
  work_kept = λ b m. m;
  texts_marked = λ b m. set_kept marks a b lt (subst (λ x. IsMarked marks x) (the_one a b m) is);
  only = λ b m. inl (true_again marks a b is m);
  to_do = λ b m. inl (true_again marks a b is m);
  listed = λ b m. inl m;
  fuel = ap (λ n. n + length work) (as_before marks a lt is);
}

marked_new : (marks : List Bool) (work : List ℕ) (a : ℕ) → a < length marks → get_or marks a false ≡ false → HasMarkedAll marks work (set marks a true) (work ++ a ∷ []) (a ∷ [])
marked_new marks work a lt is = record {
  same_length = length-set marks a true;
  marks_kept = λ b m. set_kept marks a b lt m;
  work_kept = λ b m. Contains-append_left work (a ∷ []) b m;
  texts_marked = λ b m. subst (λ x. IsMarked (set marks a true) x) (the_one a b m) (get_or-set_same marks a true false lt);
  only = λ b m. ⊎_elim (λ h. inl h) (λ (e : a ≡ b). inr (subst (λ x. Contains (a ∷ []) x) e (Contains-push [] a))) (set_only marks a b m);
  to_do = λ b m. ⊎_elim (λ h. inl h) (λ (e : a ≡ b). inr (subst (λ x. Contains (work ++ a ∷ []) x) e (Contains-push work a))) (set_only marks a b m);
  listed = λ b m. ⊎_elim (λ h. inl h) (λ (e : a ≡ b). inr (subst (λ x. IsMarked (set marks a true) x) e (get_or-set_same marks a true false lt))) (Contains-push_cases work a b m);
  fuel = let e = one_less marks a lt is in let f = length_push work a in omega arith;
}

marked_one_at : (b : Bool) (marks : List Bool) (work marks' work' : _) (a : ℕ) → a < length marks → get_or marks a false ≡ b →
    marks' ≡ set marks a true → work' ≡ (if b then work else work ++ a ∷ []) → HasMarkedAll marks work marks' work' (a ∷ [])
marked_one_at true marks work marks' work' a lt is e f =
    subst (λ m. HasMarkedAll marks work m work' (a ∷ [])) (sym e)
    (subst (λ w. HasMarkedAll marks work (set marks a true) w (a ∷ [])) (sym f) (marked_again marks work a lt is))
marked_one_at false marks work marks' work' a lt is e f =
    subst (λ m. HasMarkedAll marks work m work' (a ∷ [])) (sym e)
    (subst (λ w. HasMarkedAll marks work (set marks a true) w (a ∷ [])) (sym f) (marked_new marks work a lt is))

pub marked_one : (marks : List Bool) (work : List ℕ) (marks' : List Bool) (work' : List ℕ) (a : ℕ) → a < length marks →
    HasMarked marks work marks' work' a → HasMarkedAll marks work marks' work' (a ∷ [])
marked_one marks work marks' work' a lt h = marked_one_at (get_or marks a false) marks work marks' work' a lt refl h.marks_are h.work_is

pub marked_both : (m m' m'' : List Bool) (w w' w'' xs ys : List ℕ) →
    HasMarkedAll m w m' w' xs → HasMarkedAll m' w' m'' w'' ys → HasMarkedAll m w m'' w'' (xs ++ ys)
marked_both m m' m'' w w' w'' xs ys f g = record {
  same_length = g.same_length ∙ f.same_length;
  marks_kept = λ a h. g.marks_kept a (f.marks_kept a h);
  work_kept = λ a h. g.work_kept a (f.work_kept a h);
  texts_marked = λ a h. ⊎_elim (λ l. g.marks_kept a (f.texts_marked a l)) (λ r. g.texts_marked a r) (Contains-append_cases xs ys a h);
  only = λ a h. ⊎_elim
      (λ l. ⊎_elim (λ k. inl k) (λ k. inr (Contains-append_left xs ys a k)) (f.only a l))
      (λ r. inr (Contains-append_right xs ys a r)) (g.only a h);
  to_do = λ a h. ⊎_elim
      (λ l. ⊎_elim (λ k. inl k) (λ k. inr (g.work_kept a k)) (f.to_do a l))
      (λ r. inr r) (g.to_do a h);
  listed = λ a h. ⊎_elim
      (λ l. ⊎_elim (λ k. inl k) (λ k. inr (g.marks_kept a k)) (f.listed a l))
      (λ r. inr r) (g.listed a h);
  fuel = g.fuel ∙ f.fuel;
}

pub search_begins : (g : List (List ℕ)) (texts : List ℕ) (m m' : List Bool) (w w' : List ℕ) → IsUnmarked m → w ≡ [] →
    HasMarkedAll m w m' w' texts → IsSearch g texts m' w'
search_begins g texts m m' w w' none e f = record {
  kept = λ a h. f.texts_marked a h;
  sound = λ a h. ⊎_elim (λ l. absurd (false≢true (sym (none a) ∙ l))) (λ r. (a, here, r)) (f.only a h);
  closed = λ b h. ⊎_elim (λ l. absurd (false≢true (sym (none b) ∙ l))) (λ r. inl r) (f.to_do b h);
  listed = λ a h. ⊎_elim (λ l. none_in a (subst (λ ys. Contains ys a) e l)) (λ r. r) (f.listed a h);
}

-- one text is taken from the list, and those that call it are marked
pub search_goes_on : (g : List (List ℕ)) (texts : List ℕ) (m m' : List Bool) (w w' : List ℕ) (q : ℕ) →
    IsSearch g texts m (w ++ q ∷ []) → HasMarkedAll m w m' w' (row g q) → IsSearch g texts m' w'
search_goes_on g texts m m' w w' q s f = record {
  kept = λ a h. f.marks_kept a (s.kept a h);
  sound = λ a h. ⊎_elim
      (λ l. s.sound a l)
      (λ (e : IsCaller g a q). let t : LeadsToOne g texts q = s.sound q (s.listed q (Contains-push w q)) in (t.0, step e t.1, t.2))
      (f.only a h);
  closed = λ b h. ⊎_elim
      (λ l. ⊎_elim
      (λ k. ⊎_elim
      (λ i. inl (f.work_kept b i))
      (λ (e : q ≡ b). inr (λ a (i : IsCaller g a b). f.texts_marked a (subst (λ x. IsCaller g a x) (sym e) i)))
      (Contains-push_cases w q b k))
      (λ k. inr (λ a i. f.marks_kept a (k a i)))
      (s.closed b l))
      (λ r. inl r)
      (f.to_do b h);
  listed = λ a h. ⊎_elim
      (λ l. f.marks_kept a (s.listed a (Contains-append_left w (q ∷ []) a l)))
      (λ r. r)
      (f.listed a h);
}

complete : (g : List (List ℕ)) (m : List Bool) → ((b : ℕ) → IsMarked m b → (a : ℕ) → IsCaller g a b → IsMarked m a) →
    (a b : ℕ) → Leads (IsCaller g) a b → IsMarked m b → IsMarked m a
complete g m closed a b here h = h
complete g m closed a b (step {b = c} e t) h = closed c (complete g m closed c b t h) a e

pub search_ends : (g : List (List ℕ)) (texts : List ℕ) (m : List Bool) → IsSearch g texts m [] → IsFound g texts m
search_ends g texts m s a =
    let closed = λ (b : ℕ) (h : IsMarked m b). ⊎_elim (λ (k : Contains [] b). none_in {P = (a : ℕ) → IsCaller g a b → IsMarked m a} b k) (λ k. k) (s.closed b h) in
    (λ h. s.sound a h, λ t. complete g m closed a t.0 t.1 (s.kept t.0 t.2))

pub no_items : (xs : List ℕ) → length xs ≡ 0 → xs ≡ []
no_items [] e = refl
no_items (x ∷ xs) e = absurd (omega (arith, e))

pub unmarked_new : (n a : ℕ) → is_marked (replicate n false) a ≡ false
unmarked_new zero a = refl
unmarked_new (suc n) zero = refl
unmarked_new (suc n) (suc a) = unmarked_new n a
