-- What acts answer is what they do.
use Rattle.std.proofs.Common.{◌≡◌, ◌↔◌, ℕ, zero, suc, ◌==◌, ◌<◌, Bool, true, false, List, [], ◌∷◌, length, get_or, refl, sym, ◌∙◌, subst, arith, inl, inr, ◌⊎◌, ⊎_elim, Option, Some, None, option_to_list, eq-eqb}
use Rattle.std.proofs.lemmas.Bool.{false≢true, eqb-true}
use Rattle.std.proofs.lemmas.List.Elements.{Contains-push, Contains-append_cases, Contains-append_left, Contains-append_right}
use Rattle.std.proofs.lemmas.List.Folds.{Any-from_list_any, list_any-from_Any}
use Rattle.std.specs.List.{Any, Contains, flat_map, list_any}
use Rattle.tu_core.specs.declared.names.Variable.TheVariants.{Global, Local}
use Rattle.tu_core.specs.Core.{Calls}
use Rattle.tu_core.specs.Acts.{Subject, AVariable, ACollection, Act, Reading, Changing, Naming, Talking, Calling, Binding, Declaring, Defining, Fixing}
use Rattle.tu_core.specs.Effects.{called, changes, is_one, is_outer, reads, talks}
use Rattle.tu_effects.specs.declared.question.Question.TheVariants as asks
use Rattle.tu_effects.specs.Questions.{asked, changed, collection_number, numbers, outer_number, touched, variable_number}
use Rattle.tu_effects.proofs.Adding.{none_in, the_one}

pub flat_out : {X A : Type 0} (f : X → List A) (xs : List X) (k : A) → Contains (flat_map f xs) k → (x : X) × Contains xs x × Contains (f x) k
flat_out f [] k h = none_in k h
flat_out f (x ∷ xs) k h = ⊎_elim
    (λ l. (x, Contains-append_left (x ∷ []) xs x (Contains-push [] x), l))
    (λ r. let o = flat_out f xs k r in (o.0, Contains-append_right (x ∷ []) xs o.0 o.1, o.2))
    (Contains-append_cases (f x) (flat_map f xs) k h)

flat_of : {X A : Type 0} (f : X → List A) (xs : List X) (y : X) (k : A) → Contains (f y) k → (i : ℕ) → i < length xs → get_or xs i y ≡ y → Contains (flat_map f xs) k
flat_of f [] y k h i lt is = absurd (omega arith)
flat_of f (x ∷ xs) y k h zero lt is = Contains-append_left (f x) (flat_map f xs) k (subst (λ z. Contains (f z) k) (sym is) h)
flat_of f (x ∷ xs) y k h (suc i) lt is = Contains-append_right (f x) (flat_map f xs) k (flat_of f xs y k h i (omega arith) is)

pub flat_in : {X A : Type 0} (f : X → List A) (xs : List X) (y : X) (k : A) → Contains xs y → Contains (f y) k → Contains (flat_map f xs) k
flat_in f xs y k (i, lt, is) h = flat_of f xs y k h i lt is

pub any_out : {X : Type 0} (t : X → Bool) (xs : List X) → list_any t xs ≡ true → (x : X) × Contains xs x × (t x ≡ true)
any_out t xs h = let a : Any (λ x. t x ≡ true) xs = Any-from_list_any t xs h in (a.1, (a.0, a.2, a.3), a.4)

pub any_in : {X : Type 0} (t : X → Bool) (xs : List X) (x : X) → Contains xs x → t x ≡ true → list_any t xs ≡ true
any_in t xs x c h = list_any-from_Any t xs (c.0, x, c.1, c.2, h)

-- what a subject that is perhaps there is
abbrev pub sees : Subject → Option Subject → Bool
sees x None = false
sees x (Some y) = is_one x y

pub changes_are : (x : Subject) (act : Act) → changes x act ≡ sees x (changed act)
changes_are x (Reading at y) = refl
changes_are x (Changing at y) = refl
changes_are x (Naming at y) = refl
changes_are x (Talking at) = refl
changes_are x (Calling call) = refl
changes_are x (Binding at name is_var path extent) = refl
changes_are x (Declaring at y) = refl
changes_are x (Defining at y) = refl
changes_are x (Fixing fixed extent) = refl

touch_read : (x : Subject) (act : Act) → reads x act ≡ true → sees x (touched act) ≡ true
touch_read x (Reading at y) h = h
touch_read x (Changing at y) h = absurd (false≢true h)
touch_read x (Naming at y) h = absurd (false≢true h)
touch_read x (Talking at) h = absurd (false≢true h)
touch_read x (Calling call) h = absurd (false≢true h)
touch_read x (Binding at name is_var path extent) h = absurd (false≢true h)
touch_read x (Declaring at y) h = absurd (false≢true h)
touch_read x (Defining at y) h = absurd (false≢true h)
touch_read x (Fixing fixed extent) h = absurd (false≢true h)

touch_changed : (x : Subject) (act : Act) → changes x act ≡ true → sees x (touched act) ≡ true
touch_changed x (Reading at y) h = absurd (false≢true h)
touch_changed x (Changing at y) h = h
touch_changed x (Naming at y) h = absurd (false≢true h)
touch_changed x (Talking at) h = absurd (false≢true h)
touch_changed x (Calling call) h = absurd (false≢true h)
touch_changed x (Binding at name is_var path extent) h = absurd (false≢true h)
touch_changed x (Declaring at y) h = h
touch_changed x (Defining at y) h = h
touch_changed x (Fixing fixed extent) h = absurd (false≢true h)

touched_are : (x : Subject) (act : Act) → sees x (touched act) ≡ true → (reads x act ≡ true) ⊎ (changes x act ≡ true)
touched_are x (Reading at y) h = inl h
touched_are x (Changing at y) h = inr h
touched_are x (Naming at y) h = absurd (false≢true h)
touched_are x (Talking at) h = absurd (false≢true h)
touched_are x (Calling call) h = absurd (false≢true h)
touched_are x (Binding at name is_var path extent) h = absurd (false≢true h)
touched_are x (Declaring at y) h = inr h
touched_are x (Defining at y) h = inr h
touched_are x (Fixing fixed extent) h = absurd (false≢true h)

one_number : (k m : ℕ) → Contains (m ∷ []) k ↔ ((k == m) ≡ true)
one_number k m = (λ h. eq-eqb k m (sym (the_one m k h)), λ h. subst (λ x. Contains (m ∷ []) x) (sym (eqb-true k m h)) (Contains-push [] m))

nothing : (k : ℕ) → Contains [] k ↔ (false ≡ true)
nothing k = (λ h. none_in k h, λ h. absurd (false≢true h))

variable_is : (k : ℕ) (o : Option Subject) → Contains (option_to_list (variable_number o)) k ↔ (sees (AVariable (Global k)) o ≡ true)
variable_is k None = nothing k
variable_is k (Some (AVariable (Global m))) = one_number k m
variable_is k (Some (AVariable (Local m))) = nothing k
variable_is k (Some (ACollection c)) = nothing k

collection_is : (k : ℕ) (o : Option Subject) → Contains (option_to_list (collection_number o)) k ↔ (sees (ACollection k) o ≡ true)
collection_is k None = nothing k
collection_is k (Some (AVariable x)) = nothing k
collection_is k (Some (ACollection c)) = one_number k c

outer_out : (o : Option Subject) → Contains (option_to_list (outer_number o)) 0 → (x : Subject) × (is_outer x ≡ true) × (sees x o ≡ true)
outer_out None h = none_in 0 h
outer_out (Some (AVariable (Global m))) h = (AVariable (Global m), refl, eq-eqb m m refl)
outer_out (Some (AVariable (Local m))) h = none_in 0 h
outer_out (Some (ACollection c)) h = (ACollection c, refl, eq-eqb c c refl)

zero_in : Contains {X = ℕ} (0 ∷ []) 0
zero_in = Contains-push {X = ℕ} [] 0

outer_in : (x : Subject) (o : Option Subject) → is_outer x ≡ true → sees x o ≡ true → Contains (option_to_list (outer_number o)) 0
outer_in x None out h = absurd (false≢true h)
outer_in x (Some (AVariable (Global m))) out h = zero_in
outer_in (AVariable (Global k)) (Some (AVariable (Local m))) out h = absurd (false≢true h)
outer_in (AVariable (Local k)) (Some (AVariable (Local m))) out h = absurd (false≢true out)
outer_in (ACollection c) (Some (AVariable (Local m))) out h = absurd (false≢true h)
outer_in x (Some (ACollection c)) out h = zero_in

-- the subjects of which a question is
abbrev pub AskedFor : (Option Subject → Option ℕ) → Subject → ℕ → Type 0
AskedFor numbering x k = (o : Option Subject) → Contains (option_to_list (numbering o)) k ↔ (sees x o ≡ true)

pub of_variables : (k : ℕ) → AskedFor variable_number (AVariable (Global k)) k
of_variables k o = variable_is k o

pub of_collections : (k : ℕ) → AskedFor collection_number (ACollection k) k
of_collections k o = collection_is k o

module _ (numbering : Option Subject → Option ℕ) (x : Subject) (k : ℕ) (is : AskedFor numbering x k) (acts : List Act) where
  pub changers : Contains (flat_map (λ act. option_to_list (numbering (changed act))) acts) k ↔ (list_any (changes x) acts ≡ true)
  changers = (
    λ h. let o = flat_out (λ act. option_to_list (numbering (changed act))) acts k h in any_in (changes x) acts o.0 o.1 (changes_are x o.0 ∙ (is (changed o.0)).0 o.2),
    λ h. let o = any_out (changes x) acts h in flat_in (λ act. option_to_list (numbering (changed act))) acts o.0 k o.1 ((is (changed o.0)).1 (sym (changes_are x o.0) ∙ o.2)),
  )

  pub touchers : Contains (flat_map (λ act. option_to_list (numbering (touched act))) acts) k ↔ ((list_any (reads x) acts ≡ true) ⊎ (list_any (changes x) acts ≡ true))
  touchers = (
    λ h. let o = flat_out (λ act. option_to_list (numbering (touched act))) acts k h in
        ⊎_elim (λ l. inl (any_in (reads x) acts o.0 o.1 l)) (λ r. inr (any_in (changes x) acts o.0 o.1 r)) (touched_are x o.0 ((is (touched o.0)).0 o.2)),
    λ h. ⊎_elim
        (λ l. let o = any_out (reads x) acts l in flat_in (λ act. option_to_list (numbering (touched act))) acts o.0 k o.1 ((is (touched o.0)).1 (touch_read x o.0 o.2)))
        (λ r. let o = any_out (changes x) acts r in flat_in (λ act. option_to_list (numbering (touched act))) acts o.0 k o.1 ((is (touched o.0)).1 (touch_changed x o.0 o.2))) h,
  )

pub outer_changers : (acts : List Act) → Contains (asked asks.ChangesOuter acts) 0 ↔ ((x : Subject) × (is_outer x ≡ true) × (list_any (changes x) acts ≡ true))
outer_changers acts = (
  λ h. let o = flat_out (numbers asks.ChangesOuter) acts 0 h in let s = outer_out (changed o.0) o.2 in (s.0, s.1, any_in (changes s.0) acts o.0 o.1 (changes_are s.0 o.0 ∙ s.2)),
  λ (x, out, h). let o = any_out (changes x) acts h in flat_in (numbers asks.ChangesOuter) acts o.0 0 o.1 (outer_in x (changed o.0) out (sym (changes_are x o.0) ∙ o.2)),
)

talks_out : (act : Act) → Contains (numbers asks.Talks act) 0 → talks act ≡ true
talks_out (Talking at) h = refl
talks_out (Reading at y) h = none_in 0 h
talks_out (Changing at y) h = none_in 0 h
talks_out (Naming at y) h = none_in 0 h
talks_out (Calling call) h = none_in 0 h
talks_out (Binding at name is_var path extent) h = none_in 0 h
talks_out (Declaring at y) h = none_in 0 h
talks_out (Defining at y) h = none_in 0 h
talks_out (Fixing fixed extent) h = none_in 0 h

talks_in : (act : Act) → talks act ≡ true → Contains (numbers asks.Talks act) 0
talks_in (Talking at) h = zero_in
talks_in (Reading at y) h = absurd (false≢true h)
talks_in (Changing at y) h = absurd (false≢true h)
talks_in (Naming at y) h = absurd (false≢true h)
talks_in (Calling call) h = absurd (false≢true h)
talks_in (Binding at name is_var path extent) h = absurd (false≢true h)
talks_in (Declaring at y) h = absurd (false≢true h)
talks_in (Defining at y) h = absurd (false≢true h)
talks_in (Fixing fixed extent) h = absurd (false≢true h)

pub talkers : (acts : List Act) → Contains (asked asks.Talks acts) 0 ↔ (list_any talks acts ≡ true)
talkers acts = (
  λ h. let o = flat_out (numbers asks.Talks) acts 0 h in any_in talks acts o.0 o.1 (talks_out o.0 o.2),
  λ h. let o = any_out talks acts h in flat_in (numbers asks.Talks) acts o.0 0 o.1 (talks_in o.0 o.2),
)

-- the calls of an act, with those of an invariant
called_out : (act : Act) (q : ℕ) → Contains (called act) q → Contains (numbers asks.Calls act) q ⊎ Contains (numbers asks.CallsInvariant act) q
called_out (Calling (Calls at callee invariant actuals)) q h = Contains-append_cases (callee ∷ []) (option_to_list invariant) q h
called_out (Reading at y) q h = none_in q h
called_out (Changing at y) q h = none_in q h
called_out (Naming at y) q h = none_in q h
called_out (Talking at) q h = none_in q h
called_out (Binding at name is_var path extent) q h = none_in q h
called_out (Declaring at y) q h = none_in q h
called_out (Defining at y) q h = none_in q h
called_out (Fixing fixed extent) q h = none_in q h

callee_in : (act : Act) (q : ℕ) → Contains (numbers asks.Calls act) q → Contains (called act) q
callee_in (Calling (Calls at callee invariant actuals)) q h = Contains-append_left (callee ∷ []) (option_to_list invariant) q h
callee_in (Reading at y) q h = none_in q h
callee_in (Changing at y) q h = none_in q h
callee_in (Naming at y) q h = none_in q h
callee_in (Talking at) q h = none_in q h
callee_in (Binding at name is_var path extent) q h = none_in q h
callee_in (Declaring at y) q h = none_in q h
callee_in (Defining at y) q h = none_in q h
callee_in (Fixing fixed extent) q h = none_in q h

invariant_in : (act : Act) (q : ℕ) → Contains (numbers asks.CallsInvariant act) q → Contains (called act) q
invariant_in (Calling (Calls at callee invariant actuals)) q h = Contains-append_right (callee ∷ []) (option_to_list invariant) q h
invariant_in (Reading at y) q h = none_in q h
invariant_in (Changing at y) q h = none_in q h
invariant_in (Naming at y) q h = none_in q h
invariant_in (Talking at) q h = none_in q h
invariant_in (Binding at name is_var path extent) q h = none_in q h
invariant_in (Declaring at y) q h = none_in q h
invariant_in (Defining at y) q h = none_in q h
invariant_in (Fixing fixed extent) q h = none_in q h

pub callers : (acts : List Act) (q : ℕ) → Contains (flat_map called acts) q ↔ (Contains (asked asks.Calls acts) q ⊎ Contains (asked asks.CallsInvariant acts) q)
callers acts q = (
  λ h. let o = flat_out called acts q h in
      ⊎_elim (λ l. inl (flat_in (numbers asks.Calls) acts o.0 q o.1 l)) (λ r. inr (flat_in (numbers asks.CallsInvariant) acts o.0 q o.1 r)) (called_out o.0 q o.2),
  λ h. ⊎_elim
      (λ l. let o = flat_out (numbers asks.Calls) acts q l in flat_in called acts o.0 q o.1 (callee_in o.0 q o.2))
      (λ r. let o = flat_out (numbers asks.CallsInvariant) acts q r in flat_in called acts o.0 q o.1 (invariant_in o.0 q o.2)) h,
)
