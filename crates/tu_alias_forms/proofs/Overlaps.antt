-- What passes the tests of a call does not overlap: the walk of two paths is right where a program runs.
use Rattle.std.proofs.Common.{◌≡◌, ◌≢◌, ℕ, zero, suc, ◌==◌, Bool, true, false, ◌&&◌, List, [], ◌∷◌, ◌++◌, length, ◌⊎◌, inl, inr, Option, Some, None, refl, sym, ◌∙◌, ap, subst, arith, append_assoc, if◌then◌else◌}
use Rattle.std.specs.Prelude.{ℤ, slice_get, slice_index_or, is_some}
use Rattle.std.proofs.lemmas.Bool.Decides.{nat_tests}
use Rattle.std.proofs.lemmas.Int.{ints}
use Rattle.tu_base.specs.declared.shape.Span.{Span}
use Rattle.tu_base.specs.declared.shape.Shape.{Shape}
use Rattle.tu_base.specs.declared.shape.Shape.TheVariants.{Scalar as scalar_shape, Text as text_shape, Set as set_shape, Pointer as pointer_shape, Array as array_shape, Record as record_shape, Union as union_shape}
use Rattle.tu_base.specs.Scalars.{are_equal}
use Rattle.tu_base.specs.Values.{Value, Way}
use Rattle.tu_core.specs.Core.{Path, Name, OpenItem, Element, ResultOf, Selectors, End, Field, VariantField, Item, Subscripts, NoSubscript, Subscript, Actuals, NoActual, Given, Lent}
use Rattle.tu_core.specs.declared.names.At.{At}
use Rattle.tu_core.specs.declared.names.Variable.{Variable}
use Rattle.tu_core.specs.declared.names.Variable.TheVariants.{Global, Local}
use Rattle.tu_core.specs.Rooms.{is_same}
use Rattle.tu_core.specs.Walk.{Noted, AtElements, AtStep, Verdict, Apart as IsApart, Same, Maybe, Brackets, Differ, Agree, Unknown, both_brackets, one_subscript, brackets, ended, behind_brackets, walk_steps, walk, Pair, pair_if, pairs_with, pairs_from, pairs_of}
use Rattle.tu_core.specs.Acts.{subject_of}
use Rattle.tu_core.specs.Overlap.{SharedWith, SharedIn}
use Rattle.tu_core.specs.Constants.{Known}
use Rattle.tu_core.specs.Typed.{SelectAlike, AreAlike, AlikeWith, LendsRight}
use Rattle.tu_meaning.specs.Words.{are_within, row_number, spans_of}
use Rattle.tu_meaning.specs.Store.{Root, OfProgram, OfActivation, OfCall, OfCollection, Place, Actual, GivenValue, LentPlace, lent_place, lent_at, creation_of, is_equal_at, are_equal_at, actuals_meet}
use Rattle.tu_meaning.specs.Expressions.{root_of}
use Rattle.tu_alias_store.proofs.Ways.{ApartWays, same_or_not}
use Rattle.tu_alias_store.proofs.Stores.{Apart}
use Rattle.tu_alias_store.proofs.Lent.{Away, AllApart}
use Rattle.tu_alias_forms.proofs.RowNumbers.{same_subscripts}

-- ---- what a run finds in place of a text's selectors and actuals

-- subscripts that are written as constants have their values
abbrev pub AreValues : Subscripts → List ℤ → Type 0
AreValues NoSubscript [] = Unit {0}
AreValues NoSubscript (x ∷ xs) = ⊥
AreValues (Subscript constant e more) [] = ⊥
AreValues (Subscript None e more) (x ∷ xs) = AreValues more xs
AreValues (Subscript (Some z) e more) (x ∷ xs) = (x ≡ z) × AreValues more xs

-- a component's number is that of the subscripts of a bracket
pub record IsBracket (spans : List Span) (es : Subscripts) (k : ℕ) : Type 0 where
  pub xs : List ℤ
  pub within : are_within spans xs ≡ true
  pub number_is : k ≡ row_number spans xs
  pub values : AreValues es xs

abbrev pub indexes_in : Shape → List Span
indexes_in (scalar_shape s) = []
indexes_in (text_shape most) = []
indexes_in (set_shape low members) = []
indexes_in (pointer_shape c) = []
indexes_in (array_shape indexes component) = indexes
indexes_in (record_shape fields) = []
indexes_in (union_shape tag variants) = []

module _ (shapes : List Shape) where
  abbrev pub indexes_at : ℕ → List Span
  indexes_at n = elim (slice_get shapes n) [ None ↦ [] | Some s ↦ indexes_in s ]

  -- a way is that of selectors
  abbrev pub Matches : Selectors → Way → Type 0
  Matches End way = way ≡ []
  Matches (Field n k more) way = (rest : Way) × (way ≡ k ∷ rest) × Matches more rest
  Matches (VariantField n k more) way = (rest : Way) × (way ≡ k ∷ rest) × Matches more rest
  Matches (Item n es more) way = (k : ℕ) × (rest : Way) × (way ≡ k ∷ rest) × IsBracket (indexes_at n) es k × Matches more rest

  -- a place is that of a path, where arrays have these bounds
  abbrev pub IsFound : (Variable → List ℤ) → Path → Place → Type 0
  IsFound bounds (Name at x steps) p = (p.root ≡ root_of x) × Matches steps p.way
  IsFound bounds (OpenItem at x indexes es steps) p = (p.root ≡ root_of x) × (k : ℕ) × (rest : Way) × (p.way ≡ k ∷ rest) × IsBracket (spans_of indexes (bounds x)) es k × Matches steps rest
  IsFound bounds (Element at c e steps) p = (k : ℕ) × (p.root ≡ OfCollection c k) × Matches steps p.way
  IsFound bounds (ResultOf at k call steps) p = (p.root ≡ OfCall k) × Matches steps p.way

  -- the actuals that were received are those of the text, at good places
  abbrev pub AreFound : (Variable → List ℤ) → (Place → Type 0) → Actuals → List Actual → Type 0
  AreFound bounds Good NoActual given = given ≡ []
  AreFound bounds Good (Given at size e more) given = (bs : List ℤ) × (v : Value) × (others : List Actual) × (given ≡ GivenValue bs v ∷ others) × AreFound bounds Good more others
  AreFound bounds Good (Lent at is_var known path more) given =
      (bs : List ℤ) × (p : Place) × (others : List Actual) × (given ≡ LentPlace is_var bs p ∷ others) × Good p × IsFound bounds path p × AreFound bounds Good more others

-- ---- brackets

equal_itself : (z : ℤ) → are_equal z z ≡ true
equal_itself z = grind (arith, ints)

differ_after : (b c : Brackets) → both_brackets b c ≡ Differ → (b ≡ Differ) ⊎ (c ≡ Differ)
differ_after Differ c e = inl refl
differ_after Agree c e = inr e
differ_after Unknown Differ e = inr refl
differ_after Unknown Agree e = absurd (let h : Unknown ≡ Differ = e in cc)
differ_after Unknown Unknown e = absurd (let h : Unknown ≡ Differ = e in cc)

if_agrees : (b : Bool) → b ≡ true → (if b then Agree else Differ) ≡ Differ → ⊥
if_agrees true e f = let h : Agree ≡ Differ = f in cc
if_agrees false e f = let h : false ≡ true = e in cc

-- where a pair of constants is different, so are the subscripts
differs : (ds es : Subscripts) (xs : List ℤ) → brackets ds es ≡ Differ → AreValues ds xs → AreValues es xs → ⊥
differs NoSubscript es xs e h g = let f : Agree ≡ Differ = e in cc
differs (Subscript a d ds) NoSubscript xs e h g = let f : Agree ≡ Differ = e in cc
differs (Subscript a d ds) (Subscript b f es) [] e h g = h
differs (Subscript None d ds) (Subscript b f es) (x ∷ xs) e h g = elim (differ_after Unknown (brackets ds es) e) [ inl u ↦ (let v : Unknown ≡ Differ = u in cc) | inr m ↦ differs ds es xs m h (later b g) ]
  where
    later : (b : Option ℤ) → AreValues (Subscript b f es) (x ∷ xs) → AreValues es xs
    later None g = g
    later (Some z) g = g.1
differs (Subscript (Some a) d ds) (Subscript None f es) (x ∷ xs) e h g = elim (differ_after Unknown (brackets ds es) e) [ inl u ↦ (let v : Unknown ≡ Differ = u in cc) | inr m ↦ differs ds es xs m h.1 g ]
differs (Subscript (Some a) d ds) (Subscript (Some b) f es) (x ∷ xs) e h g = elim (differ_after (one_subscript (Some a) (Some b)) (brackets ds es) e) [
  | inl u ↦ if_agrees (are_equal a b) (subst (λ z. are_equal a z ≡ true) (sym h.0 ∙ g.0) (equal_itself a)) u
  | inr m ↦ differs ds es xs m h.1 g.1
]

components_differ : (spans : List Span) (ds es : Subscripts) (k j : ℕ) → brackets ds es ≡ Differ → IsBracket spans ds k → IsBracket spans es j → k ≢ j
components_differ spans ds es k j e a b same =
    let xs : a.xs ≡ b.xs = same_subscripts spans a.xs b.xs a.within b.within (sym a.number_is ∙ same ∙ b.number_is) in
    differs ds es b.xs e (subst (AreValues ds) xs a.values) b.values

-- ---- the walk behind the roots

-- what a verdict says of two ways that go on from the same component, where these tests were noted before
abbrev Says : (p q : Place) → (ws us : Way) → (noted : List Noted) → Verdict → Type 0
Says p q ws us noted IsApart = ApartWays ws us
Says p q ws us noted Same = Unit {0}
Says p q ws us noted (Maybe tests) = are_equal_at p q tests ≡ false → are_equal_at p q noted ≡ true → ApartWays ws us

says_ended : (p q : Place) (ws us : Way) (noted : List Noted) → Says p q ws us noted (ended noted)
says_ended p q ws us [] = tt
says_ended p q ws us (n ∷ more) = λ no so. absurd (let h : true ≡ false = sym so ∙ no in cc)

says_apart : (p q : Place) (ws us : Way) (noted : List Noted) (v : Verdict) → ApartWays ws us → Says p q ws us noted v
says_apart p q ws us noted IsApart a = a
says_apart p q ws us noted Same a = tt
says_apart p q ws us noted (Maybe tests) a = λ no so. a

says_behind : (p q : Place) (k j : ℕ) (ws us : Way) (noted : List Noted) (v : Verdict) → k ≡ j → Says p q ws us noted v → Says p q (k ∷ ws) (j ∷ us) noted v
says_behind p q k j ws us noted IsApart e a = inr (e, a)
says_behind p q k j ws us noted Same e a = tt
says_behind p q k j ws us noted (Maybe tests) e a = λ no so. inr (e, a no so)

-- a test more was noted, which finds equal components
says_noted : (p q : Place) (ws us : Way) (noted more : List Noted) (v : Verdict) → (are_equal_at p q noted ≡ true → are_equal_at p q more ≡ true) → Says p q ws us more v → Says p q ws us noted v
says_noted p q ws us noted more IsApart h a = a
says_noted p q ws us noted more Same h a = tt
says_noted p q ws us noted more (Maybe tests) h a = λ no so. a no (h so)

says_if : (p q : Place) (ws us : Way) (noted : List Noted) (b : Bool) (v : Verdict) → (b ≡ true → Says p q ws us noted v) → (b ≡ false → ApartWays ws us) → Says p q ws us noted (if b then v else IsApart)
says_if p q ws us noted true v h g = h refl
says_if p q ws us noted false v h g = g refl

component_at : (front : Way) (k : ℕ) (rest : Way) → slice_index_or (front ++ k ∷ rest) (length front) 0 ≡ k
component_at [] k rest = refl
component_at (j ∷ front) k rest = component_at front k rest

same_number : (x y : ℕ) → (x == y) ≡ true → x ≡ y
same_number x y e = grind (arith, nat_tests)

other_number : (x y : ℕ) → (x == y) ≡ false → x ≢ y
other_number x y e = grind (arith, nat_tests)

equal_numbers : (x y : ℕ) → x ≡ y → (x == y) ≡ true
equal_numbers x y e = grind (arith, nat_tests)

equal_more : (p q : Place) (noted : List Noted) (n : Noted) → is_equal_at p q n ≡ true → are_equal_at p q noted ≡ true → are_equal_at p q (noted ++ n ∷ []) ≡ true
equal_more p q [] n e h = subst (λ b. (b && true) ≡ true) (sym e) refl
equal_more p q (m ∷ noted) n e h = by (is_equal_at p q m) h (λ so. equal_more p q noted n e so)
  where
    by : (b : Bool) → (b && are_equal_at p q noted) ≡ true → (are_equal_at p q noted ≡ true → are_equal_at p q (noted ++ n ∷ []) ≡ true) → (b && are_equal_at p q (noted ++ n ∷ [])) ≡ true
    by true h ih = ih h
    by false h ih = absurd (let f : false ≡ true = h in cc)

behind_front : (way front : Way) (k : ℕ) (ws rest : Way) → way ≡ front ++ ws → ws ≡ k ∷ rest → way ≡ (front ++ k ∷ []) ++ rest
behind_front way front k ws rest e f = e ∙ ap (λ z. front ++ z) f ∙ sym (append_assoc front (k ∷ []) rest)

longer : (front : Way) (k position : ℕ) → length front ≡ position → length (front ++ k ∷ []) ≡ suc position
longer [] k position e = ap suc e
longer (j ∷ front) k zero e = absurd (let h : suc (length front) ≡ zero = e in cc)
longer (j ∷ front) k (suc position) e = ap suc (longer front k position (let h : suc (length front) ≡ suc position = e in omega (arith, h)))

module _ (shapes : List Shape) where
  -- what the brackets of two components say
  says_brackets : (b : Brackets) (spans : List Span) (ds es : Subscripts) (p q : Place) (position k j : ℕ) (ws us : Way) (noted : List Noted) (go_on : List Noted → Verdict) → brackets ds es ≡ b → IsBracket spans ds k → IsBracket spans es j →
      (k ≡ j → is_equal_at p q (AtStep position) ≡ true) → ((more : List Noted) → k ≡ j → Says p q ws us more (go_on more)) → Says p q (k ∷ ws) (j ∷ us) noted (behind_brackets b position noted go_on)
  says_brackets Differ spans ds es p q position k j ws us noted go_on e a c equal h = inl (components_differ spans ds es k j e a c)
  says_brackets Agree spans ds es p q position k j ws us noted go_on e a c equal h = elim (same_or_not k j) [
    | inl same ↦ says_behind p q k j ws us noted (go_on noted) same (h noted same)
    | inr ne ↦ says_apart p q (k ∷ ws) (j ∷ us) noted (go_on noted) (inl ne)
  ]
  says_brackets Unknown spans ds es p q position k j ws us noted go_on e a c equal h =
      let more : List Noted = noted ++ AtStep position ∷ [] in elim (same_or_not k j) [
        | inl same ↦ says_noted p q (k ∷ ws) (j ∷ us) noted more (go_on more) (equal_more p q noted (AtStep position) (equal same)) (says_behind p q k j ws us more (go_on more) same (h more same))
        | inr ne ↦ says_apart p q (k ∷ ws) (j ∷ us) noted (go_on more) (inl ne)
      ]

  step_equal : (p q : Place) (position k j : ℕ) (front front' ws us : Way) → p.way ≡ front ++ k ∷ ws → q.way ≡ front' ++ j ∷ us → length front ≡ position → length front' ≡ position → k ≡ j → is_equal_at p q (AtStep position) ≡ true
  step_equal p q position k j front front' ws us e f l m same =
      let a : slice_index_or p.way position 0 ≡ k = ap (λ w. slice_index_or w position 0) e ∙ ap (λ n. slice_index_or (front ++ k ∷ ws) n 0) (sym l) ∙ component_at front k ws in
      let b : slice_index_or q.way position 0 ≡ j = ap (λ w. slice_index_or w position 0) f ∙ ap (λ n. slice_index_or (front' ++ j ∷ us) n 0) (sym m) ∙ component_at front' j us in
      equal_numbers (slice_index_or p.way position 0) (slice_index_or q.way position 0) (a ∙ same ∙ sym b)

  says_walk : (position : ℕ) (noted : List Noted) (xs ys : Selectors) (p q : Place) (front front' ws us : Way) → p.way ≡ front ++ ws → q.way ≡ front' ++ us → length front ≡ position → length front' ≡ position →
      Matches shapes xs ws → Matches shapes ys us → SelectAlike xs ys → Says p q ws us noted (walk_steps position noted xs ys)
  says_walk position noted End ys p q front front' ws us e f l m h g like = says_ended p q ws us noted
  says_walk position noted (Field n k xs) End p q front front' ws us e f l m h g like = says_ended p q ws us noted
  says_walk position noted (VariantField n k xs) End p q front front' ws us e f l m h g like = says_ended p q ws us noted
  says_walk position noted (Item n ds xs) End p q front front' ws us e f l m h g like = says_ended p q ws us noted
  says_walk position noted (Field n k xs) (Field o j ys) p q front front' ws us e f l m h g like =
      subst (λ z. Says p q z us noted (if k == j then walk_steps (suc position) noted xs ys else IsApart)) (sym h.1) (subst (λ z. Says p q (k ∷ h.0) z noted (if k == j then walk_steps (suc position) noted xs ys else IsApart)) (sym g.1)
      (says_if p q (k ∷ h.0) (j ∷ g.0) noted (k == j) (walk_steps (suc position) noted xs ys)
      (λ so. says_behind p q k j h.0 g.0 noted (walk_steps (suc position) noted xs ys) (same_number k j so)
      (says_walk (suc position) noted xs ys p q (front ++ k ∷ []) (front' ++ j ∷ []) h.0 g.0 (behind_front p.way front k ws h.0 e h.1) (behind_front q.way front' j us g.0 f g.1) (longer front k position l) (longer front' j position m) h.2 g.2 (like (same_number k j so))))
      (λ no. inl (other_number k j no))))
  says_walk position noted (Field n k xs) (VariantField o j ys) p q front front' ws us e f l m h g like = subst (λ z. ApartWays z us) (sym h.1) (subst (λ z. ApartWays (k ∷ h.0) z) (sym g.1) (inl like))
  says_walk position noted (Field n k xs) (Item o es ys) p q front front' ws us e f l m h g like = absurd like
  says_walk position noted (VariantField n k xs) (Field o j ys) p q front front' ws us e f l m h g like = subst (λ z. ApartWays z us) (sym h.1) (subst (λ z. ApartWays (k ∷ h.0) z) (sym g.1) (inl like))
  says_walk position noted (VariantField n k xs) (VariantField o j ys) p q front front' ws us e f l m h g like =
      subst (λ z. Says p q z us noted (if k == j then walk_steps (suc position) noted xs ys else IsApart)) (sym h.1) (subst (λ z. Says p q (k ∷ h.0) z noted (if k == j then walk_steps (suc position) noted xs ys else IsApart)) (sym g.1)
      (says_if p q (k ∷ h.0) (j ∷ g.0) noted (k == j) (walk_steps (suc position) noted xs ys)
      (λ so. says_behind p q k j h.0 g.0 noted (walk_steps (suc position) noted xs ys) (same_number k j so)
      (says_walk (suc position) noted xs ys p q (front ++ k ∷ []) (front' ++ j ∷ []) h.0 g.0 (behind_front p.way front k ws h.0 e h.1) (behind_front q.way front' j us g.0 f g.1) (longer front k position l) (longer front' j position m) h.2 g.2 (like (same_number k j so))))
      (λ no. inl (other_number k j no))))
  says_walk position noted (VariantField n k xs) (Item o es ys) p q front front' ws us e f l m h g like = absurd like
  says_walk position noted (Item n ds xs) (Field o j ys) p q front front' ws us e f l m h g like = absurd like
  says_walk position noted (Item n ds xs) (VariantField o j ys) p q front front' ws us e f l m h g like = absurd like
  says_walk position noted (Item n ds xs) (Item o es ys) p q front front' ws us e f l m h g like =
      let k : ℕ = h.0 in let j : ℕ = g.0 in
      let v : List Noted → Verdict = λ more. walk_steps (suc position) more xs ys in
      subst (λ z. Says p q z us noted (behind_brackets (brackets ds es) position noted v)) (sym h.2) (subst (λ z. Says p q (k ∷ h.1) z noted (behind_brackets (brackets ds es) position noted v)) (sym g.2)
      (says_brackets (brackets ds es) (indexes_at shapes n) ds es p q position k j h.1 g.1 noted v refl h.3 (subst (λ i. IsBracket (indexes_at shapes i) es j) (sym like.0) g.3)
      (step_equal p q position k j front front' h.1 g.1 (e ∙ ap (λ z. front ++ z) h.2) (f ∙ ap (λ z. front' ++ z) g.2) l m)
      (λ more same. says_walk (suc position) more xs ys p q (front ++ k ∷ []) (front' ++ j ∷ []) h.1 g.1 (behind_front p.way front k ws h.1 e h.2) (behind_front q.way front' j us g.1 f g.2) (longer front k position l) (longer front' j position m) h.4 g.4 like.1)))

  -- ---- two paths

  abbrev SaysPlaces : (p q : Place) → Verdict → Type 0
  SaysPlaces p q IsApart = Apart p q
  SaysPlaces p q Same = Unit {0}
  SaysPlaces p q (Maybe tests) = are_equal_at p q tests ≡ false → Apart p q

  of_ways : (p q : Place) (v : Verdict) → Says p q p.way q.way [] v → SaysPlaces p q v
  of_ways p q IsApart a = λ e. a
  of_ways p q Same a = tt
  of_ways p q (Maybe tests) a = λ no e. a no refl

  other_roots : (p q : Place) (v : Verdict) → p.root ≢ q.root → SaysPlaces p q v
  other_roots p q IsApart ne = λ e. absurd (ne e)
  other_roots p q Same ne = tt
  other_roots p q (Maybe tests) ne = λ no e. absurd (ne e)

  places_if : (p q : Place) (b : Bool) (v : Verdict) → (b ≡ true → SaysPlaces p q v) → (b ≡ false → p.root ≢ q.root) → SaysPlaces p q (if b then v else IsApart)
  places_if p q true v h g = h refl
  places_if p q false v h g = other_roots p q IsApart (g refl)

  same_variable : (x y : Variable) → is_same x y ≡ true → x ≡ y
  same_variable (Global x) (Global y) e = ap Global (same_number x y e)
  same_variable (Global x) (Local y) e = absurd (let h : false ≡ true = e in cc)
  same_variable (Local x) (Global y) e = absurd (let h : false ≡ true = e in cc)
  same_variable (Local x) (Local y) e = ap Local (same_number x y e)

  other_variable : (x y : Variable) → is_same x y ≡ false → root_of x ≢ root_of y
  other_variable (Global x) (Global y) e f = other_number x y e (let h : OfProgram x ≡ OfProgram y = f in cc)
  other_variable (Global x) (Local y) e f = let h : OfProgram x ≡ OfActivation y = f in cc
  other_variable (Local x) (Global y) e f = let h : OfActivation x ≡ OfProgram y = f in cc
  other_variable (Local x) (Local y) e f = other_number x y e (let h : OfActivation x ≡ OfActivation y = f in cc)

  no_element : (x : Variable) (c k : ℕ) → root_of x ≢ OfCollection c k
  no_element (Global x) c k e = let h : OfProgram x ≡ OfCollection c k = e in cc
  no_element (Local x) c k e = let h : OfActivation x ≡ OfCollection c k = e in cc

  no_result : (x : Variable) (k : ℕ) → root_of x ≢ OfCall k
  no_result (Global x) k e = let h : OfProgram x ≡ OfCall k = e in cc
  no_result (Local x) k e = let h : OfActivation x ≡ OfCall k = e in cc

  -- the roots of two places
  apart_by : (p q : Place) (r r' : Root) → p.root ≡ r → q.root ≡ r' → r ≢ r' → p.root ≢ q.root
  apart_by p q r r' e f ne same = ne (sym e ∙ same ∙ f)

  element_says : (p q : Place) (c d k j : ℕ) (v : Verdict) → p.root ≡ OfCollection c k → q.root ≡ OfCollection d j → Says p q p.way q.way (AtElements ∷ []) v → SaysPlaces p q v
  element_says p q c d k j IsApart e f a = λ _. a
  element_says p q c d k j Same e f a = tt
  element_says p q c d k j (Maybe tests) e f a = λ no same.
      a no (subst (λ b. (b && true) ≡ true) (sym (equal_numbers (creation_of p.root) (creation_of q.root) (ap creation_of same))) refl)

  -- one of the two begins with a variable or a collection
  says_places : (bounds : Variable → List ℤ) (a b : Path) (p q : Place) → IsFound shapes bounds a p → IsFound shapes bounds b q → AreAlike a b → (is_some (subject_of a) ≡ true) ⊎ (is_some (subject_of b) ≡ true) → SaysPlaces p q (walk a b)
  says_places bounds (Name at x xs) (Name other y ys) p q h g like one = places_if p q (is_same x y) (walk_steps 0 [] xs ys)
      (λ so. of_ways p q (walk_steps 0 [] xs ys) (says_walk 0 [] xs ys p q [] [] p.way q.way refl refl refl refl h.1 g.1 (like (same_variable x y so))))
      (λ no. apart_by p q (root_of x) (root_of y) h.0 g.0 (other_variable x y no))
  says_places bounds (Name at x xs) (OpenItem other y indexes es ys) p q h g like one = places_if p q (is_same x y) Same (λ so. tt) (λ no. apart_by p q (root_of x) (root_of y) h.0 g.0 (other_variable x y no))
  says_places bounds (Name at x xs) (Element other c e ys) p q h g like one = other_roots p q IsApart (apart_by p q (root_of x) (OfCollection c g.0) h.0 g.1 (no_element x c g.0))
  says_places bounds (Name at x xs) (ResultOf other k call ys) p q h g like one = other_roots p q IsApart (apart_by p q (root_of x) (OfCall k) h.0 g.0 (no_result x k))
  says_places bounds (OpenItem at x indexes ds xs) (Name other y ys) p q h g like one = places_if p q (is_same x y) Same (λ so. tt) (λ no. apart_by p q (root_of x) (root_of y) h.0 g.0 (other_variable x y no))
  says_places bounds (OpenItem at x indexes ds xs) (OpenItem other y others es ys) p q h g like one =
      let v : List Noted → Verdict = λ more. walk_steps 1 more xs ys in
      places_if p q (is_same x y) (behind_brackets (brackets ds es) 0 [] v) (λ so.
      let same = same_variable x y so in
      let spans : List Span = spans_of indexes (bounds x) in
      let alike = like same in
      of_ways p q (behind_brackets (brackets ds es) 0 [] v) (subst (λ z. Says p q z q.way [] (behind_brackets (brackets ds es) 0 [] v)) (sym h.3) (subst (λ z. Says p q (h.1 ∷ h.2) z [] (behind_brackets (brackets ds es) 0 [] v)) (sym g.3)
      (says_brackets (brackets ds es) spans ds es p q 0 h.1 g.1 h.2 g.2 [] v refl h.4 (subst (λ z. IsBracket (spans_of z (bounds x)) es g.1) (sym alike.0) (subst (λ z. IsBracket (spans_of others (bounds z)) es g.1) (sym same) g.4))
      (step_equal p q 0 h.1 g.1 [] [] h.2 g.2 h.3 g.3 refl refl)
      (λ more eq. says_walk 1 more xs ys p q (h.1 ∷ []) (g.1 ∷ []) h.2 g.2 h.3 g.3 refl refl h.5 g.5 alike.1)))))
      (λ no. apart_by p q (root_of x) (root_of y) h.0 g.0 (other_variable x y no))
  says_places bounds (OpenItem at x indexes ds xs) (Element other c e ys) p q h g like one = other_roots p q IsApart (apart_by p q (root_of x) (OfCollection c g.0) h.0 g.1 (no_element x c g.0))
  says_places bounds (OpenItem at x indexes ds xs) (ResultOf other k call ys) p q h g like one = other_roots p q IsApart (apart_by p q (root_of x) (OfCall k) h.0 g.0 (no_result x k))
  says_places bounds (Element at c e xs) (Name other y ys) p q h g like one = other_roots p q IsApart (λ same. apart_by q p (root_of y) (OfCollection c h.0) g.0 h.1 (no_element y c h.0) (sym same))
  says_places bounds (Element at c e xs) (OpenItem other y indexes es ys) p q h g like one = other_roots p q IsApart (λ same. apart_by q p (root_of y) (OfCollection c h.0) g.0 h.1 (no_element y c h.0) (sym same))
  says_places bounds (Element at c e xs) (Element other d f ys) p q h g like one = places_if p q (c == d) (walk_steps 0 (AtElements ∷ []) xs ys)
      (λ so. element_says p q c d h.0 g.0 (walk_steps 0 (AtElements ∷ []) xs ys) h.1 g.1 (says_walk 0 (AtElements ∷ []) xs ys p q [] [] p.way q.way refl refl refl refl h.2 g.2 (like (same_number c d so))))
      (λ no. apart_by p q (OfCollection c h.0) (OfCollection d g.0) h.1 g.1 (λ e. other_number c d no (let same : OfCollection c h.0 ≡ OfCollection d g.0 = e in cc)))
  says_places bounds (Element at c e xs) (ResultOf other k call ys) p q h g like one = other_roots p q IsApart (apart_by p q (OfCollection c h.0) (OfCall k) h.1 g.0 (λ e. let same : OfCollection c h.0 ≡ OfCall k = e in cc))
  says_places bounds (ResultOf at k call xs) (Name other y ys) p q h g like one = other_roots p q IsApart (λ same. apart_by q p (root_of y) (OfCall k) g.0 h.0 (no_result y k) (sym same))
  says_places bounds (ResultOf at k call xs) (OpenItem other y indexes es ys) p q h g like one = other_roots p q IsApart (λ same. apart_by q p (root_of y) (OfCall k) g.0 h.0 (no_result y k) (sym same))
  says_places bounds (ResultOf at k call xs) (Element other d f ys) p q h g like one = other_roots p q IsApart (λ same. apart_by q p (OfCollection d g.0) (OfCall k) g.1 h.0 (λ e. let eq : OfCollection d g.0 ≡ OfCall k = e in cc) (sym same))
  says_places bounds (ResultOf at k call xs) (ResultOf other j call' ys) p q h g like one = elim one [ inl e ↦ absurd (let f : false ≡ true = e in cc) | inr e ↦ absurd (let f : false ≡ true = e in cc) ]
  -- ---- all the actuals of a call

-- each test of the pairs finds different places
abbrev pub Passed : List Actual → List Pair → Type 0
Passed given [] = Unit {0}
Passed given (p ∷ more) = (actuals_meet (lent_at given p.first) (lent_at given p.second) p.tests ≡ false) × Passed given more

passed_front : (given : List Actual) (xs ys : List Pair) → Passed given (xs ++ ys) → Passed given xs
passed_front given [] ys h = tt
passed_front given (x ∷ xs) ys h = (h.0, passed_front given xs ys h.1)

passed_back : (given : List Actual) (xs ys : List Pair) → Passed given (xs ++ ys) → Passed given ys
passed_back given [] ys h = h
passed_back given (x ∷ xs) ys h = passed_back given xs ys h.1

lent_behind : (front : List Actual) (a : Actual) (more : List Actual) → lent_at (front ++ a ∷ more) (length front) ≡ lent_place a
lent_behind [] a more = refl
lent_behind (b ∷ front) a more = lent_behind front a more

one_longer : (front : List Actual) (a : Actual) (n : ℕ) → length front ≡ n → length (front ++ a ∷ []) ≡ suc n
one_longer [] a n e = ap suc e
one_longer (b ∷ front) a zero e = absurd (let h : suc (length front) ≡ zero = e in cc)
one_longer (b ∷ front) a (suc n) e = ap suc (one_longer front a n (let h : suc (length front) ≡ suc n = e in omega (arith, h)))

module _ (shapes : List Shape) (bounds : Variable → List ℤ) (known : Known) (Good : Place → Type 0) (all : List Actual) where
  -- a pair that is compared
  pair_apart : (first second : ℕ) (a b : Path) (p q : Place) → lent_at all first ≡ Some p → lent_at all second ≡ Some q → IsFound shapes bounds a p → IsFound shapes bounds b q → AreAlike a b → (is_some (subject_of a) ≡ true) ⊎ (is_some (subject_of b) ≡ true) →
      walk a b ≢ Same → Passed all (pair_if first second (walk a b)) → Apart p q
  pair_apart first second a b p q e f h g like one ne passed = by (walk a b) (says_places shapes bounds a b p q h g like one) ne passed
    where
      by : (v : Verdict) → SaysPlaces shapes p q v → v ≢ Same → Passed all (pair_if first second v) → Apart p q
      by IsApart says ne passed = says
      by Same says ne passed = absurd (ne refl)
      by (Maybe tests) says ne passed = says (subst (λ z. actuals_meet (Some p) z tests ≡ false) f (subst (λ z. actuals_meet z (lent_at all second) tests ≡ false) e passed.0))

  no_shared : (b : Bool) (path : Path) (actuals : Actuals) → Type 0
  no_shared b path actuals = (at : At) → SharedWith b path actuals at → ⊥

  -- an actual, and those behind it
  away : (first second : ℕ) (b : Bool) (path : Path) (p : Place) (actuals : Actuals) (front rest : List Actual) → all ≡ front ++ rest → length front ≡ second → lent_at all first ≡ Some p → IsFound shapes bounds path p → (b ≡ true → is_some (subject_of path) ≡ true) →
      AlikeWith path actuals → LendsRight known actuals → ((at : At) → SharedWith b path actuals at → ⊥) → Passed all (pairs_with first b path second actuals) → AreFound shapes bounds Good actuals rest → Away b p rest
  away first second b path p NoActual front rest e l f h one like lends none passed found = subst (Away b p) (sym found) tt
  away first second b path p (Given at size x more) front rest e l f h one like lends none passed found =
      let a : Actual = GivenValue found.0 found.1 in
      subst (Away b p) (sym found.3) (away first (suc second) b path p more (front ++ a ∷ []) found.2 (e ∙ ap (λ z. front ++ z) found.3 ∙ sym (append_assoc front (a ∷ []) found.2)) (one_longer front a second l) f h one like lends none passed found.4)
  away first second true path p (Lent at c known' q more) front rest e l f h one like lends none passed found =
      let a : Actual = LentPlace c found.0 found.1 in
      let here : lent_at all second ≡ Some found.1 = ap (λ z. lent_at z second) (e ∙ ap (λ z. front ++ z) found.3) ∙ ap (lent_at (front ++ a ∷ found.2)) (sym l) ∙ lent_behind front a found.2 in
      subst (Away true p) (sym found.3) (
        pair_apart first second path q p found.1 f here h found.5 like.0 (inl (one refl)) (λ same. none at (inl (refl, same, refl))) (passed_front all (pair_if first second (walk path q)) (pairs_with first true path (suc second) more) passed),
        away first (suc second) true path p more (front ++ a ∷ []) found.2 (e ∙ ap (λ z. front ++ z) found.3 ∙ sym (append_assoc front (a ∷ []) found.2)) (one_longer front a second l) f h one like.1 lends.3 (λ at' s. none at' (inr s)) (passed_back all (pair_if first second (walk path q)) (pairs_with first true path (suc second) more) passed) found.6,
      )
  away first second false path p (Lent at true known' q more) front rest e l f h one like lends none passed found =
      let a : Actual = LentPlace true found.0 found.1 in
      let here : lent_at all second ≡ Some found.1 = ap (λ z. lent_at z second) (e ∙ ap (λ z. front ++ z) found.3) ∙ ap (lent_at (front ++ a ∷ found.2)) (sym l) ∙ lent_behind front a found.2 in
      subst (Away false p) (sym found.3) (
        pair_apart first second path q p found.1 f here h found.5 like.0 (inr (lends.0 refl)) (λ same. none at (inl (refl, same, refl))) (passed_front all (pair_if first second (walk path q)) (pairs_with first false path (suc second) more) passed),
        away first (suc second) false path p more (front ++ a ∷ []) found.2 (e ∙ ap (λ z. front ++ z) found.3 ∙ sym (append_assoc front (a ∷ []) found.2)) (one_longer front a second l) f h one like.1 lends.3 (λ at' s. none at' (inr s)) (passed_back all (pair_if first second (walk path q)) (pairs_with first false path (suc second) more) passed) found.6,
      )
  away first second false path p (Lent at false known' q more) front rest e l f h one like lends none passed found =
      let a : Actual = LentPlace false found.0 found.1 in
      subst (Away false p) (sym found.3)
      (away first (suc second) false path p more (front ++ a ∷ []) found.2 (e ∙ ap (λ z. front ++ z) found.3 ∙ sym (append_assoc front (a ∷ []) found.2)) (one_longer front a second l) f h one like.1 lends.3 (λ at' s. none at' (inr s)) passed found.6)

  all_from : (first : ℕ) (actuals : Actuals) (front rest : List Actual) → all ≡ front ++ rest → length front ≡ first → LendsRight known actuals → ((at : At) → SharedIn actuals at → ⊥) → Passed all (pairs_from first actuals) → AreFound shapes bounds Good actuals rest → AllApart rest
  all_from first NoActual front rest e l lends none passed found = subst AllApart (sym found) tt
  all_from first (Given at size x more) front rest e l lends none passed found =
      let a : Actual = GivenValue found.0 found.1 in
      subst AllApart (sym found.3) (all_from (suc first) more (front ++ a ∷ []) found.2 (e ∙ ap (λ z. front ++ z) found.3 ∙ sym (append_assoc front (a ∷ []) found.2)) (one_longer front a first l) lends none passed found.4)
  all_from first (Lent at b known' path more) front rest e l lends none passed found =
      let a : Actual = LentPlace b found.0 found.1 in
      let here : lent_at all first ≡ Some found.1 = ap (λ z. lent_at z first) (e ∙ ap (λ z. front ++ z) found.3) ∙ ap (lent_at (front ++ a ∷ found.2)) (sym l) ∙ lent_behind front a found.2 in
      let split : all ≡ (front ++ a ∷ []) ++ found.2 = e ∙ ap (λ z. front ++ z) found.3 ∙ sym (append_assoc front (a ∷ []) found.2) in
      subst AllApart (sym found.3) (
        away first (suc first) b path found.1 more (front ++ a ∷ []) found.2 split (one_longer front a first l) here found.5 lends.0 lends.2 lends.3 (λ at' s. none at' (inl s)) (passed_front all (pairs_with first b path (suc first) more) (pairs_from (suc first) more) passed) found.6,
        all_from (suc first) more (front ++ a ∷ []) found.2 split (one_longer front a first l) lends.3 (λ at' s. none at' (inr s)) (passed_back all (pairs_with first b path (suc first) more) (pairs_from (suc first) more) passed) found.6,
      )

-- no two lent places of which one is `var` overlap
pub all_apart : (shapes : List Shape) (bounds : Variable → List ℤ) (known : Known) (Good : Place → Type 0) (actuals : Actuals) (given : List Actual) → LendsRight known actuals → ((at : At) → SharedIn actuals at → ⊥) → Passed given (pairs_of actuals) → AreFound shapes bounds Good actuals given → AllApart given
all_apart shapes bounds known Good actuals given lends none passed found = all_from shapes bounds known Good given 0 actuals [] given refl refl lends none passed found
