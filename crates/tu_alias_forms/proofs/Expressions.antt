-- Expressions side by side: from related stores they have the same end, and a place that they find is that of its path.
use Rattle.std.proofs.Common.{◌≡◌, ℕ, suc, Bool, true, false, List, [], ◌∷◌, ◌++◌, length, ◌⊎◌, inl, inr, Option, Some, None, refl, sym, ◌∙◌, ap, subst, append_assoc}
use Rattle.std.specs.Prelude.{ℤ, pos, not, slice_get}
use Rattle.std.proofs.lemmas.List.{append-nil}
use Rattle.tu_base.specs.declared.kind.Kind.TheVariants as kind
use Rattle.tu_base.specs.declared.operator.Binary.{Binary}
use Rattle.tu_base.specs.declared.shape.Span.{Span}
use Rattle.tu_base.specs.declared.shape.Shape.{Shape}
use Rattle.tu_base.specs.Values.{Value, Number, Bytes, Members, Creation, Content, Way, unset, alone, scalar_in}
use Rattle.tu_base.specs.Scalars.{binary, decided, is_true}
use Rattle.tu_base.specs.Texts.{compare_texts, joined, repeated, place_in, character_at, part_from, byte_of, text_of_byte, int_text, text_int, put_int, put_truth, put_text}
use Rattle.tu_base.specs.Sets.{Base, with_member, membership, combined, compare_sets}
use Rattle.tu_base.specs.Reading.{look as look_ahead}
use Rattle.tu_core.specs.Core.{Scalar, Literal, Use, Prefixed, Chain, CompareTexts, CompareSets, ComparePointers, Member, Length, PlaceIn, ByteOf, TextInt, Bound, AtEnd, CallScalar, Links, NoLink, Link, Decide, Text, Written, UseText, Joined, Cut, Character, IntText, Repeat, CallText, Texts, NoText, AndText, Cuts, NoCut, CutCharacter, CutPart, Spot, Exactly, Last, BeforeLast, Set, SetOf, FullSet, UseSet, Combined, CallSet, Combinations, NoSet, AndSet, Pointer, Nil, UsePointer, CallPointer, Scalars, NoScalar, AndScalar, Optional, Absent, Present, Path, Name, OpenItem, Element, ResultOf, Selectors, End, Field, VariantField, Item, Subscripts, NoSubscript, Subscript, Call, Calls, Actuals, NoActual, Given, Lent, Simple, AScalar, AText, ASet, APointer, Start, WithValue, WithCopy, WithParts, Starts, NoStart, AndStart, Range, FromTo, Through, Shown, NoneShown, ShowInt, ShowTruth, ShowText, Program}
use Rattle.tu_core.specs.declared.names.At.{At}
use Rattle.tu_core.specs.declared.names.Variable.{Variable}
use Rattle.tu_core.specs.declared.targets.Index.{Index}
use Rattle.tu_core.specs.declared.targets.Index.TheVariants.{Known, Open}
use Rattle.tu_core.specs.declared.targets.Target.{Target}
use Rattle.tu_core.specs.Walk.{Pair, pairs_of}
use Rattle.tu_core.specs.Acts.{Subject, AVariable, ACollection, subject_of, Act, Reading, Changing, Calling, lending, scalar_acts, links_acts, optional_acts, text_acts, texts_acts, cuts_acts, spot_acts, set_acts, combinations_acts, scalars_acts, pointer_acts, simple_acts, path_acts, selectors_acts, subscripts_acts, call_acts, actuals_acts, start_acts, starts_acts, shown_acts, range_acts}
use Rattle.tu_core.specs.Constants.{Known as Constants, answer_value, use_value, value_of, chain_value, binary_value, unless_decided_value}
use Rattle.tu_core.specs.Typed.{HaveValues, SelectorsHaveValues, PathHasValues, StartsWith, LendsRight}
use Rattle.tu_meaning.specs.Steps.{Step, ◌>>=◌}
use Rattle.tu_meaning.specs.Store.{Root, OfCall, OfCollection, Place, place_of, holds, Actual, GivenValue, LentPlace, Passing, actuals_meet, lent_at}
use Rattle.tu_meaning.specs.Words.{Back, content_back, spans_of, are_within, row_number, present}
use Rattle.tu_meaning.specs.Expressions.{root_of, Performs, Taken as Caught, Running, shape, keep_invariant, test_pairs, fetched, bounds_of, value_at, given_bounds, lent_bounds, at_end, evaluate, chain, optional, stream_of, evaluate_text, join, cut, spot, evaluate_set, combine, gather, evaluate_pointer, evaluate_simple, subscripts, locate, follow, do_call, actual}
use Rattle.tu_meaning.specs.Statements.{condition, begin, begin_all, upper_bounds, first_and_count, width, show}
use Rattle.tu_meaning.proofs.Alike.{sim_bind, sim_give, sim_look, sim_change, sim_pay}
use Rattle.tu_meaning.proofs.WordForms.{Any, sim_answered, sim_present, sim_found, sim_demand, sim_unless_raised, sim_truth, sim_bound_in, sim_living, sim_union_of, sim_source_there, sim_take_text, sim_width_of, sim_put_part}
use Rattle.tu_alias_forms.proofs.Overlaps.{AreValues, IsBracket, indexes_in, indexes_at, Matches, IsFound, AreFound, Passed}
use Rattle.tu_alias_forms.proofs.Fits.{Leave, Fits, front, back}
use Rattle.tu_alias_forms.proofs.Words.{IsValue, IsUnsetOr, Keeps, ◌▹◌, weaker, answers, finds, demands, subscribes, indexes as spans_in, presents_known, prefixes, unless_decides}

-- the roots of a subject
abbrev pub RootOf : Subject → Root → Type 0
RootOf (AVariable x) r = r ≡ root_of x
RootOf (ACollection c) r = (k : ℕ) × (r ≡ OfCollection c k)

-- the roots of a path
abbrev pub RootAt : Path → Root → Type 0
RootAt path r = elim (subject_of path) [ None ↦ (k : ℕ) × (r ≡ OfCall k) | Some x ↦ RootOf x r ]

-- the acts of a path behind its subject
abbrev pub parts_of : Path → List Act
parts_of (Name at x steps) = selectors_acts steps
parts_of (OpenItem at x indexes es steps) = subscripts_acts es ++ selectors_acts steps
parts_of (Element at c e steps) = pointer_acts e ++ selectors_acts steps
parts_of (ResultOf at k call steps) = call_acts call ++ selectors_acts steps

-- the subject of a path passes
abbrev pub OfPath : (Subject → Type 0) → Path → Type 0
OfPath P path = (x : Subject) → subject_of path ≡ Some x → P x

one_subject : (x y : Subject) → Some x ≡ Some y → x ≡ y
one_subject x y e = cc

-- what is lent: what is changed where it is `var`, and else read
abbrev pub LendsFit : Leave → Actuals → Type 0
LendsFit may NoActual = Unit {0}
LendsFit may (Given at size e more) = LendsFit may more
LendsFit may (Lent at true bounds path more) = OfPath may.writes path × LendsFit may more
LendsFit may (Lent at false bounds path more) = OfPath may.reads path × LendsFit may more

module _ (program : Program) (may : Leave) where
  pub read_path : (path : Path) → Fits program may (path_acts Reading path) → OfPath may.reads path × Fits program may (parts_of path)
  read_path (Name at x steps) f = ((λ y e. subst may.reads (one_subject (AVariable x) y e) f.0), f.1)
  read_path (OpenItem at x indexes es steps) f = ((λ y e. subst may.reads (one_subject (AVariable x) y e) f.0), f.1)
  read_path (Element at c e steps) f = ((λ y e. subst may.reads (one_subject (ACollection c) y e) f.0), f.1)
  read_path (ResultOf at k call steps) f = ((λ y e. absurd (let h : None ≡ Some y = e in cc)), f)

  pub changed_path : (path : Path) → Fits program may (path_acts Changing path) → OfPath may.writes path × Fits program may (parts_of path)
  changed_path (Name at x steps) f = ((λ y e. subst may.writes (one_subject (AVariable x) y e) f.0), f.1)
  changed_path (OpenItem at x indexes es steps) f = ((λ y e. subst may.writes (one_subject (AVariable x) y e) f.0), f.1)
  changed_path (Element at c e steps) f = ((λ y e. subst may.writes (one_subject (ACollection c) y e) f.0), f.1)
  changed_path (ResultOf at k call steps) f = ((λ y e. absurd (let h : None ≡ Some y = e in cc)), f)

  pub lends_fit : (actuals : Actuals) → Fits program may (actuals_acts actuals) → LendsFit may actuals
  lends_fit NoActual f = tt
  lends_fit (Given at size e more) f = lends_fit more (back program may (simple_acts e) (actuals_acts more) f)
  lends_fit (Lent at true bounds path more) f = ((changed_path path (front program may (path_acts (lending true) path) (actuals_acts more) f)).0, lends_fit more (back program may (path_acts (lending true) path) (actuals_acts more) f))
  lends_fit (Lent at false bounds path more) f = ((read_path path (front program may (path_acts (lending false) path) (actuals_acts more) f)).0, lends_fit more (back program may (path_acts (lending false) path) (actuals_acts more) f))

-- every lent place has a root of which P holds
abbrev pub AllLent : (Root → Type 0) → List Actual → Type 0
AllLent P [] = Unit {0}
AllLent P (GivenValue bounds v ∷ more) = AllLent P more
AllLent P (LentPlace is_var bounds q ∷ more) = P q.root × AllLent P more

-- the value of an expression without parts, where it is known
abbrev pub IsSimpleValue : Constants → Simple → Value → Type 0
IsSimpleValue known (AScalar e) v = (z : ℤ) → value_of known e ≡ Some z → v ≡ Number z
IsSimpleValue known e v = Unit {0}

-- ρ relates the stores while an expression is evaluated.
module _ {S S' : Type 0} (p : Passing S) (p' : Passing S') (t : ℕ) (program : Program) (n : ℕ) (perform : Performs S) (perform' : Performs S') (may : Leave) (known : Constants) (array_bounds : Variable → List ℤ) (Good : Root → Type 0) (ρ : S → S' → Type 0) where
  abbrev pub Keep : (A : Type 0) (Q : A → Type 0) → Step S A → Step S' A → Type 0
  Keep A Q m m' = Keeps S S' t ρ n A Q m m'

  -- what expressions need of the relation
  pub record Related : Type 0 where
    pub fetch : (q : Place) (s : S) (r : S') → Good q.root → ρ s r → p.fetch s q ≡ p'.fetch r q
    pub bounds : (root : Root) (s : S) (r : S') → ρ s r → p.bounds s root ≡ p'.bounds r root
    pub bounds_are : (x : Variable) (s : S) (r : S') → ρ s r → p.bounds s (root_of x) ≡ array_bounds x
    pub reads : (x : Subject) (root : Root) → may.reads x → RootOf x root → Good root
    pub writes : (x : Subject) (root : Root) → may.writes x → RootOf x root → Good root
    pub results : (k : ℕ) → Good (OfCall k)
    pub stores_result : (k : ℕ) (content : Content) (s : S) (r : S') → ρ s r → ρ (p.declare s (OfCall k) (holds content)) (p'.declare r (OfCall k) (holds content))
    pub constants : (x : Variable) (z : ℤ) (s : S) (r : S') → known x ≡ Some z → ρ s r → IsUnsetOr (p.fetch s (place_of (root_of x)) []) z
    pub performs : (line : ℕ) (at : At) (callee : ℕ) (invariant : Option ℕ) (actuals : Actuals) (given : List Actual) → may.calls (Calls at callee invariant actuals) → LendsFit may actuals → AllLent Good given →
        (LendsRight known actuals → AreFound program.shapes array_bounds (λ q. Good q.root) actuals given) → Passed given (pairs_of actuals) → Keep Back Any (perform line callee given) (perform' line callee given)
    pub keeps : (line : ℕ) (at : At) (callee m : ℕ) (actuals : Actuals) → may.calls (Calls at callee (Some m) actuals) → Keep Back Any (perform line m []) (perform' line m [])

  module _ (words : List ℕ) (scalars : List ℕ) (taken : Caught) (k : Related) where
    abbrev pub here : Running S
    here = record { passing = p; turns = t; depth = n; program = program; words = words; perform = perform; scalars = scalars; taken = taken }

    abbrev pub there : Running S'
    there = record { passing = p'; turns = t; depth = n; program = program; words = words; perform = perform'; scalars = scalars; taken = taken }

    -- a path whose subject may be read or changed begins well
    begins : (path : Path) → OfPath may.reads path ⊎ OfPath may.writes path → OfPath (λ x. (root : Root) → RootOf x root → Good root) path
    begins path (inl h) x e root is = k.reads x root (h x e) is
    begins path (inr h) x e root is = k.writes x root (h x e) is

    reading : (path : Path) → Fits program may (path_acts Reading path) → OfPath (λ x. (root : Root) → RootOf x root → Good root) path
    reading path f = begins path (inl (read_path program may path f).0)

    reading_parts : (path : Path) → Fits program may (path_acts Reading path) → Fits program may (parts_of path)
    reading_parts path f = (read_path program may path f).1

    sim_shape : (m : ℕ) → Keep Shape (λ s. slice_get program.shapes m ≡ Some s) (shape here m) (shape there m)
    sim_shape m = finds (slice_get program.shapes m)

    pub sim_fetched : (q : Place) → Good q.root → Keep Content Any (fetched here q) (fetched there q)
    sim_fetched q good = sim_look {Q = Any} _ _ (λ s r rel. (k.fetch q s r good rel, tt))

    pub sim_bounds_of : (root : Root) → Keep (List ℤ) Any (bounds_of here root) (bounds_of there root)
    sim_bounds_of root = sim_look {Q = Any} _ _ (λ s r rel. (k.bounds root s r rel, tt))

    -- of an array's name
    sim_array_bounds : (x : Variable) → Keep (List ℤ) (λ bounds. bounds ≡ array_bounds x) (bounds_of here (root_of x)) (bounds_of there (root_of x))
    sim_array_bounds x = sim_look {Q = λ bounds. bounds ≡ array_bounds x} _ _ (λ s r rel. (k.bounds (root_of x) s r rel, k.bounds_are x s r rel))

    pub sim_value_at : (q : Place) → Good q.root → Keep Value Any (value_at here q) (value_at there q)
    sim_value_at q good = sim_look {Q = Any} _ _ (λ s r rel. (ap (λ content. content []) (k.fetch q s r good rel), tt))

    -- of a constant
    sim_constant_at : (q : Place) (x : Variable) (z : ℤ) → Good q.root → q ≡ place_of (root_of x) → known x ≡ Some z → Keep Value (λ v. IsUnsetOr v z) (value_at here q) (value_at there q)
    sim_constant_at q x z good is e = sim_look {Q = λ v. IsUnsetOr v z} _ _ (λ s r rel. (ap (λ content. content []) (k.fetch q s r good rel), subst (λ y. IsUnsetOr (p.fetch s y []) z) (sym is) (k.constants x z s r e rel)))

    sim_keep_invariant : (line : ℕ) (at : At) (callee : ℕ) (actuals : Actuals) (m : Option ℕ) → may.calls (Calls at callee m actuals) → Keep (Unit {0}) Any (keep_invariant here line m) (keep_invariant there line m)
    sim_keep_invariant line at callee actuals None can = sim_give tt tt
    sim_keep_invariant line at callee actuals (Some m) can = k.keeps line at callee m actuals can ▹ λ _. sim_give tt tt

    not_so : (b : Bool) → not b ≡ true → b ≡ false
    not_so true e = absurd (let h : false ≡ true = e in cc)
    not_so false e = refl

    sim_test_pairs : (line : ℕ) (given : List Actual) (pairs : List Pair) → Keep (Unit {0}) (λ _. Passed given pairs) (test_pairs here line given pairs) (test_pairs there line given pairs)
    sim_test_pairs line given [] = sim_give tt tt
    sim_test_pairs line given (q ∷ more) = sim_pay (length q.tests) ▹ λ _. sim_bind (demands kind.Overlap line (not (actuals_meet (lent_at given q.first) (lent_at given q.second) q.tests))) λ _ so. weaker (λ _ h. (not_so (actuals_meet (lent_at given q.first) (lent_at given q.second) q.tests) so, h)) (sim_test_pairs line given more)

    sim_lent_bounds : (bounds : Option (List ℤ)) (q : Place) → Keep (List ℤ) Any (lent_bounds here bounds q) (lent_bounds there bounds q)
    sim_lent_bounds (Some bounds) q = sim_give bounds tt
    sim_lent_bounds None q = sim_bounds_of q.root

    sim_at_end : (line : ℕ) (stream : Option ℤ) → Keep ℤ Any (at_end here line stream) (at_end there line stream)
    sim_at_end line stream = sim_source_there line stream ▹ λ _. sim_take_text line stream look_ahead ▹ λ r. sim_truth _

    -- a place that was found for a path
    abbrev pub FoundAt : Path → Place → Type 0
    FoundAt path q = Good q.root × RootAt path q.root × (PathHasValues known path → IsFound program.shapes array_bounds path q)

    -- and one behind a place
    abbrev FoundBehind : Root → Way → Selectors → Place → Type 0
    FoundBehind root way steps q = (q.root ≡ root) × (SelectorsHaveValues known steps → (rest : Way) × (q.way ≡ way ++ rest) × Matches program.shapes steps rest)

    more_behind : (root : Root) (way : Way) (j : ℕ) (steps more : Selectors) (q : Place) → (SelectorsHaveValues known steps → SelectorsHaveValues known more) → ((rest : Way) → SelectorsHaveValues known steps → Matches program.shapes more rest → Matches program.shapes steps (j ∷ rest)) → FoundBehind root (way ++ j ∷ []) more q → FoundBehind root way steps q
    more_behind root way j steps more q values matches found = (found.0, λ h. let m = found.1 (values h) in (j ∷ m.0, m.1 ∙ append_assoc way (j ∷ []) m.0, matches m.0 h m.2))

    bracket_of : (n : ℕ) (s : Shape) (spans : List Span) (es : Subscripts) (xs : List ℤ) (j : ℕ) → slice_get program.shapes n ≡ Some s → spans ≡ indexes_in s → (are_within spans xs ≡ true) × (j ≡ row_number spans xs) → AreValues es xs → IsBracket (indexes_at program.shapes n) es j
    bracket_of n s spans es xs j e is h values =
        let same : spans ≡ indexes_at program.shapes n = is ∙ sym (ap (λ o. elim o [ None ↦ [] | Some s ↦ indexes_in s ]) e) in
        subst (λ z. IsBracket z es j) same (record { xs = xs; within = h.0; number_is = h.1; values = values })

    chain_from : (v : Option ℤ) (z y : ℤ) (links : Links) → IsValue v z → IsValue (chain_value known (Some z) links) y → IsValue (chain_value known v links) y
    chain_from None z y links h g = tt
    chain_from (Some w) z y links h g = subst (λ x. IsValue (chain_value known (Some x) links) y) h g

    link_from : (operator : Binary) (v : Option ℤ) (z x y : ℤ) → IsValue v x → IsValue (answer_value (binary operator z x)) y → IsValue (binary_value operator z v) y
    link_from operator None z x y h g = tt
    link_from operator (Some w) z x y h g = subst (λ q. IsValue (answer_value (binary operator z q)) y) h g

    lent_path : (is_var : Bool) (path : Path) → Fits program may (path_acts (lending is_var) path) → OfPath (λ x. (root : Root) → RootOf x root → Good root) path × Fits program may (parts_of path)
    lent_path true path f = let g = changed_path program may path f in (begins path (inr g.0), g.1)
    lent_path false path f = let g = read_path program may path f in (begins path (inl g.0), g.1)

    values : (constant : Option ℤ) (e : Scalar) (more : Subscripts) (x : ℤ) (xs : List ℤ) → IsValue (value_of known e) x → (HaveValues known more → AreValues more xs) → HaveValues known (Subscript constant e more) → AreValues (Subscript constant e more) (x ∷ xs)
    values None e more x xs is are h = are h
    values (Some z) e more x xs is are h = (subst (λ o. IsValue o x) h.0 is, are h.1)

    mutual
      pub sim_evaluate : (line : ℕ) (e : Scalar) → Fits program may (scalar_acts e) → Keep ℤ (IsValue (value_of known e)) (evaluate here line e) (evaluate there line e)
      sim_evaluate line (Literal m z) f = sim_pay _ ▹ λ _. sim_give z refl
      sim_evaluate line (Use m path) f = sim_bind (sim_locate line path (reading path f) (reading_parts path f)) λ q found. sim_use line path q found
      sim_evaluate line (Prefixed m operators e) f = sim_pay _ ▹ λ _. sim_bind (sim_evaluate line e f) λ z is. prefixes line operators z (value_of known e) is
      sim_evaluate line (Chain m e links) f = sim_pay _ ▹ λ _. sim_bind (sim_evaluate line e (front program may (scalar_acts e) (links_acts links) f)) λ z is. weaker (λ y h. chain_from (value_of known e) z y links is h) (sim_chain line z links (back program may (scalar_acts e) (links_acts links) f))
      sim_evaluate line (CompareTexts m relation a b) f = sim_pay _ ▹ λ _. sim_text line a (front program may (text_acts a) (text_acts b) f) ▹ λ x. sim_text line b (back program may (text_acts a) (text_acts b) f) ▹ λ y. sim_answered line (compare_texts relation x y) ▹ λ holds. sim_truth holds
      sim_evaluate line (CompareSets m relation base a b) f = sim_pay _ ▹ λ _. sim_set line a (front program may (set_acts a) (set_acts b) f) ▹ λ x. sim_set line b (back program may (set_acts a) (set_acts b) f) ▹ λ y. sim_answered line (compare_sets base relation x y) ▹ λ holds. sim_truth holds
      sim_evaluate line (ComparePointers m is_equal a b) f = sim_pay _ ▹ λ _. sim_pointer line a (front program may (pointer_acts a) (pointer_acts b) f) ▹ λ x. sim_pointer line b (back program may (pointer_acts a) (pointer_acts b) f) ▹ λ y. sim_truth _
      sim_evaluate line (Member m is_wanted base e s) f = sim_pay _ ▹ λ _. sim_evaluate line e (front program may (scalar_acts e) (set_acts s) f) ▹ λ z. sim_set line s (back program may (scalar_acts e) (set_acts s) f) ▹ λ members. sim_answered line (membership base is_wanted z members) ▹ λ holds. sim_truth holds
      sim_evaluate line (Length m e) f = sim_pay _ ▹ λ _. sim_text line e f ▹ λ bytes. sim_give _ tt
      sim_evaluate line (PlaceIn m a b) f = sim_pay _ ▹ λ _. sim_text line a (front program may (text_acts a) (text_acts b) f) ▹ λ x. sim_text line b (back program may (text_acts a) (text_acts b) f) ▹ λ y. sim_answered line (place_in x y)
      sim_evaluate line (ByteOf m e) f = sim_pay _ ▹ λ _. sim_text line e f ▹ λ bytes. sim_answered line (byte_of bytes)
      sim_evaluate line (TextInt m e) f = sim_pay _ ▹ λ _. sim_text line e f ▹ λ bytes. sim_answered line (text_int bytes)
      sim_evaluate line (Bound m is_upper indexes path dimension) f =
          let g = front program may (path_acts Reading path) (optional_acts dimension) f in
          sim_pay _ ▹ λ _. sim_locate line path (reading path g) (reading_parts path g) ▹ λ q. sim_bounds_of q.root ▹ λ bounds. sim_optional line (pos 1) dimension (back program may (path_acts Reading path) (optional_acts dimension) f) ▹ λ d. sim_bound_in line is_upper (spans_of indexes bounds) d
      sim_evaluate line (AtEnd m at stream) f = sim_pay _ ▹ λ _. sim_stream_of line stream f.1 ▹ λ j. sim_at_end line j
      sim_evaluate line (CallScalar m call) f = sim_pay _ ▹ λ _. sim_do_call line call f ▹ λ back. sim_present line _

      -- the value at a place, which is known where the path is a constant
      sim_use : (line : ℕ) (path : Path) (q : Place) → FoundAt path q → Keep ℤ (IsValue (use_value known path)) (value_at here q >>= (λ v. present line (scalar_in v))) (value_at there q >>= (λ v. present line (scalar_in v)))
      sim_use line (Name at x End) q found = by (known x) refl
        where
          by : (o : Option ℤ) → known x ≡ o → Keep ℤ (IsValue o) (value_at here q >>= (λ v. present line (scalar_in v))) (value_at there q >>= (λ v. present line (scalar_in v)))
          by None e = sim_value_at q found.0 ▹ λ v. sim_present line _
          by (Some z) e =
              let m = found.2 tt in
              sim_bind (sim_constant_at q x z found.0 (ap (λ r. record { root = r; way = q.way }) m.0 ∙ ap (λ w. record { root = root_of x; way = w }) m.1) e) λ v is. presents_known line v z is
      sim_use line (Name at x (Field m j more)) q found = sim_value_at q found.0 ▹ λ v. sim_present line _
      sim_use line (Name at x (VariantField m j more)) q found = sim_value_at q found.0 ▹ λ v. sim_present line _
      sim_use line (Name at x (Item m es more)) q found = sim_value_at q found.0 ▹ λ v. sim_present line _
      sim_use line (OpenItem at x indexes es steps) q found = sim_value_at q found.0 ▹ λ v. sim_present line _
      sim_use line (Element at c e steps) q found = sim_value_at q found.0 ▹ λ v. sim_present line _
      sim_use line (ResultOf at j call steps) q found = sim_value_at q found.0 ▹ λ v. sim_present line _

      sim_chain : (line : ℕ) (z : ℤ) (links : Links) → Fits program may (links_acts links) → Keep ℤ (IsValue (chain_value known (Some z) links)) (chain here line z links) (chain there line z links)
      sim_chain line z NoLink f = sim_give z refl
      sim_chain line z (Link operator e more) f = sim_bind (sim_evaluate line e (front program may (scalar_acts e) (links_acts more) f)) λ x is. sim_bind (answers line (binary operator z x)) λ y h. weaker (λ w g. chain_from (binary_value operator z (value_of known e)) y w more (link_from operator (value_of known e) z x y is h) g) (sim_chain line y more (back program may (scalar_acts e) (links_acts more) f))
      sim_chain line z (Decide operator e more) f = sim_bind (unless_decides (decided operator (is_true z)) (value_of known e) _ _ (sim_evaluate line e (front program may (scalar_acts e) (links_acts more) f))) λ y is. weaker (λ w g. chain_from (unless_decided_value (decided operator (is_true z)) (value_of known e)) y w more is g) (sim_chain line y more (back program may (scalar_acts e) (links_acts more) f))

      pub sim_optional : (line : ℕ) (otherwise : ℤ) (e : Optional) → Fits program may (optional_acts e) → Keep ℤ Any (optional here line otherwise e) (optional there line otherwise e)
      sim_optional line otherwise Absent f = sim_give otherwise tt
      sim_optional line otherwise (Present e) f = weaker (λ _ _. tt) (sim_evaluate line e f)

      pub sim_stream_of : (line : ℕ) (e : Optional) → Fits program may (optional_acts e) → Keep (Option ℤ) Any (stream_of here line e) (stream_of there line e)
      sim_stream_of line Absent f = sim_give None tt
      sim_stream_of line (Present e) f = sim_evaluate line e f ▹ λ j. sim_give (Some j) tt

      pub sim_text : (line : ℕ) (e : Text) → Fits program may (text_acts e) → Keep (List ℕ) Any (evaluate_text here line e) (evaluate_text there line e)
      sim_text line (Written m bytes) f = sim_pay _ ▹ λ _. sim_give bytes tt
      sim_text line (UseText m path) f = sim_bind (sim_locate line path (reading path f) (reading_parts path f)) λ q found. sim_value_at q found.0 ▹ λ v. sim_present line _
      sim_text line (Joined m e more) f = sim_pay _ ▹ λ _. sim_text line e (front program may (text_acts e) (texts_acts more) f) ▹ λ bytes. sim_join line bytes more (back program may (text_acts e) (texts_acts more) f)
      sim_text line (Cut m e cuts) f = sim_pay _ ▹ λ _. sim_text line e (front program may (text_acts e) (cuts_acts cuts) f) ▹ λ bytes. sim_cut_all line bytes cuts (back program may (text_acts e) (cuts_acts cuts) f)
      sim_text line (Character m e) f = sim_pay _ ▹ λ _. sim_evaluate line e f ▹ λ z. sim_answered line (text_of_byte z)
      sim_text line (IntText m e wide) f = sim_pay _ ▹ λ _. sim_evaluate line e (front program may (scalar_acts e) (optional_acts wide) f) ▹ λ z. sim_optional line (pos 0) wide (back program may (scalar_acts e) (optional_acts wide) f) ▹ λ j. sim_answered line (int_text z j)
      sim_text line (Repeat m e j) f = sim_pay _ ▹ λ _. sim_text line e (front program may (text_acts e) (scalar_acts j) f) ▹ λ bytes. sim_evaluate line j (back program may (text_acts e) (scalar_acts j) f) ▹ λ z. sim_answered line (repeated bytes z)
      sim_text line (CallText m call) f = sim_pay _ ▹ λ _. sim_do_call line call f ▹ λ back. sim_present line _

      sim_join : (line : ℕ) (bytes : List ℕ) (more : Texts) → Fits program may (texts_acts more) → Keep (List ℕ) Any (join here line bytes more) (join there line bytes more)
      sim_join line bytes NoText f = sim_give bytes tt
      sim_join line bytes (AndText e more) f = sim_text line e (front program may (text_acts e) (texts_acts more) f) ▹ λ others. sim_answered line (joined bytes others) ▹ λ all. sim_join line all more (back program may (text_acts e) (texts_acts more) f)

      sim_cut_all : (line : ℕ) (bytes : List ℕ) (cuts : Cuts) → Fits program may (cuts_acts cuts) → Keep (List ℕ) Any (cut here line bytes cuts) (cut there line bytes cuts)
      sim_cut_all line bytes NoCut f = sim_give bytes tt
      sim_cut_all line bytes (CutCharacter i more) f = sim_spot line bytes i (front program may (spot_acts i) (cuts_acts more) f) ▹ λ x. sim_answered line (character_at bytes x) ▹ λ one. sim_cut_all line one more (back program may (spot_acts i) (cuts_acts more) f)
      sim_cut_all line bytes (CutPart i j more) f =
          let g = back program may (spot_acts i) (spot_acts j ++ cuts_acts more) f in
          sim_spot line bytes i (front program may (spot_acts i) (spot_acts j ++ cuts_acts more) f) ▹ λ x. sim_spot line bytes j (front program may (spot_acts j) (cuts_acts more) g) ▹ λ y. sim_answered line (part_from bytes x y) ▹ λ some. sim_cut_all line some more (back program may (spot_acts j) (cuts_acts more) g)

      sim_spot : (line : ℕ) (bytes : List ℕ) (i : Spot) → Fits program may (spot_acts i) → Keep ℤ Any (spot here line bytes i) (spot there line bytes i)
      sim_spot line bytes (Exactly e) f = weaker (λ _ _. tt) (sim_evaluate line e f)
      sim_spot line bytes Last f = sim_pay _ ▹ λ _. sim_give _ tt
      sim_spot line bytes (BeforeLast e) f = sim_pay _ ▹ λ _. sim_evaluate line e f ▹ λ z. sim_answered line _

      pub sim_set : (line : ℕ) (e : Set) → Fits program may (set_acts e) → Keep (List Bool) Any (evaluate_set here line e) (evaluate_set there line e)
      sim_set line (SetOf m base es) f = sim_pay _ ▹ λ _. sim_gather line base _ es f ▹ λ members. sim_pay _ ▹ λ _. sim_give members tt
      sim_set line (FullSet m base) f = sim_pay _ ▹ λ _. sim_pay _ ▹ λ _. sim_give _ tt
      sim_set line (UseSet m path) f = sim_bind (sim_locate line path (reading path f) (reading_parts path f)) λ q found. sim_value_at q found.0 ▹ λ v. sim_present line _
      sim_set line (Combined m base e more) f = sim_pay _ ▹ λ _. sim_set line e (front program may (set_acts e) (combinations_acts more) f) ▹ λ members. sim_combine line base members more (back program may (set_acts e) (combinations_acts more) f)
      sim_set line (CallSet m call) f = sim_pay _ ▹ λ _. sim_do_call line call f ▹ λ back. sim_present line _

      sim_combine : (line : ℕ) (base : Base) (members : List Bool) (more : Combinations) → Fits program may (combinations_acts more) → Keep (List Bool) Any (combine here line base members more) (combine there line base members more)
      sim_combine line base members NoSet f = sim_give members tt
      sim_combine line base members (AndSet operator e more) f = sim_set line e (front program may (set_acts e) (combinations_acts more) f) ▹ λ others. sim_answered line (combined base operator members others) ▹ λ all. sim_combine line base all more (back program may (set_acts e) (combinations_acts more) f)

      sim_gather : (line : ℕ) (base : Base) (members : List Bool) (es : Scalars) → Fits program may (scalars_acts es) → Keep (List Bool) Any (gather here line base members es) (gather there line base members es)
      sim_gather line base members NoScalar f = sim_give members tt
      sim_gather line base members (AndScalar e more) f = sim_evaluate line e (front program may (scalar_acts e) (scalars_acts more) f) ▹ λ z. sim_answered line (with_member base z members) ▹ λ others. sim_gather line base others more (back program may (scalar_acts e) (scalars_acts more) f)

      sim_pointer : (line : ℕ) (e : Pointer) → Fits program may (pointer_acts e) → Keep ℕ Any (evaluate_pointer here line e) (evaluate_pointer there line e)
      sim_pointer line (Nil m at j) f = sim_pay _ ▹ λ _. sim_give 0 tt
      sim_pointer line (UsePointer m path) f = sim_bind (sim_locate line path (reading path f) (reading_parts path f)) λ q found. sim_value_at q found.0 ▹ λ v. sim_present line _
      sim_pointer line (CallPointer m call) f = sim_pay _ ▹ λ _. sim_do_call line call f ▹ λ back. sim_present line _

      pub sim_simple : (line : ℕ) (e : Simple) → Fits program may (simple_acts e) → Keep Value (IsSimpleValue known e) (evaluate_simple here line e) (evaluate_simple there line e)
      sim_simple line (AScalar e) f = sim_bind (sim_evaluate line e f) λ z is. sim_give (Number z) (λ w h. ap Number (subst (λ o. IsValue o z) h is))
      sim_simple line (AText e) f = sim_text line e f ▹ λ bytes. sim_give (Bytes bytes) tt
      sim_simple line (ASet e) f = sim_set line e f ▹ λ members. sim_give (Members members) tt
      sim_simple line (APointer e) f = sim_pointer line e f ▹ λ j. sim_give (Creation j) tt

      sim_subscripts : (line : ℕ) (es : Subscripts) → Fits program may (subscripts_acts es) → Keep (List ℤ) (λ xs. HaveValues known es → AreValues es xs) (subscripts here line es) (subscripts there line es)
      sim_subscripts line NoSubscript f = sim_give [] (λ h. tt)
      sim_subscripts line (Subscript constant e more) f = sim_bind (sim_evaluate line e (front program may (scalar_acts e) (subscripts_acts more) f)) λ x is. sim_bind (sim_subscripts line more (back program may (scalar_acts e) (subscripts_acts more) f)) λ xs are. sim_give (x ∷ xs) (values constant e more x xs is are)

      pub sim_locate : (line : ℕ) (path : Path) → OfPath (λ x. (root : Root) → RootOf x root → Good root) path → Fits program may (parts_of path) → Keep Place (FoundAt path) (locate here line path) (locate there line path)
      sim_locate line (Name at x steps) good f =
          let g : Good (root_of x) = good (AVariable x) refl (root_of x) refl in
          sim_pay _ ▹ λ _. weaker (λ q found. (subst Good (sym found.0) g, found.0, λ h. let m = found.1 h in (found.0, subst (Matches program.shapes steps) (sym m.1) m.2))) (sim_follow line (root_of x) [] steps g f)
      sim_locate line (OpenItem at x indexes es steps) good f =
          let g : Good (root_of x) = good (AVariable x) refl (root_of x) refl in
          sim_pay _ ▹ λ _. sim_bind (sim_array_bounds x) λ bounds are. sim_pay 1 ▹ λ _. sim_bind (sim_subscripts line es (front program may (subscripts_acts es) (selectors_acts steps) f)) λ xs values. sim_bind (subscribes line (spans_of indexes bounds) xs) λ j at.
          weaker (λ q found. (subst Good (sym found.0) g, found.0, λ h. let m = found.1 h.1 in (found.0, j, m.0, m.1, subst (λ z. IsBracket (spans_of indexes z) es j) are (record { xs = xs; within = at.0; number_is = at.1; values = values h.0 }), m.2)))
          (sim_follow line (root_of x) (j ∷ []) steps g (back program may (subscripts_acts es) (selectors_acts steps) f))
      sim_locate line (Element at m e steps) good f = sim_pay _ ▹ λ _. sim_pointer line e (front program may (pointer_acts e) (selectors_acts steps) f) ▹ λ j. sim_living line m j ▹ λ _.
          weaker (λ q found. (subst Good (sym found.0) (good (ACollection m) refl (OfCollection m j) (j, refl)), (j, found.0), λ h. let w = found.1 h in (j, found.0, subst (Matches program.shapes steps) (sym w.1) w.2)))
          (sim_follow line (OfCollection m j) [] steps (good (ACollection m) refl (OfCollection m j) (j, refl)) (back program may (pointer_acts e) (selectors_acts steps) f))
      sim_locate line (ResultOf at j call steps) good f = sim_pay _ ▹ λ _. sim_do_call line call (front program may (call_acts call) (selectors_acts steps) f) ▹ λ back'. sim_change _ _ (k.stores_result j (content_back back')) ▹ λ _.
          weaker (λ q found. (subst Good (sym found.0) (k.results j), (j, found.0), λ h. let w = found.1 h in (found.0, subst (Matches program.shapes steps) (sym w.1) w.2)))
          (sim_follow line (OfCall j) [] steps (k.results j) (back program may (call_acts call) (selectors_acts steps) f))

      sim_follow : (line : ℕ) (root : Root) (way : Way) (steps : Selectors) → Good root → Fits program may (selectors_acts steps) → Keep Place (FoundBehind root way steps) (follow here line root way steps) (follow there line root way steps)
      sim_follow line root way End good f = sim_give _ (refl, λ h. ([], sym (append-nil way), refl))
      sim_follow line root way (Field m j more) good f = sim_pay 1 ▹ λ _. weaker (λ q found. more_behind root way j (Field m j more) more q (λ h. h) (λ rest h g. (rest, refl, g)) found) (sim_follow line root (way ++ j ∷ []) more good f)
      sim_follow line root way (VariantField m j more) good f = sim_pay 1 ▹ λ _. sim_shape m ▹ λ s. sim_union_of s ▹ λ u. sim_value_at (record { root = root; way = way ++ 0 ∷ [] }) good ▹ λ tag. sim_demand kind.Tag line _ ▹ λ _.
          weaker (λ q found. more_behind root way j (VariantField m j more) more q (λ h. h) (λ rest h g. (rest, refl, g)) found) (sim_follow line root (way ++ j ∷ []) more good f)
      sim_follow line root way (Item m es more) good f = sim_pay 1 ▹ λ _. sim_bind (sim_subscripts line es (front program may (subscripts_acts es) (selectors_acts more) f)) λ xs values. sim_bind (sim_shape m) λ s e. sim_bind (spans_in s) λ spans is. sim_bind (subscribes line spans xs) λ j at.
          weaker (λ q found. more_behind root way j (Item m es more) more q (λ h. h.1) (λ rest h g. (j, rest, refl, bracket_of m s spans es xs j e is at (values h.0), g)) found) (sim_follow line root (way ++ j ∷ []) more good (back program may (subscripts_acts es) (selectors_acts more) f))

      pub sim_do_call : (line : ℕ) (call : Call) → Fits program may (call_acts call) → Keep Back Any (do_call here line call) (do_call there line call)
      sim_do_call line (Calls at callee invariant actuals) f =
          let can = (back program may (actuals_acts actuals) (Calling (Calls at callee invariant actuals) ∷ []) f).0 in
          let g = front program may (actuals_acts actuals) (Calling (Calls at callee invariant actuals) ∷ []) f in
          sim_keep_invariant line at callee actuals invariant can ▹ λ _. sim_bind (sim_actual line actuals g) λ given found. sim_bind (sim_test_pairs line given (pairs_of actuals)) λ _ passed. k.performs line at callee invariant actuals given can (lends_fit program may actuals g) found.0 found.1 passed ▹ λ back'. sim_keep_invariant line at callee actuals invariant can ▹ λ _. sim_give back' tt

      sim_actual : (line : ℕ) (actuals : Actuals) → Fits program may (actuals_acts actuals) → Keep (List Actual) (λ given. AllLent Good given × (LendsRight known actuals → AreFound program.shapes array_bounds (λ q. Good q.root) actuals given)) (actual here line actuals) (actual there line actuals)
      sim_actual line NoActual f = sim_give [] (tt, λ h. refl)
      sim_actual line (Given at size e more) f = sim_simple line e (front program may (simple_acts e) (actuals_acts more) f) ▹ λ v. sim_bind (sim_actual line more (back program may (simple_acts e) (actuals_acts more) f)) λ others found. sim_give _ (found.0, λ h. (given_bounds here size, v, others, refl, found.1 h))
      sim_actual line (Lent at is_var bounds path more) f =
          let g = lent_path is_var path (front program may (path_acts (lending is_var) path) (actuals_acts more) f) in
          sim_bind (sim_locate line path g.0 g.1) λ q at'. sim_lent_bounds bounds q ▹ λ bs. sim_bind (sim_actual line more (back program may (path_acts (lending is_var) path) (actuals_acts more) f)) λ others found. sim_give _ ((at'.0, found.0), λ h. (bs, q, others, refl, at'.0, at'.2 h.1, found.1 h.3))

    -- ---- paths as they are used

    pub sim_reading : (line : ℕ) (path : Path) → Fits program may (path_acts Reading path) → Keep Place (FoundAt path) (locate here line path) (locate there line path)
    sim_reading line path f = sim_locate line path (reading path f) (reading_parts path f)

    pub sim_changing : (line : ℕ) (path : Path) → Fits program may (path_acts Changing path) → Keep Place (FoundAt path) (locate here line path) (locate there line path)
    sim_changing line path f = let g = changed_path program may path f in sim_locate line path (begins path (inr g.0)) g.1

    pub sim_lending : (line : ℕ) (is_var : Bool) (path : Path) → Fits program may (path_acts (lending is_var) path) → Keep Place (FoundAt path) (locate here line path) (locate there line path)
    sim_lending line is_var path f = let g = lent_path is_var path f in sim_locate line path g.0 g.1

    -- ---- what statements evaluate

    pub sim_condition : (line : ℕ) (e : Scalar) → Fits program may (scalar_acts e) → Keep Bool Any (condition here line e) (condition there line e)
    sim_condition line e f = sim_evaluate line e f ▹ λ z. sim_give _ tt

    started : (target : Target) (e : Simple) (v : Value) → IsSimpleValue known e v → (z : ℤ) → StartsWith known (WithValue target e) z → alone v [] ≡ Number z
    started target (AScalar e) v is z h = is z h
    started target (AText e) v is z h = absurd h
    started target (ASet e) v is z h = absurd h
    started target (APointer e) v is z h = absurd h

    mutual
      pub sim_begin : (line : ℕ) (start : Start) → Fits program may (start_acts start) → Keep Content (λ content. (z : ℤ) → StartsWith known start z → content [] ≡ Number z) (begin here line start) (begin there line start)
      sim_begin line (WithValue target e) f = sim_bind (sim_simple line e f) λ v is. sim_unless_raised line _ ▹ λ _. sim_give _ (started target e v is)
      sim_begin line (WithCopy m path) f = sim_bind (sim_reading line path f) λ q found. weaker (λ content _ z h. absurd h) (sim_fetched q found.0)
      sim_begin line (WithParts m starts) f = sim_pay 1 ▹ λ _. weaker (λ content _ z h. absurd h) (sim_begin_all line 0 unset starts f)

      sim_begin_all : (line : ℕ) (j : ℕ) (content : Content) (starts : Starts) → Fits program may (starts_acts starts) → Keep Content Any (begin_all here line j content starts) (begin_all there line j content starts)
      sim_begin_all line j content NoStart f = sim_give content tt
      sim_begin_all line j content (AndStart start more) f = sim_begin line start (front program may (start_acts start) (starts_acts more) f) ▹ λ part. sim_begin_all line (suc j) _ more (back program may (start_acts start) (starts_acts more) f)

    pub sim_upper_bounds : (line : ℕ) (indexes : List Index) (es : Scalars) → Fits program may (scalars_acts es) → Keep (List ℤ) Any (upper_bounds here line indexes es) (upper_bounds there line indexes es)
    sim_upper_bounds line [] es f = sim_give [] tt
    sim_upper_bounds line (Known s ∷ more) es f = sim_upper_bounds line more es f
    sim_upper_bounds line (Open low ∷ more) NoScalar f = sim_found None
    sim_upper_bounds line (Open low ∷ more) (AndScalar e es) f = sim_evaluate line e (front program may (scalar_acts e) (scalars_acts es) f) ▹ λ x. sim_demand kind.Bounds line _ ▹ λ _. sim_upper_bounds line more es (back program may (scalar_acts e) (scalars_acts es) f) ▹ λ rest. sim_give _ tt

    sim_width : (line : ℕ) (e : Optional) → Fits program may (optional_acts e) → Keep ℕ Any (width here line e) (width there line e)
    sim_width line e f = sim_optional line (pos 0) e f ▹ λ z. sim_width_of line z

    pub sim_show : (line : ℕ) (stream : Option ℤ) (shown : Shown) → Fits program may (shown_acts shown) → Keep (Unit {0}) Any (show here line stream shown) (show there line stream shown)
    sim_show line stream NoneShown f = sim_give tt tt
    sim_show line stream (ShowInt e wide more) f =
        let g = back program may (scalar_acts e) (optional_acts wide ++ shown_acts more) f in
        sim_evaluate line e (front program may (scalar_acts e) (optional_acts wide ++ shown_acts more) f) ▹ λ x. sim_width line wide (front program may (optional_acts wide) (shown_acts more) g) ▹ λ j. sim_put_part line stream (put_int x j) ▹ λ _. sim_show line stream more (back program may (optional_acts wide) (shown_acts more) g)
    sim_show line stream (ShowTruth e wide more) f =
        let g = back program may (scalar_acts e) (optional_acts wide ++ shown_acts more) f in
        sim_condition line e (front program may (scalar_acts e) (optional_acts wide ++ shown_acts more) f) ▹ λ x. sim_width line wide (front program may (optional_acts wide) (shown_acts more) g) ▹ λ j. sim_put_part line stream (put_truth x j) ▹ λ _. sim_show line stream more (back program may (optional_acts wide) (shown_acts more) g)
    sim_show line stream (ShowText e wide more) f =
        let g = back program may (text_acts e) (optional_acts wide ++ shown_acts more) f in
        sim_text line e (front program may (text_acts e) (optional_acts wide ++ shown_acts more) f) ▹ λ x. sim_width line wide (front program may (optional_acts wide) (shown_acts more) g) ▹ λ j. sim_put_part line stream (put_text x j) ▹ λ _. sim_show line stream more (back program may (optional_acts wide) (shown_acts more) g)

    pub sim_first_and_count : (line : ℕ) (decreasing : Bool) (range : Range) → Fits program may (range_acts range) → Keep (ℤ × ℕ) Any (first_and_count here line decreasing range) (first_and_count there line decreasing range)
    sim_first_and_count line false (FromTo a b) f = sim_evaluate line a (front program may (scalar_acts a) (scalar_acts b) f) ▹ λ x. sim_evaluate line b (back program may (scalar_acts a) (scalar_acts b) f) ▹ λ y. sim_give _ tt
    sim_first_and_count line true (FromTo a b) f = sim_evaluate line a (front program may (scalar_acts a) (scalar_acts b) f) ▹ λ x. sim_evaluate line b (back program may (scalar_acts a) (scalar_acts b) f) ▹ λ y. sim_give _ tt
    sim_first_and_count line false (Through s) f = sim_give _ tt
    sim_first_and_count line true (Through s) f = sim_give _ tt
