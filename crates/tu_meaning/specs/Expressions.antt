-- What expressions and paths do, over any store. What they raise has the line of the statement, declaration, arm or clause around them.
use Rattle.std.specs.Prelude.{ℕ, Bool, true, false, not, List, [], ◌∷◌, ◌++◌, length, slice_get, Option, Some, None, ℤ, pos, ◌-ℤ◌}
use Rattle.tu_base.specs.declared.kind.Kind.{Kind}
use Rattle.tu_base.specs.declared.kind.Kind.TheVariants as kind
use Rattle.tu_base.specs.declared.shape.Shape.{Shape}
use Rattle.tu_base.specs.declared.operator.Relation.TheVariants.{Equal}
use Rattle.tu_base.specs.Shapes.{set_words}
use Rattle.tu_base.specs.Values.{Value, Number, Bytes, Members, Creation, Content, Way, scalar_in, text_in, set_in, pointer_in}
use Rattle.tu_base.specs.Scalars.{binary, exact, compared, decided, is_true}
use Rattle.tu_base.specs.Texts.{compare_texts, joined, repeated, place_in, character_at, part_from, byte_of, text_of_byte, int_text, text_int}
use Rattle.tu_base.specs.Sets.{Base, empty_set, full_set, with_member, membership, combined, compare_sets}
use Rattle.tu_base.specs.Reading.{look as look_ahead, is_at_end}
use Rattle.tu_core.specs.declared.names.Variable.{Variable}
use Rattle.tu_core.specs.declared.names.Variable.TheVariants.{Global, Local}
use Rattle.tu_core.specs.Core.{Scalar, Literal, Use, Prefixed, Chain, CompareTexts, CompareSets, ComparePointers, Member, Length, PlaceIn, ByteOf, TextInt, Bound, AtEnd, CallScalar, Links, NoLink, Link, Decide, Text, Written, UseText, Joined, Cut, Character, IntText, Repeat, CallText, Texts, NoText, AndText, Cuts, NoCut, CutCharacter, CutPart, Spot, Exactly, Last, BeforeLast, Set, SetOf, FullSet, UseSet, Combined, CallSet, Combinations, NoSet, AndSet, Pointer, Nil, UsePointer, CallPointer, Scalars, NoScalar, AndScalar, Optional, Absent, Present, Path, Name, OpenItem, Element, ResultOf, Selectors, End, Field, VariantField, Item, Subscripts, NoSubscript, Subscript, Call, Calls, Actuals, NoActual, Given, Lent, Simple, AScalar, AText, ASet, APointer, Program}
use Rattle.tu_core.specs.Nodes.{scalar_nodes, text_nodes, set_nodes, pointer_nodes, spot_nodes, path_nodes, link_count, text_count, cut_count, set_count}
use Rattle.tu_core.specs.Walk.{Pair, pairs_of}
use Rattle.tu_meaning.specs.Steps.{Step, give, look, change, pay, ◌>>=◌, ◌>>◌}
use Rattle.tu_meaning.specs.Store.{Root, OfProgram, OfActivation, OfCall, OfCollection, Place, holds, Actual, GivenValue, LentPlace, Passing, actuals_meet, lent_at}
use Rattle.tu_meaning.specs.Words.{answered, present, found, demand, truth, prefixed, unless_decided, spans_of, subscribed, indexes_of, union_of, is_selected, bound_in, living, source_there, take_text, Back, value_back, content_back}

abbrev pub root_of : Variable → Root
root_of (Global x) = OfProgram x
root_of (Local x) = OfActivation x

-- The calls that a text may make: the steps of a call behind the tests of its pairs.
abbrev pub Performs : Type 0 → Type 0
Performs S = (line callee : ℕ) → List Actual → Step S Back

-- the exception that a handler has taken, for `quit` without a value
abbrev pub Taken : Type 0
Taken = Option (Kind × ℕ)

-- Where a text runs: over a store, within so many turns, with the words of the program's shapes, with the calls that it may make, its scalar
-- locals, and what its handler has taken.
pub record Running (S : Type 0) : Type 0 where
  pub passing : Passing S
  pub turns : ℕ
  pub depth : ℕ
  pub program : Program
  pub words : List ℕ
  pub perform : Performs S
  pub scalars : List ℕ
  pub taken : Taken

module _ {S : Type 0} (here : Running S) where
  abbrev pub shape : ℕ → Step S Shape
  shape n = found (slice_get here.program.shapes n)

  -- a call of a module's invariant, where there is one
  abbrev pub keep_invariant : (line : ℕ) → Option ℕ → Step S (Unit {0})
  keep_invariant line None = give tt
  keep_invariant line (Some m) = do
    back ← here.perform line m []
    give tt

  -- each pair is tested in its order, which costs a unit for each noted test
  abbrev pub test_pairs : (line : ℕ) → List Actual → List Pair → Step S (Unit {0})
  test_pairs line actuals [] = give tt
  test_pairs line actuals (p ∷ more) = do
    pay (length p.tests)
    demand kind.Overlap line (not (actuals_meet (lent_at actuals p.first) (lent_at actuals p.second) p.tests))
    test_pairs line actuals more

  abbrev pub fetched : Place → Step S Content
  fetched p = look (λ s. here.passing.fetch s p)

  abbrev pub bounds_of : Root → Step S (List ℤ)
  bounds_of root = look (λ s. here.passing.bounds s root)

  -- what stands at a place without parts
  abbrev pub value_at : Place → Step S Value
  value_at p = look (λ s. here.passing.fetch s p [])

  -- the bounds or the size of what is lent: known, or those at its root
  abbrev pub lent_bounds : Option (List ℤ) → Place → Step S (List ℤ)
  lent_bounds (Some bounds) p = give bounds
  lent_bounds None p = bounds_of p.root

  -- the size that a value has for a formal `string (*)`
  abbrev pub given_bounds : Option ℕ → List ℤ
  given_bounds None = []
  given_bounds (Some n) = pos n ∷ []

  -- whether the console, or a stream, has no byte ahead
  abbrev pub at_end : (line : ℕ) → (stream : Option ℤ) → Step S ℤ
  at_end line stream = do
    source_there line stream
    r ← take_text line stream look_ahead
    truth (is_at_end r.source)

  abbrev mutual
    pub evaluate : (line : ℕ) → Scalar → Step S ℤ
    evaluate line (Literal n z) = do
      pay (scalar_nodes (Literal n z))
      give z
    evaluate line (Use n path) = do
      p ← locate line path
      v ← value_at p
      present line (scalar_in v)
    evaluate line (Prefixed n operators e) = do
      pay (scalar_nodes (Prefixed n operators e))
      z ← evaluate line e
      prefixed line operators z
    evaluate line (Chain n e links) = do
      pay (link_count links)
      z ← evaluate line e
      chain line z links
    evaluate line (CompareTexts n relation a b) = do
      pay (scalar_nodes (CompareTexts n relation a b))
      x ← evaluate_text line a
      y ← evaluate_text line b
      holds ← answered line (compare_texts relation x y)
      truth holds
    evaluate line (CompareSets n relation base a b) = do
      pay (scalar_nodes (CompareSets n relation base a b))
      x ← evaluate_set line a
      y ← evaluate_set line b
      holds ← answered line (compare_sets base relation x y)
      truth holds
    evaluate line (ComparePointers n is_equal a b) = do
      pay (scalar_nodes (ComparePointers n is_equal a b))
      x ← evaluate_pointer line a
      y ← evaluate_pointer line b
      truth (elim is_equal [ true ↦ compared Equal (pos x) (pos y) | false ↦ not (compared Equal (pos x) (pos y)) ])
    evaluate line (Member n is_wanted base e s) = do
      pay (scalar_nodes (Member n is_wanted base e s))
      z ← evaluate line e
      members ← evaluate_set line s
      holds ← answered line (membership base is_wanted z members)
      truth holds
    evaluate line (Length n e) = do
      pay (scalar_nodes (Length n e))
      bytes ← evaluate_text line e
      give (pos (length bytes))
    evaluate line (PlaceIn n a b) = do
      pay (scalar_nodes (PlaceIn n a b))
      x ← evaluate_text line a
      y ← evaluate_text line b
      answered line (place_in x y)
    evaluate line (ByteOf n e) = do
      pay (scalar_nodes (ByteOf n e))
      bytes ← evaluate_text line e
      answered line (byte_of bytes)
    evaluate line (TextInt n e) = do
      pay (scalar_nodes (TextInt n e))
      bytes ← evaluate_text line e
      answered line (text_int bytes)
    -- where the array has run-time bounds, they stand at its name
    evaluate line (Bound n is_upper indexes path dimension) = do
      pay (scalar_nodes (Bound n is_upper indexes path dimension))
      p ← locate line path
      bounds ← bounds_of p.root
      d ← optional line (pos 1) dimension
      bound_in line is_upper (spans_of indexes bounds) d
    evaluate line (AtEnd n at stream) = do
      pay (scalar_nodes (AtEnd n at stream))
      k ← stream_of line stream
      at_end line k
    evaluate line (CallScalar n call) = do
      pay (scalar_nodes (CallScalar n call))
      back ← do_call line call
      present line (scalar_in (value_back back))

    -- operators from the left, behind a value
    pub chain : (line : ℕ) → ℤ → Links → Step S ℤ
    chain line z NoLink = give z
    chain line z (Link operator e more) = do
      x ← evaluate line e
      y ← answered line (binary operator z x)
      chain line y more
    chain line z (Decide operator e more) = do
      y ← unless_decided (decided operator (is_true z)) (evaluate line e)
      chain line y more

    -- a value that may be left out, and what then stands for it
    pub optional : (line : ℕ) → (otherwise : ℤ) → Optional → Step S ℤ
    optional line otherwise Absent = give otherwise
    optional line otherwise (Present e) = evaluate line e

    pub stream_of : (line : ℕ) → Optional → Step S (Option ℤ)
    stream_of line Absent = give None
    stream_of line (Present e) = do
      k ← evaluate line e
      give (Some k)

    pub evaluate_text : (line : ℕ) → Text → Step S (List ℕ)
    evaluate_text line (Written n bytes) = do
      pay (text_nodes (Written n bytes))
      give bytes
    evaluate_text line (UseText n path) = do
      p ← locate line path
      v ← value_at p
      present line (text_in v)
    evaluate_text line (Joined n e more) = do
      pay (text_count more)
      bytes ← evaluate_text line e
      join line bytes more
    evaluate_text line (Cut n e cuts) = do
      pay (cut_count cuts)
      bytes ← evaluate_text line e
      cut line bytes cuts
    evaluate_text line (Character n e) = do
      pay (text_nodes (Character n e))
      z ← evaluate line e
      answered line (text_of_byte z)
    evaluate_text line (IntText n e width) = do
      pay (text_nodes (IntText n e width))
      z ← evaluate line e
      w ← optional line (pos 0) width
      answered line (int_text z w)
    evaluate_text line (Repeat n e k) = do
      pay (text_nodes (Repeat n e k))
      bytes ← evaluate_text line e
      z ← evaluate line k
      answered line (repeated bytes z)
    evaluate_text line (CallText n call) = do
      pay (text_nodes (CallText n call))
      back ← do_call line call
      present line (text_in (value_back back))

    pub join : (line : ℕ) → List ℕ → Texts → Step S (List ℕ)
    join line bytes NoText = give bytes
    join line bytes (AndText e more) = do
      others ← evaluate_text line e
      all ← answered line (joined bytes others)
      join line all more

    pub cut : (line : ℕ) → List ℕ → Cuts → Step S (List ℕ)
    cut line bytes NoCut = give bytes
    cut line bytes (CutCharacter i more) = do
      x ← spot line bytes i
      one ← answered line (character_at bytes x)
      cut line one more
    cut line bytes (CutPart i j more) = do
      x ← spot line bytes i
      y ← spot line bytes j
      some ← answered line (part_from bytes x y)
      cut line some more

    -- a place in a text; `*` is the length
    pub spot : (line : ℕ) → (bytes : List ℕ) → Spot → Step S ℤ
    spot line bytes (Exactly e) = evaluate line e
    spot line bytes Last = do
      pay (spot_nodes Last)
      give (pos (length bytes))
    spot line bytes (BeforeLast e) = do
      pay (spot_nodes (BeforeLast e))
      z ← evaluate line e
      answered line (exact (pos (length bytes) -ℤ z))

    pub evaluate_set : (line : ℕ) → Set → Step S (List Bool)
    evaluate_set line (SetOf n base es) = do
      pay (set_nodes (SetOf n base es))
      members ← gather line base (empty_set base) es
      pay (set_words base.members)
      give members
    evaluate_set line (FullSet n base) = do
      pay (set_nodes (FullSet n base))
      pay (set_words base.members)
      give (full_set base)
    evaluate_set line (UseSet n path) = do
      p ← locate line path
      v ← value_at p
      present line (set_in v)
    evaluate_set line (Combined n base e more) = do
      pay (set_count more)
      members ← evaluate_set line e
      combine line base members more
    evaluate_set line (CallSet n call) = do
      pay (set_nodes (CallSet n call))
      back ← do_call line call
      present line (set_in (value_back back))

    pub combine : (line : ℕ) → Base → List Bool → Combinations → Step S (List Bool)
    combine line base members NoSet = give members
    combine line base members (AndSet operator e more) = do
      others ← evaluate_set line e
      all ← answered line (combined base operator members others)
      combine line base all more

    -- each member of a set value is tested before the next one is evaluated
    pub gather : (line : ℕ) → Base → List Bool → Scalars → Step S (List Bool)
    gather line base members NoScalar = give members
    gather line base members (AndScalar e more) = do
      z ← evaluate line e
      others ← answered line (with_member base z members)
      gather line base others more

    pub evaluate_pointer : (line : ℕ) → Pointer → Step S ℕ
    evaluate_pointer line (Nil n at c) = do
      pay (pointer_nodes (Nil n at c))
      give 0
    evaluate_pointer line (UsePointer n path) = do
      p ← locate line path
      v ← value_at p
      present line (pointer_in v)
    evaluate_pointer line (CallPointer n call) = do
      pay (pointer_nodes (CallPointer n call))
      back ← do_call line call
      present line (pointer_in (value_back back))

    pub evaluate_simple : (line : ℕ) → Simple → Step S Value
    evaluate_simple line (AScalar e) = do
      z ← evaluate line e
      give (Number z)
    evaluate_simple line (AText e) = do
      bytes ← evaluate_text line e
      give (Bytes bytes)
    evaluate_simple line (ASet e) = do
      members ← evaluate_set line e
      give (Members members)
    evaluate_simple line (APointer e) = do
      creation ← evaluate_pointer line e
      give (Creation creation)

    pub subscripts : (line : ℕ) → Subscripts → Step S (List ℤ)
    subscripts line NoSubscript = give []
    subscripts line (Subscript constant e more) = do
      x ← evaluate line e
      xs ← subscripts line more
      give (x ∷ xs)

    -- the place that a path names
    pub locate : (line : ℕ) → Path → Step S Place
    locate line (Name at x steps) = do
      pay (path_nodes (Name at x steps))
      follow line (root_of x) [] steps
    locate line (OpenItem at x indexes es steps) = do
      pay (path_nodes (OpenItem at x indexes es steps))
      bounds ← bounds_of (root_of x)
      pay 1
      xs ← subscripts line es
      k ← subscribed line (spans_of indexes bounds) xs
      follow line (root_of x) (k ∷ []) steps
    locate line (Element at c e steps) = do
      pay (path_nodes (Element at c e steps))
      k ← evaluate_pointer line e
      living line c k
      follow line (OfCollection c k) [] steps
    locate line (ResultOf at k call steps) = do
      pay (path_nodes (ResultOf at k call steps))
      back ← do_call line call
      change (λ s. here.passing.declare s (OfCall k) (holds (content_back back)))
      follow line (OfCall k) [] steps

    -- The place that selectors lead to from one. Each is tested before the next one is evaluated.
    pub follow : (line : ℕ) → Root → Way → Selectors → Step S Place
    follow line root way End = give (record { root = root; way = way })
    follow line root way (Field n k more) = do
      pay 1
      follow line root (way ++ k ∷ []) more
    follow line root way (VariantField n k more) = do
      pay 1
      s ← shape n
      u ← union_of s
      tag ← value_at (record { root = root; way = way ++ 0 ∷ [] })
      demand kind.Tag line (is_selected u.1 k (scalar_in tag))
      follow line root (way ++ k ∷ []) more
    follow line root way (Item n es more) = do
      pay 1
      xs ← subscripts line es
      s ← shape n
      spans ← indexes_of s
      k ← subscribed line spans xs
      follow line root (way ++ k ∷ []) more

    -- A call: the invariant, the actuals in order, the pairs, what a call does, and the invariant again.
    pub do_call : (line : ℕ) → Call → Step S Back
    do_call line (Calls at callee invariant actuals) = do
      keep_invariant line invariant
      given ← actual line actuals
      test_pairs line given (pairs_of actuals)
      back ← here.perform line callee given
      keep_invariant line invariant
      give back

    pub actual : (line : ℕ) → Actuals → Step S (List Actual)
    actual line NoActual = give []
    actual line (Given at size e more) = do
      v ← evaluate_simple line e
      others ← actual line more
      give (GivenValue (given_bounds size) v ∷ others)
    actual line (Lent at is_var known path more) = do
      p ← locate line path
      bounds ← lent_bounds known p
      others ← actual line more
      give (LentPlace is_var bounds p ∷ others)
