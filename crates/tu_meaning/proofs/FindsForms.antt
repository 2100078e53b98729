-- The induction over a core: a rule applies to each step of what is well formed.
use Rattle.std.proofs.Common.{◌≡◌, ℕ, zero, suc, Bool, true, false, ◌&&◌, List, [], ◌∷◌, ◌++◌, Option, Some, None, refl, sym, subst}
use Rattle.std.specs.Prelude.{ℤ, pos, slice_get, is_some}
use Rattle.std.specs.List.{list_all}
use Rattle.tu_base.specs.declared.kind.Kind.TheVariants as kind
use Rattle.tu_base.specs.declared.shape.Span.{Span}
use Rattle.tu_base.specs.declared.shape.Variant.{Variant}
use Rattle.tu_base.specs.declared.shape.Shape.{Shape}
use Rattle.tu_base.specs.declared.shape.Shape.TheVariants.{Scalar as scalar_shape, Text as text_shape, Set as set_shape, Pointer as pointer_shape, Array as array_shape, Record as record_shape, Union as union_shape}
use Rattle.tu_base.specs.Values.{Value, Number, Bytes, Members, Creation, Content, Way, unset, pointer_in}
use Rattle.tu_base.specs.Scalars.{binary, are_equal, decided, is_true}
use Rattle.tu_base.specs.Texts.{compare_texts, joined, repeated, place_in, character_at, part_from, byte_of, text_of_byte, int_text, text_int, put_int, put_truth, put_text, token_int, token_truth, token_text}
use Rattle.tu_base.specs.Sets.{Base, with_member, membership, combined, compare_sets}
use Rattle.tu_base.specs.Reading.{look as look_ahead, token, line as whole_line, count}
use Rattle.tu_base.specs.Streams.{open_stream, close_stream}
use Rattle.tu_core.specs.declared.names.At.{At}
use Rattle.tu_core.specs.declared.names.Variable.{Variable}
use Rattle.tu_core.specs.declared.names.Formal.{Formal}
use Rattle.tu_core.specs.declared.names.Formal.TheVariants.{ByValue, ByCopy, ByVar}
use Rattle.tu_core.specs.declared.names.CallResult.{CallResult}
use Rattle.tu_core.specs.declared.names.CallResult.TheVariants.{Nothing, OneValue, OnePlace}
use Rattle.tu_core.specs.declared.targets.Index.{Index}
use Rattle.tu_core.specs.declared.targets.Index.TheVariants.{Known, Open}
use Rattle.tu_core.specs.declared.targets.Size.{Size}
use Rattle.tu_core.specs.declared.targets.Target.{Target}
use Rattle.tu_core.specs.declared.targets.Target.TheVariants.{TakesScalar, TakesText, TakesSet, TakesPointer}
use Rattle.tu_core.specs.Core.{Scalar, Literal, Use, Prefixed, Chain, CompareTexts, CompareSets, ComparePointers, Member, Length, PlaceIn, ByteOf, TextInt, Bound, AtEnd, CallScalar, Links, NoLink, Link, Decide, Text, Written, UseText, Joined, Cut, Character, IntText, Repeat, CallText, Texts, NoText, AndText, Cuts, NoCut, CutCharacter, CutPart, Spot, Exactly, Last, BeforeLast, Set, SetOf, FullSet, UseSet, Combined, CallSet, Combinations, NoSet, AndSet, Pointer, Nil, UsePointer, CallPointer, Scalars, NoScalar, AndScalar, Optional, Absent, Present, Path, Name, OpenItem, Element, ResultOf, Selectors, End, Field, VariantField, Item, Subscripts, NoSubscript, Subscript, Call, Calls, Actuals, NoActual, Given, Lent, Simple, AScalar, AText, ASet, APointer, Start, WithValue, WithCopy, WithParts, Starts, NoStart, AndStart, Range, FromTo, Through, Shown, NoneShown, ShowInt, ShowTruth, ShowText, Taken, NoneTaken, TakeInt, TakeTruth, TakeToken, TakeLine, TakeCount, Test, Plain, Assign, Copy, Exit, Return, Give, GiveCopy, Check, New, Free, Tag, Put, Get, OpenStream, Close, Do, Quit, Named, Declaration, Constant, InitClause, Variables, Started, Arrays, Collections, Mention, Statement, Simply, If, Loop, For, Case, Begin, Module, Block, Empty, Then, Declare, Bind, Otherwise, Else, Elsif, Arms, NoArm, Default, Labelled, Handler, NoHandler, Handles, Routine, Program}
use Rattle.tu_core.specs.Targets.{is_scalar, is_text, is_set_of, is_pointer_to}
use Rattle.tu_core.specs.Rooms.{is_scalar_shape}
use Rattle.tu_core.specs.Places.{Stands, NoPlace, Shaped, Takes, OpenArray, Names, names_of, body_names, gives_nothing, has_some, is_place, has_shape, field_at, variant_field_at, item_at, count_subscripts, shape_at, stands_at, open_item, element_of, call_stands}
use Rattle.tu_core.specs.WellFormed.{part_at, gives_value, gives_place, collection_of, good_value, has_no_formal, can_keep, good_invariant, good_scalar, good_links, good_optional, good_text, good_texts, good_cuts, good_spot, good_set, good_combinations, good_scalars, good_pointer, good_subscripts, good_path, good_selectors, good_call, good_actuals, good_start, good_starts, good_start_at, good_constant, good_bounds, good_declaration, good_shown, good_taken, is_tagged, good_plain, good_range, good_test, good_statement, good_block, good_otherwise, good_arms, good_handler, good_blocks, good_routine}
use Rattle.tu_core.specs.Walk.{Pair, pairs_of}
use Rattle.tu_core.specs.Rooms.{joins, scalars_of}
use Rattle.tu_meaning.specs.Steps.{Step}
use Rattle.tu_meaning.specs.Store.{Root, OfCall, OfCollection, Place, Held, holds_nothing, Actual, GivenValue, LentPlace, Passing}
use Rattle.tu_meaning.specs.Words.{found, indexes_of, union_of, span_of, spans_of, Back, Flow, Next, Exits, Returns, GivesBack}
use Rattle.tu_meaning.specs.Expressions.{root_of, Performs, Taken as Caught, Running, shape, keep_invariant, test_pairs, fetched, bounds_of, value_at, lent_bounds, at_end, evaluate, chain, optional, stream_of, evaluate_text, join, cut, spot, evaluate_set, combine, gather, evaluate_pointer, evaluate_simple, subscripts, locate, follow, do_call, actual}
use Rattle.tu_meaning.specs.Statements.{condition, store, begin, begin_all, declare_all, assign_all, name_constant, name_constants, upper_bounds, declare_arrays, declare, width, show, most_at, most_token, store_text, get, quit, execute_plain, first_and_count, is_labelled, test, execute_round, execute_indexed, execute_arm, in_scope, begun, execute, execute_otherwise, choose, execute_parts}
use Rattle.tu_meaning.specs.Subprograms.{execute_text, receive_all, result_of, unless_missing, run_body, run_handled, name_result, run_routine, activation, calls}
use Rattle.tu_meaning.proofs.WordForms.{Any}
use Rattle.tu_core.proofs.Tests.{no_so, left, right, has_item, all_pass}
use Rattle.tu_meaning.proofs.Finds.{Finds, finds_bind, ◌▹◌, finds_give, gives, raises, stops, finds_look, finds_change, finds_pay, finds_note, finds_if, finds_turn, finds_room, finds_scope, finds_handled, finds_answered, finds_present, finds_demand, finds_unless_raised, finds_truth, finds_prefixed, finds_unless_decided, finds_subscribed, finds_bound_in, finds_outside, finds_living, finds_make_element, finds_remove_element, finds_keep_file, finds_put_part, finds_end_line, finds_width_of, finds_source_there, finds_take_text, finds_and_then, finds_rounds, finds_rounds_over}

-- as many actuals as formals, each of the kind that its formal takes
abbrev pub Fits : List Formal → List Actual → Type 0
Fits [] [] = Unit {0}
Fits [] (a ∷ others) = ⊥
Fits (f ∷ more) [] = ⊥
Fits (ByValue target ∷ more) (GivenValue bounds v ∷ others) = Fits more others
Fits (ByValue target ∷ more) (LentPlace is_var bounds p ∷ others) = ⊥
Fits (ByCopy kind ∷ more) (GivenValue bounds v ∷ others) = ⊥
Fits (ByCopy kind ∷ more) (LentPlace is_var bounds p ∷ others) = Fits more others
Fits (ByVar at kind ∷ more) (GivenValue bounds v ∷ others) = ⊥
Fits (ByVar at kind ∷ more) (LentPlace is_var bounds p ∷ others) = Fits more others

fits_none : (formals : List Formal) → has_no_formal formals ≡ true → Fits formals []
fits_none [] w = tt
fits_none (f ∷ more) w = no_so w

-- a rule applies to calls of the routines of a program
abbrev pub Calling : (S : Type 0) → Program → Performs S → Type 0
Calling S program perform = (line callee : ℕ) (r : Routine) (actuals : List Actual) → slice_get program.routines callee ≡ Some r → Fits r.formals actuals → Finds S Back Any (perform line callee actuals)

-- what a shape gives
module _ (S : Type 0) where
  abbrev IsArray : Shape → Type 0
  IsArray s = Finds S (List Span) Any (indexes_of s)

  abbrev IsUnion : Shape → Type 0
  IsUnion s = Finds S (ℕ × List Variant) Any (union_of s)

  abbrev IsScalar : Shape → Type 0
  IsScalar s = Finds S Span Any (span_of s)

  -- a union whose tag is a scalar of the program
  abbrev IsTagged : Program → Shape → Type 0
  IsTagged program s = Finds S (ℕ × List Variant) (λ u. Finds S Shape IsScalar (found (slice_get program.shapes u.0))) (union_of s)

module _ {S : Type 0} where
  finds_found : {A : Type 0} (x : Option A) → is_some x ≡ true → Finds S A Any (found x)
  finds_found None w = no_so w
  finds_found (Some a) w = gives a

  finds_array : (x : Option Shape) (n : ℕ) → is_place (item_at x n) ≡ true → Finds S Shape (IsArray S) (found x)
  finds_array None n w = no_so w
  finds_array (Some (scalar_shape s)) n w = no_so w
  finds_array (Some (text_shape most)) n w = no_so w
  finds_array (Some (set_shape low members)) n w = no_so w
  finds_array (Some (pointer_shape c)) n w = no_so w
  finds_array (Some (array_shape indexes component)) n w = finds_give _ (gives indexes)
  finds_array (Some (record_shape fields)) n w = no_so w
  finds_array (Some (union_shape tag variants)) n w = no_so w

  finds_union : (x : Option Shape) (k : ℕ) → is_place (variant_field_at x k) ≡ true → Finds S Shape (IsUnion S) (found x)
  finds_union None k w = no_so w
  finds_union (Some (scalar_shape s)) k w = no_so w
  finds_union (Some (text_shape most)) k w = no_so w
  finds_union (Some (set_shape low members)) k w = no_so w
  finds_union (Some (pointer_shape c)) k w = no_so w
  finds_union (Some (array_shape indexes component)) k w = no_so w
  finds_union (Some (record_shape fields)) k w = no_so w
  finds_union (Some (union_shape tag variants)) k w = finds_give _ (gives (tag, variants))

  finds_scalar : (x : Option Shape) → has_some is_scalar_shape x ≡ true → Finds S Shape (IsScalar S) (found x)
  finds_scalar None w = no_so w
  finds_scalar (Some (scalar_shape s)) w = finds_give _ (gives s)
  finds_scalar (Some (text_shape most)) w = no_so w
  finds_scalar (Some (set_shape low members)) w = no_so w
  finds_scalar (Some (pointer_shape c)) w = no_so w
  finds_scalar (Some (array_shape indexes component)) w = no_so w
  finds_scalar (Some (record_shape fields)) w = no_so w
  finds_scalar (Some (union_shape tag variants)) w = no_so w

  finds_tagged : (names : Names) (x : Option Shape) → is_tagged names x ≡ true → Finds S Shape (IsTagged S names.program) (found x)
  finds_tagged names None w = no_so w
  finds_tagged names (Some (scalar_shape s)) w = no_so w
  finds_tagged names (Some (text_shape most)) w = no_so w
  finds_tagged names (Some (set_shape low members)) w = no_so w
  finds_tagged names (Some (pointer_shape c)) w = no_so w
  finds_tagged names (Some (array_shape indexes component)) w = no_so w
  finds_tagged names (Some (record_shape fields)) w = no_so w
  finds_tagged names (Some (union_shape tag variants)) w = finds_give _ (finds_give _ (finds_scalar (slice_get names.program.shapes tag) w))

module _ (S : Type 0) (p : Passing S) (turns : ℕ) (words : List ℕ) where
  -- a text of these names, whose calls find a rule
  module _ (names : Names) (n : ℕ) (perform : Performs S) (performs : Calling S names.program perform) (scalars : List ℕ) (taken : Caught) (takes : names.in_handler ≡ true → is_some taken ≡ true) where
    abbrev here : (depth : ℕ) → Performs S → (scalars : List ℕ) → Caught → Running S
    here depth perform scalars taken = record { passing = p; turns = turns; depth = depth; program = names.program; words = words; perform = perform; scalars = scalars; taken = taken }

    finds_fetched : (q : Place) → Finds S Content Any (fetched (here n perform scalars taken) q)
    finds_fetched q = finds_look _

    finds_bounds_of : (root : Root) → Finds S (List ℤ) Any (bounds_of (here n perform scalars taken) root)
    finds_bounds_of root = finds_look _

    finds_value_at : (q : Place) → Finds S Value Any (value_at (here n perform scalars taken) q)
    finds_value_at q = finds_look _

    finds_keep_invariant : (line : ℕ) (m : Option ℕ) → good_invariant names m ≡ true → Finds S (Unit {0}) Any (keep_invariant (here n perform scalars taken) line m)
    finds_keep_invariant line None w = gives tt
    finds_keep_invariant line (Some m) w = let h = has_item can_keep (slice_get names.program.routines m) w in performs line m h.item [] h.there (fits_none h.item.formals (left _ _ h.passes)) ▹ λ _. gives tt

    finds_test_pairs : (line : ℕ) (actuals : List Actual) (pairs : List Pair) → Finds S (Unit {0}) Any (test_pairs (here n perform scalars taken) line actuals pairs)
    finds_test_pairs line actuals [] = gives tt
    finds_test_pairs line actuals (q ∷ more) = finds_pay _ ▹ λ _. finds_demand kind.Overlap line _ ▹ λ _. finds_test_pairs line actuals more

    finds_lent_bounds : (bounds : Option (List ℤ)) (q : Place) → Finds S (List ℤ) Any (lent_bounds (here n perform scalars taken) bounds q)
    finds_lent_bounds (Some bounds) q = gives bounds
    finds_lent_bounds None q = finds_bounds_of q.root

    finds_at_end : (line : ℕ) (stream : Option ℤ) → Finds S ℤ Any (at_end (here n perform scalars taken) line stream)
    finds_at_end line stream = finds_source_there line stream ▹ λ _. finds_take_text line stream look_ahead ▹ λ r. finds_truth _

    mutual
      finds_evaluate : (line : ℕ) (e : Scalar) → good_scalar names e ≡ true → Finds S ℤ Any (evaluate (here n perform scalars taken) line e)
      finds_evaluate line (Literal m z) w = finds_pay _ ▹ λ _. gives z
      finds_evaluate line (Use m path) w = finds_locate line path (left _ _ w) ▹ λ q. finds_value_at q ▹ λ v. finds_present line _
      finds_evaluate line (Prefixed m operators e) w = finds_pay _ ▹ λ _. finds_evaluate line e w ▹ λ z. finds_prefixed line operators z
      finds_evaluate line (Chain m e links) w = finds_pay _ ▹ λ _. finds_evaluate line e (left _ _ w) ▹ λ z. finds_chain line z links (right _ _ w)
      finds_evaluate line (CompareTexts m relation a b) w = finds_pay _ ▹ λ _. finds_text line a (left _ _ w) ▹ λ x. finds_text line b (right _ _ w) ▹ λ y. finds_answered line (compare_texts relation x y) ▹ λ holds. finds_truth holds
      finds_evaluate line (CompareSets m relation base a b) w = finds_pay _ ▹ λ _. finds_set line base a (left _ _ w) ▹ λ x. finds_set line base b (right _ _ w) ▹ λ y. finds_answered line (compare_sets base relation x y) ▹ λ holds. finds_truth holds
      finds_evaluate line (ComparePointers m is_equal a b) w =
          let h = has_item (λ c. good_pointer names c a && good_pointer names c b) (collection_of names a) w in
          finds_pay _ ▹ λ _. finds_pointer line h.item a (left _ _ h.passes) ▹ λ x. finds_pointer line h.item b (right _ _ h.passes) ▹ λ y. finds_truth _
      finds_evaluate line (Member m is_wanted base e s) w = finds_pay _ ▹ λ _. finds_evaluate line e (left _ _ w) ▹ λ z. finds_set line base s (right _ _ w) ▹ λ members. finds_answered line (membership base is_wanted z members) ▹ λ holds. finds_truth holds
      finds_evaluate line (Length m e) w = finds_pay _ ▹ λ _. finds_text line e w ▹ λ bytes. gives _
      finds_evaluate line (PlaceIn m a b) w = finds_pay _ ▹ λ _. finds_text line a (left _ _ w) ▹ λ x. finds_text line b (right _ _ w) ▹ λ y. finds_answered line (place_in x y)
      finds_evaluate line (ByteOf m e) w = finds_pay _ ▹ λ _. finds_text line e w ▹ λ bytes. finds_answered line (byte_of bytes)
      finds_evaluate line (TextInt m e) w = finds_pay _ ▹ λ _. finds_text line e w ▹ λ bytes. finds_answered line (text_int bytes)
      finds_evaluate line (Bound m is_upper indexes path dimension) w = finds_pay _ ▹ λ _. finds_locate line path (left _ _ w) ▹ λ q. finds_bounds_of q.root ▹ λ bounds. finds_optional line (pos 1) dimension (right _ _ (right _ _ w)) ▹ λ d. finds_bound_in line is_upper (spans_of indexes bounds) d
      finds_evaluate line (AtEnd m at stream) w = finds_pay _ ▹ λ _. finds_stream_of line stream w ▹ λ j. finds_at_end line j
      finds_evaluate line (CallScalar m call) w = finds_pay _ ▹ λ _. finds_do_call line (gives_value is_scalar) call w ▹ λ back. finds_present line _

      finds_chain : (line : ℕ) (z : ℤ) (links : Links) → good_links names links ≡ true → Finds S ℤ Any (chain (here n perform scalars taken) line z links)
      finds_chain line z NoLink w = gives z
      finds_chain line z (Link operator e more) w = finds_evaluate line e (left _ _ w) ▹ λ x. finds_answered line (binary operator z x) ▹ λ y. finds_chain line y more (right _ _ w)
      finds_chain line z (Decide operator e more) w = finds_unless_decided (decided operator (is_true z)) _ (finds_evaluate line e (left _ _ w)) ▹ λ y. finds_chain line y more (right _ _ w)

      finds_optional : (line : ℕ) (otherwise : ℤ) (e : Optional) → good_optional names e ≡ true → Finds S ℤ Any (optional (here n perform scalars taken) line otherwise e)
      finds_optional line otherwise Absent w = gives otherwise
      finds_optional line otherwise (Present e) w = finds_evaluate line e w

      finds_stream_of : (line : ℕ) (e : Optional) → good_optional names e ≡ true → Finds S (Option ℤ) Any (stream_of (here n perform scalars taken) line e)
      finds_stream_of line Absent w = gives None
      finds_stream_of line (Present e) w = finds_evaluate line e w ▹ λ j. gives (Some j)

      finds_text : (line : ℕ) (e : Text) → good_text names e ≡ true → Finds S (List ℕ) Any (evaluate_text (here n perform scalars taken) line e)
      finds_text line (Written m bytes) w = finds_pay _ ▹ λ _. gives bytes
      finds_text line (UseText m path) w = finds_locate line path (left _ _ w) ▹ λ q. finds_value_at q ▹ λ v. finds_present line _
      finds_text line (Joined m e more) w = finds_pay _ ▹ λ _. finds_text line e (left _ _ w) ▹ λ bytes. finds_join line bytes more (right _ _ w)
      finds_text line (Cut m e cuts) w = finds_pay _ ▹ λ _. finds_text line e (left _ _ w) ▹ λ bytes. finds_cut_all line bytes cuts (right _ _ w)
      finds_text line (Character m e) w = finds_pay _ ▹ λ _. finds_evaluate line e w ▹ λ z. finds_answered line (text_of_byte z)
      finds_text line (IntText m e wide) w = finds_pay _ ▹ λ _. finds_evaluate line e (left _ _ w) ▹ λ z. finds_optional line (pos 0) wide (right _ _ w) ▹ λ j. finds_answered line (int_text z j)
      finds_text line (Repeat m e j) w = finds_pay _ ▹ λ _. finds_text line e (left _ _ w) ▹ λ bytes. finds_evaluate line j (right _ _ w) ▹ λ z. finds_answered line (repeated bytes z)
      finds_text line (CallText m call) w = finds_pay _ ▹ λ _. finds_do_call line (gives_value is_text) call w ▹ λ back. finds_present line _

      finds_join : (line : ℕ) (bytes : List ℕ) (more : Texts) → good_texts names more ≡ true → Finds S (List ℕ) Any (join (here n perform scalars taken) line bytes more)
      finds_join line bytes NoText w = gives bytes
      finds_join line bytes (AndText e more) w = finds_text line e (left _ _ w) ▹ λ others. finds_answered line (joined bytes others) ▹ λ all. finds_join line all more (right _ _ w)

      finds_cut_all : (line : ℕ) (bytes : List ℕ) (cuts : Cuts) → good_cuts names cuts ≡ true → Finds S (List ℕ) Any (cut (here n perform scalars taken) line bytes cuts)
      finds_cut_all line bytes NoCut w = gives bytes
      finds_cut_all line bytes (CutCharacter i more) w = finds_spot line bytes i (left _ _ w) ▹ λ x. finds_answered line (character_at bytes x) ▹ λ one. finds_cut_all line one more (right _ _ w)
      finds_cut_all line bytes (CutPart i j more) w = finds_spot line bytes i (left _ _ w) ▹ λ x. finds_spot line bytes j (left _ _ (right _ _ w)) ▹ λ y. finds_answered line (part_from bytes x y) ▹ λ some. finds_cut_all line some more (right _ _ (right _ _ w))

      finds_spot : (line : ℕ) (bytes : List ℕ) (i : Spot) → good_spot names i ≡ true → Finds S ℤ Any (spot (here n perform scalars taken) line bytes i)
      finds_spot line bytes (Exactly e) w = finds_evaluate line e w
      finds_spot line bytes Last w = finds_pay _ ▹ λ _. gives _
      finds_spot line bytes (BeforeLast e) w = finds_pay _ ▹ λ _. finds_evaluate line e w ▹ λ z. finds_answered line _

      finds_set : (line : ℕ) (base : Base) (e : Set) → good_set names base e ≡ true → Finds S (List Bool) Any (evaluate_set (here n perform scalars taken) line e)
      finds_set line base (SetOf m other es) w = finds_pay _ ▹ λ _. finds_gather line other _ es (right _ _ w) ▹ λ members. finds_pay _ ▹ λ _. gives members
      finds_set line base (FullSet m other) w = finds_pay _ ▹ λ _. finds_pay _ ▹ λ _. gives _
      finds_set line base (UseSet m path) w = finds_locate line path (left _ _ w) ▹ λ q. finds_value_at q ▹ λ v. finds_present line _
      finds_set line base (Combined m other e more) w = finds_pay _ ▹ λ _. finds_set line base e (left _ _ (right _ _ w)) ▹ λ members. finds_combine line base other members more (right _ _ (right _ _ w))
      finds_set line base (CallSet m call) w = finds_pay _ ▹ λ _. finds_do_call line (gives_value (is_set_of base)) call w ▹ λ back. finds_present line _

      finds_combine : (line : ℕ) (base other : Base) (members : List Bool) (more : Combinations) → good_combinations names base more ≡ true → Finds S (List Bool) Any (combine (here n perform scalars taken) line other members more)
      finds_combine line base other members NoSet w = gives members
      finds_combine line base other members (AndSet operator e more) w = finds_set line base e (left _ _ w) ▹ λ others. finds_answered line (combined other operator members others) ▹ λ all. finds_combine line base other all more (right _ _ w)

      finds_gather : (line : ℕ) (base : Base) (members : List Bool) (es : Scalars) → good_scalars names es ≡ true → Finds S (List Bool) Any (gather (here n perform scalars taken) line base members es)
      finds_gather line base members NoScalar w = gives members
      finds_gather line base members (AndScalar e more) w = finds_evaluate line e (left _ _ w) ▹ λ z. finds_answered line (with_member base z members) ▹ λ others. finds_gather line base others more (right _ _ w)

      finds_pointer : (line : ℕ) (c : ℕ) (e : Pointer) → good_pointer names c e ≡ true → Finds S ℕ Any (evaluate_pointer (here n perform scalars taken) line e)
      finds_pointer line c (Nil m at j) w = finds_pay _ ▹ λ _. gives 0
      finds_pointer line c (UsePointer m path) w = finds_locate line path (left _ _ w) ▹ λ q. finds_value_at q ▹ λ v. finds_present line _
      finds_pointer line c (CallPointer m call) w = finds_pay _ ▹ λ _. finds_do_call line (gives_value (is_pointer_to c)) call w ▹ λ back. finds_present line _

      finds_value : (line : ℕ) (target : Target) (e : Simple) → good_value names target e ≡ true → Finds S Value Any (evaluate_simple (here n perform scalars taken) line e)
      finds_value line (TakesScalar s) (AScalar e) w = finds_evaluate line e w ▹ λ z. gives (Number z)
      finds_value line (TakesScalar s) (AText e) w = no_so w
      finds_value line (TakesScalar s) (ASet e) w = no_so w
      finds_value line (TakesScalar s) (APointer e) w = no_so w
      finds_value line (TakesText size) (AScalar e) w = no_so w
      finds_value line (TakesText size) (AText e) w = finds_text line e w ▹ λ bytes. gives (Bytes bytes)
      finds_value line (TakesText size) (ASet e) w = no_so w
      finds_value line (TakesText size) (APointer e) w = no_so w
      finds_value line (TakesSet base) (AScalar e) w = no_so w
      finds_value line (TakesSet base) (AText e) w = no_so w
      finds_value line (TakesSet base) (ASet e) w = finds_set line base e w ▹ λ members. gives (Members members)
      finds_value line (TakesSet base) (APointer e) w = no_so w
      finds_value line (TakesPointer c) (AScalar e) w = no_so w
      finds_value line (TakesPointer c) (AText e) w = no_so w
      finds_value line (TakesPointer c) (ASet e) w = no_so w
      finds_value line (TakesPointer c) (APointer e) w = finds_pointer line c e w ▹ λ j. gives (Creation j)

      finds_subscripts : (line : ℕ) (es : Subscripts) → good_subscripts names es ≡ true → Finds S (List ℤ) Any (subscripts (here n perform scalars taken) line es)
      finds_subscripts line NoSubscript w = gives []
      finds_subscripts line (Subscript constant e more) w = finds_evaluate line e (left _ _ w) ▹ λ x. finds_subscripts line more (right _ _ w) ▹ λ xs. gives (x ∷ xs)

      finds_locate : (line : ℕ) (path : Path) → good_path names path ≡ true → Finds S Place Any (locate (here n perform scalars taken) line path)
      finds_locate line (Name at x steps) w = finds_pay _ ▹ λ _. finds_follow line (root_of x) [] (stands_at names x) steps (right _ _ w)
      finds_locate line (OpenItem at x indexes es steps) w = finds_pay _ ▹ λ _. finds_bounds_of (root_of x) ▹ λ bounds. finds_pay 1 ▹ λ _. finds_subscripts line es (left _ _ (left _ _ w)) ▹ λ xs. finds_subscribed line (spans_of indexes bounds) xs ▹ λ j. finds_follow line (root_of x) (j ∷ []) (open_item indexes (stands_at names x)) steps (right _ _ (left _ _ w))
      finds_locate line (Element at m e steps) w = finds_pay _ ▹ λ _. finds_pointer line m e (left _ _ w) ▹ λ j. finds_living line m j ▹ λ _. finds_follow line (OfCollection m j) [] (element_of names m) steps (right _ _ (right _ _ w))
      finds_locate line (ResultOf at j call steps) w = finds_pay _ ▹ λ _. finds_do_call line gives_place call (left _ _ w) ▹ λ back. finds_change _ ▹ λ _. finds_follow line (OfCall j) [] (call_stands names call) steps (right _ _ w)

      finds_follow : (line : ℕ) (root : Root) (way : Way) (s : Stands) (steps : Selectors) → good_selectors names s steps ≡ true → Finds S Place Any (follow (here n perform scalars taken) line root way steps)
      finds_follow line root way s End w = gives _
      finds_follow line root way s (Field m j more) w = finds_pay 1 ▹ λ _. finds_follow line root (way ++ j ∷ []) (field_at (shape_at names m) j) more (right _ _ (right _ _ w))
      finds_follow line root way s (VariantField m j more) w = finds_pay 1 ▹ λ _. finds_bind {Q = IsUnion S} (finds_union (shape_at names m) j (left _ _ (right _ _ w))) λ s' q. q ▹ λ u. finds_value_at (record { root = root; way = way ++ 0 ∷ [] }) ▹ λ tag. finds_demand kind.Tag line _ ▹ λ _. finds_follow line root (way ++ j ∷ []) (variant_field_at (shape_at names m) j) more (right _ _ (right _ _ w))
      finds_follow line root way s (Item m es more) w = finds_pay 1 ▹ λ _. finds_subscripts line es (left _ _ w) ▹ λ xs. finds_bind {Q = IsArray S} (finds_array (shape_at names m) (count_subscripts es) (left _ _ (right _ _ (right _ _ w)))) λ s' q. q ▹ λ spans. finds_subscribed line spans xs ▹ λ j. finds_follow line root (way ++ j ∷ []) (item_at (shape_at names m) (count_subscripts es)) more (right _ _ (right _ _ (right (good_subscripts names es) (has_shape m s && (is_place (item_at (shape_at names m) (count_subscripts es)) && good_selectors names (item_at (shape_at names m) (count_subscripts es)) more)) w)))

      finds_do_call : (line : ℕ) (used : CallResult → Bool) (call : Call) → good_call names used call ≡ true → Finds S Back Any (do_call (here n perform scalars taken) line call)
      finds_do_call line used (Calls at callee invariant actuals) w =
          let h = has_item (λ r. used r.gives && good_actuals names r.formals actuals) (slice_get names.program.routines callee) (right _ _ w) in
          finds_keep_invariant line invariant (left _ _ w) ▹ λ _. finds_bind {Q = Fits h.item.formals} (finds_actual line h.item.formals actuals (right _ _ h.passes)) λ given fits. finds_test_pairs line given (pairs_of actuals) ▹ λ _. performs line callee h.item given h.there fits ▹ λ back. finds_keep_invariant line invariant (left _ _ w) ▹ λ _. gives back

      -- as many actuals as formals, and each of its kind
      finds_actual : (line : ℕ) (formals : List Formal) (actuals : Actuals) → good_actuals names formals actuals ≡ true → Finds S (List Actual) (Fits formals) (actual (here n perform scalars taken) line actuals)
      finds_actual line [] NoActual w = finds_give [] tt
      finds_actual line [] (Given at size e more) w = no_so w
      finds_actual line [] (Lent at is_var known path more) w = no_so w
      finds_actual line (ByValue target ∷ formals) NoActual w = no_so w
      finds_actual line (ByCopy kind ∷ formals) NoActual w = no_so w
      finds_actual line (ByVar var kind ∷ formals) NoActual w = no_so w
      finds_actual line (ByValue target ∷ formals) (Given at size e more) w = finds_value line target e (left _ _ w) ▹ λ v. finds_bind {Q = Fits formals} (finds_actual line formals more (right _ _ (right _ _ w))) λ others fits. finds_give _ fits
      finds_actual line (ByCopy kind ∷ formals) (Given at size e more) w = no_so w
      finds_actual line (ByVar var kind ∷ formals) (Given at size e more) w = no_so w
      finds_actual line (ByValue target ∷ formals) (Lent at is_var known path more) w = no_so w
      finds_actual line (ByCopy kind ∷ formals) (Lent at true known path more) w = no_so w
      finds_actual line (ByCopy kind ∷ formals) (Lent at false known path more) w = finds_locate line path (left _ _ w) ▹ λ q. finds_lent_bounds known q ▹ λ bounds. finds_bind {Q = Fits formals} (finds_actual line formals more (right _ _ (right _ _ w))) λ others fits. finds_give _ fits
      finds_actual line (ByVar var kind ∷ formals) (Lent at false known path more) w = no_so w
      finds_actual line (ByVar var kind ∷ formals) (Lent at true known path more) w = finds_locate line path (left _ _ w) ▹ λ q. finds_lent_bounds known q ▹ λ bounds. finds_bind {Q = Fits formals} (finds_actual line formals more (right _ _ (right _ _ w))) λ others fits. finds_give _ fits

    finds_condition : (line : ℕ) (e : Scalar) → good_scalar names e ≡ true → Finds S Bool Any (condition (here n perform scalars taken) line e)
    finds_condition line e w = finds_evaluate line e w ▹ λ z. gives _

    finds_store : (line : ℕ) (target : Target) (q : Place) (v : Value) → Finds S (Unit {0}) Any (store (here n perform scalars taken) line target q v)
    finds_store line target q v = finds_bounds_of q.root ▹ λ bounds. finds_unless_raised line _ ▹ λ _. finds_change _

    mutual
      finds_begin : (line : ℕ) (m : ℕ) (start : Start) → good_start names m start ≡ true → Finds S Content Any (begin (here n perform scalars taken) line start)
      finds_begin line m (WithValue target e) w = finds_value line target e (left _ _ w) ▹ λ v. finds_unless_raised line _ ▹ λ _. gives _
      finds_begin line m (WithCopy j path) w = finds_locate line path (left _ _ (left _ _ w)) ▹ λ q. finds_fetched q
      finds_begin line m (WithParts j starts) w = let h = has_item (λ s. good_starts names s 0 starts) (slice_get names.program.shapes m) (right _ _ w) in finds_pay 1 ▹ λ _. finds_begin_all line 0 unset h.item starts h.passes

      finds_begin_all : (line : ℕ) (j : ℕ) (content : Content) (s : Shape) (starts : Starts) → good_starts names s j starts ≡ true → Finds S Content Any (begin_all (here n perform scalars taken) line j content starts)
      finds_begin_all line j content s NoStart w = gives content
      finds_begin_all line j content s (AndStart start more) w = let h = has_item (λ m. good_start names m start) (part_at s j) (left _ _ w) in finds_begin line h.item start h.passes ▹ λ part. finds_begin_all line (suc j) _ s more (right _ _ w)

    finds_declare_all : (xs : List Variable) (m : ℕ) (h : Held) → Finds S (Unit {0}) Any (declare_all (here n perform scalars taken) xs m h)
    finds_declare_all [] m h = gives tt
    finds_declare_all (x ∷ more) m h = finds_pay m ▹ λ _. finds_change _ ▹ λ _. finds_declare_all more m h

    finds_assign_all : (xs : List Variable) (m : ℕ) (content : Content) → Finds S (Unit {0}) Any (assign_all (here n perform scalars taken) xs m content)
    finds_assign_all [] m content = gives tt
    finds_assign_all (x ∷ more) m content = finds_pay m ▹ λ _. finds_change _ ▹ λ _. finds_assign_all more m content

    finds_begin_at : (line : ℕ) (s : Stands) (start : Start) → good_start_at names s start ≡ true → Finds S Content Any (begin (here n perform scalars taken) line start)
    finds_begin_at line NoPlace start w = no_so w
    finds_begin_at line (Shaped m) start w = finds_begin line m start w
    finds_begin_at line (Takes target) start w = no_so w
    finds_begin_at line (OpenArray indexes component) start w = no_so w

    finds_name_constant : (line : ℕ) (x : Named) → good_constant names x ≡ true → Finds S (Unit {0}) Any (name_constant (here n perform scalars taken) line x)
    finds_name_constant line x w = finds_pay 1 ▹ λ _. finds_begin_at line (stands_at names x.name) x.start w ▹ λ content. finds_pay _ ▹ λ _. finds_change _

    finds_name_constants : (line : ℕ) (xs : List Named) → list_all (good_constant names) xs ≡ true → Finds S (Unit {0}) Any (name_constants (here n perform scalars taken) line xs)
    finds_name_constants line [] w = gives tt
    finds_name_constants line (x ∷ more) w = finds_name_constant line x (left _ _ w) ▹ λ _. finds_name_constants line more (right _ _ w)

    finds_upper_bounds : (line : ℕ) (indexes : List Index) (es : Scalars) → good_bounds names indexes es ≡ true → Finds S (List ℤ) Any (upper_bounds (here n perform scalars taken) line indexes es)
    finds_upper_bounds line [] es w = gives []
    finds_upper_bounds line (Known s ∷ more) es w = finds_upper_bounds line more es w
    finds_upper_bounds line (Open low ∷ more) NoScalar w = no_so w
    finds_upper_bounds line (Open low ∷ more) (AndScalar e es) w = finds_evaluate line e (left _ _ w) ▹ λ x. finds_demand kind.Bounds line _ ▹ λ _. finds_upper_bounds line more es (right _ _ w) ▹ λ rest. gives (x ∷ rest)

    finds_declare_arrays : (line : ℕ) (xs : List Variable) (m : ℕ) (e : ℕ) (bounds : List ℤ) → Finds S (Unit {0}) Any (declare_arrays (here n perform scalars taken) line xs m e bounds)
    finds_declare_arrays line [] m e bounds = gives tt
    finds_declare_arrays line (x ∷ more) m e bounds = finds_room e line ▹ λ _. finds_pay _ ▹ λ _. finds_change _ ▹ λ _. finds_declare_arrays line more m e bounds

    finds_declare : (line : ℕ) (d : Declaration) → good_declaration names d ≡ true → Finds S (Unit {0}) Any (declare (here n perform scalars taken) line d)
    finds_declare line (Constant x) w = finds_name_constant line x w
    finds_declare line (InitClause xs) w = finds_pay 1 ▹ λ _. finds_name_constants line xs w
    finds_declare line (Variables xs m) w = finds_declare_all xs _ holds_nothing
    finds_declare line (Started xs m start) w = finds_declare_all xs _ holds_nothing ▹ λ _. finds_begin line m start (left _ _ w) ▹ λ content. finds_assign_all xs _ content
    finds_declare line (Arrays xs indexes component es) w = finds_declare_all xs 1 holds_nothing ▹ λ _. finds_upper_bounds line indexes es (left _ _ w) ▹ λ bounds. finds_declare_arrays line xs _ _ bounds
    finds_declare line (Collections cs) w = finds_pay _
    finds_declare line (Mention m) w = gives tt

    finds_width : (line : ℕ) (e : Optional) → good_optional names e ≡ true → Finds S ℕ Any (width (here n perform scalars taken) line e)
    finds_width line e w = finds_optional line (pos 0) e w ▹ λ z. finds_width_of line z

    finds_show : (line : ℕ) (stream : Option ℤ) (shown : Shown) → good_shown names shown ≡ true → Finds S (Unit {0}) Any (show (here n perform scalars taken) line stream shown)
    finds_show line stream NoneShown w = gives tt
    finds_show line stream (ShowInt e wide more) w = finds_evaluate line e (left _ _ w) ▹ λ x. finds_width line wide (left _ _ (right _ _ w)) ▹ λ j. finds_put_part line stream (put_int x j) ▹ λ _. finds_show line stream more (right _ _ (right _ _ w))
    finds_show line stream (ShowTruth e wide more) w = finds_condition line e (left _ _ w) ▹ λ x. finds_width line wide (left _ _ (right _ _ w)) ▹ λ j. finds_put_part line stream (put_truth x j) ▹ λ _. finds_show line stream more (right _ _ (right _ _ w))
    finds_show line stream (ShowText e wide more) w = finds_text line e (left _ _ w) ▹ λ x. finds_width line wide (left _ _ (right _ _ w)) ▹ λ j. finds_put_part line stream (put_text x j) ▹ λ _. finds_show line stream more (right _ _ (right _ _ w))

    finds_most_at : (size : Size) (q : Place) → Finds S ℕ Any (most_at (here n perform scalars taken) size q)
    finds_most_at size q = finds_bounds_of q.root ▹ λ bounds. gives _

    finds_store_text : (line : ℕ) (q : Place) (text : List ℕ) → Finds S (Unit {0}) Any (store_text (here n perform scalars taken) line q text)
    finds_store_text line q text = finds_answered line (token_text text) ▹ λ bytes. finds_change _

    finds_get : (line : ℕ) (stream : Option ℤ) (targets : Taken) → good_taken names targets ≡ true → Finds S (Unit {0}) Any (get (here n perform scalars taken) line stream targets)
    finds_get line stream NoneTaken w = gives tt
    finds_get line stream (TakeInt s path more) w = finds_locate line path (left _ _ (left _ _ w)) ▹ λ q. finds_source_there line stream ▹ λ _. finds_take_text line stream (token most_token) ▹ λ r. finds_answered line (token_int r.reading.text) ▹ λ z. finds_store line (TakesScalar s) q (Number z) ▹ λ _. finds_get line stream more (right _ _ w)
    finds_get line stream (TakeTruth path more) w = finds_locate line path (left _ _ (left _ _ w)) ▹ λ q. finds_source_there line stream ▹ λ _. finds_take_text line stream (token most_token) ▹ λ r. finds_answered line (token_truth r.reading.text) ▹ λ b. finds_change _ ▹ λ _. finds_get line stream more (right _ _ w)
    finds_get line stream (TakeToken size path more) w = finds_locate line path (left _ _ (left _ _ w)) ▹ λ q. finds_source_there line stream ▹ λ _. finds_most_at size q ▹ λ most. finds_take_text line stream (token most) ▹ λ r. finds_store_text line q r.reading.text ▹ λ _. finds_get line stream more (right _ _ w)
    finds_get line stream (TakeLine size path more) w = finds_locate line path (left _ _ (left _ _ w)) ▹ λ q. finds_source_there line stream ▹ λ _. finds_pay _ ▹ λ _. finds_most_at size q ▹ λ most. finds_take_text line stream (whole_line most) ▹ λ r. finds_store_text line q r.reading.text ▹ λ _. finds_get line stream more (right _ _ w)
    finds_get line stream (TakeCount size path e more) w = finds_locate line path (left _ _ (left _ _ w)) ▹ λ q. finds_source_there line stream ▹ λ _. finds_evaluate line e (left _ _ (right _ _ w)) ▹ λ z. finds_most_at size q ▹ λ most. finds_take_text line stream (count most z) ▹ λ r. finds_store_text line q r.reading.text ▹ λ _. finds_get line stream more (right _ _ (right _ _ w))

    finds_quit_number : (line : ℕ) (e : Caught) (z : Option ℤ) → is_some z ≡ true → Finds S Flow Any (quit (here n perform scalars taken) line e z)
    finds_quit_number line e (Some z) w = raises _ line
    finds_quit_number line e None w = no_so w

    finds_quit_taken : (line : ℕ) (e : Caught) (z : Option ℤ) → is_some e ≡ true → Finds S Flow Any (quit (here n perform scalars taken) line e z)
    finds_quit_taken line None z w = no_so w
    finds_quit_taken line (Some e) (Some z) w = raises _ line
    finds_quit_taken line (Some e) None w = raises e.0 e.1

    finds_plain : (line : ℕ) (s : Plain) → good_plain names s ≡ true → Finds S Flow Any (execute_plain (here n perform scalars taken) line s)
    finds_plain line (Assign target path e) w = finds_pay _ ▹ λ _. finds_locate line path (left _ _ (right _ _ w)) ▹ λ q. finds_value line target e (left _ _ w) ▹ λ v. finds_store line target q v ▹ λ _. finds_pay _ ▹ λ _. gives Next
    finds_plain line (Copy m to from) w = finds_pay _ ▹ λ _. finds_locate line to (left _ _ (left _ _ w)) ▹ λ q. finds_locate line from (left _ _ (right _ _ w)) ▹ λ o. finds_fetched o ▹ λ content. finds_change _ ▹ λ _. finds_pay _ ▹ λ _. gives Next
    finds_plain line (Exit Absent) w = finds_pay _ ▹ λ _. gives Exits
    finds_plain line (Exit (Present e)) w = finds_pay _ ▹ λ _. finds_condition line e w ▹ λ leaves. gives _
    finds_plain line Return w = finds_pay _ ▹ λ _. gives Returns
    finds_plain line (Give target e) w = finds_pay _ ▹ λ _. finds_value line target e (left _ _ w) ▹ λ v. finds_unless_raised line _ ▹ λ _. finds_pay _ ▹ λ _. gives _
    finds_plain line (GiveCopy m path) w = finds_pay _ ▹ λ _. finds_locate line path (left _ _ (left _ _ w)) ▹ λ q. finds_fetched q ▹ λ content. finds_pay _ ▹ λ _. gives _
    finds_plain line (Check claim e) w = finds_pay _ ▹ λ _. finds_condition line e w ▹ λ holds. finds_demand _ line holds ▹ λ _. gives Next
    finds_plain line (New j at path) w = finds_pay _ ▹ λ _. finds_locate line path (left _ _ (left _ _ w)) ▹ λ q. finds_found (slice_get names.program.collections j) (right _ _ w) ▹ λ m. finds_make_element line j _ ▹ λ i. finds_change _ ▹ λ _. finds_change _ ▹ λ _. gives Next
    finds_plain line (Free j at path) w = finds_pay _ ▹ λ _. finds_locate line path (left _ _ (left _ _ w)) ▹ λ q. finds_value_at q ▹ λ v. finds_present line (pointer_in v) ▹ λ i. finds_living line j i ▹ λ _. finds_change _ ▹ λ _. finds_remove_element j i ▹ λ _. gives Next
    finds_plain line (Tag m path e) w = finds_pay _ ▹ λ _. finds_locate line path (left _ _ w) ▹ λ q. finds_evaluate line e (left _ _ (right _ _ w)) ▹ λ z. finds_bind {Q = IsTagged S names.program} (finds_tagged names (shape_at names m) (left _ _ (right _ _ (right _ _ w)))) λ s tagged_by. finds_bind tagged_by λ u scalar_by. finds_bind scalar_by λ t by. by ▹ λ span. finds_unless_raised line _ ▹ λ _. finds_pay _ ▹ λ _. finds_change _ ▹ λ _. gives Next
    finds_plain line (Put stream shown ends) w = finds_pay _ ▹ λ _. finds_stream_of line stream (left _ _ w) ▹ λ j. finds_show line j shown (right _ _ w) ▹ λ _. finds_end_line line j ends ▹ λ _. gives Next
    finds_plain line (Get stream targets) w = finds_pay _ ▹ λ _. finds_stream_of line stream (left _ _ w) ▹ λ j. finds_get line j targets (right _ _ w) ▹ λ _. gives Next
    finds_plain line (OpenStream s path e is_put) w = finds_pay _ ▹ λ _. finds_locate line path (left _ _ (left _ _ w)) ▹ λ q. finds_text line e (right _ _ w) ▹ λ name. finds_pay 64 ▹ λ _. finds_outside (open_stream is_put name) ▹ λ j. finds_store line (TakesScalar s) q (Number (pos j)) ▹ λ _. gives Next
    finds_plain line (Close e) w = finds_pay _ ▹ λ _. finds_evaluate line e w ▹ λ j. finds_pay 64 ▹ λ _. finds_outside (close_stream j) ▹ λ kept. finds_keep_file line kept ▹ λ _. gives Next
    finds_plain line (Do call) w = finds_pay _ ▹ λ _. finds_do_call line gives_nothing call w ▹ λ back. gives Next
    finds_plain line (Quit Absent) w = finds_pay _ ▹ λ _. finds_stream_of line Absent refl ▹ λ z. finds_quit_taken line taken z (takes w)
    finds_plain line (Quit (Present e)) w = finds_pay _ ▹ λ _. finds_bind {Q = λ z. is_some z ≡ true} (finds_evaluate line e w ▹ λ z. finds_give (Some z) refl) λ z is. finds_quit_number line taken z is

    finds_first_and_count : (line : ℕ) (decreasing : Bool) (range : Range) → good_range names range ≡ true → Finds S (ℤ × ℕ) Any (first_and_count (here n perform scalars taken) line decreasing range)
    finds_first_and_count line false (FromTo a b) w = finds_evaluate line a (left _ _ w) ▹ λ x. finds_evaluate line b (right _ _ w) ▹ λ y. gives _
    finds_first_and_count line true (FromTo a b) w = finds_evaluate line a (left _ _ w) ▹ λ x. finds_evaluate line b (right _ _ w) ▹ λ y. gives _
    finds_first_and_count line false (Through s) w = gives _
    finds_first_and_count line true (Through s) w = gives _

    finds_is_labelled : (labels : List ℤ) (z : ℤ) → Finds S Bool Any (is_labelled (here n perform scalars taken) labels z)
    finds_is_labelled [] z = gives false
    finds_is_labelled (l ∷ more) z = finds_pay 1 ▹ λ _. finds_if (are_equal l z) (gives true) (finds_is_labelled more z)

    finds_test : (t : Option Test) → good_test names t ≡ true → Finds S (Unit {0}) Any (test (here n perform scalars taken) t)
    finds_test None w = gives tt
    finds_test (Some t) w = finds_pay 1 ▹ λ _. finds_condition t.at.line t.condition w ▹ λ holds. finds_demand _ t.at.line holds

    finds_round : (t : Option Test) (m : Step S Flow) → good_test names t ≡ true → Finds S Flow Any m → Finds S Flow Any (execute_round (here n perform scalars taken) t m)
    finds_round t m w h = finds_test t w ▹ λ _. h

    finds_indexed : (x : ℕ) (m : Step S Flow) → Finds S Flow Any m → (z : ℤ) → Finds S Flow Any (execute_indexed (here n perform scalars taken) x m z)
    finds_indexed x m h z = finds_change _ ▹ λ _. h

    finds_arm : (m : Step S Flow) → Finds S Flow Any m → Finds S Flow Any (execute_arm (here n perform scalars taken) m)
    finds_arm m h = finds_pay 1 ▹ λ _. h

    pub finds_in_scope : (m : Step S Flow) → Finds S Flow Any m → Finds S Flow Any (in_scope (here n perform scalars taken) m)
    finds_in_scope m h = finds_scope _ _ h

    finds_begun : (at : At) (s : Statement) → Finds S (Unit {0}) Any (begun (here n perform scalars taken) at s)
    finds_begun at s = finds_note _ ▹ λ _. finds_pay _

    mutual
      finds_execute : (s : Statement) → good_statement names s ≡ true → Finds S Flow Any (execute (here n perform scalars taken) s)
      finds_execute (Simply at s) w = finds_note _ ▹ λ _. finds_plain at.line s w
      finds_execute (If at e block otherwise) w = finds_begun at (If at e block otherwise) ▹ λ _. finds_condition at.line e (left _ _ w) ▹ λ holds. finds_if holds (finds_in_scope _ (finds_parts block (left _ _ (right _ _ w)))) (finds_otherwise otherwise (right _ _ (right _ _ w)))
      finds_execute (Loop at invariant block) w = finds_begun at (Loop at invariant block) ▹ λ _. finds_rounds turns (joins scalars (Loop at invariant block)) n _ (finds_round invariant _ (left _ _ w) (finds_in_scope _ (finds_parts block (right _ _ w))))
      finds_execute (For at x decreasing range invariant block) w =
          finds_begun at (For at x decreasing range invariant block) ▹ λ _. finds_first_and_count at.line decreasing range (left _ _ w) ▹ λ q. finds_rounds_over turns (joins scalars (For at x decreasing range invariant block)) decreasing _ (finds_indexed x _ (finds_round invariant _ (left _ _ (right _ _ w)) (finds_in_scope _ (finds_parts block (left _ _ (right _ _ (right _ _ w))))))) n q.1 q.0
      finds_execute (Case at e arms) w = finds_begun at (Case at e arms) ▹ λ _. finds_evaluate at.line e (left _ _ w) ▹ λ z. finds_choose at.line z arms (right _ _ w)
      finds_execute (Begin at block) w = finds_begun at (Begin at block) ▹ λ _. finds_in_scope _ (finds_parts block w)
      finds_execute (Module at fixed collections invariant line block) w = finds_parts block (left _ _ w) ▹ λ flow. finds_keep_invariant line invariant (left _ _ (right _ _ w)) ▹ λ _. gives flow

      finds_otherwise : (otherwise : Otherwise) → good_otherwise names otherwise ≡ true → Finds S Flow Any (execute_otherwise (here n perform scalars taken) otherwise)
      finds_otherwise (Else block) w = finds_in_scope _ (finds_parts block w)
      finds_otherwise (Elsif at e block more) w = finds_pay 1 ▹ λ _. finds_condition at.line e (left _ _ w) ▹ λ holds. finds_if holds (finds_in_scope _ (finds_parts block (left _ _ (right _ _ w)))) (finds_otherwise more (right _ _ (right _ _ w)))

      finds_choose : (line : ℕ) (z : ℤ) (arms : Arms) → good_arms names arms ≡ true → Finds S Flow Any (choose (here n perform scalars taken) line z arms)
      finds_choose line z NoArm w = raises kind.Case line
      finds_choose line z (Default block) w = finds_arm _ (finds_in_scope _ (finds_parts block w))
      finds_choose line z (Labelled labels block more) w = finds_is_labelled labels z ▹ λ hit. finds_if hit (finds_arm _ (finds_in_scope _ (finds_parts block (left _ _ w)))) (finds_choose line z more (right _ _ w))

      pub finds_parts : (block : Block) → good_block names block ≡ true → Finds S Flow Any (execute_parts (here n perform scalars taken) block)
      finds_parts Empty w = gives Next
      finds_parts (Then s more) w = finds_execute s (left _ _ w) ▹ λ flow. finds_and_then flow _ (finds_parts more (right _ _ w))
      finds_parts (Declare at d more) w = finds_declare at.line d (left _ _ w) ▹ λ _. finds_parts more (right _ _ w)
      finds_parts (Bind at x is_var path more) w = finds_pay 1 ▹ λ _. finds_locate at.line path (left _ _ w) ▹ λ q. finds_scope _ _ (finds_parts more (left _ _ (right _ _ w)))

  module _ (program : Program) where
    finds_result_of : (line : ℕ) (flow : Flow) → Finds S Back Any (result_of S p turns program words line flow)
    finds_result_of line Next = raises kind.Result line
    finds_result_of line Exits = raises kind.Result line
    finds_result_of line Returns = raises kind.Result line
    finds_result_of line (GivesBack back) = gives back

    finds_unless_missing : (line : ℕ) (result : CallResult) (flow : Flow) → Finds S Back Any (unless_missing S p turns program words line result flow)
    finds_unless_missing line Nothing flow = gives _
    finds_unless_missing line (OneValue target) flow = finds_result_of line flow
    finds_unless_missing line (OnePlace shape) flow = finds_result_of line flow

    finds_receive_all : (line : ℕ) (formals : List Formal) (actuals : List Actual) → Fits formals actuals → Finds S (Unit {0}) Any (receive_all S p turns program words line formals actuals)
    finds_receive_all line [] [] fits = gives tt
    finds_receive_all line [] (a ∷ others) fits = absurd fits
    finds_receive_all line (f ∷ more) [] fits = absurd fits
    finds_receive_all line (ByValue target ∷ more) (GivenValue bounds v ∷ others) fits = (finds_unless_raised line _ ▹ λ _. finds_pay _) ▹ λ _. finds_receive_all line more others fits
    finds_receive_all line (ByValue target ∷ more) (LentPlace is_var bounds q ∷ others) fits = absurd fits
    finds_receive_all line (ByCopy kind ∷ more) (GivenValue bounds v ∷ others) fits = absurd fits
    finds_receive_all line (ByCopy kind ∷ more) (LentPlace is_var bounds q ∷ others) fits = finds_pay 1 ▹ λ _. finds_receive_all line more others fits
    finds_receive_all line (ByVar at kind ∷ more) (GivenValue bounds v ∷ others) fits = absurd fits
    finds_receive_all line (ByVar at kind ∷ more) (LentPlace is_var bounds q ∷ others) fits = finds_pay 1 ▹ λ _. finds_receive_all line more others fits

    finds_name_result : (x : Option ℕ) (back : Back) → Finds S (Unit {0}) Any (name_result S p turns program words x back)
    finds_name_result None back = gives tt
    finds_name_result (Some x) back = finds_change _

    -- the activation of a subprogram, whose calls find a rule
    module _ (n : ℕ) (perform : Performs S) (performs : Calling S program perform) where
      finds_run_body : (r : Routine) (in_handler : Bool) (taken : Caught) → (in_handler ≡ true → is_some taken ≡ true) → (block : Block) → good_block (body_names program r in_handler) block ≡ true → Finds S Back Any (run_body S p turns program words n perform taken r block)
      finds_run_body r in_handler taken takes block w =
          let names = body_names program r in_handler in
          finds_in_scope names n perform performs (scalars_of program.shapes r) taken takes _ (finds_parts names n perform performs (scalars_of program.shapes r) taken takes block w) ▹ λ flow. finds_unless_missing r.end_line r.gives flow

      -- `pre` and `init`, or `post`
      finds_beside : (r : Routine) (block : Block) → good_block (names_of program r Nothing false) block ≡ true → Finds S Flow Any (execute_text S p turns program words n perform (scalars_of program.shapes r) None block)
      finds_beside r block w = finds_parts (names_of program r Nothing false) n perform performs (scalars_of program.shapes r) None (λ e. no_so e) block w

      finds_run_handled : (r : Routine) (h : Handler) → good_block (body_names program r false) r.body ≡ true → good_handler program r h ≡ true → Finds S Back Any (run_handled S p turns program words n perform r h)
      finds_run_handled r NoHandler body w = finds_run_body r false None (λ e. no_so e) r.body body
      finds_run_handled r (Handles at name block) body w = finds_pay 2 ▹ λ _. finds_handled (finds_run_body r false None (λ e. no_so e) r.body body) λ exception line. finds_pay 1 ▹ λ _. finds_change _ ▹ λ _. finds_run_body r true (Some (exception, line)) (λ e. refl) block (left _ _ w)

      finds_run_routine : (r : Routine) → good_blocks program r ≡ true → Finds S Back Any (run_routine S p turns program words n perform r)
      finds_run_routine r w =
          let more = right (good_block (names_of program r Nothing false) r.before) (good_block (body_names program r false) r.body && (good_handler program r r.handler && good_block (names_of program r Nothing false) r.after)) w in
          finds_beside r r.before (left _ _ w) ▹ λ begun. finds_run_handled r r.handler (left _ _ more) (left _ _ (right _ _ more)) ▹ λ back. finds_name_result r.result back ▹ λ _. finds_beside r r.after (right _ _ (right _ _ more)) ▹ λ checked. gives back

      finds_activation : (line : ℕ) (r : Routine) (actuals : List Actual) → good_routine program r ≡ true → Fits r.formals actuals → Finds S Back Any (activation S p turns program words n perform line actuals (Some r))
      finds_activation line r actuals w fits = finds_scope _ _ (finds_room _ line ▹ λ _. finds_receive_all line r.formals actuals fits ▹ λ _. finds_scope _ _ (finds_run_routine r (left _ _ w)))

    -- the calls of a program whose routines are good
    pub finds_calls : list_all (good_routine program) program.routines ≡ true → (n : ℕ) → Calling S program (calls S p turns program words n)
    finds_calls good zero line callee r actuals there fits = stops
    finds_calls good (suc n) line callee r actuals there fits =
        finds_turn turns ▹ λ _. subst (λ x. Finds S Back Any (activation S p turns program words n (calls S p turns program words n) line actuals x)) (sym there)
        (finds_activation n (calls S p turns program words n) (finds_calls good n) line r actuals (all_pass (good_routine program) program.routines callee r good there) fits)
