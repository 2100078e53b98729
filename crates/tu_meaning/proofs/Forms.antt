-- The one induction over the core: what relates two stores is kept by each form, so the runs are alike.
use Rattle.std.proofs.Common.{◌≡◌, ℕ, zero, suc, ◌≤◌, Bool, true, false, List, [], ◌∷◌, ◌++◌, Option, Some, None, arith, ap}
use Rattle.std.specs.Prelude.{ℤ, pos, slice_get}
use Rattle.tu_base.specs.Kind.{kind_number}
use Rattle.tu_base.specs.declared.kind.Kind.TheVariants as kind
use Rattle.tu_base.specs.declared.shape.Shape.{Shape}
use Rattle.tu_base.specs.Values.{Value, Number, Bytes, Members, Creation, Content, Way, unset, alone, tagged, pointer_in}
use Rattle.tu_base.specs.Scalars.{binary, are_equal, decided, is_true, truth_number}
use Rattle.tu_base.specs.Texts.{compare_texts, joined, repeated, place_in, character_at, part_from, byte_of, text_of_byte, int_text, text_int, put_int, put_truth, put_text, token_int, token_truth, token_text}
use Rattle.tu_base.specs.Sets.{Base, with_member, membership, combined, compare_sets}
use Rattle.tu_base.specs.Reading.{look as look_ahead, token, line as whole_line, count}
use Rattle.tu_base.specs.Streams.{open_stream, close_stream}
use Rattle.tu_core.specs.declared.names.At.{At}
use Rattle.tu_core.specs.declared.names.Variable.{Variable}
use Rattle.tu_core.specs.declared.names.Formal.{Formal}
use Rattle.tu_core.specs.declared.names.Formal.TheVariants.{ByValue, ByCopy, ByVar}
use Rattle.tu_core.specs.declared.names.CallResult.{CallResult}
use Rattle.tu_core.specs.declared.names.CallResult.TheVariants.{Nothing, OneValue, OnePlace}
use Rattle.tu_core.specs.declared.targets.Index.{Index}
use Rattle.tu_core.specs.declared.targets.Index.TheVariants.{Known, Open}
use Rattle.tu_core.specs.declared.targets.Size.{Size}
use Rattle.tu_core.specs.declared.targets.Target.{Target}
use Rattle.tu_core.specs.declared.targets.Target.TheVariants.{TakesScalar}
use Rattle.tu_core.specs.Core.{Scalar, Literal, Use, Prefixed, Chain, CompareTexts, CompareSets, ComparePointers, Member, Length, PlaceIn, ByteOf, TextInt, Bound, AtEnd, CallScalar, Links, NoLink, Link, Decide, Text, Written, UseText, Joined, Cut, Character, IntText, Repeat, CallText, Texts, NoText, AndText, Cuts, NoCut, CutCharacter, CutPart, Spot, Exactly, Last, BeforeLast, Set, SetOf, FullSet, UseSet, Combined, CallSet, Combinations, NoSet, AndSet, Pointer, Nil, UsePointer, CallPointer, Scalars, NoScalar, AndScalar, Optional, Absent, Present, Path, Name, OpenItem, Element, ResultOf, Selectors, End, Field, VariantField, Item, Subscripts, NoSubscript, Subscript, Call, Calls, Actuals, NoActual, Given, Lent, Simple, AScalar, AText, ASet, APointer, Start, WithValue, WithCopy, WithParts, Starts, NoStart, AndStart, Range, FromTo, Through, Shown, NoneShown, ShowInt, ShowTruth, ShowText, Taken, NoneTaken, TakeInt, TakeTruth, TakeToken, TakeLine, TakeCount, Test, Plain, Assign, Copy, Exit, Return, Give, GiveCopy, Check, New, Free, Tag, Put, Get, OpenStream, Close, Do, Quit, Named, Declaration, Constant, InitClause, Variables, Started, Arrays, Collections, Mention, Statement, Simply, If, Loop, For, Case, Begin, Module, Block, Empty, Then, Declare, Bind, Otherwise, Else, Elsif, Arms, NoArm, Default, Labelled, Handler, NoHandler, Handles, Routine, Program}
use Rattle.tu_core.specs.Walk.{Pair, pairs_of}
use Rattle.tu_core.specs.Rooms.{joins, scalars_of}
use Rattle.tu_meaning.specs.Steps.{Step}
use Rattle.tu_meaning.specs.Store.{Root, OfActivation, OfCall, OfCollection, Place, place_of, Held, holds, holds_nothing, Actual, GivenValue, LentPlace, Passing}
use Rattle.tu_meaning.specs.Words.{Back, content_back, Flow, Next, Exits, Returns, GivesBack, spans_of}
use Rattle.tu_meaning.specs.Expressions.{root_of, Performs, Taken as Caught, Running, shape, keep_invariant, test_pairs, fetched, bounds_of, value_at, lent_bounds, at_end, evaluate, chain, optional, stream_of, evaluate_text, join, cut, spot, evaluate_set, combine, gather, evaluate_pointer, evaluate_simple, subscripts, locate, follow, do_call, actual}
use Rattle.tu_meaning.specs.Statements.{condition, store, begin, begin_all, declare_all, assign_all, name_constant, name_constants, upper_bounds, declare_arrays, declare, width, show, most_at, most_token, store_text, get, quit, execute_plain, first_and_count, is_labelled, test, execute_round, execute_indexed, execute_arm, in_scope, begun, execute, execute_otherwise, choose, execute_parts}
use Rattle.tu_meaning.specs.Subprograms.{receive, receive_all, result_of, unless_missing, run_body, run_handled, name_result, run_routine, activation, calls}
use Rattle.tu_meaning.proofs.Alike.{sim_look, sim_change, sim_lost, sim_note, sim_pay, sim_if, sim_stop, sim_cut, sim_turn, sim_room, sim_scope, sim_handled}
use Rattle.tu_meaning.proofs.WordForms.{Any, Sims, ◌▹◌, gives, raises, sim_answered, sim_present, sim_found, sim_demand, sim_unless_raised, sim_truth, sim_prefixed, sim_unless_decided, sim_subscribed, sim_indexes_of, sim_union_of, sim_span_of, sim_bound_in, sim_outside, sim_living, sim_make_element, sim_remove_element, sim_keep_file, sim_put_part, sim_end_line, sim_width_of, sim_source_there, sim_take_text, sim_and_then, sim_rounds, sim_rounds_over}

module _ (S S' : Type 0) (p : Passing S) (p' : Passing S') (turns turns' : ℕ) (R : S → S' → Type 0) where
  -- what each form needs of the relation
  pub record Kept : Type 0 where
    pub more : turns ≤ turns'
    pub fetch : (q : Place) (s : S) (r : S') → R s r → p.fetch s q ≡ p'.fetch r q
    pub bounds : (root : Root) (s : S) (r : S') → R s r → p.bounds s root ≡ p'.bounds r root
    pub assign : (q : Place) (content : Content) (s : S) (r : S') → R s r → R (p.assign s q content) (p'.assign r q content)
    pub declare : (root : Root) (h : Held) (s : S) (r : S') → R s r → R (p.declare s root h) (p'.declare r root h)
    pub enter : (actuals : List Actual) (s : S) (r : S') → R s r → R (p.enter actuals s) (p'.enter actuals r)
    pub leave : (actuals : List Actual) (o s : S) (o' r : S') → R o o' → R s r → R (p.leave actuals o s) (p'.leave actuals o' r)
    pub bind : (is_var : Bool) (x : ℕ) (q : Place) (s : S) (r : S') → R s r → R (p.bind is_var x q s) (p'.bind is_var x q r)
    pub unbind : (is_var : Bool) (x : ℕ) (q : Place) (o s : S) (o' r : S') → R o o' → R s r → R (p.unbind is_var x q o s) (p'.unbind is_var x q o' r)

  module _ (k : Kept) (program : Program) (words : List ℕ) where
    -- a text on the left, and on the right
    abbrev here : (depth : ℕ) → Performs S → (scalars : List ℕ) → Caught → Running S
    here depth perform scalars taken = record { passing = p; turns = turns; depth = depth; program = program; words = words; perform = perform; scalars = scalars; taken = taken }

    abbrev there : (depth : ℕ) → Performs S' → (scalars : List ℕ) → Caught → Running S'
    there depth perform scalars taken = record { passing = p'; turns = turns'; depth = depth; program = program; words = words; perform = perform; scalars = scalars; taken = taken }

    -- a text at a depth, whose calls are alike
    module _ (n n' : ℕ) (le : n ≤ n') (perform : Performs S) (perform' : Performs S') (performs : (line callee : ℕ) (actuals : List Actual) → Sims S S' turns turns' R n Back (perform line callee actuals) (perform' line callee actuals)) (scalars : List ℕ) (taken : Caught) where
      sim_shape : (m : ℕ) → Sims S S' turns turns' R n Shape (shape (here n perform scalars taken) m) (shape (there n' perform' scalars taken) m)
      sim_shape m = sim_found _

      sim_fetched : (q : Place) → Sims S S' turns turns' R n Content (fetched (here n perform scalars taken) q) (fetched (there n' perform' scalars taken) q)
      sim_fetched q = sim_look {Q = Any} _ _ (λ s r rel. (k.fetch q s r rel, tt))

      sim_bounds_of : (root : Root) → Sims S S' turns turns' R n (List ℤ) (bounds_of (here n perform scalars taken) root) (bounds_of (there n' perform' scalars taken) root)
      sim_bounds_of root = sim_look {Q = Any} _ _ (λ s r rel. (k.bounds root s r rel, tt))

      sim_value_at : (q : Place) → Sims S S' turns turns' R n Value (value_at (here n perform scalars taken) q) (value_at (there n' perform' scalars taken) q)
      sim_value_at q = sim_look {Q = Any} _ _ (λ s r rel. (ap (λ content. content []) (k.fetch q s r rel), tt))

      sim_keep_invariant : (line : ℕ) (m : Option ℕ) → Sims S S' turns turns' R n (Unit {0}) (keep_invariant (here n perform scalars taken) line m) (keep_invariant (there n' perform' scalars taken) line m)
      sim_keep_invariant line None = gives tt
      sim_keep_invariant line (Some m) = performs line m [] ▹ λ _. gives tt

      sim_test_pairs : (line : ℕ) (actuals : List Actual) (pairs : List Pair) → Sims S S' turns turns' R n (Unit {0}) (test_pairs (here n perform scalars taken) line actuals pairs) (test_pairs (there n' perform' scalars taken) line actuals pairs)
      sim_test_pairs line actuals [] = gives tt
      sim_test_pairs line actuals (q ∷ more) = sim_pay _ ▹ λ _. sim_demand kind.Overlap line _ ▹ λ _. sim_test_pairs line actuals more

      sim_lent_bounds : (bounds : Option (List ℤ)) (q : Place) → Sims S S' turns turns' R n (List ℤ) (lent_bounds (here n perform scalars taken) bounds q) (lent_bounds (there n' perform' scalars taken) bounds q)
      sim_lent_bounds (Some bounds) q = gives bounds
      sim_lent_bounds None q = sim_bounds_of q.root

      sim_at_end : (line : ℕ) (stream : Option ℤ) → Sims S S' turns turns' R n ℤ (at_end (here n perform scalars taken) line stream) (at_end (there n' perform' scalars taken) line stream)
      sim_at_end line stream = sim_source_there line stream ▹ λ _. sim_take_text line stream look_ahead ▹ λ r. sim_truth _

      mutual
        sim_evaluate : (line : ℕ) (e : Scalar) → Sims S S' turns turns' R n ℤ (evaluate (here n perform scalars taken) line e) (evaluate (there n' perform' scalars taken) line e)
        sim_evaluate line (Literal m z) = sim_pay _ ▹ λ _. gives z
        sim_evaluate line (Use m path) = sim_locate line path ▹ λ q. sim_value_at q ▹ λ v. sim_present line _
        sim_evaluate line (Prefixed m operators e) = sim_pay _ ▹ λ _. sim_evaluate line e ▹ λ z. sim_prefixed line operators z
        sim_evaluate line (Chain m e links) = sim_pay _ ▹ λ _. sim_evaluate line e ▹ λ z. sim_chain line z links
        sim_evaluate line (CompareTexts m relation a b) = sim_pay _ ▹ λ _. sim_text line a ▹ λ x. sim_text line b ▹ λ y. sim_answered line (compare_texts relation x y) ▹ λ holds. sim_truth holds
        sim_evaluate line (CompareSets m relation base a b) = sim_pay _ ▹ λ _. sim_set line a ▹ λ x. sim_set line b ▹ λ y. sim_answered line (compare_sets base relation x y) ▹ λ holds. sim_truth holds
        sim_evaluate line (ComparePointers m is_equal a b) = sim_pay _ ▹ λ _. sim_pointer line a ▹ λ x. sim_pointer line b ▹ λ y. sim_truth _
        sim_evaluate line (Member m is_wanted base e s) = sim_pay _ ▹ λ _. sim_evaluate line e ▹ λ z. sim_set line s ▹ λ members. sim_answered line (membership base is_wanted z members) ▹ λ holds. sim_truth holds
        sim_evaluate line (Length m e) = sim_pay _ ▹ λ _. sim_text line e ▹ λ bytes. gives _
        sim_evaluate line (PlaceIn m a b) = sim_pay _ ▹ λ _. sim_text line a ▹ λ x. sim_text line b ▹ λ y. sim_answered line (place_in x y)
        sim_evaluate line (ByteOf m e) = sim_pay _ ▹ λ _. sim_text line e ▹ λ bytes. sim_answered line (byte_of bytes)
        sim_evaluate line (TextInt m e) = sim_pay _ ▹ λ _. sim_text line e ▹ λ bytes. sim_answered line (text_int bytes)
        sim_evaluate line (Bound m is_upper indexes path dimension) = sim_pay _ ▹ λ _. sim_locate line path ▹ λ q. sim_bounds_of q.root ▹ λ bounds. sim_optional line (pos 1) dimension ▹ λ d. sim_bound_in line is_upper (spans_of indexes bounds) d
        sim_evaluate line (AtEnd m at stream) = sim_pay _ ▹ λ _. sim_stream_of line stream ▹ λ j. sim_at_end line j
        sim_evaluate line (CallScalar m call) = sim_pay _ ▹ λ _. sim_do_call line call ▹ λ back. sim_present line _

        sim_chain : (line : ℕ) (z : ℤ) (links : Links) → Sims S S' turns turns' R n ℤ (chain (here n perform scalars taken) line z links) (chain (there n' perform' scalars taken) line z links)
        sim_chain line z NoLink = gives z
        sim_chain line z (Link operator e more) = sim_evaluate line e ▹ λ x. sim_answered line (binary operator z x) ▹ λ y. sim_chain line y more
        sim_chain line z (Decide operator e more) = sim_unless_decided (decided operator (is_true z)) _ _ (sim_evaluate line e) ▹ λ y. sim_chain line y more

        sim_optional : (line : ℕ) (otherwise : ℤ) (e : Optional) → Sims S S' turns turns' R n ℤ (optional (here n perform scalars taken) line otherwise e) (optional (there n' perform' scalars taken) line otherwise e)
        sim_optional line otherwise Absent = gives otherwise
        sim_optional line otherwise (Present e) = sim_evaluate line e

        sim_stream_of : (line : ℕ) (e : Optional) → Sims S S' turns turns' R n (Option ℤ) (stream_of (here n perform scalars taken) line e) (stream_of (there n' perform' scalars taken) line e)
        sim_stream_of line Absent = gives None
        sim_stream_of line (Present e) = sim_evaluate line e ▹ λ j. gives (Some j)

        sim_text : (line : ℕ) (e : Text) → Sims S S' turns turns' R n (List ℕ) (evaluate_text (here n perform scalars taken) line e) (evaluate_text (there n' perform' scalars taken) line e)
        sim_text line (Written m bytes) = sim_pay _ ▹ λ _. gives bytes
        sim_text line (UseText m path) = sim_locate line path ▹ λ q. sim_value_at q ▹ λ v. sim_present line _
        sim_text line (Joined m e more) = sim_pay _ ▹ λ _. sim_text line e ▹ λ bytes. sim_join line bytes more
        sim_text line (Cut m e cuts) = sim_pay _ ▹ λ _. sim_text line e ▹ λ bytes. sim_cut_all line bytes cuts
        sim_text line (Character m e) = sim_pay _ ▹ λ _. sim_evaluate line e ▹ λ z. sim_answered line (text_of_byte z)
        sim_text line (IntText m e wide) = sim_pay _ ▹ λ _. sim_evaluate line e ▹ λ z. sim_optional line (pos 0) wide ▹ λ j. sim_answered line (int_text z j)
        sim_text line (Repeat m e j) = sim_pay _ ▹ λ _. sim_text line e ▹ λ bytes. sim_evaluate line j ▹ λ z. sim_answered line (repeated bytes z)
        sim_text line (CallText m call) = sim_pay _ ▹ λ _. sim_do_call line call ▹ λ back. sim_present line _

        sim_join : (line : ℕ) (bytes : List ℕ) (more : Texts) → Sims S S' turns turns' R n (List ℕ) (join (here n perform scalars taken) line bytes more) (join (there n' perform' scalars taken) line bytes more)
        sim_join line bytes NoText = gives bytes
        sim_join line bytes (AndText e more) = sim_text line e ▹ λ others. sim_answered line (joined bytes others) ▹ λ all. sim_join line all more

        sim_cut_all : (line : ℕ) (bytes : List ℕ) (cuts : Cuts) → Sims S S' turns turns' R n (List ℕ) (cut (here n perform scalars taken) line bytes cuts) (cut (there n' perform' scalars taken) line bytes cuts)
        sim_cut_all line bytes NoCut = gives bytes
        sim_cut_all line bytes (CutCharacter i more) = sim_spot line bytes i ▹ λ x. sim_answered line (character_at bytes x) ▹ λ one. sim_cut_all line one more
        sim_cut_all line bytes (CutPart i j more) = sim_spot line bytes i ▹ λ x. sim_spot line bytes j ▹ λ y. sim_answered line (part_from bytes x y) ▹ λ some. sim_cut_all line some more

        sim_spot : (line : ℕ) (bytes : List ℕ) (i : Spot) → Sims S S' turns turns' R n ℤ (spot (here n perform scalars taken) line bytes i) (spot (there n' perform' scalars taken) line bytes i)
        sim_spot line bytes (Exactly e) = sim_evaluate line e
        sim_spot line bytes Last = sim_pay _ ▹ λ _. gives _
        sim_spot line bytes (BeforeLast e) = sim_pay _ ▹ λ _. sim_evaluate line e ▹ λ z. sim_answered line _

        sim_set : (line : ℕ) (e : Set) → Sims S S' turns turns' R n (List Bool) (evaluate_set (here n perform scalars taken) line e) (evaluate_set (there n' perform' scalars taken) line e)
        sim_set line (SetOf m base es) = sim_pay _ ▹ λ _. sim_gather line base _ es ▹ λ members. sim_pay _ ▹ λ _. gives members
        sim_set line (FullSet m base) = sim_pay _ ▹ λ _. sim_pay _ ▹ λ _. gives _
        sim_set line (UseSet m path) = sim_locate line path ▹ λ q. sim_value_at q ▹ λ v. sim_present line _
        sim_set line (Combined m base e more) = sim_pay _ ▹ λ _. sim_set line e ▹ λ members. sim_combine line base members more
        sim_set line (CallSet m call) = sim_pay _ ▹ λ _. sim_do_call line call ▹ λ back. sim_present line _

        sim_combine : (line : ℕ) (base : Base) (members : List Bool) (more : Combinations) → Sims S S' turns turns' R n (List Bool) (combine (here n perform scalars taken) line base members more) (combine (there n' perform' scalars taken) line base members more)
        sim_combine line base members NoSet = gives members
        sim_combine line base members (AndSet operator e more) = sim_set line e ▹ λ others. sim_answered line (combined base operator members others) ▹ λ all. sim_combine line base all more

        sim_gather : (line : ℕ) (base : Base) (members : List Bool) (es : Scalars) → Sims S S' turns turns' R n (List Bool) (gather (here n perform scalars taken) line base members es) (gather (there n' perform' scalars taken) line base members es)
        sim_gather line base members NoScalar = gives members
        sim_gather line base members (AndScalar e more) = sim_evaluate line e ▹ λ z. sim_answered line (with_member base z members) ▹ λ others. sim_gather line base others more

        sim_pointer : (line : ℕ) (e : Pointer) → Sims S S' turns turns' R n ℕ (evaluate_pointer (here n perform scalars taken) line e) (evaluate_pointer (there n' perform' scalars taken) line e)
        sim_pointer line (Nil m at j) = sim_pay _ ▹ λ _. gives 0
        sim_pointer line (UsePointer m path) = sim_locate line path ▹ λ q. sim_value_at q ▹ λ v. sim_present line _
        sim_pointer line (CallPointer m call) = sim_pay _ ▹ λ _. sim_do_call line call ▹ λ back. sim_present line _

        sim_simple : (line : ℕ) (e : Simple) → Sims S S' turns turns' R n Value (evaluate_simple (here n perform scalars taken) line e) (evaluate_simple (there n' perform' scalars taken) line e)
        sim_simple line (AScalar e) = sim_evaluate line e ▹ λ z. gives (Number z)
        sim_simple line (AText e) = sim_text line e ▹ λ bytes. gives (Bytes bytes)
        sim_simple line (ASet e) = sim_set line e ▹ λ members. gives (Members members)
        sim_simple line (APointer e) = sim_pointer line e ▹ λ j. gives (Creation j)

        sim_subscripts : (line : ℕ) (es : Subscripts) → Sims S S' turns turns' R n (List ℤ) (subscripts (here n perform scalars taken) line es) (subscripts (there n' perform' scalars taken) line es)
        sim_subscripts line NoSubscript = gives []
        sim_subscripts line (Subscript constant e more) = sim_evaluate line e ▹ λ x. sim_subscripts line more ▹ λ xs. gives (x ∷ xs)

        sim_locate : (line : ℕ) (path : Path) → Sims S S' turns turns' R n Place (locate (here n perform scalars taken) line path) (locate (there n' perform' scalars taken) line path)
        sim_locate line (Name at x steps) = sim_pay _ ▹ λ _. sim_follow line (root_of x) [] steps
        sim_locate line (OpenItem at x indexes es steps) = sim_pay _ ▹ λ _. sim_bounds_of (root_of x) ▹ λ bounds. sim_pay 1 ▹ λ _. sim_subscripts line es ▹ λ xs. sim_subscribed line (spans_of indexes bounds) xs ▹ λ j. sim_follow line (root_of x) (j ∷ []) steps
        sim_locate line (Element at m e steps) = sim_pay _ ▹ λ _. sim_pointer line e ▹ λ j. sim_living line m j ▹ λ _. sim_follow line (OfCollection m j) [] steps
        sim_locate line (ResultOf at j call steps) = sim_pay _ ▹ λ _. sim_do_call line call ▹ λ back. sim_change _ _ (k.declare (OfCall j) (holds (content_back back))) ▹ λ _. sim_follow line (OfCall j) [] steps

        sim_follow : (line : ℕ) (root : Root) (way : Way) (steps : Selectors) → Sims S S' turns turns' R n Place (follow (here n perform scalars taken) line root way steps) (follow (there n' perform' scalars taken) line root way steps)
        sim_follow line root way End = gives _
        sim_follow line root way (Field m j more) = sim_pay 1 ▹ λ _. sim_follow line root (way ++ j ∷ []) more
        sim_follow line root way (VariantField m j more) = sim_pay 1 ▹ λ _. sim_shape m ▹ λ s. sim_union_of s ▹ λ u. sim_value_at (record { root = root; way = way ++ 0 ∷ [] }) ▹ λ tag. sim_demand kind.Tag line _ ▹ λ _. sim_follow line root (way ++ j ∷ []) more
        sim_follow line root way (Item m es more) = sim_pay 1 ▹ λ _. sim_subscripts line es ▹ λ xs. sim_shape m ▹ λ s. sim_indexes_of s ▹ λ spans. sim_subscribed line spans xs ▹ λ j. sim_follow line root (way ++ j ∷ []) more

        sim_do_call : (line : ℕ) (call : Call) → Sims S S' turns turns' R n Back (do_call (here n perform scalars taken) line call) (do_call (there n' perform' scalars taken) line call)
        sim_do_call line (Calls at callee invariant actuals) = sim_keep_invariant line invariant ▹ λ _. sim_actual line actuals ▹ λ given. sim_test_pairs line given (pairs_of actuals) ▹ λ _. performs line callee given ▹ λ back. sim_keep_invariant line invariant ▹ λ _. gives back

        sim_actual : (line : ℕ) (actuals : Actuals) → Sims S S' turns turns' R n (List Actual) (actual (here n perform scalars taken) line actuals) (actual (there n' perform' scalars taken) line actuals)
        sim_actual line NoActual = gives []
        sim_actual line (Given at size e more) = sim_simple line e ▹ λ v. sim_actual line more ▹ λ others. gives _
        sim_actual line (Lent at is_var known path more) = sim_locate line path ▹ λ q. sim_lent_bounds known q ▹ λ bounds. sim_actual line more ▹ λ others. gives _

      sim_condition : (line : ℕ) (e : Scalar) → Sims S S' turns turns' R n Bool (condition (here n perform scalars taken) line e) (condition (there n' perform' scalars taken) line e)
      sim_condition line e = sim_evaluate line e ▹ λ z. gives _

      sim_store : (line : ℕ) (target : Target) (q : Place) (v : Value) → Sims S S' turns turns' R n (Unit {0}) (store (here n perform scalars taken) line target q v) (store (there n' perform' scalars taken) line target q v)
      sim_store line target q v = sim_bounds_of q.root ▹ λ bounds. sim_unless_raised line _ ▹ λ _. sim_change _ _ (k.assign q (alone v))

      mutual
        sim_begin : (line : ℕ) (start : Start) → Sims S S' turns turns' R n Content (begin (here n perform scalars taken) line start) (begin (there n' perform' scalars taken) line start)
        sim_begin line (WithValue target e) = sim_simple line e ▹ λ v. sim_unless_raised line _ ▹ λ _. gives _
        sim_begin line (WithCopy m path) = sim_locate line path ▹ λ q. sim_fetched q
        sim_begin line (WithParts m starts) = sim_pay 1 ▹ λ _. sim_begin_all line 0 unset starts

        sim_begin_all : (line : ℕ) (j : ℕ) (content : Content) (starts : Starts) → Sims S S' turns turns' R n Content (begin_all (here n perform scalars taken) line j content starts) (begin_all (there n' perform' scalars taken) line j content starts)
        sim_begin_all line j content NoStart = gives content
        sim_begin_all line j content (AndStart start more) = sim_begin line start ▹ λ part. sim_begin_all line (suc j) _ more

      sim_declare_all : (xs : List Variable) (m : ℕ) (h : Held) → Sims S S' turns turns' R n (Unit {0}) (declare_all (here n perform scalars taken) xs m h) (declare_all (there n' perform' scalars taken) xs m h)
      sim_declare_all [] m h = gives tt
      sim_declare_all (x ∷ more) m h = sim_pay m ▹ λ _. sim_change _ _ (k.declare (root_of x) h) ▹ λ _. sim_declare_all more m h

      sim_assign_all : (xs : List Variable) (m : ℕ) (content : Content) → Sims S S' turns turns' R n (Unit {0}) (assign_all (here n perform scalars taken) xs m content) (assign_all (there n' perform' scalars taken) xs m content)
      sim_assign_all [] m content = gives tt
      sim_assign_all (x ∷ more) m content = sim_pay m ▹ λ _. sim_change _ _ (k.assign (place_of (root_of x)) content) ▹ λ _. sim_assign_all more m content

      sim_name_constant : (line : ℕ) (x : Named) → Sims S S' turns turns' R n (Unit {0}) (name_constant (here n perform scalars taken) line x) (name_constant (there n' perform' scalars taken) line x)
      sim_name_constant line x = sim_pay 1 ▹ λ _. sim_begin line x.start ▹ λ content. sim_pay _ ▹ λ _. sim_change _ _ (k.declare (root_of x.name) (holds content))

      sim_name_constants : (line : ℕ) (xs : List Named) → Sims S S' turns turns' R n (Unit {0}) (name_constants (here n perform scalars taken) line xs) (name_constants (there n' perform' scalars taken) line xs)
      sim_name_constants line [] = gives tt
      sim_name_constants line (x ∷ more) = sim_name_constant line x ▹ λ _. sim_name_constants line more

      sim_upper_bounds : (line : ℕ) (indexes : List Index) (es : Scalars) → Sims S S' turns turns' R n (List ℤ) (upper_bounds (here n perform scalars taken) line indexes es) (upper_bounds (there n' perform' scalars taken) line indexes es)
      sim_upper_bounds line [] es = gives []
      sim_upper_bounds line (Known s ∷ more) es = sim_upper_bounds line more es
      sim_upper_bounds line (Open low ∷ more) NoScalar = sim_found None
      sim_upper_bounds line (Open low ∷ more) (AndScalar e es) = sim_evaluate line e ▹ λ x. sim_demand kind.Bounds line _ ▹ λ _. sim_upper_bounds line more es ▹ λ rest. gives (x ∷ rest)

      sim_declare_arrays : (line : ℕ) (xs : List Variable) (m : ℕ) (e : ℕ) (bounds : List ℤ) → Sims S S' turns turns' R n (Unit {0}) (declare_arrays (here n perform scalars taken) line xs m e bounds) (declare_arrays (there n' perform' scalars taken) line xs m e bounds)
      sim_declare_arrays line [] m e bounds = gives tt
      sim_declare_arrays line (x ∷ more) m e bounds = sim_room e line (λ s r rel. rel) ▹ λ _. sim_pay _ ▹ λ _. sim_change _ _ (k.declare (root_of x) (record { content = unset; bounds = bounds })) ▹ λ _. sim_declare_arrays line more m e bounds

      sim_declare : (line : ℕ) (d : Declaration) → Sims S S' turns turns' R n (Unit {0}) (declare (here n perform scalars taken) line d) (declare (there n' perform' scalars taken) line d)
      sim_declare line (Constant x) = sim_name_constant line x
      sim_declare line (InitClause xs) = sim_pay 1 ▹ λ _. sim_name_constants line xs
      sim_declare line (Variables xs m) = sim_declare_all xs _ holds_nothing
      sim_declare line (Started xs m start) = sim_declare_all xs _ holds_nothing ▹ λ _. sim_begin line start ▹ λ content. sim_assign_all xs _ content
      sim_declare line (Arrays xs indexes component es) = sim_declare_all xs 1 holds_nothing ▹ λ _. sim_upper_bounds line indexes es ▹ λ bounds. sim_declare_arrays line xs _ _ bounds
      sim_declare line (Collections cs) = sim_pay _
      sim_declare line (Mention m) = gives tt

      sim_width : (line : ℕ) (e : Optional) → Sims S S' turns turns' R n ℕ (width (here n perform scalars taken) line e) (width (there n' perform' scalars taken) line e)
      sim_width line e = sim_optional line (pos 0) e ▹ λ z. sim_width_of line z

      sim_show : (line : ℕ) (stream : Option ℤ) (shown : Shown) → Sims S S' turns turns' R n (Unit {0}) (show (here n perform scalars taken) line stream shown) (show (there n' perform' scalars taken) line stream shown)
      sim_show line stream NoneShown = gives tt
      sim_show line stream (ShowInt e wide more) = sim_evaluate line e ▹ λ x. sim_width line wide ▹ λ j. sim_put_part line stream (put_int x j) ▹ λ _. sim_show line stream more
      sim_show line stream (ShowTruth e wide more) = sim_condition line e ▹ λ x. sim_width line wide ▹ λ j. sim_put_part line stream (put_truth x j) ▹ λ _. sim_show line stream more
      sim_show line stream (ShowText e wide more) = sim_text line e ▹ λ x. sim_width line wide ▹ λ j. sim_put_part line stream (put_text x j) ▹ λ _. sim_show line stream more

      sim_most_at : (size : Size) (q : Place) → Sims S S' turns turns' R n ℕ (most_at (here n perform scalars taken) size q) (most_at (there n' perform' scalars taken) size q)
      sim_most_at size q = sim_bounds_of q.root ▹ λ bounds. gives _

      sim_store_text : (line : ℕ) (q : Place) (text : List ℕ) → Sims S S' turns turns' R n (Unit {0}) (store_text (here n perform scalars taken) line q text) (store_text (there n' perform' scalars taken) line q text)
      sim_store_text line q text = sim_answered line (token_text text) ▹ λ bytes. sim_change _ _ (k.assign q (alone (Bytes bytes)))

      sim_get : (line : ℕ) (stream : Option ℤ) (targets : Taken) → Sims S S' turns turns' R n (Unit {0}) (get (here n perform scalars taken) line stream targets) (get (there n' perform' scalars taken) line stream targets)
      sim_get line stream NoneTaken = gives tt
      sim_get line stream (TakeInt s path more) = sim_locate line path ▹ λ q. sim_source_there line stream ▹ λ _. sim_take_text line stream (token most_token) ▹ λ r. sim_answered line (token_int r.reading.text) ▹ λ z. sim_store line (TakesScalar s) q (Number z) ▹ λ _. sim_get line stream more
      sim_get line stream (TakeTruth path more) = sim_locate line path ▹ λ q. sim_source_there line stream ▹ λ _. sim_take_text line stream (token most_token) ▹ λ r. sim_answered line (token_truth r.reading.text) ▹ λ b. sim_change _ _ (k.assign q (alone (Number (truth_number b)))) ▹ λ _. sim_get line stream more
      sim_get line stream (TakeToken size path more) = sim_locate line path ▹ λ q. sim_source_there line stream ▹ λ _. sim_most_at size q ▹ λ most. sim_take_text line stream (token most) ▹ λ r. sim_store_text line q r.reading.text ▹ λ _. sim_get line stream more
      sim_get line stream (TakeLine size path more) = sim_locate line path ▹ λ q. sim_source_there line stream ▹ λ _. sim_pay _ ▹ λ _. sim_most_at size q ▹ λ most. sim_take_text line stream (whole_line most) ▹ λ r. sim_store_text line q r.reading.text ▹ λ _. sim_get line stream more
      sim_get line stream (TakeCount size path e more) = sim_locate line path ▹ λ q. sim_source_there line stream ▹ λ _. sim_evaluate line e ▹ λ z. sim_most_at size q ▹ λ most. sim_take_text line stream (count most z) ▹ λ r. sim_store_text line q r.reading.text ▹ λ _. sim_get line stream more

      sim_quit : (line : ℕ) (z : Option ℤ) → Sims S S' turns turns' R n Flow (quit (here n perform scalars taken) line taken z) (quit (there n' perform' scalars taken) line taken z)
      sim_quit line z = by taken z
        where
          by : (e : Caught) (z : Option ℤ) → Sims S S' turns turns' R n Flow (quit (here n perform scalars taken) line e z) (quit (there n' perform' scalars taken) line e z)
          by e (Some z) = raises _ line
          by None None = sim_found None
          by (Some e) None = raises e.0 e.1

      sim_plain : (line : ℕ) (s : Plain) → Sims S S' turns turns' R n Flow (execute_plain (here n perform scalars taken) line s) (execute_plain (there n' perform' scalars taken) line s)
      sim_plain line (Assign target path e) = sim_pay _ ▹ λ _. sim_locate line path ▹ λ q. sim_simple line e ▹ λ v. sim_store line target q v ▹ λ _. sim_pay _ ▹ λ _. gives Next
      sim_plain line (Copy m to from) = sim_pay _ ▹ λ _. sim_locate line to ▹ λ q. sim_locate line from ▹ λ o. sim_fetched o ▹ λ content. sim_change _ _ (k.assign q content) ▹ λ _. sim_pay _ ▹ λ _. gives Next
      sim_plain line (Exit Absent) = sim_pay _ ▹ λ _. gives Exits
      sim_plain line (Exit (Present e)) = sim_pay _ ▹ λ _. sim_condition line e ▹ λ leaves. gives _
      sim_plain line Return = sim_pay _ ▹ λ _. gives Returns
      sim_plain line (Give target e) = sim_pay _ ▹ λ _. sim_simple line e ▹ λ v. sim_unless_raised line _ ▹ λ _. sim_pay _ ▹ λ _. gives _
      sim_plain line (GiveCopy m path) = sim_pay _ ▹ λ _. sim_locate line path ▹ λ q. sim_fetched q ▹ λ content. sim_pay _ ▹ λ _. gives _
      sim_plain line (Check claim e) = sim_pay _ ▹ λ _. sim_condition line e ▹ λ holds. sim_demand _ line holds ▹ λ _. gives Next
      sim_plain line (New j at path) = sim_pay _ ▹ λ _. sim_locate line path ▹ λ q. sim_found (slice_get program.collections j) ▹ λ m. sim_make_element line j _ ▹ λ i. sim_change _ _ (k.declare (OfCollection j i) holds_nothing) ▹ λ _. sim_change _ _ (k.assign q (alone (Creation i))) ▹ λ _. gives Next
      sim_plain line (Free j at path) = sim_pay _ ▹ λ _. sim_locate line path ▹ λ q. sim_value_at q ▹ λ v. sim_present line (pointer_in v) ▹ λ i. sim_living line j i ▹ λ _. sim_change _ _ (k.assign q (alone (Creation 0))) ▹ λ _. sim_remove_element j i ▹ λ _. gives Next
      sim_plain line (Tag m path e) = sim_pay _ ▹ λ _. sim_locate line path ▹ λ q. sim_evaluate line e ▹ λ z. sim_shape m ▹ λ s. sim_union_of s ▹ λ u. sim_shape u.0 ▹ λ t. sim_span_of t ▹ λ span. sim_unless_raised line _ ▹ λ _. sim_pay _ ▹ λ _. sim_change _ _ (k.assign q (tagged z)) ▹ λ _. gives Next
      sim_plain line (Put stream shown ends) = sim_pay _ ▹ λ _. sim_stream_of line stream ▹ λ j. sim_show line j shown ▹ λ _. sim_end_line line j ends ▹ λ _. gives Next
      sim_plain line (Get stream targets) = sim_pay _ ▹ λ _. sim_stream_of line stream ▹ λ j. sim_get line j targets ▹ λ _. gives Next
      sim_plain line (OpenStream s path e is_put) = sim_pay _ ▹ λ _. sim_locate line path ▹ λ q. sim_text line e ▹ λ name. sim_pay 64 ▹ λ _. sim_outside (open_stream is_put name) ▹ λ j. sim_store line (TakesScalar s) q (Number (pos j)) ▹ λ _. gives Next
      sim_plain line (Close e) = sim_pay _ ▹ λ _. sim_evaluate line e ▹ λ j. sim_pay 64 ▹ λ _. sim_outside (close_stream j) ▹ λ kept. sim_keep_file line kept ▹ λ _. gives Next
      sim_plain line (Do call) = sim_pay _ ▹ λ _. sim_do_call line call ▹ λ back. gives Next
      sim_plain line (Quit number) = sim_pay _ ▹ λ _. sim_stream_of line number ▹ λ z. sim_quit line z

      sim_first_and_count : (line : ℕ) (decreasing : Bool) (range : Range) → Sims S S' turns turns' R n (ℤ × ℕ) (first_and_count (here n perform scalars taken) line decreasing range) (first_and_count (there n' perform' scalars taken) line decreasing range)
      sim_first_and_count line false (FromTo a b) = sim_evaluate line a ▹ λ x. sim_evaluate line b ▹ λ y. gives _
      sim_first_and_count line true (FromTo a b) = sim_evaluate line a ▹ λ x. sim_evaluate line b ▹ λ y. gives _
      sim_first_and_count line false (Through s) = gives _
      sim_first_and_count line true (Through s) = gives _

      sim_is_labelled : (labels : List ℤ) (z : ℤ) → Sims S S' turns turns' R n Bool (is_labelled (here n perform scalars taken) labels z) (is_labelled (there n' perform' scalars taken) labels z)
      sim_is_labelled [] z = gives false
      sim_is_labelled (l ∷ more) z = sim_pay 1 ▹ λ _. sim_if (are_equal l z) (λ _. gives true) (λ _. sim_is_labelled more z)

      sim_test : (t : Option Test) → Sims S S' turns turns' R n (Unit {0}) (test (here n perform scalars taken) t) (test (there n' perform' scalars taken) t)
      sim_test None = gives tt
      sim_test (Some t) = sim_pay 1 ▹ λ _. sim_condition t.at.line t.condition ▹ λ holds. sim_demand _ t.at.line holds

      sim_round : (t : Option Test) (m : Step S Flow) (m' : Step S' Flow) → Sims S S' turns turns' R n Flow m m' → Sims S S' turns turns' R n Flow (execute_round (here n perform scalars taken) t m) (execute_round (there n' perform' scalars taken) t m')
      sim_round t m m' h = sim_test t ▹ λ _. h

      sim_indexed : (x : ℕ) (m : Step S Flow) (m' : Step S' Flow) → Sims S S' turns turns' R n Flow m m' → (z : ℤ) → Sims S S' turns turns' R n Flow (execute_indexed (here n perform scalars taken) x m z) (execute_indexed (there n' perform' scalars taken) x m' z)
      sim_indexed x m m' h z = sim_change _ _ (k.declare (OfActivation x) (holds (alone (Number z)))) ▹ λ _. h

      sim_arm : (m : Step S Flow) (m' : Step S' Flow) → Sims S S' turns turns' R n Flow m m' → Sims S S' turns turns' R n Flow (execute_arm (here n perform scalars taken) m) (execute_arm (there n' perform' scalars taken) m')
      sim_arm m m' h = sim_pay 1 ▹ λ _. h

      pub sim_in_scope : (m : Step S Flow) (m' : Step S' Flow) → Sims S S' turns turns' R n Flow m m' → Sims S S' turns turns' R n Flow (in_scope (here n perform scalars taken) m) (in_scope (there n' perform' scalars taken) m')
      sim_in_scope m m' h = sim_scope _ _ _ _ (λ s r rel. rel) (λ o s o' r outer rel. rel) (λ o s o' r outer rel. rel) h

      sim_begun : (at : At) (s : Statement) → Sims S S' turns turns' R n (Unit {0}) (begun (here n perform scalars taken) at s) (begun (there n' perform' scalars taken) at s)
      sim_begun at s = sim_note _ ▹ λ _. sim_pay _

      mutual
        sim_execute : (s : Statement) → Sims S S' turns turns' R n Flow (execute (here n perform scalars taken) s) (execute (there n' perform' scalars taken) s)
        sim_execute (Simply at s) = sim_note _ ▹ λ _. sim_plain at.line s
        sim_execute (If at e block otherwise) = sim_begun at (If at e block otherwise) ▹ λ _. sim_condition at.line e ▹ λ holds. sim_if holds (λ _. sim_in_scope _ _ (sim_parts block)) (λ _. sim_otherwise otherwise)
        sim_execute (Loop at invariant block) = sim_begun at (Loop at invariant block) ▹ λ _. sim_rounds k.more (joins scalars (Loop at invariant block)) n n' le _ _ (sim_round invariant _ _ (sim_in_scope _ _ (sim_parts block)))
        sim_execute (For at x decreasing range invariant block) = sim_begun at (For at x decreasing range invariant block) ▹ λ _. sim_first_and_count at.line decreasing range ▹ λ q. sim_rounds_over k.more (joins scalars (For at x decreasing range invariant block)) decreasing n n' q.1 q.0 le _ _ (sim_indexed x _ _ (sim_round invariant _ _ (sim_in_scope _ _ (sim_parts block))))
        sim_execute (Case at e arms) = sim_begun at (Case at e arms) ▹ λ _. sim_evaluate at.line e ▹ λ z. sim_choose at.line z arms
        sim_execute (Begin at block) = sim_begun at (Begin at block) ▹ λ _. sim_in_scope _ _ (sim_parts block)
        sim_execute (Module at fixed collections invariant line block) = sim_parts block ▹ λ flow. sim_keep_invariant line invariant ▹ λ _. gives flow

        sim_otherwise : (otherwise : Otherwise) → Sims S S' turns turns' R n Flow (execute_otherwise (here n perform scalars taken) otherwise) (execute_otherwise (there n' perform' scalars taken) otherwise)
        sim_otherwise (Else block) = sim_in_scope _ _ (sim_parts block)
        sim_otherwise (Elsif at e block more) = sim_pay 1 ▹ λ _. sim_condition at.line e ▹ λ holds. sim_if holds (λ _. sim_in_scope _ _ (sim_parts block)) (λ _. sim_otherwise more)

        sim_choose : (line : ℕ) (z : ℤ) (arms : Arms) → Sims S S' turns turns' R n Flow (choose (here n perform scalars taken) line z arms) (choose (there n' perform' scalars taken) line z arms)
        sim_choose line z NoArm = raises kind.Case line
        sim_choose line z (Default block) = sim_arm _ _ (sim_in_scope _ _ (sim_parts block))
        sim_choose line z (Labelled labels block more) = sim_is_labelled labels z ▹ λ hit. sim_if hit (λ _. sim_arm _ _ (sim_in_scope _ _ (sim_parts block))) (λ _. sim_choose line z more)

        pub sim_parts : (block : Block) → Sims S S' turns turns' R n Flow (execute_parts (here n perform scalars taken) block) (execute_parts (there n' perform' scalars taken) block)
        sim_parts Empty = gives Next
        sim_parts (Then s more) = sim_execute s ▹ λ flow. sim_and_then flow _ _ (sim_parts more)
        sim_parts (Declare at d more) = sim_declare at.line d ▹ λ _. sim_parts more
        sim_parts (Bind at x is_var path more) = sim_pay 1 ▹ λ _. sim_locate at.line path ▹ λ q. sim_scope _ _ _ _ (k.bind is_var x q) (k.unbind is_var x q) (k.unbind is_var x q) (sim_parts more)

    sim_result_of : (n line : ℕ) (flow : Flow) → Sims S S' turns turns' R n Back (result_of S p turns program words line flow) (result_of S' p' turns' program words line flow)
    sim_result_of n line Next = raises kind.Result line
    sim_result_of n line Exits = raises kind.Result line
    sim_result_of n line Returns = raises kind.Result line
    sim_result_of n line (GivesBack back) = gives back

    sim_unless_missing : (n line : ℕ) (result : CallResult) (flow : Flow) → Sims S S' turns turns' R n Back (unless_missing S p turns program words line result flow) (unless_missing S' p' turns' program words line result flow)
    sim_unless_missing n line Nothing flow = gives _
    sim_unless_missing n line (OneValue target) flow = sim_result_of n line flow
    sim_unless_missing n line (OnePlace shape) flow = sim_result_of n line flow

    sim_receive : (n line : ℕ) (f : Formal) (a : Actual) → Sims S S' turns turns' R n (Unit {0}) (receive S p turns program words line f a) (receive S' p' turns' program words line f a)
    sim_receive n line (ByValue target) (GivenValue bounds v) = sim_unless_raised line _ ▹ λ _. sim_pay _
    sim_receive n line (ByValue target) (LentPlace is_var bounds q) = sim_lost
    sim_receive n line (ByCopy kind) (GivenValue bounds v) = sim_lost
    sim_receive n line (ByCopy kind) (LentPlace is_var bounds q) = sim_pay 1
    sim_receive n line (ByVar at kind) (GivenValue bounds v) = sim_lost
    sim_receive n line (ByVar at kind) (LentPlace is_var bounds q) = sim_pay 1

    sim_receive_all : (n line : ℕ) (formals : List Formal) (actuals : List Actual) → Sims S S' turns turns' R n (Unit {0}) (receive_all S p turns program words line formals actuals) (receive_all S' p' turns' program words line formals actuals)
    sim_receive_all n line [] [] = gives tt
    sim_receive_all n line [] (a ∷ actuals) = sim_lost
    sim_receive_all n line (f ∷ more) [] = sim_lost
    sim_receive_all n line (f ∷ more) (a ∷ actuals) = sim_receive n line f a ▹ λ _. sim_receive_all n line more actuals

    sim_name_result : (n : ℕ) (x : Option ℕ) (back : Back) → Sims S S' turns turns' R n (Unit {0}) (name_result S p turns program words x back) (name_result S' p' turns' program words x back)
    sim_name_result n None back = gives tt
    sim_name_result n (Some x) back = sim_change _ _ (k.declare (OfActivation x) (holds (content_back back)))

    -- the activation of a subprogram, whose calls are alike
    module _ (n n' : ℕ) (le : n ≤ n') (perform : Performs S) (perform' : Performs S') (performs : (line callee : ℕ) (actuals : List Actual) → Sims S S' turns turns' R n Back (perform line callee actuals) (perform' line callee actuals)) where
      sim_run_body : (taken : Caught) (r : Routine) (block : Block) → Sims S S' turns turns' R n Back (run_body S p turns program words n perform taken r block) (run_body S' p' turns' program words n' perform' taken r block)
      sim_run_body taken r block = sim_in_scope n n' le perform perform' performs (scalars_of program.shapes r) taken _ _ (sim_parts n n' le perform perform' performs (scalars_of program.shapes r) taken block) ▹ λ flow. sim_unless_missing n r.end_line r.gives flow

      sim_run_handled : (r : Routine) (h : Handler) → Sims S S' turns turns' R n Back (run_handled S p turns program words n perform r h) (run_handled S' p' turns' program words n' perform' r h)
      sim_run_handled r NoHandler = sim_run_body None r r.body
      sim_run_handled r (Handles at name block) = sim_pay 2 ▹ λ _. sim_handled (sim_run_body None r r.body) λ exception line. sim_pay 1 ▹ λ _. sim_change _ _ (k.declare (OfActivation name) (holds (alone (Number (pos (kind_number exception)))))) ▹ λ _. sim_run_body (Some (exception, line)) r block

      sim_run_routine : (r : Routine) → Sims S S' turns turns' R n Back (run_routine S p turns program words n perform r) (run_routine S' p' turns' program words n' perform' r)
      sim_run_routine r = sim_parts n n' le perform perform' performs (scalars_of program.shapes r) None r.before ▹ λ begun. sim_run_handled r r.handler ▹ λ back. sim_name_result n r.result back ▹ λ _. sim_parts n n' le perform perform' performs (scalars_of program.shapes r) None r.after ▹ λ checked. gives back

      sim_activation : (line : ℕ) (actuals : List Actual) (r : Option Routine) → Sims S S' turns turns' R n Back (activation S p turns program words n perform line actuals r) (activation S' p' turns' program words n' perform' line actuals r)
      sim_activation line actuals None = sim_lost
      sim_activation line actuals (Some r) = sim_scope _ _ _ _ (λ s q rel. rel) (λ o s o' q outer rel. rel) (λ o s o' q outer rel. rel) (sim_room _ line (λ s q rel. rel) ▹ λ _. sim_receive_all n line r.formals actuals ▹ λ _. sim_scope _ _ _ _ (k.enter actuals) (k.leave actuals) (k.leave actuals) (sim_run_routine r))

    -- calls that may be deeper
    pub sim_calls : (n n' : ℕ) → n ≤ n' → (line callee : ℕ) (actuals : List Actual) → Sims S S' turns turns' R n Back (calls S p turns program words n line callee actuals) (calls S' p' turns' program words n' line callee actuals)
    sim_calls zero zero le line callee actuals = sim_stop
    sim_calls zero (suc n') le line callee actuals = sim_cut _ k.more
    sim_calls (suc n) zero le line callee actuals = absurd (omega (arith, le))
    sim_calls (suc n) (suc n') le line callee actuals = sim_turn k.more λ _. sim_activation n n' (omega (arith, le)) _ _ (sim_calls n n' (omega (arith, le))) line actuals (slice_get program.routines callee)
