-- Whether a core is well formed: all that it names is there, and each place, value and call is of the kind that its use asks for. A rule of
-- the meaning applies to each step of such a core. Below, what is well formed is called good.
use Rattle.std.specs.Prelude.{ℕ, suc, ◌==◌, Bool, true, false, not, ◌&&◌, ◌||◌, List, [], ◌∷◌, length, slice_get, is_some, is_none, nat_lt, Option, Some, None, if◌then◌else◌}
use Rattle.std.specs.List.{list_all}
use Rattle.tu_base.specs.declared.shape.Shape.{Shape}
use Rattle.tu_base.specs.declared.shape.Shape.TheVariants.{Scalar as scalar_shape, Text as text_shape, Set as set_shape, Pointer as pointer_shape, Array as array_shape, Record as record_shape, Union as union_shape}
use Rattle.tu_base.specs.Shapes.{elements}
use Rattle.tu_base.specs.Sets.{Base}
use Rattle.tu_core.specs.declared.names.Variable.{Variable}
use Rattle.tu_core.specs.declared.names.GlobalName.{GlobalName}
use Rattle.tu_core.specs.declared.names.GlobalName.TheVariants.{GlobalOf, GlobalArray}
use Rattle.tu_core.specs.declared.names.LocalName.{LocalName}
use Rattle.tu_core.specs.declared.names.LocalName.TheVariants.{Declared, DeclaredArray, BoundName, BoundText, BoundArray, Counter, Caught, ResultName}
use Rattle.tu_core.specs.declared.names.PlaceKind.{PlaceKind}
use Rattle.tu_core.specs.declared.names.PlaceKind.TheVariants.{OfShape, AnyText, AnyArray}
use Rattle.tu_core.specs.declared.names.Formal.{Formal}
use Rattle.tu_core.specs.declared.names.Formal.TheVariants.{ByValue, ByCopy, ByVar}
use Rattle.tu_core.specs.declared.names.CallResult.{CallResult}
use Rattle.tu_core.specs.declared.names.CallResult.TheVariants.{Nothing, OneValue, OnePlace}
use Rattle.tu_core.specs.declared.targets.Index.{Index}
use Rattle.tu_core.specs.declared.targets.Index.TheVariants.{Known, Open}
use Rattle.tu_core.specs.declared.targets.Size.TheVariants.{AtName}
use Rattle.tu_core.specs.declared.targets.Target.{Target}
use Rattle.tu_core.specs.declared.targets.Target.TheVariants.{TakesScalar, TakesText, TakesSet, TakesPointer}
use Rattle.tu_core.specs.Core.{Scalar, Literal, Use, Prefixed, Chain, CompareTexts, CompareSets, ComparePointers, Member, Length, PlaceIn, ByteOf, TextInt, Bound, AtEnd, CallScalar, Links, NoLink, Link, Decide, Text, Written, UseText, Joined, Cut, Character, IntText, Repeat, CallText, Texts, NoText, AndText, Cuts, NoCut, CutCharacter, CutPart, Spot, Exactly, Last, BeforeLast, Set, SetOf, FullSet, UseSet, Combined, CallSet, Combinations, NoSet, AndSet, Pointer, Nil, UsePointer, CallPointer, Scalars, NoScalar, AndScalar, Optional, Absent, Present, Path, Name, OpenItem, Element, ResultOf, Selectors, End, Field, VariantField, Item, Subscripts, NoSubscript, Subscript, Call, Calls, Actuals, NoActual, Given, Lent, Simple, AScalar, AText, ASet, APointer, Start, WithValue, WithCopy, WithParts, Starts, NoStart, AndStart, Range, FromTo, Through, Shown, NoneShown, ShowInt, ShowTruth, ShowText, Taken, NoneTaken, TakeInt, TakeTruth, TakeToken, TakeLine, TakeCount, Test, Plain, Assign, Copy, Exit, Return, Give, GiveCopy, Check, New, Free, Tag, Put, Get, OpenStream, Close, Do, Quit, Named, Declaration, Constant, InitClause, Variables, Started, Arrays, Collections, Mention, Statement, Simply, If, Loop, For, Case, Begin, Module, Block, Empty, Then, Declare, Bind, Otherwise, Else, Elsif, Arms, NoArm, Default, Labelled, Handler, NoHandler, Handles, Routine, Program}
use Rattle.tu_core.specs.Targets.{truths, is_same_span, is_same_base, is_same_target, is_scalar, is_text, is_set_of, is_pointer_to, pointed_by, has_parts}
use Rattle.tu_core.specs.Places.{Stands, Shaped, Names, main_names, names_of, body_names, gives_nothing, value_given, place_given, has_some, is_there, is_place, has_shape, variant_fields, field_at, variant_field_at, item_at, count_subscripts, shape_at, is_collection, can_have_shape, local_name, stands_at, is_known, target_at, is_of, takes, takes_place, has_indexes, is_open_array, open_item, element_of, call_stands, path_stands}
use Rattle.tu_core.specs.Rooms.{is_scalar_shape}
use Rattle.tu_core.specs.Leaving.{exits_leave_loops, results_differ}
use Rattle.tu_core.specs.TypeTest.{is_typed}

-- whether a call gives a value without parts that passes a test
abbrev pub gives_value : (Target → Bool) → CallResult → Bool
gives_value test gives = has_some test (value_given gives)

abbrev pub gives_shape : ℕ → CallResult → Bool
gives_shape n gives = has_shape n (place_given gives)

abbrev pub gives_place : CallResult → Bool
gives_place gives = is_place (place_given gives)

abbrev pub has_no_formal : List Formal → Bool
has_no_formal [] = true
has_no_formal (f ∷ more) = false

-- An invariant is a routine without formals that gives nothing back: its body tests its clause.
abbrev pub can_keep : Routine → Bool
can_keep r = has_no_formal r.formals && (r.is_invariant && gives_nothing r.gives)

-- the index of a `for`, with the values of the type that it goes through
abbrev pub is_index : Range → LocalName → Bool
is_index (FromTo first last) (Counter s) = true
is_index (Through t) (Counter s) = is_same_span t s
is_index range x = false

abbrev pub is_caught : LocalName → Bool
is_caught Caught = true
is_caught x = false

abbrev pub is_result_name : LocalName → Bool
is_result_name ResultName = true
is_result_name x = false

-- a part of an `init`, by its number
abbrev pub part_at : Shape → ℕ → Option ℕ
part_at (array_shape indexes component) k = if nat_lt k (elements indexes) then Some component else None
part_at (record_shape fields) k = slice_get fields k
part_at s k = None

abbrev pub count_parts : Shape → ℕ
count_parts (array_shape indexes component) = elements indexes
count_parts (record_shape fields) = length fields
count_parts s = 0

-- a value has a size where its formal is one of any size
abbrev pub comes_with : Target → (size : Option ℕ) → Bool
comes_with (TakesText AtName) size = is_some size
comes_with target size = is_none size

-- In a text of these names.
module _ (names : Names) where
  abbrev pub routine_at : ℕ → Option Routine
  routine_at n = slice_get names.program.routines n

  abbrev pub good_target : Target → Bool
  good_target (TakesPointer c) = is_collection names c
  good_target target = true

  abbrev pub good_invariant : Option ℕ → Bool
  good_invariant None = true
  good_invariant (Some n) = has_some can_keep (routine_at n)

  -- a name of a shape, or of no known one
  abbrev pub takes_shape : ℕ → Variable → Bool
  takes_shape n x = has_shape n (stands_at names x)

  abbrev pub call_value : Call → Option Target
  call_value (Calls at callee invariant actuals) = elim (routine_at callee) [ None ↦ None | Some r ↦ value_given r.gives ]

  -- the collection of a pointer
  abbrev pub collection_of : Pointer → Option ℕ
  collection_of (Nil n at c) = Some c
  collection_of (UsePointer n path) = pointed_by (target_at names (path_stands names path))
  collection_of (CallPointer n call) = pointed_by (call_value call)

  abbrev mutual
    pub good_scalar : Scalar → Bool
    good_scalar (Literal n z) = true
    good_scalar (Use n path) = good_path path && is_of names is_scalar (path_stands names path)
    good_scalar (Prefixed n operators e) = good_scalar e
    good_scalar (Chain n e links) = good_scalar e && good_links links
    good_scalar (CompareTexts n relation a b) = good_text a && good_text b
    good_scalar (CompareSets n relation base a b) = good_set base a && good_set base b
    good_scalar (ComparePointers n is_equal a b) = has_some (λ c. good_pointer c a && good_pointer c b) (collection_of a)
    good_scalar (Member n is_wanted base e s) = good_scalar e && good_set base s
    good_scalar (Length n e) = good_text e
    good_scalar (PlaceIn n a b) = good_text a && good_text b
    good_scalar (ByteOf n e) = good_text e
    good_scalar (TextInt n e) = good_text e
    -- of an array, whose indexes these are
    good_scalar (Bound n is_upper indexes path dimension) = good_path path && (has_indexes names indexes (path_stands names path) && good_optional dimension)
    good_scalar (AtEnd n at stream) = good_optional stream
    good_scalar (CallScalar n call) = good_call (gives_value is_scalar) call

    pub good_links : Links → Bool
    good_links NoLink = true
    good_links (Link operator e more) = good_scalar e && good_links more
    good_links (Decide operator e more) = good_scalar e && good_links more

    pub good_optional : Optional → Bool
    good_optional Absent = true
    good_optional (Present e) = good_scalar e

    pub good_text : Text → Bool
    good_text (Written n bytes) = true
    good_text (UseText n path) = good_path path && is_of names is_text (path_stands names path)
    good_text (Joined n e more) = good_text e && good_texts more
    good_text (Cut n e cuts) = good_text e && good_cuts cuts
    good_text (Character n e) = good_scalar e
    good_text (IntText n e width) = good_scalar e && good_optional width
    good_text (Repeat n e k) = good_text e && good_scalar k
    good_text (CallText n call) = good_call (gives_value is_text) call

    pub good_texts : Texts → Bool
    good_texts NoText = true
    good_texts (AndText e more) = good_text e && good_texts more

    pub good_cuts : Cuts → Bool
    good_cuts NoCut = true
    good_cuts (CutCharacter i more) = good_spot i && good_cuts more
    good_cuts (CutPart i j more) = good_spot i && (good_spot j && good_cuts more)

    pub good_spot : Spot → Bool
    good_spot (Exactly e) = good_scalar e
    good_spot Last = true
    good_spot (BeforeLast e) = good_scalar e

    -- a set of this base, in all its parts
    pub good_set : Base → Set → Bool
    good_set base (SetOf n other es) = is_same_base other base && good_scalars es
    good_set base (FullSet n other) = is_same_base other base
    good_set base (UseSet n path) = good_path path && is_of names (is_set_of base) (path_stands names path)
    good_set base (Combined n other e more) = is_same_base other base && (good_set base e && good_combinations base more)
    good_set base (CallSet n call) = good_call (gives_value (is_set_of base)) call

    pub good_combinations : Base → Combinations → Bool
    good_combinations base NoSet = true
    good_combinations base (AndSet operator e more) = good_set base e && good_combinations base more

    pub good_scalars : Scalars → Bool
    good_scalars NoScalar = true
    good_scalars (AndScalar e more) = good_scalar e && good_scalars more

    -- a pointer to an element of this collection, which is there
    pub good_pointer : (collection : ℕ) → Pointer → Bool
    good_pointer c (Nil n at other) = (other == c) && is_collection names c
    good_pointer c (UsePointer n path) = good_path path && is_of names (is_pointer_to c) (path_stands names path)
    good_pointer c (CallPointer n call) = good_call (gives_value (is_pointer_to c)) call

    -- a value of the sort of its target
    pub good_value : Target → Simple → Bool
    good_value (TakesScalar s) (AScalar e) = good_scalar e
    good_value (TakesText size) (AText e) = good_text e
    good_value (TakesSet base) (ASet e) = good_set base e
    good_value (TakesPointer c) (APointer e) = good_pointer c e
    good_value target e = false

    pub good_subscripts : Subscripts → Bool
    good_subscripts NoSubscript = true
    good_subscripts (Subscript constant e more) = good_scalar e && good_subscripts more

    -- The root is there; an element of an array whose open bounds stand at its name has a subscript for each index; a pointer names an element
    -- of its collection; and a call gives a place.
    pub good_path : Path → Bool
    good_path (Name at x steps) = is_known names x && good_selectors (stands_at names x) steps
    good_path (OpenItem at x indexes es steps) =
        (good_subscripts es && good_selectors (open_item indexes (stands_at names x)) steps)
        && (is_place (open_item indexes (stands_at names x)) && (count_subscripts es == length indexes))
    good_path (Element at c e steps) = good_pointer c e && (is_collection names c && good_selectors (element_of names c) steps)
    good_path (ResultOf at k call steps) = good_call gives_place call && good_selectors (call_stands names call) steps

    -- Each selects from the shape that stands there: a component of a record, or the tag of a union; a field of a union; and an element of
    -- an array, with a subscript for each index.
    pub good_selectors : Stands → Selectors → Bool
    good_selectors s End = true
    good_selectors s (Field n k more) = has_shape n s && (is_place (field_at (shape_at names n) k) && good_selectors (field_at (shape_at names n) k) more)
    good_selectors s (VariantField n k more) = has_shape n s && (is_place (variant_field_at (shape_at names n) k) && good_selectors (variant_field_at (shape_at names n) k) more)
    good_selectors s (Item n es more) =
        good_subscripts es && (has_shape n s && (is_place (item_at (shape_at names n) (count_subscripts es)) && good_selectors (item_at (shape_at names n) (count_subscripts es)) more))

    -- The callee and the invariant are there, what it gives is used, and its formals take the actuals.
    pub good_call : (CallResult → Bool) → Call → Bool
    good_call used (Calls at callee invariant actuals) = good_invariant invariant && has_some (λ r. used r.gives && good_actuals r.formals actuals) (routine_at callee)

    -- a value for its formal, with the size that a formal of any size asks for, or a place of the formal's kind, with its bounds
    pub good_actuals : List Formal → Actuals → Bool
    good_actuals [] NoActual = true
    good_actuals (ByValue target ∷ more) (Given at size e others) = good_value target e && (comes_with target size && good_actuals more others)
    good_actuals (ByCopy kind ∷ more) (Lent at false bounds path others) = good_path path && (takes_place names kind bounds (path_stands names path) && good_actuals more others)
    good_actuals (ByVar var kind ∷ more) (Lent at true bounds path others) = good_path path && (takes_place names kind bounds (path_stands names path) && good_actuals more others)
    good_actuals formals actuals = false

  -- a place that takes exactly this
  abbrev pub good_use : Target → Path → Bool
  good_use target path = good_path path && takes names target (path_stands names path)

  -- a place of a shape with parts
  abbrev pub good_parts : (shape : ℕ) → Path → Bool
  good_parts n path = good_path path && (has_shape n (path_stands names path) && has_some has_parts (shape_at names n))

  -- What a name or part of a shape begins with: a value that it takes, or a copy of parts, or a start for each part.
  abbrev mutual
    pub good_start : (shape : ℕ) → Start → Bool
    good_start n (WithValue target e) = good_value target e && takes names target (Shaped n)
    good_start n (WithCopy m path) = good_parts m path && (m == n)
    good_start n (WithParts m starts) = (m == n) && has_some (λ s. good_starts s 0 starts) (shape_at names n)

    pub good_starts : Shape → (part : ℕ) → Starts → Bool
    good_starts s k NoStart = k == count_parts s
    good_starts s k (AndStart start more) = has_some (λ n. good_start n start) (part_at s k) && good_starts s (suc k) more

  abbrev pub good_start_at : Stands → Start → Bool
  good_start_at (Shaped n) start = good_start n start
  good_start_at s start = false

  -- a constant's name has the shape of its start
  abbrev pub good_constant : Named → Bool
  good_constant x = good_start_at (stands_at names x.name) x.start

  -- one evaluated bound for each open index
  abbrev pub good_bounds : List Index → Scalars → Bool
  good_bounds [] NoScalar = true
  good_bounds [] (AndScalar e es) = false
  good_bounds (Known s ∷ more) es = good_bounds more es
  good_bounds (Open low ∷ more) NoScalar = false
  good_bounds (Open low ∷ more) (AndScalar e es) = good_scalar e && good_bounds more es

  -- names of the shape that is declared
  abbrev pub good_declaration : Declaration → Bool
  good_declaration (Constant x) = good_constant x
  good_declaration (InitClause xs) = list_all good_constant xs
  good_declaration (Variables xs n) = list_all (takes_shape n) xs && can_have_shape names n
  good_declaration (Started xs n start) = good_start n start && list_all (takes_shape n) xs
  good_declaration (Arrays xs indexes component es) = good_bounds indexes es && (list_all (λ x. is_open_array indexes component (stands_at names x)) xs && can_have_shape names component)
  good_declaration (Collections cs) = list_all (is_collection names) cs
  good_declaration (Mention c) = is_collection names c

  abbrev pub good_shown : Shown → Bool
  good_shown NoneShown = true
  good_shown (ShowInt e width more) = good_scalar e && (good_optional width && good_shown more)
  good_shown (ShowTruth e width more) = good_scalar e && (good_optional width && good_shown more)
  good_shown (ShowText e width more) = good_text e && (good_optional width && good_shown more)

  abbrev pub good_taken : Taken → Bool
  good_taken NoneTaken = true
  good_taken (TakeInt s path more) = good_use (TakesScalar s) path && good_taken more
  good_taken (TakeTruth path more) = good_use (TakesScalar truths) path && good_taken more
  good_taken (TakeToken size path more) = good_use (TakesText size) path && good_taken more
  good_taken (TakeLine size path more) = good_use (TakesText size) path && good_taken more
  good_taken (TakeCount size path e more) = good_use (TakesText size) path && (good_scalar e && good_taken more)

  -- a union whose tag is a scalar
  abbrev pub is_tagged : Option Shape → Bool
  is_tagged (Some (union_shape tag variants)) = has_some is_scalar_shape (shape_at names tag)
  is_tagged s = false

  -- `quit` without a number stands only in a handler's block.
  abbrev pub good_quit : Optional → Bool
  good_quit Absent = names.in_handler
  good_quit (Present e) = good_scalar e

  abbrev pub good_plain : Plain → Bool
  good_plain (Assign target path e) = good_value target e && good_use target path
  good_plain (Copy n to from) = good_parts n to && good_parts n from
  good_plain (Exit condition) = good_optional condition
  good_plain Return = names.may_return
  good_plain (Give target e) = good_value target e && gives_value (is_same_target target) names.may_give
  good_plain (GiveCopy n path) = good_parts n path && gives_shape n names.may_give
  good_plain (Check claim e) = good_scalar e
  good_plain (New c at path) = good_use (TakesPointer c) path && is_collection names c
  good_plain (Free c at path) = good_use (TakesPointer c) path && is_collection names c
  good_plain (Tag n path e) = good_path path && (good_scalar e && (is_tagged (shape_at names n) && has_shape n (path_stands names path)))
  good_plain (Put stream shown ends_line) = good_optional stream && good_shown shown
  good_plain (Get stream taken) = good_optional stream && good_taken taken
  good_plain (OpenStream s path e is_put) = good_use (TakesScalar s) path && good_text e
  good_plain (Close e) = good_scalar e
  good_plain (Do call) = good_call gives_nothing call
  good_plain (Quit number) = good_quit number

  abbrev pub good_range : Range → Bool
  good_range (FromTo first last) = good_scalar first && good_scalar last
  good_range (Through s) = true

  abbrev pub good_test : Option Test → Bool
  good_test None = true
  good_test (Some t) = good_scalar t.condition

  -- The name is of the kind of the place, with the bounds that stand at the name of its root.
  abbrev pub is_bound_name : Stands → LocalName → Bool
  is_bound_name s (BoundName n) = takes_place names (OfShape n) (Some []) s
  is_bound_name s BoundText = takes_place names AnyText None s
  is_bound_name s (BoundArray indexes component) = takes_place names (AnyArray indexes component) None s
  is_bound_name s x = false

  abbrev mutual
    -- the index of a `for` is a name of its own
    pub good_statement : Statement → Bool
    good_statement (Simply at s) = good_plain s
    good_statement (If at e block otherwise) = good_scalar e && (good_block block && good_otherwise otherwise)
    good_statement (Loop at invariant block) = good_test invariant && good_block block
    good_statement (For at x decreasing range invariant block) = good_range range && (good_test invariant && (good_block block && has_some (is_index range) (local_name names x)))
    good_statement (Case at e arms) = good_scalar e && good_arms arms
    good_statement (Begin at block) = good_block block
    good_statement (Module at fixed collections invariant line block) = good_block block && (good_invariant invariant && (list_all (is_known names) fixed && list_all (is_collection names) collections))

    pub good_block : Block → Bool
    good_block Empty = true
    good_block (Then s more) = good_statement s && good_block more
    good_block (Declare at d more) = good_declaration d && good_block more
    good_block (Bind at x is_var path more) = good_path path && (good_block more && has_some (is_bound_name (path_stands names path)) (local_name names x))

    pub good_otherwise : Otherwise → Bool
    good_otherwise (Else block) = good_block block
    good_otherwise (Elsif at e block more) = good_scalar e && (good_block block && good_otherwise more)

    pub good_arms : Arms → Bool
    good_arms NoArm = true
    good_arms (Default block) = good_block block
    good_arms (Labelled labels block more) = good_block block && good_arms more

-- A shape names only lower ones, and the tag of a union is a scalar.
abbrev pub good_shape : Program → (number : ℕ) → Shape → Bool
good_shape p n (scalar_shape s) = true
good_shape p n (text_shape most) = true
good_shape p n (set_shape low members) = true
good_shape p n (pointer_shape c) = is_there p.collections c
good_shape p n (array_shape indexes component) = nat_lt component n
good_shape p n (record_shape fields) = list_all (λ m. nat_lt m n) fields
good_shape p n (union_shape tag variants) = (nat_lt tag n && has_some is_scalar_shape (slice_get p.shapes tag)) && list_all (λ m. nat_lt m n) (variant_fields variants)

abbrev pub good_shapes : Program → (number : ℕ) → List Shape → Bool
good_shapes p n [] = true
good_shapes p n (s ∷ more) = good_shape p n s && good_shapes p (suc n) more

-- the shapes and collections of a name are there
abbrev pub good_global : Program → GlobalName → Bool
good_global p (GlobalOf n) = is_there p.shapes n
good_global p (GlobalArray indexes component) = is_there p.shapes component

abbrev pub good_local : Program → LocalName → Bool
good_local p (Declared n) = is_there p.shapes n
good_local p (DeclaredArray indexes component) = is_there p.shapes component
good_local p (BoundName n) = is_there p.shapes n
good_local p BoundText = true
good_local p (BoundArray indexes component) = is_there p.shapes component
good_local p (Counter s) = true
good_local p Caught = true
good_local p ResultName = true

abbrev pub good_kind : Names → PlaceKind → Bool
good_kind names (OfShape n) = is_there names.program.shapes n
good_kind names AnyText = true
good_kind names (AnyArray indexes component) = is_there names.program.shapes component

-- of a place with parts
abbrev pub is_structured : Names → PlaceKind → Bool
is_structured names (OfShape n) = has_some has_parts (shape_at names n)
is_structured names AnyText = false
is_structured names (AnyArray indexes component) = is_there names.program.shapes component

abbrev pub good_formal : Names → Formal → Bool
good_formal names (ByValue target) = good_target names target
good_formal names (ByCopy kind) = is_structured names kind
good_formal names (ByVar at kind) = good_kind names kind

-- a text that a function gives has a size of its own
abbrev pub good_result : Names → CallResult → Bool
good_result names Nothing = true
good_result names (OneValue target) = good_target names target && not (is_same_target (TakesText AtName) target)
good_result names (OnePlace n) = has_some has_parts (shape_at names n)

abbrev pub good_handler : Program → Routine → Handler → Bool
good_handler p r NoHandler = true
good_handler p r (Handles at name block) = good_block (body_names p r true) block && has_some is_caught (local_name (body_names p r true) name)

-- the blocks of a routine
abbrev pub good_blocks : Program → Routine → Bool
good_blocks p r =
    good_block (names_of p r Nothing false) r.before && (good_block (body_names p r false) r.body && (good_handler p r r.handler && good_block (names_of p r Nothing false) r.after))

abbrev pub good_result_name : Names → Option ℕ → Bool
good_result_name names None = true
good_result_name names (Some x) = has_some is_result_name (local_name names x)

-- what a routine says of its names
abbrev pub good_names : Names → Routine → Bool
good_names names r =
    ((list_all (good_formal names) r.formals && list_all (good_local names.program) r.locals) && good_result names r.gives)
    && ((good_result_name names r.result && (not r.is_invariant || can_keep r)) && (list_all (is_known names) r.fixed && list_all (is_collection names) r.fixed_collections))

abbrev pub good_routine : Program → Routine → Bool
good_routine p r = good_blocks p r && good_names (names_of p r Nothing false) r

-- what a program says of its names
abbrev pub good_tables : Program → Bool
good_tables p = (good_shapes p 0 p.shapes && (list_all (good_global p) p.globals && list_all (is_there p.shapes) p.collections)) && list_all (good_local p) p.locals

-- All that is named is there, and is what its use asks for.
abbrev pub is_formed : Program → Bool
is_formed p = good_block (main_names p) p.main && (list_all (good_routine p) p.routines && good_tables p)

abbrev pub is_well_formed : Program → Bool
is_well_formed p = is_formed p && ((exits_leave_loops p && results_differ p) && is_typed p)
