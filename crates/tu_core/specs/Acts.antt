-- Acts: what a text does to variables and collections, which routines it calls and what it binds, as a flat list in the order of the text.
-- The rules on effects and on overlap speak of acts alone.
use Rattle.std.specs.Prelude.{ℕ, Bool, true, false, List, [], ◌∷◌, ◌++◌, length, map, Option, Some, None}
use Rattle.tu_core.specs.Core.{Scalar, Literal, Use, Prefixed, Chain, CompareTexts, CompareSets, ComparePointers, Member, Length, PlaceIn, ByteOf, TextInt, Bound, AtEnd, CallScalar, Links, NoLink, Link, Decide, Text, Written, UseText, Joined, Cut, Character, IntText, Repeat, CallText, Texts, NoText, AndText, Cuts, NoCut, CutCharacter, CutPart, Spot, Exactly, Last, BeforeLast, Set, SetOf, FullSet, UseSet, Combined, CallSet, Combinations, NoSet, AndSet, Pointer, Nil, UsePointer, CallPointer, Scalars, NoScalar, AndScalar, Optional, Absent, Present, Path, Name, OpenItem, Element, ResultOf, Selectors, End, Field, VariantField, Item, Subscripts, NoSubscript, Subscript, Call, Calls, Actuals, NoActual, Given, Lent, Simple, AScalar, AText, ASet, APointer, Start, WithValue, WithCopy, WithParts, Starts, NoStart, AndStart, Range, FromTo, Through, Shown, NoneShown, ShowInt, ShowTruth, ShowText, Taken, NoneTaken, TakeInt, TakeTruth, TakeToken, TakeLine, TakeCount, Test, Plain, Assign, Copy, Exit, Return, Give, GiveCopy, Check, New, Free, Tag, Put, Get, OpenStream, Close, Do, Quit, Named, Declaration, Constant, InitClause, Variables, Started, Arrays, Collections, Mention, Statement, Simply, If, Loop, For, Case, Begin, Module, Block, Empty, Then, Declare, Bind, Otherwise, Else, Elsif, Arms, NoArm, Default, Labelled, Handler, NoHandler, Handles, Routine, Program}
use Rattle.tu_core.specs.declared.names.At.{At}
use Rattle.tu_core.specs.declared.names.Variable.{Variable}
use Rattle.tu_core.specs.declared.names.Variable.TheVariants.{Local}

-- what a path begins with: a variable, or a collection, of which each element is a part
pub data Subject : Type 0 where
  AVariable : Variable → Subject
  ACollection : ℕ → Subject

-- the result of a call is no subject
abbrev pub subject_of : Path → Option Subject
subject_of (Name at x steps) = Some (AVariable x)
subject_of (OpenItem at x indexes es steps) = Some (AVariable x)
subject_of (Element at c e steps) = Some (ACollection c)
subject_of (ResultOf at k call steps) = None

-- Each act has the place of its first token. An extent is a number of acts that follow.
pub data Act : Type 0 where
  Reading : At → Subject → Act
  Changing : At → Subject → Act
  -- a collection in `nil (C)` or in a type
  Naming : At → Subject → Act
  -- of input or output
  Talking : At → Act
  -- behind the acts of its actuals
  Calling : Call → Act
  -- a `bind`, behind the acts of its path, with the extent of its scope
  Binding : At → (name : ℕ) → (is_var : Bool) → Path → (extent : ℕ) → Act
  -- a variable that a declaration unsets, or the index of a `for`, or the name of a handler
  Declaring : At → Variable → Act
  -- a constant that gets its value
  Defining : At → Named → Act
  -- these may be read and not changed
  Fixing : List Subject → (extent : ℕ) → Act

-- a path that is lent is changed where it is `var`, and else read
abbrev pub lending : (is_var : Bool) → At → Subject → Act
lending true at x = Changing at x
lending false at x = Reading at x

abbrev mutual
  pub scalar_acts : Scalar → List Act
  scalar_acts (Literal n z) = []
  scalar_acts (Use n path) = path_acts Reading path
  scalar_acts (Prefixed n operators e) = scalar_acts e
  scalar_acts (Chain n e links) = scalar_acts e ++ links_acts links
  scalar_acts (CompareTexts n relation a b) = text_acts a ++ text_acts b
  scalar_acts (CompareSets n relation base a b) = set_acts a ++ set_acts b
  scalar_acts (ComparePointers n is_equal a b) = pointer_acts a ++ pointer_acts b
  scalar_acts (Member n is_wanted base e s) = scalar_acts e ++ set_acts s
  scalar_acts (Length n e) = text_acts e
  scalar_acts (PlaceIn n a b) = text_acts a ++ text_acts b
  scalar_acts (ByteOf n e) = text_acts e
  scalar_acts (TextInt n e) = text_acts e
  scalar_acts (Bound n is_upper indexes path dimension) = path_acts Reading path ++ optional_acts dimension
  scalar_acts (AtEnd n at stream) = Talking at ∷ optional_acts stream
  scalar_acts (CallScalar n call) = call_acts call

  pub links_acts : Links → List Act
  links_acts NoLink = []
  links_acts (Link operator e more) = scalar_acts e ++ links_acts more
  links_acts (Decide operator e more) = scalar_acts e ++ links_acts more

  pub optional_acts : Optional → List Act
  optional_acts Absent = []
  optional_acts (Present e) = scalar_acts e

  pub text_acts : Text → List Act
  text_acts (Written n bytes) = []
  text_acts (UseText n path) = path_acts Reading path
  text_acts (Joined n e more) = text_acts e ++ texts_acts more
  text_acts (Cut n e cuts) = text_acts e ++ cuts_acts cuts
  text_acts (Character n e) = scalar_acts e
  text_acts (IntText n e width) = scalar_acts e ++ optional_acts width
  text_acts (Repeat n e k) = text_acts e ++ scalar_acts k
  text_acts (CallText n call) = call_acts call

  pub texts_acts : Texts → List Act
  texts_acts NoText = []
  texts_acts (AndText e more) = text_acts e ++ texts_acts more

  pub cuts_acts : Cuts → List Act
  cuts_acts NoCut = []
  cuts_acts (CutCharacter i more) = spot_acts i ++ cuts_acts more
  cuts_acts (CutPart i j more) = spot_acts i ++ (spot_acts j ++ cuts_acts more)

  pub spot_acts : Spot → List Act
  spot_acts (Exactly e) = scalar_acts e
  spot_acts Last = []
  spot_acts (BeforeLast e) = scalar_acts e

  pub set_acts : Set → List Act
  set_acts (SetOf n base es) = scalars_acts es
  set_acts (FullSet n base) = []
  set_acts (UseSet n path) = path_acts Reading path
  set_acts (Combined n base e more) = set_acts e ++ combinations_acts more
  set_acts (CallSet n call) = call_acts call

  pub combinations_acts : Combinations → List Act
  combinations_acts NoSet = []
  combinations_acts (AndSet operator e more) = set_acts e ++ combinations_acts more

  pub scalars_acts : Scalars → List Act
  scalars_acts NoScalar = []
  scalars_acts (AndScalar e more) = scalar_acts e ++ scalars_acts more

  pub pointer_acts : Pointer → List Act
  pointer_acts (Nil n at c) = Naming at (ACollection c) ∷ []
  pointer_acts (UsePointer n path) = path_acts Reading path
  pointer_acts (CallPointer n call) = call_acts call

  pub simple_acts : Simple → List Act
  simple_acts (AScalar e) = scalar_acts e
  simple_acts (AText e) = text_acts e
  simple_acts (ASet e) = set_acts e
  simple_acts (APointer e) = pointer_acts e

  -- what is done to the subject, and then the subscripts and pointers, or the call
  pub path_acts : (does : At → Subject → Act) → Path → List Act
  path_acts does (Name at x steps) = does at (AVariable x) ∷ selectors_acts steps
  path_acts does (OpenItem at x indexes es steps) = does at (AVariable x) ∷ (subscripts_acts es ++ selectors_acts steps)
  path_acts does (Element at c e steps) = does at (ACollection c) ∷ (pointer_acts e ++ selectors_acts steps)
  path_acts does (ResultOf at k call steps) = call_acts call ++ selectors_acts steps

  pub selectors_acts : Selectors → List Act
  selectors_acts End = []
  selectors_acts (Field shape k more) = selectors_acts more
  selectors_acts (VariantField shape k more) = selectors_acts more
  selectors_acts (Item shape es more) = subscripts_acts es ++ selectors_acts more

  pub subscripts_acts : Subscripts → List Act
  subscripts_acts NoSubscript = []
  subscripts_acts (Subscript constant e more) = scalar_acts e ++ subscripts_acts more

  pub call_acts : Call → List Act
  call_acts (Calls at callee invariant actuals) = actuals_acts actuals ++ Calling (Calls at callee invariant actuals) ∷ []

  pub actuals_acts : Actuals → List Act
  actuals_acts NoActual = []
  actuals_acts (Given at size e more) = simple_acts e ++ actuals_acts more
  actuals_acts (Lent at is_var bounds path more) = path_acts (lending is_var) path ++ actuals_acts more

abbrev mutual
  pub start_acts : Start → List Act
  start_acts (WithValue target e) = simple_acts e
  start_acts (WithCopy shape path) = path_acts Reading path
  start_acts (WithParts shape starts) = starts_acts starts

  pub starts_acts : Starts → List Act
  starts_acts NoStart = []
  starts_acts (AndStart start more) = start_acts start ++ starts_acts more

abbrev pub shown_acts : Shown → List Act
shown_acts NoneShown = []
shown_acts (ShowInt e width more) = scalar_acts e ++ (optional_acts width ++ shown_acts more)
shown_acts (ShowTruth e width more) = scalar_acts e ++ (optional_acts width ++ shown_acts more)
shown_acts (ShowText e width more) = text_acts e ++ (optional_acts width ++ shown_acts more)

abbrev pub taken_acts : Taken → List Act
taken_acts NoneTaken = []
taken_acts (TakeInt s path more) = path_acts Changing path ++ taken_acts more
taken_acts (TakeTruth path more) = path_acts Changing path ++ taken_acts more
taken_acts (TakeToken size path more) = path_acts Changing path ++ taken_acts more
taken_acts (TakeLine size path more) = path_acts Changing path ++ taken_acts more
taken_acts (TakeCount size path e more) = path_acts Changing path ++ (scalar_acts e ++ taken_acts more)

-- that the subject of a path is read too, where it is no call's result
abbrev pub also_read : At → Option Subject → List Act
also_read at None = []
also_read at (Some x) = Reading at x ∷ []

-- `new` makes an element of C and `free` removes one, so they change C; `free` reads its pointer before it changes it.
abbrev pub plain_acts : At → Plain → List Act
plain_acts at (Assign target path e) = path_acts Changing path ++ simple_acts e
plain_acts at (Copy shape to from) = path_acts Changing to ++ path_acts Reading from
plain_acts at (Exit condition) = optional_acts condition
plain_acts at Return = []
plain_acts at (Give target e) = simple_acts e
plain_acts at (GiveCopy shape path) = path_acts Reading path
plain_acts at (Check claim e) = scalar_acts e
plain_acts at (New c named path) = Changing named (ACollection c) ∷ path_acts Changing path
plain_acts at (Free c named path) = Changing named (ACollection c) ∷ (also_read named (subject_of path) ++ path_acts Changing path)
plain_acts at (Tag shape path e) = path_acts Changing path ++ scalar_acts e
plain_acts at (Put stream shown ends_line) = Talking at ∷ (optional_acts stream ++ shown_acts shown)
plain_acts at (Get stream taken) = Talking at ∷ (optional_acts stream ++ taken_acts taken)
plain_acts at (OpenStream s path e is_put) = Talking at ∷ (path_acts Changing path ++ text_acts e)
plain_acts at (Close e) = Talking at ∷ scalar_acts e
plain_acts at (Do call) = call_acts call
plain_acts at (Quit number) = optional_acts number

abbrev pub constant_acts : At → Named → List Act
constant_acts at x = start_acts x.start ++ Defining at x ∷ []

abbrev pub constants_acts : At → List Named → List Act
constants_acts at [] = []
constants_acts at (x ∷ more) = constant_acts at x ++ constants_acts at more

abbrev pub declaration_acts : At → Declaration → List Act
declaration_acts at (Constant x) = constant_acts at x
declaration_acts at (InitClause xs) = constants_acts at xs
declaration_acts at (Variables xs shape) = map (Declaring at) xs
declaration_acts at (Started xs shape start) = map (Declaring at) xs ++ start_acts start
declaration_acts at (Arrays xs indexes component bounds) = map (Declaring at) xs ++ scalars_acts bounds
declaration_acts at (Collections cs) = []
declaration_acts at (Mention c) = Naming at (ACollection c) ∷ []

abbrev pub range_acts : Range → List Act
range_acts (FromTo first last) = scalar_acts first ++ scalar_acts last
range_acts (Through s) = []

abbrev pub test_acts : Option Test → List Act
test_acts None = []
test_acts (Some t) = scalar_acts t.condition

-- a call of a module's invariant at a line
abbrev pub invariant_acts : At → Option ℕ → List Act
invariant_acts at None = []
invariant_acts at (Some n) = Calling (Calls at n None NoActual) ∷ []

-- acts in which these may not be changed
abbrev pub with_fixed : List Variable → List ℕ → List Act → List Act
with_fixed variables collections acts = Fixing (map AVariable variables ++ map ACollection collections) (length acts) ∷ acts

abbrev mutual
  pub statement_acts : Statement → List Act
  statement_acts (Simply at s) = plain_acts at s
  statement_acts (If at e block otherwise) = scalar_acts e ++ (block_acts block ++ otherwise_acts otherwise)
  statement_acts (Loop at invariant block) = test_acts invariant ++ block_acts block
  statement_acts (For at x decreasing range invariant block) = Declaring at (Local x) ∷ (range_acts range ++ (test_acts invariant ++ block_acts block))
  statement_acts (Case at e arms) = scalar_acts e ++ arms_acts arms
  statement_acts (Begin at block) = block_acts block
  statement_acts (Module at fixed collections invariant line block) = with_fixed fixed collections (block_acts block) ++ invariant_acts (record { start = at.start; line = line }) invariant

  pub block_acts : Block → List Act
  block_acts Empty = []
  block_acts (Then s more) = statement_acts s ++ block_acts more
  block_acts (Declare at d more) = declaration_acts at d ++ block_acts more
  block_acts (Bind at x is_var path more) = path_acts (lending is_var) path ++ Binding at x is_var path (length (block_acts more)) ∷ block_acts more

  pub otherwise_acts : Otherwise → List Act
  otherwise_acts (Else block) = block_acts block
  otherwise_acts (Elsif at e block more) = scalar_acts e ++ (block_acts block ++ otherwise_acts more)

  pub arms_acts : Arms → List Act
  arms_acts NoArm = []
  arms_acts (Default block) = block_acts block
  arms_acts (Labelled labels block more) = block_acts block ++ arms_acts more

abbrev pub handler_acts : Handler → List Act
handler_acts NoHandler = []
handler_acts (Handles at name block) = Declaring at (Local name) ∷ block_acts block

-- A handler belongs to the text of its subprogram, and the bodies of modules to that of the program. An invariant is a text of its own.
abbrev pub routine_acts : Routine → List Act
routine_acts r = with_fixed r.fixed r.fixed_collections (block_acts r.before ++ (block_acts r.after ++ (handler_acts r.handler ++ block_acts r.body)))

abbrev pub main_acts : Program → List Act
main_acts p = block_acts p.main
