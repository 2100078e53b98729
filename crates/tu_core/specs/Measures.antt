-- Sums over a text of the core: what each of its forms adds by itself, and all together.
use Rattle.std.specs.Prelude.{Bool, List, [], ◌∷◌, Option, Some, None}
use Rattle.tu_core.specs.declared.names.At.{At}
use Rattle.tu_core.specs.Core.{Scalar, Literal, Use, Prefixed, Chain, CompareTexts, CompareSets, ComparePointers, Member, Length, PlaceIn, ByteOf, TextInt, Bound, AtEnd, CallScalar, Links, NoLink, Link, Decide, Text, Written, UseText, Joined, Cut, Character, IntText, Repeat, CallText, Texts, NoText, AndText, Cuts, NoCut, CutCharacter, CutPart, Spot, Exactly, Last, BeforeLast, Set, SetOf, FullSet, UseSet, Combined, CallSet, Combinations, NoSet, AndSet, Pointer, Nil, UsePointer, CallPointer, Scalars, NoScalar, AndScalar, Optional, Absent, Present, Path, Name, OpenItem, Element, ResultOf, Selectors, End, Field, VariantField, Item, Subscripts, NoSubscript, Subscript, Call, Calls, Actuals, NoActual, Given, Lent, Simple, AScalar, AText, ASet, APointer, Start, WithValue, WithCopy, WithParts, Starts, NoStart, AndStart, Range, FromTo, Through, Shown, NoneShown, ShowInt, ShowTruth, ShowText, Taken, NoneTaken, TakeInt, TakeTruth, TakeToken, TakeLine, TakeCount, Test, Plain, Assign, Copy, Exit, Return, Give, GiveCopy, Check, New, Free, Tag, Put, Get, OpenStream, Close, Do, Quit, Named, Declaration, Constant, InitClause, Variables, Started, Arrays, Collections, Mention, Statement, Simply, If, Loop, For, Case, Begin, Module, Block, Empty, Then, Declare, Bind, Otherwise, Else, Elsif, Arms, NoArm, Default, Labelled}

-- What a form adds by itself, without its parts: of a row only what its first one adds. A sum may be one of numbers, or a list.
pub record Measure (A : Type 0) : Type 0 where
  pub none : A
  pub plus : A → A → A
  pub scalar : Scalar → A
  pub link : A
  pub text : Text → A
  pub set : Set → A
  pub pointer : Pointer → A
  pub spot : Spot → A
  pub path : Path → A
  pub selector : A
  pub actual : Actuals → A
  pub call : Call → A
  pub parts : A
  pub taken : Taken → A
  pub test : A
  pub plain : Plain → A
  pub declaration : Declaration → A
  pub statement : Statement → A
  pub binding : At → (is_var : Bool) → Path → A
  pub arm : A

-- where no form adds anything
abbrev pub nothing : {A : Type 0} → A → (A → A → A) → Measure A
nothing none plus = record { none = none; plus = plus; scalar = λ e. none; link = none; text = λ e. none; set = λ e. none; pointer = λ e. none; spot = λ e. none; path = λ p. none; selector = none; actual = λ a. none; call = λ c. none; parts = none; taken = λ t. none; test = none; plain = λ s. none; declaration = λ d. none; statement = λ s. none; binding = λ at is_var p. none; arm = none }

module _ {A : Type 0} (m : Measure A) where
  infixr 20 ◌⊕◌
  abbrev ◌⊕◌ : A → A → A
  x ⊕ y = m.plus x y

  abbrev mutual
    pub of_scalar : Scalar → A
    of_scalar (Literal n z) = m.scalar (Literal n z)
    of_scalar (Use n p) = m.scalar (Use n p) ⊕ of_path p
    of_scalar (Prefixed n operators e) = m.scalar (Prefixed n operators e) ⊕ of_scalar e
    of_scalar (Chain n e links) = m.scalar (Chain n e links) ⊕ (of_scalar e ⊕ of_links links)
    of_scalar (CompareTexts n relation a b) = m.scalar (CompareTexts n relation a b) ⊕ (of_text a ⊕ of_text b)
    of_scalar (CompareSets n relation base a b) = m.scalar (CompareSets n relation base a b) ⊕ (of_set a ⊕ of_set b)
    of_scalar (ComparePointers n is_equal a b) = m.scalar (ComparePointers n is_equal a b) ⊕ (of_pointer a ⊕ of_pointer b)
    of_scalar (Member n is_wanted base e s) = m.scalar (Member n is_wanted base e s) ⊕ (of_scalar e ⊕ of_set s)
    of_scalar (Length n e) = m.scalar (Length n e) ⊕ of_text e
    of_scalar (PlaceIn n a b) = m.scalar (PlaceIn n a b) ⊕ (of_text a ⊕ of_text b)
    of_scalar (ByteOf n e) = m.scalar (ByteOf n e) ⊕ of_text e
    of_scalar (TextInt n e) = m.scalar (TextInt n e) ⊕ of_text e
    of_scalar (Bound n is_upper indexes p dimension) = m.scalar (Bound n is_upper indexes p dimension) ⊕ (of_path p ⊕ of_optional dimension)
    of_scalar (AtEnd n at stream) = m.scalar (AtEnd n at stream) ⊕ of_optional stream
    of_scalar (CallScalar n call) = m.scalar (CallScalar n call) ⊕ of_call call

    pub of_links : Links → A
    of_links NoLink = m.none
    of_links (Link operator e more) = m.link ⊕ (of_scalar e ⊕ of_links more)
    of_links (Decide operator e more) = m.link ⊕ (of_scalar e ⊕ of_links more)

    pub of_text : Text → A
    of_text (Written n bytes) = m.text (Written n bytes)
    of_text (UseText n p) = m.text (UseText n p) ⊕ of_path p
    of_text (Joined n e more) = m.text (Joined n e more) ⊕ (of_text e ⊕ of_texts more)
    of_text (Cut n e cuts) = m.text (Cut n e cuts) ⊕ (of_text e ⊕ of_cuts cuts)
    of_text (Character n e) = m.text (Character n e) ⊕ of_scalar e
    of_text (IntText n e width) = m.text (IntText n e width) ⊕ (of_scalar e ⊕ of_optional width)
    of_text (Repeat n e k) = m.text (Repeat n e k) ⊕ (of_text e ⊕ of_scalar k)
    of_text (CallText n call) = m.text (CallText n call) ⊕ of_call call

    pub of_texts : Texts → A
    of_texts NoText = m.none
    of_texts (AndText e more) = m.link ⊕ (of_text e ⊕ of_texts more)

    pub of_cuts : Cuts → A
    of_cuts NoCut = m.none
    of_cuts (CutCharacter i more) = m.selector ⊕ (of_spot i ⊕ of_cuts more)
    of_cuts (CutPart i j more) = m.selector ⊕ (of_spot i ⊕ of_spot j ⊕ of_cuts more)

    pub of_spot : Spot → A
    of_spot (Exactly e) = m.spot (Exactly e) ⊕ of_scalar e
    of_spot Last = m.spot Last
    of_spot (BeforeLast e) = m.spot (BeforeLast e) ⊕ of_scalar e

    pub of_set : Set → A
    of_set (SetOf n base es) = m.set (SetOf n base es) ⊕ of_scalars es
    of_set (FullSet n base) = m.set (FullSet n base)
    of_set (UseSet n p) = m.set (UseSet n p) ⊕ of_path p
    of_set (Combined n base e more) = m.set (Combined n base e more) ⊕ (of_set e ⊕ of_combinations more)
    of_set (CallSet n call) = m.set (CallSet n call) ⊕ of_call call

    pub of_combinations : Combinations → A
    of_combinations NoSet = m.none
    of_combinations (AndSet operator e more) = m.link ⊕ (of_set e ⊕ of_combinations more)

    pub of_pointer : Pointer → A
    of_pointer (Nil n at c) = m.pointer (Nil n at c)
    of_pointer (UsePointer n p) = m.pointer (UsePointer n p) ⊕ of_path p
    of_pointer (CallPointer n call) = m.pointer (CallPointer n call) ⊕ of_call call

    pub of_scalars : Scalars → A
    of_scalars NoScalar = m.none
    of_scalars (AndScalar e more) = of_scalar e ⊕ of_scalars more

    pub of_optional : Optional → A
    of_optional Absent = m.none
    of_optional (Present e) = of_scalar e

    pub of_path : Path → A
    of_path (Name at x steps) = m.path (Name at x steps) ⊕ of_selectors steps
    of_path (OpenItem at x indexes es steps) = m.path (OpenItem at x indexes es steps) ⊕ (m.selector ⊕ of_subscripts es ⊕ of_selectors steps)
    of_path (Element at c e steps) = m.path (Element at c e steps) ⊕ (of_pointer e ⊕ of_selectors steps)
    of_path (ResultOf at k call steps) = m.path (ResultOf at k call steps) ⊕ (of_call call ⊕ of_selectors steps)

    pub of_selectors : Selectors → A
    of_selectors End = m.none
    of_selectors (Field shape k more) = m.selector ⊕ of_selectors more
    of_selectors (VariantField shape k more) = m.selector ⊕ of_selectors more
    of_selectors (Item shape es more) = m.selector ⊕ (of_subscripts es ⊕ of_selectors more)

    pub of_subscripts : Subscripts → A
    of_subscripts NoSubscript = m.none
    of_subscripts (Subscript constant e more) = of_scalar e ⊕ of_subscripts more

    pub of_call : Call → A
    of_call (Calls at callee invariant actuals) = m.call (Calls at callee invariant actuals) ⊕ of_actuals actuals

    pub of_actuals : Actuals → A
    of_actuals NoActual = m.none
    of_actuals (Given at size e more) = m.actual (Given at size e more) ⊕ (of_simple e ⊕ of_actuals more)
    of_actuals (Lent at is_var bounds p more) = m.actual (Lent at is_var bounds p more) ⊕ (of_path p ⊕ of_actuals more)

    pub of_simple : Simple → A
    of_simple (AScalar e) = of_scalar e
    of_simple (AText e) = of_text e
    of_simple (ASet e) = of_set e
    of_simple (APointer e) = of_pointer e

  abbrev mutual
    pub of_start : Start → A
    of_start (WithValue target e) = of_simple e
    of_start (WithCopy shape p) = of_path p
    of_start (WithParts shape starts) = m.parts ⊕ of_starts starts

    pub of_starts : Starts → A
    of_starts NoStart = m.none
    of_starts (AndStart s more) = of_start s ⊕ of_starts more

  abbrev pub of_range : Range → A
  of_range (FromTo first last) = of_scalar first ⊕ of_scalar last
  of_range (Through s) = m.none

  abbrev pub of_shown : Shown → A
  of_shown NoneShown = m.none
  of_shown (ShowInt e width more) = of_scalar e ⊕ of_optional width ⊕ of_shown more
  of_shown (ShowTruth e width more) = of_scalar e ⊕ of_optional width ⊕ of_shown more
  of_shown (ShowText e width more) = of_text e ⊕ of_optional width ⊕ of_shown more

  abbrev pub of_taken : Taken → A
  of_taken NoneTaken = m.none
  of_taken (TakeInt s p more) = m.taken (TakeInt s p more) ⊕ (of_path p ⊕ of_taken more)
  of_taken (TakeTruth p more) = m.taken (TakeTruth p more) ⊕ (of_path p ⊕ of_taken more)
  of_taken (TakeToken size p more) = m.taken (TakeToken size p more) ⊕ (of_path p ⊕ of_taken more)
  of_taken (TakeLine size p more) = m.taken (TakeLine size p more) ⊕ (of_path p ⊕ of_taken more)
  of_taken (TakeCount size p e more) = m.taken (TakeCount size p e more) ⊕ (of_path p ⊕ of_scalar e ⊕ of_taken more)

  abbrev pub of_test : Option Test → A
  of_test None = m.none
  of_test (Some test) = m.test ⊕ of_scalar test.condition

  abbrev pub of_plain : Plain → A
  of_plain (Assign target p e) = m.plain (Assign target p e) ⊕ (of_path p ⊕ of_simple e)
  of_plain (Copy shape to from) = m.plain (Copy shape to from) ⊕ (of_path to ⊕ of_path from)
  of_plain (Exit condition) = m.plain (Exit condition) ⊕ of_optional condition
  of_plain Return = m.plain Return
  of_plain (Give target e) = m.plain (Give target e) ⊕ of_simple e
  of_plain (GiveCopy shape p) = m.plain (GiveCopy shape p) ⊕ of_path p
  of_plain (Check claim e) = m.plain (Check claim e) ⊕ of_scalar e
  of_plain (New c at p) = m.plain (New c at p) ⊕ of_path p
  of_plain (Free c at p) = m.plain (Free c at p) ⊕ of_path p
  of_plain (Tag shape p e) = m.plain (Tag shape p e) ⊕ (of_path p ⊕ of_scalar e)
  of_plain (Put stream shown ends_line) = m.plain (Put stream shown ends_line) ⊕ (of_optional stream ⊕ of_shown shown)
  of_plain (Get stream taken) = m.plain (Get stream taken) ⊕ (of_optional stream ⊕ of_taken taken)
  of_plain (OpenStream s p e is_put) = m.plain (OpenStream s p e is_put) ⊕ (of_path p ⊕ of_text e)
  of_plain (Close e) = m.plain (Close e) ⊕ of_scalar e
  of_plain (Do call) = m.plain (Do call) ⊕ of_call call
  of_plain (Quit number) = m.plain (Quit number) ⊕ of_optional number

  abbrev pub of_named : List Named → A
  of_named [] = m.none
  of_named (x ∷ more) = of_start x.start ⊕ of_named more

  abbrev pub of_declaration : Declaration → A
  of_declaration (Constant x) = m.declaration (Constant x) ⊕ of_start x.start
  of_declaration (InitClause xs) = m.declaration (InitClause xs) ⊕ of_named xs
  of_declaration (Variables xs shape) = m.declaration (Variables xs shape)
  of_declaration (Started xs shape start) = m.declaration (Started xs shape start) ⊕ of_start start
  of_declaration (Arrays xs indexes component bounds) = m.declaration (Arrays xs indexes component bounds) ⊕ of_scalars bounds
  of_declaration (Collections cs) = m.declaration (Collections cs)
  of_declaration (Mention c) = m.declaration (Mention c)

  abbrev mutual
    pub of_statement : Statement → A
    of_statement (Simply at s) = m.statement (Simply at s) ⊕ of_plain s
    of_statement (If at e block otherwise) = m.statement (If at e block otherwise) ⊕ (of_scalar e ⊕ of_block block ⊕ of_otherwise otherwise)
    of_statement (Loop at invariant block) = m.statement (Loop at invariant block) ⊕ (of_test invariant ⊕ of_block block)
    of_statement (For at x decreasing range invariant block) = m.statement (For at x decreasing range invariant block) ⊕ (of_range range ⊕ of_test invariant ⊕ of_block block)
    of_statement (Case at e arms) = m.statement (Case at e arms) ⊕ (of_scalar e ⊕ of_arms arms)
    of_statement (Begin at block) = m.statement (Begin at block) ⊕ of_block block
    of_statement (Module at fixed collections invariant line block) = m.statement (Module at fixed collections invariant line block) ⊕ of_block block

    pub of_block : Block → A
    of_block Empty = m.none
    of_block (Then s more) = of_statement s ⊕ of_block more
    of_block (Declare at d more) = of_declaration d ⊕ of_block more
    of_block (Bind at x is_var p more) = m.binding at is_var p ⊕ (of_path p ⊕ of_block more)

    pub of_otherwise : Otherwise → A
    of_otherwise (Else block) = of_block block
    of_otherwise (Elsif at e block more) = m.arm ⊕ (of_scalar e ⊕ of_block block ⊕ of_otherwise more)

    pub of_arms : Arms → A
    of_arms NoArm = m.none
    of_arms (Default block) = m.arm ⊕ of_block block
    of_arms (Labelled labels block more) = m.arm ⊕ (of_block block ⊕ of_arms more)
