-- Each act of a well formed core is good: its calls have actuals as their callees take them, and its binds name names of a bind.
use Rattle.std.proofs.Common.{◌≡◌, ℕ, zero, suc, Bool, true, false, ◌&&◌, List, [], ◌∷◌, ◌++◌, length, map, Option, Some, None, refl, sym, ◌∙◌, subst, arith}
use Rattle.std.specs.Prelude.{slice_get}
use Rattle.std.specs.List.{Contains, list_all}
use Rattle.tu_core.specs.Core.{Scalar, Literal, Use, Prefixed, Chain, CompareTexts, CompareSets, ComparePointers, Member, Length, PlaceIn, ByteOf, TextInt, Bound, AtEnd, CallScalar, Links, NoLink, Link, Decide, Text, Written, UseText, Joined, Cut, Character, IntText, Repeat, CallText, Texts, NoText, AndText, Cuts, NoCut, CutCharacter, CutPart, Spot, Exactly, Last, BeforeLast, Set, SetOf, FullSet, UseSet, Combined, CallSet, Combinations, NoSet, AndSet, Pointer, Nil, UsePointer, CallPointer, Scalars, NoScalar, AndScalar, Optional, Absent, Present, Path, Name, OpenItem, Element, ResultOf, Selectors, End, Field, VariantField, Item, Subscripts, NoSubscript, Subscript, Call, Calls, Actuals, NoActual, Given, Lent, Simple, AScalar, AText, ASet, APointer, Start, WithValue, WithCopy, WithParts, Starts, NoStart, AndStart, Range, FromTo, Through, Shown, NoneShown, ShowInt, ShowTruth, ShowText, Taken, NoneTaken, TakeInt, TakeTruth, TakeToken, TakeLine, TakeCount, Test, Plain, Assign, Copy, Exit, Return, Give, GiveCopy, Check, New, Free, Tag, Put, Get, OpenStream, Close, Do, Quit, Named, Declaration, Constant, InitClause, Variables, Started, Arrays, Collections, Mention, Statement, Simply, If, Loop, For, Case, Begin, Module, Block, Empty, Then, Declare, Bind, Otherwise, Else, Elsif, Arms, NoArm, Default, Labelled, Handler, NoHandler, Handles, Routine, Program}
use Rattle.tu_core.specs.declared.names.At.{At}
use Rattle.tu_core.specs.declared.names.Variable.{Variable}
use Rattle.tu_core.specs.declared.targets.Index.{Index}
use Rattle.tu_core.specs.declared.targets.Index.TheVariants.{Known, Open}
use Rattle.tu_core.specs.declared.names.CallResult.{CallResult}
use Rattle.tu_core.specs.declared.names.CallResult.TheVariants.{Nothing}
use Rattle.tu_core.specs.declared.names.LocalName.{LocalName}
use Rattle.tu_core.specs.declared.names.LocalName.TheVariants.{Declared, DeclaredArray, BoundName, BoundText, BoundArray, Counter, Caught, ResultName}
use Rattle.tu_core.specs.declared.targets.Target.{Target}
use Rattle.tu_core.specs.declared.targets.Target.TheVariants.{TakesScalar, TakesText, TakesSet, TakesPointer}
use Rattle.tu_base.specs.Sets.{Base}
use Rattle.tu_core.specs.declared.names.Formal.{Formal}
use Rattle.tu_core.specs.declared.names.Formal.TheVariants.{ByValue, ByCopy, ByVar}
use Rattle.tu_core.specs.Targets.{is_scalar, is_text, is_set_of, is_pointer_to}
use Rattle.tu_core.specs.Places.{gives_nothing, Names, names_of, body_names, Stands, NoPlace, Shaped, Takes, OpenArray, has_some, is_place, has_shape, shape_at, local_name, stands_at, open_item, element_of, call_stands, field_at, variant_field_at, item_at, count_subscripts, path_stands}
use Rattle.tu_core.specs.WellFormed.{gives_place, has_no_formal, can_keep, part_at, good_invariant, good_scalar, good_links, good_optional, good_text, good_texts, good_cuts, good_spot, good_set, good_combinations, good_scalars, good_pointer, good_subscripts, good_path, good_selectors, good_call, good_actuals, good_start, good_starts, good_start_at, good_constant, good_bounds, good_declaration, good_shown, good_taken, good_plain, good_range, good_test, good_statement, good_block, good_otherwise, good_arms, good_handler, good_blocks, gives_value, good_value, collection_of, is_bound_name}
use Rattle.tu_core.specs.Acts.{Subject, AVariable, ACollection, subject_of, Act, Reading, Changing, Naming, Talking, Calling, Binding, Declaring, Defining, Fixing, lending, scalar_acts, links_acts, optional_acts, text_acts, texts_acts, cuts_acts, spot_acts, set_acts, combinations_acts, scalars_acts, pointer_acts, simple_acts, path_acts, selectors_acts, subscripts_acts, call_acts, actuals_acts, start_acts, starts_acts, shown_acts, taken_acts, also_read, plain_acts, constant_acts, constants_acts, declaration_acts, range_acts, test_acts, invariant_acts, statement_acts, block_acts, otherwise_acts, arms_acts, handler_acts, routine_acts}
use Rattle.tu_core.specs.Typed.{is_own}
use Rattle.tu_core.specs.Constants.{is_declared}
use Rattle.tu_core.proofs.Tests.{no_so, left, right}
use Rattle.tu_alias_texts.proofs.Fitting.{ModesFit, IsGood}
use Rattle.tu_base.specs.declared.shape.Shape.{Shape}

some_good : {A P : Type 0} (test : A → Bool) (o : Option A) → ((a : A) → test a ≡ true → P) → has_some test o ≡ true → P
some_good test None each e = no_so e
some_good test (Some a) each e = each a e

-- an invariant has no formals
keep_modes : (modes : List Formal) → has_no_formal modes ≡ true → ModesFit modes NoActual
keep_modes [] e = tt
keep_modes (f ∷ more) e = no_so e

module _ (names : Names) where
  abbrev pub AllGood : List Act → Type 0
  AllGood [] = Unit {0}
  AllGood (act ∷ acts) = IsGood names act × AllGood acts

  app : (xs ys : List Act) → AllGood xs → AllGood ys → AllGood (xs ++ ys)
  app [] ys h g = g
  app (x ∷ xs) ys h g = (h.0, app xs ys h.1 g)

  lends : (b : Bool) (at : At) (x : Subject) → IsGood names (lending b at x)
  lends true at x = tt
  lends false at x = tt

  keeps_good : (m : ℕ) (q : Routine) → has_some can_keep (slice_get names.program.routines m) ≡ true → slice_get names.program.routines m ≡ Some q → ModesFit q.formals NoActual
  keeps_good m q g e = let h : has_some can_keep (Some q) ≡ true = subst (λ o. has_some can_keep o ≡ true) e g in keep_modes q.formals (left _ _ h)

  invariant_good : (invariant : Option ℕ) → good_invariant names invariant ≡ true → (m : ℕ) (q : Routine) → invariant ≡ Some m → slice_get names.program.routines m ≡ Some q → ModesFit q.formals NoActual
  invariant_good None g m q e f = absurd (let h : None ≡ Some m = e in cc)
  invariant_good (Some j) g m q e f = let same : j ≡ m = (let h : Some j ≡ Some m = e in cc) in keeps_good j q g (subst (λ z. slice_get names.program.routines z ≡ Some q) (sym same) f)

  call_good : (used : CallResult → Bool) (at : At) (callee : ℕ) (invariant : Option ℕ) (actuals : Actuals) → ((modes : List Formal) → good_actuals names modes actuals ≡ true → ModesFit modes actuals × AllGood (actuals_acts actuals)) → good_call names used (Calls at callee invariant actuals) ≡ true → AllGood (call_acts (Calls at callee invariant actuals))
  call_good used at callee invariant actuals fits g = by (slice_get names.program.routines callee) refl (right _ _ g)
    where
      by : (o : Option Routine) → slice_get names.program.routines callee ≡ o → has_some (λ r. used r.gives && good_actuals names r.formals actuals) o ≡ true → AllGood (call_acts (Calls at callee invariant actuals))
      by None e h = no_so h
      by (Some r) e h =
          let f = fits r.formals (right (used r.gives) (good_actuals names r.formals actuals) h) in
          app (actuals_acts actuals) (Calling (Calls at callee invariant actuals) ∷ []) f.1
          (((λ q e'. subst (λ z. ModesFit z.formals actuals) (let same : Some r ≡ Some q = sym e ∙ e' in let s : r ≡ q = cc in s) f.0), invariant_good invariant (left (good_invariant names invariant) (has_some (λ r. used r.gives && good_actuals names r.formals actuals) (slice_get names.program.routines callee)) g)), tt)

  mutual
    of_scalar : (e : Scalar) → good_scalar names e ≡ true → AllGood (scalar_acts e)
    of_scalar (Literal n z) g = tt
    of_scalar (Use n path) g = of_path Reading (λ at x. tt) path (left _ _ g)
    of_scalar (Prefixed n operators e) g = of_scalar e g
    of_scalar (Chain n e links) g = app (scalar_acts e) (links_acts links) (of_scalar e (left _ _ g)) (of_links links (right _ _ g))
    of_scalar (CompareTexts n relation a b) g = app (text_acts a) (text_acts b) (of_text a (left _ _ g)) (of_text b (right _ _ g))
    of_scalar (CompareSets n relation base a b) g = app (set_acts a) (set_acts b) (of_set base a (left _ _ g)) (of_set base b (right _ _ g))
    of_scalar (ComparePointers n is_equal a b) g = some_good (λ c. good_pointer names c a && good_pointer names c b) (collection_of names a) (λ c h. app (pointer_acts a) (pointer_acts b) (of_pointer c a (left _ _ h)) (of_pointer c b (right _ _ h))) g
    of_scalar (Member n is_wanted base e s) g = app (scalar_acts e) (set_acts s) (of_scalar e (left _ _ g)) (of_set base s (right _ _ g))
    of_scalar (Length n e) g = of_text e g
    of_scalar (PlaceIn n a b) g = app (text_acts a) (text_acts b) (of_text a (left _ _ g)) (of_text b (right _ _ g))
    of_scalar (ByteOf n e) g = of_text e g
    of_scalar (TextInt n e) g = of_text e g
    of_scalar (Bound n is_upper indexes path dimension) g = app (path_acts Reading path) (optional_acts dimension) (of_path Reading (λ at x. tt) path (left _ _ g)) (of_optional dimension (right _ _ (right _ _ g)))
    of_scalar (AtEnd n at stream) g = (tt, of_optional stream g)
    of_scalar (CallScalar n call) g = of_call (gives_value is_scalar) call g

    of_links : (e : Links) → good_links names e ≡ true → AllGood (links_acts e)
    of_links NoLink g = tt
    of_links (Link operator e more) g = app (scalar_acts e) (links_acts more) (of_scalar e (left _ _ g)) (of_links more (right _ _ g))
    of_links (Decide operator e more) g = app (scalar_acts e) (links_acts more) (of_scalar e (left _ _ g)) (of_links more (right _ _ g))

    of_optional : (e : Optional) → good_optional names e ≡ true → AllGood (optional_acts e)
    of_optional Absent g = tt
    of_optional (Present e) g = of_scalar e g

    of_text : (e : Text) → good_text names e ≡ true → AllGood (text_acts e)
    of_text (Written n bytes) g = tt
    of_text (UseText n path) g = of_path Reading (λ at x. tt) path (left _ _ g)
    of_text (Joined n e more) g = app (text_acts e) (texts_acts more) (of_text e (left _ _ g)) (of_texts more (right _ _ g))
    of_text (Cut n e cuts) g = app (text_acts e) (cuts_acts cuts) (of_text e (left _ _ g)) (of_cuts cuts (right _ _ g))
    of_text (Character n e) g = of_scalar e g
    of_text (IntText n e width) g = app (scalar_acts e) (optional_acts width) (of_scalar e (left _ _ g)) (of_optional width (right _ _ g))
    of_text (Repeat n e k) g = app (text_acts e) (scalar_acts k) (of_text e (left _ _ g)) (of_scalar k (right _ _ g))
    of_text (CallText n call) g = of_call (gives_value is_text) call g

    of_texts : (e : Texts) → good_texts names e ≡ true → AllGood (texts_acts e)
    of_texts NoText g = tt
    of_texts (AndText e more) g = app (text_acts e) (texts_acts more) (of_text e (left _ _ g)) (of_texts more (right _ _ g))

    of_cuts : (e : Cuts) → good_cuts names e ≡ true → AllGood (cuts_acts e)
    of_cuts NoCut g = tt
    of_cuts (CutCharacter i more) g = app (spot_acts i) (cuts_acts more) (of_spot i (left _ _ g)) (of_cuts more (right _ _ g))
    of_cuts (CutPart i j more) g = app (spot_acts i) (spot_acts j ++ cuts_acts more) (of_spot i (left _ _ g)) (app (spot_acts j) (cuts_acts more) (of_spot j (left _ _ (right _ _ g))) (of_cuts more (right _ _ (right _ _ g))))

    of_spot : (e : Spot) → good_spot names e ≡ true → AllGood (spot_acts e)
    of_spot (Exactly e) g = of_scalar e g
    of_spot Last g = tt
    of_spot (BeforeLast e) g = of_scalar e g

    of_set : (base : Base) (e : Set) → good_set names base e ≡ true → AllGood (set_acts e)
    of_set base (SetOf n other es) g = of_scalars es (right _ _ g)
    of_set base (FullSet n other) g = tt
    of_set base (UseSet n path) g = of_path Reading (λ at x. tt) path (left _ _ g)
    of_set base (Combined n other e more) g = app (set_acts e) (combinations_acts more) (of_set base e (left _ _ (right _ _ g))) (of_combinations base more (right _ _ (right _ _ g)))
    of_set base (CallSet n call) g = of_call (gives_value (is_set_of base)) call g

    of_combinations : (base : Base) (e : Combinations) → good_combinations names base e ≡ true → AllGood (combinations_acts e)
    of_combinations base NoSet g = tt
    of_combinations base (AndSet operator e more) g = app (set_acts e) (combinations_acts more) (of_set base e (left _ _ g)) (of_combinations base more (right _ _ g))

    of_scalars : (e : Scalars) → good_scalars names e ≡ true → AllGood (scalars_acts e)
    of_scalars NoScalar g = tt
    of_scalars (AndScalar e more) g = app (scalar_acts e) (scalars_acts more) (of_scalar e (left _ _ g)) (of_scalars more (right _ _ g))

    of_pointer : (c : ℕ) (e : Pointer) → good_pointer names c e ≡ true → AllGood (pointer_acts e)
    of_pointer c (Nil n at other) g = (tt, tt)
    of_pointer c (UsePointer n path) g = of_path Reading (λ at x. tt) path (left _ _ g)
    of_pointer c (CallPointer n call) g = of_call (gives_value (is_pointer_to c)) call g

    of_value : (target : Target) (e : Simple) → good_value names target e ≡ true → AllGood (simple_acts e)
    of_value (TakesScalar s) (AScalar e) g = of_scalar e g
    of_value (TakesScalar s) (AText e) g = no_so g
    of_value (TakesScalar s) (ASet e) g = no_so g
    of_value (TakesScalar s) (APointer e) g = no_so g
    of_value (TakesText size) (AScalar e) g = no_so g
    of_value (TakesText size) (AText e) g = of_text e g
    of_value (TakesText size) (ASet e) g = no_so g
    of_value (TakesText size) (APointer e) g = no_so g
    of_value (TakesSet base) (AScalar e) g = no_so g
    of_value (TakesSet base) (AText e) g = no_so g
    of_value (TakesSet base) (ASet e) g = of_set base e g
    of_value (TakesSet base) (APointer e) g = no_so g
    of_value (TakesPointer c) (AScalar e) g = no_so g
    of_value (TakesPointer c) (AText e) g = no_so g
    of_value (TakesPointer c) (ASet e) g = no_so g
    of_value (TakesPointer c) (APointer e) g = of_pointer c e g

    of_subscripts : (e : Subscripts) → good_subscripts names e ≡ true → AllGood (subscripts_acts e)
    of_subscripts NoSubscript g = tt
    of_subscripts (Subscript constant e more) g = app (scalar_acts e) (subscripts_acts more) (of_scalar e (left _ _ g)) (of_subscripts more (right _ _ g))

    of_path : (does : At → Subject → Act) → ((at : At) (x : Subject) → IsGood names (does at x)) → (path : Path) → good_path names path ≡ true → AllGood (path_acts does path)
    of_path does h (Name at x steps) g = (h at (AVariable x), of_selectors (stands_at names x) steps (right _ _ g))
    of_path does h (OpenItem at x indexes es steps) g = (h at (AVariable x), app (subscripts_acts es) (selectors_acts steps) (of_subscripts es (left _ _ (left _ _ g))) (of_selectors (open_item indexes (stands_at names x)) steps (right _ _ (left _ _ g))))
    of_path does h (Element at c e steps) g = (h at (ACollection c), app (pointer_acts e) (selectors_acts steps) (of_pointer c e (left _ _ g)) (of_selectors (element_of names c) steps (right _ _ (right _ _ g))))
    of_path does h (ResultOf at k call steps) g = app (call_acts call) (selectors_acts steps) (of_call gives_place call (left _ _ g)) (of_selectors (call_stands names call) steps (right _ _ g))

    of_selectors : (s : Stands) (steps : Selectors) → good_selectors names s steps ≡ true → AllGood (selectors_acts steps)
    of_selectors s End g = tt
    of_selectors s (Field n k more) g = of_selectors (field_at (shape_at names n) k) more (right _ _ (right _ _ g))
    of_selectors s (VariantField n k more) g = of_selectors (variant_field_at (shape_at names n) k) more (right _ _ (right _ _ g))
    of_selectors s (Item n es more) g = app (subscripts_acts es) (selectors_acts more) (of_subscripts es (left _ _ g)) (of_selectors (item_at (shape_at names n) (count_subscripts es)) more (right _ _ (right _ _ (right (good_subscripts names es) (has_shape n s && (is_place (item_at (shape_at names n) (count_subscripts es)) && good_selectors names (item_at (shape_at names n) (count_subscripts es)) more)) g))))

    of_call : (used : CallResult → Bool) (call : Call) → good_call names used call ≡ true → AllGood (call_acts call)
    of_call used (Calls at callee invariant actuals) g = call_good used at callee invariant actuals (λ modes h. of_actuals modes actuals h) g

    of_actuals : (modes : List Formal) (actuals : Actuals) → good_actuals names modes actuals ≡ true → ModesFit modes actuals × AllGood (actuals_acts actuals)
    of_actuals [] NoActual g = (tt, tt)
    of_actuals [] (Given at size e more) g = no_so g
    of_actuals [] (Lent at is_var bounds path more) g = no_so g
    of_actuals (ByValue target ∷ modes) NoActual g = no_so g
    of_actuals (ByCopy kind ∷ modes) NoActual g = no_so g
    of_actuals (ByVar var kind ∷ modes) NoActual g = no_so g
    of_actuals (ByValue target ∷ modes) (Given at size e more) g = let m = of_actuals modes more (right _ _ (right _ _ g)) in (m.0, app (simple_acts e) (actuals_acts more) (of_value target e (left _ _ g)) m.1)
    of_actuals (ByCopy kind ∷ modes) (Given at size e more) g = no_so g
    of_actuals (ByVar var kind ∷ modes) (Given at size e more) g = no_so g
    of_actuals (ByValue target ∷ modes) (Lent at true bounds path more) g = no_so g
    of_actuals (ByValue target ∷ modes) (Lent at false bounds path more) g = no_so g
    of_actuals (ByCopy kind ∷ modes) (Lent at true bounds path more) g = no_so g
    of_actuals (ByCopy kind ∷ modes) (Lent at false bounds path more) g = let m = of_actuals modes more (right _ _ (right _ _ g)) in (m.0, app (path_acts (lending false) path) (actuals_acts more) (of_path (lending false) (lends false) path (left _ _ g)) m.1)
    of_actuals (ByVar var kind ∷ modes) (Lent at false bounds path more) g = no_so g
    of_actuals (ByVar var kind ∷ modes) (Lent at true bounds path more) g = let m = of_actuals modes more (right _ _ (right _ _ g)) in (m.0, app (path_acts (lending true) path) (actuals_acts more) (of_path (lending true) (lends true) path (left _ _ g)) m.1)

  mutual
    of_start : (n : ℕ) (start : Start) → good_start names n start ≡ true → AllGood (start_acts start)
    of_start n (WithValue target e) g = of_value target e (left _ _ g)
    of_start n (WithCopy m path) g = of_path Reading (λ at x. tt) path (left _ _ (left _ _ g))
    of_start n (WithParts m starts) g = some_good (λ s. good_starts names s 0 starts) (shape_at names n) (λ s h. of_starts s 0 starts h) (right _ _ g)

    of_starts : (s : Shape) (k : ℕ) (starts : Starts) → good_starts names s k starts ≡ true → AllGood (starts_acts starts)
    of_starts s k NoStart g = tt
    of_starts s k (AndStart start more) g = app (start_acts start) (starts_acts more) (some_good (λ n. good_start names n start) (part_at s k) (λ n h. of_start n start h) (left _ _ g)) (of_starts s (suc k) more (right _ _ g))

  start_at : (s : Stands) (start : Start) → good_start_at names s start ≡ true → AllGood (start_acts start)
  start_at NoPlace start g = no_so g
  start_at (Shaped n) start g = of_start n start g
  start_at (Takes target) start g = no_so g
  start_at (OpenArray indexes component) start g = no_so g

  of_constant : (at : At) (x : Named) → good_constant names x ≡ true → AllGood (constant_acts at x)
  of_constant at x g = app (start_acts x.start) (Defining at x ∷ []) (start_at (stands_at names x.name) x.start g) (tt, tt)

  of_constants : (at : At) (xs : List Named) → list_all (good_constant names) xs ≡ true → AllGood (constants_acts at xs)
  of_constants at [] g = tt
  of_constants at (x ∷ more) g = app (constant_acts at x) (constants_acts at more) (of_constant at x (left _ _ g)) (of_constants at more (right _ _ g))

  of_declared : (at : At) (xs : List Variable) → AllGood (map (Declaring at) xs)
  of_declared at [] = tt
  of_declared at (x ∷ more) = (tt, of_declared at more)

  of_bounds : (indexes : List Index) (es : Scalars) → good_bounds names indexes es ≡ true → AllGood (scalars_acts es)
  of_bounds [] NoScalar g = tt
  of_bounds [] (AndScalar e es) g = no_so g
  of_bounds (Known s ∷ more) es g = of_bounds more es g
  of_bounds (Open low ∷ more) NoScalar g = no_so g
  of_bounds (Open low ∷ more) (AndScalar e es) g = app (scalar_acts e) (scalars_acts es) (of_scalar e (left _ _ g)) (of_bounds more es (right _ _ g))

  of_declaration : (at : At) (d : Declaration) → good_declaration names d ≡ true → AllGood (declaration_acts at d)
  of_declaration at (Constant x) g = of_constant at x g
  of_declaration at (InitClause xs) g = of_constants at xs g
  of_declaration at (Variables xs n) g = of_declared at xs
  of_declaration at (Started xs n start) g = app (map (Declaring at) xs) (start_acts start) (of_declared at xs) (of_start n start (left _ _ g))
  of_declaration at (Arrays xs indexes component es) g = app (map (Declaring at) xs) (scalars_acts es) (of_declared at xs) (of_bounds indexes es (left _ _ g))
  of_declaration at (Collections cs) g = tt
  of_declaration at (Mention c) g = (tt, tt)

  of_shown : (e : Shown) → good_shown names e ≡ true → AllGood (shown_acts e)
  of_shown NoneShown g = tt
  of_shown (ShowInt e width more) g = app (scalar_acts e) (optional_acts width ++ shown_acts more) (of_scalar e (left _ _ g)) (app (optional_acts width) (shown_acts more) (of_optional width (left _ _ (right _ _ g))) (of_shown more (right _ _ (right _ _ g))))
  of_shown (ShowTruth e width more) g = app (scalar_acts e) (optional_acts width ++ shown_acts more) (of_scalar e (left _ _ g)) (app (optional_acts width) (shown_acts more) (of_optional width (left _ _ (right _ _ g))) (of_shown more (right _ _ (right _ _ g))))
  of_shown (ShowText e width more) g = app (text_acts e) (optional_acts width ++ shown_acts more) (of_text e (left _ _ g)) (app (optional_acts width) (shown_acts more) (of_optional width (left _ _ (right _ _ g))) (of_shown more (right _ _ (right _ _ g))))

  of_taken : (e : Taken) → good_taken names e ≡ true → AllGood (taken_acts e)
  of_taken NoneTaken g = tt
  of_taken (TakeInt s path more) g = app (path_acts Changing path) (taken_acts more) (of_path Changing (λ at x. tt) path (left _ _ (left _ _ g))) (of_taken more (right _ _ g))
  of_taken (TakeTruth path more) g = app (path_acts Changing path) (taken_acts more) (of_path Changing (λ at x. tt) path (left _ _ (left _ _ g))) (of_taken more (right _ _ g))
  of_taken (TakeToken size path more) g = app (path_acts Changing path) (taken_acts more) (of_path Changing (λ at x. tt) path (left _ _ (left _ _ g))) (of_taken more (right _ _ g))
  of_taken (TakeLine size path more) g = app (path_acts Changing path) (taken_acts more) (of_path Changing (λ at x. tt) path (left _ _ (left _ _ g))) (of_taken more (right _ _ g))
  of_taken (TakeCount size path e more) g = app (path_acts Changing path) (scalar_acts e ++ taken_acts more) (of_path Changing (λ at x. tt) path (left _ _ (left _ _ g))) (app (scalar_acts e) (taken_acts more) (of_scalar e (left _ _ (right _ _ g))) (of_taken more (right _ _ (right _ _ g))))

  of_range : (e : Range) → good_range names e ≡ true → AllGood (range_acts e)
  of_range (FromTo a b) g = app (scalar_acts a) (scalar_acts b) (of_scalar a (left _ _ g)) (of_scalar b (right _ _ g))
  of_range (Through s) g = tt

  of_test : (e : Option Test) → good_test names e ≡ true → AllGood (test_acts e)
  of_test None g = tt
  of_test (Some s) g = of_scalar s.condition g

  read_also : (at : At) (o : Option Subject) → AllGood (also_read at o)
  read_also at None = tt
  read_also at (Some x) = (tt, tt)

  of_plain : (at : At) (s : Plain) → good_plain names s ≡ true → AllGood (plain_acts at s)
  of_plain at (Assign target path e) g = app (path_acts Changing path) (simple_acts e) (of_path Changing (λ at x. tt) path (left _ _ (right _ _ g))) (of_value target e (left _ _ g))
  of_plain at (Copy n to from) g = app (path_acts Changing to) (path_acts Reading from) (of_path Changing (λ at x. tt) to (left _ _ (left _ _ g))) (of_path Reading (λ at x. tt) from (left _ _ (right _ _ g)))
  of_plain at (Exit condition) g = of_optional condition g
  of_plain at Return g = tt
  of_plain at (Give target e) g = of_value target e (left _ _ g)
  of_plain at (GiveCopy n path) g = of_path Reading (λ at x. tt) path (left _ _ (left _ _ g))
  of_plain at (Check claim e) g = of_scalar e g
  of_plain at (New c named path) g = (tt, of_path Changing (λ at x. tt) path (left _ _ (left _ _ g)))
  of_plain at (Free c named path) g = (tt, app (also_read named (subject_of path)) (path_acts Changing path) (read_also named (subject_of path)) (of_path Changing (λ at x. tt) path (left _ _ (left _ _ g))))
  of_plain at (Tag n path e) g = app (path_acts Changing path) (scalar_acts e) (of_path Changing (λ at x. tt) path (left _ _ g)) (of_scalar e (left _ _ (right _ _ g)))
  of_plain at (Put stream shown ends) g = (tt, app (optional_acts stream) (shown_acts shown) (of_optional stream (left _ _ g)) (of_shown shown (right _ _ g)))
  of_plain at (Get stream taken) g = (tt, app (optional_acts stream) (taken_acts taken) (of_optional stream (left _ _ g)) (of_taken taken (right _ _ g)))
  of_plain at (OpenStream s path e is_put) g = (tt, app (path_acts Changing path) (text_acts e) (of_path Changing (λ at x. tt) path (left _ _ (left _ _ g))) (of_text e (right _ _ g)))
  of_plain at (Close e) g = (tt, of_scalar e g)
  of_plain at (Do call) g = of_call gives_nothing call g
  of_plain at (Quit Absent) g = tt
  of_plain at (Quit (Present e)) g = of_scalar e g

  invariant_acts_good : (at : At) (m : Option ℕ) → good_invariant names m ≡ true → AllGood (invariant_acts at m)
  invariant_acts_good at None g = tt
  invariant_acts_good at (Some m) g = (((λ q e. keeps_good m q g e), (λ j q e. absurd (let h : None ≡ Some j = e in cc))), tt)

  bound_name_good : (at : Stands) (o : Option LocalName) → has_some (is_bound_name names at) o ≡ true → (has_some is_declared o ≡ false) × (has_some is_own o ≡ false)
  bound_name_good at None g = no_so g
  bound_name_good at (Some (Declared n)) g = no_so g
  bound_name_good at (Some (DeclaredArray indexes component)) g = no_so g
  bound_name_good at (Some (BoundName n)) g = (refl, refl)
  bound_name_good at (Some BoundText) g = (refl, refl)
  bound_name_good at (Some (BoundArray indexes component)) g = (refl, refl)
  bound_name_good at (Some (Counter s)) g = no_so g
  bound_name_good at (Some Caught) g = no_so g
  bound_name_good at (Some ResultName) g = no_so g

  mutual
    of_statement : (s : Statement) → good_statement names s ≡ true → AllGood (statement_acts s)
    of_statement (Simply at s) g = of_plain at s g
    of_statement (If at e block otherwise) g = app (scalar_acts e) (block_acts block ++ otherwise_acts otherwise) (of_scalar e (left _ _ g)) (app (block_acts block) (otherwise_acts otherwise) (of_block block (left _ _ (right _ _ g))) (of_otherwise otherwise (right _ _ (right _ _ g))))
    of_statement (Loop at invariant block) g = app (test_acts invariant) (block_acts block) (of_test invariant (left _ _ g)) (of_block block (right _ _ g))
    of_statement (For at x decreasing range invariant block) g = (tt, app (range_acts range) (test_acts invariant ++ block_acts block) (of_range range (left _ _ g)) (app (test_acts invariant) (block_acts block) (of_test invariant (left _ _ (right _ _ g))) (of_block block (left _ _ (right _ _ (right _ _ g))))))
    of_statement (Case at e arms) g = app (scalar_acts e) (arms_acts arms) (of_scalar e (left _ _ g)) (of_arms arms (right _ _ g))
    of_statement (Begin at block) g = of_block block g
    of_statement (Module at fixed collections invariant line block) g = (tt, app (block_acts block) (invariant_acts (record { start = at.start; line = line }) invariant) (of_block block (left _ _ g)) (invariant_acts_good (record { start = at.start; line = line }) invariant (left _ _ (right _ _ g))))

    pub of_block : (block : Block) → good_block names block ≡ true → AllGood (block_acts block)
    of_block Empty g = tt
    of_block (Then s more) g = app (statement_acts s) (block_acts more) (of_statement s (left _ _ g)) (of_block more (right _ _ g))
    of_block (Declare at d more) g = app (declaration_acts at d) (block_acts more) (of_declaration at d (left _ _ g)) (of_block more (right _ _ g))
    of_block (Bind at x is_var path more) g = app (path_acts (lending is_var) path) (Binding at x is_var path (length (block_acts more)) ∷ block_acts more) (of_path (lending is_var) (lends is_var) path (left _ _ g)) (bound_name_good (path_stands names path) (local_name names x) (right _ _ (right _ _ g)), of_block more (left _ _ (right _ _ g)))

    of_otherwise : (otherwise : Otherwise) → good_otherwise names otherwise ≡ true → AllGood (otherwise_acts otherwise)
    of_otherwise (Else block) g = of_block block g
    of_otherwise (Elsif at e block more) g = app (scalar_acts e) (block_acts block ++ otherwise_acts more) (of_scalar e (left _ _ g)) (app (block_acts block) (otherwise_acts more) (of_block block (left _ _ (right _ _ g))) (of_otherwise more (right _ _ (right _ _ g))))

    of_arms : (arms : Arms) → good_arms names arms ≡ true → AllGood (arms_acts arms)
    of_arms NoArm g = tt
    of_arms (Default block) g = of_block block g
    of_arms (Labelled labels block more) g = app (block_acts block) (arms_acts more) (of_block block (left _ _ g)) (of_arms more (right _ _ g))

  -- each of a list
  pub good_in : (acts : List Act) → AllGood acts → (act : Act) → Contains acts act → IsGood names act
  good_in [] h act is = absurd (omega (arith, is.1))
  good_in (x ∷ acts) h act (zero, under, e) = subst (IsGood names) e h.0
  good_in (x ∷ acts) h act (suc k, under, e) = good_in acts h.1 act (k, omega (arith, under), e)

-- what a text may give, and how it may be left, does not matter
same_names : (program : Program) (r : Routine) (in_handler : Bool) (act : Act) → IsGood (body_names program r in_handler) act → IsGood (names_of program r Nothing false) act
same_names program r in_handler (Reading at x) h = tt
same_names program r in_handler (Changing at x) h = tt
same_names program r in_handler (Naming at x) h = tt
same_names program r in_handler (Talking at) h = tt
same_names program r in_handler (Calling (Calls at callee invariant actuals)) h = h
same_names program r in_handler (Binding at name is_var path extent) h = h
same_names program r in_handler (Declaring at x) h = tt
same_names program r in_handler (Defining at x) h = tt
same_names program r in_handler (Fixing xs extent) h = tt

all_same_names : (program : Program) (r : Routine) (in_handler : Bool) (acts : List Act) → AllGood (body_names program r in_handler) acts → AllGood (names_of program r Nothing false) acts
all_same_names program r in_handler [] h = tt
all_same_names program r in_handler (act ∷ acts) h = (same_names program r in_handler act h.0, all_same_names program r in_handler acts h.1)

handler_good : (program : Program) (r : Routine) (h : Handler) → good_handler program r h ≡ true → AllGood (names_of program r Nothing false) (handler_acts h)
handler_good program r NoHandler g = tt
handler_good program r (Handles at name block) g = (tt, all_same_names program r true (block_acts block) (of_block (body_names program r true) block (left _ _ g)))

pub routine_acts_good : (program : Program) (r : Routine) → good_blocks program r ≡ true → (act : Act) → Contains (routine_acts r) act → IsGood (names_of program r Nothing false) act
routine_acts_good program r g = good_in names (routine_acts r) (
  tt,
  app names (block_acts r.before) (block_acts r.after ++ (handler_acts r.handler ++ block_acts r.body)) (of_block names r.before before)
      (app names (block_acts r.after) (handler_acts r.handler ++ block_acts r.body) (of_block names r.after after) (app names (handler_acts r.handler) (block_acts r.body) (handler_good program r r.handler handler) (all_same_names program r false (block_acts r.body) (of_block (body_names program r false) r.body body)))),
)
  where
    names : Names
    names = names_of program r Nothing false

    before : good_block (names_of program r Nothing false) r.before ≡ true
    before = left (good_block (names_of program r Nothing false) r.before) (good_block (body_names program r false) r.body && (good_handler program r r.handler && good_block (names_of program r Nothing false) r.after)) g

    more : (good_block (body_names program r false) r.body && (good_handler program r r.handler && good_block (names_of program r Nothing false) r.after)) ≡ true
    more = right (good_block (names_of program r Nothing false) r.before) (good_block (body_names program r false) r.body && (good_handler program r r.handler && good_block (names_of program r Nothing false) r.after)) g

    body : good_block (body_names program r false) r.body ≡ true
    body = left (good_block (body_names program r false) r.body) (good_handler program r r.handler && good_block (names_of program r Nothing false) r.after) more

    last : (good_handler program r r.handler && good_block (names_of program r Nothing false) r.after) ≡ true
    last = right (good_block (body_names program r false) r.body) (good_handler program r r.handler && good_block (names_of program r Nothing false) r.after) more

    handler : good_handler program r r.handler ≡ true
    handler = left (good_handler program r r.handler) (good_block (names_of program r Nothing false) r.after) last

    after : good_block (names_of program r Nothing false) r.after ≡ true
    after = right (good_handler program r r.handler) (good_block (names_of program r Nothing false) r.after) last
