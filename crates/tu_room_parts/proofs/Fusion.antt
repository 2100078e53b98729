-- One measure is a function of another in all that an expression adds, where it is so in what each form adds.
use Rattle.std.specs.Prelude.{◌≡◌}
use Rattle.std.proofs.Common.{ap, ◌∙◌}
use Rattle.tu_core.specs.Core.{Scalar, Literal, Use, Prefixed, Chain, CompareTexts, CompareSets, ComparePointers, Member, Length, PlaceIn, ByteOf, TextInt, Bound, AtEnd, CallScalar, Links, NoLink, Link, Decide, Text, Written, UseText, Joined, Cut, Character, IntText, Repeat, CallText, Texts, NoText, AndText, Cuts, NoCut, CutCharacter, CutPart, Spot, Exactly, Last, BeforeLast, Set, SetOf, FullSet, UseSet, Combined, CallSet, Combinations, NoSet, AndSet, Pointer, Nil, UsePointer, CallPointer, Scalars, NoScalar, AndScalar, Optional, Absent, Present, Path, Name, OpenItem, Element, ResultOf, Selectors, End, Field, VariantField, Item, Subscripts, NoSubscript, Subscript, Call, Calls, Actuals, NoActual, Given, Lent, Simple, AScalar, AText, ASet, APointer}
use Rattle.tu_core.specs.Measures.{Measure, of_scalar, of_links, of_text, of_texts, of_cuts, of_spot, of_set, of_combinations, of_pointer, of_scalars, of_optional, of_path, of_selectors, of_subscripts, of_call, of_actuals, of_simple}

pub record Fuses {A B : Type 0} (g : A → B) (m : Measure A) (m' : Measure B) : Type 0 where
  pub none : m'.none ≡ g m.none
  pub plus : (a b : A) → m'.plus (g a) (g b) ≡ g (m.plus a b)
  pub scalar : (x : Scalar) → m'.scalar x ≡ g (m.scalar x)
  pub link : m'.link ≡ g m.link
  pub text : (x : Text) → m'.text x ≡ g (m.text x)
  pub set : (x : Set) → m'.set x ≡ g (m.set x)
  pub pointer : (x : Pointer) → m'.pointer x ≡ g (m.pointer x)
  pub spot : (x : Spot) → m'.spot x ≡ g (m.spot x)
  pub path : (x : Path) → m'.path x ≡ g (m.path x)
  pub selector : m'.selector ≡ g m.selector
  pub actual : (x : Actuals) → m'.actual x ≡ g (m.actual x)
  pub call : (x : Call) → m'.call x ≡ g (m.call x)

pub both : {A B : Type 0} {g : A → B} {m : Measure A} {m' : Measure B} → Fuses g m m' → {a b : A} {c d : B} → c ≡ g a → d ≡ g b → m'.plus c d ≡ g (m.plus a b)
both {g = g} {m' = m'} f {a = a} {b = b} {d = d} p q = ap (λ z. m'.plus z d) p ∙ ap (λ z. m'.plus (g a) z) q ∙ f.plus a b

module _ {A B : Type 0} {g : A → B} {m : Measure A} {m' : Measure B} (f : Fuses g m m') where
  mutual
    pub fuse_scalar : (x : Scalar) → of_scalar m' x ≡ g (of_scalar m x)
    fuse_scalar (Literal n z) = f.scalar (Literal n z)
    fuse_scalar (Use n p) = both f (f.scalar (Use n p)) (fuse_path p)
    fuse_scalar (Prefixed n operators e) = both f (f.scalar (Prefixed n operators e)) (fuse_scalar e)
    fuse_scalar (Chain n e links) = both f (f.scalar (Chain n e links)) (both f (fuse_scalar e) (fuse_links links))
    fuse_scalar (CompareTexts n relation a b) = both f (f.scalar (CompareTexts n relation a b)) (both f (fuse_text a) (fuse_text b))
    fuse_scalar (CompareSets n relation base a b) = both f (f.scalar (CompareSets n relation base a b)) (both f (fuse_set a) (fuse_set b))
    fuse_scalar (ComparePointers n is_equal a b) = both f (f.scalar (ComparePointers n is_equal a b)) (both f (fuse_pointer a) (fuse_pointer b))
    fuse_scalar (Member n is_wanted base e s) = both f (f.scalar (Member n is_wanted base e s)) (both f (fuse_scalar e) (fuse_set s))
    fuse_scalar (Length n e) = both f (f.scalar (Length n e)) (fuse_text e)
    fuse_scalar (PlaceIn n a b) = both f (f.scalar (PlaceIn n a b)) (both f (fuse_text a) (fuse_text b))
    fuse_scalar (ByteOf n e) = both f (f.scalar (ByteOf n e)) (fuse_text e)
    fuse_scalar (TextInt n e) = both f (f.scalar (TextInt n e)) (fuse_text e)
    fuse_scalar (Bound n is_upper indexes p dimension) = both f (f.scalar (Bound n is_upper indexes p dimension)) (both f (fuse_path p) (fuse_optional dimension))
    fuse_scalar (AtEnd n at stream) = both f (f.scalar (AtEnd n at stream)) (fuse_optional stream)
    fuse_scalar (CallScalar n call) = both f (f.scalar (CallScalar n call)) (fuse_call call)

    pub fuse_links : (x : Links) → of_links m' x ≡ g (of_links m x)
    fuse_links NoLink = f.none
    fuse_links (Link operator e more) = both f f.link (both f (fuse_scalar e) (fuse_links more))
    fuse_links (Decide operator e more) = both f f.link (both f (fuse_scalar e) (fuse_links more))

    pub fuse_text : (x : Text) → of_text m' x ≡ g (of_text m x)
    fuse_text (Written n bytes) = f.text (Written n bytes)
    fuse_text (UseText n p) = both f (f.text (UseText n p)) (fuse_path p)
    fuse_text (Joined n e more) = both f (f.text (Joined n e more)) (both f (fuse_text e) (fuse_texts more))
    fuse_text (Cut n e cuts) = both f (f.text (Cut n e cuts)) (both f (fuse_text e) (fuse_cuts cuts))
    fuse_text (Character n e) = both f (f.text (Character n e)) (fuse_scalar e)
    fuse_text (IntText n e width) = both f (f.text (IntText n e width)) (both f (fuse_scalar e) (fuse_optional width))
    fuse_text (Repeat n e k) = both f (f.text (Repeat n e k)) (both f (fuse_text e) (fuse_scalar k))
    fuse_text (CallText n call) = both f (f.text (CallText n call)) (fuse_call call)

    pub fuse_texts : (x : Texts) → of_texts m' x ≡ g (of_texts m x)
    fuse_texts NoText = f.none
    fuse_texts (AndText e more) = both f f.link (both f (fuse_text e) (fuse_texts more))

    pub fuse_cuts : (x : Cuts) → of_cuts m' x ≡ g (of_cuts m x)
    fuse_cuts NoCut = f.none
    fuse_cuts (CutCharacter i more) = both f f.selector (both f (fuse_spot i) (fuse_cuts more))
    fuse_cuts (CutPart i j more) = both f f.selector (both f (fuse_spot i) (both f (fuse_spot j) (fuse_cuts more)))

    pub fuse_spot : (x : Spot) → of_spot m' x ≡ g (of_spot m x)
    fuse_spot (Exactly e) = both f (f.spot (Exactly e)) (fuse_scalar e)
    fuse_spot Last = f.spot Last
    fuse_spot (BeforeLast e) = both f (f.spot (BeforeLast e)) (fuse_scalar e)

    pub fuse_set : (x : Set) → of_set m' x ≡ g (of_set m x)
    fuse_set (SetOf n base es) = both f (f.set (SetOf n base es)) (fuse_scalars es)
    fuse_set (FullSet n base) = f.set (FullSet n base)
    fuse_set (UseSet n p) = both f (f.set (UseSet n p)) (fuse_path p)
    fuse_set (Combined n base e more) = both f (f.set (Combined n base e more)) (both f (fuse_set e) (fuse_combinations more))
    fuse_set (CallSet n call) = both f (f.set (CallSet n call)) (fuse_call call)

    pub fuse_combinations : (x : Combinations) → of_combinations m' x ≡ g (of_combinations m x)
    fuse_combinations NoSet = f.none
    fuse_combinations (AndSet operator e more) = both f f.link (both f (fuse_set e) (fuse_combinations more))

    pub fuse_pointer : (x : Pointer) → of_pointer m' x ≡ g (of_pointer m x)
    fuse_pointer (Nil n at c) = f.pointer (Nil n at c)
    fuse_pointer (UsePointer n p) = both f (f.pointer (UsePointer n p)) (fuse_path p)
    fuse_pointer (CallPointer n call) = both f (f.pointer (CallPointer n call)) (fuse_call call)

    pub fuse_scalars : (x : Scalars) → of_scalars m' x ≡ g (of_scalars m x)
    fuse_scalars NoScalar = f.none
    fuse_scalars (AndScalar e more) = both f (fuse_scalar e) (fuse_scalars more)

    pub fuse_optional : (x : Optional) → of_optional m' x ≡ g (of_optional m x)
    fuse_optional Absent = f.none
    fuse_optional (Present e) = fuse_scalar e

    pub fuse_path : (x : Path) → of_path m' x ≡ g (of_path m x)
    fuse_path (Name at x steps) = both f (f.path (Name at x steps)) (fuse_selectors steps)
    fuse_path (OpenItem at x indexes es steps) = both f (f.path (OpenItem at x indexes es steps)) (both f f.selector (both f (fuse_subscripts es) (fuse_selectors steps)))
    fuse_path (Element at c e steps) = both f (f.path (Element at c e steps)) (both f (fuse_pointer e) (fuse_selectors steps))
    fuse_path (ResultOf at k call steps) = both f (f.path (ResultOf at k call steps)) (both f (fuse_call call) (fuse_selectors steps))

    pub fuse_selectors : (x : Selectors) → of_selectors m' x ≡ g (of_selectors m x)
    fuse_selectors End = f.none
    fuse_selectors (Field shape k more) = both f f.selector (fuse_selectors more)
    fuse_selectors (VariantField shape k more) = both f f.selector (fuse_selectors more)
    fuse_selectors (Item shape es more) = both f f.selector (both f (fuse_subscripts es) (fuse_selectors more))

    pub fuse_subscripts : (x : Subscripts) → of_subscripts m' x ≡ g (of_subscripts m x)
    fuse_subscripts NoSubscript = f.none
    fuse_subscripts (Subscript constant e more) = both f (fuse_scalar e) (fuse_subscripts more)

    pub fuse_call : (x : Call) → of_call m' x ≡ g (of_call m x)
    fuse_call (Calls at callee invariant actuals) = both f (f.call (Calls at callee invariant actuals)) (fuse_actuals actuals)

    pub fuse_actuals : (x : Actuals) → of_actuals m' x ≡ g (of_actuals m x)
    fuse_actuals NoActual = f.none
    fuse_actuals (Given at size e more) = both f (f.actual (Given at size e more)) (both f (fuse_simple e) (fuse_actuals more))
    fuse_actuals (Lent at is_var bounds p more) = both f (f.actual (Lent at is_var bounds p more)) (both f (fuse_path p) (fuse_actuals more))

    pub fuse_simple : (x : Simple) → of_simple m' x ≡ g (of_simple m x)
    fuse_simple (AScalar e) = fuse_scalar e
    fuse_simple (AText e) = fuse_text e
    fuse_simple (ASet e) = fuse_set e
    fuse_simple (APointer e) = fuse_pointer e
