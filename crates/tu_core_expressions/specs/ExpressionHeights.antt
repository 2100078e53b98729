-- How deep expressions are.
use Rattle.std.specs.Prelude.{ℕ, ◌+◌, max}
use Rattle.tu_core.specs.Core.{Scalar, Literal, Use, Prefixed, Chain, CompareTexts, CompareSets, ComparePointers, Member, Length, PlaceIn, ByteOf, TextInt, Bound, AtEnd, CallScalar, Links, NoLink, Link, Decide, Text, Written, UseText, Joined, Cut, Character, IntText, Repeat, CallText, Texts, NoText, AndText, Cuts, NoCut, CutCharacter, CutPart, Spot, Exactly, Last, BeforeLast, Set, SetOf, FullSet, UseSet, Combined, CallSet, Combinations, NoSet, AndSet, Pointer, Nil, UsePointer, CallPointer, Scalars, NoScalar, AndScalar, Optional, Absent, Present, Path, Name, OpenItem, Element, ResultOf, Selectors, End, Field, VariantField, Item, Subscripts, NoSubscript, Subscript, Call, Calls, Actuals, NoActual, Given, Lent, Simple, AScalar, AText, ASet, APointer}

abbrev mutual
  pub height_of_scalar : Scalar → ℕ
  height_of_scalar (Literal a0 a1) = 1
  height_of_scalar (Use a0 a1) = 1 + height_of_path a1
  height_of_scalar (Prefixed a0 a1 a2) = 1 + height_of_scalar a2
  height_of_scalar (Chain a0 a1 a2) = 1 + max (height_of_scalar a1) (height_of_links a2)
  height_of_scalar (CompareTexts a0 a1 a2 a3) = 1 + max (height_of_text a2) (height_of_text a3)
  height_of_scalar (CompareSets a0 a1 a2 a3 a4) = 1 + max (height_of_set a3) (height_of_set a4)
  height_of_scalar (ComparePointers a0 a1 a2 a3) = 1 + max (height_of_pointer a2) (height_of_pointer a3)
  height_of_scalar (Member a0 a1 a2 a3 a4) = 1 + max (height_of_scalar a3) (height_of_set a4)
  height_of_scalar (Length a0 a1) = 1 + height_of_text a1
  height_of_scalar (PlaceIn a0 a1 a2) = 1 + max (height_of_text a1) (height_of_text a2)
  height_of_scalar (ByteOf a0 a1) = 1 + height_of_text a1
  height_of_scalar (TextInt a0 a1) = 1 + height_of_text a1
  height_of_scalar (Bound a0 a1 a2 a3 a4) = 1 + max (height_of_path a3) (height_of_optional a4)
  height_of_scalar (AtEnd a0 a1 a2) = 1 + height_of_optional a2
  height_of_scalar (CallScalar a0 a1) = 1 + height_of_call a1

  pub height_of_links : Links → ℕ
  height_of_links NoLink = 1
  height_of_links (Link a0 a1 a2) = 1 + max (height_of_scalar a1) (height_of_links a2)
  height_of_links (Decide a0 a1 a2) = 1 + max (height_of_scalar a1) (height_of_links a2)

  pub height_of_text : Text → ℕ
  height_of_text (Written a0 a1) = 1
  height_of_text (UseText a0 a1) = 1 + height_of_path a1
  height_of_text (Joined a0 a1 a2) = 1 + max (height_of_text a1) (height_of_texts a2)
  height_of_text (Cut a0 a1 a2) = 1 + max (height_of_text a1) (height_of_cuts a2)
  height_of_text (Character a0 a1) = 1 + height_of_scalar a1
  height_of_text (IntText a0 a1 a2) = 1 + max (height_of_scalar a1) (height_of_optional a2)
  height_of_text (Repeat a0 a1 a2) = 1 + max (height_of_text a1) (height_of_scalar a2)
  height_of_text (CallText a0 a1) = 1 + height_of_call a1

  pub height_of_texts : Texts → ℕ
  height_of_texts NoText = 1
  height_of_texts (AndText a0 a1) = 1 + max (height_of_text a0) (height_of_texts a1)

  pub height_of_cuts : Cuts → ℕ
  height_of_cuts NoCut = 1
  height_of_cuts (CutCharacter a0 a1) = 1 + max (height_of_spot a0) (height_of_cuts a1)
  height_of_cuts (CutPart a0 a1 a2) = 1 + max (height_of_spot a0) (max (height_of_spot a1) (height_of_cuts a2))

  pub height_of_spot : Spot → ℕ
  height_of_spot (Exactly a0) = 1 + height_of_scalar a0
  height_of_spot Last = 1
  height_of_spot (BeforeLast a0) = 1 + height_of_scalar a0

  pub height_of_set : Set → ℕ
  height_of_set (SetOf a0 a1 a2) = 1 + height_of_scalars a2
  height_of_set (FullSet a0 a1) = 1
  height_of_set (UseSet a0 a1) = 1 + height_of_path a1
  height_of_set (Combined a0 a1 a2 a3) = 1 + max (height_of_set a2) (height_of_combinations a3)
  height_of_set (CallSet a0 a1) = 1 + height_of_call a1

  pub height_of_combinations : Combinations → ℕ
  height_of_combinations NoSet = 1
  height_of_combinations (AndSet a0 a1 a2) = 1 + max (height_of_set a1) (height_of_combinations a2)

  pub height_of_pointer : Pointer → ℕ
  height_of_pointer (Nil a0 a1 a2) = 1
  height_of_pointer (UsePointer a0 a1) = 1 + height_of_path a1
  height_of_pointer (CallPointer a0 a1) = 1 + height_of_call a1

  pub height_of_scalars : Scalars → ℕ
  height_of_scalars NoScalar = 1
  height_of_scalars (AndScalar a0 a1) = 1 + max (height_of_scalar a0) (height_of_scalars a1)

  pub height_of_optional : Optional → ℕ
  height_of_optional Absent = 1
  height_of_optional (Present a0) = 1 + height_of_scalar a0

  pub height_of_path : Path → ℕ
  height_of_path (Name a0 a1 a2) = 1 + height_of_selectors a2
  height_of_path (OpenItem a0 a1 a2 a3 a4) = 1 + max (height_of_subscripts a3) (height_of_selectors a4)
  height_of_path (Element a0 a1 a2 a3) = 1 + max (height_of_pointer a2) (height_of_selectors a3)
  height_of_path (ResultOf a0 a1 a2 a3) = 1 + max (height_of_call a2) (height_of_selectors a3)

  pub height_of_selectors : Selectors → ℕ
  height_of_selectors End = 1
  height_of_selectors (Field a0 a1 a2) = 1 + height_of_selectors a2
  height_of_selectors (VariantField a0 a1 a2) = 1 + height_of_selectors a2
  height_of_selectors (Item a0 a1 a2) = 1 + max (height_of_subscripts a1) (height_of_selectors a2)

  pub height_of_subscripts : Subscripts → ℕ
  height_of_subscripts NoSubscript = 1
  height_of_subscripts (Subscript a0 a1 a2) = 1 + max (height_of_scalar a1) (height_of_subscripts a2)

  pub height_of_call : Call → ℕ
  height_of_call (Calls a0 a1 a2 a3) = 1 + height_of_actuals a3

  pub height_of_actuals : Actuals → ℕ
  height_of_actuals NoActual = 1
  height_of_actuals (Given a0 a1 a2 a3) = 1 + max (height_of_simple a2) (height_of_actuals a3)
  height_of_actuals (Lent a0 a1 a2 a3 a4) = 1 + max (height_of_path a3) (height_of_actuals a4)

  pub height_of_simple : Simple → ℕ
  height_of_simple (AScalar a0) = 1 + height_of_scalar a0
  height_of_simple (AText a0) = 1 + height_of_text a0
  height_of_simple (ASet a0) = 1 + height_of_set a0
  height_of_simple (APointer a0) = 1 + height_of_pointer a0
