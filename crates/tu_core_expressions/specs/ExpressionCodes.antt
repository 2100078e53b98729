-- How expressions are stored, which tells a proof that different ones are not equal.
use Rattle.std.specs.Prelude.{◌≡◌, refl}
use Rattle.std.proofs.Common.{ap, arith}
use Rattle.std.specs.Coded.{Coded, coded_bool, coded_list, coded_option, coded_ℕ, coded_ℤ}
use base.Stored.{Gv, gnil, gnum, gcons}
use Rattle.tu_base.specs.contracts.operator.Binary as binary_type
use Rattle.tu_base.specs.contracts.operator.Combination as combination_type
use Rattle.tu_base.specs.contracts.operator.Junction as junction_type
use Rattle.tu_base.specs.contracts.operator.Relation as relation_type
use Rattle.tu_base.specs.contracts.operator.Unary as unary_type
use Rattle.tu_core.specs.contracts.names.At as at_type
use Rattle.tu_core.specs.contracts.names.Variable as variable_type
use Rattle.tu_core.specs.contracts.targets.Base as base_type
use Rattle.tu_core.specs.contracts.targets.Index as index_type
use Rattle.tu_core.specs.Core.{Scalar, Literal, Use, Prefixed, Chain, CompareTexts, CompareSets, ComparePointers, Member, Length, PlaceIn, ByteOf, TextInt, Bound, AtEnd, CallScalar, Links, NoLink, Link, Decide, Text, Written, UseText, Joined, Cut, Character, IntText, Repeat, CallText, Texts, NoText, AndText, Cuts, NoCut, CutCharacter, CutPart, Spot, Exactly, Last, BeforeLast, Set, SetOf, FullSet, UseSet, Combined, CallSet, Combinations, NoSet, AndSet, Pointer, Nil, UsePointer, CallPointer, Scalars, NoScalar, AndScalar, Optional, Absent, Present, Path, Name, OpenItem, Element, ResultOf, Selectors, End, Field, VariantField, Item, Subscripts, NoSubscript, Subscript, Call, Calls, Actuals, NoActual, Given, Lent, Simple, AScalar, AText, ASet, APointer}
use Rattle.tu_core_expressions.specs.Stored.{head, tail, tags}

abbrev mutual
  pub scalar_code : Scalar → Gv
  scalar_code (Literal a0 a1) = gcons (gnum 0) (gcons (coded_ℕ.code a0) (gcons (coded_ℤ.code a1) gnil))
  scalar_code (Use a0 a1) = gcons (gnum 1) (gcons (coded_ℕ.code a0) (gcons (path_code a1) gnil))
  scalar_code (Prefixed a0 a1 a2) = gcons (gnum 2) (gcons (coded_ℕ.code a0) (gcons ((coded_list unary_type.the_row.coded).code a1) (gcons (scalar_code a2) gnil)))
  scalar_code (Chain a0 a1 a2) = gcons (gnum 3) (gcons (coded_ℕ.code a0) (gcons (scalar_code a1) (gcons (links_code a2) gnil)))
  scalar_code (CompareTexts a0 a1 a2 a3) = gcons (gnum 4) (gcons (coded_ℕ.code a0) (gcons (relation_type.the_row.coded.code a1) (gcons (text_code a2) (gcons (text_code a3) gnil))))
  scalar_code (CompareSets a0 a1 a2 a3 a4) = gcons (gnum 5) (gcons (coded_ℕ.code a0) (gcons (relation_type.the_row.coded.code a1) (gcons (base_type.the_row.coded.code a2) (gcons (set_code a3) (gcons (set_code a4) gnil)))))
  scalar_code (ComparePointers a0 a1 a2 a3) = gcons (gnum 6) (gcons (coded_ℕ.code a0) (gcons (coded_bool.code a1) (gcons (pointer_code a2) (gcons (pointer_code a3) gnil))))
  scalar_code (Member a0 a1 a2 a3 a4) = gcons (gnum 7) (gcons (coded_ℕ.code a0) (gcons (coded_bool.code a1) (gcons (base_type.the_row.coded.code a2) (gcons (scalar_code a3) (gcons (set_code a4) gnil)))))
  scalar_code (Length a0 a1) = gcons (gnum 8) (gcons (coded_ℕ.code a0) (gcons (text_code a1) gnil))
  scalar_code (PlaceIn a0 a1 a2) = gcons (gnum 9) (gcons (coded_ℕ.code a0) (gcons (text_code a1) (gcons (text_code a2) gnil)))
  scalar_code (ByteOf a0 a1) = gcons (gnum 10) (gcons (coded_ℕ.code a0) (gcons (text_code a1) gnil))
  scalar_code (TextInt a0 a1) = gcons (gnum 11) (gcons (coded_ℕ.code a0) (gcons (text_code a1) gnil))
  scalar_code (Bound a0 a1 a2 a3 a4) = gcons (gnum 12) (gcons (coded_ℕ.code a0) (gcons (coded_bool.code a1) (gcons ((coded_list index_type.the_row.coded).code a2) (gcons (path_code a3) (gcons (optional_code a4) gnil)))))
  scalar_code (AtEnd a0 a1 a2) = gcons (gnum 13) (gcons (coded_ℕ.code a0) (gcons (at_type.the_row.coded.code a1) (gcons (optional_code a2) gnil)))
  scalar_code (CallScalar a0 a1) = gcons (gnum 14) (gcons (coded_ℕ.code a0) (gcons (call_code a1) gnil))

  pub links_code : Links → Gv
  links_code NoLink = gcons (gnum 0) gnil
  links_code (Link a0 a1 a2) = gcons (gnum 1) (gcons (binary_type.the_row.coded.code a0) (gcons (scalar_code a1) (gcons (links_code a2) gnil)))
  links_code (Decide a0 a1 a2) = gcons (gnum 2) (gcons (junction_type.the_row.coded.code a0) (gcons (scalar_code a1) (gcons (links_code a2) gnil)))

  pub text_code : Text → Gv
  text_code (Written a0 a1) = gcons (gnum 0) (gcons (coded_ℕ.code a0) (gcons ((coded_list coded_ℕ).code a1) gnil))
  text_code (UseText a0 a1) = gcons (gnum 1) (gcons (coded_ℕ.code a0) (gcons (path_code a1) gnil))
  text_code (Joined a0 a1 a2) = gcons (gnum 2) (gcons (coded_ℕ.code a0) (gcons (text_code a1) (gcons (texts_code a2) gnil)))
  text_code (Cut a0 a1 a2) = gcons (gnum 3) (gcons (coded_ℕ.code a0) (gcons (text_code a1) (gcons (cuts_code a2) gnil)))
  text_code (Character a0 a1) = gcons (gnum 4) (gcons (coded_ℕ.code a0) (gcons (scalar_code a1) gnil))
  text_code (IntText a0 a1 a2) = gcons (gnum 5) (gcons (coded_ℕ.code a0) (gcons (scalar_code a1) (gcons (optional_code a2) gnil)))
  text_code (Repeat a0 a1 a2) = gcons (gnum 6) (gcons (coded_ℕ.code a0) (gcons (text_code a1) (gcons (scalar_code a2) gnil)))
  text_code (CallText a0 a1) = gcons (gnum 7) (gcons (coded_ℕ.code a0) (gcons (call_code a1) gnil))

  pub texts_code : Texts → Gv
  texts_code NoText = gcons (gnum 0) gnil
  texts_code (AndText a0 a1) = gcons (gnum 1) (gcons (text_code a0) (gcons (texts_code a1) gnil))

  pub cuts_code : Cuts → Gv
  cuts_code NoCut = gcons (gnum 0) gnil
  cuts_code (CutCharacter a0 a1) = gcons (gnum 1) (gcons (spot_code a0) (gcons (cuts_code a1) gnil))
  cuts_code (CutPart a0 a1 a2) = gcons (gnum 2) (gcons (spot_code a0) (gcons (spot_code a1) (gcons (cuts_code a2) gnil)))

  pub spot_code : Spot → Gv
  spot_code (Exactly a0) = gcons (gnum 0) (gcons (scalar_code a0) gnil)
  spot_code Last = gcons (gnum 1) gnil
  spot_code (BeforeLast a0) = gcons (gnum 2) (gcons (scalar_code a0) gnil)

  pub set_code : Set → Gv
  set_code (SetOf a0 a1 a2) = gcons (gnum 0) (gcons (coded_ℕ.code a0) (gcons (base_type.the_row.coded.code a1) (gcons (scalars_code a2) gnil)))
  set_code (FullSet a0 a1) = gcons (gnum 1) (gcons (coded_ℕ.code a0) (gcons (base_type.the_row.coded.code a1) gnil))
  set_code (UseSet a0 a1) = gcons (gnum 2) (gcons (coded_ℕ.code a0) (gcons (path_code a1) gnil))
  set_code (Combined a0 a1 a2 a3) = gcons (gnum 3) (gcons (coded_ℕ.code a0) (gcons (base_type.the_row.coded.code a1) (gcons (set_code a2) (gcons (combinations_code a3) gnil))))
  set_code (CallSet a0 a1) = gcons (gnum 4) (gcons (coded_ℕ.code a0) (gcons (call_code a1) gnil))

  pub combinations_code : Combinations → Gv
  combinations_code NoSet = gcons (gnum 0) gnil
  combinations_code (AndSet a0 a1 a2) = gcons (gnum 1) (gcons (combination_type.the_row.coded.code a0) (gcons (set_code a1) (gcons (combinations_code a2) gnil)))

  pub pointer_code : Pointer → Gv
  pointer_code (Nil a0 a1 a2) = gcons (gnum 0) (gcons (coded_ℕ.code a0) (gcons (at_type.the_row.coded.code a1) (gcons (coded_ℕ.code a2) gnil)))
  pointer_code (UsePointer a0 a1) = gcons (gnum 1) (gcons (coded_ℕ.code a0) (gcons (path_code a1) gnil))
  pointer_code (CallPointer a0 a1) = gcons (gnum 2) (gcons (coded_ℕ.code a0) (gcons (call_code a1) gnil))

  pub scalars_code : Scalars → Gv
  scalars_code NoScalar = gcons (gnum 0) gnil
  scalars_code (AndScalar a0 a1) = gcons (gnum 1) (gcons (scalar_code a0) (gcons (scalars_code a1) gnil))

  pub optional_code : Optional → Gv
  optional_code Absent = gcons (gnum 0) gnil
  optional_code (Present a0) = gcons (gnum 1) (gcons (scalar_code a0) gnil)

  pub path_code : Path → Gv
  path_code (Name a0 a1 a2) = gcons (gnum 0) (gcons (at_type.the_row.coded.code a0) (gcons (variable_type.the_row.coded.code a1) (gcons (selectors_code a2) gnil)))
  path_code (OpenItem a0 a1 a2 a3 a4) = gcons (gnum 1) (gcons (at_type.the_row.coded.code a0) (gcons (variable_type.the_row.coded.code a1) (gcons ((coded_list index_type.the_row.coded).code a2) (gcons (subscripts_code a3) (gcons (selectors_code a4) gnil)))))
  path_code (Element a0 a1 a2 a3) = gcons (gnum 2) (gcons (at_type.the_row.coded.code a0) (gcons (coded_ℕ.code a1) (gcons (pointer_code a2) (gcons (selectors_code a3) gnil))))
  path_code (ResultOf a0 a1 a2 a3) = gcons (gnum 3) (gcons (at_type.the_row.coded.code a0) (gcons (coded_ℕ.code a1) (gcons (call_code a2) (gcons (selectors_code a3) gnil))))

  pub selectors_code : Selectors → Gv
  selectors_code End = gcons (gnum 0) gnil
  selectors_code (Field a0 a1 a2) = gcons (gnum 1) (gcons (coded_ℕ.code a0) (gcons (coded_ℕ.code a1) (gcons (selectors_code a2) gnil)))
  selectors_code (VariantField a0 a1 a2) = gcons (gnum 2) (gcons (coded_ℕ.code a0) (gcons (coded_ℕ.code a1) (gcons (selectors_code a2) gnil)))
  selectors_code (Item a0 a1 a2) = gcons (gnum 3) (gcons (coded_ℕ.code a0) (gcons (subscripts_code a1) (gcons (selectors_code a2) gnil)))

  pub subscripts_code : Subscripts → Gv
  subscripts_code NoSubscript = gcons (gnum 0) gnil
  subscripts_code (Subscript a0 a1 a2) = gcons (gnum 1) (gcons ((coded_option coded_ℤ).code a0) (gcons (scalar_code a1) (gcons (subscripts_code a2) gnil)))

  pub call_code : Call → Gv
  call_code (Calls a0 a1 a2 a3) = gcons (gnum 0) (gcons (at_type.the_row.coded.code a0) (gcons (coded_ℕ.code a1) (gcons ((coded_option coded_ℕ).code a2) (gcons (actuals_code a3) gnil))))

  pub actuals_code : Actuals → Gv
  actuals_code NoActual = gcons (gnum 0) gnil
  actuals_code (Given a0 a1 a2 a3) = gcons (gnum 1) (gcons (at_type.the_row.coded.code a0) (gcons ((coded_option coded_ℕ).code a1) (gcons (simple_code a2) (gcons (actuals_code a3) gnil))))
  actuals_code (Lent a0 a1 a2 a3 a4) = gcons (gnum 2) (gcons (at_type.the_row.coded.code a0) (gcons (coded_bool.code a1) (gcons ((coded_option (coded_list coded_ℤ)).code a2) (gcons (path_code a3) (gcons (actuals_code a4) gnil)))))

  pub simple_code : Simple → Gv
  simple_code (AScalar a0) = gcons (gnum 0) (gcons (scalar_code a0) gnil)
  simple_code (AText a0) = gcons (gnum 1) (gcons (text_code a0) gnil)
  simple_code (ASet a0) = gcons (gnum 2) (gcons (set_code a0) gnil)
  simple_code (APointer a0) = gcons (gnum 3) (gcons (pointer_code a0) gnil)

mutual
  pub scalar_inj : (x y : Scalar) → scalar_code x ≡ scalar_code y → x ≡ y
  scalar_inj (Literal a0 a1) (Literal b0 b1) p = λ i. Literal (coded_ℕ.inj a0 b0 (ap (λ g. head (tail g)) p) i) (coded_ℤ.inj a1 b1 (ap (λ g. head (tail (tail g))) p) i)
  scalar_inj (Literal a0 a1) other p = absurd (omega (arith, tags p))
  scalar_inj (Use a0 a1) (Use b0 b1) p = λ i. Use (coded_ℕ.inj a0 b0 (ap (λ g. head (tail g)) p) i) (path_inj a1 b1 (ap (λ g. head (tail (tail g))) p) i)
  scalar_inj (Use a0 a1) other p = absurd (omega (arith, tags p))
  scalar_inj (Prefixed a0 a1 a2) (Prefixed b0 b1 b2) p = λ i. Prefixed (coded_ℕ.inj a0 b0 (ap (λ g. head (tail g)) p) i) ((coded_list unary_type.the_row.coded).inj a1 b1 (ap (λ g. head (tail (tail g))) p) i) (scalar_inj a2 b2 (ap (λ g. head (tail (tail (tail g)))) p) i)
  scalar_inj (Prefixed a0 a1 a2) other p = absurd (omega (arith, tags p))
  scalar_inj (Chain a0 a1 a2) (Chain b0 b1 b2) p = λ i. Chain (coded_ℕ.inj a0 b0 (ap (λ g. head (tail g)) p) i) (scalar_inj a1 b1 (ap (λ g. head (tail (tail g))) p) i) (links_inj a2 b2 (ap (λ g. head (tail (tail (tail g)))) p) i)
  scalar_inj (Chain a0 a1 a2) other p = absurd (omega (arith, tags p))
  scalar_inj (CompareTexts a0 a1 a2 a3) (CompareTexts b0 b1 b2 b3) p = λ i. CompareTexts (coded_ℕ.inj a0 b0 (ap (λ g. head (tail g)) p) i) (relation_type.the_row.coded.inj a1 b1 (ap (λ g. head (tail (tail g))) p) i) (text_inj a2 b2 (ap (λ g. head (tail (tail (tail g)))) p) i) (text_inj a3 b3 (ap (λ g. head (tail (tail (tail (tail g))))) p) i)
  scalar_inj (CompareTexts a0 a1 a2 a3) other p = absurd (omega (arith, tags p))
  scalar_inj (CompareSets a0 a1 a2 a3 a4) (CompareSets b0 b1 b2 b3 b4) p = λ i. CompareSets (coded_ℕ.inj a0 b0 (ap (λ g. head (tail g)) p) i) (relation_type.the_row.coded.inj a1 b1 (ap (λ g. head (tail (tail g))) p) i) (base_type.the_row.coded.inj a2 b2 (ap (λ g. head (tail (tail (tail g)))) p) i) (set_inj a3 b3 (ap (λ g. head (tail (tail (tail (tail g))))) p) i) (set_inj a4 b4 (ap (λ g. head (tail (tail (tail (tail (tail g)))))) p) i)
  scalar_inj (CompareSets a0 a1 a2 a3 a4) other p = absurd (omega (arith, tags p))
  scalar_inj (ComparePointers a0 a1 a2 a3) (ComparePointers b0 b1 b2 b3) p = λ i. ComparePointers (coded_ℕ.inj a0 b0 (ap (λ g. head (tail g)) p) i) (coded_bool.inj a1 b1 (ap (λ g. head (tail (tail g))) p) i) (pointer_inj a2 b2 (ap (λ g. head (tail (tail (tail g)))) p) i) (pointer_inj a3 b3 (ap (λ g. head (tail (tail (tail (tail g))))) p) i)
  scalar_inj (ComparePointers a0 a1 a2 a3) other p = absurd (omega (arith, tags p))
  scalar_inj (Member a0 a1 a2 a3 a4) (Member b0 b1 b2 b3 b4) p = λ i. Member (coded_ℕ.inj a0 b0 (ap (λ g. head (tail g)) p) i) (coded_bool.inj a1 b1 (ap (λ g. head (tail (tail g))) p) i) (base_type.the_row.coded.inj a2 b2 (ap (λ g. head (tail (tail (tail g)))) p) i) (scalar_inj a3 b3 (ap (λ g. head (tail (tail (tail (tail g))))) p) i) (set_inj a4 b4 (ap (λ g. head (tail (tail (tail (tail (tail g)))))) p) i)
  scalar_inj (Member a0 a1 a2 a3 a4) other p = absurd (omega (arith, tags p))
  scalar_inj (Length a0 a1) (Length b0 b1) p = λ i. Length (coded_ℕ.inj a0 b0 (ap (λ g. head (tail g)) p) i) (text_inj a1 b1 (ap (λ g. head (tail (tail g))) p) i)
  scalar_inj (Length a0 a1) other p = absurd (omega (arith, tags p))
  scalar_inj (PlaceIn a0 a1 a2) (PlaceIn b0 b1 b2) p = λ i. PlaceIn (coded_ℕ.inj a0 b0 (ap (λ g. head (tail g)) p) i) (text_inj a1 b1 (ap (λ g. head (tail (tail g))) p) i) (text_inj a2 b2 (ap (λ g. head (tail (tail (tail g)))) p) i)
  scalar_inj (PlaceIn a0 a1 a2) other p = absurd (omega (arith, tags p))
  scalar_inj (ByteOf a0 a1) (ByteOf b0 b1) p = λ i. ByteOf (coded_ℕ.inj a0 b0 (ap (λ g. head (tail g)) p) i) (text_inj a1 b1 (ap (λ g. head (tail (tail g))) p) i)
  scalar_inj (ByteOf a0 a1) other p = absurd (omega (arith, tags p))
  scalar_inj (TextInt a0 a1) (TextInt b0 b1) p = λ i. TextInt (coded_ℕ.inj a0 b0 (ap (λ g. head (tail g)) p) i) (text_inj a1 b1 (ap (λ g. head (tail (tail g))) p) i)
  scalar_inj (TextInt a0 a1) other p = absurd (omega (arith, tags p))
  scalar_inj (Bound a0 a1 a2 a3 a4) (Bound b0 b1 b2 b3 b4) p = λ i. Bound (coded_ℕ.inj a0 b0 (ap (λ g. head (tail g)) p) i) (coded_bool.inj a1 b1 (ap (λ g. head (tail (tail g))) p) i) ((coded_list index_type.the_row.coded).inj a2 b2 (ap (λ g. head (tail (tail (tail g)))) p) i) (path_inj a3 b3 (ap (λ g. head (tail (tail (tail (tail g))))) p) i) (optional_inj a4 b4 (ap (λ g. head (tail (tail (tail (tail (tail g)))))) p) i)
  scalar_inj (Bound a0 a1 a2 a3 a4) other p = absurd (omega (arith, tags p))
  scalar_inj (AtEnd a0 a1 a2) (AtEnd b0 b1 b2) p = λ i. AtEnd (coded_ℕ.inj a0 b0 (ap (λ g. head (tail g)) p) i) (at_type.the_row.coded.inj a1 b1 (ap (λ g. head (tail (tail g))) p) i) (optional_inj a2 b2 (ap (λ g. head (tail (tail (tail g)))) p) i)
  scalar_inj (AtEnd a0 a1 a2) other p = absurd (omega (arith, tags p))
  scalar_inj (CallScalar a0 a1) (CallScalar b0 b1) p = λ i. CallScalar (coded_ℕ.inj a0 b0 (ap (λ g. head (tail g)) p) i) (call_inj a1 b1 (ap (λ g. head (tail (tail g))) p) i)
  scalar_inj (CallScalar a0 a1) other p = absurd (omega (arith, tags p))

  pub links_inj : (x y : Links) → links_code x ≡ links_code y → x ≡ y
  links_inj NoLink NoLink p = refl
  links_inj NoLink other p = absurd (omega (arith, tags p))
  links_inj (Link a0 a1 a2) (Link b0 b1 b2) p = λ i. Link (binary_type.the_row.coded.inj a0 b0 (ap (λ g. head (tail g)) p) i) (scalar_inj a1 b1 (ap (λ g. head (tail (tail g))) p) i) (links_inj a2 b2 (ap (λ g. head (tail (tail (tail g)))) p) i)
  links_inj (Link a0 a1 a2) other p = absurd (omega (arith, tags p))
  links_inj (Decide a0 a1 a2) (Decide b0 b1 b2) p = λ i. Decide (junction_type.the_row.coded.inj a0 b0 (ap (λ g. head (tail g)) p) i) (scalar_inj a1 b1 (ap (λ g. head (tail (tail g))) p) i) (links_inj a2 b2 (ap (λ g. head (tail (tail (tail g)))) p) i)
  links_inj (Decide a0 a1 a2) other p = absurd (omega (arith, tags p))

  pub text_inj : (x y : Text) → text_code x ≡ text_code y → x ≡ y
  text_inj (Written a0 a1) (Written b0 b1) p = λ i. Written (coded_ℕ.inj a0 b0 (ap (λ g. head (tail g)) p) i) ((coded_list coded_ℕ).inj a1 b1 (ap (λ g. head (tail (tail g))) p) i)
  text_inj (Written a0 a1) other p = absurd (omega (arith, tags p))
  text_inj (UseText a0 a1) (UseText b0 b1) p = λ i. UseText (coded_ℕ.inj a0 b0 (ap (λ g. head (tail g)) p) i) (path_inj a1 b1 (ap (λ g. head (tail (tail g))) p) i)
  text_inj (UseText a0 a1) other p = absurd (omega (arith, tags p))
  text_inj (Joined a0 a1 a2) (Joined b0 b1 b2) p = λ i. Joined (coded_ℕ.inj a0 b0 (ap (λ g. head (tail g)) p) i) (text_inj a1 b1 (ap (λ g. head (tail (tail g))) p) i) (texts_inj a2 b2 (ap (λ g. head (tail (tail (tail g)))) p) i)
  text_inj (Joined a0 a1 a2) other p = absurd (omega (arith, tags p))
  text_inj (Cut a0 a1 a2) (Cut b0 b1 b2) p = λ i. Cut (coded_ℕ.inj a0 b0 (ap (λ g. head (tail g)) p) i) (text_inj a1 b1 (ap (λ g. head (tail (tail g))) p) i) (cuts_inj a2 b2 (ap (λ g. head (tail (tail (tail g)))) p) i)
  text_inj (Cut a0 a1 a2) other p = absurd (omega (arith, tags p))
  text_inj (Character a0 a1) (Character b0 b1) p = λ i. Character (coded_ℕ.inj a0 b0 (ap (λ g. head (tail g)) p) i) (scalar_inj a1 b1 (ap (λ g. head (tail (tail g))) p) i)
  text_inj (Character a0 a1) other p = absurd (omega (arith, tags p))
  text_inj (IntText a0 a1 a2) (IntText b0 b1 b2) p = λ i. IntText (coded_ℕ.inj a0 b0 (ap (λ g. head (tail g)) p) i) (scalar_inj a1 b1 (ap (λ g. head (tail (tail g))) p) i) (optional_inj a2 b2 (ap (λ g. head (tail (tail (tail g)))) p) i)
  text_inj (IntText a0 a1 a2) other p = absurd (omega (arith, tags p))
  text_inj (Repeat a0 a1 a2) (Repeat b0 b1 b2) p = λ i. Repeat (coded_ℕ.inj a0 b0 (ap (λ g. head (tail g)) p) i) (text_inj a1 b1 (ap (λ g. head (tail (tail g))) p) i) (scalar_inj a2 b2 (ap (λ g. head (tail (tail (tail g)))) p) i)
  text_inj (Repeat a0 a1 a2) other p = absurd (omega (arith, tags p))
  text_inj (CallText a0 a1) (CallText b0 b1) p = λ i. CallText (coded_ℕ.inj a0 b0 (ap (λ g. head (tail g)) p) i) (call_inj a1 b1 (ap (λ g. head (tail (tail g))) p) i)
  text_inj (CallText a0 a1) other p = absurd (omega (arith, tags p))

  pub texts_inj : (x y : Texts) → texts_code x ≡ texts_code y → x ≡ y
  texts_inj NoText NoText p = refl
  texts_inj NoText other p = absurd (omega (arith, tags p))
  texts_inj (AndText a0 a1) (AndText b0 b1) p = λ i. AndText (text_inj a0 b0 (ap (λ g. head (tail g)) p) i) (texts_inj a1 b1 (ap (λ g. head (tail (tail g))) p) i)
  texts_inj (AndText a0 a1) other p = absurd (omega (arith, tags p))

  pub cuts_inj : (x y : Cuts) → cuts_code x ≡ cuts_code y → x ≡ y
  cuts_inj NoCut NoCut p = refl
  cuts_inj NoCut other p = absurd (omega (arith, tags p))
  cuts_inj (CutCharacter a0 a1) (CutCharacter b0 b1) p = λ i. CutCharacter (spot_inj a0 b0 (ap (λ g. head (tail g)) p) i) (cuts_inj a1 b1 (ap (λ g. head (tail (tail g))) p) i)
  cuts_inj (CutCharacter a0 a1) other p = absurd (omega (arith, tags p))
  cuts_inj (CutPart a0 a1 a2) (CutPart b0 b1 b2) p = λ i. CutPart (spot_inj a0 b0 (ap (λ g. head (tail g)) p) i) (spot_inj a1 b1 (ap (λ g. head (tail (tail g))) p) i) (cuts_inj a2 b2 (ap (λ g. head (tail (tail (tail g)))) p) i)
  cuts_inj (CutPart a0 a1 a2) other p = absurd (omega (arith, tags p))

  pub spot_inj : (x y : Spot) → spot_code x ≡ spot_code y → x ≡ y
  spot_inj (Exactly a0) (Exactly b0) p = λ i. Exactly (scalar_inj a0 b0 (ap (λ g. head (tail g)) p) i)
  spot_inj (Exactly a0) other p = absurd (omega (arith, tags p))
  spot_inj Last Last p = refl
  spot_inj Last other p = absurd (omega (arith, tags p))
  spot_inj (BeforeLast a0) (BeforeLast b0) p = λ i. BeforeLast (scalar_inj a0 b0 (ap (λ g. head (tail g)) p) i)
  spot_inj (BeforeLast a0) other p = absurd (omega (arith, tags p))

  pub set_inj : (x y : Set) → set_code x ≡ set_code y → x ≡ y
  set_inj (SetOf a0 a1 a2) (SetOf b0 b1 b2) p = λ i. SetOf (coded_ℕ.inj a0 b0 (ap (λ g. head (tail g)) p) i) (base_type.the_row.coded.inj a1 b1 (ap (λ g. head (tail (tail g))) p) i) (scalars_inj a2 b2 (ap (λ g. head (tail (tail (tail g)))) p) i)
  set_inj (SetOf a0 a1 a2) other p = absurd (omega (arith, tags p))
  set_inj (FullSet a0 a1) (FullSet b0 b1) p = λ i. FullSet (coded_ℕ.inj a0 b0 (ap (λ g. head (tail g)) p) i) (base_type.the_row.coded.inj a1 b1 (ap (λ g. head (tail (tail g))) p) i)
  set_inj (FullSet a0 a1) other p = absurd (omega (arith, tags p))
  set_inj (UseSet a0 a1) (UseSet b0 b1) p = λ i. UseSet (coded_ℕ.inj a0 b0 (ap (λ g. head (tail g)) p) i) (path_inj a1 b1 (ap (λ g. head (tail (tail g))) p) i)
  set_inj (UseSet a0 a1) other p = absurd (omega (arith, tags p))
  set_inj (Combined a0 a1 a2 a3) (Combined b0 b1 b2 b3) p = λ i. Combined (coded_ℕ.inj a0 b0 (ap (λ g. head (tail g)) p) i) (base_type.the_row.coded.inj a1 b1 (ap (λ g. head (tail (tail g))) p) i) (set_inj a2 b2 (ap (λ g. head (tail (tail (tail g)))) p) i) (combinations_inj a3 b3 (ap (λ g. head (tail (tail (tail (tail g))))) p) i)
  set_inj (Combined a0 a1 a2 a3) other p = absurd (omega (arith, tags p))
  set_inj (CallSet a0 a1) (CallSet b0 b1) p = λ i. CallSet (coded_ℕ.inj a0 b0 (ap (λ g. head (tail g)) p) i) (call_inj a1 b1 (ap (λ g. head (tail (tail g))) p) i)
  set_inj (CallSet a0 a1) other p = absurd (omega (arith, tags p))

  pub combinations_inj : (x y : Combinations) → combinations_code x ≡ combinations_code y → x ≡ y
  combinations_inj NoSet NoSet p = refl
  combinations_inj NoSet other p = absurd (omega (arith, tags p))
  combinations_inj (AndSet a0 a1 a2) (AndSet b0 b1 b2) p = λ i. AndSet (combination_type.the_row.coded.inj a0 b0 (ap (λ g. head (tail g)) p) i) (set_inj a1 b1 (ap (λ g. head (tail (tail g))) p) i) (combinations_inj a2 b2 (ap (λ g. head (tail (tail (tail g)))) p) i)
  combinations_inj (AndSet a0 a1 a2) other p = absurd (omega (arith, tags p))

  pub pointer_inj : (x y : Pointer) → pointer_code x ≡ pointer_code y → x ≡ y
  pointer_inj (Nil a0 a1 a2) (Nil b0 b1 b2) p = λ i. Nil (coded_ℕ.inj a0 b0 (ap (λ g. head (tail g)) p) i) (at_type.the_row.coded.inj a1 b1 (ap (λ g. head (tail (tail g))) p) i) (coded_ℕ.inj a2 b2 (ap (λ g. head (tail (tail (tail g)))) p) i)
  pointer_inj (Nil a0 a1 a2) other p = absurd (omega (arith, tags p))
  pointer_inj (UsePointer a0 a1) (UsePointer b0 b1) p = λ i. UsePointer (coded_ℕ.inj a0 b0 (ap (λ g. head (tail g)) p) i) (path_inj a1 b1 (ap (λ g. head (tail (tail g))) p) i)
  pointer_inj (UsePointer a0 a1) other p = absurd (omega (arith, tags p))
  pointer_inj (CallPointer a0 a1) (CallPointer b0 b1) p = λ i. CallPointer (coded_ℕ.inj a0 b0 (ap (λ g. head (tail g)) p) i) (call_inj a1 b1 (ap (λ g. head (tail (tail g))) p) i)
  pointer_inj (CallPointer a0 a1) other p = absurd (omega (arith, tags p))

  pub scalars_inj : (x y : Scalars) → scalars_code x ≡ scalars_code y → x ≡ y
  scalars_inj NoScalar NoScalar p = refl
  scalars_inj NoScalar other p = absurd (omega (arith, tags p))
  scalars_inj (AndScalar a0 a1) (AndScalar b0 b1) p = λ i. AndScalar (scalar_inj a0 b0 (ap (λ g. head (tail g)) p) i) (scalars_inj a1 b1 (ap (λ g. head (tail (tail g))) p) i)
  scalars_inj (AndScalar a0 a1) other p = absurd (omega (arith, tags p))

  pub optional_inj : (x y : Optional) → optional_code x ≡ optional_code y → x ≡ y
  optional_inj Absent Absent p = refl
  optional_inj Absent other p = absurd (omega (arith, tags p))
  optional_inj (Present a0) (Present b0) p = λ i. Present (scalar_inj a0 b0 (ap (λ g. head (tail g)) p) i)
  optional_inj (Present a0) other p = absurd (omega (arith, tags p))

  pub path_inj : (x y : Path) → path_code x ≡ path_code y → x ≡ y
  path_inj (Name a0 a1 a2) (Name b0 b1 b2) p = λ i. Name (at_type.the_row.coded.inj a0 b0 (ap (λ g. head (tail g)) p) i) (variable_type.the_row.coded.inj a1 b1 (ap (λ g. head (tail (tail g))) p) i) (selectors_inj a2 b2 (ap (λ g. head (tail (tail (tail g)))) p) i)
  path_inj (Name a0 a1 a2) other p = absurd (omega (arith, tags p))
  path_inj (OpenItem a0 a1 a2 a3 a4) (OpenItem b0 b1 b2 b3 b4) p = λ i. OpenItem (at_type.the_row.coded.inj a0 b0 (ap (λ g. head (tail g)) p) i) (variable_type.the_row.coded.inj a1 b1 (ap (λ g. head (tail (tail g))) p) i) ((coded_list index_type.the_row.coded).inj a2 b2 (ap (λ g. head (tail (tail (tail g)))) p) i) (subscripts_inj a3 b3 (ap (λ g. head (tail (tail (tail (tail g))))) p) i) (selectors_inj a4 b4 (ap (λ g. head (tail (tail (tail (tail (tail g)))))) p) i)
  path_inj (OpenItem a0 a1 a2 a3 a4) other p = absurd (omega (arith, tags p))
  path_inj (Element a0 a1 a2 a3) (Element b0 b1 b2 b3) p = λ i. Element (at_type.the_row.coded.inj a0 b0 (ap (λ g. head (tail g)) p) i) (coded_ℕ.inj a1 b1 (ap (λ g. head (tail (tail g))) p) i) (pointer_inj a2 b2 (ap (λ g. head (tail (tail (tail g)))) p) i) (selectors_inj a3 b3 (ap (λ g. head (tail (tail (tail (tail g))))) p) i)
  path_inj (Element a0 a1 a2 a3) other p = absurd (omega (arith, tags p))
  path_inj (ResultOf a0 a1 a2 a3) (ResultOf b0 b1 b2 b3) p = λ i. ResultOf (at_type.the_row.coded.inj a0 b0 (ap (λ g. head (tail g)) p) i) (coded_ℕ.inj a1 b1 (ap (λ g. head (tail (tail g))) p) i) (call_inj a2 b2 (ap (λ g. head (tail (tail (tail g)))) p) i) (selectors_inj a3 b3 (ap (λ g. head (tail (tail (tail (tail g))))) p) i)
  path_inj (ResultOf a0 a1 a2 a3) other p = absurd (omega (arith, tags p))

  pub selectors_inj : (x y : Selectors) → selectors_code x ≡ selectors_code y → x ≡ y
  selectors_inj End End p = refl
  selectors_inj End other p = absurd (omega (arith, tags p))
  selectors_inj (Field a0 a1 a2) (Field b0 b1 b2) p = λ i. Field (coded_ℕ.inj a0 b0 (ap (λ g. head (tail g)) p) i) (coded_ℕ.inj a1 b1 (ap (λ g. head (tail (tail g))) p) i) (selectors_inj a2 b2 (ap (λ g. head (tail (tail (tail g)))) p) i)
  selectors_inj (Field a0 a1 a2) other p = absurd (omega (arith, tags p))
  selectors_inj (VariantField a0 a1 a2) (VariantField b0 b1 b2) p = λ i. VariantField (coded_ℕ.inj a0 b0 (ap (λ g. head (tail g)) p) i) (coded_ℕ.inj a1 b1 (ap (λ g. head (tail (tail g))) p) i) (selectors_inj a2 b2 (ap (λ g. head (tail (tail (tail g)))) p) i)
  selectors_inj (VariantField a0 a1 a2) other p = absurd (omega (arith, tags p))
  selectors_inj (Item a0 a1 a2) (Item b0 b1 b2) p = λ i. Item (coded_ℕ.inj a0 b0 (ap (λ g. head (tail g)) p) i) (subscripts_inj a1 b1 (ap (λ g. head (tail (tail g))) p) i) (selectors_inj a2 b2 (ap (λ g. head (tail (tail (tail g)))) p) i)
  selectors_inj (Item a0 a1 a2) other p = absurd (omega (arith, tags p))

  pub subscripts_inj : (x y : Subscripts) → subscripts_code x ≡ subscripts_code y → x ≡ y
  subscripts_inj NoSubscript NoSubscript p = refl
  subscripts_inj NoSubscript other p = absurd (omega (arith, tags p))
  subscripts_inj (Subscript a0 a1 a2) (Subscript b0 b1 b2) p = λ i. Subscript ((coded_option coded_ℤ).inj a0 b0 (ap (λ g. head (tail g)) p) i) (scalar_inj a1 b1 (ap (λ g. head (tail (tail g))) p) i) (subscripts_inj a2 b2 (ap (λ g. head (tail (tail (tail g)))) p) i)
  subscripts_inj (Subscript a0 a1 a2) other p = absurd (omega (arith, tags p))

  pub call_inj : (x y : Call) → call_code x ≡ call_code y → x ≡ y
  call_inj (Calls a0 a1 a2 a3) (Calls b0 b1 b2 b3) p = λ i. Calls (at_type.the_row.coded.inj a0 b0 (ap (λ g. head (tail g)) p) i) (coded_ℕ.inj a1 b1 (ap (λ g. head (tail (tail g))) p) i) ((coded_option coded_ℕ).inj a2 b2 (ap (λ g. head (tail (tail (tail g)))) p) i) (actuals_inj a3 b3 (ap (λ g. head (tail (tail (tail (tail g))))) p) i)

  pub actuals_inj : (x y : Actuals) → actuals_code x ≡ actuals_code y → x ≡ y
  actuals_inj NoActual NoActual p = refl
  actuals_inj NoActual other p = absurd (omega (arith, tags p))
  actuals_inj (Given a0 a1 a2 a3) (Given b0 b1 b2 b3) p = λ i. Given (at_type.the_row.coded.inj a0 b0 (ap (λ g. head (tail g)) p) i) ((coded_option coded_ℕ).inj a1 b1 (ap (λ g. head (tail (tail g))) p) i) (simple_inj a2 b2 (ap (λ g. head (tail (tail (tail g)))) p) i) (actuals_inj a3 b3 (ap (λ g. head (tail (tail (tail (tail g))))) p) i)
  actuals_inj (Given a0 a1 a2 a3) other p = absurd (omega (arith, tags p))
  actuals_inj (Lent a0 a1 a2 a3 a4) (Lent b0 b1 b2 b3 b4) p = λ i. Lent (at_type.the_row.coded.inj a0 b0 (ap (λ g. head (tail g)) p) i) (coded_bool.inj a1 b1 (ap (λ g. head (tail (tail g))) p) i) ((coded_option (coded_list coded_ℤ)).inj a2 b2 (ap (λ g. head (tail (tail (tail g)))) p) i) (path_inj a3 b3 (ap (λ g. head (tail (tail (tail (tail g))))) p) i) (actuals_inj a4 b4 (ap (λ g. head (tail (tail (tail (tail (tail g)))))) p) i)
  actuals_inj (Lent a0 a1 a2 a3 a4) other p = absurd (omega (arith, tags p))

  pub simple_inj : (x y : Simple) → simple_code x ≡ simple_code y → x ≡ y
  simple_inj (AScalar a0) (AScalar b0) p = λ i. AScalar (scalar_inj a0 b0 (ap (λ g. head (tail g)) p) i)
  simple_inj (AScalar a0) other p = absurd (omega (arith, tags p))
  simple_inj (AText a0) (AText b0) p = λ i. AText (text_inj a0 b0 (ap (λ g. head (tail g)) p) i)
  simple_inj (AText a0) other p = absurd (omega (arith, tags p))
  simple_inj (ASet a0) (ASet b0) p = λ i. ASet (set_inj a0 b0 (ap (λ g. head (tail g)) p) i)
  simple_inj (ASet a0) other p = absurd (omega (arith, tags p))
  simple_inj (APointer a0) (APointer b0) p = λ i. APointer (pointer_inj a0 b0 (ap (λ g. head (tail g)) p) i)
  simple_inj (APointer a0) other p = absurd (omega (arith, tags p))

abbrev pub coded_scalar : Coded Scalar
coded_scalar = record { code = scalar_code; inj = scalar_inj }

abbrev pub coded_links : Coded Links
coded_links = record { code = links_code; inj = links_inj }

abbrev pub coded_text : Coded Text
coded_text = record { code = text_code; inj = text_inj }

abbrev pub coded_texts : Coded Texts
coded_texts = record { code = texts_code; inj = texts_inj }

abbrev pub coded_cuts : Coded Cuts
coded_cuts = record { code = cuts_code; inj = cuts_inj }

abbrev pub coded_spot : Coded Spot
coded_spot = record { code = spot_code; inj = spot_inj }

abbrev pub coded_set : Coded Set
coded_set = record { code = set_code; inj = set_inj }

abbrev pub coded_combinations : Coded Combinations
coded_combinations = record { code = combinations_code; inj = combinations_inj }

abbrev pub coded_pointer : Coded Pointer
coded_pointer = record { code = pointer_code; inj = pointer_inj }

abbrev pub coded_scalars : Coded Scalars
coded_scalars = record { code = scalars_code; inj = scalars_inj }

abbrev pub coded_optional : Coded Optional
coded_optional = record { code = optional_code; inj = optional_inj }

abbrev pub coded_path : Coded Path
coded_path = record { code = path_code; inj = path_inj }

abbrev pub coded_selectors : Coded Selectors
coded_selectors = record { code = selectors_code; inj = selectors_inj }

abbrev pub coded_subscripts : Coded Subscripts
coded_subscripts = record { code = subscripts_code; inj = subscripts_inj }

abbrev pub coded_call : Coded Call
coded_call = record { code = call_code; inj = call_inj }

abbrev pub coded_actuals : Coded Actuals
coded_actuals = record { code = actuals_code; inj = actuals_inj }

abbrev pub coded_simple : Coded Simple
coded_simple = record { code = simple_code; inj = simple_inj }
