-- How statements are stored, which tells a proof that different ones are not equal.
use Rattle.std.specs.Prelude.{◌≡◌, refl}
use Rattle.std.proofs.Common.{ap, arith}
use Rattle.std.specs.Coded.{Coded, code_by, coded_bool, coded_list, coded_option, coded_ℕ, coded_ℤ, coded×}
use base.Stored.{Gv, gnil, gnum, gcons}
use Rattle.tu_base.specs.contracts.shape.Span as span_type
use Rattle.tu_core.specs.contracts.claim.Claim as claim_type
use Rattle.tu_core.specs.contracts.names.At as at_type
use Rattle.tu_core.specs.contracts.names.Variable as variable_type
use Rattle.tu_core.specs.contracts.targets.Index as index_type
use Rattle.tu_core.specs.contracts.targets.Size as size_type
use Rattle.tu_core.specs.contracts.targets.Target as target_type
use Rattle.tu_core.specs.declared.names.At.{At}
use Rattle.tu_core.specs.declared.claim.Claim.{Claim}
use Rattle.tu_core.specs.declared.names.Variable.{Variable}
use Rattle.tu_core.specs.Core.{Start, WithValue, WithCopy, WithParts, Starts, NoStart, AndStart, Range, FromTo, Through, Shown, NoneShown, ShowInt, ShowTruth, ShowText, Taken, NoneTaken, TakeInt, TakeTruth, TakeToken, TakeLine, TakeCount, Test, Plain, Assign, Copy, Exit, Return, Give, GiveCopy, Check, New, Free, Tag, Put, Get, OpenStream, Close, Do, Quit, Named, Declaration, Constant, InitClause, Variables, Started, Arrays, Collections, Mention, Statement, Simply, If, Loop, For, Case, Begin, Module, Block, Empty, Then, Declare, Bind, Otherwise, Else, Elsif, Arms, NoArm, Default, Labelled, Scalar}
use Rattle.tu_core_expressions.specs.Stored.{head, tail, tags}
use Rattle.tu_core_expressions.specs.ExpressionCodes.{coded_call, coded_optional, coded_path, coded_scalar, coded_scalars, coded_simple, coded_text}

abbrev mutual
  pub start_code : Start → Gv
  start_code (WithValue a0 a1) = gcons (gnum 0) (gcons (target_type.the_row.coded.code a0) (gcons (coded_simple.code a1) gnil))
  start_code (WithCopy a0 a1) = gcons (gnum 1) (gcons (coded_ℕ.code a0) (gcons (coded_path.code a1) gnil))
  start_code (WithParts a0 a1) = gcons (gnum 2) (gcons (coded_ℕ.code a0) (gcons (starts_code a1) gnil))

  pub starts_code : Starts → Gv
  starts_code NoStart = gcons (gnum 0) gnil
  starts_code (AndStart a0 a1) = gcons (gnum 1) (gcons (start_code a0) (gcons (starts_code a1) gnil))

mutual
  pub start_inj : (x y : Start) → start_code x ≡ start_code y → x ≡ y
  start_inj (WithValue a0 a1) (WithValue b0 b1) p = λ i. WithValue (target_type.the_row.coded.inj a0 b0 (ap (λ g. head (tail g)) p) i) (coded_simple.inj a1 b1 (ap (λ g. head (tail (tail g))) p) i)
  start_inj (WithValue a0 a1) other p = absurd (omega (arith, tags p))
  start_inj (WithCopy a0 a1) (WithCopy b0 b1) p = λ i. WithCopy (coded_ℕ.inj a0 b0 (ap (λ g. head (tail g)) p) i) (coded_path.inj a1 b1 (ap (λ g. head (tail (tail g))) p) i)
  start_inj (WithCopy a0 a1) other p = absurd (omega (arith, tags p))
  start_inj (WithParts a0 a1) (WithParts b0 b1) p = λ i. WithParts (coded_ℕ.inj a0 b0 (ap (λ g. head (tail g)) p) i) (starts_inj a1 b1 (ap (λ g. head (tail (tail g))) p) i)
  start_inj (WithParts a0 a1) other p = absurd (omega (arith, tags p))

  pub starts_inj : (x y : Starts) → starts_code x ≡ starts_code y → x ≡ y
  starts_inj NoStart NoStart p = refl
  starts_inj NoStart other p = absurd (omega (arith, tags p))
  starts_inj (AndStart a0 a1) (AndStart b0 b1) p = λ i. AndStart (start_inj a0 b0 (ap (λ g. head (tail g)) p) i) (starts_inj a1 b1 (ap (λ g. head (tail (tail g))) p) i)
  starts_inj (AndStart a0 a1) other p = absurd (omega (arith, tags p))

abbrev pub coded_start : Coded Start
coded_start = record { code = start_code; inj = start_inj }

abbrev pub coded_starts : Coded Starts
coded_starts = record { code = starts_code; inj = starts_inj }

abbrev pub range_code : Range → Gv
range_code (FromTo a0 a1) = gcons (gnum 0) (gcons (coded_scalar.code a0) (gcons (coded_scalar.code a1) gnil))
range_code (Through a0) = gcons (gnum 1) (gcons (span_type.the_row.coded.code a0) gnil)

pub range_inj : (x y : Range) → range_code x ≡ range_code y → x ≡ y
range_inj (FromTo a0 a1) (FromTo b0 b1) p = λ i. FromTo (coded_scalar.inj a0 b0 (ap (λ g. head (tail g)) p) i) (coded_scalar.inj a1 b1 (ap (λ g. head (tail (tail g))) p) i)
range_inj (FromTo a0 a1) other p = absurd (omega (arith, tags p))
range_inj (Through a0) (Through b0) p = λ i. Through (span_type.the_row.coded.inj a0 b0 (ap (λ g. head (tail g)) p) i)
range_inj (Through a0) other p = absurd (omega (arith, tags p))

abbrev pub coded_range : Coded Range
coded_range = record { code = range_code; inj = range_inj }

abbrev pub shown_code : Shown → Gv
shown_code NoneShown = gcons (gnum 0) gnil
shown_code (ShowInt a0 a1 a2) = gcons (gnum 1) (gcons (coded_scalar.code a0) (gcons (coded_optional.code a1) (gcons (shown_code a2) gnil)))
shown_code (ShowTruth a0 a1 a2) = gcons (gnum 2) (gcons (coded_scalar.code a0) (gcons (coded_optional.code a1) (gcons (shown_code a2) gnil)))
shown_code (ShowText a0 a1 a2) = gcons (gnum 3) (gcons (coded_text.code a0) (gcons (coded_optional.code a1) (gcons (shown_code a2) gnil)))

pub shown_inj : (x y : Shown) → shown_code x ≡ shown_code y → x ≡ y
shown_inj NoneShown NoneShown p = refl
shown_inj NoneShown other p = absurd (omega (arith, tags p))
shown_inj (ShowInt a0 a1 a2) (ShowInt b0 b1 b2) p = λ i. ShowInt (coded_scalar.inj a0 b0 (ap (λ g. head (tail g)) p) i) (coded_optional.inj a1 b1 (ap (λ g. head (tail (tail g))) p) i) (shown_inj a2 b2 (ap (λ g. head (tail (tail (tail g)))) p) i)
shown_inj (ShowInt a0 a1 a2) other p = absurd (omega (arith, tags p))
shown_inj (ShowTruth a0 a1 a2) (ShowTruth b0 b1 b2) p = λ i. ShowTruth (coded_scalar.inj a0 b0 (ap (λ g. head (tail g)) p) i) (coded_optional.inj a1 b1 (ap (λ g. head (tail (tail g))) p) i) (shown_inj a2 b2 (ap (λ g. head (tail (tail (tail g)))) p) i)
shown_inj (ShowTruth a0 a1 a2) other p = absurd (omega (arith, tags p))
shown_inj (ShowText a0 a1 a2) (ShowText b0 b1 b2) p = λ i. ShowText (coded_text.inj a0 b0 (ap (λ g. head (tail g)) p) i) (coded_optional.inj a1 b1 (ap (λ g. head (tail (tail g))) p) i) (shown_inj a2 b2 (ap (λ g. head (tail (tail (tail g)))) p) i)
shown_inj (ShowText a0 a1 a2) other p = absurd (omega (arith, tags p))

abbrev pub coded_shown : Coded Shown
coded_shown = record { code = shown_code; inj = shown_inj }

abbrev pub taken_code : Taken → Gv
taken_code NoneTaken = gcons (gnum 0) gnil
taken_code (TakeInt a0 a1 a2) = gcons (gnum 1) (gcons (span_type.the_row.coded.code a0) (gcons (coded_path.code a1) (gcons (taken_code a2) gnil)))
taken_code (TakeTruth a0 a1) = gcons (gnum 2) (gcons (coded_path.code a0) (gcons (taken_code a1) gnil))
taken_code (TakeToken a0 a1 a2) = gcons (gnum 3) (gcons (size_type.the_row.coded.code a0) (gcons (coded_path.code a1) (gcons (taken_code a2) gnil)))
taken_code (TakeLine a0 a1 a2) = gcons (gnum 4) (gcons (size_type.the_row.coded.code a0) (gcons (coded_path.code a1) (gcons (taken_code a2) gnil)))
taken_code (TakeCount a0 a1 a2 a3) = gcons (gnum 5) (gcons (size_type.the_row.coded.code a0) (gcons (coded_path.code a1) (gcons (coded_scalar.code a2) (gcons (taken_code a3) gnil))))

pub taken_inj : (x y : Taken) → taken_code x ≡ taken_code y → x ≡ y
taken_inj NoneTaken NoneTaken p = refl
taken_inj NoneTaken other p = absurd (omega (arith, tags p))
taken_inj (TakeInt a0 a1 a2) (TakeInt b0 b1 b2) p = λ i. TakeInt (span_type.the_row.coded.inj a0 b0 (ap (λ g. head (tail g)) p) i) (coded_path.inj a1 b1 (ap (λ g. head (tail (tail g))) p) i) (taken_inj a2 b2 (ap (λ g. head (tail (tail (tail g)))) p) i)
taken_inj (TakeInt a0 a1 a2) other p = absurd (omega (arith, tags p))
taken_inj (TakeTruth a0 a1) (TakeTruth b0 b1) p = λ i. TakeTruth (coded_path.inj a0 b0 (ap (λ g. head (tail g)) p) i) (taken_inj a1 b1 (ap (λ g. head (tail (tail g))) p) i)
taken_inj (TakeTruth a0 a1) other p = absurd (omega (arith, tags p))
taken_inj (TakeToken a0 a1 a2) (TakeToken b0 b1 b2) p = λ i. TakeToken (size_type.the_row.coded.inj a0 b0 (ap (λ g. head (tail g)) p) i) (coded_path.inj a1 b1 (ap (λ g. head (tail (tail g))) p) i) (taken_inj a2 b2 (ap (λ g. head (tail (tail (tail g)))) p) i)
taken_inj (TakeToken a0 a1 a2) other p = absurd (omega (arith, tags p))
taken_inj (TakeLine a0 a1 a2) (TakeLine b0 b1 b2) p = λ i. TakeLine (size_type.the_row.coded.inj a0 b0 (ap (λ g. head (tail g)) p) i) (coded_path.inj a1 b1 (ap (λ g. head (tail (tail g))) p) i) (taken_inj a2 b2 (ap (λ g. head (tail (tail (tail g)))) p) i)
taken_inj (TakeLine a0 a1 a2) other p = absurd (omega (arith, tags p))
taken_inj (TakeCount a0 a1 a2 a3) (TakeCount b0 b1 b2 b3) p = λ i. TakeCount (size_type.the_row.coded.inj a0 b0 (ap (λ g. head (tail g)) p) i) (coded_path.inj a1 b1 (ap (λ g. head (tail (tail g))) p) i) (coded_scalar.inj a2 b2 (ap (λ g. head (tail (tail (tail g)))) p) i) (taken_inj a3 b3 (ap (λ g. head (tail (tail (tail (tail g))))) p) i)
taken_inj (TakeCount a0 a1 a2 a3) other p = absurd (omega (arith, tags p))

abbrev pub coded_taken : Coded Taken
coded_taken = record { code = taken_code; inj = taken_inj }

-- a record as its fields
abbrev pub coded_test : Coded Test
coded_test =
    code_by (At × (Claim × Scalar)) (coded× at_type.the_row.coded (coded× claim_type.the_row.coded coded_scalar))
    (λ r. (r.at, (r.claim, r.condition))) (λ p. record { at = p.0; claim = p.1.0; condition = p.1.1 }) (λ _. refl)

abbrev pub plain_code : Plain → Gv
plain_code (Assign a0 a1 a2) = gcons (gnum 0) (gcons (target_type.the_row.coded.code a0) (gcons (coded_path.code a1) (gcons (coded_simple.code a2) gnil)))
plain_code (Copy a0 a1 a2) = gcons (gnum 1) (gcons (coded_ℕ.code a0) (gcons (coded_path.code a1) (gcons (coded_path.code a2) gnil)))
plain_code (Exit a0) = gcons (gnum 2) (gcons (coded_optional.code a0) gnil)
plain_code Return = gcons (gnum 3) gnil
plain_code (Give a0 a1) = gcons (gnum 4) (gcons (target_type.the_row.coded.code a0) (gcons (coded_simple.code a1) gnil))
plain_code (GiveCopy a0 a1) = gcons (gnum 5) (gcons (coded_ℕ.code a0) (gcons (coded_path.code a1) gnil))
plain_code (Check a0 a1) = gcons (gnum 6) (gcons (claim_type.the_row.coded.code a0) (gcons (coded_scalar.code a1) gnil))
plain_code (New a0 a1 a2) = gcons (gnum 7) (gcons (coded_ℕ.code a0) (gcons (at_type.the_row.coded.code a1) (gcons (coded_path.code a2) gnil)))
plain_code (Free a0 a1 a2) = gcons (gnum 8) (gcons (coded_ℕ.code a0) (gcons (at_type.the_row.coded.code a1) (gcons (coded_path.code a2) gnil)))
plain_code (Tag a0 a1 a2) = gcons (gnum 9) (gcons (coded_ℕ.code a0) (gcons (coded_path.code a1) (gcons (coded_scalar.code a2) gnil)))
plain_code (Put a0 a1 a2) = gcons (gnum 10) (gcons (coded_optional.code a0) (gcons (coded_shown.code a1) (gcons (coded_bool.code a2) gnil)))
plain_code (Get a0 a1) = gcons (gnum 11) (gcons (coded_optional.code a0) (gcons (coded_taken.code a1) gnil))
plain_code (OpenStream a0 a1 a2 a3) = gcons (gnum 12) (gcons (span_type.the_row.coded.code a0) (gcons (coded_path.code a1) (gcons (coded_text.code a2) (gcons (coded_bool.code a3) gnil))))
plain_code (Close a0) = gcons (gnum 13) (gcons (coded_scalar.code a0) gnil)
plain_code (Do a0) = gcons (gnum 14) (gcons (coded_call.code a0) gnil)
plain_code (Quit a0) = gcons (gnum 15) (gcons (coded_optional.code a0) gnil)

pub plain_inj : (x y : Plain) → plain_code x ≡ plain_code y → x ≡ y
plain_inj (Assign a0 a1 a2) (Assign b0 b1 b2) p = λ i. Assign (target_type.the_row.coded.inj a0 b0 (ap (λ g. head (tail g)) p) i) (coded_path.inj a1 b1 (ap (λ g. head (tail (tail g))) p) i) (coded_simple.inj a2 b2 (ap (λ g. head (tail (tail (tail g)))) p) i)
plain_inj (Assign a0 a1 a2) other p = absurd (omega (arith, tags p))
plain_inj (Copy a0 a1 a2) (Copy b0 b1 b2) p = λ i. Copy (coded_ℕ.inj a0 b0 (ap (λ g. head (tail g)) p) i) (coded_path.inj a1 b1 (ap (λ g. head (tail (tail g))) p) i) (coded_path.inj a2 b2 (ap (λ g. head (tail (tail (tail g)))) p) i)
plain_inj (Copy a0 a1 a2) other p = absurd (omega (arith, tags p))
plain_inj (Exit a0) (Exit b0) p = λ i. Exit (coded_optional.inj a0 b0 (ap (λ g. head (tail g)) p) i)
plain_inj (Exit a0) other p = absurd (omega (arith, tags p))
plain_inj Return Return p = refl
plain_inj Return other p = absurd (omega (arith, tags p))
plain_inj (Give a0 a1) (Give b0 b1) p = λ i. Give (target_type.the_row.coded.inj a0 b0 (ap (λ g. head (tail g)) p) i) (coded_simple.inj a1 b1 (ap (λ g. head (tail (tail g))) p) i)
plain_inj (Give a0 a1) other p = absurd (omega (arith, tags p))
plain_inj (GiveCopy a0 a1) (GiveCopy b0 b1) p = λ i. GiveCopy (coded_ℕ.inj a0 b0 (ap (λ g. head (tail g)) p) i) (coded_path.inj a1 b1 (ap (λ g. head (tail (tail g))) p) i)
plain_inj (GiveCopy a0 a1) other p = absurd (omega (arith, tags p))
plain_inj (Check a0 a1) (Check b0 b1) p = λ i. Check (claim_type.the_row.coded.inj a0 b0 (ap (λ g. head (tail g)) p) i) (coded_scalar.inj a1 b1 (ap (λ g. head (tail (tail g))) p) i)
plain_inj (Check a0 a1) other p = absurd (omega (arith, tags p))
plain_inj (New a0 a1 a2) (New b0 b1 b2) p = λ i. New (coded_ℕ.inj a0 b0 (ap (λ g. head (tail g)) p) i) (at_type.the_row.coded.inj a1 b1 (ap (λ g. head (tail (tail g))) p) i) (coded_path.inj a2 b2 (ap (λ g. head (tail (tail (tail g)))) p) i)
plain_inj (New a0 a1 a2) other p = absurd (omega (arith, tags p))
plain_inj (Free a0 a1 a2) (Free b0 b1 b2) p = λ i. Free (coded_ℕ.inj a0 b0 (ap (λ g. head (tail g)) p) i) (at_type.the_row.coded.inj a1 b1 (ap (λ g. head (tail (tail g))) p) i) (coded_path.inj a2 b2 (ap (λ g. head (tail (tail (tail g)))) p) i)
plain_inj (Free a0 a1 a2) other p = absurd (omega (arith, tags p))
plain_inj (Tag a0 a1 a2) (Tag b0 b1 b2) p = λ i. Tag (coded_ℕ.inj a0 b0 (ap (λ g. head (tail g)) p) i) (coded_path.inj a1 b1 (ap (λ g. head (tail (tail g))) p) i) (coded_scalar.inj a2 b2 (ap (λ g. head (tail (tail (tail g)))) p) i)
plain_inj (Tag a0 a1 a2) other p = absurd (omega (arith, tags p))
plain_inj (Put a0 a1 a2) (Put b0 b1 b2) p = λ i. Put (coded_optional.inj a0 b0 (ap (λ g. head (tail g)) p) i) (coded_shown.inj a1 b1 (ap (λ g. head (tail (tail g))) p) i) (coded_bool.inj a2 b2 (ap (λ g. head (tail (tail (tail g)))) p) i)
plain_inj (Put a0 a1 a2) other p = absurd (omega (arith, tags p))
plain_inj (Get a0 a1) (Get b0 b1) p = λ i. Get (coded_optional.inj a0 b0 (ap (λ g. head (tail g)) p) i) (coded_taken.inj a1 b1 (ap (λ g. head (tail (tail g))) p) i)
plain_inj (Get a0 a1) other p = absurd (omega (arith, tags p))
plain_inj (OpenStream a0 a1 a2 a3) (OpenStream b0 b1 b2 b3) p = λ i. OpenStream (span_type.the_row.coded.inj a0 b0 (ap (λ g. head (tail g)) p) i) (coded_path.inj a1 b1 (ap (λ g. head (tail (tail g))) p) i) (coded_text.inj a2 b2 (ap (λ g. head (tail (tail (tail g)))) p) i) (coded_bool.inj a3 b3 (ap (λ g. head (tail (tail (tail (tail g))))) p) i)
plain_inj (OpenStream a0 a1 a2 a3) other p = absurd (omega (arith, tags p))
plain_inj (Close a0) (Close b0) p = λ i. Close (coded_scalar.inj a0 b0 (ap (λ g. head (tail g)) p) i)
plain_inj (Close a0) other p = absurd (omega (arith, tags p))
plain_inj (Do a0) (Do b0) p = λ i. Do (coded_call.inj a0 b0 (ap (λ g. head (tail g)) p) i)
plain_inj (Do a0) other p = absurd (omega (arith, tags p))
plain_inj (Quit a0) (Quit b0) p = λ i. Quit (coded_optional.inj a0 b0 (ap (λ g. head (tail g)) p) i)
plain_inj (Quit a0) other p = absurd (omega (arith, tags p))

abbrev pub coded_plain : Coded Plain
coded_plain = record { code = plain_code; inj = plain_inj }

-- a record as its fields
abbrev pub coded_named : Coded Named
coded_named =
    code_by (Variable × Start) (coded× variable_type.the_row.coded coded_start)
    (λ r. (r.name, r.start)) (λ p. record { name = p.0; start = p.1 }) (λ _. refl)

abbrev pub declaration_code : Declaration → Gv
declaration_code (Constant a0) = gcons (gnum 0) (gcons (coded_named.code a0) gnil)
declaration_code (InitClause a0) = gcons (gnum 1) (gcons ((coded_list coded_named).code a0) gnil)
declaration_code (Variables a0 a1) = gcons (gnum 2) (gcons ((coded_list variable_type.the_row.coded).code a0) (gcons (coded_ℕ.code a1) gnil))
declaration_code (Started a0 a1 a2) = gcons (gnum 3) (gcons ((coded_list variable_type.the_row.coded).code a0) (gcons (coded_ℕ.code a1) (gcons (coded_start.code a2) gnil)))
declaration_code (Arrays a0 a1 a2 a3) = gcons (gnum 4) (gcons ((coded_list variable_type.the_row.coded).code a0) (gcons ((coded_list index_type.the_row.coded).code a1) (gcons (coded_ℕ.code a2) (gcons (coded_scalars.code a3) gnil))))
declaration_code (Collections a0) = gcons (gnum 5) (gcons ((coded_list coded_ℕ).code a0) gnil)
declaration_code (Mention a0) = gcons (gnum 6) (gcons (coded_ℕ.code a0) gnil)

pub declaration_inj : (x y : Declaration) → declaration_code x ≡ declaration_code y → x ≡ y
declaration_inj (Constant a0) (Constant b0) p = λ i. Constant (coded_named.inj a0 b0 (ap (λ g. head (tail g)) p) i)
declaration_inj (Constant a0) other p = absurd (omega (arith, tags p))
declaration_inj (InitClause a0) (InitClause b0) p = λ i. InitClause ((coded_list coded_named).inj a0 b0 (ap (λ g. head (tail g)) p) i)
declaration_inj (InitClause a0) other p = absurd (omega (arith, tags p))
declaration_inj (Variables a0 a1) (Variables b0 b1) p = λ i. Variables ((coded_list variable_type.the_row.coded).inj a0 b0 (ap (λ g. head (tail g)) p) i) (coded_ℕ.inj a1 b1 (ap (λ g. head (tail (tail g))) p) i)
declaration_inj (Variables a0 a1) other p = absurd (omega (arith, tags p))
declaration_inj (Started a0 a1 a2) (Started b0 b1 b2) p = λ i. Started ((coded_list variable_type.the_row.coded).inj a0 b0 (ap (λ g. head (tail g)) p) i) (coded_ℕ.inj a1 b1 (ap (λ g. head (tail (tail g))) p) i) (coded_start.inj a2 b2 (ap (λ g. head (tail (tail (tail g)))) p) i)
declaration_inj (Started a0 a1 a2) other p = absurd (omega (arith, tags p))
declaration_inj (Arrays a0 a1 a2 a3) (Arrays b0 b1 b2 b3) p = λ i. Arrays ((coded_list variable_type.the_row.coded).inj a0 b0 (ap (λ g. head (tail g)) p) i) ((coded_list index_type.the_row.coded).inj a1 b1 (ap (λ g. head (tail (tail g))) p) i) (coded_ℕ.inj a2 b2 (ap (λ g. head (tail (tail (tail g)))) p) i) (coded_scalars.inj a3 b3 (ap (λ g. head (tail (tail (tail (tail g))))) p) i)
declaration_inj (Arrays a0 a1 a2 a3) other p = absurd (omega (arith, tags p))
declaration_inj (Collections a0) (Collections b0) p = λ i. Collections ((coded_list coded_ℕ).inj a0 b0 (ap (λ g. head (tail g)) p) i)
declaration_inj (Collections a0) other p = absurd (omega (arith, tags p))
declaration_inj (Mention a0) (Mention b0) p = λ i. Mention (coded_ℕ.inj a0 b0 (ap (λ g. head (tail g)) p) i)
declaration_inj (Mention a0) other p = absurd (omega (arith, tags p))

abbrev pub coded_declaration : Coded Declaration
coded_declaration = record { code = declaration_code; inj = declaration_inj }

abbrev mutual
  pub statement_code : Statement → Gv
  statement_code (Simply a0 a1) = gcons (gnum 0) (gcons (at_type.the_row.coded.code a0) (gcons (coded_plain.code a1) gnil))
  statement_code (If a0 a1 a2 a3) = gcons (gnum 1) (gcons (at_type.the_row.coded.code a0) (gcons (coded_scalar.code a1) (gcons (block_code a2) (gcons (otherwise_code a3) gnil))))
  statement_code (Loop a0 a1 a2) = gcons (gnum 2) (gcons (at_type.the_row.coded.code a0) (gcons ((coded_option coded_test).code a1) (gcons (block_code a2) gnil)))
  statement_code (For a0 a1 a2 a3 a4 a5) = gcons (gnum 3) (gcons (at_type.the_row.coded.code a0) (gcons (coded_ℕ.code a1) (gcons (coded_bool.code a2) (gcons (coded_range.code a3) (gcons ((coded_option coded_test).code a4) (gcons (block_code a5) gnil))))))
  statement_code (Case a0 a1 a2) = gcons (gnum 4) (gcons (at_type.the_row.coded.code a0) (gcons (coded_scalar.code a1) (gcons (arms_code a2) gnil)))
  statement_code (Begin a0 a1) = gcons (gnum 5) (gcons (at_type.the_row.coded.code a0) (gcons (block_code a1) gnil))
  statement_code (Module a0 a1 a2 a3 a4 a5) = gcons (gnum 6) (gcons (at_type.the_row.coded.code a0) (gcons ((coded_list variable_type.the_row.coded).code a1) (gcons ((coded_list coded_ℕ).code a2) (gcons ((coded_option coded_ℕ).code a3) (gcons (coded_ℕ.code a4) (gcons (block_code a5) gnil))))))

  pub block_code : Block → Gv
  block_code Empty = gcons (gnum 0) gnil
  block_code (Then a0 a1) = gcons (gnum 1) (gcons (statement_code a0) (gcons (block_code a1) gnil))
  block_code (Declare a0 a1 a2) = gcons (gnum 2) (gcons (at_type.the_row.coded.code a0) (gcons (coded_declaration.code a1) (gcons (block_code a2) gnil)))
  block_code (Bind a0 a1 a2 a3 a4) = gcons (gnum 3) (gcons (at_type.the_row.coded.code a0) (gcons (coded_ℕ.code a1) (gcons (coded_bool.code a2) (gcons (coded_path.code a3) (gcons (block_code a4) gnil)))))

  pub otherwise_code : Otherwise → Gv
  otherwise_code (Else a0) = gcons (gnum 0) (gcons (block_code a0) gnil)
  otherwise_code (Elsif a0 a1 a2 a3) = gcons (gnum 1) (gcons (at_type.the_row.coded.code a0) (gcons (coded_scalar.code a1) (gcons (block_code a2) (gcons (otherwise_code a3) gnil))))

  pub arms_code : Arms → Gv
  arms_code NoArm = gcons (gnum 0) gnil
  arms_code (Default a0) = gcons (gnum 1) (gcons (block_code a0) gnil)
  arms_code (Labelled a0 a1 a2) = gcons (gnum 2) (gcons ((coded_list coded_ℤ).code a0) (gcons (block_code a1) (gcons (arms_code a2) gnil)))

mutual
  pub statement_inj : (x y : Statement) → statement_code x ≡ statement_code y → x ≡ y
  statement_inj (Simply a0 a1) (Simply b0 b1) p = λ i. Simply (at_type.the_row.coded.inj a0 b0 (ap (λ g. head (tail g)) p) i) (coded_plain.inj a1 b1 (ap (λ g. head (tail (tail g))) p) i)
  statement_inj (Simply a0 a1) other p = absurd (omega (arith, tags p))
  statement_inj (If a0 a1 a2 a3) (If b0 b1 b2 b3) p = λ i. If (at_type.the_row.coded.inj a0 b0 (ap (λ g. head (tail g)) p) i) (coded_scalar.inj a1 b1 (ap (λ g. head (tail (tail g))) p) i) (block_inj a2 b2 (ap (λ g. head (tail (tail (tail g)))) p) i) (otherwise_inj a3 b3 (ap (λ g. head (tail (tail (tail (tail g))))) p) i)
  statement_inj (If a0 a1 a2 a3) other p = absurd (omega (arith, tags p))
  statement_inj (Loop a0 a1 a2) (Loop b0 b1 b2) p = λ i. Loop (at_type.the_row.coded.inj a0 b0 (ap (λ g. head (tail g)) p) i) ((coded_option coded_test).inj a1 b1 (ap (λ g. head (tail (tail g))) p) i) (block_inj a2 b2 (ap (λ g. head (tail (tail (tail g)))) p) i)
  statement_inj (Loop a0 a1 a2) other p = absurd (omega (arith, tags p))
  statement_inj (For a0 a1 a2 a3 a4 a5) (For b0 b1 b2 b3 b4 b5) p = λ i. For (at_type.the_row.coded.inj a0 b0 (ap (λ g. head (tail g)) p) i) (coded_ℕ.inj a1 b1 (ap (λ g. head (tail (tail g))) p) i) (coded_bool.inj a2 b2 (ap (λ g. head (tail (tail (tail g)))) p) i) (coded_range.inj a3 b3 (ap (λ g. head (tail (tail (tail (tail g))))) p) i) ((coded_option coded_test).inj a4 b4 (ap (λ g. head (tail (tail (tail (tail (tail g)))))) p) i) (block_inj a5 b5 (ap (λ g. head (tail (tail (tail (tail (tail (tail g))))))) p) i)
  statement_inj (For a0 a1 a2 a3 a4 a5) other p = absurd (omega (arith, tags p))
  statement_inj (Case a0 a1 a2) (Case b0 b1 b2) p = λ i. Case (at_type.the_row.coded.inj a0 b0 (ap (λ g. head (tail g)) p) i) (coded_scalar.inj a1 b1 (ap (λ g. head (tail (tail g))) p) i) (arms_inj a2 b2 (ap (λ g. head (tail (tail (tail g)))) p) i)
  statement_inj (Case a0 a1 a2) other p = absurd (omega (arith, tags p))
  statement_inj (Begin a0 a1) (Begin b0 b1) p = λ i. Begin (at_type.the_row.coded.inj a0 b0 (ap (λ g. head (tail g)) p) i) (block_inj a1 b1 (ap (λ g. head (tail (tail g))) p) i)
  statement_inj (Begin a0 a1) other p = absurd (omega (arith, tags p))
  statement_inj (Module a0 a1 a2 a3 a4 a5) (Module b0 b1 b2 b3 b4 b5) p = λ i. Module (at_type.the_row.coded.inj a0 b0 (ap (λ g. head (tail g)) p) i) ((coded_list variable_type.the_row.coded).inj a1 b1 (ap (λ g. head (tail (tail g))) p) i) ((coded_list coded_ℕ).inj a2 b2 (ap (λ g. head (tail (tail (tail g)))) p) i) ((coded_option coded_ℕ).inj a3 b3 (ap (λ g. head (tail (tail (tail (tail g))))) p) i) (coded_ℕ.inj a4 b4 (ap (λ g. head (tail (tail (tail (tail (tail g)))))) p) i) (block_inj a5 b5 (ap (λ g. head (tail (tail (tail (tail (tail (tail g))))))) p) i)
  statement_inj (Module a0 a1 a2 a3 a4 a5) other p = absurd (omega (arith, tags p))

  pub block_inj : (x y : Block) → block_code x ≡ block_code y → x ≡ y
  block_inj Empty Empty p = refl
  block_inj Empty other p = absurd (omega (arith, tags p))
  block_inj (Then a0 a1) (Then b0 b1) p = λ i. Then (statement_inj a0 b0 (ap (λ g. head (tail g)) p) i) (block_inj a1 b1 (ap (λ g. head (tail (tail g))) p) i)
  block_inj (Then a0 a1) other p = absurd (omega (arith, tags p))
  block_inj (Declare a0 a1 a2) (Declare b0 b1 b2) p = λ i. Declare (at_type.the_row.coded.inj a0 b0 (ap (λ g. head (tail g)) p) i) (coded_declaration.inj a1 b1 (ap (λ g. head (tail (tail g))) p) i) (block_inj a2 b2 (ap (λ g. head (tail (tail (tail g)))) p) i)
  block_inj (Declare a0 a1 a2) other p = absurd (omega (arith, tags p))
  block_inj (Bind a0 a1 a2 a3 a4) (Bind b0 b1 b2 b3 b4) p = λ i. Bind (at_type.the_row.coded.inj a0 b0 (ap (λ g. head (tail g)) p) i) (coded_ℕ.inj a1 b1 (ap (λ g. head (tail (tail g))) p) i) (coded_bool.inj a2 b2 (ap (λ g. head (tail (tail (tail g)))) p) i) (coded_path.inj a3 b3 (ap (λ g. head (tail (tail (tail (tail g))))) p) i) (block_inj a4 b4 (ap (λ g. head (tail (tail (tail (tail (tail g)))))) p) i)
  block_inj (Bind a0 a1 a2 a3 a4) other p = absurd (omega (arith, tags p))

  pub otherwise_inj : (x y : Otherwise) → otherwise_code x ≡ otherwise_code y → x ≡ y
  otherwise_inj (Else a0) (Else b0) p = λ i. Else (block_inj a0 b0 (ap (λ g. head (tail g)) p) i)
  otherwise_inj (Else a0) other p = absurd (omega (arith, tags p))
  otherwise_inj (Elsif a0 a1 a2 a3) (Elsif b0 b1 b2 b3) p = λ i. Elsif (at_type.the_row.coded.inj a0 b0 (ap (λ g. head (tail g)) p) i) (coded_scalar.inj a1 b1 (ap (λ g. head (tail (tail g))) p) i) (block_inj a2 b2 (ap (λ g. head (tail (tail (tail g)))) p) i) (otherwise_inj a3 b3 (ap (λ g. head (tail (tail (tail (tail g))))) p) i)
  otherwise_inj (Elsif a0 a1 a2 a3) other p = absurd (omega (arith, tags p))

  pub arms_inj : (x y : Arms) → arms_code x ≡ arms_code y → x ≡ y
  arms_inj NoArm NoArm p = refl
  arms_inj NoArm other p = absurd (omega (arith, tags p))
  arms_inj (Default a0) (Default b0) p = λ i. Default (block_inj a0 b0 (ap (λ g. head (tail g)) p) i)
  arms_inj (Default a0) other p = absurd (omega (arith, tags p))
  arms_inj (Labelled a0 a1 a2) (Labelled b0 b1 b2) p = λ i. Labelled ((coded_list coded_ℤ).inj a0 b0 (ap (λ g. head (tail g)) p) i) (block_inj a1 b1 (ap (λ g. head (tail (tail g))) p) i) (arms_inj a2 b2 (ap (λ g. head (tail (tail (tail g)))) p) i)
  arms_inj (Labelled a0 a1 a2) other p = absurd (omega (arith, tags p))

abbrev pub coded_statement : Coded Statement
coded_statement = record { code = statement_code; inj = statement_inj }

abbrev pub coded_block : Coded Block
coded_block = record { code = block_code; inj = block_inj }

abbrev pub coded_otherwise : Coded Otherwise
coded_otherwise = record { code = otherwise_code; inj = otherwise_inj }

abbrev pub coded_arms : Coded Arms
coded_arms = record { code = arms_code; inj = arms_inj }
