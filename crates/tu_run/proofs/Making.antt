-- What a file comes to.
use Rattle.std.proofs.Common.{◌≡◌, ◌≢◌, ◌⊎◌, ℕ, ◌<◌, true, false, cond, ◌||◌, List, length, nat_le, inl, inr, Result, Ok, Err, refl, ap, sym, ◌∙◌, subst, arith}
use Rattle.std.proofs.lemmas.Bool.{leb-false}
use Rattle.std.specs.Prelude.{Option, Some, None, reverse}
use Rattle.std.specs.Option.{option_map}
use Rattle.std.specs.FinMap as map
use Rattle.tu_base.specs.Files.{Files}
use Rattle.tu_outside.specs.Files.{IsFetched, fetched}
use Rattle.tu_outside.specs.declared.cabinet.CabinetError.{CabinetError}
use Rattle.tu_outside.specs.declared.cabinet.CabinetError.TheVariants.{Failed, Memory as cabinet_memory}
use Rattle.tu_outside.specs.declared.cabinet.Fetched.TheVariants.{Whole, Absent, TooLong}
use Rattle.rv_image.specs.Picture.{Picture, IsImage, InRange, spelling}
use Rattle.rv_image.specs.Reading.{reading, Gives}
use Rattle.rv_image.specs.declared.image.ImageError.{ImageError}
use Rattle.rv_image.specs.declared.image.ImageError.TheVariants.{Size, Short, Magic, Version, Length, Entry, Globals, Memory}
use Rattle.tu_check.specs.declared.refusal.Refusal.{Refusal}
use Rattle.tu_check.specs.declared.refusal.Refusal.TheVariants.{Size as refused_size, Lexical, Syntax, Scope, Types, Effects, Overlap}
use Rattle.tu_check.specs.declared.refusal.TypeError.TheVariants.{NotBuilt}
use Rattle.tu_token.specs.LexFaults.{FaultKind, BadByte, BadNumber, OpenText, LongText, OpenComment, LongName, TooMany, TooDeep, error_of}
use Rattle.tu_token.specs.declared.fault.LexError.TheVariants.{Memory as lexical_memory}
use Rattle.tu_scope_rules.specs.declared.fault.Fault.{Fault}
use Rattle.tu_scope_rules.specs.declared.fault.FaultKind.{FaultKind as NameFaultKind}
use Rattle.tu_scope_rules.specs.declared.fault.FaultKind.TheVariants.{Unknown, NotImported, NotExported, Twice, BodyMissing, WrongEnd}
use Rattle.tu_scope_rules.specs.declared.error.ScopeError.{ScopeError}
use Rattle.tu_scope_rules.specs.declared.error.ScopeError.TheVariants.{Memory as scope_memory}
use Rattle.tu_scope_rules.specs.declared.event.Context.TheVariants.{Elsewhere}
use Rattle.tu_scope_rules.specs.Answers.{error_of as error_of_fault, error_with}
use Rattle.tu_scope_rules.specs.Faults.{faults_of}
use Rattle.tu_scope_rules.specs.Least.{least}
use Rattle.tu_scope_parts.specs.Walk.{events}
use Rattle.tu_token.specs.Rules.{r-program}
use Rattle.tu_token.specs.Syntax.{Of}
use Rattle.tu_check.specs.declared.error.CheckError.{CheckError}
use Rattle.tu_check.specs.declared.error.CheckError.TheVariants.{Refused as check_refused, Memory as check_memory}
use Rattle.tu_check.specs.Errors.{IsCause}
use Rattle.tu_check.specs.Laws.{IsAcceptedOnce, IsRefusedOnce, IsNeverBoth}
use Rattle.tu_check.specs.Refusals.{IsAccepted, IsRefused}
use Rattle.tu_tree_meaning.specs.Programs.{meaning}
use Rattle.tu_agree.specs.Agrees.{Agrees, over_folder}
use Rattle.tu_run.specs.declared.report.Status.{Status}
use Rattle.tu_run.specs.declared.report.Status.TheVariants.{Ended, Refused, NoFile, BadImage, CabinetFault, OutOfMemory}
use Rattle.tu_run.specs.Outside.{HoldsFile}
use Rattle.tu_run.specs.Reason.{HasReason}
use Rattle.tu_run.specs.Answer.{Exactly, IsAcceptedSource, is_of_files, is_of_source, yields_to}
use Rattle.tu_run.specs.Made.{Fetches, Judges, Compiles, ReadsSource, MakesImage, ReadsImage, status_after, status_of_check}

-- a source is accepted once, or refused once, and never both
pub record OneAnswer : Type 0 where
  pub accepted : IsAcceptedOnce
  pub refused : IsRefusedOnce
  pub apart : IsNeverBoth

err_is : {A : Type 0} (s t : Status) → ◌≡◌ {A = Result A Status} (Err s) (Err t) → s ≡ t
err_is s t e = cc

refusal_is : (r q : Refusal) → Refused r ≡ Refused q → r ≡ q
refusal_is r q e = cc

-- a source that is not checked, for this reason
pub not_judged : {A : Type 0} (source : List ℕ) (error : CheckError) → IsCause source error → Judges {A = A} source (Err (status_of_check error))
not_judged {A} source (check_refused refusal) h = record {
  kind = λ status e. inr (refusal, sym (err_is {A = A} (Refused refusal) status e));
  refused = λ other e. subst (λ r. IsRefused source r) (refusal_is refusal other (err_is {A = A} (Refused refusal) (Refused other) e)) h;
  accepted = λ made e. absurd (cc);
}
not_judged {A} source check_memory h = record {
  kind = λ status e. inl (sym (err_is {A = A} OutOfMemory status e));
  refused = λ other e. let f = err_is {A = A} OutOfMemory (Refused other) e in absurd (cc);
  accepted = λ made e. absurd (cc);
}

pub no_memory_judged : {A : Type 0} (source : List ℕ) → Judges {A = A} source (Err OutOfMemory)
no_memory_judged source = not_judged source check_memory tt

pub accepted_judged : {A : Type 0} (source : List ℕ) (tree : Of r-program) (made : A) → IsAccepted source tree → Judges source (Ok made)
accepted_judged source tree made h = record {
  kind = λ status e. absurd (cc);
  refused = λ refusal e. absurd (cc);
  accepted = λ other e. (tree, h);
}

pub not_compiled : (source : List ℕ) (error : CheckError) → IsCause source error → Compiles source (Err (status_of_check error))
not_compiled source error h = record { judged = not_judged source error h; all = λ image tree e. absurd (cc) }

pub no_memory_compiled : (source : List ℕ) → Compiles source (Err OutOfMemory)
no_memory_compiled source = not_compiled source check_memory tt

pub program_compiled : IsAcceptedOnce → (source : List ℕ) (tree : Of r-program) (made : Picture) → IsAccepted source tree → Agrees (over_folder (meaning tree)) made → Compiles source (Ok made)
program_compiled one source tree made h agrees = record {
  judged = accepted_judged source tree made h;
  all = λ image other e a.
      let same : made ≡ image = cc in
      subst (λ q. Agrees (over_folder (meaning q)) image) (one source tree other h a) (subst (λ q. Agrees (over_folder (meaning tree)) q) same agrees);
}

whole_is : (file : Option (List ℕ)) (most : ℕ) (contents : List ℕ) → Whole contents ≡ fetched file most → file ≡ Some contents
whole_is None most contents e = absurd (cc e)
whole_is (Some found) most contents e =
    elim (nat_le (length found) most) as (λ b. Whole contents ≡ cond b (Whole found) TooLong → Some found ≡ Some contents) [ true ↦ λ q. cc q | false ↦ λ q. absurd (cc q) ] e

-- the file holds what was fetched
held : (told : Option Files) (file contents other : List ℕ) (most : ℕ) → IsFetched told file most (Whole contents) → HoldsFile told file other → other ≡ contents
held told file contents other most f h =
    let found = whole_is (map.get h.files file) most contents (f.told h.files h.known) in
    let there = h.found in
    cc (found, there)

there : (told : Option Files) (file contents : List ℕ) (files : Files) (most : ℕ) → IsFetched told file most (Whole contents) → told ≡ Some files → map.get files file ≡ None → ⊥
there told file contents files most f known none = let found = whole_is (map.get files file) most contents (f.told files known) in cc (found, none)

-- what a source comes to, in the words of an answer
not_missing : {A : Type 0} (source : List ℕ) (result : Result A Status) → Judges source result → status_after result ≡ NoFile → ⊥
not_missing source (Ok made) j e = absurd (cc)
not_missing source (Err status) j e = by (j.kind status refl) where
  by : (status ≡ OutOfMemory) ⊎ ((refusal : Refusal) × (status ≡ Refused refusal)) → ⊥
  by (inl m) = absurd (cc)
  by (inr r) = let f = r.1 in absurd (cc)

judged_kind : {A : Type 0} (source : List ℕ) (result : Result A Status) → Judges source result → (status : Status) → result ≡ Err status → (is_of_source status || is_of_files status) ≡ true
judged_kind source result j status e = by (j.kind status e) where
  by : (status ≡ OutOfMemory) ⊎ ((refusal : Refusal) × (status ≡ Refused refusal)) → (is_of_source status || is_of_files status) ≡ true
  by (inl m) = rw m refl
  by (inr r) = let f = r.1 in rw f refl

judged_refused : {A : Type 0} (one : OneAnswer) (source : List ℕ) (result : Result A Status) (refusal : Refusal) → Judges source result → Exactly (Refused refusal) (status_after result) (IsRefused source refusal)
judged_refused one source (Ok made) refusal j = let a = j.accepted made refl in record { only = λ e. absurd (cc); always = λ h y. absurd (one.apart source a.0 refusal a.1 h) }
judged_refused {A} one source (Err status) refusal j = record { only = λ e. j.refused refusal (ap (λ s. Err s) e); always = λ h y. by (j.kind status refl) h y } where
  by : (status ≡ OutOfMemory) ⊎ ((refusal : Refusal) × (status ≡ Refused refusal)) → IsRefused source refusal → yields_to status ≡ false → status ≡ Refused refusal
  by (inl m) h y = absurd (let f : yields_to status ≡ true = ap yields_to m in cc)
  by (inr r) h y = r.1 ∙ ap (λ q. Refused q) (one.refused source r.0 refusal (j.refused r.0 (ap (λ s. Err s) r.1)) h)

judged_ended : {A : Type 0} (one : OneAnswer) (source : List ℕ) (result : Result A Status) → Judges source result → Exactly Ended (status_after result) (IsAcceptedSource source)
judged_ended one source (Ok made) j = record { only = λ e. j.accepted made refl; always = λ h y. refl }
judged_ended one source (Err status) j = record { only = λ e. absurd (by (j.kind status refl) e); always = λ h y. absurd (none (j.kind status refl) h y) } where
  by : (status ≡ OutOfMemory) ⊎ ((refusal : Refusal) × (status ≡ Refused refusal)) → status ≡ Ended → ⊥
  by (inl m) e = absurd (cc)
  by (inr r) e = let f = r.1 in absurd (cc)

  none : (status ≡ OutOfMemory) ⊎ ((refusal : Refusal) × (status ≡ Refused refusal)) → IsAcceptedSource source → yields_to status ≡ false → ⊥
  none (inl m) h y = let f : yields_to status ≡ true = ap yields_to m in absurd (cc)
  none (inr r) h y = one.apart source h.0 r.0 h.1 (j.refused r.0 (ap (λ s. Err s) r.1))

lexical_reason : (kind : FaultKind) (line : ℕ) → error_of kind line ≢ lexical_memory
lexical_reason BadByte line e = cc e
lexical_reason BadNumber line e = cc e
lexical_reason OpenText line e = cc e
lexical_reason LongText line e = cc e
lexical_reason OpenComment line e = cc e
lexical_reason LongName line e = cc e
lexical_reason TooMany line e = cc e
lexical_reason TooDeep line e = cc e

-- no fault of names is want of memory
fault_reason : (kind : NameFaultKind) (line : ℕ) → error_with kind line ≢ scope_memory
fault_reason Unknown line e = cc e
fault_reason NotImported line e = cc e
fault_reason NotExported line e = cc e
fault_reason Twice line e = cc e
fault_reason BodyMissing line e = cc e
fault_reason WrongEnd line e = cc e

names_reason : (fault : Option Fault) (error : ScopeError) → option_map error_of_fault fault ≡ Some error → error ≢ scope_memory
names_reason None error e m = absurd (cc e)
names_reason (Some fault) error e m = let same : error_of_fault fault ≡ error = cc e in fault_reason fault.kind fault.line (same ∙ m)

-- a source is refused for what it is
refused_reason : (source : List ℕ) (refusal : Refusal) → IsRefused source refusal → HasReason refusal
refused_reason source refused_size r = tt
refused_reason source (Lexical error) r = λ e. lexical_reason r.1.kind _ (sym r.1.error_is ∙ e)
refused_reason source (Syntax line) r = tt
refused_reason source (Scope error) r = names_reason (least (faults_of (reverse (events Elsewhere r.tree)))) error r.found
refused_reason source (Types (NotBuilt line)) r = λ e. cc e
refused_reason source (Types other) r = absurd r
refused_reason source (Effects error) r = absurd r
refused_reason source (Overlap error) r = absurd r

-- what a fetched source comes to is what its file comes to
pub fetched_judged : {A : Type 0} → OneAnswer → (told : Option Files) (file source : List ℕ) (result : Result A Status) → IsFetched told file 1048576 (Whole source) → Judges source result → ReadsSource told file result
fetched_judged one told file source result f j = record {
  kind = judged_kind source result j;
  no_file = λ files known. record { only = λ e. absurd (not_missing source result j e); always = λ none y. absurd (there told file source files 1048576 f known none) };
  refused = λ other refusal h. subst (λ x. Exactly (Refused refusal) (status_after result) (IsRefused x refusal)) (sym (held told file source other 1048576 f h)) (judged_refused one source result refusal j);
  ended = λ other h. subst (λ x. Exactly Ended (status_after result) (IsAcceptedSource x)) (sym (held told file source other 1048576 f h)) (judged_ended one source result j);
  no_memory = λ refusal e. refused_reason source refusal (j.refused refusal e);
}

pub fetched_made : OneAnswer → (told : Option Files) (file source : List ℕ) (result : Result Picture Status) → IsFetched told file 1048576 (Whole source) → Compiles source result → MakesImage told file result
fetched_made one told file source result f c = record {
  read = fetched_judged one told file source result f c.judged;
  there = λ files image known e. (source, whole_is (map.get files file) 1048576 source (f.told files known));
  all = λ other image tree h e a. c.all image tree e (subst (λ x. IsAccepted x tree) (held told file source other 1048576 f h) a);
}

long_is : (file : Option (List ℕ)) (most : ℕ) (contents : List ℕ) → TooLong ≡ fetched file most → file ≡ Some contents → most < length contents
long_is None most contents e i = absurd (cc e)
long_is (Some found) most contents e i =
    let same : found ≡ contents = cc i in
    subst (λ x. most < length x) same
    (elim (nat_le (length found) most) as (λ b. nat_le (length found) most ≡ b → TooLong ≡ cond b (Whole found) TooLong → most < length found) [ true ↦ λ _ q. absurd (cc q) | false ↦ λ over _. leb-false (length found) most over ] refl e)

long_there : (file : Option (List ℕ)) (most : ℕ) → TooLong ≡ fetched file most → file ≡ None → ⊥
long_there None most e n = cc e
long_there (Some found) most e n = cc n

absent_is : (file : Option (List ℕ)) (most : ℕ) → Absent ≡ fetched file most → file ≡ None
absent_is None most e = refl
absent_is (Some found) most e = absurd (elim (nat_le (length found) most) as (λ b. Absent ≡ cond b (Whole found) TooLong → ⊥) [ true ↦ λ q. cc q | false ↦ λ q. cc q ] e)

-- a file that is not there
absent_read : {A : Type 0} (told : Option Files) (file : List ℕ) → IsFetched told file 1048576 Absent → ReadsSource {A = A} told file (Err NoFile)
absent_read {A} told file f =
    let none : (source : List ℕ) → HoldsFile told file source → ⊥ = λ source h. let a = absent_is (map.get h.files file) 1048576 (f.told h.files h.known) in let b = h.found in cc (a, b) in
    record {
      kind = λ status e. let s = err_is {A = A} NoFile status e in rw (← s) refl;
      no_file = λ files known. record { only = λ e. absent_is (map.get files file) 1048576 (f.told files known); always = λ e y. refl };
      refused = λ source refusal h. absurd (none source h);
      ended = λ source h. absurd (none source h);
      no_memory = λ refusal e. absurd (let s = err_is {A = A} NoFile (Refused refusal) e in cc s);
    }

-- a source that is too large
large_read : {A : Type 0} → OneAnswer → (told : Option Files) (file : List ℕ) → IsFetched told file 1048576 TooLong → ReadsSource {A = A} told file (Err (Refused refused_size))
large_read {A} one told file f =
    let size : (source : List ℕ) → HoldsFile told file source → 1048576 < length source = λ source h. long_is (map.get h.files file) 1048576 source (f.told h.files h.known) h.found in
    record {
      kind = λ status e. let s = err_is {A = A} (Refused refused_size) status e in rw (← s) refl;
      no_file = λ files known. record { only = λ e. absurd (cc); always = λ e y. absurd (long_there (map.get files file) 1048576 (f.told files known) e) };
      refused = λ source refusal h. record {
        only = λ e. subst (λ r. IsRefused source r) (refusal_is refused_size refusal e) (size source h);
        always = λ r y. ap (λ q. Refused q) (one.refused source refused_size refusal (size source h) r);
      };
      ended = λ source h. record { only = λ e. absurd (cc); always = λ a y. absurd (one.apart source a.0 refused_size a.1 (size source h)) };
      no_memory = λ refusal e. subst (λ r. HasReason r) (refusal_is refused_size refusal (err_is {A = A} (Refused refused_size) (Refused refusal) e)) tt;
    }

-- the cabinet failed, or memory ran out
failed_read : {A : Type 0} (told : Option Files) (file : List ℕ) (status : Status) → is_of_files status ≡ true → (status ≡ NoFile → ⊥) → ((refusal : Refusal) → status ≡ Refused refusal → ⊥) → (status ≡ Ended → ⊥) → yields_to status ≡ true
    → ReadsSource {A = A} told file (Err status)
failed_read {A} told file status k missing refused ended y = record {
  kind = λ other e. let s = err_is {A = A} status other e in subst (λ t. (is_of_source t || is_of_files t) ≡ true) s (or_files status k);
  no_file = λ files known. record { only = λ e. absurd (missing e); always = λ e z. absurd (cc (y, z)) };
  refused = λ source refusal h. record { only = λ e. absurd (refused refusal e); always = λ r z. absurd (cc (y, z)) };
  ended = λ source h. record { only = λ e. absurd (ended e); always = λ a z. absurd (cc (y, z)) };
  no_memory = λ refusal e. absurd (refused refusal (err_is {A = A} status (Refused refusal) e));
} where
  or_files : (status : Status) → is_of_files status ≡ true → (is_of_source status || is_of_files status) ≡ true
  or_files CabinetFault e = refl
  or_files OutOfMemory e = refl
  or_files other e = absurd (cc e)

-- a source is judged without the cabinet
pub judged_no_fault : {A : Type 0} (source : List ℕ) (result : Result A Status) → Judges source result → result ≡ Err CabinetFault → ⊥
judged_no_fault source result j e = by (j.kind CabinetFault e) where
  by : (CabinetFault ≡ OutOfMemory) ⊎ ((refusal : Refusal) × (CabinetFault ≡ Refused refusal)) → ⊥
  by (inl m) = absurd (cc)
  by (inr r) = let f = r.1 in absurd (cc)

-- the cabinet failed at a source
pub fetch_failed : (told : Option Files) (file : List ℕ) (error : CabinetError) (status : Status) → (error ≡ Failed → status ≡ CabinetFault) → (error ≡ cabinet_memory → status ≡ OutOfMemory) → Fetches told file (Err status)
fetch_failed told file Failed status f m = rw (f refl) refl
fetch_failed told file cabinet_memory status f m = rw (m refl) refl

-- a source that was not fetched
pub not_fetched : {A : Type 0} → OneAnswer → (told : Option Files) (file : List ℕ) (status : Status) → Fetches told file (Err status) → ReadsSource {A = A} told file (Err status)
not_fetched one told file NoFile f = absent_read told file f
not_fetched one told file (Refused refused_size) f = large_read one told file f
not_fetched one told file CabinetFault f = failed_read told file CabinetFault refl (λ e. cc e) (λ r e. cc e) (λ e. cc e) refl
not_fetched one told file OutOfMemory f = failed_read told file OutOfMemory refl (λ e. cc e) (λ r e. cc e) (λ e. cc e) refl
not_fetched one told file other f = absurd (cc f)

pub not_made : OneAnswer → (told : Option Files) (file : List ℕ) (status : Status) → Fetches told file (Err status) → MakesImage told file (Err status)
not_made one told file status f = record { read = not_fetched one told file status f; there = λ files image known e. absurd (cc e); all = λ source image tree h e. absurd (cc e) }

given_error : (error : ImageError) (read : Result Picture ImageError) → error ≢ Memory → Gives (Err error) read → read ≡ Err error
given_error Size read h g = g
given_error Short read h g = g
given_error Magic read h g = g
given_error Version read h g = g
given_error Length read h g = g
given_error Entry read h g = g
given_error Globals read h g = g
given_error Memory read h g = absurd (h refl)

-- bytes that are no image, for this reason
bad_read : (told : Option Files) (file : List ℕ) (error : ImageError) → error ≢ Memory → ((files : Files) → told ≡ Some files → map.get files file ≢ None) →
    ((bytes : List ℕ) → HoldsFile told file bytes → reading bytes ≡ Err error) → ((bytes : List ℕ) (p : Picture) → HoldsFile told file bytes → IsImage bytes p → ⊥) → ReadsImage told file (Err (BadImage error))
bad_read told file error h some is none = record {
  kind = λ status e. rw (let b : status ≡ BadImage error = cc e in b) refl;
  no_file = λ files known. record { only = λ e. absurd (cc e); always = λ lacks y. absurd (some files known lacks) };
  bad_image = λ bytes other holds _. let r = is bytes holds in record {
    only = λ e. let same : error ≡ other = cc e in cc (r, same);
    always = λ bad y. let same : Err error ≡ Err other = sym r ∙ bad in let eq : error ≡ other = cc same in ap BadImage eq;
  };
  no_memory = λ e. h (cc e);
  there = λ known p e i. absurd (cc i);
  is_read = λ bytes p holds e. absurd (cc e);
  has_image = λ bytes p holds i y. absurd (none bytes p holds i);
}

fetched_bad : (told : Option Files) (file bytes : List ℕ) (error : ImageError) → error ≢ Memory → IsFetched told file 67108884 (Whole bytes) → Gives (Err error) (reading bytes) →
    ((p : Picture) → IsImage bytes p → Gives (Err error) (Ok p)) → ReadsImage told file (Err (BadImage error))
fetched_bad told file bytes error h f is only =
    bad_read told file error h (λ files known none. there told file bytes files 67108884 f known none)
    (λ other holds. subst (λ x. reading x ≡ Err error) (sym (held told file bytes other 67108884 f holds)) (given_error error (reading bytes) h is))
    (λ other p holds i. let e : Ok p ≡ Err error = given_error error (Ok p) h (only p (subst (λ x. IsImage x p) (held told file bytes other 67108884 f holds) i)) in cc e)

-- fetched bytes that are an image
pub fetched_image : (told : Option Files) (file bytes : List ℕ) (image : Picture) → IsFetched told file 67108884 (Whole bytes) → Gives (Ok image) (reading bytes) → IsImage bytes image →
    ((p : Picture) → IsImage bytes p → Gives (Ok image) (Ok p)) → ReadsImage told file (Ok image)
fetched_image told file bytes image f is found only = record {
  kind = λ status e. absurd (cc e);
  no_file = λ files known. record { only = λ e. absurd (cc e); always = λ none y. absurd (there told file bytes files 67108884 f known none) };
  bad_image = λ other error h _. record {
    only = λ e. absurd (cc e);
    always = λ bad y. absurd (let r : reading bytes ≡ Err error = subst (λ x. reading x ≡ Err error) (held told file bytes other 67108884 f h) bad in cc (is, r));
  };
  no_memory = λ e. cc e;
  there = λ files other known e. (bytes, whole_is (map.get files file) 67108884 bytes (f.told files known));
  is_read = λ other p h e. let same : image ≡ p = cc e in subst (λ x. IsImage x p) (sym (held told file bytes other 67108884 f h)) (subst (λ i. IsImage bytes i) same found);
  has_image = λ other p h i y. let e : Ok p ≡ Ok image = only p (subst (λ x. IsImage x p) (held told file bytes other 67108884 f h) i) in let same : image ≡ p = cc e in ap Ok same;
}

too_large : (bytes : List ℕ) → 67108884 < length bytes → reading bytes ≡ Err Size
too_large bytes h = grind arith

-- a file that is too long for an image
pub fetched_long : (told : Option Files) (file : List ℕ) → ((p : Picture) → InRange p → reading (spelling p) ≡ Ok p) → IsFetched told file 67108884 TooLong → ReadsImage told file (Err (BadImage Size))
fetched_long told file again f =
    let size : (bytes : List ℕ) → HoldsFile told file bytes → reading bytes ≡ Err Size =
    λ bytes h. too_large bytes (long_is (map.get h.files file) 67108884 bytes (f.told h.files h.known) h.found) in
    bad_read told file Size (λ e. cc e)
    (λ files known none. long_there (map.get files file) 67108884 (f.told files known) none)
    size
    (λ bytes p h i. let r : reading (spelling p) ≡ Err Size = subst (λ x. reading x ≡ Err Size) i.0 (size bytes h) in let g = again p i.1 in cc (r, g))

memory_read : (told : Option Files) (file : List ℕ) → ReadsImage told file (Err OutOfMemory)
memory_read told file = record {
  kind = λ status e. rw (let m : status ≡ OutOfMemory = cc e in m) refl;
  no_file = λ files known. record { only = λ e. absurd (cc e); always = λ none y. absurd (cc y) };
  bad_image = λ bytes error h _. record { only = λ e. absurd (cc e); always = λ bad y. absurd (cc y) };
  no_memory = λ e. cc e;
  there = λ files image known e. absurd (cc e);
  is_read = λ bytes image h e. absurd (cc e);
  has_image = λ bytes image h i y. absurd (cc y);
}

-- fetched bytes that were not read
pub fetched_error : (told : Option Files) (file bytes : List ℕ) (error : ImageError) (status : Status) → (error ≡ Memory → status ≡ OutOfMemory) → (error ≢ Memory → status ≡ BadImage error) →
    IsFetched told file 67108884 (Whole bytes) → Gives (Err error) (reading bytes) → ((p : Picture) → IsImage bytes p → Gives (Err error) (Ok p)) → ReadsImage told file (Err status)
fetched_error told file bytes Size status m b f is only = rw (b (λ e. cc e)) (fetched_bad told file bytes Size (λ e. cc e) f is only)
fetched_error told file bytes Short status m b f is only = rw (b (λ e. cc e)) (fetched_bad told file bytes Short (λ e. cc e) f is only)
fetched_error told file bytes Magic status m b f is only = rw (b (λ e. cc e)) (fetched_bad told file bytes Magic (λ e. cc e) f is only)
fetched_error told file bytes Version status m b f is only = rw (b (λ e. cc e)) (fetched_bad told file bytes Version (λ e. cc e) f is only)
fetched_error told file bytes Length status m b f is only = rw (b (λ e. cc e)) (fetched_bad told file bytes Length (λ e. cc e) f is only)
fetched_error told file bytes Entry status m b f is only = rw (b (λ e. cc e)) (fetched_bad told file bytes Entry (λ e. cc e) f is only)
fetched_error told file bytes Globals status m b f is only = rw (b (λ e. cc e)) (fetched_bad told file bytes Globals (λ e. cc e) f is only)
fetched_error told file bytes Memory status m b f is only = rw (m refl) (memory_read told file)
