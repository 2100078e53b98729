-- What a file comes to, a step on the way to what a command answers: what is made of it, or the status that tells why there is none.
use Rattle.std.specs.Prelude.{◌≡◌, ◌≢◌, ◌⊎◌, ℕ, true, false, ◌||◌, List, Option, Some, None, Result, Ok, Err}
use Rattle.std.specs.FinMap as map
use Rattle.tu_base.specs.declared.limits.TheConstants.{MOST_SOURCE_BYTES}
use Rattle.tu_base.specs.Files.{Files}
use Rattle.rv_image.specs.Picture.{Picture}
use Rattle.rv_image.specs.declared.image.ImageError.{ImageError}
use Rattle.rv_image.specs.declared.image.ImageError.TheVariants.{Memory}
use Rattle.rv_host.specs.declared.host.HostEnd.{HostEnd}
use Rattle.rv_host.specs.declared.host.HostEnd.TheVariants.{Ended as host_ended, Stopped as host_stopped, Spent as host_spent, Fault as host_fault, ConsoleFault as host_console_fault, CabinetFault as host_cabinet_fault, Memory as host_memory}
use Rattle.tu_outside.specs.Files.{IsFetched}
use Rattle.tu_outside.specs.declared.cabinet.Fetched.TheVariants.{Whole, Absent, TooLong}
use Rattle.tu_check.specs.declared.refusal.Refusal.{Refusal}
use Rattle.tu_check.specs.declared.refusal.Refusal.TheVariants.{Size}
use Rattle.tu_token.specs.Rules.{r-program}
use Rattle.tu_token.specs.Syntax.{Of}
use Rattle.tu_check.specs.declared.error.CheckError.{CheckError}
use Rattle.tu_check.specs.declared.error.CheckError.TheVariants.{Refused as check_refused, Memory as check_memory}
use Rattle.tu_check.specs.Refusals.{IsAccepted, IsRefused}
use Rattle.tu_tree_meaning.specs.Programs.{meaning}
use Rattle.tu_agree.specs.Agrees.{Agrees, over_folder}
use Rattle.tu_run.specs.Reason.{HasReason}
use Rattle.tu_run.specs.ImageFile.{IsImageFile, image_file_reading}
use Rattle.tu_run.specs.Outside.{HoldsFile}
use Rattle.tu_run.specs.Answer.{Exactly, IsAcceptedSource, is_of_source, is_of_image, is_of_files, yields_to}
use Rattle.tu_run.specs.declared.report.Status.{Status}
use Rattle.tu_run.specs.declared.report.Status.TheVariants.{Ended, Stopped, Refused, NoFile, BadImage, Spent, ConsoleFault, CabinetFault, OutOfMemory, MachineFault}

-- the status that tells how the host ended
abbrev pub status_of : HostEnd → Status
status_of host_ended = Ended
status_of (host_stopped kind line) = Stopped kind line
status_of host_spent = Spent
status_of (host_fault kind pc) = MachineFault kind pc
status_of host_console_fault = ConsoleFault
status_of host_cabinet_fault = CabinetFault
status_of host_memory = OutOfMemory

-- the status that tells why a source was not checked
abbrev pub status_of_check : CheckError → Status
status_of_check (check_refused refusal) = Refused refusal
status_of_check check_memory = OutOfMemory

-- how such a step stands: with what was made it has ended
abbrev pub status_after : {A : Type 0} → Result A Status → Status
status_after (Ok made) = Ended
status_after (Err status) = status

-- What a file comes to as a source of at most 1,048,576 bytes.
abbrev pub Fetches : Option Files → List ℕ → Result (List ℕ) Status → Type 0
Fetches told file (Ok source) = IsFetched told file MOST_SOURCE_BYTES (Whole source)
Fetches told file (Err NoFile) = IsFetched told file MOST_SOURCE_BYTES Absent
Fetches told file (Err (Refused Size)) = IsFetched told file MOST_SOURCE_BYTES TooLong
Fetches told file (Err status) = is_of_files status ≡ true

-- What a source comes to: it is accepted, or the answer tells why it is not.
pub record Judges {A : Type 0} (source : List ℕ) (result : Result A Status) : Type 0 where
  pub kind : (status : Status) → result ≡ Err status → (status ≡ OutOfMemory) ⊎ ((refusal : Refusal) × (status ≡ Refused refusal))
  pub refused : (refusal : Refusal) → result ≡ Err (Refused refusal) → IsRefused source refusal
  pub accepted : (made : A) → result ≡ Ok made → IsAcceptedSource source

-- what a source is compiled to
pub record Compiles (source : List ℕ) (result : Result Picture Status) : Type 0 where
  pub judged : Judges source result
  pub all : (image : Picture) (tree : Of r-program) → result ≡ Ok image → IsAccepted source tree → Agrees (over_folder (meaning tree)) image

-- what the source in a file comes to
pub record ReadsSource {A : Type 0} (told : Option Files) (file : List ℕ) (result : Result A Status) : Type 0 where
  pub kind : (status : Status) → result ≡ Err status → (is_of_source status || is_of_files status) ≡ true
  pub no_file : (files : Files) → told ≡ Some files → Exactly NoFile (status_after result) (map.get files file ≡ None)
  pub refused : (source : List ℕ) (refusal : Refusal) → HoldsFile told file source → Exactly (Refused refusal) (status_after result) (IsRefused source refusal)
  pub ended : (source : List ℕ) → HoldsFile told file source → Exactly Ended (status_after result) (IsAcceptedSource source)
  pub no_memory : (refusal : Refusal) → result ≡ Err (Refused refusal) → HasReason refusal

-- there is a file of this name
abbrev pub IsThere : Files → (file : List ℕ) → Type 0
IsThere files file = (contents : List ℕ) × (map.get files file ≡ Some contents)

-- what the source in a file is compiled to
pub record MakesImage (told : Option Files) (file : List ℕ) (result : Result Picture Status) : Type 0 where
  pub read : ReadsSource told file result
  pub there : (files : Files) (image : Picture) → told ≡ Some files → result ≡ Ok image → IsThere files file
  pub all : (source : List ℕ) (image : Picture) (tree : Of r-program) → HoldsFile told file source → result ≡ Ok image → IsAccepted source tree → Agrees (over_folder (meaning tree)) image

-- what the bytes in a file are read as
pub record ReadsImage (told : Option Files) (file : List ℕ) (result : Result Picture Status) : Type 0 where
  pub kind : (status : Status) → result ≡ Err status → (is_of_image status || is_of_files status) ≡ true
  pub no_file : (files : Files) → told ≡ Some files → Exactly NoFile (status_after result) (map.get files file ≡ None)
  pub bad_image : (bytes : List ℕ) (error : ImageError) → HoldsFile told file bytes → error ≢ Memory → Exactly (BadImage error) (status_after result) (image_file_reading bytes ≡ Err error)
  pub no_memory : result ≢ Err (BadImage Memory)
  pub there : (files : Files) (image : Picture) → told ≡ Some files → result ≡ Ok image → IsThere files file
  pub is_read : (bytes : List ℕ) (image : Picture) → HoldsFile told file bytes → result ≡ Ok image → IsImageFile bytes image
  pub has_image : (bytes : List ℕ) (image : Picture) → HoldsFile told file bytes → IsImageFile bytes image → yields_to (status_after result) ≡ false → result ≡ Ok image
