-- The number of a status, and the one line that tells of it.
use Rattle.std.specs.Prelude.{◌≡◌, ◌≢◌, ℕ, ◌+◌, ◌/◌, ◌%◌, nat_lt, if◌then◌else◌, List, [], ◌∷◌, ◌++◌, codes, decimal, Option}
use Rattle.tu_base.specs.Kind.{kind_name}
use Rattle.tu_outside.specs.Causes.{Rose}
use Rattle.tu_outside.specs.Told.{with_more}
use Rattle.rv_isa.specs.declared.service.FaultKind.{FaultKind}
use Rattle.rv_isa.specs.declared.service.FaultKind.TheVariants.{Illegal, Fetch, Address, Misaligned, Break, Service}
use Rattle.rv_image.specs.declared.image.ImageError.{ImageError}
use Rattle.rv_image.specs.declared.image.ImageError.TheVariants.{Size as bad_size, Short, Magic, Version, Length, Entry, Globals, Memory}
use Rattle.tu_run.specs.Reason.{at_line, refusal_text}
use Rattle.tu_run.specs.declared.report.Status.{Status}
use Rattle.tu_run.specs.declared.report.Status.TheVariants.{Ended, Stopped, Refused, Usage, NoFile, BadImage, Spent, ConsoleFault, CabinetFault, NoteFault, OutOfMemory, MachineFault}

abbrev pub status_number : Status → ℕ
status_number Ended = 0
status_number (Stopped kind line) = 1
status_number (Refused refusal) = 2
status_number Usage = 3
status_number NoFile = 4
status_number (BadImage error) = 5
status_number Spent = 6
status_number ConsoleFault = 7
status_number CabinetFault = 8
status_number NoteFault = 9
status_number OutOfMemory = 10
status_number (MachineFault kind pc) = 11

abbrev pub error_name : ImageError → List ℕ
error_name bad_size = codes "Size"
error_name Short = codes "Short"
error_name Magic = codes "Magic"
error_name Version = codes "Version"
error_name Length = codes "Length"
error_name Entry = codes "Entry"
error_name Globals = codes "Globals"
error_name Memory = codes "Memory"

abbrev pub fault_name : FaultKind → List ℕ
fault_name Illegal = codes "Illegal"
fault_name Fetch = codes "Fetch"
fault_name Address = codes "Address"
fault_name Misaligned = codes "Misaligned"
fault_name Break = codes "Break"
fault_name Service = codes "Service"

-- a hexadecimal digit, and the eight of a number of 32 bits, in lower case
abbrev pub hexadecimal_digit : ℕ → ℕ
hexadecimal_digit n = if nat_lt n 10 then 48 + n else 87 + n

abbrev pub hexadecimal : ℕ → List ℕ
hexadecimal n =
    hexadecimal_digit (n / 268435456 % 16) ∷ (hexadecimal_digit (n / 16777216 % 16) ∷ (hexadecimal_digit (n / 1048576 % 16) ∷ (hexadecimal_digit (n / 65536 % 16) ∷ (
    hexadecimal_digit (n / 4096 % 16) ∷ (hexadecimal_digit (n / 256 % 16) ∷ (hexadecimal_digit (n / 16 % 16) ∷ (hexadecimal_digit (n % 16) ∷ [])))))))

-- the lines that a status adds, where so many instructions were counted: one, or none
abbrev pub note_lines : ℕ → Status → List (List ℕ)
note_lines count Ended = []
note_lines count (Stopped kind line) = at_line line (kind_name kind) ∷ []
note_lines count (Refused refusal) = refusal_text refusal ∷ []
note_lines count Usage = codes "usage: turing run FILE [budget=N] | check FILE | build FILE IMAGE | exec IMAGE [budget=N]" ∷ []
note_lines count NoFile = codes "no such file" ∷ []
note_lines count (BadImage error) = (codes "bad image: " ++ error_name error) ∷ []
note_lines count Spent = (codes "spent after " ++ (decimal count ++ codes " instructions")) ∷ []
note_lines count ConsoleFault = codes "console failed" ∷ []
note_lines count CabinetFault = codes "file failed" ∷ []
note_lines count NoteFault = []
note_lines count OutOfMemory = codes "out of memory" ∷ []
note_lines count (MachineFault kind pc) = (codes "machine: " ++ (fault_name kind ++ (codes " at 0x" ++ hexadecimal pc))) ∷ []

-- The status that is shown is the one that was reached, with its note and no other line, or NoteFault where that note could not be written.
pub record IsShown (count : ℕ) (reached shown : Status) (lines lines' : Option (List (List ℕ))) (faults faults' : ℕ) : Type 0 where
  pub reached_no_fault : reached ≢ NoteFault
  pub note_tells_status : shown ≢ NoteFault → (shown ≡ reached) × (lines' ≡ with_more lines (note_lines count reached))
  pub note_fault : shown ≡ NoteFault → (note_lines count reached ≢ []) × (lines' ≡ lines) × Rose faults faults'
