-- What a program, region code, linear code and assigned code mean, as passes speak of it.
use Rattle.std.specs.Prelude.{◌≢◌, ℕ, ◌+◌, ◌%◌, Bool, ◌==◌, nat_le, ◌&&◌, ◌↔◌, IsTrue, List, length}
use Rattle.tu_base.specs.declared.limits.TheConstants.{TEXT_AT}
use Rattle.rv_isa.specs.declared.service.FaultKind.{FaultKind}
use Rattle.rv_image.specs.Streams.{Folder}
use Rattle.rv_image.specs.Run.{Fault}
use Rattle.ir_form.specs.declared.unit.Unit.{Unit as RegionUnit}
use Rattle.ir_form.specs.Place.{Place, IsPlace}
use Rattle.ir_form.specs.State.{begun}
use Rattle.ir_form.specs.Units.{Meant, unit_run, meaning}
use Rattle.rv_flat.specs.declared.linear.Linear.{Linear}
use Rattle.rv_flat.specs.Units.{linear_run, linear_meaning}
use Rattle.rv_alloc.specs.declared.assigned.Assigned.{Assigned}
use Rattle.rv_alloc.specs.Assigned.{placed_code, assigned_meaning}
use Rattle.rv_text.specs.Agrees.{code_verdict}
use Rattle.tu_token.specs.Rules.{r-program}
use Rattle.tu_token.specs.Syntax.{Of}
use Rattle.tu_tree_meaning.specs.Programs.{meaning as program_meaning}
use Rattle.tu_agree.specs.Agrees.{over_folder}
use Rattle.tu_agree.specs.Outcomes.{CodeOutcome, CodeMeaning, program_meant}

abbrev pub place_at : (first_global texts_at : ℕ) → Place
place_at first_global texts_at = record { globals_at = first_global; texts_at = texts_at }

-- whether so many bytes of texts and the globals may lie there: the test of `IsPlace`
abbrev pub fits_at : (texts first_global texts_at : ℕ) → Bool
fits_at texts first_global texts_at =
    ((first_global % 4) == 0) && (nat_le TEXT_AT first_global && (nat_le first_global 67174400 && (((texts_at % 4) == 0) && (nat_le TEXT_AT texts_at && nat_le (texts_at + texts) first_global))))

abbrev pub TestsPlaces : Type 0
TestsPlaces = (texts first_global texts_at : ℕ) → IsTrue (fits_at texts first_global texts_at) ↔ IsPlace (place_at first_global texts_at) texts

-- what is meant, where so many turns and other rounds have begun
abbrev pub outcome_of : (begun : ℕ) → Meant → CodeOutcome
outcome_of begun meant = record { trace = meant.trace; verdict = code_verdict meant.verdict; cost = meant.cost; begun = begun }

-- what a program means
abbrev pub tree_meant : Of r-program → CodeMeaning
tree_meant tree = program_meant (over_folder (program_meaning tree))

-- what a unit of region code means
abbrev pub region_meant : RegionUnit → CodeMeaning
region_meant unit = record {
  fits = fits_at (length unit.texts);
  outcome = λ first_global texts_at input folder t s.
      let place = place_at first_global texts_at in
      outcome_of (begun t s (unit_run unit place input folder t s).state) (meaning unit place input folder t s);
}

-- what a unit of linear code means
abbrev pub linear_meant : Linear → CodeMeaning
linear_meant linear = record {
  fits = fits_at (length linear.texts);
  outcome = λ first_global texts_at input folder t s.
      let place = place_at first_global texts_at in
      outcome_of (begun t s (linear_run linear place input folder t s).state) (linear_meaning linear place input folder t s);
}

-- what assigned code means
abbrev pub assigned_meant : Assigned → CodeMeaning
assigned_meant assigned = record {
  fits = fits_at (length assigned.linear.texts);
  outcome = λ first_global texts_at input folder t s.
      let place = place_at first_global texts_at in
      outcome_of (begun t s (linear_run (placed_code assigned) place input folder t s).state) (assigned_meaning assigned place input folder t s);
}

-- wherever the code may lie, no run of it faults
abbrev pub NeverFaults : CodeMeaning → Type 0
NeverFaults meant = (first_global texts_at : ℕ) → IsTrue (meant.fits first_global texts_at) → (input : List ℕ) (folder : Folder) (t s : ℕ) (kind : FaultKind) (pc : ℕ) →
    (meant.outcome first_global texts_at input folder t s).verdict ≢ Fault kind pc
