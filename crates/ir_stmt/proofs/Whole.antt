-- What holds of the unit of a checked program.
use Rattle.std.proofs.Common.{◌≡◌, ◌≢◌, ℕ, ◌+◌, ◌-◌, ◌≤◌, List, true, sym, ap, subst, ◌∙◌, arith}
use Rattle.std.specs.Prelude.{Result, Ok, Err, IfOk}
use Rattle.rv_image.specs.Streams.{Folder}
use Rattle.ir_form.specs.declared.unit.Unit.{Unit as RegionUnit}
use Rattle.ir_form.specs.Lawful.{IsLawful, IsSoundUnit}
use Rattle.ir_form.specs.Place.{Place}
use Rattle.ir_form.specs.State.{Stuck, Going}
use Rattle.ir_form.specs.Units.{IsSteady, meaning}
use Rattle.ir_form.specs.Valid.{IsValid}
use Rattle.ir_form.specs.Weight.{unit_weight}
use Rattle.tu_token.specs.Rules.{r-program}
use Rattle.tu_token.specs.Syntax.{Of}
use Rattle.tu_check.specs.Laws.{AcceptedHasLimits}
use Rattle.tu_check.specs.Refusals.{IsAccepted}
use Rattle.ir_stmt.specs.Built.{is_program_built}
use Rattle.ir_stmt.specs.Unit.{IsKept, unit_of}
use Rattle.ir_stmt.proofs.Checked.{checked_is_built}
use Rattle.ir_stmt.proofs.Lawful.{never_stuck}
use Rattle.ir_stmt.proofs.Keeping.{program_is_kept}
use Rattle.ir_stmt.proofs.Valid.{program_has_few, program_is_light, program_is_valid}

pub accepted_is_built : (tree : Of r-program) (source : List ℕ) → IsAccepted source tree → AcceptedHasLimits → is_program_built tree ≡ true
accepted_is_built tree source accepted limits = checked_is_built tree accepted.built (limits source tree accepted).numbers

pub accepted_is_kept : (tree : Of r-program) (source : List ℕ) → IsAccepted source tree → AcceptedHasLimits → IsKept tree (unit_of tree)
accepted_is_kept tree source accepted limits =
    let few = program_has_few tree (limits source tree accepted).few in let next = few.0 in
    program_is_kept tree (accepted_is_built tree source accepted limits) few.1 (omega arith)

pub accepted_is_valid : (tree : Of r-program) (source : List ℕ) → IsAccepted source tree → AcceptedHasLimits → IsValid (unit_of tree)
accepted_is_valid tree source accepted limits = program_is_valid tree (accepted_is_built tree source accepted limits) (limits source tree accepted).few

-- a run that is stuck is so with more other rounds
stays_stuck : (unit : RegionUnit) → IsSteady unit → (place : Place) (input : List ℕ) (folder : Folder) (t s u : ℕ) → s ≤ u → (meaning unit place input folder t s).verdict ≡ Stuck → (meaning unit place input folder t u).verdict ≡ Stuck
stays_stuck unit steady place input folder t s u le stuck =
    let more : s + (u - s) ≡ u = omega (arith, le) in
    let goes : (meaning unit place input folder t s).verdict ≢ Going = λ e. absurd (let q : Stuck ≡ Going = sym stuck ∙ e in cc) in
    subst (λ (n : ℕ). (meaning unit place input folder t n).verdict ≡ Stuck) more (ap (λ m. m.verdict) (steady place input folder t s (u - s) goes) ∙ stuck)

pub accepted_is_lawful : (tree : Of r-program) (source : List ℕ) → IsAccepted source tree → AcceptedHasLimits → ((unit : RegionUnit) → IsSteady unit) → ((unit : RegionUnit) → IsValid unit → unit.globals ≤ 4259840 → IsSoundUnit unit) → IsLawful (unit_of tree)
accepted_is_lawful tree source accepted limits steady sound =
    let few = (program_has_few tree (limits source tree accepted).few).1 in
    record {
      sound = sound (unit_of tree) (accepted_is_valid tree source accepted limits) (omega (arith, few));
      never_stuck = λ place input folder t s fits.
          never_stuck tree (unit_of tree) (accepted_is_kept tree source accepted limits) place input folder t s (stays_stuck (unit_of tree) (steady (unit_of tree)) place input folder t) fits;
    }

pub accepted_is_light : (tree : Of r-program) (source : List ℕ) → IsAccepted source tree → AcceptedHasLimits → unit_weight (unit_of tree) ≤ 1179648
accepted_is_light tree source accepted limits = program_is_light tree (limits source tree accepted).few

-- what holds of a unit holds of an answer that is it
pub ok_holds : {E : Type 0} (r : Result RegionUnit E) (unit : RegionUnit) (P : RegionUnit → Type 0) → P unit → IfOk r (λ v. v ≡ unit) → IfOk r P
ok_holds (Ok v) unit P p e = subst P (sym e) p
ok_holds (Err x) unit P p e = tt
