-- The region code of a program keeps what the program means.
use Rattle.std.proofs.Common.{◌≡◌, ◌+◌, ◌*◌, ◌≤◌, length, refl, ap, ◌∙◌}
use Rattle.tu_base.specs.declared.event.Verdict.{Verdict}
use Rattle.tu_base.specs.declared.event.Verdict.TheVariants.{Ended, Stopped, Going}
use Rattle.rv_image.specs.Run.{Going as machine_going, machine_verdict}
use Rattle.ir_form.specs.declared.unit.Unit.{Unit as RegionUnit}
use Rattle.ir_form.specs.Lawful.{IsLawful}
use Rattle.ir_form.specs.State as region
use Rattle.ir_form.specs.Units.{IsPaidWhereGoing, PaysForRounds, meaning as unit_meaning}
use Rattle.ir_form.specs.Valid.{IsValid}
use Rattle.ir_form.specs.Weight.{unit_weight}
use Rattle.tu_token.specs.Rules.{r-program}
use Rattle.tu_token.specs.Syntax.{Of}
use Rattle.tu_tree_meaning.specs.Programs.{meaning}
use Rattle.ir_build.specs.Keeps.{factor}
use Rattle.ir_stmt.specs.Unit.{HasNoGuards, IsKept, start, region_verdict}
use Rattle.tu_agree.specs.Agrees.{files_in}
use Rattle.tu_agree.specs.Keep.{KeepsTurns}
use Rattle.rv_text.specs.Agrees.{code_verdict}
use Rattle.tu_compile.specs.Meant.{place_at, tree_meant, region_meant}
use Rattle.tu_compile.specs.Ready.{IsReadyUnit}
use Rattle.tu_compile.proofs.Faults.{tests_places}

given_so : (v : Verdict) → code_verdict (region_verdict v) ≡ machine_verdict v
given_so Ended = refl
given_so (Stopped kind line) = refl
given_so Going = refl

goes_on : (v : region.Verdict) → code_verdict v ≡ machine_going → v ≡ region.Going
goes_on region.Ended e = cc
goes_on (region.Stopped kind line) e = cc
goes_on region.Going e = refl
goes_on region.Stuck e = cc

pub keeps_program : (tree : Of r-program) (unit : RegionUnit) → IsKept tree unit → PaysForRounds unit → IsPaidWhereGoing unit → KeepsTurns factor start (tree_meant tree) (region_meant unit)
keeps_program tree unit kept covers paid = record {
  there = λ g a fits. record {
    fits = refl;
    answer = λ input folder t. record {
      least = factor * (meaning tree input (files_in folder) t).units + start;
      holds = λ s enough.
          let place = place_at g a in
          let k = kept place input folder (files_in folder) t s ((tests_places (length unit.texts) g a).0 fits) enough in
          record {
            same = record { trace = k.trace; verdict = ap code_verdict k.verdict ∙ given_so (meaning tree input (files_in folder) t).verdict };
            cost = k.cost;
            covers = covers place input folder t s;
            paid = λ e. paid place input folder t s (goes_on (unit_meaning unit place input folder t s).verdict e);
          };
    };
  };
}

pub is_ready : (unit : RegionUnit) → IsValid unit → IsLawful unit → HasNoGuards unit → unit_weight unit ≤ 1179648 → length unit.texts ≤ 1048576 → IsReadyUnit unit
is_ready unit valid lawful unguarded weight texts = record { valid = valid; lawful = lawful; unguarded = unguarded; weight = weight; texts = texts }
