-- The unit of a program is never stuck.
use Rattle.std.proofs.Common.{◌≡◌, ℕ, ◌+◌, ◌*◌, ◌≤◌, List, length, sym, ◌∙◌, subst, arith, None}
use Rattle.std.specs.Prelude.{◌≢◌}
use Rattle.tu_base.specs.declared.event.Verdict.{Verdict}
use Rattle.tu_base.specs.declared.event.Verdict.TheVariants.{Ended, Stopped, Going}
use Rattle.rv_image.specs.Streams.{Folder}
use Rattle.ir_form.specs.declared.unit.Unit.{Unit as RegionUnit}
use Rattle.ir_form.specs.Place.{Place, IsPlace}
use Rattle.ir_form.specs.State as region
use Rattle.ir_form.specs.Units.{meaning}
use Rattle.tu_token.specs.Rules.{r-program}
use Rattle.tu_token.specs.Syntax.{Of}
use Rattle.tu_tree_meaning.specs.Programs.{meaning as program_meaning}
use Rattle.ir_build.specs.Keeps.{factor}
use Rattle.ir_stmt.specs.Unit.{start, region_verdict, IsKept}

IsNotStuck : region.Verdict → Type 0
IsNotStuck region.Ended = Unit {0}
IsNotStuck (region.Stopped kind line) = Unit {0}
IsNotStuck region.Going = Unit {0}
IsNotStuck region.Stuck = ⊥

not_stuck : (v : Verdict) → IsNotStuck (region_verdict v)
unfolding IsNotStuck
not_stuck Ended = tt
not_stuck (Stopped kind line) = tt
not_stuck Going = tt

-- It is not where there are enough of other rounds, so it is not with fewer.
pub never_stuck : (tree : Of r-program) (unit : RegionUnit) → IsKept tree unit → (place : Place) (input : List ℕ) (folder : Folder) (t s : ℕ) →
    ((s s' : ℕ) → s ≤ s' → (meaning unit place input folder t s).verdict ≡ region.Stuck → (meaning unit place input folder t s').verdict ≡ region.Stuck) →
    IsPlace place (length unit.texts) → (meaning unit place input folder t s).verdict ≢ region.Stuck
unfolding IsNotStuck
never_stuck tree unit is_kept place input folder t s stays is_place stuck =
    let m = program_meaning tree input None t in
    let enough = factor * m.units + start in
    let k = is_kept place input folder None t (s + enough) is_place (omega arith) in
    subst IsNotStuck (sym k.verdict ∙ stays s (s + enough) (omega arith) stuck) (not_stuck m.verdict)
