use Rattle.std.proofs.Common.{◌*◌, ◌≤◌, sym, subst}
use Rattle.std.specs.Prelude.{All}
use Rattle.std.proofs.lemmas.Result.{IfOk-weaker}
use Rattle.ir_form.specs.Lawful.{IsLawful as IsLawfulUnit}
use Rattle.ir_form.specs.Weight.{unit_weight}
use Rattle.rv_flat.specs.declared.linear.Linear.{Linear}
use Rattle.rv_flat.specs.Keeps.{Keeps}
use Rattle.rv_flat.specs.Parts.{KeepsParts, HasItsLabels, TakesOnce, IsUnguarded, IsUnguardedUnit}
use Rattle.rv_flat.specs.Lawful.{IsLawful}
use Rattle.rv_flat.specs.Size.{linear_size}
use Rattle.rv_flat.proofs.Whole.{flat_keeps}
use Rattle.rv_flat.proofs.Clauses.{unit_kept, labels_kept, unit_unguarded, lawful_kept}
use Rattle.rv_flat.proofs.Words.{unit_fits}
use Rattle.rv_flat.proofs.Takers.{unit_takes}
use Rattle.ir_form.specs.Valid.{IsValid}
use Rattle.rv_flat.proofs.units.flat.Goals as goal

pub returns-clause-keeps : goal.returns-clause-keeps
returns-clause-keeps c = IfOk-weaker c.flat_exactly.result _ (Keeps c.args.unit.now) (λ l e. subst (Keeps c.args.unit.now) (sym e) (flat_keeps c.args.unit.now)) c.flat_exactly.ensures

pub returns-clause-parts : goal.returns-clause-parts
returns-clause-parts c = IfOk-weaker c.flat_exactly.result _ (KeepsParts c.args.unit.now) (λ l e. subst (KeepsParts c.args.unit.now) (sym e) (unit_kept c.args.unit.now)) c.flat_exactly.ensures

pub returns-clause-labels : goal.returns-clause-labels
returns-clause-labels c =
    let P = λ (l : Linear). All (λ r. HasItsLabels r.code) l.routines in
    IfOk-weaker c.flat_exactly.result _ P (λ l e. subst P (sym e) (labels_kept c.args.unit.now.routines)) c.flat_exactly.ensures

pub returns-clause-lawful : goal.returns-clause-lawful
returns-clause-lawful c =
    let P = λ (l : Linear). IsValid c.args.unit.now → IsLawfulUnit c.args.unit.now → IsLawful l in
    IfOk-weaker c.flat_exactly.result _ P (λ l e. subst P (sym e) (lawful_kept c.args.unit.now)) c.flat_exactly.ensures

pub returns-clause-size : goal.returns-clause-size
returns-clause-size c =
    let P = λ (l : Linear). linear_size l ≤ 14 * unit_weight c.args.unit.now in
    IfOk-weaker c.flat_exactly.result _ P (λ l e. subst P (sym e) (unit_fits c.args.unit.now)) c.flat_exactly.ensures

pub returns-clause-taken_once : goal.returns-clause-taken_once
returns-clause-taken_once c =
    let P = λ (l : Linear). IsValid c.args.unit.now → All TakesOnce l.routines in
    IfOk-weaker c.flat_exactly.result _ P (λ l e. subst P (sym e) (unit_takes c.args.unit.now)) c.flat_exactly.ensures

pub returns-clause-unguarded : goal.returns-clause-unguarded
returns-clause-unguarded c =
    let P = λ (l : Linear). IsUnguardedUnit c.args.unit.now → IsUnguarded l in
    IfOk-weaker c.flat_exactly.result _ P (λ l e. subst P (sym e) (unit_unguarded c.args.unit.now)) c.flat_exactly.ensures
