use Rattle.std.proofs.Common.{◌≡◌, ◌≤◌, length, true, sym, subst}
use Rattle.grammar.specs.Description.{print}
use Rattle.grammar.specs.Tree.{erase}
use Rattle.ir_form.specs.Lawful.{IsLawful}
use Rattle.ir_form.specs.Valid.{IsValid}
use Rattle.ir_form.specs.Weight.{unit_weight}
use Rattle.ir_stmt.specs.Built.{is_program_built}
use Rattle.ir_stmt.specs.Unit.{HasNoGuards, IsKept, unit_of}
use Rattle.ir_stmt.proofs.Valid.{program_is_unguarded}
use Rattle.ir_stmt.proofs.Whole.{accepted_is_built, accepted_is_kept, accepted_is_valid, accepted_is_lawful, accepted_is_light, ok_holds}
use Rattle.ir_stmt.proofs.program.unit.Goals as goal

pub unit_of-requires-clause-built : goal.unit_of-requires-clause-built
unit_of-requires-clause-built c =
    let a = c.tree.ensures.accepted in subst (λ t. is_program_built t ≡ true) (sym c.tree.ensures.value) (accepted_is_built c.args.checked.now a.0 a.1 c.accepted_has_limits.ensures)

pub unit_of-requires-clause-short : goal.unit_of-requires-clause-short
unit_of-requires-clause-short c =
    let a = c.tree.ensures.accepted in subst (λ t. length (print (erase t)) ≤ 65536) (sym c.tree.ensures.value) (c.accepted_has_limits.ensures a.0 c.args.checked.now a.1).few

pub returns-clause-kept : goal.returns-clause-kept
returns-clause-kept c =
    let a = c.tree.ensures.accepted in
    ok_holds c.unit_of.result (unit_of c.tree.result.now) (λ unit. IsKept c.args.checked.now unit)
    (subst (λ t. IsKept c.args.checked.now (unit_of t)) (sym c.tree.ensures.value) (accepted_is_kept c.args.checked.now a.0 a.1 c.accepted_has_limits.ensures)) c.unit_of.ensures

pub returns-clause-valid : goal.returns-clause-valid
returns-clause-valid c =
    let a = c.tree.ensures.accepted in
    ok_holds c.unit_of.result (unit_of c.tree.result.now) (λ unit. IsValid unit)
    (subst (λ t. IsValid (unit_of t)) (sym c.tree.ensures.value) (accepted_is_valid c.args.checked.now a.0 a.1 c.accepted_has_limits.ensures)) c.unit_of.ensures

pub returns-clause-lawful : goal.returns-clause-lawful
returns-clause-lawful c =
    let a = c.tree.ensures.accepted in
    ok_holds c.unit_of.result (unit_of c.tree.result.now) (λ unit. IsLawful unit)
    (subst (λ t. IsLawful (unit_of t)) (sym c.tree.ensures.value) (accepted_is_lawful c.args.checked.now a.0 a.1 c.accepted_has_limits.ensures c.run_is_steady.ensures c.valid_is_sound.ensures)) c.unit_of.ensures

pub returns-clause-weight : goal.returns-clause-weight
returns-clause-weight c =
    let a = c.tree.ensures.accepted in
    ok_holds c.unit_of.result (unit_of c.tree.result.now) (λ unit. unit_weight unit ≤ 1179648)
    (subst (λ t. unit_weight (unit_of t) ≤ 1179648) (sym c.tree.ensures.value) (accepted_is_light c.args.checked.now a.0 a.1 c.accepted_has_limits.ensures)) c.unit_of.ensures

pub returns-clause-unguarded : goal.returns-clause-unguarded
returns-clause-unguarded c =
    ok_holds c.unit_of.result (unit_of c.tree.result.now) (λ unit. HasNoGuards unit) (program_is_unguarded c.tree.result.now) c.unit_of.ensures
