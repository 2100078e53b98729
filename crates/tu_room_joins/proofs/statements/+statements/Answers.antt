use Rattle.std.proofs.Common.{◌≡◌, ◌+◌, ap, sym, ◌∙◌, arith}
use Rattle.tu_core.specs.Measures.{of_scalar, of_path, of_range, of_test, of_plain, of_declaration, of_block, of_otherwise, of_arms}
use Rattle.tu_core.specs.Rooms.{all_joins}
use Rattle.tu_core_types.specs.StatementViews.{elsifs_view, arms_view}
use Rattle.tu_room_parts.specs.Capped.{capped}
use Rattle.tu_room_counts.specs.StatementRows.{one_part}
use Rattle.tu_room_counts.proofs.StatementLow.{elsif_low, arm_low, part_low, last_low, default_low}
use Rattle.tu_room_joins.specs.Flags.{scalars_in}
use Rattle.tu_room_joins.proofs.Joined.{no_joins, no_joins_first, no_scalar, no_path, no_range, no_test, no_plain, no_declaration, if_ok, inner_of_form, last_joins, block_joins, sum_elsifs, elsif_joins, rows_of_elsifs, sum_arms, arm_joins, rows_of_arms, sum_parts, part_joins, rows_of_parts}
use Rattle.tu_room_joins.proofs.Walked.{begun, next, all_joins_and}
use Rattle.tu_room_joins.proofs.statements.+statements.Goals as goal

pub elsifs-loop-x-init : goal.elsifs-loop-x-init
elsifs-loop-x-init t c = begun (sum_elsifs (scalars_in c.args.scalars.now) c.args.last.now) (omega arith) c.args.xs.now

pub elsifs-elsif-requires : goal.elsifs-elsif-requires
elsifs-elsif-requires t c =
    let low = elsif_low c.args.last.now c.args.xs.now c.loop-x.x-index c.x-item.result c.loop-x-test.true c.x-item.is in
    (grind (arith, c.decreases, low), tt)

pub elsifs-loop-x-preserved : goal.elsifs-loop-x-preserved
elsifs-loop-x-preserved t c = next (λ s x. elsif_joins (scalars_in s) x) c.args.scalars.now (sum_elsifs (scalars_in c.args.scalars.now) c.args.last.now) (rows_of_elsifs c.args.last.now) c.args.xs.now c.loop-x.x-index c.loop-x.sum c.plus-sum.result c.loop-x.scalars c.elsif.new.scalars c.args.found.now c.loop-x.found c.elsif.new.found c.x-item.result _ c.loop-x.invariant c.loop-x-test.true c.x-item.is c.plus-sum.ensures c.in_ok-elsif.ensures.joins c.in_ok-elsif.ensures.changes c.in_ok-elsif.ensures.same

pub elsifs-block-requires : goal.elsifs-block-requires
elsifs-block-requires t c =
    let low = last_low c.args.last.now c.args.xs.now in
    (grind (arith, c.decreases, low), tt)

pub arms-loop-x-init : goal.arms-loop-x-init
arms-loop-x-init t c = begun (sum_arms (scalars_in c.args.scalars.now) c.args.last.now) (omega arith) c.args.xs.now

pub arms-block-requires : goal.arms-block-requires
arms-block-requires t c =
    let low = arm_low c.args.last.now c.args.xs.now c.loop-x.x-index c.x-item.result c.loop-x-test.true c.x-item.is in
    (grind (arith, c.decreases, low), tt)

pub arms-loop-x-preserved : goal.arms-loop-x-preserved
arms-loop-x-preserved t c = next (λ s x. arm_joins (scalars_in s) x) c.args.scalars.now (sum_arms (scalars_in c.args.scalars.now) c.args.last.now) (rows_of_arms c.args.last.now) c.args.xs.now c.loop-x.x-index c.loop-x.sum c.plus-sum.result c.loop-x.scalars c.block.new.scalars c.args.found.now c.loop-x.found c.block.new.found c.x-item.result _ c.loop-x.invariant c.loop-x-test.true c.x-item.is c.plus-sum.ensures c.in_ok-block.ensures.joins c.in_ok-block.ensures.changes c.in_ok-block.ensures.same

pub arms-default-requires : goal.arms-default-requires
arms-default-requires t c =
    let low = default_low c.args.last.now c.args.xs.now in
    (grind (arith, c.decreases, low), tt)

pub block-loop-x-init : goal.block-loop-x-init
block-loop-x-init t c = begun (sum_parts (scalars_in c.args.scalars.now)) (omega arith) c.as_slice-x-items.result.now

pub block-part-requires : goal.block-part-requires
block-part-requires t c =
    let low = part_low c.as_slice-x-items.result.now c.loop-x.x-index c.x-item.result c.loop-x-test.true c.x-item.is in
    (grind (arith, c.decreases, low), tt)

pub block-loop-x-preserved : goal.block-loop-x-preserved
block-loop-x-preserved t c = next (λ s x. part_joins (scalars_in s) x) c.args.scalars.now (sum_parts (scalars_in c.args.scalars.now)) rows_of_parts c.as_slice-x-items.result.now c.loop-x.x-index c.loop-x.sum c.plus-sum.result c.loop-x.scalars c.part.new.scalars c.args.found.now c.loop-x.found c.part.new.found c.x-item.result _ c.loop-x.invariant c.loop-x-test.true c.x-item.is c.plus-sum.ensures c.in_ok-part.ensures.joins c.in_ok-part.ensures.changes c.in_ok-part.ensures.same

pub inner-returns-in_ok-plain-in-Simply-clause-joins : goal.inner-returns-in_ok-plain-in-Simply-clause-joins
inner-returns-in_ok-plain-in-Simply-clause-joins t c =
    let ss = scalars_in c.args.scalars.now in
    no_joins (of_plain (all_joins ss) c.in-Simply.s) (no_plain ss c.in-Simply.s) ∙ ap capped (inner_of_form ss c.s.inside.at c.s.inside.form _ c.args.s.now c.s.view_is c.in-Simply.is)

pub choice-returns-clause-joins : goal.choice-returns-clause-joins
choice-returns-clause-joins t c =
    let ss = scalars_in c.args.scalars.now in
    let same : c.in_ok-more.more ≡ capped (of_otherwise (all_joins ss) (elsifs_view c.args.xs.now c.args.last.now)) = c.in_ok-more.ensures.joins ∙ ap (λ s. capped (of_otherwise (all_joins (scalars_in s)) (elsifs_view c.args.xs.now c.args.last.now))) c.in_ok-first.ensures.same in
    omega (arith, same, c.in_ok-first.ensures.joins, c.plus.ensures)

pub repeated-returns-clause-joins : goal.repeated-returns-clause-joins
repeated-returns-clause-joins t c =
    let ss = scalars_in c.args.scalars.now in
    if_ok _ (no_joins_first (of_test (all_joins ss) c.args.invariant.now) (of_block (all_joins ss) c.args.b.now) (no_test ss c.args.invariant.now)) c.block.ensures.joins

pub inner-returns-in_ok-scalar-in-If-clause-joins : goal.inner-returns-in_ok-scalar-in-If-clause-joins
inner-returns-in_ok-scalar-in-If-clause-joins t c =
    let ss = scalars_in c.args.scalars.now in
    let blocks = of_block (all_joins ss) c.in-If.b + of_otherwise (all_joins ss) (elsifs_view c.in-If.xs c.in-If.otherwise) in
    let same = ap (λ z. capped (of_block (all_joins ss) c.in-If.b + of_otherwise (all_joins ss) (elsifs_view z c.in-If.otherwise))) c.as_slice.ensures in
    if_ok _ (same ∙ no_joins_first (of_scalar (all_joins ss) c.in-If.condition) blocks (no_scalar ss c.in-If.condition) ∙ ap capped (inner_of_form ss c.s.inside.at c.s.inside.form _ c.args.s.now c.s.view_is c.in-If.is)) c.choice.ensures.joins

pub inner-returns-in-Loop-clause-joins : goal.inner-returns-in-Loop-clause-joins
inner-returns-in-Loop-clause-joins t c =
    let ss = scalars_in c.args.scalars.now in
    if_ok _ (ap capped (inner_of_form ss c.s.inside.at c.s.inside.form _ c.args.s.now c.s.view_is c.in-Loop.is)) c.repeated.ensures.joins

pub inner-returns-in_ok-range-in-For-clause-joins : goal.inner-returns-in_ok-range-in-For-clause-joins
inner-returns-in_ok-range-in-For-clause-joins t c =
    let ss = scalars_in c.args.scalars.now in
    let repeated = of_test (all_joins ss) c.in-For.invariant + of_block (all_joins ss) c.in-For.b in
    if_ok _ (no_joins_first (of_range (all_joins ss) c.in-For.r) repeated (no_range ss c.in-For.r) ∙ ap capped (inner_of_form ss c.s.inside.at c.s.inside.form _ c.args.s.now c.s.view_is c.in-For.is)) c.repeated-in-For.ensures.joins

pub inner-returns-in_ok-scalar-in-Case-clause-joins : goal.inner-returns-in_ok-scalar-in-Case-clause-joins
inner-returns-in_ok-scalar-in-Case-clause-joins t c =
    let ss = scalars_in c.args.scalars.now in
    let arms = of_arms (all_joins ss) (arms_view c.in-Case.xs c.in-Case.otherwise) in
    let same = ap (λ z. capped (of_arms (all_joins ss) (arms_view z c.in-Case.otherwise))) c.as_slice-in-Case.ensures in
    if_ok _ (same ∙ no_joins_first (of_scalar (all_joins ss) c.in-Case.subject) arms (no_scalar ss c.in-Case.subject) ∙ ap capped (inner_of_form ss c.s.inside.at c.s.inside.form _ c.args.s.now c.s.view_is c.in-Case.is)) c.arms.ensures.joins

pub part-returns-in_ok-declaration-in-Declare-clause-joins : goal.part-returns-in_ok-declaration-in-Declare-clause-joins
part-returns-in_ok-declaration-in-Declare-clause-joins t c =
    let ss = scalars_in c.args.scalars.now in
    no_joins (of_declaration (all_joins ss) c.in-Declare.d) (no_declaration ss c.in-Declare.d) ∙ ap (λ x. capped (one_part (all_joins ss) x)) (sym c.in-Declare.is)

pub part-returns-in_ok-path-in-Bind-clause-joins : goal.part-returns-in_ok-path-in-Bind-clause-joins
part-returns-in_ok-path-in-Bind-clause-joins t c =
    let ss = scalars_in c.args.scalars.now in
    no_joins (0 + of_path (all_joins ss) c.in-Bind.place) (omega (arith, no_path ss c.in-Bind.place)) ∙ ap (λ x. capped (one_part (all_joins ss) x)) (sym c.in-Bind.is)

pub arms-returns-clause-joins : goal.arms-returns-clause-joins
arms-returns-clause-joins t c = all_joins_and (λ s. last_joins (scalars_in s) c.args.last.now) c.args.scalars.now (sum_arms (scalars_in c.args.scalars.now) c.args.last.now) c.args.xs.now c.loop-x.x-index c.loop-x.sum c.plus.result c.loop-x.scalars c.args.found.now c.loop-x.found c.in_ok-default.field-0 c.loop-x.invariant c.loop-x-test.false c.plus.ensures c.in_ok-default.ensures.joins

pub elsifs-returns-clause-joins : goal.elsifs-returns-clause-joins
elsifs-returns-clause-joins t c = all_joins_and (λ s. block_joins (scalars_in s) c.args.last.now) c.args.scalars.now (sum_elsifs (scalars_in c.args.scalars.now) c.args.last.now) c.args.xs.now c.loop-x.x-index c.loop-x.sum c.plus.result c.loop-x.scalars c.args.found.now c.loop-x.found c.in_ok-block.field-0 c.loop-x.invariant c.loop-x-test.false c.plus.ensures c.in_ok-block.ensures.joins
