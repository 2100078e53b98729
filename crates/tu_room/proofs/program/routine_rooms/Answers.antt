use Rattle.std.proofs.Common.{ap, ◌∙◌, length}
use Rattle.tu_core.specs.Core.{Routine, Program}
use Rattle.tu_core.specs.Rooms.{scalars_from}
use Rattle.tu_room_joins.specs.Flags.{scalars_in}
use Rattle.tu_room.specs.Tables.{room_at}
use Rattle.tu_room.proofs.Tabled.{room_found, map_more}
use Rattle.tu_room.proofs.program.routine_rooms.Goals as goal

pub loop-r-preserved : goal.loop-r-preserved
loop-r-preserved c =
    let p = c.args.p.now in
    let r = c.r-item.result in
    let shapes = c.as_slice.ensures ∙ ap (λ (p : Program). p.shapes) c.p.view_is in
    let locals = c.as_slice-in-loop-r.ensures ∙ ap (λ (r : Routine). r.locals) c.r.view_is in
    let formals = c.len-formals.ensures ∙ ap (λ (r : Routine). length r.formals) c.r.view_is in
    let scalars = c.in_ok-xs.ensures ∙ ap (λ z. scalars_from z c.len-formals.result c.as_slice-in-loop-r.result.now) shapes ∙ ap (λ n. scalars_from p.shapes n c.as_slice-in-loop-r.result.now) formals ∙ ap (λ z. scalars_from p.shapes (length r.formals) z) locals in
    let room = room_found p c.args.known.now c.args.results.now (scalars_in c.in_ok-xs.xs) r c.in_ok-routine_room.field-0 c.requires.words c.requires.results scalars c.in_ok-routine_room.ensures in
    map_more (room_at p) c.as_slice-r-items.result.now c.loop-r.r-index c.loop-r.rooms c.add.new.self r c.in_ok-routine_room.field-0 c.loop-r.invariant c.loop-r-test.true c.r-item.is room c.in_ok-add.ensures.added
