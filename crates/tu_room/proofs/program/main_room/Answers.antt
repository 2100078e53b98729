use Rattle.std.specs.Prelude.{sum_by, ◌+◌}
use Rattle.std.proofs.Common.{◌≡◌, ap, ◌∙◌, arith}
use Rattle.tu_core.specs.Core.{Program}
use Rattle.tu_core.specs.Rooms.{scalars_from, local_words}
use Rattle.tu_room_parts.specs.Capped.{capped}
use Rattle.tu_room_joins.specs.Flags.{scalars_in}
use Rattle.tu_room.specs.Tables.{block_room_of}
use Rattle.tu_room.proofs.Tabled.{main_found}
use Rattle.tu_room.proofs.program.main_room.Goals as goal

pub returns : goal.returns
returns c =
    let p = c.args.p.now in
    let shapes = c.as_slice.ensures ∙ ap (λ (p : Program). p.shapes) c.p.view_is in
    let locals = c.as_slice-2.ensures ∙ ap (λ (p : Program). p.locals) c.p.view_is in
    let again = c.as_slice-3.ensures ∙ ap (λ (p : Program). p.locals) c.p.view_is in
    let main = ap (λ (p : Program). p.main) c.p.view_is in
    let scalars = c.in_ok-xs.ensures ∙ ap (λ z. scalars_from z 0 c.as_slice-2.result.now) shapes ∙ ap (λ z. scalars_from p.shapes 0 z) locals in
    let sum : c.plus-2.result ≡ capped (64 + (sum_by (local_words c.args.known.now) c.as_slice-3.result.now + block_room_of c.args.results.now (scalars_in c.in_ok-xs.xs) c.p.inside.main)) = omega (arith, c.plus-2.ensures, c.plus.ensures, c.locals_words-locals.ensures, c.in_ok-blocks.ensures.room) in
    let room = sum ∙ ap (λ z. capped (64 + (sum_by (local_words c.args.known.now) z + block_room_of c.args.results.now (scalars_in c.in_ok-xs.xs) c.p.inside.main))) again ∙ ap (λ z. capped (64 + (sum_by (local_words c.args.known.now) p.locals + block_room_of c.args.results.now (scalars_in c.in_ok-xs.xs) z))) main in
    main_found p c.args.known.now c.args.results.now (scalars_in c.in_ok-xs.xs) c.plus-2.result c.requires.words c.requires.results scalars room
