use Rattle.std.proofs.Common.{◌≡◌, Some, length, arith, sym}
use Rattle.std.specs.Prelude.{All, slice_get}
use Rattle.std.proofs.lemmas.List.{take_all}
use Rattle.std.proofs.lemmas.List.Elements.{All-same}
use Rattle.std.proofs.lemmas.Option.{slice_get_within, slice_get_read}
use Rattle.rv_flat.specs.declared.linear.LinearRoutine.{LinearRoutine}
use Rattle.rv_alloc.specs.Assigned.{placed_code}
use Rattle.rv_layout.specs.Ready.{IsSmall}
use Rattle.rv_emit.specs.Placed.{placed_routine, routines_of}
use Rattle.rv_emit.proofs.Entries.{no_more}
use Rattle.rv_emit.proofs.Ranges.{taken_more}
use Rattle.rv_emit.proofs.Routines.{routine_pushed, routines_pushed}
use Rattle.rv_emit.proofs.emitter.push_routines.Goals as goal

pub loop-frame-preserved : goal.loop-frame-preserved
loop-frame-preserved c =
    let l = placed_code c.args.assigned.now in let k = c.loop-frame.k in let r = placed_routine c.in-Some.frame in
    let there : slice_get l.routines k ≡ Some r = sym c.in-Some.ensures.routine in
    let w = slice_get_within l.routines k r there in
    let labels : slice_get c.args.site.now.labels.items k ≡ Some c.index.result.now = slice_get_read c.args.site.now.labels.items (length c.args.site.now.labels.items) k c.index.result.now (omega arith) (omega arith) c.index.ensures in
    record {
      words = routine_pushed l c.args.site.now c.requires k r c.index.result.now c.loop-frame.out c.push_routine.new.out _ there labels c.loop-frame.invariant.words c.in_ok-push_routine.ensures.words;
      within = omega arith;
      small = taken_more (λ (s : LinearRoutine). All IsSmall s.code) l.routines k r there c.in_ok-push_routine.ensures.small c.loop-frame.invariant.small;
    }

pub returns-clause-words : goal.returns-clause-words
returns-clause-words c =
    let l = placed_code c.args.assigned.now in
    routines_pushed l c.args.site.now c.requires c.loop-frame.k c.loop-frame.out _ (sym c.in_default.ensures.routine) c.loop-frame.invariant.words

pub returns-clause-small : goal.returns-clause-small
returns-clause-small c =
    let rs = routines_of c.args.assigned.now in
    All-same (λ (s : LinearRoutine). All IsSmall s.code) _ _ (sym (take_all c.loop-frame.k rs (no_more rs c.loop-frame.k (sym c.in_default.ensures.routine)))) c.loop-frame.invariant.small
