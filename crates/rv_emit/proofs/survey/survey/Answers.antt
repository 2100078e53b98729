use Rattle.std.proofs.Common.{◌≡◌, ◌+◌, ◌*◌, ◌≤◌, [], ◌∷◌, length, Some, arith, ap, sym, ◌∙◌}
use Rattle.std.specs.Prelude.{slice_get}
use Rattle.std.proofs.lemmas.List.{length-append}
use Rattle.std.proofs.lemmas.Option.{slice_get_within}
use Rattle.rv_flat.specs.declared.linear.Linear.{Linear}
use Rattle.rv_alloc.specs.Assigned.{placed_code}
use Rattle.rv_text.specs.Lengths.{routine_length}
use Rattle.rv_text.specs.Text.{entry_at, label_at}
use Rattle.rv_emit.specs.Placed.{placed_routine, routines_of}
use Rattle.rv_emit.proofs.Entries.{entry_next, entry_end, entry_below, entries_found, routine_fits, no_more, entries_more, labels_more}
use Rattle.rv_emit.proofs.survey.survey.Goals as goal

pub labels-requires : goal.labels-requires
labels-requires c =
    let l = placed_code c.args.assigned.now in
    let f = routine_fits l c.len.result (placed_routine c.in-Some.frame) (sym c.in-Some.ensures.routine) c.requires in
    let d : c.loop-frame.at ≡ entry_at l.routines c.len.result = c.loop-frame.invariant.at ∙ ap (entry_at l.routines) (omega arith) in omega arith

pub loop-frame-smaller : goal.loop-frame-smaller
loop-frame-smaller c =
    let w = slice_get_within (routines_of c.args.assigned.now) c.len.result (placed_routine c.in-Some.frame) (sym c.in-Some.ensures.routine) in
    let e = ap length c.in_ok-push-2.ensures.items in let a = length-append c.loop-frame.labels.items (c.in_ok-of_routine.of_routine ∷ []) in omega arith

pub loop-frame-preserved : goal.loop-frame-preserved
loop-frame-preserved c =
    let rs = routines_of c.args.assigned.now in let r = placed_routine c.in-Some.frame in let k = length c.loop-frame.labels.items in
    let same : c.len.result ≡ k = omega arith in
    let there : slice_get rs k ≡ Some r = ap (slice_get rs) (sym same) ∙ sym c.in-Some.ensures.routine in
    let w = slice_get_within rs k r there in
    let e : length c.push-in-Some.new.self.items ≡ k + 1 = ap length c.in_ok-push-2.ensures.items ∙ (length-append c.loop-frame.labels.items (c.in_ok-of_routine.of_routine ∷ []) ∙ omega arith) in
    let d : length c.push.new.self.items ≡ length c.loop-frame.entries.items + 1 = ap length c.in_ok-push.ensures.items ∙ (length-append c.loop-frame.entries.items (c.loop-frame.at ∷ []) ∙ omega arith) in
    record {
      within = omega arith;
      at = c.in_ok-of_routine.ensures.end ∙ (ap (λ n. n + 4 * routine_length rs r) c.loop-frame.invariant.at ∙ (sym (entry_next rs k r there) ∙ ap (entry_at rs) (sym e)));
      count = omega arith;
      entries = entries_more rs c.loop-frame.entries.items c.push.new.self.items c.loop-frame.at c.in_ok-push.ensures.items (c.loop-frame.invariant.at ∙ ap (entry_at rs) (sym c.loop-frame.invariant.count)) c.loop-frame.invariant.entries;
      labels = labels_more rs c.loop-frame.labels.items c.push-in-Some.new.self.items c.in_ok-of_routine.of_routine c.in_ok-push-2.ensures.items
          (record {
            places = λ r' f label. let one : r ≡ r' = cc (sym there ∙ f) in
                c.in_ok-of_routine.ensures.places label ∙ (ap (λ n. label_at rs n r label) c.loop-frame.invariant.at ∙ ap (λ x. label_at rs (entry_at rs k) x label) one);
          })
          c.loop-frame.invariant.labels;
    }

pub overflow_add-result-2 : goal.overflow_add-result-2
overflow_add-result-2 c =
    let l = placed_code c.args.assigned.now in
    let b = entry_below l.routines c.len.result in
    let d : c.loop-frame.at ≡ entry_at l.routines c.len.result = c.loop-frame.invariant.at ∙ ap (entry_at l.routines) (omega arith) in
    let t : length c.as_slice-bytes.result.now ≡ length l.texts = ap length (c.as_slice-bytes.ensures ∙ ap (λ (x : Linear). x.texts) c.linear.ensures) in
    omega arith

pub returns : goal.returns
returns c =
    let l = placed_code c.args.assigned.now in let k = length c.loop-frame.labels.items in
    let same : c.len.result ≡ k = omega arith in
    let past : length l.routines ≤ k = no_more l.routines k (ap (slice_get l.routines) (sym same) ∙ sym c.in_default.ensures.routine) in
    let at = c.loop-frame.invariant.at ∙ entry_end l.routines k past in
    let t : length c.as_slice-bytes.result.now ≡ length l.texts = ap length (c.as_slice-bytes.ensures ∙ ap (λ (x : Linear). x.texts) c.linear.ensures) in
    record {
      globals = omega arith;
      texts = at;
      entries = entries_found l.routines c.loop-frame.entries.items c.loop-frame.at (omega arith) at c.loop-frame.invariant.entries;
      labels = c.loop-frame.invariant.labels;
      count = omega arith;
    }
