use Rattle.std.proofs.Common.{◌≡◌, ◌+◌, length, drop, arith, ap, sym, ◌∙◌, add-one}
use Rattle.std.specs.Prelude.{slice_get}
use Rattle.std.proofs.lemmas.List.{drop_all}
use Rattle.rv_flat.specs.declared.linear.Linear.{Linear}
use Rattle.rv_alloc.specs.Assigned.{placed_code}
use Rattle.rv_text.specs.Lengths.{routines_length}
use Rattle.rv_emit.specs.Placed.{routines_of, length_in}
use Rattle.rv_emit.proofs.Entries.{rest_length}
use Rattle.rv_emit.proofs.Finding.{fewer}
use Rattle.rv_emit.proofs.sizes.counted_words.Goals as goal

pub loop-k-preserved : goal.loop-k-preserved
loop-k-preserved c =
    let rs = routines_of c.args.assigned.now in let k = c.loop-k.k in
    let e : routines_length rs (drop k rs) ≡ length_in rs (slice_get rs k) + routines_length rs (drop (k + 1) rs) = rest_length rs rs k ∙ ap (λ j. length_in rs (slice_get rs k) + routines_length rs (drop j rs)) (sym (add-one k)) in
    record { counted = omega arith; bound = omega arith }

pub returns : goal.returns
returns c =
    let a = c.args.assigned.now in let l = placed_code a in let k = c.loop-k.k in
    let f = fewer a.linear.routines a.places in
    let n : c.len-k-end.result ≡ length a.linear.routines = c.len-k-end.ensures ∙ ap (λ (x : Linear). length x.routines) c.linear.ensures in
    let e : routines_length l.routines (drop k l.routines) ≡ 0 = ap (routines_length l.routines) (drop_all k l.routines (omega arith)) in
    let t : length c.as_slice.result.now ≡ length l.texts = ap length (c.as_slice.ensures ∙ ap (λ (x : Linear). x.texts) c.linear-2.ensures) in
    omega arith
