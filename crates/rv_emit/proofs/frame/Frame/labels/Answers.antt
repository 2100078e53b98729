use Rattle.std.proofs.Common.{◌≡◌, ◌<◌, ◌+◌, ◌*◌, ◌∷◌, length, get_or, arith, ap, sym, ◌∙◌, map, drop}
use Rattle.std.specs.Prelude.{nat_eq}
use Rattle.std.specs.HashMap.{get}
use Rattle.std.specs.Option.{unwrap_or}
use Rattle.rv_alloc.specs.Renamed.{renamed}
use Rattle.rv_text.specs.Lengths.{instruction_length, code_length, label_offset}
use Rattle.rv_emit.specs.Placed.{frame_head, number_in, routines_of}
use Rattle.rv_emit.proofs.Labelling.{passed, next_of}
use Rattle.rv_emit.proofs.frame.Frame.labels.Goals as goal

pub loop-instruction-preserved : goal.loop-instruction-preserved
loop-instruction-preserved c =
    let code = c.args.self.routine.now.code in let k = c.loop-instruction.instruction-index in let i = c.instruction-item.result in
    let rs = routines_of c.args.assigned.now in let h = frame_head c.args.self in let f = number_in c.args.self in
    let within : k < length code = omega (arith, ap length c.as_slice-instruction-items.ensures) in
    let is : i ≡ get_or code k i = c.instruction-item.is ∙ ap (λ xs. get_or xs k i) c.as_slice-instruction-items.ensures in
    let more = map (renamed f) (drop (k + 1) code) in
    let next : map (renamed f) (drop k code) ≡ renamed f i ∷ more = next_of f code k i within is in
    let sum = ap (λ xs. c.loop-instruction.at + 4 * code_length rs h xs) (sym next) ∙ c.loop-instruction.invariant.at in
    let bound = c.requires in
    let counted = c.instruction_length-length.ensures in
    let length_is : c.instruction_length-length.result ≡ instruction_length rs h (renamed f i) = omega arith in
    record {
      at = omega arith;
      places = λ label.
          passed rs h f label c.loop-instruction.labels c.pass.new.self i more c.loop-instruction.at _ _ c.in_ok-pass.ensures.passes (ap (λ n. c.loop-instruction.at + 4 * n) length_is)
          (ap (λ xs. unwrap_or (get nat_eq c.loop-instruction.labels.places label) (c.loop-instruction.at + 4 * label_offset rs h label xs)) (sym next) ∙ c.loop-instruction.invariant.places label);
    }
