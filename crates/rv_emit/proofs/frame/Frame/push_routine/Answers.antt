use Rattle.std.proofs.Common.{◌≡◌, ◌<◌, length, get_or, arith, ap, sym, ◌∙◌, map}
use Rattle.std.proofs.lemmas.Grind.{common_steps}
use Rattle.std.proofs.lemmas.List.{take_all}
use Rattle.std.proofs.lemmas.List.Elements.{All-same}
use Rattle.rv_alloc.specs.Renamed.{renamed}
use Rattle.rv_layout.specs.Ready.{IsSmall}
use Rattle.rv_emit.specs.Placed.{number_in}
use Rattle.rv_emit.proofs.Ranges.{mapped_more}
use Rattle.rv_emit.proofs.frame.Frame.push_routine.Goals as goal

pub loop-instruction-preserved : goal.loop-instruction-preserved
loop-instruction-preserved c =
    let code = c.args.self.routine.now.code in let k = c.loop-instruction.instruction-index in let i = c.instruction-item.result in
    let within : k < length code = omega (arith, ap length c.as_slice-instruction-items.ensures) in
    let is : i ≡ get_or code k i = c.instruction-item.is ∙ ap (λ xs. get_or xs k i) c.as_slice-instruction-items.ensures in
    record {
      words = grind (arith, common_steps);
      small = mapped_more IsSmall (renamed (number_in c.args.self)) code k i within is c.in_ok-push_instruction.ensures.small c.loop-instruction.invariant.small;
    }

pub returns-clause-small : goal.returns-clause-small
returns-clause-small c =
    let code = c.args.self.routine.now.code in let k = c.loop-instruction.instruction-index in
    let all = take_all k code (omega (arith, ap length c.as_slice-instruction-items.ensures)) in
    All-same IsSmall _ _ (sym (ap (map (renamed (number_in c.args.self))) all)) c.loop-instruction.invariant.small
