use Rattle.std.proofs.Common.{arith, subst, ◌∙◌}
use Rattle.tu_effects.specs.Least.{IsLeast}
use Rattle.tu_effects.proofs.FirstPlace.{least_behind, least_behind_all, least_one}
use Rattle.tu_overlap.proofs.AllTexts.{OfText, texts_found}
use Rattle.tu_overlap.proofs.texts.fault_of_kind.Goals as goal

pub loop-acts-init : goal.loop-acts-init
loop-acts-init c =
    let has = OfText c.args.program.now c.args.kind in record {
      length = c.in_ok-least.ensures.length;
      least = least_one has c.args.texts.now.main c.in_ok-least.least (subst (λ xs. IsLeast (has xs) c.in_ok-least.least) c.as_slice.ensures c.in_ok-least.ensures.found);
    }

pub loop-acts-preserved : goal.loop-acts-preserved
loop-acts-preserved c =
    let has = OfText c.args.program.now c.args.kind in record {
      length = c.in_ok-found.ensures.length ∙ c.loop-acts.invariant.length;
      least = least_behind has c.args.texts.now.main c.as_slice-acts-items.result.now c.loop-acts.acts-index c.acts-item.result c.loop-acts.least c.in_ok-found.found c.earlier-least.result
          (omega arith) c.acts-item.is c.earlier-least.ensures c.loop-acts.invariant.least
          (subst (λ xs. IsLeast (has xs) c.in_ok-found.found) c.as_slice-in-loop-acts.ensures c.in_ok-found.ensures.found);
    }

pub returns-clause-found : goal.returns-clause-found
returns-clause-found c =
    texts_found c.args.program.now c.args.kind c.args.texts.now.main c.as_slice-acts-items.result.now c.loop-acts.least c.requires.texts.0 (c.as_slice-acts-items.ensures ∙ c.requires.texts.1)
    (least_behind_all (OfText c.args.program.now c.args.kind) c.args.texts.now.main c.as_slice-acts-items.result.now c.loop-acts.acts-index c.loop-acts.least (omega arith) c.loop-acts.invariant.least)
