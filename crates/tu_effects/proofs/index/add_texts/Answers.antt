use Rattle.std.proofs.Common.{subst, ◌∙◌}
use Rattle.tu_effects.specs.Questions.{asked}
use Rattle.tu_effects.specs.Relations.{HasAdded}
use Rattle.tu_effects.proofs.Adding.{texts_more}
use Rattle.tu_effects.proofs.index.add_texts.Goals as goal

pub loop-text-preserved : goal.loop-text-preserved
loop-text-preserved c =
    let q = c.args.question in
    let h = c.loop-text.rows.rows in
    let new = c.add_acts.new.rows.rows in
    record {
      texts = c.in_ok-add_acts.ensures.texts ∙ c.loop-text.invariant.texts;
      added = texts_more q c.args.texts.now c.loop-text.text c.index-texts-text.result c.args.rows.now.rows h new c.loop-text-test.true c.index-texts-text.is c.loop-text.invariant.added
          (subst (λ acts. HasAdded h new c.loop-text.text (asked q acts)) c.as_slice.ensures c.in_ok-add_acts.ensures.added);
    }
