use Rattle.std.proofs.Common.{ap, sym, subst, ◌∙◌, ◌+◌, take}
use Rattle.tu_reach.specs.Rows.{RowsOf}
use Rattle.tu_effects.specs.Questions.{asked}
use Rattle.tu_effects.specs.Relations.{HasAdded}
use Rattle.tu_effects.proofs.Adding.{answered, asked_act, unanswered}
use Rattle.tu_effects.proofs.index.add_acts.Goals as goal
use Rattle.tu_effects.proofs.index.add_acts.Goals.{in-Some+in_ok-add, in_default}

pub loop-act-preserved : goal.loop-act-preserved
loop-act-preserved c =
    let q = c.args.question in
    let acts = c.args.acts.now in
    let i = c.loop-act.act-index in
    let act = c.act-item.result in
    let p = c.args.text in
    let g = c.args.rows.now.rows in
    let h = c.loop-act.rows.rows in
    let added = λ (r : RowsOf). HasAdded g r.rows p (asked q (take (i + 1) acts)) in
    elim c.match-number.branch [
      | in-Some+in_ok-add w ↦ record {
        texts = ap (λ (r : RowsOf). r.texts) w.rows-is ∙ w.in_ok-add.ensures.texts ∙ c.loop-act.invariant.texts;
        added = subst added (sym w.rows-is) (asked_act q acts i act p g h w.add.new.self.rows c.loop-act-test.true c.act-item.is c.loop-act.invariant.added
            (answered q act w.in-Some.number p h w.add.new.self.rows (sym w.in-Some.ensures) w.in_ok-add.ensures.added));
      }
      | in_default w ↦ record {
        texts = ap (λ (r : RowsOf). r.texts) w.rows-is ∙ c.loop-act.invariant.texts;
        added = subst added (sym w.rows-is) (asked_act q acts i act p g h h c.loop-act-test.true c.act-item.is c.loop-act.invariant.added (unanswered q act p h (sym w.in_default.ensures)));
      }
    ]
