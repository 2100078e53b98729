use Rattle.std.specs.Prelude.{◌≡◌, take}
use Rattle.tu_effects.specs.Questions.{asked}
use Rattle.tu_effects.specs.Relations.{HasAdded}
use Rattle.tu_effects.proofs.index.add_acts.Given as goal

abbrev pub invariant-loop-act : goal.invariant-loop-act
invariant-loop-act l = record {
  texts : l.rows.texts ≡ l.initial.rows.texts;
  added : HasAdded l.initial.rows.rows l.rows.rows l.text (asked l.question (take l.act-index l.acts));
}
