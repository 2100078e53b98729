use Rattle.std.specs.Prelude.{◌≡◌}
use Rattle.tu_effects.specs.Relations.{HasAddedBelow}
use Rattle.tu_effects.proofs.index.add_texts.Given as goal

abbrev pub invariant-loop-text : goal.invariant-loop-text
invariant-loop-text l = record {
  texts : l.rows.texts ≡ l.initial.rows.texts;
  added : HasAddedBelow l.initial.rows.rows l.rows.rows l.question l.texts l.text;
}
