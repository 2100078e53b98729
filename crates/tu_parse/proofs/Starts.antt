-- A subprogram among the items of a program and the parts of a module.
use Rattle.std.proofs.Common.{◌≡◌, ◌⊎◌, inl, inr, refl}
use Rattle.grammar.specs.Classes.{is_among}
use Rattle.grammar.specs.Description.{rule}
use Rattle.grammar.specs.Grammar.{first}
use Rattle.std.specs.Prelude.{Some}
use Rattle.tu_token.specs.declared.class.Class.{Class}
use Rattle.tu_token.specs.declared.class.Class.TheVariants.{Name, WordForward, WordBody, WordProcedure, WordFunction}
use Rattle.tu_token.specs.ClassNumbers.{number}
use Rattle.tu_token.specs.Rules.{body, r-item, r-subprogram}
use Rattle.tu_token.specs.Table.{table}
use Rattle.tu_tree.specs.StatementViews.{block_part}
use Rattle.tu_tree.specs.ProgramViews.{module_part}
use Rattle.tu_reader.specs.Ahead.{Ahead, class_of}
use Rattle.tu_reader.specs.Reads.{Stops}
use Rattle.tu_reader.specs.declared.stop.Stop.{Stop}
use Rattle.tu_reader.proofs.Choices.{is_at, choice_stops}

-- one of the words with which a subprogram begins
abbrev IsSubprogram : Class → Type 0
IsSubprogram c = (c ≡ WordForward) ⊎ ((c ≡ WordBody) ⊎ ((c ≡ WordProcedure) ⊎ (c ≡ WordFunction)))

module _ {c : Class} {i s : Ahead} {e : Stop} where
  pub item_stops : Some c ≡ class_of i.tokens → IsSubprogram c → Stops (rule r-subprogram) i e s → Stops (body r-item) i e s
  item_stops h (inl k) p = choice_stops (is_at h k) (body r-item) p
  item_stops h (inr (inl k)) p = choice_stops (is_at h k) (body r-item) p
  item_stops h (inr (inr (inl k))) p = choice_stops (is_at h k) (body r-item) p
  item_stops h (inr (inr (inr k))) p = choice_stops (is_at h k) (body r-item) p

  pub module_part_stops : Some c ≡ class_of i.tokens → IsSubprogram c → Stops (rule r-subprogram) i e s → Stops module_part i e s
  module_part_stops h (inl k) p = choice_stops (is_at h k) module_part p
  module_part_stops h (inr (inl k)) p = choice_stops (is_at h k) module_part p
  module_part_stops h (inr (inr (inl k))) p = choice_stops (is_at h k) module_part p
  module_part_stops h (inr (inr (inr k))) p = choice_stops (is_at h k) module_part p
