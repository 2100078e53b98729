use Rattle.std.proofs.Common.{refl}
use Rattle.grammar.specs.Classes.{is_among}
use Rattle.grammar.specs.Grammar.{first}
use Rattle.tu_token.specs.ClassNumbers.{number}
use Rattle.tu_token.specs.Table.{table}
use Rattle.grammar.specs.Description.{rule}
use Rattle.tu_token.specs.Rules.{r-item}
use Rattle.tu_reader.proofs.Choices.{none_starts, some_starts}
use Rattle.tu_parse.proofs.programs.goes_on.Goals as goal

pub returns-in-Some : goal.returns-in-Some
returns-in-Some c = some_starts (λ k. is_among (number k) (first table (rule r-item))) (λ k. refl) c.in-Some.ensures c.begins_item.ensures

pub returns-in-None : goal.returns-in-None
returns-in-None c = none_starts c.in-None.ensures _
