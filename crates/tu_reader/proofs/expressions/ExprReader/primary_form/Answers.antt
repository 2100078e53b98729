use Rattle.std.proofs.Common.{refl, [], ◌∷◌}
use Rattle.tu_reader.proofs.Steps.{exits}
use Rattle.tu_reader.proofs.Choices.{is_at, choice_takes, choice_stops, other_stops, end_stops}
use Rattle.tu_token.specs.declared.class.Class.TheVariants.{SignLeftBracket, WordFalse, WordNil, WordTrue, Name, Number, Text}
use Rattle.tu_token.specs.Rules.{body, r-primary}
use Rattle.grammar.specs.Tree.{n-token}
use Rattle.tu_reader.proofs.expressions.ExprReader.primary_form.Goals as goal

pub returns-in_default-clause-reads : goal.returns-in_default-clause-reads
returns-in_default-clause-reads g c = end_stops refl c.in_default.ensures

pub returns-in_err-number-in-Number-clause-reads : goal.returns-in_err-number-in-Number-clause-reads
returns-in_err-number-in-Number-clause-reads g c = exits _ _ _ _ c.from_residual.ensures.1 (choice_stops (is_at c.in-Some.ensures c.in-Number.is) (body r-primary) c.in_err-number-in-Number.ensures.reads)

pub returns-in_ok-number-in-Number-clause-reads : goal.returns-in_ok-number-in-Number-clause-reads
returns-in_ok-number-in-Number-clause-reads g c = choice_takes (is_at c.in-Some.ensures c.in-Number.is) (body r-primary) _ c.in_ok-number-in-Number.ensures.reads

pub returns-in-WordTrue-clause-reads : goal.returns-in-WordTrue-clause-reads
returns-in-WordTrue-clause-reads g c = choice_takes (is_at c.in-Some.ensures c.in-WordTrue.is) (body r-primary) n-token c.skip.ensures.takes

pub returns-in-WordFalse-clause-reads : goal.returns-in-WordFalse-clause-reads
returns-in-WordFalse-clause-reads g c = choice_takes (is_at c.in-Some.ensures c.in-WordFalse.is) (body r-primary) n-token c.skip-in-WordFalse.ensures.takes

pub returns-in_err-path-in-Name-clause-reads : goal.returns-in_err-path-in-Name-clause-reads
returns-in_err-path-in-Name-clause-reads g c = exits _ _ _ _ c.from_residual-in_err-path-in-Name.ensures.1 (choice_stops (is_at c.in-Some.ensures c.in-Name.is) (body r-primary) c.in_err-path-in-Name.ensures.reads)

pub returns-in_ok-path-in-Name-clause-reads : goal.returns-in_ok-path-in-Name-clause-reads
returns-in_ok-path-in-Name-clause-reads g c = choice_takes (is_at c.in-Some.ensures c.in-Name.is) (body r-primary) _ c.in_ok-path-in-Name.ensures.reads

pub returns-in_default-class : goal.returns-in_default-class
returns-in_default-class g c = record { reads = other_stops (Number ∷ (WordTrue ∷ (WordFalse ∷ (Name ∷ (SignLeftBracket ∷ (Text ∷ (WordNil ∷ []))))))) refl refl c.in-Some.ensures (c.in_default-class.not-Number, (c.in_default-class.not-WordTrue, (c.in_default-class.not-WordFalse, (c.in_default-class.not-Name, (c.in_default-class.not-SignLeftBracket, (c.in_default-class.not-Text, (c.in_default-class.not-WordNil, tt))))))); less = tt }
