use Rattle.std.proofs.Common.{refl, [], ◌∷◌}
use Rattle.tu_reader.proofs.Steps.{left_takes, right_takes, right_stops, exits, otherwise_stops}
use Rattle.tu_reader.proofs.Choices.{others_start, is_at, choice_takes, end_stops}
use Rattle.tu_token.specs.declared.class.Class.TheVariants.{WordBoolean, WordEnum, WordInt, WordPointer, WordRecord, WordSet, WordString, WordUnion}
use Rattle.tu_token.specs.Rules.{body, r-base}
use Rattle.grammar.specs.Tree.{n-token}
use Rattle.tu_types_reader.proofs.types.TypeReader.base_form.Goals as goal

pub returns-in_default-clause-reads : goal.returns-in_default-clause-reads
returns-in_default-clause-reads g c = end_stops refl c.in_default.ensures

pub returns-in-WordInt-clause-reads : goal.returns-in-WordInt-clause-reads
returns-in-WordInt-clause-reads g c = choice_takes (is_at c.in-Some.ensures c.in-WordInt.is) (body r-base) n-token c.skip.ensures.takes

pub returns-in-WordBoolean-clause-reads : goal.returns-in-WordBoolean-clause-reads
returns-in-WordBoolean-clause-reads g c = choice_takes (is_at c.in-Some.ensures c.in-WordBoolean.is) (body r-base) n-token c.skip-in-WordBoolean.ensures.takes

pub returns-in_err-range-in_default-class-clause-reads : goal.returns-in_err-range-in_default-class-clause-reads
returns-in_err-range-in_default-class-clause-reads g c = exits _ _ _ _ c.from_residual.ensures.1 (right_stops (others_start c.in-Some.ensures (WordInt ∷ []) (c.in_default-class.not-WordInt, tt)) (right_stops (others_start c.in-Some.ensures (WordBoolean ∷ []) (c.in_default-class.not-WordBoolean, tt)) (right_stops (others_start c.in-Some.ensures (WordString ∷ []) (c.in_default-class.not-WordString, tt)) (otherwise_stops refl refl (others_start c.in-Some.ensures (WordEnum ∷ (WordSet ∷ (WordPointer ∷ (WordRecord ∷ (WordUnion ∷ []))))) (c.in_default-class.not-WordEnum, (c.in_default-class.not-WordSet, (c.in_default-class.not-WordPointer, (c.in_default-class.not-WordRecord, (c.in_default-class.not-WordUnion, tt)))))) c.in_err-range-in_default-class.ensures.reads))))

pub returns-in_ok-range-in_default-class-clause-reads : goal.returns-in_ok-range-in_default-class-clause-reads
returns-in_ok-range-in_default-class-clause-reads g c = right_takes refl refl (right_takes refl refl (right_takes refl refl (left_takes refl c.in_ok-range-in_default-class.ensures.reads)))
