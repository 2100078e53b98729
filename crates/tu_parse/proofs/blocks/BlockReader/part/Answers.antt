use Rattle.std.proofs.Common.{refl, [], ◌∷◌}
use Rattle.tu_reader.proofs.Steps.{right_takes, right_stops, exits}
use Rattle.tu_reader.proofs.Choices.{others_start, is_at, choice_takes, choice_stops, end_stops}
use Rattle.tu_token.specs.declared.class.Class.TheVariants.{WordBind, WordConst, WordType, WordVar}
use Rattle.tu_tree.specs.StatementViews.{block_part}
use Rattle.tu_parse.proofs.blocks.BlockReader.part.Goals as goal

pub returns-in_default-clause-reads : goal.returns-in_default-clause-reads
returns-in_default-clause-reads g c = end_stops refl c.in_default.ensures

pub returns-in_err-part-in-WordConst-clause-reads : goal.returns-in_err-part-in-WordConst-clause-reads
returns-in_err-part-in-WordConst-clause-reads g c = exits _ _ _ _ c.from_residual.ensures.1 (choice_stops (is_at c.in-Some.ensures c.in-WordConst.is) block_part c.in_err-part-in-WordConst.ensures.reads)

pub returns-in_ok-part-in-WordConst-clause-reads : goal.returns-in_ok-part-in-WordConst-clause-reads
returns-in_ok-part-in-WordConst-clause-reads g c = choice_takes (is_at c.in-Some.ensures c.in-WordConst.is) block_part _ c.in_ok-part-in-WordConst.ensures.reads

pub returns-in_err-part-in-WordVar-clause-reads : goal.returns-in_err-part-in-WordVar-clause-reads
returns-in_err-part-in-WordVar-clause-reads g c = exits _ _ _ _ c.from_residual-in_err-part-in-WordVar.ensures.1 (choice_stops (is_at c.in-Some.ensures c.in-WordVar.is) block_part c.in_err-part-in-WordVar.ensures.reads)

pub returns-in_ok-part-in-WordVar-clause-reads : goal.returns-in_ok-part-in-WordVar-clause-reads
returns-in_ok-part-in-WordVar-clause-reads g c = choice_takes (is_at c.in-Some.ensures c.in-WordVar.is) block_part _ c.in_ok-part-in-WordVar.ensures.reads

pub returns-in_err-part-in-WordType-clause-reads : goal.returns-in_err-part-in-WordType-clause-reads
returns-in_err-part-in-WordType-clause-reads g c = exits _ _ _ _ c.from_residual-in_err-part-in-WordType.ensures.1 (choice_stops (is_at c.in-Some.ensures c.in-WordType.is) block_part c.in_err-part-in-WordType.ensures.reads)

pub returns-in_ok-part-in-WordType-clause-reads : goal.returns-in_ok-part-in-WordType-clause-reads
returns-in_ok-part-in-WordType-clause-reads g c = choice_takes (is_at c.in-Some.ensures c.in-WordType.is) block_part _ c.in_ok-part-in-WordType.ensures.reads

pub returns-in_err-part-in-WordBind-clause-reads : goal.returns-in_err-part-in-WordBind-clause-reads
returns-in_err-part-in-WordBind-clause-reads g c = exits _ _ _ _ c.from_residual-in_err-part-in-WordBind.ensures.1 (choice_stops (is_at c.in-Some.ensures c.in-WordBind.is) block_part c.in_err-part-in-WordBind.ensures.reads)

pub returns-in_ok-part-in-WordBind-clause-reads : goal.returns-in_ok-part-in-WordBind-clause-reads
returns-in_ok-part-in-WordBind-clause-reads g c = choice_takes (is_at c.in-Some.ensures c.in-WordBind.is) block_part _ c.in_ok-part-in-WordBind.ensures.reads

pub returns-in_err-part-in_default-class-clause-reads : goal.returns-in_err-part-in_default-class-clause-reads
returns-in_err-part-in_default-class-clause-reads g c = exits _ _ _ _ c.from_residual-in_err-part-in_default-class.ensures.1 (right_stops (others_start c.in-Some.ensures (WordConst ∷ []) (c.in_default-class.not-WordConst, tt)) (right_stops (others_start c.in-Some.ensures (WordVar ∷ []) (c.in_default-class.not-WordVar, tt)) (right_stops (others_start c.in-Some.ensures (WordType ∷ []) (c.in_default-class.not-WordType, tt)) (right_stops (others_start c.in-Some.ensures (WordBind ∷ []) (c.in_default-class.not-WordBind, tt)) (c.in_err-part-in_default-class.ensures.reads)))))

pub returns-in_ok-part-in_default-class-clause-reads : goal.returns-in_ok-part-in_default-class-clause-reads
returns-in_ok-part-in_default-class-clause-reads g c = right_takes refl refl (right_takes refl refl (right_takes refl refl (right_takes refl refl (c.in_ok-part-in_default-class.ensures.reads))))
