use Rattle.std.proofs.Common.{refl, [], ◌∷◌}
use Rattle.tu_reader.proofs.Steps.{left_takes, otherwise_stops, right_takes, right_stops, exits}
use Rattle.tu_reader.proofs.Choices.{others_start, is_at, choice_takes, choice_stops, end_stops}
use Rattle.tu_token.specs.declared.class.Class.TheVariants.{WordBody, WordConst, WordForward, WordFunction, WordInvariant, WordProcedure, WordType, WordVar}
use Rattle.tu_tree.specs.ProgramViews.{module_part}
use Rattle.tu_parse.proofs.Starts.{module_part_stops}
use Rattle.tu_parse.proofs.programs.module_part.Goals as goal

pub returns-in_default-clause-reads : goal.returns-in_default-clause-reads
returns-in_default-clause-reads c = end_stops refl c.in_default.ensures

pub returns-in_err-part-in-WordConst-clause-reads : goal.returns-in_err-part-in-WordConst-clause-reads
returns-in_err-part-in-WordConst-clause-reads c = exits _ _ _ _ c.from_residual.ensures.1 (choice_stops (is_at c.in-Some.ensures c.in-WordConst.is) module_part c.in_err-part-in-WordConst.ensures.reads)

pub returns-in_ok-part-in-WordConst-clause-reads : goal.returns-in_ok-part-in-WordConst-clause-reads
returns-in_ok-part-in-WordConst-clause-reads c = choice_takes (is_at c.in-Some.ensures c.in-WordConst.is) module_part _ c.in_ok-part-in-WordConst.ensures.reads

pub returns-in_err-part-in-WordVar-clause-reads : goal.returns-in_err-part-in-WordVar-clause-reads
returns-in_err-part-in-WordVar-clause-reads c = exits _ _ _ _ c.from_residual-in_err-part-in-WordVar.ensures.1 (choice_stops (is_at c.in-Some.ensures c.in-WordVar.is) module_part c.in_err-part-in-WordVar.ensures.reads)

pub returns-in_ok-part-in-WordVar-clause-reads : goal.returns-in_ok-part-in-WordVar-clause-reads
returns-in_ok-part-in-WordVar-clause-reads c = choice_takes (is_at c.in-Some.ensures c.in-WordVar.is) module_part _ c.in_ok-part-in-WordVar.ensures.reads

pub returns-in_err-part-in-WordType-clause-reads : goal.returns-in_err-part-in-WordType-clause-reads
returns-in_err-part-in-WordType-clause-reads c = exits _ _ _ _ c.from_residual-in_err-part-in-WordType.ensures.1 (choice_stops (is_at c.in-Some.ensures c.in-WordType.is) module_part c.in_err-part-in-WordType.ensures.reads)

pub returns-in_ok-part-in-WordType-clause-reads : goal.returns-in_ok-part-in-WordType-clause-reads
returns-in_ok-part-in-WordType-clause-reads c = choice_takes (is_at c.in-Some.ensures c.in-WordType.is) module_part _ c.in_ok-part-in-WordType.ensures.reads

pub returns-in_err-part-in_default-class-clause-reads : goal.returns-in_err-part-in_default-class-clause-reads
returns-in_err-part-in_default-class-clause-reads c = exits _ _ _ _ c.from_residual-in_err-part-in_default-class.ensures.1 (right_stops (others_start c.in-Some.ensures (WordConst ∷ []) (c.in_default-class.not-WordConst, tt)) (right_stops (others_start c.in-Some.ensures (WordVar ∷ []) (c.in_default-class.not-WordVar, tt)) (right_stops (others_start c.in-Some.ensures (WordType ∷ []) (c.in_default-class.not-WordType, tt)) (right_stops (others_start c.in-Some.ensures (WordForward ∷ (WordBody ∷ (WordProcedure ∷ (WordFunction ∷ [])))) (c.in_default-class.not-WordForward, (c.in_default-class.not-WordBody, (c.in_default-class.not-WordProcedure, (c.in_default-class.not-WordFunction, tt))))) (otherwise_stops refl refl (others_start c.in-Some.ensures (WordInvariant ∷ []) (c.in_default-class.not-WordInvariant, tt)) c.in_err-part-in_default-class.ensures.reads)))))

pub returns-in_ok-part-in_default-class-clause-reads : goal.returns-in_ok-part-in_default-class-clause-reads
returns-in_ok-part-in_default-class-clause-reads c = right_takes refl refl (right_takes refl refl (right_takes refl refl (right_takes refl refl (left_takes refl c.in_ok-part-in_default-class.ensures.reads))))

pub returns-in_err-part-in-WordForward-clause-reads : goal.returns-in_err-part-in-WordForward-clause-reads
returns-in_err-part-in-WordForward-clause-reads c = exits _ _ _ _ c.from_residual-in_err-part-in-WordForward.ensures.1 (module_part_stops c.in-Some.ensures c.in-WordForward.is c.in_err-part-in-WordForward.ensures.reads)

pub returns-in_ok-part-in-WordForward-clause-reads : goal.returns-in_ok-part-in-WordForward-clause-reads
returns-in_ok-part-in-WordForward-clause-reads c = (right_takes refl refl (right_takes refl refl (right_takes refl refl (left_takes refl c.in_ok-part-in-WordForward.ensures.reads))))

pub returns-in_err-part-in-WordInvariant-clause-reads : goal.returns-in_err-part-in-WordInvariant-clause-reads
returns-in_err-part-in-WordInvariant-clause-reads c = exits _ _ _ _ c.from_residual-in_err-part-in-WordInvariant.ensures.1 (choice_stops (is_at c.in-Some.ensures c.in-WordInvariant.is) module_part c.in_err-part-in-WordInvariant.ensures.reads)

pub returns-in_ok-part-in-WordInvariant-clause-reads : goal.returns-in_ok-part-in-WordInvariant-clause-reads
returns-in_ok-part-in-WordInvariant-clause-reads c = choice_takes (is_at c.in-Some.ensures c.in-WordInvariant.is) module_part _ c.in_ok-part-in-WordInvariant.ensures.reads
