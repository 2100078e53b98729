use Rattle.std.proofs.Common.{refl, [], ◌∷◌}
use Rattle.tu_reader.proofs.Choices.{is_at, choice_takes, other_stops}
use Rattle.tu_token.specs.declared.class.Class.TheVariants.{Name, WordAssert, WordBegin, WordCase, WordClose, WordExit, WordFor, WordFree, WordGet, WordIf, WordLoop, WordNew, WordOpen, WordPut, WordQuit, WordResult, WordReturn, WordTag}
use Rattle.tu_token.specs.Rules.{body, r-statement}
use Rattle.grammar.specs.Tree.{n-token}
use Rattle.tu_parse.proofs.simple.simple.Goals as goal

pub returns-in-WordReturn-clause-reads : goal.returns-in-WordReturn-clause-reads
returns-in-WordReturn-clause-reads c = choice_takes (is_at c.requires.next c.in-WordReturn.is) (body r-statement) n-token c.skip.ensures.takes

pub returns-in_default : goal.returns-in_default
returns-in_default c = record { reads = other_stops (Name ∷ (WordIf ∷ (WordLoop ∷ (WordFor ∷ (WordCase ∷ (WordBegin ∷ (WordExit ∷ (WordReturn ∷ (WordResult ∷ (WordAssert ∷ (WordNew ∷ (WordFree ∷ (WordTag ∷ (WordPut ∷ (WordGet ∷ (WordOpen ∷ (WordClose ∷ (WordQuit ∷ [])))))))))))))))))) refl refl c.requires.next (c.in_default.not-Name, (c.requires.simple.0, (c.requires.simple.1.0, (c.requires.simple.1.1.0, (c.requires.simple.1.1.1.0, (c.requires.simple.1.1.1.1.0, (c.in_default.not-WordExit, (c.in_default.not-WordReturn, (c.in_default.not-WordResult, (c.in_default.not-WordAssert, (c.in_default.not-WordNew, (c.in_default.not-WordFree, (c.in_default.not-WordTag, (c.in_default.not-WordPut, (c.in_default.not-WordGet, (c.in_default.not-WordOpen, (c.in_default.not-WordClose, (c.in_default.not-WordQuit, tt)))))))))))))))))); less = tt }
