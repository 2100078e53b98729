use Rattle.tu_token.specs.Words.{words}
use Rattle.tu_token.proofs.words.word_class.Goals as goal

pub returns : goal.returns
unfolding words
returns c = c.class_in.ensures
