use Rattle.std.proofs.Common.{◌+◌, length, ap, sym, ◌∙◌}
use Rattle.std.specs.Prelude.{Some, option_map}
use Rattle.rv_isa.specs.Encoding.{decoding}
use Rattle.rv_machine.specs.Lists.{memory_of}
use Rattle.rv_machine.proofs.Texts.{word_fetched, none_fetched}
use Rattle.rv_machine.proofs.step.fetch_word.Goals as goal

pub returns-then-pc-words-clause-is : goal.returns-then-pc-words-clause-is
returns-then-pc-words-clause-is c =
    let fetched = word_fetched (memory_of c.args.memory.now) c.args.words (65536 + length c.args.memory.now) c.args.pc c.requires.start c.requires.aligned c.if-pc-words.true in
    ap Some c.decode.ensures.is ∙ (ap (λ w. Some (decoding w)) c.word.ensures ∙ sym (ap (option_map decoding) fetched))

pub returns-else-pc-words-clause-is : goal.returns-else-pc-words-clause-is
returns-else-pc-words-clause-is c =
    sym (ap (option_map decoding) (none_fetched (memory_of c.args.memory.now) c.args.words (65536 + length c.args.memory.now) c.args.pc c.if-pc-words.false))
