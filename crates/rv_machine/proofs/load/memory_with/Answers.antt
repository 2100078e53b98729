use Rattle.std.proofs.Common.{◌≡◌, ◌<◌, ℕ, length, get_or, ap, ◌∙◌, arith}
use Rattle.rv_machine.specs.Lists.{memory_of, text_in}
use Rattle.rv_machine.proofs.Start.{start_text, written}
use Rattle.rv_machine.proofs.load.memory_with.Goals as goal

pub returns-clause-text : goal.returns-clause-text
returns-clause-text c =
    let below : (k : ℕ) → k < length c.args.words.now → get_or c.args.words.now k 0 < 4294967296 = λ k l. (let f = c.type_inv.words k in omega arith) in
    let size : length c.put_text.new.bytes ≡ c.in_ok-memory.memory.len = omega arith in
    let is = written c.in_ok-memory.memory.len c.put_text.new.bytes _ size in
    ap (λ bytes. text_in (length c.args.words.now) (memory_of bytes)) is
    ∙ (ap (text_in (length c.args.words.now)) c.put_text.ensures ∙ start_text c.args.words.now below)
