use Rattle.std.proofs.Common.{refl, ap}
use Rattle.tu_token.specs.TokenList.{TokenList}
use Rattle.tu_token.specs.Lexemes.{IsLexed}
use Rattle.tu_token.specs.LexFaults.{HasNoFault}
use Rattle.tu_lex.proofs.Turns.{reads_none, reads_all, no_fault_left}
use Rattle.tu_lex.proofs.lexer.lex.Goals as goal

pub loop-progress-init : goal.loop-progress-init
loop-progress-init c =
    reads_none c.as_slice-bytes.result.now (record { tokens = c.make.result; nest = c.new.result; place = 0; line = 1 }) refl refl
    (ap (λ (t : TokenList). t.items) c.make.ensures) c.new.ensures

pub returns-clause-lexed : goal.returns-clause-lexed
returns-clause-lexed c =
    let lexed : IsLexed c.as_slice-bytes.result.now c.end_at.new.self =
    reads_all c.as_slice-bytes.result.now c.loop-progress.progress c.end_at.new.self c.loop-progress.invariant c.loop-progress-test.false
    (ap (λ (t : TokenList). t.items) c.end_at.ensures) (ap (λ (t : TokenList). t.start) c.end_at.ensures) (ap (λ (t : TokenList). t.line) c.end_at.ensures) in
    let none : HasNoFault c.as_slice-bytes.result.now = no_fault_left c.as_slice-bytes.result.now c.loop-progress.progress c.loop-progress.invariant c.loop-progress-test.false in
    rw (← c.as_slice-bytes.ensures) (lexed, none)
