use Rattle.std.proofs.Common.{◌≡◌, ℕ, ◌<◌, false, List, length, length-drop, length-take, take, drop, ap, ◌∙◌, inr, arith}
use Rattle.std.specs.Prelude.{is_some}
use Rattle.tu_token.specs.Scans.{bad_place}
use Rattle.tu_lex.specs.declared.piece.Piece.TheVariants.{Gap, Text, Lexeme}
use Rattle.tu_lex.proofs.Steps.{front_within, at_fault, at_gap, at_text, at_lexeme}
use Rattle.tu_lex.proofs.lexer.step.Goals as goal

-- bytes are left
left : (bytes source : List ℕ) (place : ℕ) → bytes ≡ drop place source → place < length source → 0 < length bytes
left bytes source place e h = let l : length bytes ≡ length (drop place source) = ap (λ (x : List ℕ). length x) e in omega (arith, l, length-drop place source)

pub returns-in-Err : goal.returns-in-Err
returns-in-Err c = inr (at_fault c.args.bytes.now c.args.progress.now c.behind-rest.result.now c.in-Err.error c.requires.reads c.requires.some c.behind-rest.ensures (cc))

pub first-requires : goal.first-requires
first-requires c =
    (front_within c.args.progress.now.line c.behind-rest.result.now (Gap c.in-Ok-Gap.length) (left c.behind-rest.result.now c.args.bytes.now c.args.progress.now.place c.behind-rest.ensures c.requires.some) (cc)).1

pub first-text-requires : goal.first-text-requires
first-text-requires c =
    (front_within c.args.progress.now.line c.behind-rest.result.now (Text c.in-Ok-Text.length) (left c.behind-rest.result.now c.args.bytes.now c.args.progress.now.place c.behind-rest.ensures c.requires.some) (cc)).1

pub first-requires-in-Ok-Lexeme : goal.first-requires-in-Ok-Lexeme
first-requires-in-Ok-Lexeme c =
    (front_within c.args.progress.now.line c.behind-rest.result.now (Lexeme c.in-Ok-Lexeme.class c.in-Ok-Lexeme.length) (left c.behind-rest.result.now c.args.bytes.now c.args.progress.now.place c.behind-rest.ensures c.requires.some) (cc)).1

pub behind-requires : goal.behind-requires
behind-requires c =
    let w = front_within c.args.progress.now.line c.behind-rest.result.now (Text c.in-Ok-Text.length) (left c.behind-rest.result.now c.args.bytes.now c.args.progress.now.place c.behind-rest.ensures c.requires.some) (cc) in
    let l : length c.first-text.result.now ≡ length (take c.in-Ok-Text.length c.behind-rest.result.now) = ap (λ (x : List ℕ). length x) c.first-text.ensures in
    omega (arith, l, w.0, w.1, length-take c.in-Ok-Text.length c.behind-rest.result.now)

pub returns-in-Ok-Gap : goal.returns-in-Ok-Gap
returns-in-Ok-Gap c =
    let g = at_gap c.args.bytes.now c.args.progress.now c.behind-rest.result.now c.in-Ok-Gap.length c.requires.reads c.requires.some c.behind-rest.ensures (cc) in
    rw (c.pass.ensures, c.first.ensures) g

pub returns-in-Ok-Text : goal.returns-in-Ok-Text
returns-in-Ok-Text c =
    at_text c.args.bytes.now c.args.progress.now c.take.new.progress c.behind-rest.result.now c.in-Ok-Text.length c.has_bad_byte.result c.take.result
    c.requires.reads c.requires.some c.behind-rest.ensures (cc) (c.has_bad_byte.ensures ∙ ap (λ x. is_some (bad_place false 1 x)) (c.behind.ensures ∙ ap (drop 1) c.first-text.ensures))
    (rw c.first-text.ensures at c.take.ensures)

pub returns-in-Ok-Lexeme : goal.returns-in-Ok-Lexeme
returns-in-Ok-Lexeme c =
    at_lexeme c.args.bytes.now c.args.progress.now c.take-in-Ok-Lexeme.new.progress c.behind-rest.result.now c.in-Ok-Lexeme.length c.in-Ok-Lexeme.class c.take-in-Ok-Lexeme.result
    c.requires.reads c.requires.some c.behind-rest.ensures (cc) (rw c.first-in-Ok-Lexeme.ensures at c.take-in-Ok-Lexeme.ensures)
