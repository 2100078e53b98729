-- Three codes that write bytes, from a text to what a small machine runs, and the smallest image.
use Rattle.std.specs.Prelude.{ℕ, zero, suc, ◌+◌, nat_le, List, [], ◌∷◌, reverse}
use Rattle.grammar.specs.Tree.{no_mark}
use Rattle.tu_base.specs.Trace.{Put}
use Rattle.rv_image.specs.Picture.{Picture}
use Rattle.rv_image.specs.Run.{MachineVerdict, Ended, Going}
use Rattle.tu_token.specs.Rules.{r-program}
use Rattle.tu_token.specs.Syntax.{Of}
use Rattle.tu_tree.specs.Forms.{NoMore, Program}
use Rattle.tu_agree.specs.Outcomes.{CodeOutcome, CodeMeaning, by_turns}

-- how a code stands that does no more, at a cost and with so many turns and other rounds
abbrev pub stands : MachineVerdict → (cost begun : ℕ) → CodeOutcome
stands verdict cost begun = record { trace = []; verdict = verdict; cost = cost; begun = begun }

-- a byte is written so, and then comes the rest
abbrev pub wrote : (byte cost begun : ℕ) → CodeOutcome → CodeOutcome
wrote byte cost begun rest = record { trace = Put byte ∷ rest.trace; verdict = rest.verdict; cost = cost + rest.cost; begun = begun + rest.begun }

-- A text begins a turn for each of its bytes, at a cost of 1.
abbrev pub written : List ℕ → (t : ℕ) → CodeOutcome
written [] t = stands Ended 0 0
written (byte ∷ bytes) zero = stands Going 0 0
written (byte ∷ bytes) (suc t) = wrote byte 1 1 (written bytes t)

abbrev pub text_meant : List ℕ → CodeMeaning
text_meant bytes = by_turns (λ input folder t. written bytes t)

-- A stack begins a turn and another round for each of its bytes, from the last one on, at a cost of 3, and ends at a cost of 2.
abbrev pub unstacked : List ℕ → (t s : ℕ) → CodeOutcome
unstacked [] t s = stands Ended 2 0
unstacked (byte ∷ bytes) zero s = stands Going 0 0
unstacked (byte ∷ bytes) (suc t) zero = stands Going 0 0
unstacked (byte ∷ bytes) (suc t) (suc s) = wrote byte 3 2 (unstacked bytes t s)

-- it may lie where no text lies behind the first global
abbrev pub stack_meant : List ℕ → CodeMeaning
stack_meant stack = record {
  fits = λ first_global texts_at. nat_le texts_at first_global;
  outcome = λ first_global texts_at input folder t s. unstacked (reverse stack) t s;
}

-- The machine waits for some instructions. Then it takes one to write a byte, and waits for five more; or one to end.
abbrev pub ran : List ℕ → (waits n : ℕ) → CodeOutcome
ran bytes waits zero = stands Going 0 0
ran bytes (suc waits) (suc n) = let rest = ran bytes waits n in record rest { cost = 1 + rest.cost; begun = 1 + rest.begun }
ran [] zero (suc n) = stands Ended 1 1
ran (byte ∷ bytes) zero (suc n) = wrote byte 1 1 (ran bytes 5 n)

abbrev pub words_meant : List ℕ → CodeMeaning
words_meant bytes = by_turns (λ input folder n. ran bytes 5 n)

-- a program without items
abbrev pub empty_program : Of r-program
empty_program = Program no_mark NoMore

-- an image whose only instruction asks for the end
abbrev pub halting : Picture
halting = record { text = 0x73 ∷ []; globals = 0; entry = 0 }
