-- The laws of the meaning of programs, beside those of every meaning.
use Rattle.std.specs.Prelude.{◌≡◌, ℕ, ◌≤◌, List, Option}
use Rattle.tu_base.specs.Files.{Files}
use Rattle.tu_token.specs.Rules.{r-program}
use Rattle.tu_token.specs.Syntax.{Of}
use Rattle.tu_tree_meaning.specs.Meaning.{meant}
use Rattle.tu_tree_meaning.specs.Programs.{execution, meaning}
use Rattle.tu_tree_meaning.specs.Steps.{Outcome, Done, Raised, Going}

-- a run that goes on has begun t turns, and one that is over no more
abbrev pub BeganTurns : {S A : Type 0} → (t : ℕ) → Outcome S A → Type 0
BeganTurns t (Done a s) = s.counts.turns ≤ t
BeganTurns t (Raised kind line s) = s.counts.turns ≤ t
BeganTurns t (Going s) = s.counts.turns ≡ t

-- a program goes on within t turns only where t have begun, so where the next one would begin
abbrev pub TurnsAreExact : Type 0
TurnsAreExact = (program : Of r-program) (input : List ℕ) (files : Option Files) (t : ℕ) → BeganTurns t (execution program input files t t).1

-- no loop ends by its depth: with any depth from the number of turns on a program means the same
abbrev pub DepthIsEnough : Type 0
DepthIsEnough = (program : Of r-program) (input : List ℕ) (files : Option Files) (t depth : ℕ) → t ≤ depth → meant (execution program input files t depth) ≡ meaning program input files t
