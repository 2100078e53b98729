-- What holds of all sources.
use Rattle.std.specs.Prelude.{◌≡◌, ◌⊎◌, ℕ, List}
use Rattle.tu_check.specs.declared.refusal.Refusal.{Refusal}
use Rattle.tu_token.specs.Rules.{r-program}
use Rattle.tu_token.specs.Syntax.{Of}
use Rattle.tu_check.specs.Limits.{HasLimits}
use Rattle.tu_check.specs.Refusals.{IsAccepted, IsRefused}

-- an accepted source is one tree
abbrev pub IsAcceptedOnce : Type 0
IsAcceptedOnce = (source : List ℕ) (a b : Of r-program) → IsAccepted source a → IsAccepted source b → a ≡ b

-- a source has one refusal at most
abbrev pub IsRefusedOnce : Type 0
IsRefusedOnce = (source : List ℕ) (a b : Refusal) → IsRefused source a → IsRefused source b → a ≡ b

abbrev pub IsNeverBoth : Type 0
IsNeverBoth = (source : List ℕ) (tree : Of r-program) (refusal : Refusal) → IsAccepted source tree → IsRefused source refusal → ⊥

-- a source is accepted or refused
abbrev pub IsEitherWay : Type 0
IsEitherWay = (source : List ℕ) → ((tree : Of r-program) × IsAccepted source tree) ⊎ ((refusal : Refusal) × IsRefused source refusal)

-- the tree of an accepted source keeps the limits of its tokens
abbrev pub AcceptedHasLimits : Type 0
AcceptedHasLimits = (source : List ℕ) (tree : Of r-program) → IsAccepted source tree → HasLimits tree
