-- Code that stands in a text.
use Rattle.std.specs.Prelude.{◌≡◌, ℕ, ◌+◌, List, [], ◌∷◌, map, Some}
use Rattle.rv_isa.specs.declared.instr.Instr.{Instr}
use Rattle.rv_isa.specs.Encoding.{Fits, encoding}
use Rattle.rv_isa.specs.Step.{Space, fetched}

abbrev pub codes_of : List Instr → List ℕ
codes_of ops = map encoding ops

abbrev pub AllFit : List Instr → Type 0
AllFit [] = Unit {0}
AllFit (op ∷ ops) = Fits op × AllFit ops

-- an instruction stands at a place
pub record StandsAt (s : Space) (at : ℕ) (op : Instr) : Type 0 where
  pub word : fetched s at ≡ Some (encoding op)
  pub fits : Fits op

-- these instructions stand from a place on
abbrev pub Stands : Space → ℕ → List Instr → Type 0
Stands s at [] = Unit {0}
Stands s at (op ∷ ops) = StandsAt s at op × Stands s (at + 4) ops
