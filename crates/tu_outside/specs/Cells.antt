-- Lines in one buffer: bytes, and an end after each line.
use Rattle.std.specs.Prelude.{ℕ, List, [], ◌∷◌, ◌++◌, map}
use Rattle.tu_outside.specs.declared.memory_notes.Cell.{Cell}
use Rattle.tu_outside.specs.declared.memory_notes.Cell.TheVariants.{Byte, End}

-- the lines, where these bytes stand before the first cell
abbrev pub lines_after : List ℕ → List Cell → List (List ℕ)
lines_after begun [] = []
lines_after begun (Byte byte ∷ cells) = lines_after (begun ++ byte ∷ []) cells
lines_after begun (End ∷ cells) = begun ∷ lines_after [] cells

-- what stands after the last end
abbrev pub pending_after : List ℕ → List Cell → List ℕ
pending_after begun [] = begun
pending_after begun (Byte byte ∷ cells) = pending_after (begun ++ byte ∷ []) cells
pending_after begun (End ∷ cells) = pending_after [] cells

abbrev pub lines_of : List Cell → List (List ℕ)
lines_of cells = lines_after [] cells

abbrev pub line_cells : List ℕ → List Cell
line_cells text = map Byte text ++ End ∷ []

abbrev pub cells_of : List (List ℕ) → List Cell
cells_of [] = []
cells_of (line ∷ lines) = line_cells line ++ cells_of lines
