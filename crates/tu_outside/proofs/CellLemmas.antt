-- Lines in one buffer.
use Rattle.std.proofs.Common.{◌-◌, ◌≤◌, length, take, drop, slice_index_or, arith, ◌≡◌, ℕ, List, [], ◌∷◌, ◌++◌, map, refl, ap, sym, ◌∙◌, append_assoc, append-nil}
use Rattle.std.proofs.Math.Seq.{take-length}
use Rattle.std.proofs.lemmas.List.{map-append, append_cancel_left}
use Rattle.std.specs.Prelude.{Bool, IsTrue, ◌↔◌}
use Rattle.tu_outside.specs.declared.memory_notes.Cell.{Cell}
use Rattle.tu_outside.specs.declared.memory_notes.Cell.TheVariants.{Byte, End}
use Rattle.tu_outside.specs.Cells.{lines_after, lines_of, pending_after, line_cells, cells_of}

-- the cells of one line
lines_of_one : (begun text : List ℕ) → lines_after begun (line_cells text) ≡ (begun ++ text) ∷ []
lines_of_one begun [] = simp append-nil
lines_of_one begun (byte ∷ text) = lines_of_one (begun ++ byte ∷ []) text ∙ ap (λ l. l ∷ []) (append_assoc begun (byte ∷ []) text)

pending_of_one : (begun text : List ℕ) → pending_after begun (line_cells text) ≡ []
pending_of_one begun [] = refl
pending_of_one begun (byte ∷ text) = pending_of_one (begun ++ byte ∷ []) text

-- a line that is appended to cells
lines_with_line : (begun : List ℕ) (cells : List Cell) (text : List ℕ)
    → lines_after begun (cells ++ line_cells text) ≡ lines_after begun cells ++ (pending_after begun cells ++ text) ∷ []
lines_with_line begun [] text = lines_of_one begun text
lines_with_line begun (Byte byte ∷ cells) text = lines_with_line (begun ++ byte ∷ []) cells text
lines_with_line begun (End ∷ cells) text = ap (λ ls. begun ∷ ls) (lines_with_line [] cells text)

pub pending_of_more : (begun : List ℕ) (cells : List Cell) (text : List ℕ) → pending_after begun (cells ++ line_cells text) ≡ []
pending_of_more begun [] text = pending_of_one begun text
pending_of_more begun (Byte byte ∷ cells) text = pending_of_more (begun ++ byte ∷ []) cells text
pending_of_more begun (End ∷ cells) text = pending_of_more [] cells text

pub lines_of_more : (cells : List Cell) (text : List ℕ) → pending_after [] cells ≡ [] → lines_of (cells ++ line_cells text) ≡ lines_of cells ++ text ∷ []
lines_of_more cells text whole = lines_with_line [] cells text ∙ ap (λ p. lines_of cells ++ (p ++ text) ∷ []) whole

-- cells whose last line has its end are those of their lines
cells_of_lines : (begun : List ℕ) (cells : List Cell) → cells_of (lines_after begun cells) ++ map Byte (pending_after begun cells) ≡ map Byte begun ++ cells
cells_of_lines begun [] = sym (append-nil (map Byte begun))
cells_of_lines begun (Byte byte ∷ cells) =
    cells_of_lines (begun ++ byte ∷ []) cells ∙ ap (λ l. l ++ cells) (map-append Byte begun (byte ∷ [])) ∙ append_assoc (map Byte begun) (Byte byte ∷ []) cells
cells_of_lines begun (End ∷ cells) =
    append_assoc (line_cells begun) (cells_of (lines_after [] cells)) (map Byte (pending_after [] cells))
    ∙ ap (λ l. line_cells begun ++ l) (cells_of_lines [] cells)
    ∙ append_assoc (map Byte begun) (End ∷ []) cells

pub whole_cells : (cells : List Cell) → pending_after [] cells ≡ [] → cells ≡ cells_of (lines_of cells)
whole_cells cells whole = sym (cells_of_lines [] cells) ∙ ap (λ p. cells_of (lines_of cells) ++ map Byte p) whole ∙ append-nil _

-- the lines of cells that were made of lines
first_line : (begun text : List ℕ) (cells : List Cell) → lines_after begun (line_cells text ++ cells) ≡ (begun ++ text) ∷ lines_of cells
first_line begun [] cells = ap (λ l. l ∷ lines_of cells) (sym (append-nil begun))
first_line begun (byte ∷ text) cells =
    first_line (begun ++ byte ∷ []) text cells ∙ ap (λ l. l ∷ lines_of cells) (append_assoc begun (byte ∷ []) text)

pub lines_of_cells : (lines : List (List ℕ)) → lines_of (cells_of lines) ≡ lines
lines_of_cells [] = refl
lines_of_cells (line ∷ lines) = first_line [] line (cells_of lines) ∙ ap (λ ls. line ∷ ls) (lines_of_cells lines)

-- after a first line that is the same, the rest decides
pub same_rest : (cells rest : List Cell) (line : List ℕ) (more lines : List (List ℕ)) (answer : Bool) → lines ≡ line ∷ more → cells ≡ line_cells line ++ rest
    → (IsTrue answer ↔ (rest ≡ cells_of more)) → (IsTrue answer ↔ (cells ≡ cells_of lines))
same_rest cells rest line more lines answer split front behind = (
  λ yes. front ∙ ap (λ r. line_cells line ++ r) (behind.0 yes) ∙ sym (ap cells_of split),
  λ same. behind.1 (append_cancel_left (line_cells line) rest (cells_of more) (sym front ∙ same ∙ ap cells_of split)),
)

-- a list that is not empty is its first item and the rest, as a pattern takes them
pub first_of : (lines : List (List ℕ)) (line : List ℕ) → 1 ≤ length lines → line ≡ slice_index_or lines 0 line
    → lines ≡ line ∷ take (length lines - 1) (drop 1 lines)
first_of [] line long is = absurd (omega arith)
first_of (x ∷ xs) line long is = let one_less : length (x ∷ xs) - 1 ≡ length xs = omega arith in rw (one_less, take-length) (ap (λ l. l ∷ xs) (sym is))
