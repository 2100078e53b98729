-- The text of a program: what lies around, the routines, and the literals.
use Rattle.std.specs.Prelude.{ℕ, ◌+◌, ◌*◌, ◌/◌, List, [], ◌∷◌, ◌++◌, length, map, take}
use Rattle.tu_base.specs.declared.limits.TheConstants.{TEXT_AT}
use Rattle.rv_isa.specs.declared.instr.Instr.{Instr}
use Rattle.rv_isa.specs.Encoding.{encoding}
use Rattle.rv_image.specs.Picture.{Picture}
use Rattle.ir_form.specs.Place.{Place}
use Rattle.rv_flat.specs.declared.linear.LinearRoutine.{LinearRoutine}
use Rattle.rv_flat.specs.declared.linear.Linear.{Linear}
use Rattle.rv_flat.specs.Units.{head_of}
use Rattle.rv_layout.specs.Pieces.{ask}
use Rattle.rv_layout.specs.Rooms.{head_at, room_bytes}
use Rattle.rv_layout.specs.Calling.{entering, entering_length, takes_words, opening}
use Rattle.rv_layout.specs.Words.{Addresses, code_words, far_jump}
use Rattle.rv_text.specs.Lengths.{routine_length, routines_length, label_offset}

-- the text begins here
abbrev pub text_at : ℕ
text_at = TEXT_AT

-- The opening has 11 words, the request for the end 2, and the piece that all run-time arrays share 7.
abbrev pub exit_at : ℕ
exit_at = text_at + 4 * 11

abbrev pub shared_at : ℕ
shared_at = text_at + 4 * 13

abbrev pub routines_at : ℕ
routines_at = text_at + 4 * 20

abbrev pub entry_at : List LinearRoutine → ℕ → ℕ
entry_at rs k = routines_at + 4 * routines_length rs (take k rs)

-- bytes four to a word, the lowest first, with zeros at the end
abbrev pub packed : List ℕ → List ℕ
packed [] = []
packed (a ∷ []) = a ∷ []
packed (a ∷ (b ∷ [])) = (a + 256 * b) ∷ []
packed (a ∷ (b ∷ (c ∷ []))) = (a + 256 * b + 65536 * c) ∷ []
packed (a ∷ (b ∷ (c ∷ (d ∷ more)))) = (a + 256 * b + 65536 * c + 16777216 * d) ∷ packed more

abbrev pub texts_at : Linear → ℕ
texts_at l = routines_at + 4 * routines_length l.routines l.routines

abbrev pub globals_at : Linear → ℕ
globals_at l = texts_at l + 4 * ((length l.texts + 3) / 4)

abbrev pub addresses : Linear → Addresses
addresses l = record { globals = globals_at l; texts = texts_at l; shared = shared_at; entry = entry_at l.routines }

-- a routine whose entry lies here
abbrev pub first_at : (start : ℕ) → LinearRoutine → ℕ
first_at start r = start + 4 * entering_length (head_of r)

abbrev pub label_at : List LinearRoutine → (start : ℕ) → LinearRoutine → ℕ → ℕ
label_at rs start r label = first_at start r + 4 * label_offset rs (head_of r) label r.code

abbrev pub routine_words : Addresses → List LinearRoutine → (start : ℕ) → LinearRoutine → List Instr
routine_words a rs start r = entering (head_of r) ++ code_words a rs (head_of r) (far_jump (label_at rs start r)) r.code

abbrev pub routines_words : Addresses → List LinearRoutine → (start : ℕ) → List LinearRoutine → List Instr
routines_words a rs start [] = []
routines_words a rs start (r ∷ more) = routine_words a rs start r ++ routines_words a rs (start + 4 * routine_length rs r) more

-- what lies around the routines
abbrev pub around : Linear → List Instr
around l =
    let main = head_at l.routines l.main in
    opening (room_bytes main) exit_at (entry_at l.routines l.main + 4 * entering_length main) ++ (ask 0 ++ takes_words)

abbrev pub all_words : Linear → List Instr
all_words l = around l ++ routines_words (addresses l) l.routines routines_at l.routines

abbrev pub text_of : Linear → List ℕ
text_of l = map encoding (all_words l) ++ packed l.texts

-- the image, whose run begins at its first word
abbrev pub image_of : Linear → Picture
image_of l = record { text = text_of l; globals = l.globals; entry = 0 }

-- where things lie for a run of the image
abbrev pub place_of_image : Linear → Place
place_of_image l = record { globals_at = globals_at l; texts_at = texts_at l }
