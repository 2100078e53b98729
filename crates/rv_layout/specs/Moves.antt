-- Values that are handed on all at once, as copies and exchanges one after the other.
use Rattle.std.specs.Prelude.{ℕ, ◌+◌, ◌*◌, min, List, [], ◌∷◌, ◌++◌, Bool, true, false, nat_eq, ◌&&◌, ◌||◌, if◌then◌else◌, length, map}
use Rattle.std.specs.List.{list_all, list_any}
use Rattle.rv_isa.specs.declared.instr.Instr.{Instr}
use Rattle.ir_form.specs.Units.{Head}
use Rattle.rv_layout.specs.Pieces.{is_near, nothing, load_by, store_by}
use Rattle.rv_layout.specs.Rooms.{slot}

pub data Move : Type 0 where
  Copy : (to from : ℕ) → Move
  Swap : (to from : ℕ) → Move

abbrev pub is_among : List ℕ → ℕ → Bool
is_among [] x = false
is_among (y ∷ ys) x = nat_eq x y || is_among ys x

-- where a value is behind the exchange of two
abbrev pub exchanged : (a b : ℕ) → ℕ → ℕ
exchanged a b x = if nat_eq x a then b else if nat_eq x b then a else x

-- A value that stands where a later one goes to is exchanged with what is where it goes. Any other is copied, behind all that is done for the
-- later ones.
abbrev pub moves : (to from : List ℕ) → List Move
moves [] from = []
moves (t ∷ ts) [] = []
moves (t ∷ ts) (f ∷ fs) =
    if is_among ts f then Swap t f ∷ moves ts (map (exchanged t f) fs)
    else moves ts fs ++ Copy t f ∷ []

-- All accesses of a hand-over are alike, so that its length is known from its values alone. They are near where all its values are. Where a
-- value is handed on to which another one is handed, each move loads two values and stores two, and a copy stores back what it loaded.
abbrev pub are_near : Head → List ℕ → Bool
are_near h values = list_all (λ v. is_near (slot h v)) values

abbrev pub is_mixed : (to from : List ℕ) → Bool
is_mixed to from = list_any (is_among to) from

abbrev pub copy_words : (near mixed : Bool) → (to from : ℕ) → List Instr
copy_words near false to from = load_by near 5 2 from ++ store_by near 5 2 to
copy_words near true to from = load_by near 5 2 from ++ (load_by near 6 2 to ++ (store_by near 5 2 to ++ store_by near 5 2 from))

abbrev pub swap_words : (near : Bool) → (to from : ℕ) → List Instr
swap_words near to from = load_by near 5 2 from ++ (load_by near 6 2 to ++ (store_by near 5 2 to ++ store_by near 6 2 from))

abbrev pub move_words : Head → (near mixed : Bool) → List Move → List Instr
move_words h near mixed [] = []
move_words h near mixed (Copy to from ∷ ms) = copy_words near mixed (slot h to) (slot h from) ++ move_words h near mixed ms
move_words h near mixed (Swap to from ∷ ms) = swap_words near (slot h to) (slot h from) ++ move_words h near mixed ms

abbrev pub handing : Head → (to from : List ℕ) → List Instr
handing h to from = nothing ++ move_words h (are_near h to && are_near h from) (is_mixed to from) (moves to from)

abbrev pub handing_length : Head → (to from : List ℕ) → ℕ
handing_length h to from =
    1 + (if are_near h to && are_near h from then 1 else 3) * ((if is_mixed to from then 4 else 2) * min (length to) (length from))
