-- A hand-over in which a value is handed on to which another one is handed: the sources that are left, as exchanges have renamed them, and the
-- copies that are put off behind what is done for later values.
use Rattle.std.specs.Prelude.{◌≡◌, ℕ, ◌<◌, List, [], ◌∷◌, ◌++◌, Bool, true, All, drop}
use Rattle.rv_isa.specs.declared.instr.Instr.{Instr}
use Rattle.ir_form.specs.Units.{Head}
use Rattle.rv_layout.specs.Rooms.{slot}
use Rattle.rv_layout.specs.Moves.{moves, move_words, copy_words}
use Rattle.rv_emit.specs.declared.handing.PutOff.{PutOff}
use Rattle.rv_emit.specs.declared.handing.Mixed.{Mixed}

-- the first one is done last
abbrev pub put_off : Bool → List PutOff → List Instr
put_off near [] = []
put_off near (c ∷ cs) = put_off near cs ++ copy_words near true c.to c.from

-- a copy between near words, where they are near
pub record IsReached (near : Bool) (c : PutOff) : Type 0 where
  pub to : near ≡ true → c.to < 2048
  pub from : near ≡ true → c.from < 2048

-- the number of a place, which is near, where they are
pub record IsInReach (h : Head) (near : Bool) (number : ℕ) : Type 0 where
  pub bound : number < 8589934592
  pub slot_near : near ≡ true → slot h number < 2048

pub record AllInReach (h : Head) (near : Bool) (m : Mixed) : Type 0 where
  pub rest : All (IsInReach h near) m.rest.items
  pub copies : All (IsReached near) m.copies.items

-- the words of the moves that are left from a number on
abbrev pub words_left : Head → Bool → (to : List ℕ) → ℕ → Mixed → List Instr
words_left h near to i m = move_words h near true (moves (drop i to) (drop i m.rest.items)) ++ put_off near m.copies.items
