-- Worked rows: what code does over places, where no two values share one and where two do.
use Rattle.std.proofs.Common.{◌≡◌, ℕ, List, [], ◌∷◌, ◌++◌, refl}
use Rattle.std.specs.Prelude.{nat_eq}
use Rattle.std.specs.Map.{lookup}
use Rattle.tu_base.specs.Trace.{Put}
use Rattle.rv_isa.specs.declared.service.Service.TheVariants.{PutConsole}
use Rattle.rv_image.specs.Streams.{Closed}
use Rattle.ir_form.specs.declared.plain.Plain.TheVariants.{Constant, Global, Store, Ask, Call}
use Rattle.ir_form.specs.declared.plain.Width.TheVariants.{Byte}
use Rattle.ir_form.specs.State.{Ended}
use Rattle.ir_form.specs.Units.{Meant}
use Rattle.rv_flat.specs.declared.linear.Instruction.{Instruction}
use Rattle.rv_flat.specs.declared.linear.Instruction.TheVariants.{Plain, Hand, Back}
use Rattle.rv_flat.specs.declared.linear.LinearRoutine.{LinearRoutine}
use Rattle.rv_flat.specs.Units.{linear_run, linear_meaning}
use Rattle.rv_alloc.specs.declared.place.Place.{Place}
use Rattle.rv_alloc.specs.declared.place.Place.TheVariants.{Slot, Register}
use Rattle.rv_alloc.specs.Places.{number_of}
use Rattle.rv_alloc.specs.Renamed.{renamed_routine}

abbrev routine : (parameters : List ℕ) → List Instruction → LinearRoutine
routine parameters code = record { parameters = parameters; code = code; room = 64; words = 0; depth = 0 }

-- puts a value as a byte
abbrev shows : ℕ → List Instruction
shows x = Plain (Global 90 0) ∷ Plain (Store Byte 90 x) ∷ Plain (Constant 91 1) ∷ Plain (Ask 92 (PutConsole 90 91)) ∷ []

-- two constants are swapped and handed to a routine, which puts the first and then the second
abbrev main : LinearRoutine
main = routine [] (Plain (Constant 0 65) ∷ Plain (Constant 1 66) ∷ Hand (0 ∷ 1 ∷ []) (1 ∷ 0 ∷ []) ∷ Plain (Call 1 (0 ∷ 1 ∷ []) [] 3) ∷ Back [] ∷ [])

abbrev other : LinearRoutine
other = routine (4 ∷ 5 ∷ []) (shows 4 ++ shows 5 ++ Back [] ∷ [])

-- a routine over these places
abbrev placed : List (ℕ × Place) → LinearRoutine → LinearRoutine
placed places r = renamed_routine (λ v. number_of (lookup (nat_eq v) places)) r

-- what the code means over places of the two constants
abbrev over : (first second : Place) → Meant
over first second =
    linear_meaning (record {
      globals = 1;
      main = 0;
      routines = placed ((0, first) ∷ (1, second) ∷ []) main ∷ placed ((4, Slot 0) ∷ (5, Slot 1) ∷ (90, Slot 2) ∷ (91, Slot 3) ∷ (92, Slot 4) ∷ []) other ∷ [];
      texts = [];
    }) (record { globals_at = 65536; texts_at = 65536 }) [] Closed 1 0

in_slots : ((over (Slot 0) (Slot 1)).trace ≡ Put 66 ∷ Put 65 ∷ []) × ((over (Slot 0) (Slot 1)).verdict ≡ Ended)
unfolding linear_run
in_slots = (refl, refl)

-- a slot and a register of one number are two places
mixed : ((over (Register 0) (Slot 0)).trace ≡ Put 66 ∷ Put 65 ∷ []) × ((over (Slot 7) (Register 17)).trace ≡ Put 66 ∷ Put 65 ∷ [])
unfolding linear_run
mixed = (refl, refl)

-- two values in one slot
shared : (over (Slot 0) (Slot 0)).trace ≡ Put 66 ∷ Put 66 ∷ []
unfolding linear_run
shared = refl
