-- Calls and returns.
--
-- The caller goes to the callee's entry, which tests the room. Where it is not there, control comes back to the words that raise Storage. Else
-- the entry takes the room and comes back behind those: the caller puts the arguments into the callee's slots and goes there once more, and the
-- entry keeps where to return to. A return hands its values on one by one in register 5, with control to and fro by register 8.
use Rattle.std.specs.Prelude.{ℕ, ◌+◌, Bool, true, false, nat_eq, if◌then◌else◌, List, [], ◌∷◌, ◌++◌}
use Rattle.rv_isa.specs.declared.instr.Instr.{Instr}
use Rattle.rv_isa.specs.declared.instr.Instr.TheVariants.{Lui, Jalr, Branch, Load, Store, Shift, Register}
use Rattle.rv_isa.specs.declared.instr.Relation.TheVariants.{GreaterOrEqualUnsigned}
use Rattle.rv_isa.specs.declared.instr.LoadKind.TheVariants.{Word}
use Rattle.rv_isa.specs.declared.instr.StoreKind.TheVariants.{Word as whole_word}
use Rattle.rv_isa.specs.declared.instr.ShiftOp.TheVariants.{Slli, Srli}
use Rattle.rv_isa.specs.declared.instr.RegisterOp.TheVariants.{Add, Sub}
use Rattle.ir_form.specs.Plain.{storage}
use Rattle.ir_form.specs.Units.{Head}
use Rattle.rv_layout.specs.Pieces.{minus, copy, long, constant, store_word, go_to, call_to, raising, constant_length, reach}
use Rattle.rv_layout.specs.Rooms.{room_bytes, slot, load_value, store_value}

-- control comes back behind the five words that raise Storage
abbrev pub refusal_bytes : ℕ
refusal_bytes = 20

-- The entry. Register 6 has the room's bytes, and keeps them while the arguments are put.
abbrev pub tests_room : Head → List Instr
tests_room h = Register Sub 5 1 3 ∷ (constant 6 (room_bytes h) ++ (Branch GreaterOrEqualUnsigned 5 6 8 ∷ Jalr 0 8 0 ∷ []))

abbrev pub takes_room : List Instr
takes_room =
    Store whole_word 1 2 (minus 8) ∷ Register Sub 1 1 6 ∷ Jalr 8 8 refusal_bytes
    ∷ copy 2 1 ∷ Register Add 6 1 6 ∷ Store whole_word 6 8 (minus 4) ∷ []

abbrev pub entering_by : Bool → Head → List Instr
entering_by true h = tests_room h ++ takes_room
entering_by false h = constant 6 (room_bytes h) ++ takes_room

-- the room of a deeper routine is there always
abbrev pub entering : Head → List Instr
entering h = entering_by (nat_eq h.depth 0) h

-- the arguments go from the caller's slots to the callee's
abbrev pub passing : (caller callee : Head) → (to arguments : List ℕ) → List Instr
passing caller callee [] arguments = []
passing caller callee (t ∷ ts) [] = []
passing caller callee (t ∷ ts) (x ∷ xs) = load_value caller 5 x ++ (store_word 5 1 (slot callee t) ++ passing caller callee ts xs)

-- the results come to the caller's slots
abbrev pub taking_each : Head → List ℕ → List Instr
taking_each caller [] = copy 2 9 ∷ []
taking_each caller (t ∷ ts) = store_word 5 9 (slot caller t) ++ (Jalr 8 8 0 ∷ taking_each caller ts)

abbrev pub receiving : Head → List ℕ → List Instr
receiving caller to = Load Word 9 1 (minus 8) ∷ taking_each caller to

abbrev pub calling : (entry : ℕ) → (caller callee : Head) → (arguments to : List ℕ) → (line : ℕ) → List Instr
calling entry caller callee arguments to line =
    call_to entry ++ (raising storage line ++ (passing caller callee callee.parameters arguments ++ (Jalr 8 8 0 ∷ receiving caller to)))

-- the return
abbrev pub giving_each : Head → List ℕ → List Instr
giving_each h [] = Jalr 0 8 0 ∷ []
giving_each h (v ∷ vs) = load_value h 5 v ++ (Jalr 8 8 0 ∷ giving_each h vs)

abbrev pub returning : Head → List ℕ → List Instr
returning h values = constant 1 (room_bytes h) ++ (Register Add 1 1 2 ∷ Load Word 8 1 (minus 4) ∷ giving_each h values)

-- A run-time array: the shared piece takes as many words as register 5 says, or comes back to the words that raise Storage.
abbrev pub takes_words : List Instr
takes_words =
    Register Sub 6 1 3 ∷ Shift Srli 6 6 2 ∷ Branch GreaterOrEqualUnsigned 6 5 8 ∷ Jalr 0 8 0
    ∷ Shift Slli 5 5 2 ∷ Register Sub 1 1 5 ∷ Jalr 0 8 refusal_bytes ∷ []

abbrev pub taking : (shared : ℕ) → Head → (to words line : ℕ) → List Instr
taking shared h to words line = load_value h 5 words ++ (call_to shared ++ (raising storage line ++ store_value h 1 to))

-- not more words are handed back than there are between the frame and the lowest byte in use
abbrev pub handing_back : Head → (words : ℕ) → List Instr
handing_back h words =
    load_value h 5 words
    ++ (Register Sub 6 2 1 ∷ Shift Srli 6 6 2 ∷ Branch GreaterOrEqualUnsigned 6 5 8 ∷ copy 5 6 ∷ Shift Slli 5 5 2 ∷ Register Add 1 1 5 ∷ [])

-- From the start of the machine to the main program's first word, which returns to where the end is asked for.
abbrev pub opening : (room_size : ℕ) → (exit first : ℕ) → List Instr
opening room_size exit first =
    Lui 3 33554432 ∷ Register Sub 3 2 3 ∷ (long 6 room_size ++ (Register Sub 1 2 6 ∷ (long 8 exit
    ++ (Store whole_word 2 8 (minus 4) ∷ copy 2 1 ∷ go_to first))))

-- how many instructions these are
abbrev pub entering_length : Head → ℕ
entering_length h = (if nat_eq h.depth 0 then 9 else 6) + constant_length (room_bytes h)

abbrev pub passing_length : (caller callee : Head) → (to arguments : List ℕ) → ℕ
passing_length caller callee [] arguments = 0
passing_length caller callee (t ∷ ts) [] = 0
passing_length caller callee (t ∷ ts) (x ∷ xs) = reach (slot caller x) + reach (slot callee t) + passing_length caller callee ts xs

-- each value that goes to or from a slot, with a jump for it
abbrev pub each_length : Head → List ℕ → ℕ
each_length h [] = 0
each_length h (v ∷ vs) = reach (slot h v) + 1 + each_length h vs

abbrev pub calling_length : (caller callee : Head) → (arguments to : List ℕ) → ℕ
calling_length caller callee arguments to = 10 + passing_length caller callee callee.parameters arguments + each_length caller to

abbrev pub returning_length : Head → List ℕ → ℕ
returning_length h values = 3 + constant_length (room_bytes h) + each_length h values
