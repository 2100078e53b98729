-- Which place of linear code may follow which, and what is defined on the way.
use Rattle.std.specs.Prelude.{◌≡◌, ℕ, suc, ◌+◌, List, [], ◌∷◌, Bool, true, false, ◌==◌, if◌then◌else◌, Some, Contains, slice_get}
use Rattle.ir_form.specs.declared.plain.Plain.{Plain as PlainOp}
use Rattle.ir_form.specs.declared.plain.Plain.TheVariants.{Raise, Throw}
use Rattle.ir_form.specs.Values.{used, made}
use Rattle.rv_flat.specs.declared.linear.Instruction.{Instruction}
use Rattle.rv_flat.specs.declared.linear.Instruction.TheVariants.{Plain, Guarded, Open, Branch, Within, Hand, Jump, Label, Back}
use Rattle.rv_flat.specs.declared.linear.Handler.{Handler}

abbrev pub is_label : ℕ → Instruction → Bool
is_label sought (Label label marked) = sought == label
is_label sought _ = false

-- the place of a label: the first one with this number, or the end of the code
abbrev pub place_of_label : ℕ → List Instruction → ℕ
place_of_label sought [] = 0
place_of_label sought (i ∷ is) = if is_label sought i then 0 else suc (place_of_label sought is)

-- the values that an instruction uses
abbrev pub instruction_uses : Instruction → List ℕ
instruction_uses (Plain p) = used p
instruction_uses (Guarded p h) = used p
instruction_uses (Open mark) = []
instruction_uses (Branch relation left right label) = left ∷ right ∷ []
instruction_uses (Within value range label) = value ∷ []
instruction_uses (Hand to from) = from
instruction_uses (Jump label) = []
instruction_uses (Label label marked) = []
instruction_uses (Back values) = values

-- a hand-over of nothing does nothing
abbrev pub handed : (to from : List ℕ) → List ℕ
handed to [] = []
handed to (x ∷ xs) = to

-- the values that it defines for the next place
abbrev pub instruction_defines : Instruction → List ℕ
instruction_defines (Plain p) = made p
instruction_defines (Guarded p h) = made p
instruction_defines (Open mark) = []
instruction_defines (Branch relation left right label) = []
instruction_defines (Within value range label) = []
instruction_defines (Hand to from) = handed to from
instruction_defines (Jump label) = []
instruction_defines (Label label marked) = []
instruction_defines (Back values) = []

-- the next place may follow
abbrev pub falls_plain : PlainOp → Bool
falls_plain (Raise kind line) = false
falls_plain (Throw kind line) = false
falls_plain _ = true

abbrev pub falls : Instruction → Bool
falls (Plain p) = falls_plain p
falls (Guarded p h) = falls_plain p
falls (Jump label) = false
falls (Back values) = false
falls _ = true

-- the labels that an instruction itself goes to
abbrev pub jump_targets : Instruction → List ℕ
jump_targets (Branch relation left right label) = label ∷ []
jump_targets (Within value range label) = label ∷ []
jump_targets (Jump label) = label ∷ []
jump_targets _ = []

-- The place q may follow the place p, where the instruction i stands, and these values are defined on the way: it is the next one, or has a label
-- that is gone to, or that of the handler of an exception. There the exception's number and line are defined, and nothing of the operation that
-- raised it.
pub data Follows (code : List Instruction) (i : Instruction) (p q : ℕ) (defined : List ℕ) : Type 0 where
  Behind : falls i ≡ true → q ≡ p + 1 → defined ≡ instruction_defines i → Follows code i p q defined
  Gone : (label : ℕ) (marked : Bool) → Contains (jump_targets i) label → slice_get code q ≡ Some (Label label marked) → defined ≡ [] → Follows code i p q defined
  Taken : (plain : PlainOp) (h : Handler) (marked : Bool) → i ≡ Guarded plain h → slice_get code q ≡ Some (Label h.label marked) → defined ≡ h.to → Follows code i p q defined
