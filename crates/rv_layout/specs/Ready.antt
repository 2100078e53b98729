-- What is asked of linear code whose instructions keep step with what it does.
use Rattle.std.specs.Prelude.{◌≡◌, ℕ, ◌+◌, ◌/◌, ◌%◌, ◌<◌, ◌≤◌, All}
use Rattle.std.specs.Int.{w32}
use Rattle.std.specs.Int.RustNames.{FitsSigned}
use Rattle.ir_form.specs.declared.plain.Plain.{Plain as PlainOp}
use Rattle.ir_form.specs.declared.plain.Plain.TheVariants.{Constant, Call, Raise, Take}
use Rattle.ir_form.specs.declared.op.Range.{Range}
use Rattle.ir_form.specs.Units.{Head}
use Rattle.rv_flat.specs.declared.linear.Instruction.{Instruction}
use Rattle.rv_flat.specs.declared.linear.Instruction.TheVariants.{Plain, Within}
use Rattle.rv_flat.specs.declared.linear.LinearRoutine.{LinearRoutine}
use Rattle.rv_flat.specs.declared.linear.Linear.{Linear}
use Rattle.rv_flat.specs.Units.{head_of}
use Rattle.rv_flat.specs.Parts.{linear_numbers, HasItsLabels, TakesOnce, IsUnguarded}
use Rattle.rv_flat.specs.Lawful.{IsSoundLinear}

-- A value is in a slot of the room, below its last 32 words. As the numbers of slots are odd, no two values share one.
pub record InSlot (h : Head) (value : ℕ) : Type 0 where
  pub odd : value % 2 ≡ 1
  pub room : h.words + value / 2 + 33 ≤ h.room

-- the ranges of the numbers that an instruction has, which their types in the program give
abbrev pub IsWord : ℕ → Type 0
IsWord n = n < 4294967296

abbrev pub IsSmallPlain : PlainOp → Type 0
IsSmallPlain (Constant to word) = IsWord word
IsSmallPlain (Call routine arguments to line) = IsWord line
IsSmallPlain (Raise kind line) = IsWord line
IsSmallPlain (Take to words line) = IsWord line
IsSmallPlain _ = Unit {0}

-- signed numbers of 32 bits
pub record IsSmallRange (r : Range) : Type 0 where
  pub low : FitsSigned w32 r.low
  pub high : FitsSigned w32 r.high

abbrev pub IsSmall : Instruction → Type 0
IsSmall (Plain p) = IsSmallPlain p
IsSmall (Within value range label) = IsSmallRange range
IsSmall _ = Unit {0}

-- a routine whose labels stand once, whose values are all in slots, whose values that are taken at once differ, and whose numbers are in range
pub record IsReadyRoutine (r : LinearRoutine) : Type 0 where
  pub labels : HasItsLabels r.code
  pub slots : All (InSlot (head_of r)) (linear_numbers r)
  pub once : TakesOnce r
  pub small : All IsSmall r.code

-- and no guard begins anywhere
pub record IsReadyCode (l : Linear) : Type 0 where
  pub sound : IsSoundLinear l
  pub unguarded : IsUnguarded l
  pub routines : All IsReadyRoutine l.routines
