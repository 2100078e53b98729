-- How relations between ints are tested on their words.
use Rattle.std.specs.Prelude.{ℕ, Bool, true, false, if◌then◌else◌}
use Rattle.tu_base.specs.declared.operator.Relation.{Relation}
use Rattle.tu_base.specs.declared.operator.Relation.TheVariants.{Equal, NotEqual, Less, Greater, LessOrEqual, GreaterOrEqual}
use Rattle.rv_isa.specs.Arithmetic.{holds}
use Rattle.rv_isa.specs.declared.instr.Relation.{Relation as MachineRelation}
use Rattle.rv_isa.specs.declared.instr.Relation.TheVariants as machine

-- a relation of the machine, and whether the right side comes first
pub record Comparison : Type 0 where
  pub relation : MachineRelation
  pub swapped : Bool

-- the order of ints is that of their words
abbrev pub comparison_of : Relation → Comparison
comparison_of Equal = record { relation = machine.Equal; swapped = false }
comparison_of NotEqual = record { relation = machine.NotEqual; swapped = false }
comparison_of Less = record { relation = machine.LessUnsigned; swapped = false }
comparison_of Greater = record { relation = machine.LessUnsigned; swapped = true }
comparison_of LessOrEqual = record { relation = machine.GreaterOrEqualUnsigned; swapped = true }
comparison_of GreaterOrEqual = record { relation = machine.GreaterOrEqualUnsigned; swapped = false }

-- what it says of the words of the left and the right side
abbrev pub compares : Comparison → (left right : ℕ) → Bool
compares c left right = if c.swapped then holds c.relation right left else holds c.relation left right
