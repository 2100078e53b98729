-- Conditions as they are made.
use Rattle.std.specs.Prelude.{Bool}
use Rattle.ir_code.specs.declared.code.Code.{Code}
use Rattle.rv_isa.specs.declared.instr.Relation.{Relation}
use Rattle.tu_value.specs.Comparisons.{Comparison}
use Rattle.ir_build.specs.declared.comparisons.Tested.{Tested as TestedValues}
use Rattle.ir_build.specs.Code.{Tested}

-- a relation, and whether the right side comes first
abbrev pub comparison : Relation × Bool → Comparison
comparison c = record { relation = c.0; swapped = c.1 }

abbrev pub tested_code : Code → TestedValues → Tested
tested_code code t = record { code = code; comparison = record { relation = t.relation; swapped = t.is_swapped }; left = t.left; right = t.right }
