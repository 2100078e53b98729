-- Operations with regions that take and give values.
use Rattle.std.specs.Prelude.{ℕ, false, List, [], ◌∷◌}
use Rattle.rv_isa.specs.declared.instr.Relation.{Relation}
use Rattle.ir_form.specs.declared.op.Exit.TheVariants.{Loop as of_loop}
use Rattle.ir_form.specs.declared.op.Op.{Op, Leave}
use Rattle.ir_form.specs.declared.op.Op.TheViews.{If, Loop}
use Rattle.ir_form.specs.declared.op.Region.{Region}

-- a region that takes no values
abbrev pub giving : List Op → (results : List ℕ) → Region
giving ops results = record { parameters = []; ops = ops; results = results }

-- the first operations where the relation holds, and else the others; `to` takes what the chosen ones give
abbrev pub branch : Relation → (left right : ℕ) → (first : List Op) → (results : List ℕ) → (others : List Op) → (others_results to : List ℕ) → Op
branch relation left right first results others others_results to = If relation left right (giving first results) (giving others others_results) to

-- Rounds, none of which is a turn. The parameters take the values of the start and then those that a round gives, and `to` takes the value that ends
-- them.
abbrev pub cycle_of : (start parameters : List ℕ) → List Op → (results to : List ℕ) → Op
cycle_of start parameters ops results to = Loop false start (record { parameters = parameters; ops = ops; results = results }) to

-- the end of the innermost loop, which takes a value
abbrev pub leave_with : (value : ℕ) → Op
leave_with value = Leave (of_loop 0) (value ∷ [])
