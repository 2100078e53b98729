-- Worked rows: the linear code of small regions, and what it does.
use Rattle.std.proofs.Common.{◌≡◌, ℕ, List, [], ◌∷◌, ◌++◌, true, false, pos, negsuc, refl}
use Rattle.tu_base.specs.Trace.{Put}
use Rattle.rv_isa.specs.declared.instr.Relation.TheVariants.{Less}
use Rattle.rv_isa.specs.declared.instr.RegisterOp.TheVariants.{Add}
use Rattle.rv_isa.specs.declared.service.Service.TheVariants.{PutConsole}
use Rattle.rv_image.specs.Streams.{Closed}
use Rattle.ir_form.specs.declared.plain.Plain.TheVariants.{Constant, Global, Store, Compute, Ask, Call}
use Rattle.ir_form.specs.declared.plain.Width.TheVariants.{Byte}
use Rattle.ir_form.specs.declared.op.Op.{Op, Plain as Simple, Leave}
use Rattle.ir_form.specs.declared.op.Op.TheViews.{If, Case, Loop}
use Rattle.ir_form.specs.declared.op.Exit.TheVariants.{Loop as the_loop}
use Rattle.ir_form.specs.declared.op.Region.{Region}
use Rattle.ir_form.specs.declared.unit.Routine.{Routine}
use Rattle.ir_form.specs.declared.unit.Unit.{Unit as RegionUnit}
use Rattle.ir_form.specs.State.{Ended, Stopped, Going}
use Rattle.ir_form.specs.Units.{Meant}
use Rattle.rv_flat.specs.declared.linear.Instruction.TheVariants.{Plain, Branch, Within, Hand, Jump, Label}
use Rattle.rv_flat.specs.Flat.{nothing_around, code_list, flat_unit}
use Rattle.rv_flat.specs.Units.{linear_run, linear_meaning}

abbrev pub region : List Op → List ℕ → Region
region ops results = record { parameters = []; ops = ops; results = results }

abbrev pub main : List Op → Routine
main ops = record { body = region ops []; results = 0; room = 64; words = 0; depth = 0 }

abbrev pub unit : List Routine → RegionUnit
unit routines = record { globals = 1; main = 0; routines = routines; texts = [] }

-- what its linear code means without input and files
abbrev pub means : RegionUnit → ℕ → ℕ → Meant
means u t s = linear_meaning (flat_unit u) (record { globals_at = 65536; texts_at = 65536 }) [] Closed t s

-- puts a value as a byte
abbrev pub shows : ℕ → List Op
shows x = Simple (Global 90 0) ∷ Simple (Store Byte 90 x) ∷ Simple (Constant 91 1) ∷ Simple (Ask 92 (PutConsole 90 91)) ∷ []

-- the sum of 1 to 4, by a loop of the program that is left in its fifth round
abbrev summing : List Op
summing =
    Simple (Constant 0 0) ∷ Simple (Constant 1 1) ∷ Simple (Constant 2 5)
    ∷ Loop true (0 ∷ 1 ∷ []) (record {
      parameters = 3 ∷ 4 ∷ [];
      ops = If Less 4 2 (region [] []) (region (Leave (the_loop 0) (3 ∷ []) ∷ []) []) [] ∷ Simple (Compute 5 Add 3 4) ∷ Simple (Compute 6 Add 4 1) ∷ [];
      results = 5 ∷ 6 ∷ [];
    }) (7 ∷ [])
    ∷ []

-- an If without values hands none over
summing_code : code_list nothing_around 0 summing ≡
    Plain (Constant 0 0) ∷ Plain (Constant 1 1) ∷ Plain (Constant 2 5)
    ∷ Hand (3 ∷ 4 ∷ []) (0 ∷ 1 ∷ []) ∷ Label 0 true
    ∷ Branch Less 4 2 2 ∷ Jump 3
    ∷ Label 2 false ∷ Hand (7 ∷ []) (3 ∷ []) ∷ Jump 1
    ∷ Label 3 false ∷ Plain (Compute 5 Add 3 4) ∷ Plain (Compute 6 Add 4 1)
    ∷ Hand (3 ∷ 4 ∷ []) (5 ∷ 6 ∷ []) ∷ Jump 0
    ∷ Label 1 false ∷ []
unfolding Rattle.ir_form.specs.declared.op.Op.TheBlock.hidden-the_row-Op-0 denote.Hole.Carrier.hidden
summing_code = refl

sums : (means (unit (main (summing ++ shows 7) ∷ [])) 5 0 ≡ record { trace = Put 10 ∷ []; verdict = Ended; cost = 347 }) × ((means (unit (main (summing ++ shows 7) ∷ [])) 4 0).verdict ≡ Going)
unfolding linear_run Rattle.ir_form.specs.declared.op.Op.TheBlock.hidden-the_row-Op-0 denote.Hole.Carrier.hidden
sums = (refl, refl)

-- the second round of a loop has the two values the other way round, and is an other round
abbrev swaps : RegionUnit
swaps = unit (main (
    Simple (Constant 0 3) ∷ Simple (Constant 1 8)
    ∷ Loop false (0 ∷ 1 ∷ []) (record {
      parameters = 2 ∷ 3 ∷ [];
      ops = If Less 2 3 (region [] []) (region (Leave (the_loop 0) (2 ∷ 3 ∷ []) ∷ []) []) [] ∷ [];
      results = 3 ∷ 2 ∷ [];
    }) (4 ∷ 5 ∷ [])
    ∷ shows 4 ++ shows 5) ∷ [])

swapped : ((means swaps 0 1).trace ≡ Put 8 ∷ Put 3 ∷ []) × ((means swaps 0 1).verdict ≡ Ended) × ((means swaps 0 0).verdict ≡ Going)
unfolding linear_run Rattle.ir_form.specs.declared.op.Op.TheBlock.hidden-the_row-Op-0 denote.Hole.Carrier.hidden
swapped = (refl, refl, refl)

-- a Leave of the outer of two loops, which would go on for ever
abbrev nested : RegionUnit
nested = unit (main (
    Simple (Constant 0 6)
    ∷ Loop true [] (region (Loop true [] (region (Leave (the_loop 1) (0 ∷ []) ∷ []) []) (1 ∷ []) ∷ []) []) (2 ∷ [])
    ∷ shows 2) ∷ [])

leaves_both : ((means nested 2 0).trace ≡ Put 6 ∷ []) × ((means nested 2 0).verdict ≡ Ended) × ((means nested 1 0).verdict ≡ Going)
unfolding linear_run Rattle.ir_form.specs.declared.op.Op.TheBlock.hidden-the_row-Op-0 denote.Hole.Carrier.hidden
leaves_both = (refl, refl, refl)

-- a routine that calls itself at line 7, with a room that is there twice beside that of the main program
abbrev recursive : RegionUnit
recursive = unit (main (Simple (Call 1 [] [] 3) ∷ []) ∷ record { body = region (Simple (Call 1 [] [] 7) ∷ []) []; results = 0; room = 4194272; words = 0; depth = 0 } ∷ [])

out_of_room : ((means recursive 3 0).verdict ≡ Stopped 21 7) × ((means recursive 2 0).verdict ≡ Going)
unfolding linear_run Rattle.ir_form.specs.declared.op.Op.TheBlock.hidden-the_row-Op-0 denote.Hole.Carrier.hidden
out_of_room = (refl, refl)

-- from -2 to 3 the first arm, never the second, at 4 the third, and else the others
abbrev choosing : List Op
choosing =
    Case 0 (record { ranges = record { low = negsuc 1; high = pos 3 } ∷ []; region = region [] (1 ∷ []) }
    ∷ record { ranges = []; region = region [] (0 ∷ []) }
    ∷ record { ranges = record { low = pos 3; high = negsuc 0 } ∷ record { low = pos 4; high = pos 4 } ∷ []; region = region [] (2 ∷ []) } ∷ []) (region [] (3 ∷ [])) (4 ∷ [])
    ∷ []

choosing_code : code_list nothing_around 0 choosing ≡
    Within 0 (record { low = negsuc 1; high = pos 3 }) 1 ∷ Within 0 (record { low = pos 3; high = negsuc 0 }) 3 ∷ Within 0 (record { low = pos 4; high = pos 4 }) 3
    ∷ Hand (4 ∷ []) (3 ∷ [])
    ∷ Jump 0 ∷ Label 1 false ∷ Hand (4 ∷ []) (1 ∷ [])
    ∷ Jump 0 ∷ Label 3 false ∷ Hand (4 ∷ []) (2 ∷ [])
    ∷ Label 0 false ∷ []
unfolding Rattle.ir_form.specs.declared.op.Op.TheBlock.hidden-the_row-Op-0 Rattle.ir_form.specs.declared.op.Op.TheBlock.hidden-the_row-Arm-1 denote.Hole.Carrier.hidden
choosing_code = refl

abbrev shown : ℕ → ℕ → Type 0
shown word byte = (means (unit (main (Simple (Constant 0 word) ∷ Simple (Constant 1 65) ∷ Simple (Constant 2 66) ∷ Simple (Constant 3 67) ∷ choosing ++ shows 4) ∷ [])) 0 0).trace ≡ Put byte ∷ []

arms : shown 4294967294 65 × shown 3 65 × shown 4 66 × shown 4294967293 67 × shown 5 67 × shown 2147483647 67
unfolding linear_run Rattle.ir_form.specs.declared.op.Op.TheBlock.hidden-the_row-Op-0 Rattle.ir_form.specs.declared.op.Op.TheBlock.hidden-the_row-Arm-1 denote.Hole.Carrier.hidden
arms = (refl, refl, refl, refl, refl, refl)
