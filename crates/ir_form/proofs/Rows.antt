-- Worked runs of region code, computed.
use Rattle.std.proofs.Common.{◌≡◌, ℕ, ◌+◌, ◌-◌, ◌*◌, List, [], ◌∷◌, ◌++◌, Some, None, true, false, pos, negsuc, refl}
use Rattle.tu_base.specs.Trace.{Put}
use Rattle.tu_base.specs.declared.kind.Kind.TheVariants.{Assert}
use Rattle.rv_isa.specs.declared.instr.Relation.TheVariants.{Less}
use Rattle.rv_isa.specs.declared.instr.RegisterOp.TheVariants.{Add}
use Rattle.rv_isa.specs.declared.service.Service.TheVariants.{PutConsole}
use Rattle.rv_image.specs.Streams.{Closed as nothing}
use Rattle.ir_form.specs.declared.plain.Plain.TheVariants.{Constant, Global, Store, Compute, Ask, Call, Raise, Take}
use Rattle.ir_form.specs.declared.plain.Width.TheVariants.{Byte as one_byte}
use Rattle.ir_form.specs.declared.op.Op.{Op, Plain, Leave}
use Rattle.ir_form.specs.declared.op.Op.TheViews.{If, Case, Loop}
use Rattle.ir_form.specs.declared.op.Exit.TheVariants.{Loop as the_loop}
use Rattle.ir_form.specs.declared.op.Region.{Region}
use Rattle.ir_form.specs.declared.unit.Routine.{Routine}
use Rattle.ir_form.specs.declared.unit.Unit.{Unit as RegionUnit}
use Rattle.ir_form.specs.Place.{Place}
use Rattle.ir_form.specs.Cells.{Closed, Unset, Byte}
use Rattle.ir_form.specs.State.{Run, Ended, Stopped, Going, Stuck, Throws, Over}
use Rattle.ir_form.specs.Units.{Meant, meaning, unit_run}

abbrev place : Place
place = record { globals_at = 65536; texts_at = 65536 }

abbrev pub region : List Op → List ℕ → Region
region ops results = record { parameters = []; ops = ops; results = results }

abbrev pub main : List Op → Routine
main ops = record { body = region ops []; room = 64; words = 0; depth = 0; results = 0 }

abbrev pub unit : List Routine → RegionUnit
unit routines = record { globals = 1; main = 0; routines = routines; texts = [] }

-- what it means without input and files
abbrev pub means : RegionUnit → ℕ → ℕ → Meant
means u t s = meaning u place [] nothing t s

abbrev pub runs : RegionUnit → ℕ → ℕ → Run
runs u t s = unit_run u place [] nothing t s

-- puts a value as a byte
abbrev pub shows : ℕ → List Op
shows x = Plain (Global 90 0) ∷ Plain (Store one_byte 90 x) ∷ Plain (Constant 91 1) ∷ Plain (Ask 92 (PutConsole 90 91)) ∷ []

-- the sum of 1 to 4, by a loop of the program that is left in its fifth round
abbrev sums : RegionUnit
sums = unit (main (
    Plain (Constant 0 0) ∷ Plain (Constant 1 1) ∷ Plain (Constant 2 5)
    ∷ Loop true (0 ∷ 1 ∷ []) (record {
      parameters = 3 ∷ 4 ∷ [];
      ops = If Less 4 2 (region [] []) (region (Leave (the_loop 0) (3 ∷ []) ∷ []) []) [] ∷ Plain (Compute 5 Add 3 4) ∷ Plain (Compute 6 Add 4 1) ∷ [];
      results = 5 ∷ 6 ∷ [];
    }) (7 ∷ [])
    ∷ shows 7) ∷ [])

sums_up : (means sums 5 0 ≡ record { trace = Put 10 ∷ []; verdict = Ended; cost = 359 }) × ((means sums 4 0).verdict ≡ Going)
unfolding unit_run Rattle.ir_form.specs.declared.op.Op.TheBlock.hidden-the_row-Op-0 denote.Hole.Carrier.hidden
sums_up = (refl, refl)

-- the second round of a loop has the two values the other way round, and is an other round
abbrev swaps : RegionUnit
swaps = unit (main (
    Plain (Constant 0 3) ∷ Plain (Constant 1 8)
    ∷ Loop false (0 ∷ 1 ∷ []) (record {
      parameters = 2 ∷ 3 ∷ [];
      ops = If Less 2 3 (region [] []) (region (Leave (the_loop 0) (2 ∷ 3 ∷ []) ∷ []) []) [] ∷ [];
      results = 3 ∷ 2 ∷ [];
    }) (4 ∷ 5 ∷ [])
    ∷ shows 4 ++ shows 5) ∷ [])

swapped : ((means swaps 0 1).trace ≡ Put 8 ∷ Put 3 ∷ []) × ((means swaps 0 1).verdict ≡ Ended) × ((means swaps 0 0).verdict ≡ Going)
unfolding unit_run Rattle.ir_form.specs.declared.op.Op.TheBlock.hidden-the_row-Op-0 denote.Hole.Carrier.hidden
swapped = (refl, refl, refl)

-- a Leave of the outer of two loops, which would go on for ever
abbrev nested : RegionUnit
nested = unit (main (
    Plain (Constant 0 6)
    ∷ Loop true [] (region (Loop true [] (region (Leave (the_loop 1) (0 ∷ []) ∷ []) []) (1 ∷ []) ∷ []) []) (2 ∷ [])
    ∷ shows 2) ∷ [])

leaves_both : ((means nested 2 0).trace ≡ Put 6 ∷ []) × ((means nested 2 0).verdict ≡ Ended) × ((means nested 1 0).verdict ≡ Going)
unfolding unit_run Rattle.ir_form.specs.declared.op.Op.TheBlock.hidden-the_row-Op-0 denote.Hole.Carrier.hidden
leaves_both = (refl, refl, refl)

-- a routine that calls itself at line 7, with a room that is there twice beside that of the main program
abbrev recursive : RegionUnit
recursive = unit (main (Plain (Call 1 [] [] 3) ∷ []) ∷ record { body = region (Plain (Call 1 [] [] 7) ∷ []) []; room = 4194272; words = 0; depth = 0; results = 0 } ∷ [])

out_of_room : ((means recursive 3 0).verdict ≡ Stopped 21 7) × ((means recursive 2 0).verdict ≡ Going)
unfolding unit_run Rattle.ir_form.specs.declared.op.Op.TheBlock.hidden-the_row-Op-0 denote.Hole.Carrier.hidden
out_of_room = (refl, refl)

-- from -2 to 3 the first arm, at 4 the second one, and else the others
abbrev cases : ℕ → RegionUnit
cases word = unit (main (
    Plain (Constant 0 word) ∷ Plain (Constant 1 65) ∷ Plain (Constant 2 66) ∷ Plain (Constant 3 67)
    ∷ Case 0 (record { ranges = record { low = negsuc 1; high = pos 3 } ∷ []; region = region [] (1 ∷ []) }
    ∷ record { ranges = record { low = pos 3; high = negsuc 0 } ∷ record { low = pos 4; high = pos 4 } ∷ []; region = region [] (2 ∷ []) } ∷ []) (region [] (3 ∷ [])) (4 ∷ [])
    ∷ shows 4) ∷ [])

abbrev shown : ℕ → ℕ → Type 0
shown word byte = (means (cases word) 0 0).trace ≡ Put byte ∷ []

arms : shown 4294967294 65 × shown 3 65 × shown 4 66 × shown 4294967293 67 × shown 5 67 × shown 2147483647 67
unfolding unit_run Rattle.ir_form.specs.declared.op.Op.TheBlock.hidden-the_row-Op-0 Rattle.ir_form.specs.declared.op.Op.TheBlock.hidden-the_row-Arm-1 denote.Hole.Carrier.hidden
arms = (refl, refl, refl, refl, refl, refl)

-- a routine with a word of its own and a run-time array of 3 words, which gives what it was given
abbrev gives_back : List Op → RegionUnit
gives_back ops = unit (main (Plain (Constant 1 65) ∷ Plain (Constant 2 3) ∷ Plain (Call 1 (1 ∷ 2 ∷ []) (3 ∷ []) 4) ∷ shows 3)
    ∷ record { body = record { parameters = 0 ∷ 1 ∷ []; ops = Plain (Take 2 1 5) ∷ Plain (Store one_byte 2 0) ∷ ops; results = 0 ∷ [] }; room = 64; words = 1; depth = 0; results = 1 } ∷ [])

called_once : ((means (gives_back []) 1 0).trace ≡ Put 65 ∷ []) × ((means (gives_back []) 1 0).verdict ≡ Ended)
unfolding unit_run Rattle.ir_form.specs.declared.op.Op.TheBlock.hidden-the_row-Op-0 denote.Hole.Carrier.hidden
called_once = (refl, refl)

-- the end of memory
abbrev pub end : ℕ
end = 65536 + 4 * (1 + 4194304 + 8392704)

-- An exception hands back the caller's values, rooms and frame, and the array and the frame of the routine are closed. The lowest byte of the
-- array was stored before.
handed_back : let r = runs (gives_back (Plain (Raise Assert 9) ∷ [])) 1 0 in (r.how ≡ Throws 12 9) × (r.state.env 1 ≡ Some 65) × (r.state.env 0 ≡ None) × (r.state.rooms ≡ 64) × (r.state.taken ≡ 0) × (r.state.frame ≡ end - 4 * 64) × (r.state.cells (end - 4 * 128) ≡ Closed) × (r.state.cells (end - 4 * 131) ≡ Closed)
unfolding unit_run Rattle.ir_form.specs.declared.op.Op.TheBlock.hidden-the_row-Op-0 denote.Hole.Carrier.hidden
handed_back = (refl, refl, refl, refl, refl, refl, refl, refl)

-- before it, in the routine, these cells are set and not yet stored
in_use : let r = runs (gives_back (Leave (the_loop 0) (99 ∷ []) ∷ [])) 1 0 in (r.how ≡ Over Stuck) × (r.state.rooms ≡ 131) × (r.state.cells (end - 4 * 128) ≡ Unset) × (r.state.cells (end - 4 * 131) ≡ Byte 65)
unfolding unit_run Rattle.ir_form.specs.declared.op.Op.TheBlock.hidden-the_row-Op-0 denote.Hole.Carrier.hidden
in_use = (refl, refl, refl, refl)
