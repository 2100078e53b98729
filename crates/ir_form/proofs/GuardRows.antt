-- Worked runs of Guards and of exceptions by values, computed.
use Rattle.std.proofs.Common.{◌≡◌, ℕ, ◌-◌, ◌*◌, List, [], ◌∷◌, ◌++◌, true, false, refl}
use Rattle.tu_base.specs.Trace.{Put}
use Rattle.tu_base.specs.declared.kind.Kind.TheVariants.{Assert, Range as range_fault}
use Rattle.rv_isa.specs.declared.instr.Relation.TheVariants.{Less}
use Rattle.ir_form.specs.declared.plain.Plain.TheVariants.{Constant, Call, Raise, Throw, Take, Give}
use Rattle.ir_form.specs.declared.op.Op.{Op, Plain, Leave}
use Rattle.ir_form.specs.declared.op.Op.TheViews.{If, Loop, Guard}
use Rattle.ir_form.specs.declared.op.Exit.TheVariants.{Loop as the_loop}
use Rattle.ir_form.specs.declared.op.Region.{Region}
use Rattle.ir_form.specs.declared.unit.Unit.{Unit as RegionUnit}
use Rattle.ir_form.specs.Cells.{Closed, Unset}
use Rattle.ir_form.specs.State.{Ended, Stopped, Going, Stuck}
use Rattle.ir_form.specs.Units.{unit_run}
use Rattle.ir_form.proofs.Rows.{region, main, unit, means, runs, shows, end}

-- a handler that gives the exception's number and line
abbrev tells : (kind line : ℕ) → Region
tells kind line = record { parameters = kind ∷ line ∷ []; ops = []; results = kind ∷ line ∷ [] }

-- puts the number and the line of what the operations raise
abbrev told : List Op → List Op
told ops = Guard 0 (region ops []) (tells 50 51) (52 ∷ 53 ∷ []) ∷ shows 52 ++ shows 53

-- the number and the line of an exception of the body are handed to the handler; a Guard costs 60 twice, and what is given 12 for each value
takes_its_body : means (unit (main (told (Plain (Raise Assert 9) ∷ [])) ∷ [])) 0 0 ≡ record { trace = Put 12 ∷ Put 9 ∷ []; verdict = Ended; cost = 237 }
unfolding unit_run Rattle.ir_form.specs.declared.op.Op.TheBlock.hidden-the_row-Op-0 denote.Hole.Carrier.hidden
takes_its_body = refl

-- what a body gives is what the Guard gives
gives_its_body : means (unit (main (Guard 0 (region (Plain (Constant 1 65) ∷ []) (1 ∷ [])) (record { parameters = 2 ∷ 3 ∷ []; ops = []; results = 2 ∷ [] }) (4 ∷ []) ∷ shows 4) ∷ [])) 0 0 ≡ record { trace = Put 65 ∷ []; verdict = Ended; cost = 117 }
unfolding unit_run Rattle.ir_form.specs.declared.op.Op.TheBlock.hidden-the_row-Op-0 denote.Hole.Carrier.hidden
gives_its_body = refl

-- a handler that raises another exception
abbrev fails : Region
fails = record { parameters = 54 ∷ 55 ∷ []; ops = Plain (Raise range_fault 10) ∷ []; results = [] }

abbrev failing : Op
failing = Guard 1 (region (Plain (Raise Assert 9) ∷ []) []) fails []

-- it leaves the Guard, and the one around takes it
leaves_its_guard : ((means (unit (main (failing ∷ []) ∷ [])) 0 0).verdict ≡ Stopped 4 10) × ((means (unit (main (told (failing ∷ [])) ∷ [])) 0 0).trace ≡ Put 4 ∷ Put 10 ∷ [])
unfolding unit_run Rattle.ir_form.specs.declared.op.Op.TheBlock.hidden-the_row-Op-0 denote.Hole.Carrier.hidden
leaves_its_guard = (refl, refl)

-- two words are taken before the Guard, and three in its body
abbrev taking : List Op → RegionUnit
taking ops = unit (main (Plain (Constant 1 2) ∷ Plain (Constant 2 3) ∷ Plain (Take 3 1 5) ∷ told (Plain (Take 4 2 6) ∷ ops)) ∷ [])

-- those taken in the body are handed back where it raises
handed_back : let r = runs (taking (Plain (Raise Assert 9) ∷ [])) 0 0 in (r.state.taken ≡ 2) × (r.state.rooms ≡ 66) × (r.state.cells (end - 4 * 66) ≡ Unset) × (r.state.cells (end - 4 * 67) ≡ Closed) × (r.state.cells (end - 4 * 69) ≡ Closed)
unfolding unit_run Rattle.ir_form.specs.declared.op.Op.TheBlock.hidden-the_row-Op-0 denote.Hole.Carrier.hidden
handed_back = (refl, refl, refl, refl, refl)

-- where the body gave back four of the five, the one that is left stays
given_back : let r = runs (taking (Plain (Constant 5 4) ∷ Plain (Give 5) ∷ Plain (Raise Assert 9) ∷ [])) 0 0 in (r.state.taken ≡ 1) × (r.state.rooms ≡ 65) × (r.state.cells (end - 4 * 65) ≡ Unset) × (r.state.cells (end - 4 * 66) ≡ Closed)
unfolding unit_run Rattle.ir_form.specs.declared.op.Op.TheBlock.hidden-the_row-Op-0 denote.Hole.Carrier.hidden
given_back = (refl, refl, refl, refl)

-- an exception leaves two routines, and the one that takes it has its values and its room
abbrev deep : RegionUnit
deep = unit (main (Plain (Constant 1 65) ∷ told (Plain (Call 1 [] [] 3) ∷ []) ++ shows 1)
    ∷ record { body = region (Plain (Call 2 [] [] 4) ∷ []) []; room = 64; words = 0; depth = 0; results = 0 }
    ∷ record { body = region (Plain (Constant 1 66) ∷ Plain (Raise Assert 9) ∷ []) []; room = 64; words = 0; depth = 0; results = 0 } ∷ [])

leaves_routines : ((means deep 2 0).trace ≡ Put 12 ∷ Put 9 ∷ Put 65 ∷ []) × ((runs deep 2 0).state.rooms ≡ 64) × ((means deep 1 0).verdict ≡ Going)
unfolding unit_run Rattle.ir_form.specs.declared.op.Op.TheBlock.hidden-the_row-Op-0 denote.Hole.Carrier.hidden
leaves_routines = (refl, refl, refl)

-- a room that is refused is an exception of the call
refused : (means (unit (main (told (Plain (Call 1 [] [] 3) ∷ [])) ∷ record { body = region [] []; room = 8388608; words = 0; depth = 0; results = 0 } ∷ [])) 1 0).trace ≡ Put 21 ∷ Put 3 ∷ []
unfolding unit_run Rattle.ir_form.specs.declared.op.Op.TheBlock.hidden-the_row-Op-0 denote.Hole.Carrier.hidden
refused = refl

-- the second round of a loop without a mark, in a Guard, is an other round and no turn
abbrev rounds_in : RegionUnit
rounds_in = unit (main (
    Plain (Constant 0 3) ∷ Plain (Constant 1 8)
    ∷ told (Loop false (0 ∷ 1 ∷ []) (record { parameters = 2 ∷ 3 ∷ []; ops = If Less 2 3 (region [] []) (region (Plain (Raise Assert 7) ∷ []) []) [] ∷ []; results = 3 ∷ 2 ∷ [] }) [] ∷ [])) ∷ [])

other_rounds : ((means rounds_in 0 1).trace ≡ Put 12 ∷ Put 7 ∷ []) × ((means rounds_in 1 0).verdict ≡ Going)
unfolding unit_run Rattle.ir_form.specs.declared.op.Op.TheBlock.hidden-the_row-Op-0 denote.Hole.Carrier.hidden
other_rounds = (refl, refl)

-- a Leave in a body ends the Guard too: what is raised behind it is not taken there
left_by : means (unit (main (
    Plain (Constant 1 65)
    ∷ Loop true [] (region (Guard 0 (region (Leave (the_loop 0) (1 ∷ []) ∷ []) []) (tells 2 3) (4 ∷ 5 ∷ []) ∷ []) []) (6 ∷ [])
    ∷ shows 6 ++ Plain (Raise Assert 8) ∷ []) ∷ [])) 1 0 ≡ record { trace = Put 65 ∷ []; verdict = Stopped 12 8; cost = 141 }
unfolding unit_run Rattle.ir_form.specs.declared.op.Op.TheBlock.hidden-the_row-Op-0 denote.Hole.Carrier.hidden
left_by = refl

-- an exception by values
abbrev throws : ℕ → RegionUnit
throws kind = unit (main (Plain (Constant 0 kind) ∷ Plain (Constant 1 7) ∷ Plain (Throw 0 1) ∷ []) ∷ [])

-- its number is from 1 to 21
thrown : (means (throws 1) 0 0 ≡ record { trace = []; verdict = Stopped 1 7; cost = 30 }) × ((means (throws 21) 0 0).verdict ≡ Stopped 21 7) × ((means (throws 0) 0 0).verdict ≡ Stuck) × ((means (throws 22) 0 0).verdict ≡ Stuck)
unfolding unit_run
thrown = (refl, refl, refl, refl)

-- a Guard takes it, and it may be raised again
raised_again : (means (unit (main (told (Guard 1 (region (Plain (Raise Assert 9) ∷ []) []) (record { parameters = 1 ∷ 2 ∷ []; ops = Plain (Throw 1 2) ∷ []; results = [] }) [] ∷ [])) ∷ [])) 0 0).trace ≡ Put 12 ∷ Put 9 ∷ []
unfolding unit_run Rattle.ir_form.specs.declared.op.Op.TheBlock.hidden-the_row-Op-0 denote.Hole.Carrier.hidden
raised_again = refl
