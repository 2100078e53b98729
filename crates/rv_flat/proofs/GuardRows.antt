-- Worked rows: the linear code of Guards, what it does, and how its places follow one another.
use Rattle.std.proofs.Common.{◌≡◌, ℕ, ◌+◌, ◌-◌, ◌*◌, List, [], ◌∷◌, ◌++◌, true, false, refl}
use Rattle.std.proofs.lemmas.List.Elements.{Contains-push}
use Rattle.tu_base.specs.Trace.{Put}
use Rattle.tu_base.specs.declared.kind.Kind.TheVariants.{Assert, Range as range_fault}
use Rattle.rv_isa.specs.declared.instr.Relation.TheVariants.{Less}
use Rattle.rv_image.specs.Streams.{Closed as nothing}
use Rattle.ir_form.specs.declared.plain.Plain.{Plain as PlainOp}
use Rattle.ir_form.specs.declared.plain.Plain.TheVariants.{Constant, Call, Raise, Throw, Take}
use Rattle.ir_form.specs.declared.op.Op.{Op, Plain as Simple}
use Rattle.ir_form.specs.declared.op.Op.TheViews.{If, Loop, Guard}
use Rattle.ir_form.specs.declared.op.Region.{Region}
use Rattle.ir_form.specs.declared.unit.Unit.{Unit as RegionUnit}
use Rattle.ir_form.specs.Cells.{Closed, Unset}
use Rattle.ir_form.specs.State.{Run, Ended, Stopped, Going}
use Rattle.rv_flat.specs.declared.linear.Handler.{Handler}
use Rattle.rv_flat.specs.declared.linear.Instruction.{Instruction}
use Rattle.rv_flat.specs.declared.linear.Instruction.TheVariants.{Plain, Guarded, Open, Hand, Jump, Label}
use Rattle.rv_flat.specs.Flat.{nothing_around, code_list, flat_unit}
use Rattle.rv_flat.specs.Flow.{place_of_label, instruction_uses, instruction_defines, falls, Follows, Behind, Gone, Taken}
use Rattle.rv_flat.specs.Units.{linear_run}
use Rattle.rv_flat.proofs.Rows.{region, main, unit, means, shows}

abbrev runs : RegionUnit → ℕ → ℕ → Run
runs u t s = linear_run (flat_unit u) (record { globals_at = 65536; texts_at = 65536 }) [] nothing t s

-- a handler that gives the exception's number and line
abbrev tells : (kind line : ℕ) → Region
tells kind line = record { parameters = kind ∷ line ∷ []; ops = []; results = kind ∷ line ∷ [] }

-- puts the number and the line of what the operations raise
abbrev told : List Op → List Op
told ops = Guard 0 (region ops []) (tells 50 51) (52 ∷ 53 ∷ []) ∷ shows 52 ++ shows 53

-- a Guard in the body of one: each operation is guarded by the innermost one in whose body it stands
abbrev guards : List Op
guards =
    Guard 7 (region (Simple (Constant 0 9) ∷ Guard 8 (region (Simple (Call 1 (0 ∷ []) (1 ∷ []) 4) ∷ []) (1 ∷ [])) (record { parameters = 2 ∷ 3 ∷ []; ops = Simple (Raise Assert 5) ∷ []; results = [] }) (6 ∷ []) ∷ []) (6 ∷ [])) (tells 10 11) (12 ∷ []) ∷ Simple (Constant 13 1) ∷ []

abbrev outer : Handler
outer = record { label = 0; mark = 7; to = 10 ∷ 11 ∷ [] }

abbrev inner : Handler
inner = record { label = 2; mark = 8; to = 2 ∷ 3 ∷ [] }

abbrev call : PlainOp
call = Call 1 (0 ∷ []) (1 ∷ []) 4

abbrev guards_code : List Instruction
guards_code =
    Open 7 ∷ Guarded (Constant 0 9) outer ∷ Open 8 ∷ Guarded call inner ∷ Hand (6 ∷ []) (1 ∷ []) ∷ Jump 3
    ∷ Label 2 false ∷ Guarded (Raise Assert 5) outer
    ∷ Label 3 false ∷ Hand (12 ∷ []) (6 ∷ []) ∷ Jump 1
    ∷ Label 0 false ∷ Hand (12 ∷ []) (10 ∷ 11 ∷ [])
    ∷ Label 1 false ∷ Plain (Constant 13 1) ∷ []

guards_are_flat : code_list nothing_around 0 guards ≡ guards_code
unfolding Rattle.ir_form.specs.declared.op.Op.TheBlock.hidden-the_row-Op-0 denote.Hole.Carrier.hidden
guards_are_flat = refl

-- what follows what in this code

label_places : (place_of_label 2 guards_code ≡ 6) × (place_of_label 1 guards_code ≡ 13) × (place_of_label 9 guards_code ≡ 15)
label_places = (refl, refl, refl)

call_goes_on : Follows guards_code (Guarded call inner) 3 4 (1 ∷ [])
call_goes_on = Behind refl refl refl

call_is_left : Follows guards_code (Guarded call inner) 3 6 (2 ∷ 3 ∷ [])
call_is_left = Taken call inner false refl refl refl

jump_goes : Follows guards_code (Jump 3) 5 8 []
jump_goes = Gone 3 false (Contains-push [] 3) refl refl

handler_is_left : Follows guards_code (Guarded (Raise Assert 5) outer) 7 11 (10 ∷ 11 ∷ [])
handler_is_left = Taken (Raise Assert 5) outer false refl refl refl

-- nothing stands behind an exception and a jump
none_behind : (falls (Guarded (Raise Assert 5) outer) ≡ false) × (falls (Plain (Throw 0 1)) ≡ false) × (falls (Jump 3) ≡ false) × (falls (Guarded call inner) ≡ true) × (falls (Open 7) ≡ true)
none_behind = (refl, refl, refl, refl, refl)

uses : (instruction_uses (Plain (Throw 0 1)) ≡ 0 ∷ 1 ∷ []) × (instruction_uses (Guarded call inner) ≡ 0 ∷ []) × (instruction_defines (Guarded call inner) ≡ 1 ∷ []) × (instruction_defines (Hand (4 ∷ []) []) ≡ [])
uses = (refl, refl, refl, refl)

-- what it does

takes_its_body : means (unit (main (told (Simple (Raise Assert 9) ∷ [])) ∷ [])) 0 0 ≡ record { trace = Put 12 ∷ Put 9 ∷ []; verdict = Ended; cost = 236 }
unfolding linear_run Rattle.ir_form.specs.declared.op.Op.TheBlock.hidden-the_row-Op-0 denote.Hole.Carrier.hidden
takes_its_body = refl

-- an exception of a handler leaves the Guard, and the one around takes it
abbrev failing : Op
failing = Guard 1 (region (Simple (Raise Assert 9) ∷ []) []) (record { parameters = 54 ∷ 55 ∷ []; ops = Simple (Raise range_fault 10) ∷ []; results = [] }) []

leaves_its_guard : ((means (unit (main (failing ∷ []) ∷ [])) 0 0).verdict ≡ Stopped 4 10) × ((means (unit (main (told (failing ∷ [])) ∷ [])) 0 0).trace ≡ Put 4 ∷ Put 10 ∷ [])
unfolding linear_run Rattle.ir_form.specs.declared.op.Op.TheBlock.hidden-the_row-Op-0 denote.Hole.Carrier.hidden
leaves_its_guard = (refl, refl)

-- the end of memory
abbrev end : ℕ
end = 65536 + 4 * (1 + 4194304 + 8392704)

-- of two words that were taken before the Guard, and three in its body, the three are handed back
abbrev taking : RegionUnit
taking = unit (main (Simple (Constant 1 2) ∷ Simple (Constant 2 3) ∷ Simple (Take 3 1 5) ∷ told (Simple (Take 4 2 6) ∷ Simple (Raise Assert 9) ∷ [])) ∷ [])

handed_back : let r = runs taking 0 0 in (r.state.taken ≡ 2) × (r.state.rooms ≡ 66) × (r.state.cells (end - 4 * 66) ≡ Unset) × (r.state.cells (end - 4 * 67) ≡ Closed)
unfolding linear_run Rattle.ir_form.specs.declared.op.Op.TheBlock.hidden-the_row-Op-0 denote.Hole.Carrier.hidden
handed_back = (refl, refl, refl, refl)

-- the second round of a loop without a mark, in a Guard, is an other round and no turn
abbrev rounds_in : RegionUnit
rounds_in = unit (main (
    Simple (Constant 0 3) ∷ Simple (Constant 1 8)
    ∷ told (Loop false (0 ∷ 1 ∷ []) (record { parameters = 2 ∷ 3 ∷ []; ops = If Less 2 3 (region [] []) (region (Simple (Raise Assert 7) ∷ []) []) [] ∷ []; results = 3 ∷ 2 ∷ [] }) [] ∷ [])) ∷ [])

other_rounds : ((means rounds_in 0 1).trace ≡ Put 12 ∷ Put 7 ∷ []) × ((means rounds_in 1 0).verdict ≡ Going)
unfolding linear_run Rattle.ir_form.specs.declared.op.Op.TheBlock.hidden-the_row-Op-0 denote.Hole.Carrier.hidden
other_rounds = (refl, refl)
