-- What is valid, on small routines.
use Rattle.std.proofs.Common.{◌≡◌, ℕ, ◌+◌, Bool, true, false, List, [], ◌∷◌, refl}
use Rattle.std.specs.Prelude.{pos}
use Rattle.rv_isa.specs.declared.instr.Relation.TheVariants.{Less}
use Rattle.rv_isa.specs.declared.instr.RegisterOp.TheVariants.{Add}
use Rattle.tu_base.specs.declared.kind.Kind.TheVariants.{Assert}
use Rattle.ir_form.specs.declared.plain.Plain.TheVariants.{Constant, Global, Frame, Text, Compute, Call, Raise, Throw, Take}
use Rattle.ir_form.specs.declared.op.Exit.TheVariants.{Loop as OfLoop}
use Rattle.ir_form.specs.declared.op.Op.{Op, Plain as Simple, Leave}
use Rattle.ir_form.specs.declared.op.Op.TheViews.{If, Case, Loop, Guard}
use Rattle.ir_form.specs.declared.op.Region.{Region}
use Rattle.ir_form.specs.declared.unit.Routine.{Routine}
use Rattle.ir_form.specs.declared.unit.Unit.{Unit as Program}
use Rattle.ir_form.specs.Weight.{unit_weight}
use Rattle.ir_form.specs.Tests.{is_valid_routine, is_main}

abbrev region : List ℕ → List Op → List ℕ → Region
region parameters ops results = record { parameters = parameters; ops = ops; results = results }

abbrev constant : ℕ → Op
constant to = Simple (Constant to 7)

abbrev inner : Routine
inner = record { body = region (0 ∷ []) (Simple (Compute 1 Add 0 0) ∷ []) (1 ∷ []); results = 1; room = 34; words = 0; depth = 1 }

abbrev main : List Op → Routine
main ops = record { body = region [] ops []; results = 0; room = 100; words = 2; depth = 0 }

abbrev program : List Op → Program
program ops = record { globals = 3; main = 0; routines = main ops ∷ inner ∷ []; texts = 65 ∷ [] }

abbrev accepts : List Op → Bool
accepts ops = is_valid_routine (program ops) (main ops)

uses : accepts (constant 0 ∷ constant 1 ∷ Simple (Compute 2 Add 0 1) ∷ []) ≡ true
uses = refl

uses_before : accepts (constant 0 ∷ Simple (Compute 2 Add 0 1) ∷ constant 1 ∷ []) ≡ false
uses_before = refl

defines_twice : accepts (constant 0 ∷ constant 0 ∷ []) ≡ false
defines_twice = refl

out_of_order : accepts (constant 1 ∷ constant 0 ∷ Simple (Compute 2 Add 0 1) ∷ []) ≡ true
out_of_order = refl

chooses : accepts (constant 0 ∷ If Less 0 0 (region [] (constant 1 ∷ []) (1 ∷ [])) (region [] [] (0 ∷ [])) (2 ∷ []) ∷ Simple (Compute 3 Add 2 0) ∷ []) ≡ true
unfolding Rattle.ir_form.specs.declared.op.Op.TheBlock.hidden-the_row-Op-0 denote.Hole.Carrier.hidden
chooses = refl

region_gives_too_few : accepts (constant 0 ∷ If Less 0 0 (region [] (constant 1 ∷ []) []) (region [] [] (0 ∷ [])) (2 ∷ []) ∷ []) ≡ false
unfolding Rattle.ir_form.specs.declared.op.Op.TheBlock.hidden-the_row-Op-0 denote.Hole.Carrier.hidden
region_gives_too_few = refl

raises_and_gives_none : accepts (constant 0 ∷ If Less 0 0 (region [] (Simple (Raise Assert 3) ∷ []) []) (region [] [] (0 ∷ [])) (2 ∷ []) ∷ []) ≡ true
unfolding Rattle.ir_form.specs.declared.op.Op.TheBlock.hidden-the_row-Op-0 denote.Hole.Carrier.hidden
raises_and_gives_none = refl

raises_and_gives : accepts (constant 0 ∷ If Less 0 0 (region [] (Simple (Raise Assert 3) ∷ []) (0 ∷ [])) (region [] [] (0 ∷ [])) (2 ∷ []) ∷ []) ≡ false
unfolding Rattle.ir_form.specs.declared.op.Op.TheBlock.hidden-the_row-Op-0 denote.Hole.Carrier.hidden
raises_and_gives = refl

uses_from_another_region : accepts (constant 0 ∷ If Less 0 0 (region [] (constant 1 ∷ []) []) (region [] [] []) [] ∷ Simple (Compute 3 Add 1 0) ∷ []) ≡ false
unfolding Rattle.ir_form.specs.declared.op.Op.TheBlock.hidden-the_row-Op-0 denote.Hole.Carrier.hidden
uses_from_another_region = refl

throws_and_gives_none : accepts (constant 0 ∷ If Less 0 0 (region [] (Simple (Throw 0 0) ∷ []) []) (region [] [] (0 ∷ [])) (2 ∷ []) ∷ []) ≡ true
unfolding Rattle.ir_form.specs.declared.op.Op.TheBlock.hidden-the_row-Op-0 denote.Hole.Carrier.hidden
throws_and_gives_none = refl

-- a handler that gives the number of the exception
abbrev handler : (kind line : ℕ) → Region
handler kind line = region (kind ∷ line ∷ []) [] (kind ∷ [])

guards : accepts (Guard 0 (region [] (constant 0 ∷ []) (0 ∷ [])) (handler 1 2) (3 ∷ []) ∷ Simple (Compute 4 Add 3 3) ∷ []) ≡ true
unfolding Rattle.ir_form.specs.declared.op.Op.TheBlock.hidden-the_row-Op-0 denote.Hole.Carrier.hidden
guards = refl

handed_too_few : accepts (Guard 0 (region [] (constant 0 ∷ []) (0 ∷ [])) (region (1 ∷ []) [] (1 ∷ [])) (3 ∷ []) ∷ []) ≡ false
unfolding Rattle.ir_form.specs.declared.op.Op.TheBlock.hidden-the_row-Op-0 denote.Hole.Carrier.hidden
handed_too_few = refl

guard_gives_too_few : accepts (Guard 0 (region [] (constant 0 ∷ []) []) (handler 1 2) (3 ∷ []) ∷ []) ≡ false
unfolding Rattle.ir_form.specs.declared.op.Op.TheBlock.hidden-the_row-Op-0 denote.Hole.Carrier.hidden
guard_gives_too_few = refl

handler_uses_the_body : accepts (Guard 0 (region [] (constant 0 ∷ []) (0 ∷ [])) (region (1 ∷ 2 ∷ []) [] (0 ∷ [])) (3 ∷ []) ∷ []) ≡ false
unfolding Rattle.ir_form.specs.declared.op.Op.TheBlock.hidden-the_row-Op-0 denote.Hole.Carrier.hidden
handler_uses_the_body = refl

-- a Guard in the body of one and another in its handler, with these marks
abbrev two_guards : (outer body handler : ℕ) → List Op
two_guards outer body handling =
    Guard outer (region [] (Guard body (region [] (constant 0 ∷ []) (0 ∷ [])) (handler 1 2) (3 ∷ []) ∷ []) (3 ∷ []))
    (region (4 ∷ 5 ∷ []) (Guard handling (region [] [] (4 ∷ [])) (handler 6 7) (8 ∷ []) ∷ []) (8 ∷ [])) (9 ∷ []) ∷ []

abbrev roomy : List Op → Bool
roomy ops = is_valid_routine (program ops) (record (main ops) { room = 200 })

marks_differ : (roomy (two_guards 0 1 0) ≡ true) × (roomy (two_guards 0 0 1) ≡ false)
unfolding Rattle.ir_form.specs.declared.op.Op.TheBlock.hidden-the_row-Op-0 denote.Hole.Carrier.hidden
marks_differ = (refl, refl)

-- 2 words, 3 values, 24 words for the Guard and 32 beside
abbrev in_room : ℕ → Bool
in_room words =
    let ops = Guard 0 (region [] [] []) (region (0 ∷ 1 ∷ []) [] []) [] ∷ constant 2 ∷ [] in
    is_valid_routine (program ops) (record (main ops) { room = words })

guards_take_room : (in_room 61 ≡ true) × (in_room 60 ≡ false)
unfolding Rattle.ir_form.specs.declared.op.Op.TheBlock.hidden-the_row-Op-0 denote.Hole.Carrier.hidden
guards_take_room = (refl, refl)

swaps : accepts (constant 0 ∷ constant 1 ∷ Loop true (0 ∷ 1 ∷ []) (region (2 ∷ 3 ∷ []) [] (3 ∷ 2 ∷ [])) [] ∷ []) ≡ true
unfolding Rattle.ir_form.specs.declared.op.Op.TheBlock.hidden-the_row-Op-0 denote.Hole.Carrier.hidden
swaps = refl

starts_with_too_few : accepts (constant 0 ∷ Loop true (0 ∷ []) (region (2 ∷ 3 ∷ []) [] (3 ∷ 2 ∷ [])) [] ∷ []) ≡ false
unfolding Rattle.ir_form.specs.declared.op.Op.TheBlock.hidden-the_row-Op-0 denote.Hole.Carrier.hidden
starts_with_too_few = refl

leaves_the_outer : accepts (Loop true [] (region [] (Loop true [] (region [] (constant 0 ∷ Leave (OfLoop 1) (0 ∷ []) ∷ []) []) [] ∷ []) []) (1 ∷ []) ∷ []) ≡ true
unfolding Rattle.ir_form.specs.declared.op.Op.TheBlock.hidden-the_row-Op-0 denote.Hole.Carrier.hidden
leaves_the_outer = refl

leaves_no_loop : accepts (Loop true [] (region [] (constant 0 ∷ Leave (OfLoop 1) (0 ∷ []) ∷ []) []) (1 ∷ []) ∷ []) ≡ false
unfolding Rattle.ir_form.specs.declared.op.Op.TheBlock.hidden-the_row-Op-0 denote.Hole.Carrier.hidden
leaves_no_loop = refl

cases : accepts (constant 0 ∷ Case 0 (record { ranges = record { low = pos 0; high = pos 3 } ∷ []; region = region [] [] (0 ∷ []) } ∷ []) (region [] (constant 1 ∷ []) (1 ∷ [])) (2 ∷ []) ∷ []) ≡ true
unfolding Rattle.ir_form.specs.declared.op.Op.TheBlock.hidden-the_row-Op-0 Rattle.ir_form.specs.declared.op.Op.TheBlock.hidden-the_row-Arm-1 denote.Hole.Carrier.hidden
cases = refl

calls : accepts (constant 0 ∷ Simple (Call 1 (0 ∷ []) (1 ∷ []) 4) ∷ []) ≡ true
calls = refl

calls_with_too_few : accepts (constant 0 ∷ Simple (Call 1 [] (1 ∷ []) 4) ∷ []) ≡ false
calls_with_too_few = refl

calls_nothing : accepts (constant 0 ∷ Simple (Call 2 (0 ∷ []) (1 ∷ []) 4) ∷ []) ≡ false
calls_nothing = refl

last_words : accepts (Simple (Global 0 2) ∷ Simple (Frame 1 1) ∷ Simple (Text 2 0) ∷ []) ≡ true
last_words = refl

global_past : accepts (Simple (Global 0 3) ∷ []) ≡ false
global_past = refl

frame_past : accepts (Simple (Frame 1 2) ∷ []) ≡ false
frame_past = refl

text_past : accepts (Simple (Text 2 1) ∷ []) ≡ false
text_past = refl

takes : accepts (constant 0 ∷ Simple (Take 1 0 4) ∷ []) ≡ true
takes = refl

takes_inside : is_valid_routine (program []) (record inner { body = region (0 ∷ []) (Simple (Take 1 0 4) ∷ []) (1 ∷ []) }) ≡ false
takes_inside = refl

inner_is_valid : is_valid_routine (program []) inner ≡ true
inner_is_valid = refl

no_room : is_valid_routine (program []) (record inner { room = 33 }) ≡ false
no_room = refl

too_deep : is_valid_routine (program []) (record inner { depth = 9 }) ≡ false
too_deep = refl

main_of_depth_0 : is_main (main []) ≡ true
main_of_depth_0 = refl

weighs : unit_weight (program (constant 0 ∷ Loop true (0 ∷ []) (region (1 ∷ []) (Simple (Call 1 (1 ∷ []) (2 ∷ []) 4) ∷ []) (2 ∷ [])) [] ∷ [])) ≡ 16 + (1 + (1 + 1 + (3 + 1))) + (16 + 1 + (1 + 1))
unfolding Rattle.ir_form.specs.declared.op.Op.TheBlock.hidden-the_row-Op-0 denote.Hole.Carrier.hidden
weighs = refl

guard_weighs : unit_weight (program (Guard 0 (region [] (constant 0 ∷ []) (0 ∷ [])) (handler 1 2) (3 ∷ []) ∷ [])) ≡ 16 + (3 + (1 + 1) + 1) + (16 + 1 + (1 + 1))
unfolding Rattle.ir_form.specs.declared.op.Op.TheBlock.hidden-the_row-Op-0 denote.Hole.Carrier.hidden
guard_weighs = refl
