-- The words of instructions are not more than their size.
use Rattle.std.proofs.Common.{ℕ, ◌+◌, ◌*◌, ◌/◌, ◌≤◌, min, List, [], ◌∷◌, length, Bool, true, false, arith}
use Rattle.std.specs.Prelude.{if◌then◌else◌, nat_eq, ◌&&◌}
use Rattle.ir_form.specs.declared.plain.Plain.{Plain as PlainOp}
use Rattle.ir_form.specs.declared.plain.Plain.TheVariants.{Constant, Global, Heap, Frame, Text, Compute, Load, Store, Ask, Call, Raise, Throw, Take, Give}
use Rattle.ir_form.specs.Values.{asked}
use Rattle.ir_form.specs.Units.{Head}
use Rattle.rv_flat.specs.declared.linear.Instruction.{Instruction}
use Rattle.rv_flat.specs.declared.linear.Instruction.TheVariants.{Plain, Guarded, Open as Opens, Branch, Within, Hand, Jump, Label, Back}
use Rattle.rv_flat.specs.declared.linear.LinearRoutine.{LinearRoutine}
use Rattle.rv_flat.specs.declared.linear.Linear.{Linear}
use Rattle.rv_flat.specs.Size.{plain_size, instruction_size, code_size, routines_size, linear_size}
use Rattle.rv_flat.specs.Units.{head_of}
use Rattle.rv_layout.specs.Pieces.{is_near, constant_length, reach}
use Rattle.rv_layout.specs.Rooms.{cut, room_bytes, slot, head_at}
use Rattle.rv_layout.specs.Moves.{are_near, is_mixed}
use Rattle.rv_layout.specs.Calling.{entering_length, passing_length, each_length}
use Rattle.rv_text.specs.Lengths.{load_length, plain_length, instruction_length, code_length, routines_length}
use Rattle.rv_text.specs.Text.{text_of}
use Rattle.rv_text.proofs.Fitting.{few_asked}
use Rattle.rv_text.proofs.Settled.{text_length}

either_most : (b : Bool) (x y n : ℕ) → x ≤ n → y ≤ n → (if b then x else y) ≤ n
either_most true x y n h k = h
either_most false x y n h k = k

reach_most : (o : ℕ) → reach o ≤ 3
reach_most o = either_most (is_near o) 1 3 3 (omega arith) (omega arith)

constant_most : (w : ℕ) → constant_length w ≤ 2
constant_most w = either_most (is_near w) 1 2 2 (omega arith) (omega arith)

each_most : (h : Head) (vs : List ℕ) → each_length h vs ≤ 4 * length vs
each_most h [] = omega arith
each_most h (v ∷ vs) = let a = reach_most (slot h v) in let b = each_most h vs in omega arith

load_most : (h : Head) (vs : List ℕ) → load_length h vs ≤ 3 * length vs
load_most h [] = omega arith
load_most h (v ∷ vs) = let a = reach_most (slot h v) in let b = load_most h vs in omega arith

passing_most : (caller callee : Head) (to arguments : List ℕ) → passing_length caller callee to arguments ≤ 6 * length arguments
passing_most caller callee [] arguments = omega arith
passing_most caller callee (t ∷ ts) [] = omega arith
passing_most caller callee (t ∷ ts) (x ∷ xs) = let a = reach_most (slot caller x) in let b = reach_most (slot callee t) in let c = passing_most caller callee ts xs in omega arith

handing_by : (near mixed : Bool) (n m : ℕ) → (if near then 1 else 3) * ((if mixed then 4 else 2) * min n m) ≤ 12 * m
handing_by true true n m = omega arith
handing_by true false n m = omega arith
handing_by false true n m = omega arith
handing_by false false n m = omega arith

plain_most : (rs : List LinearRoutine) (h : Head) (p : PlainOp) → plain_length rs h p ≤ plain_size p
plain_most rs h (Constant to word) = let a = constant_most word in let b = reach_most (slot h to) in omega arith
plain_most rs h (Global to word) = let b = reach_most (slot h to) in omega arith
plain_most rs h (Heap to) = let b = reach_most (slot h to) in omega arith
plain_most rs h (Frame to word) = let a = reach_most (4 * cut word) in let b = reach_most (slot h to) in omega arith
plain_most rs h (Text to byte) = let b = reach_most (slot h to) in omega arith
plain_most rs h (Compute to op left right) = let a = reach_most (slot h left) in let b = reach_most (slot h right) in let c = reach_most (slot h to) in omega arith
plain_most rs h (Load to width at) = let a = reach_most (slot h at) in let c = reach_most (slot h to) in omega arith
plain_most rs h (Store width at from) = let a = reach_most (slot h at) in let c = reach_most (slot h from) in omega arith
plain_most rs h (Ask to service) = let a = load_most h (asked service) in let b = (few_asked service).0 in let c = reach_most (slot h to) in omega arith
plain_most rs h (Call routine arguments to line) = let a = passing_most h (head_at rs routine) (head_at rs routine).parameters arguments in let b = each_most h to in omega arith
plain_most rs h (Raise kind line) = omega arith
plain_most rs h (Throw kind line) = let a = reach_most (slot h kind) in let b = reach_most (slot h line) in omega arith
plain_most rs h (Take to words line) = let a = reach_most (slot h words) in let c = reach_most (slot h to) in omega arith
plain_most rs h (Give words) = let a = reach_most (slot h words) in omega arith

instruction_most : (rs : List LinearRoutine) (h : Head) (x : Instruction) → instruction_length rs h x ≤ instruction_size x
instruction_most rs h (Plain p) = plain_most rs h p
instruction_most rs h (Guarded p handler) = plain_most rs h p
instruction_most rs h (Opens mark) = omega arith
instruction_most rs h (Branch relation left right label) = let a = reach_most (slot h left) in let b = reach_most (slot h right) in omega arith
instruction_most rs h (Within value range label) = let a = reach_most (slot h value) in omega arith
instruction_most rs h (Hand to from) = let a = handing_by (are_near h to && are_near h from) (is_mixed to from) (length to) (length from) in omega arith
instruction_most rs h (Jump label) = omega arith
instruction_most rs h (Label label marked) = omega arith
instruction_most rs h (Back values) = let a = constant_most (room_bytes h) in let b = each_most h values in omega arith

code_most : (rs : List LinearRoutine) (h : Head) (code : List Instruction) → code_length rs h code ≤ code_size code
code_most rs h [] = omega arith
code_most rs h (x ∷ xs) = let a = instruction_most rs h x in let b = code_most rs h xs in omega arith

entering_most : (h : Head) → entering_length h ≤ 11
entering_most h = let a = constant_most (room_bytes h) in let b = either_most (nat_eq h.depth 0) 9 6 9 (omega arith) (omega arith) in omega arith

routines_most : (rs more : List LinearRoutine) → routines_length rs more + 117 * length more ≤ routines_size more
routines_most rs [] = omega arith
routines_most rs (r ∷ more) = let a = entering_most (head_of r) in let b = code_most rs (head_of r) r.code in let c = routines_most rs more in omega arith

pub text_small : (l : Linear) → 1 ≤ length l.routines → length (text_of l) ≤ linear_size l + (length l.texts + 3) / 4
text_small l some = let a = text_length l in let b = routines_most l.routines l.routines in omega arith
