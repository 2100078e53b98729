-- Operations of region code by short names, and code that grows by them.
use Rattle.std.specs.Prelude.{ℕ, ◌+◌, false, true, List, [], ◌∷◌, ◌++◌}
use Rattle.tu_base.specs.declared.kind.Kind.{Kind}
use Rattle.rv_isa.specs.declared.instr.RegisterOp.{RegisterOp}
use Rattle.rv_isa.specs.declared.instr.Relation.{Relation}
use Rattle.rv_isa.specs.declared.service.Service.{Service}
use Rattle.ir_form.specs.declared.plain.Plain.TheVariants.{Constant, Global, Frame, Compute, Load, Store, Ask, Call, Raise}
use Rattle.ir_form.specs.declared.plain.Width.{Width}
use Rattle.ir_form.specs.declared.op.Exit.TheVariants.{Loop as of_loop}
use Rattle.ir_form.specs.declared.op.Op.{Op, Plain, Leave}
use Rattle.ir_form.specs.declared.op.Op.TheViews.{If, Loop}
use Rattle.ir_form.specs.declared.op.Region.{Region}
use Rattle.ir_code.specs.declared.code.Code.{Code}

abbrev pub constant : (to word : ℕ) → Op
constant to word = Plain (Constant to word)

-- the address of a word of the globals, and of the frame
abbrev pub global : (to word : ℕ) → Op
global to word = Plain (Global to word)

abbrev pub frame : (to word : ℕ) → Op
frame to word = Plain (Frame to word)

abbrev pub compute : (to : ℕ) → RegisterOp → (left right : ℕ) → Op
compute to op left right = Plain (Compute to op left right)

abbrev pub load : (to : ℕ) → Width → (at : ℕ) → Op
load to width at = Plain (Load to width at)

abbrev pub store : Width → (at from : ℕ) → Op
store width at from = Plain (Store width at from)

abbrev pub ask : (to : ℕ) → Service → Op
ask to service = Plain (Ask to service)

-- a call that gives no values
abbrev pub call : (routine : ℕ) → (arguments : List ℕ) → (line : ℕ) → Op
call routine arguments line = Plain (Call routine arguments [] line)

abbrev pub raise : Kind → (line : ℕ) → Op
raise kind line = Plain (Raise kind line)

-- a region that takes no values and gives none
abbrev pub region : List Op → Region
region ops = record { parameters = []; ops = ops; results = [] }

-- the first operations where the relation holds, and else the others
abbrev pub choice : Relation → (left right : ℕ) → (first others : List Op) → Op
choice relation left right first others = If relation left right (region first) (region others) []

-- an exception where the relation does not hold
abbrev pub raise_unless : Relation → (left right : ℕ) → Kind → (line : ℕ) → Op
raise_unless relation left right kind line = choice relation left right [] (raise kind line ∷ [])

-- the end of the loop that lies so many loops outside the innermost one
abbrev pub leave : (outside : ℕ) → Op
leave outside = Leave (of_loop outside) []

-- the rounds of a loop of the program
abbrev pub repeat : List Op → Op
repeat ops = Loop true [] (region ops) []

-- operations that are done once, and can be left by a `leave` within them; the last of them is one
abbrev pub once : List Op → Op
once ops = Loop false [] (region ops) []

-- an operation more, which defines no value, or the next one
abbrev pub with_op : Code → Op → Code
with_op code op = record code { ops = code.ops ++ op ∷ [] }

abbrev pub defining : Code → (ℕ → Op) → Code
defining code op = record { ops = code.ops ++ op code.next ∷ []; next = code.next + 1 }
