-- Linear code with other numbers for its values.
use Rattle.std.specs.Prelude.{ℕ, map}
use Rattle.rv_isa.specs.declared.service.Service.{Service}
use Rattle.rv_isa.specs.declared.service.Service.TheVariants.{End, Stop, PutConsole, GetConsole, Open, Close, PutStream, GetStream, State}
use Rattle.ir_form.specs.declared.plain.Plain.{Plain as PlainOp}
use Rattle.ir_form.specs.declared.plain.Plain.TheVariants.{Constant, Global, Heap, Frame, Text, Compute, Load, Store, Ask, Call, Raise, Throw, Take, Give}
use Rattle.rv_flat.specs.declared.linear.Handler.{Handler}
use Rattle.rv_flat.specs.declared.linear.Instruction.{Instruction}
use Rattle.rv_flat.specs.declared.linear.Instruction.TheVariants.{Plain, Guarded, Open as Opens, Branch, Within, Hand, Jump, Label, Back}
use Rattle.rv_flat.specs.declared.linear.LinearRoutine.{LinearRoutine}

abbrev pub renamed_service : (ℕ → ℕ) → Service → Service
renamed_service f End = End
renamed_service f (Stop kind line) = Stop (f kind) (f line)
renamed_service f (PutConsole at size) = PutConsole (f at) (f size)
renamed_service f GetConsole = GetConsole
renamed_service f (Open at size mode) = Open (f at) (f size) (f mode)
renamed_service f (Close stream) = Close (f stream)
renamed_service f (PutStream stream at size) = PutStream (f stream) (f at) (f size)
renamed_service f (GetStream stream) = GetStream (f stream)
renamed_service f (State stream) = State (f stream)

abbrev pub renamed_plain : (ℕ → ℕ) → PlainOp → PlainOp
renamed_plain f (Constant to word) = Constant (f to) word
renamed_plain f (Global to word) = Global (f to) word
renamed_plain f (Heap to) = Heap (f to)
renamed_plain f (Frame to word) = Frame (f to) word
renamed_plain f (Text to byte) = Text (f to) byte
renamed_plain f (Compute to op left right) = Compute (f to) op (f left) (f right)
renamed_plain f (Load to width at) = Load (f to) width (f at)
renamed_plain f (Store width at from) = Store width (f at) (f from)
renamed_plain f (Ask to service) = Ask (f to) (renamed_service f service)
renamed_plain f (Call routine arguments to line) = Call routine (map f arguments) (map f to) line
renamed_plain f (Raise kind line) = Raise kind line
renamed_plain f (Throw kind line) = Throw (f kind) (f line)
renamed_plain f (Take to words line) = Take (f to) (f words) line
renamed_plain f (Give words) = Give (f words)

abbrev pub renamed_handler : (ℕ → ℕ) → Handler → Handler
renamed_handler f h = record h { to = map f h.to }

abbrev pub renamed : (ℕ → ℕ) → Instruction → Instruction
renamed f (Plain p) = Plain (renamed_plain f p)
renamed f (Guarded p h) = Guarded (renamed_plain f p) (renamed_handler f h)
renamed f (Opens mark) = Opens mark
renamed f (Branch relation left right label) = Branch relation (f left) (f right) label
renamed f (Within value range label) = Within (f value) range label
renamed f (Hand to from) = Hand (map f to) (map f from)
renamed f (Jump label) = Jump label
renamed f (Label label marked) = Label label marked
renamed f (Back values) = Back (map f values)

abbrev pub renamed_routine : (ℕ → ℕ) → LinearRoutine → LinearRoutine
renamed_routine f r = record r { parameters = map f r.parameters; code = map (renamed f) r.code }
