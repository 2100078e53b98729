-- The meaning of linear code.
use Rattle.std.specs.Prelude.{ℕ, zero, suc, ◌+◌, ◌*◌, List, [], ◌∷◌, Option, Some, None, Bool, true, false, ◌==◌, if◌then◌else◌, length}
use Rattle.rv_isa.specs.Arithmetic.{holds, signed_of}
use Rattle.ir_form.specs.Place.{Setting}
use Rattle.ir_form.specs.State.{State, Stuck, How, Next, Left, Ends, Throws, Over, Run, over, words_of, begins}
use Rattle.ir_form.specs.Cost.{plain_price, value_price, range_price, guard_price}
use Rattle.ir_form.specs.Plain.{Calls, act}
use Rattle.ir_form.specs.Meaning.{hands, is_in, opens, takes_up}
use Rattle.rv_flat.specs.declared.linear.Instruction.{Instruction}
use Rattle.rv_flat.specs.declared.linear.Instruction.TheVariants.{Plain, Guarded, Open, Branch, Within, Hand, Jump, Label, Back}
use Rattle.rv_flat.specs.declared.linear.Handler.{Handler}

-- What an instruction costs: the instructions of the machine that run for it at most, with values and labels far away. A branch loads two
-- values, and jumps over a jump. A label is one instruction that does nothing. The price of a Guard's beginning is that of its opening, its two labels
-- and a jump.
abbrev pub open_price : ℕ
open_price = 56

abbrev pub price : Instruction → ℕ
price (Plain p) = plain_price p
price (Guarded p h) = plain_price p
price (Open mark) = open_price
price (Branch relation left right label) = 9
price (Within value range label) = range_price
price (Hand to from) = 1 + value_price * length from
price (Jump label) = 2
price (Label label marked) = 1
price (Back values) = 7 + 8 * length values

-- where the run of an activation is: here, on its way to a label (which a jump back seeks from the top), or at its end
pub data Config : Type 0 where
  At : (st : State) (cost : ℕ) → Config
  Seek : (again : Bool) → (label : ℕ) → (st : State) (cost : ℕ) → Config
  Done : (how : How) → (st : State) (cost : ℕ) → Config

abbrev pub config : How → State → ℕ → Config
config Next st c = At st c
config (Left k ws) st c = Done (Left k ws) st c
config (Ends ws) st c = Done (Ends ws) st c
config (Throws kind line) st c = Done (Throws kind line) st c
config (Over v) st c = Done (Over v) st c

abbrev pub config_of : Run → Config
config_of r = config r.how r.state r.cost

abbrev pub wants : {A : Type 0} → Option A → State → ℕ → (A → Config) → Config
wants None st c go = Done (Over Stuck) st c
wants (Some v) st c go = go v

-- on the way to a handler
abbrev pub seek_how : (label : ℕ) → How → State → ℕ → Config
seek_how label Next st c = Seek false label st c
seek_how label (Left k ws) st c = Done (Left k ws) st c
seek_how label (Ends ws) st c = Done (Ends ws) st c
seek_how label (Throws kind line) st c = Done (Throws kind line) st c
seek_how label (Over v) st c = Done (Over v) st c

abbrev pub seek_run : (label : ℕ) → Run → Config
seek_run label r = seek_how label r.how r.state r.cost

-- an operation whose exception is taken
abbrev pub handled : Setting → Handler → How → State → ℕ → Config
handled g h Next st c = At st c
handled g h (Left k ws) st c = Done (Left k ws) st c
handled g h (Ends ws) st c = Done (Ends ws) st c
handled g h (Throws kind line) st c = seek_run h.label (takes_up g h.mark h.to kind line st (c + guard_price))
handled g h (Over v) st c = Done (Over v) st c

abbrev pub handled_run : Setting → Handler → Run → Config
handled_run g h r = handled g h r.how r.state r.cost

-- an instruction that the run comes to
abbrev pub do_one : Setting → Calls → Instruction → State → ℕ → Config
do_one g calls (Plain p) st c = config_of (act g calls p st c)
do_one g calls (Guarded p h) st c = handled_run g h (act g calls p st c)
do_one g calls (Open mark) st c = At (opens mark st) (c + open_price)
do_one g calls (Branch relation left right label) st c =
    wants (st.env left) st (c + 9) (λ v. wants (st.env right) st (c + 9) (λ w. if holds relation v w then At st (c + 9) else Seek false label st (c + 9)))
do_one g calls (Within value range label) st c =
    wants (st.env value) st (c + range_price) (λ v. if is_in (signed_of v) range then Seek false label st (c + range_price) else At st (c + range_price))
do_one g calls (Hand to from) st c = config_of (hands to from st (c + 1))
do_one g calls (Jump label) st c = Seek false label st (c + 2)
do_one g calls (Label label marked) st c = config_of (begins marked false st (c + 1))
do_one g calls (Back values) st c = wants (words_of st.env values) st (c + 7) (λ ws. Done (Ends ws) st (c + 7 + 8 * length values))

-- an instruction on the way to a label
abbrev pub pass_one : Instruction → Bool → ℕ → State → ℕ → Config
pass_one (Label label marked) again sought st c = if sought == label then config_of (begins marked again st (c + 1)) else Seek again sought st c
pass_one _ again sought st c = Seek again sought st c

abbrev pub one : Setting → Calls → Instruction → Config → Config
one g calls i (At st c) = do_one g calls i st c
one g calls i (Seek again label st c) = pass_one i again label st c
one g calls i (Done how st c) = Done how st c

-- all the code, once from here to its end
abbrev pub sweep : Setting → Calls → List Instruction → Config → Config
sweep g calls [] k = k
sweep g calls (i ∷ is) k = sweep g calls is (one g calls i k)

-- at most n jumps back; a run that falls off the end is stuck
abbrev pub finish : Setting → Calls → List Instruction → ℕ → Config → Run
finish g calls code n (At st c) = over Stuck st c
finish g calls code n (Done how st c) = record { how = how; state = st; cost = c }
finish g calls code zero (Seek again label st c) = over Stuck st c
finish g calls code (suc n) (Seek again label st c) = finish g calls code n (sweep g calls code (Seek true label st c))

-- each jump back uses up one of what is left
abbrev pub run_code : Setting → Calls → List Instruction → State → ℕ → Run
run_code g calls code st c = finish g calls code (suc (st.turns + st.others)) (sweep g calls code (At st c))
