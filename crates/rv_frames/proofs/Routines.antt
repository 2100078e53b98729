-- The machine follows the linear code of a routine.
use Rattle.std.proofs.Common.{◌≡◌, inl, inr, ℕ, zero, suc, ◌+◌, ◌-◌, ◌≤◌, List, [], ◌∷◌, Option, Some, None, Bool, true, false, refl, sym, ap, ◌∙◌, subst, arith}
use Rattle.std.specs.Prelude.{◌*◌, if◌then◌else◌, length, nat_eq, slice_get}
use Rattle.std.proofs.lemmas.Bool.{eqb-true}
use Rattle.rv_isa.specs.Arithmetic.{holds, signed_of}
use Rattle.tu_base.specs.Kind.{kind_number}
use Rattle.ir_form.specs.declared.plain.Plain.{Plain as PlainOp}
use Rattle.ir_form.specs.declared.plain.Plain.TheVariants.{Constant, Global, Heap, Frame, Text, Compute, Load, Store, Ask, Call, Raise, Throw, Take, Give}
use Rattle.ir_form.specs.Place.{Setting}
use Rattle.ir_form.specs.Cells.{loaded, stored}
use Rattle.ir_form.specs.State.{State, Ended, Stopped, Going, Stuck, How, Next, Left, Ends, Throws, Over, Run, words_of, turn_from, other_from, begins}
use Rattle.ir_form.specs.Cost.{plain_price, value_price, range_price, guard_price, unwind_price}
use Rattle.ir_form.specs.Plain.{Calls, service_of, without_array, does, act}
use Rattle.ir_form.specs.Meaning.{hands, is_in, opens, takes_up}
use Rattle.rv_flat.specs.declared.linear.Instruction.{Instruction}
use Rattle.rv_flat.specs.declared.linear.Instruction.TheVariants.{Plain, Guarded, Open, Branch, Within, Hand, Jump, Label, Back}
use Rattle.rv_flat.specs.declared.linear.LinearRoutine.{LinearRoutine}
use Rattle.rv_flat.specs.declared.linear.Linear.{Linear}
use Rattle.rv_flat.specs.declared.linear.Handler.{Handler}
use Rattle.rv_flat.specs.Linear.{open_price, handled, seek_how, seek_run, Config, At, Seek, Done, config, config_of, wants as config_wants, one, sweep, finish, run_code}
use Rattle.rv_flat.specs.Parts.{HasItsLabels}
use Rattle.rv_flat.specs.Units.{head_of}
use Rattle.rv_flat.specs.Flow.{place_of_label}
use Rattle.rv_frames.specs.Frames.{Caller, Machine, Running, wants, goes_on, goes_on_run, calls, no_calls, operates, executes, executes_at, executes_in, tick, price_of, price_in, price_at, ticks, spent, raises, label_in, ends_so, ends_run, tick_price, instruction_price}
use Rattle.rv_frames.proofs.Labels.{label_stands}
use Rattle.rv_frames.proofs.Reaches.{bare, Paid, Returned, Behind, Follows, kept, after, step, last, at_once, seen_so}
use Rattle.rv_frames.proofs.Alike.{Alike, alike_next, alike_raised, alike_raised_by, alike_needs, alike_two, alike_defines, alike_asks, alike_takes, alike_hands, alike_binds}
use Rattle.rv_frames.proofs.Called.{by}
use Rattle.rv_frames.proofs.Ticks.{ticks_add, spent_add}

-- the calls are followed, with what follows them
abbrev pub CallsFollow : Setting → Linear → Calls → Type 0
CallsFollow g l cl = (routine pc place : ℕ) (guard : Option Handler) (callers : List Caller) (to : List ℕ) (line : ℕ) (st : State) (m : Machine) (c e : ℕ) → m ≡ Running routine pc (bare st) callers → price_at l m + unwind_price + c ≤ e → (callee : ℕ) (arguments : List ℕ) →
    tick g l m ≡ calls g l callee (slice_get l.routines callee) (by routine place to guard st) callers arguments line (bare st) → Follows g l (Behind g l routine place guard callers) m c st (cl callee arguments to line st e)

-- the code from a place on
record From (code : List Instruction) (place : ℕ) (rest : List Instruction) : Type 0 where
  get : (i : ℕ) → slice_get code (place + i) ≡ slice_get rest i

from_next : (code : List Instruction) (place : ℕ) (i : Instruction) (rest : List Instruction) → From code place (i ∷ rest) → From code (place + 1) rest
from_next code place i rest f = record { get = λ k. let e : place + 1 + k ≡ place + suc k = omega arith in ap (slice_get code) e ∙ f.get (suc k) }

from_here : (code : List Instruction) (place : ℕ) (i : Instruction) (rest : List Instruction) → From code place (i ∷ rest) → slice_get code place ≡ Some i
from_here code place i rest f = let e : place ≡ place + 0 = omega arith in ap (slice_get code) e ∙ f.get 0

from_start : (code : List Instruction) → From code 0 code
from_start code = record { get = λ k. let e : 0 + k ≡ k = omega arith in ap (slice_get code) e }

sweep_done : (g : Setting) (cl : Calls) (code : List Instruction) (how : How) (st : State) (c : ℕ) → sweep g cl code (Done how st c) ≡ Done how st c
sweep_done g cl [] how st c = refl
sweep_done g cl (i ∷ is) how st c = sweep_done g cl is how st c

module _ (g : Setting) (l : Linear) (cl : Calls) (follows : CallsFollow g l cl) (r : LinearRoutine) (routine : ℕ) (found : slice_get l.routines routine ≡ Some r) (labels : HasItsLabels r.code) (callers : List Caller) where
  abbrev at : ℕ → State → Machine
  at place st = Running routine place (bare st) callers

  abbrev Goal : Machine → ℕ → State → Run → Type 0
  Goal m c st e = Follows g l (Returned routine (head_of r) callers) m c st e

  -- the run of the rest of the code, with so many jumps back
  abbrev rest_of : ℕ → List Instruction → Config → Run
  rest_of j rest k = finish g cl r.code j (sweep g cl rest k)

  -- what follows at a place, and on the way to a label
  abbrev GoesOn : ℕ → List Instruction → ℕ → Type 0
  GoesOn j rest place = (st : State) (c : ℕ) → Goal (at place st) c st (rest_of j rest (At st c))

  abbrev Seeks : ℕ → List Instruction → Type 0
  Seeks j rest = (again : Bool) (label : ℕ) (st : State) (c : ℕ) → Goal (at (place_of_label label r.code) st) c st (rest_of j rest (Seek again label st c))

  fetch : (place : ℕ) (i : Instruction) (rest : List Instruction) (st : State) → From r.code place (i ∷ rest) → tick g l (at place st) ≡ executes g l r routine place callers i (bare st)
  fetch place i rest st f =
      ap (λ o. executes_in g l o routine place callers (bare st)) found ∙ ap (λ o. executes_at g l r routine place callers o (bare st)) (from_here r.code place i rest f)

  price_here : (place : ℕ) (i : Instruction) (rest : List Instruction) (st : State) → From r.code place (i ∷ rest) → price_at l (at place st) ≡ instruction_price i
  price_here place i rest st f = ap (λ o. price_in o place) found ∙ ap price_of (from_here r.code place i rest f)

  -- a run that is done
  on_done : (j : ℕ) (rest : List Instruction) (m : Machine) (c : ℕ) (st : State) (how : How) (su : State) (q : ℕ) → Goal m c st (record { how = how; state = su; cost = q }) → Goal m c st (rest_of j rest (Done how su q))
  on_done j rest m c st how su q h = subst (Goal m c st) (sym (ap (finish g cl r.code j) (sweep_done g cl rest how su q))) h

  never : (j : ℕ) (rest : List Instruction) (m : Machine) (c : ℕ) (st su : State) (q : ℕ) → Goal m c st (rest_of j rest (Done (Over Stuck) su q))
  never j rest m c st su q = on_done j rest m c st (Over Stuck) su q (λ fine. absurd fine)

  -- what is configured where an operation has ended so
  abbrev Configured : Option Handler → How → State → ℕ → Config
  Configured None how st c = config how st c
  Configured (Some h) how st c = handled g h how st c

  -- so many ticks that lead to what takes an exception
  lands : (place : ℕ) (st : State) (e : ℕ) (x s : Run) (n : Machine) → Alike st e x s → n ≡ goes_on_run routine place callers s → n ≡ goes_on routine place callers x.how (bare x.state)
  lands place st e x s n a t = t ∙ ap (λ y. goes_on routine place callers y s.state) a.how ∙ ap (goes_on routine place callers x.how) a.state

  at_handler : (j : ℕ) (rest : List Instruction) (label : ℕ) (m : Machine) (c e count : ℕ) (before st : State) (how : How) (su : State) (q : ℕ) (s : Run) → Alike st e (record { how = how; state = su; cost = q }) s →
      ticks g l count m ≡ goes_on_run routine (place_of_label label r.code) callers s → spent g l count m + c ≤ e → Paid count before st → Seeks j rest → Goal m c before (rest_of j rest (seek_how label how su q))
  at_handler j rest label m c e count before st Next su q s a t le p seek =
      let x = a.cost tt in let u = a.turns in let v = a.others in let y = p.turns in let z = p.others in
      after g l (Returned routine (head_of r) callers) count m (at (place_of_label label r.code) su) c q before su _ (lands (place_of_label label r.code) st e _ s _ a t) (omega arith) (record { turns = omega arith; others = omega arith }) (seek false label su q)
  at_handler j rest label m c e count before st (Left loops ws) su q s a t le p seek = absurd (a.simple)
  at_handler j rest label m c e count before st (Ends ws) su q s a t le p seek = absurd (a.simple)
  at_handler j rest label m c e count before st (Throws kind line) su q s a t le p seek =
      let x = a.cost tt in let u = a.turns in let v = a.others in let y = p.turns in let z = p.others in
      on_done j rest m c before (Throws kind line) su q (λ fine. record { count = count; there = lands (place_of_label label r.code) st e _ s _ a t; cost = omega arith; paid = record { turns = omega arith; others = omega arith } })
  at_handler j rest label m c e count before st (Over Ended) su q s a t le p seek =
      let x = a.cost tt in let u = a.turns in let v = a.others in let y = p.turns in let z = p.others in
      on_done j rest m c before (Over Ended) su q (λ fine. record { count = count; there = lands (place_of_label label r.code) st e _ s _ a t; cost = omega arith; paid = record { turns = omega arith; others = omega arith } })
  at_handler j rest label m c e count before st (Over (Stopped kind line)) su q s a t le p seek =
      let x = a.cost tt in let u = a.turns in let v = a.others in let y = p.turns in let z = p.others in
      on_done j rest m c before (Over (Stopped kind line)) su q (λ fine. record { count = count; there = lands (place_of_label label r.code) st e _ s _ a t; cost = omega arith; paid = record { turns = omega arith; others = omega arith } })
  at_handler j rest label m c e count before st (Over Going) su q s a t le p seek = absurd (a.simple)
  at_handler j rest label m c e count before st (Over Stuck) su q s a t le p seek = never j rest m c before su q

  alike_takes_up : (h : Handler) (kind line : ℕ) (st : State) (c : ℕ) → Alike st c (takes_up g h.mark h.to kind line st c) (takes_up g h.mark h.to kind line (bare st) 0)
  alike_takes_up h kind line st c =
      alike_needs (st.marks h.mark) st c c 0 _ _ (λ taken.
      let su : State = without_array g (st.taken - taken) st in
      let b = alike_binds h.to (kind ∷ line ∷ []) su c 0 in
      record { how = b.how; state = b.state; turns = b.turns; others = b.others; cost = b.cost; simple = b.simple })

  -- an exception that is taken, in the tick behind so many
  is_taken : (h : Handler) (j : ℕ) (rest : List Instruction) (m : Machine) (c q count : ℕ) (before su : State) (kind line : ℕ) → ticks g l count m ≡ raises g l routine (Some h) kind line (bare su) callers → spent g l count m + c ≤ q → Paid count before su → Seeks j rest →
      Goal m c before (rest_of j rest (seek_run h.label (takes_up g h.mark h.to kind line su (q + guard_price))))
  is_taken h j rest m c q count before su kind line t le p seek =
      let x = takes_up g h.mark h.to kind line su (q + guard_price) in
      let y = takes_up g h.mark h.to kind line (bare su) 0 in
      let one : ticks g l (count + 1) m ≡ goes_on_run routine (place_of_label h.label r.code) callers y = ticks_add g l count 1 m ∙ (ap (tick g l) t ∙ ap (λ o. goes_on_run routine (label_in o h.label) callers y) found) in
      let s = spent_add g l count 1 m in
      let e : price_at l (ticks g l count m) ≡ guard_price = ap (price_at l) t in
      at_handler j rest h.label m c (q + guard_price) (count + 1) before su x.how x.state x.cost y (alike_takes_up h kind line su (q + guard_price)) one (omega arith) (record { turns = (let a = p.turns in omega arith); others = (let a = p.others in omega arith) }) seek

  -- an operation that calls nothing
  ends_as : (m : Machine) (place : ℕ) (guard : Option Handler) (st : State) (e : ℕ) (x s : Run) → Alike st e x s → tick g l m ≡ ends_run g l routine place guard callers s → tick g l m ≡ ends_so g l routine place guard callers x.how (bare x.state)
  ends_as m place guard st e x s a t = t ∙ ap (λ y. ends_so g l routine place guard callers y s.state) a.how ∙ ap (ends_so g l routine place guard callers x.how) a.state

  simple : (guard : Option Handler) (j : ℕ) (rest : List Instruction) (place : ℕ) (m : Machine) (c e : ℕ) (st : State) (how : How) (su : State) (q : ℕ) (s : Run) → Alike st e (record { how = how; state = su; cost = q }) s →
      tick g l m ≡ ends_run g l routine place guard callers s → price_at l m + c ≤ e → GoesOn j rest place → Seeks j rest → Goal m c st (rest_of j rest (Configured guard how su q))
  simple None j rest place m c e st Next su q s a t le go seek =
      let x = a.cost tt in step g l (Returned routine (head_of r) callers) m (at place su) c q st su _ (ends_as m place None st e _ s a t) (omega arith) (kept 1 st su a.turns a.others) (go su q)
  simple (Some h) j rest place m c e st Next su q s a t le go seek =
      let x = a.cost tt in step g l (Returned routine (head_of r) callers) m (at place su) c q st su _ (ends_as m place (Some h) st e _ s a t) (omega arith) (kept 1 st su a.turns a.others) (go su q)
  simple guard j rest place m c e st (Left loops ws) su q s a t le go seek = absurd (a.simple)
  simple guard j rest place m c e st (Ends ws) su q s a t le go seek = absurd (a.simple)
  simple None j rest place m c e st (Throws kind line) su q s a t le go seek =
      let x = a.cost tt in on_done j rest m c st (Throws kind line) su q (last g l (Returned routine (head_of r) callers) m _ c q st su (Throws kind line) (ends_as m place None st e _ s a t) (omega arith) (kept 1 st su a.turns a.others) refl)
  simple (Some h) j rest place m c e st (Throws kind line) su q s a t le go seek =
      let x = a.cost tt in is_taken h j rest m c q 1 st su kind line (ends_as m place (Some h) st e _ s a t) (omega arith) (kept 1 st su a.turns a.others) seek
  simple None j rest place m c e st (Over Ended) su q s a t le go seek =
      let x = a.cost tt in on_done j rest m c st (Over Ended) su q (last g l (Returned routine (head_of r) callers) m _ c q st su (Over Ended) (ends_as m place None st e _ s a t) (omega arith) (kept 1 st su a.turns a.others) refl)
  simple (Some h) j rest place m c e st (Over Ended) su q s a t le go seek =
      let x = a.cost tt in on_done j rest m c st (Over Ended) su q (last g l (Returned routine (head_of r) callers) m _ c q st su (Over Ended) (ends_as m place (Some h) st e _ s a t) (omega arith) (kept 1 st su a.turns a.others) refl)
  simple None j rest place m c e st (Over (Stopped kind line)) su q s a t le go seek =
      let x = a.cost tt in on_done j rest m c st (Over (Stopped kind line)) su q (last g l (Returned routine (head_of r) callers) m _ c q st su (Over (Stopped kind line)) (ends_as m place None st e _ s a t) (omega arith) (kept 1 st su a.turns a.others) refl)
  simple (Some h) j rest place m c e st (Over (Stopped kind line)) su q s a t le go seek =
      let x = a.cost tt in on_done j rest m c st (Over (Stopped kind line)) su q (last g l (Returned routine (head_of r) callers) m _ c q st su (Over (Stopped kind line)) (ends_as m place (Some h) st e _ s a t) (omega arith) (kept 1 st su a.turns a.others) refl)
  simple guard j rest place m c e st (Over Going) su q s a t le go seek = absurd (a.simple)
  simple None j rest place m c e st (Over Stuck) su q s a t le go seek = never j rest m c st su q
  simple (Some h) j rest place m c e st (Over Stuck) su q s a t le go seek = never j rest m c st su q

  -- a call
  behind : (guard : Option Handler) (j : ℕ) (rest : List Instruction) (place : ℕ) (m : Machine) (c : ℕ) (st : State) (how : How) (su : State) (q : ℕ) → Follows g l (Behind g l routine place guard callers) m c st (record { how = how; state = su; cost = q }) →
      GoesOn j rest place → Seeks j rest → Goal m c st (rest_of j rest (Configured guard how su q))
  behind None j rest place m c st Next su q f go seek = let x = f tt in after g l (Returned routine (head_of r) callers) x.count m (at place su) c q st su _ x.there x.cost x.paid (go su q)
  behind (Some h) j rest place m c st Next su q f go seek = let x = f tt in after g l (Returned routine (head_of r) callers) x.count m (at place su) c q st su _ x.there x.cost x.paid (go su q)
  behind None j rest place m c st (Left loops ws) su q f go seek = on_done j rest m c st (Left loops ws) su q (λ fine. absurd fine)
  behind (Some h) j rest place m c st (Left loops ws) su q f go seek = on_done j rest m c st (Left loops ws) su q (λ fine. absurd fine)
  behind guard j rest place m c st (Ends ws) su q f go seek = absurd ((f tt).there)
  behind None j rest place m c st (Throws kind line) su q f go seek = on_done j rest m c st (Throws kind line) su q (seen_so g l (Behind g l routine place None callers) (Returned routine (head_of r) callers) m c q st su (Throws kind line) (λ n y. y) f)
  behind (Some h) j rest place m c st (Throws kind line) su q f go seek = let x = f tt in is_taken h j rest m c q x.count st su kind line x.there x.cost x.paid seek
  behind None j rest place m c st (Over verdict) su q f go seek = on_done j rest m c st (Over verdict) su q (seen_so g l (Behind g l routine place None callers) (Returned routine (head_of r) callers) m c q st su (Over verdict) (λ n y. y) f)
  behind (Some h) j rest place m c st (Over verdict) su q f go seek = on_done j rest m c st (Over verdict) su q (seen_so g l (Behind g l routine place (Some h) callers) (Returned routine (head_of r) callers) m c q st su (Over verdict) (λ n y. y) f)

  abbrev Acted : Option Handler → Run → Config
  Acted guard x = Configured guard x.how x.state x.cost

  quiet : (guard : Option Handler) (p : PlainOp) (j place : ℕ) (rest : List Instruction) (st : State) (c : ℕ) → Alike st (c + plain_price p) (act g cl p st c) (does g no_calls p (bare st) 0) →
      tick g l (at place st) ≡ ends_run g l routine (place + 1) guard callers (does g no_calls p (bare st) 0) → price_at l (at place st) ≡ plain_price p → GoesOn j rest (place + 1) → Seeks j rest → Goal (at place st) c st (rest_of j rest (Acted guard (act g cl p st c)))
  quiet guard p j place rest st c a t e go seek =
      let x = act g cl p st c in
      simple guard j rest (place + 1) (at place st) c (c + plain_price p) st x.how x.state x.cost (does g no_calls p (bare st) 0) a t (omega arith) go seek

  plain : (guard : Option Handler) (p : PlainOp) (j place : ℕ) (rest : List Instruction) (st : State) (c : ℕ) → tick g l (at place st) ≡ operates g l routine (place + 1) guard callers p (bare st) → price_at l (at place st) ≡ tick_price p →
      GoesOn j rest (place + 1) → Seeks j rest → Goal (at place st) c st (rest_of j rest (Acted guard (act g cl p st c)))
  plain guard (Constant x w) j place rest st c t e go seek = quiet guard (Constant x w) j place rest st c (alike_defines x w st st _ 0 refl refl) t e go seek
  plain guard (Global x w) j place rest st c t e go seek = quiet guard (Global x w) j place rest st c (alike_defines x _ st st _ 0 refl refl) t e go seek
  plain guard (Heap x) j place rest st c t e go seek = quiet guard (Heap x) j place rest st c (alike_defines x _ st st _ 0 refl refl) t e go seek
  plain guard (Frame x w) j place rest st c t e go seek = quiet guard (Frame x w) j place rest st c (alike_defines x _ st st _ 0 refl refl) t e go seek
  plain guard (Text x b) j place rest st c t e go seek = quiet guard (Text x b) j place rest st c (alike_defines x _ st st _ 0 refl refl) t e go seek
  plain guard (Compute x op a b) j place rest st c t e go seek = quiet guard (Compute x op a b) j place rest st c (alike_two st a b _ 0 _ _ (λ v w. alike_defines x _ st st _ 0 refl refl)) t e go seek
  plain guard (Load x width a) j place rest st c t e go seek =
      quiet guard (Load x width a) j place rest st c (alike_needs (st.env a) st _ _ 0 _ _ (λ v. alike_needs (loaded width st.cells v) st _ _ 0 _ _ (λ w. alike_defines x w st st _ 0 refl refl))) t e go seek
  plain guard (Store width a b) j place rest st c t e go seek =
      quiet guard (Store width a b) j place rest st c (alike_two st a b _ 0 _ _ (λ v w. alike_needs (stored width st.cells v w) st _ _ 0 _ _ (λ cells. alike_next st (record st { cells = cells }) _ _ 0 refl refl (omega arith)))) t e go seek
  plain guard (Ask x service) j place rest st c t e go seek = quiet guard (Ask x service) j place rest st c (alike_needs (service_of st.env service) st _ _ 0 _ _ (λ what. alike_asks g x what st _ 0)) t e go seek
  plain guard (Call callee arguments to line) j place rest st c t e go seek =
      let x = act g cl (Call callee arguments to line) st c in
      behind guard j rest (place + 1) (at place st) c st x.how x.state x.cost (follows routine place (place + 1) guard callers to line st (at place st) c (c + plain_price (Call callee arguments to line)) refl (omega arith) callee arguments t) go seek
  plain guard (Raise kind line) j place rest st c t e go seek = quiet guard (Raise kind line) j place rest st c (alike_raised (kind_number kind) line st _ 0) t e go seek
  plain guard (Throw kind line) j place rest st c t e go seek = quiet guard (Throw kind line) j place rest st c (alike_two st kind line _ 0 _ _ (λ k w. alike_raised_by k w st _ 0)) t e go seek
  plain guard (Take x words line) j place rest st c t e go seek = quiet guard (Take x words line) j place rest st c (alike_needs (st.env words) st _ _ 0 _ _ (λ w. alike_takes g x line w st _ 0)) t e go seek
  plain guard (Give words) j place rest st c t e go seek =
      quiet guard (Give words) j place rest st c (alike_needs (st.env words) st _ _ 0 _ _ (λ w. alike_next st (without_array g w st) _ _ 0 refl refl (omega arith))) t e go seek

  hands_on : (j : ℕ) (rest : List Instruction) (place : ℕ) (m : Machine) (c e : ℕ) (st : State) (how : How) (su : State) (q : ℕ) (s : Run) → Alike st e (record { how = how; state = su; cost = q }) s →
      tick g l m ≡ goes_on_run routine place callers s → price_at l m + c ≤ e → GoesOn j rest place → Goal m c st (rest_of j rest (config how su q))
  hands_on j rest place m c e st Next su q s a t le go =
      let x = a.cost tt in step g l (Returned routine (head_of r) callers) m (at place su) c q st su _ (lands place st e _ s _ a t) (omega arith) (kept 1 st su a.turns a.others) (go su q)
  hands_on j rest place m c e st (Left loops ws) su q s a t le go = absurd (a.simple)
  hands_on j rest place m c e st (Ends ws) su q s a t le go = absurd (a.simple)
  hands_on j rest place m c e st (Throws kind line) su q s a t le go =
      let x = a.cost tt in on_done j rest m c st (Throws kind line) su q (last g l (Returned routine (head_of r) callers) m _ c q st su (Throws kind line) (lands place st e _ s _ a t) (omega arith) (kept 1 st su a.turns a.others) refl)
  hands_on j rest place m c e st (Over Ended) su q s a t le go =
      let x = a.cost tt in on_done j rest m c st (Over Ended) su q (last g l (Returned routine (head_of r) callers) m _ c q st su (Over Ended) (lands place st e _ s _ a t) (omega arith) (kept 1 st su a.turns a.others) refl)
  hands_on j rest place m c e st (Over (Stopped kind line)) su q s a t le go =
      let x = a.cost tt in on_done j rest m c st (Over (Stopped kind line)) su q (last g l (Returned routine (head_of r) callers) m _ c q st su (Over (Stopped kind line)) (lands place st e _ s _ a t) (omega arith) (kept 1 st su a.turns a.others) refl)
  hands_on j rest place m c e st (Over Going) su q s a t le go = absurd (a.simple)
  hands_on j rest place m c e st (Over Stuck) su q s a t le go = never j rest m c st su q

  -- a value that must be there
  wanted : {A : Type 0} (o : Option A) (j : ℕ) (rest : List Instruction) (m : Machine) (c e : ℕ) (st : State) (go : A → Config) (other : A → Machine) →
      tick g l m ≡ wants o (bare st) other → ((v : A) → tick g l m ≡ other v → Goal m c st (rest_of j rest (go v))) → Goal m c st (rest_of j rest (config_wants o st e go))
  wanted None j rest m c e st go other t h = never j rest m c st st e
  wanted (Some v) j rest m c e st go other t h = h v t

  -- a jump, or none
  stays_here : (j : ℕ) (rest : List Instruction) (place : ℕ) (m : Machine) (c e : ℕ) (st : State) → tick g l m ≡ at place st → price_at l m + c ≤ e → GoesOn j rest place → Goal m c st (rest_of j rest (At st e))
  stays_here j rest place m c e st t le go = step g l (Returned routine (head_of r) callers) m (at place st) c e st st _ t le (kept 1 st st refl refl) (go st e)

  jumps : (j : ℕ) (rest : List Instruction) (label : ℕ) (m : Machine) (c e : ℕ) (st : State) → tick g l m ≡ at (place_of_label label r.code) st → price_at l m + c ≤ e → Seeks j rest → Goal m c st (rest_of j rest (Seek false label st e))
  jumps j rest label m c e st t le seek = step g l (Returned routine (head_of r) callers) m (at (place_of_label label r.code) st) c e st st _ t le (kept 1 st st refl refl) (seek false label st e)

  unless : (b : Bool) (j : ℕ) (rest : List Instruction) (place label : ℕ) (m : Machine) (c e : ℕ) (st : State) → tick g l m ≡ at (if b then place else place_of_label label r.code) st → price_at l m + c ≤ e → GoesOn j rest place → Seeks j rest →
      Goal m c st (rest_of j rest (if b then At st e else Seek false label st e))
  unless true j rest place label m c e st t le go seek = stays_here j rest place m c e st t le go
  unless false j rest place label m c e st t le go seek = jumps j rest label m c e st t le seek

  where_so : (b : Bool) (j : ℕ) (rest : List Instruction) (place label : ℕ) (m : Machine) (c e : ℕ) (st : State) → tick g l m ≡ at (if b then place_of_label label r.code else place) st → price_at l m + c ≤ e → GoesOn j rest place → Seeks j rest →
      Goal m c st (rest_of j rest (if b then Seek false label st e else At st e))
  where_so true j rest place label m c e st t le go seek = jumps j rest label m c e st t le seek
  where_so false j rest place label m c e st t le go seek = stays_here j rest place m c e st t le go

  -- a label, where a turn or an other round may begin
  turn_begins : (t : ℕ) (j place : ℕ) (rest : List Instruction) (st : State) (c : ℕ) → st.turns ≡ t → tick g l (at place st) ≡ at (place + 1) st → price_at l (at place st) ≡ 1 → GoesOn j rest (place + 1) → Goal (at place st) c st (rest_of j rest (config_of (turn_from t st (c + 1))))
  turn_begins zero j place rest st c none t e go =
      on_done j rest (at place st) c st (Over Going) st (c + 1) (at_once g l (Returned routine (head_of r) callers) (at place st) c (c + 1) st (Over Going) (omega arith) (record { routine = routine; place = place; callers = callers; is = refl; none = inl none }))
  turn_begins (suc n) j place rest st c one t e go =
      let su : State = record st { turns = n } in
      step g l (Returned routine (head_of r) callers) (at place st) (at (place + 1) su) c (c + 1) st su _ t (omega arith) (record { turns = omega arith; others = omega arith }) (go su (c + 1))

  other_begins : (s : ℕ) (j place : ℕ) (rest : List Instruction) (st : State) (c : ℕ) → st.others ≡ s → tick g l (at place st) ≡ at (place + 1) st → price_at l (at place st) ≡ 1 → GoesOn j rest (place + 1) → Goal (at place st) c st (rest_of j rest (config_of (other_from s st (c + 1))))
  other_begins zero j place rest st c none t e go =
      on_done j rest (at place st) c st (Over Going) st (c + 1) (at_once g l (Returned routine (head_of r) callers) (at place st) c (c + 1) st (Over Going) (omega arith) (record { routine = routine; place = place; callers = callers; is = refl; none = inr none }))
  other_begins (suc n) j place rest st c one t e go =
      let su : State = record st { others = n } in
      step g l (Returned routine (head_of r) callers) (at place st) (at (place + 1) su) c (c + 1) st su _ t (omega arith) (record { turns = omega arith; others = omega arith }) (go su (c + 1))

  label_begins : (marked again : Bool) (j place : ℕ) (rest : List Instruction) (st : State) (c : ℕ) → tick g l (at place st) ≡ at (place + 1) st → price_at l (at place st) ≡ 1 → GoesOn j rest (place + 1) → Goal (at place st) c st (rest_of j rest (config_of (begins marked again st (c + 1))))
  label_begins true again j place rest st c t e go = turn_begins st.turns j place rest st c refl t e go
  label_begins false true j place rest st c t e go = other_begins st.others j place rest st c refl t e go
  label_begins false false j place rest st c t e go = stays_here j rest (place + 1) (at place st) c (c + 1) st t (omega arith) go

  -- an instruction that the run comes to
  comes : (i : Instruction) (j place : ℕ) (rest : List Instruction) → From r.code place (i ∷ rest) → GoesOn j rest (place + 1) → Seeks j rest → GoesOn j (i ∷ rest) place
  comes (Plain p) j place rest f go seek st c = plain None p j place rest st c (fetch place (Plain p) rest st f) (price_here place (Plain p) rest st f) go seek
  comes (Guarded p h) j place rest f go seek st c = plain (Some h) p j place rest st c (fetch place (Guarded p h) rest st f) (price_here place (Guarded p h) rest st f) go seek
  comes (Open mark) j place rest f go seek st c =
      let e = price_here place (Open mark) rest st f in
      step g l (Returned routine (head_of r) callers) (at place st) (at (place + 1) (opens mark st)) c (c + open_price) st (opens mark st) _ (fetch place (Open mark) rest st f) (omega arith) (kept 1 st _ refl refl) (go (opens mark st) (c + open_price))
  comes (Branch relation left right label) j place rest f go seek st c =
      let e = price_here place (Branch relation left right label) rest st f in
      wanted (st.env left) j rest (at place st) c (c + 9) st _ _ (fetch place (Branch relation left right label) rest st f) (λ v t.
      wanted (st.env right) j rest (at place st) c (c + 9) st _ _ t (λ w u.
      unless (holds relation v w) j rest (place + 1) label (at place st) c (c + 9) st u (omega arith) go seek))
  comes (Within value range label) j place rest f go seek st c =
      let e = price_here place (Within value range label) rest st f in
      wanted (st.env value) j rest (at place st) c (c + range_price) st _ _ (fetch place (Within value range label) rest st f) (λ v t.
      where_so (is_in (signed_of v) range) j rest (place + 1) label (at place st) c (c + range_price) st t (omega arith) go seek)
  comes (Hand to from) j place rest f go seek st c =
      let e = price_here place (Hand to from) rest st f in
      let x = hands to from st (c + 1) in
      hands_on j rest (place + 1) (at place st) c (c + 1 + value_price * length from) st x.how x.state x.cost _ (alike_hands to from st (c + 1)) (fetch place (Hand to from) rest st f) (omega arith) go
  comes (Jump label) j place rest f go seek st c =
      let e = price_here place (Jump label) rest st f in jumps j rest label (at place st) c (c + 2) st (fetch place (Jump label) rest st f) (omega arith) seek
  comes (Label label marked) j place rest f go seek st c = label_begins marked false j place rest st c (fetch place (Label label marked) rest st f) (price_here place (Label label marked) rest st f) go
  comes (Back values) j place rest f go seek st c =
      let e = price_here place (Back values) rest st f in
      wanted (words_of st.env values) j rest (at place st) c (c + 7) st _ _ (fetch place (Back values) rest st f) (λ ws t.
      on_done j rest (at place st) c st (Ends ws) st (c + 7 + 8 * length values)
      (last g l (Returned routine (head_of r) callers) (at place st) _ c (c + 7 + 8 * length values) st st (Ends ws) t (omega arith) (kept 1 st st refl refl) refl))

  -- a label that is sought may be this one
  may_be : (b : Bool) (sought label : ℕ) (marked : Bool) (j place : ℕ) (rest : List Instruction) → (b ≡ true → sought ≡ label) → From r.code place (Label label marked ∷ rest) → GoesOn j rest (place + 1) → Seeks j rest →
      (again : Bool) (st : State) (c : ℕ) → Goal (at (place_of_label sought r.code) st) c st (rest_of j rest (if b then config_of (begins marked again st (c + 1)) else Seek again sought st c))
  may_be true sought label marked j place rest same f go seek again st c =
      let here : place_of_label sought r.code ≡ place = ap (λ x. place_of_label x r.code) (same refl) ∙ label_stands r.code labels place label marked (from_here r.code place (Label label marked) rest f) in
      subst (λ x. Goal (at x st) c st (rest_of j rest (config_of (begins marked again st (c + 1))))) (sym here)
      (label_begins marked again j place rest st c (fetch place (Label label marked) rest st f) (price_here place (Label label marked) rest st f) go)
  may_be false sought label marked j place rest same f go seek again st c = seek again sought st c

  passes : (i : Instruction) (j place : ℕ) (rest : List Instruction) → From r.code place (i ∷ rest) → GoesOn j rest (place + 1) → Seeks j rest → Seeks j (i ∷ rest)
  passes (Plain p) j place rest f go seek again sought st c = seek again sought st c
  passes (Guarded p h) j place rest f go seek again sought st c = seek again sought st c
  passes (Open mark) j place rest f go seek again sought st c = seek again sought st c
  passes (Branch relation left right label) j place rest f go seek again sought st c = seek again sought st c
  passes (Within value range label) j place rest f go seek again sought st c = seek again sought st c
  passes (Hand to from) j place rest f go seek again sought st c = seek again sought st c
  passes (Jump label) j place rest f go seek again sought st c = seek again sought st c
  passes (Label label marked) j place rest f go seek again sought st c = may_be (nat_eq sought label) sought label marked j place rest (eqb-true sought label) f go seek again st c
  passes (Back values) j place rest f go seek again sought st c = seek again sought st c

  sweeps : (rest : List Instruction) (j place : ℕ) → From r.code place rest → Seeks j [] → GoesOn j rest place × Seeks j rest
  sweeps [] j place f seek = ((λ st c fine. absurd fine), seek)
  sweeps (i ∷ rest) j place f seek =
      let x = sweeps rest j (place + 1) (from_next r.code place i rest f) seek in
      (comes i j place rest f x.0 x.1, passes i j place rest f x.0 x.1)

  seeks_all : (j : ℕ) → Seeks j []
  seeks_all zero again label st c = λ fine. absurd fine
  seeks_all (suc j) again label st c = (sweeps r.code j 0 (from_start r.code) (seeks_all j)).1 true label st c

  pub routine_follows : (st : State) (c : ℕ) → Goal (Running routine 0 (bare st) callers) c st (run_code g cl r.code st c)
  routine_follows st c = let n = suc (st.turns + st.others) in (sweeps r.code n 0 (from_start r.code) (seeks_all n)).0 st c
