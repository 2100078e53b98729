-- What the machine has done stays done.
use Rattle.std.proofs.Common.{ℕ, zero, suc, ◌+◌, ◌-◌, ◌≤◌, Bool, true, false, eqb, leb, ◌&&◌, not, length, List, [], ◌∷◌, ◌++◌, Option, Some, None, refl, sym, subst}
use Rattle.std.specs.Prelude.{if◌then◌else◌, slice_get, nat_le}
use Rattle.std.specs.List.{list_any}
use Rattle.std.specs.FinMap as finite
use Rattle.tu_base.specs.Trace.{files_of}
use Rattle.rv_isa.specs.Memory.{Memory}
use Rattle.rv_isa.specs.declared.service.Service.{Service}
use Rattle.rv_isa.specs.declared.service.Service.TheVariants.{End, Stop, PutConsole, GetConsole, Open, Close, PutStream, GetStream, State as state_of}
use Rattle.rv_image.specs.Streams.{Folder, Closed, Holding, Stream, Free, Reading, Writing, World, Served, Finishes, Replies, served, got, opens, opens_at, reads, closes, puts, gets, stream, with_stream, free_stream, is_file_name, is_named, bytes_at}
use Rattle.tu_base.specs.Prefix.{IsPrefix}
use Rattle.rv_runs.proofs.Stretches.{grows_none, grows_then}
use Rattle.ir_form.specs.declared.plain.Plain.{Plain as PlainOp}
use Rattle.ir_form.specs.declared.plain.Plain.TheVariants.{Constant, Global, Heap, Frame, Text, Compute, Load, Store, Ask, Call, Raise, Throw, Take, Give}
use Rattle.ir_form.specs.Place.{Setting}
use Rattle.ir_form.specs.Cells.{memory_of, loaded, stored}
use Rattle.ir_form.specs.State.{State, How, Next, Left, Ends, Throws, Over, Run, next, raised, on_run, needs, words_of, bound, binds}
use Rattle.ir_form.specs.Plain.{most_rooms, storage, two, service_of, is_accepted, replied, does, without_array}
use Rattle.ir_form.specs.Meaning.{takes_words, hands, takes_up}
use Rattle.ir_form.specs.Units.{Head, opened, restored}
use Rattle.rv_flat.specs.declared.linear.Instruction.{Instruction}
use Rattle.rv_flat.specs.declared.linear.Handler.{Handler}
use Rattle.rv_flat.specs.declared.linear.Instruction.TheVariants.{Plain, Guarded, Open, Branch, Within, Hand, Jump, Label, Back}
use Rattle.rv_flat.specs.declared.linear.LinearRoutine.{LinearRoutine}
use Rattle.rv_flat.specs.declared.linear.Linear.{Linear}
use Rattle.rv_flat.specs.Units.{head_of}
use Rattle.rv_frames.specs.Frames.{Caller, Machine, Running, Halted, wants, goes_on, goes_on_run, makes_room, arrives, calls, returns, no_calls, operates, executes, executes_at, executes_in, tick, ticks, world_at, Unwinding, Taking, leaves, raises, label_in, ends_so, ends_run, begins_call, begins_run, unwinds}
use Rattle.rv_frames.proofs.Ticks.{ticks_from}

-- the services of a host
abbrev world_served : Served → World
world_served (Finishes how w) = w
world_served (Replies reply w) = w

abbrev ServedGrows : World → Served → Type 0
ServedGrows w sv = IsPrefix w.trace (world_served sv).trace

either : (w : World) (b : Bool) (x y : Served) → ServedGrows w x → ServedGrows w y → ServedGrows w (if b then x else y)
either w true x y h k = h
either w false x y h k = k

read_grows : (w : World) (i : ℕ) (name : List ℕ) (o : Option (List ℕ)) → ServedGrows w (reads w i name o)
read_grows w i name None = grows_none w
read_grows w i name (Some contents) = either w (leb (length contents) 16777216) (Replies i (with_stream w i (Reading name contents))) (Replies 0 w) (grows_none w) (grows_none w)

open_grows : (folder : Folder) (w : World) (i : ℕ) (name : List ℕ) (mode : ℕ) → ServedGrows w (opens_at folder w i name mode)
open_grows Closed w i name mode = grows_none w
open_grows (Holding files) w i name mode =
    either w (eqb mode 0) (reads w i name (finite.get (files_of files w.trace) name)) (Replies i (with_stream w i (Writing name []))) (read_grows w i name (finite.get (files_of files w.trace) name)) (grows_none w)

opens_grow : (folder : Folder) (w : World) (name : List ℕ) (mode : ℕ) → ServedGrows w (opens folder w name mode)
opens_grow folder w name mode =
    let i = free_stream w.streams 1 in
    either w (not (eqb i 0) && (is_file_name name && not (list_any (is_named name) w.streams))) (opens_at folder w i name mode) (Replies 0 w) (open_grows folder w i name mode) (grows_none w)

close_grows : (w : World) (i : ℕ) (s : Stream) → ServedGrows w (closes w i s)
close_grows w i Free = grows_none w
close_grows w i (Reading name left) = grows_none w
close_grows w i (Writing name contents) = record { rest = _; is = refl }

put_grows : (w : World) (i : ℕ) (bytes : List ℕ) (s : Stream) → ServedGrows w (puts w i bytes s)
put_grows w i bytes Free = grows_none w
put_grows w i bytes (Reading name left) = grows_none w
put_grows w i bytes (Writing name contents) =
    either w (leb (length contents + length bytes) 16777216) (Replies 0 (with_stream w i (Writing name (contents ++ bytes)))) (Replies 2 w) (grows_none w) (grows_none w)

get_grows : (w : World) (i : ℕ) (s : Stream) → ServedGrows w (gets w i s)
get_grows w i Free = grows_none w
get_grows w i (Reading name []) = grows_none w
get_grows w i (Reading name (b ∷ left)) = grows_none w
get_grows w i (Writing name contents) = grows_none w

got_grows : (w : World) (left : List ℕ) → ServedGrows w (got w left)
got_grows w [] = record { rest = _; is = refl }
got_grows w (b ∷ left) = record { rest = _; is = refl }

served_grows : (folder : Folder) (m : Memory) (what : Service) (w : World) → ServedGrows w (served folder m what w)
served_grows folder m End w = record { rest = _; is = refl }
served_grows folder m (Stop kind line) w = record { rest = _; is = refl }
served_grows folder m (PutConsole at size) w = record { rest = _; is = refl }
served_grows folder m GetConsole w = got_grows w w.left
served_grows folder m (Open at size mode) w = opens_grow folder (record w { opened = true }) (bytes_at m at size) mode
served_grows folder m (Close i) w = close_grows w i (stream w i)
served_grows folder m (PutStream i at size) w = put_grows w i (bytes_at m at size) (stream w i)
served_grows folder m (GetStream i) w = get_grows w i (stream w i)
served_grows folder m (state_of i) w = grows_none w

-- what operations do
abbrev RunGrows : World → Run → Type 0
RunGrows w r = IsPrefix w.trace r.state.world.trace

needs_grows : {A : Type 0} (o : Option A) (st : State) (c : ℕ) (go : A → Run) → ((v : A) → RunGrows st.world (go v)) → RunGrows st.world (needs o st c go)
needs_grows None st c go h = grows_none st.world
needs_grows (Some v) st c go h = h v

two_grows : (st : State) (a b c : ℕ) (go : ℕ → ℕ → Run) → ((v w : ℕ) → RunGrows st.world (go v w)) → RunGrows st.world (two st a b c go)
two_grows st a b c go h = needs_grows (st.env a) st c _ (λ v. needs_grows (st.env b) st c (go v) (h v))

run_either : (w : World) (b : Bool) (r s : Run) → RunGrows w r → RunGrows w s → RunGrows w (if b then r else s)
run_either w true r s h k = h
run_either w false r s h k = k

replied_grows : (x : ℕ) (v : Served) (st : State) (c : ℕ) → ServedGrows st.world v → RunGrows st.world (replied x v st c)
replied_grows x (Finishes how w) st c h = h
replied_grows x (Replies reply w) st c h = h

does_grows : (g : Setting) (p : PlainOp) (st : State) (c : ℕ) → RunGrows st.world (does g no_calls p st c)
does_grows g (Constant x w) st c = grows_none st.world
does_grows g (Global x w) st c = grows_none st.world
does_grows g (Heap x) st c = grows_none st.world
does_grows g (Frame x w) st c = grows_none st.world
does_grows g (Text x b) st c = grows_none st.world
does_grows g (Compute x op a b) st c = two_grows st a b c _ (λ v w. grows_none st.world)
does_grows g (Load x width a) st c = needs_grows (st.env a) st c _ (λ v. needs_grows (loaded width st.cells v) st c _ (λ w. grows_none st.world))
does_grows g (Store width a b) st c = two_grows st a b c _ (λ v w. needs_grows (stored width st.cells v w) st c _ (λ cells. grows_none st.world))
does_grows g (Ask x service) st c =
    needs_grows (service_of st.env service) st c _ (λ what. needs_grows (if is_accepted g st.cells what then Some what else None) st c _ (λ a.
    replied_grows x (served g.folder (memory_of st.cells) a st.world) st c (served_grows g.folder (memory_of st.cells) a st.world)))
does_grows g (Call callee arguments to line) st c = grows_none st.world
does_grows g (Raise kind line) st c = grows_none st.world
does_grows g (Throw kind line) st c = two_grows st kind line c _ (λ k w. run_either st.world (nat_le 1 k && nat_le k 21) _ _ (grows_none st.world) (grows_none st.world))
does_grows g (Take x words line) st c = needs_grows (st.env words) st c _ (λ w. run_either st.world (nat_le (st.rooms + w) most_rooms) _ _ (grows_none st.world) (grows_none st.world))
does_grows g (Give words) st c = needs_grows (st.env words) st c _ (λ w. grows_none st.world)

binds_grow : (to ws : List ℕ) (st : State) (c : ℕ) → RunGrows st.world (binds to ws st c)
binds_grow to ws st c = needs_grows (bound to ws st.env) st c _ (λ env. grows_none st.world)

words_grow : (to ws : List ℕ) (st : State) (c : ℕ) → RunGrows st.world (takes_words to ws st c)
words_grow to [] st c = grows_none st.world
words_grow to (w ∷ ws) st c = binds_grow to (w ∷ ws) st c

abbrev MachineGrows : World → Machine → Type 0
MachineGrows w m = IsPrefix w.trace (world_at m).trace

leaves_grow : (routine kind line : ℕ) (st : State) (callers : List Caller) → MachineGrows st.world (leaves routine kind line st callers)
leaves_grow routine kind line st [] = record { rest = _; is = refl }
leaves_grow routine kind line st (f ∷ callers) = grows_none st.world

goes_on_grows : (routine place : ℕ) (callers : List Caller) (how : How) (st : State) → IsPrefix st.world.trace (world_at (goes_on routine place callers how st)).trace
goes_on_grows routine place callers Next st = grows_none st.world
goes_on_grows routine place callers (Left loops ws) st = grows_none st.world
goes_on_grows routine place callers (Ends ws) st = grows_none st.world
goes_on_grows routine place callers (Throws kind line) st = leaves_grow routine kind line st callers
goes_on_grows routine place callers (Over verdict) st = grows_none st.world

on_grows : (w : World) (routine place : ℕ) (callers : List Caller) (r : Run) → RunGrows w r → MachineGrows w (goes_on_run routine place callers r)
on_grows w routine place callers r h = grows_then w r.state.world (world_at (goes_on_run routine place callers r)) h (goes_on_grows routine place callers r.how r.state)

wants_grow : {A : Type 0} (o : Option A) (st : State) (go : A → Machine) → ((v : A) → MachineGrows st.world (go v)) → MachineGrows st.world (wants o st go)
wants_grow None st go h = grows_none st.world
wants_grow (Some v) st go h = h v

room_grows : (b : Bool) (g : Setting) (h : Head) (ws : List ℕ) (line : ℕ) (st : State) →
    RunGrows st.world (on_run (if b then next (opened g h (record st { rooms = st.rooms + h.room })) 0 else raised storage line st 0) (binds h.parameters ws))
room_grows true g h ws line st = binds_grow h.parameters ws (opened g h (record st { rooms = st.rooms + h.room })) 0
room_grows false g h ws line st = grows_none st.world

arrives_at : (depth : ℕ) (g : Setting) (h : Head) (ws : List ℕ) (line : ℕ) (st : State) → RunGrows st.world (on_run (makes_room depth g h line st 0) (binds h.parameters ws))
arrives_at zero g h ws line st = room_grows (nat_le (st.rooms + h.room) most_rooms) g h ws line st
arrives_at (suc depth) g h ws line st = binds_grow h.parameters ws (opened g h (record st { deeper = st.deeper + h.room })) 0

raises_grow : (g : Setting) (l : Linear) (routine : ℕ) (guard : Option Handler) (kind line : ℕ) (st : State) (callers : List Caller) → MachineGrows st.world (raises g l routine guard kind line st callers)
raises_grow g l routine None kind line st callers = leaves_grow routine kind line st callers
raises_grow g l routine (Some h) kind line st callers = grows_none st.world

ends_grow : (g : Setting) (l : Linear) (routine place : ℕ) (guard : Option Handler) (callers : List Caller) (how : How) (st : State) → MachineGrows st.world (ends_so g l routine place guard callers how st)
ends_grow g l routine place guard callers Next st = grows_none st.world
ends_grow g l routine place guard callers (Left loops ws) st = grows_none st.world
ends_grow g l routine place guard callers (Ends ws) st = grows_none st.world
ends_grow g l routine place guard callers (Throws kind line) st = raises_grow g l routine guard kind line st callers
ends_grow g l routine place guard callers (Over verdict) st = grows_none st.world

begins_grow : (g : Setting) (l : Linear) (routine : ℕ) (f : Caller) (callers : List Caller) (how : How) (st : State) → MachineGrows st.world (begins_call g l routine f callers how st)
begins_grow g l routine f callers Next st = grows_none st.world
begins_grow g l routine f callers (Left loops ws) st = grows_none st.world
begins_grow g l routine f callers (Ends ws) st = grows_none st.world
begins_grow g l routine f callers (Throws kind line) st = raises_grow g l f.routine f.guard kind line st callers
begins_grow g l routine f callers (Over verdict) st = grows_none st.world

calls_grow : (g : Setting) (l : Linear) (routine : ℕ) (o : Option LinearRoutine) (f : Caller) (callers : List Caller) (arguments : List ℕ) (line : ℕ) (st : State) → MachineGrows st.world (calls g l routine o f callers arguments line st)
calls_grow g l routine None f callers arguments line st = grows_none st.world
calls_grow g l routine (Some r) f callers arguments line st =
    wants_grow (words_of st.env arguments) st _ (λ ws.
    let x = arrives g (head_of r) ws line st in
    grows_then st.world x.state.world (world_at (begins_run g l routine f callers x)) (arrives_at r.depth g (head_of r) ws line st) (begins_grow g l routine f callers x.how x.state))

returns_grow : (h : Head) (callers : List Caller) (ws : List ℕ) (st : State) → MachineGrows st.world (returns h callers ws st)
returns_grow h [] ws st = record { rest = _; is = refl }
returns_grow h (f ∷ callers) ws st = on_grows st.world f.routine f.place callers (binds f.to ws (restored h f.state st) 0) (binds_grow f.to ws (restored h f.state st) 0)

quiet_grows : (g : Setting) (l : Linear) (p : PlainOp) (routine place : ℕ) (guard : Option Handler) (callers : List Caller) (st : State) → MachineGrows st.world (ends_run g l routine place guard callers (does g no_calls p st 0))
quiet_grows g l p routine place guard callers st =
    let x = does g no_calls p st 0 in
    grows_then st.world x.state.world (world_at (ends_run g l routine place guard callers x)) (does_grows g p st 0) (ends_grow g l routine place guard callers x.how x.state)

operates_grow : (g : Setting) (l : Linear) (routine place : ℕ) (guard : Option Handler) (callers : List Caller) (p : PlainOp) (st : State) → MachineGrows st.world (operates g l routine place guard callers p st)
operates_grow g l routine place guard callers (Constant x w) st = quiet_grows g l (Constant x w) routine place guard callers st
operates_grow g l routine place guard callers (Global x w) st = quiet_grows g l (Global x w) routine place guard callers st
operates_grow g l routine place guard callers (Heap x) st = quiet_grows g l (Heap x) routine place guard callers st
operates_grow g l routine place guard callers (Frame x w) st = quiet_grows g l (Frame x w) routine place guard callers st
operates_grow g l routine place guard callers (Text x b) st = quiet_grows g l (Text x b) routine place guard callers st
operates_grow g l routine place guard callers (Compute x op a b) st = quiet_grows g l (Compute x op a b) routine place guard callers st
operates_grow g l routine place guard callers (Load x width a) st = quiet_grows g l (Load x width a) routine place guard callers st
operates_grow g l routine place guard callers (Store width a b) st = quiet_grows g l (Store width a b) routine place guard callers st
operates_grow g l routine place guard callers (Ask x service) st = quiet_grows g l (Ask x service) routine place guard callers st
operates_grow g l routine place guard callers (Call callee arguments to line) st = calls_grow g l callee (slice_get l.routines callee) _ callers arguments line st
operates_grow g l routine place guard callers (Raise kind line) st = quiet_grows g l (Raise kind line) routine place guard callers st
operates_grow g l routine place guard callers (Throw kind line) st = quiet_grows g l (Throw kind line) routine place guard callers st
operates_grow g l routine place guard callers (Take x words line) st = quiet_grows g l (Take x words line) routine place guard callers st
operates_grow g l routine place guard callers (Give words) st = quiet_grows g l (Give words) routine place guard callers st

executes_grow : (g : Setting) (l : Linear) (r : LinearRoutine) (routine place : ℕ) (callers : List Caller) (i : Instruction) (st : State) → MachineGrows st.world (executes g l r routine place callers i st)
executes_grow g l r routine place callers (Plain p) st = operates_grow g l routine (place + 1) None callers p st
executes_grow g l r routine place callers (Guarded p h) st = operates_grow g l routine (place + 1) (Some h) callers p st
executes_grow g l r routine place callers (Open mark) st = grows_none st.world
executes_grow g l r routine place callers (Branch relation left right label) st = wants_grow (st.env left) st _ (λ v. wants_grow (st.env right) st _ (λ w. grows_none st.world))
executes_grow g l r routine place callers (Within value range label) st = wants_grow (st.env value) st _ (λ v. grows_none st.world)
executes_grow g l r routine place callers (Hand to from) st =
    on_grows st.world routine (place + 1) callers (hands to from st 0) (needs_grows (words_of st.env from) st 0 _ (λ ws. words_grow to ws st _))
executes_grow g l r routine place callers (Jump label) st = grows_none st.world
executes_grow g l r routine place callers (Label label marked) st = grows_none st.world
executes_grow g l r routine place callers (Back values) st = wants_grow (words_of st.env values) st _ (λ ws. returns_grow (head_of r) callers ws st)

at_grows : (g : Setting) (l : Linear) (r : LinearRoutine) (routine place : ℕ) (callers : List Caller) (o : Option Instruction) (st : State) → MachineGrows st.world (executes_at g l r routine place callers o st)
at_grows g l r routine place callers None st = grows_none st.world
at_grows g l r routine place callers (Some i) st = executes_grow g l r routine place callers i st

in_grows : (g : Setting) (l : Linear) (o : Option LinearRoutine) (routine place : ℕ) (callers : List Caller) (st : State) → MachineGrows st.world (executes_in g l o routine place callers st)
in_grows g l None routine place callers st = grows_none st.world
in_grows g l (Some r) routine place callers st = at_grows g l r routine place callers (slice_get r.code place) st

unwinds_grow : (g : Setting) (l : Linear) (o : Option LinearRoutine) (kind line : ℕ) (st : State) (callers : List Caller) → MachineGrows st.world (unwinds g l o kind line st callers)
unwinds_grow g l None kind line st [] = grows_none st.world
unwinds_grow g l (Some r) kind line st [] = grows_none st.world
unwinds_grow g l None kind line st (f ∷ callers) = grows_none st.world
unwinds_grow g l (Some r) kind line st (f ∷ callers) = raises_grow g l f.routine f.guard kind line (restored (head_of r) f.state st) callers

tick_grows : (g : Setting) (l : Linear) (m : Machine) → MachineGrows (world_at m) (tick g l m)
tick_grows g l (Running routine place st callers) = in_grows g l (slice_get l.routines routine) routine place callers st
tick_grows g l (Unwinding routine kind line st callers) = unwinds_grow g l (slice_get l.routines routine) kind line st callers
tick_grows g l (Taking routine h kind line st callers) =
    on_grows st.world routine (label_in (slice_get l.routines routine) h.label) callers (takes_up g h.mark h.to kind line st 0)
    (needs_grows (st.marks h.mark) st 0 _ (λ taken. binds_grow h.to (kind ∷ line ∷ []) (without_array g (st.taken - taken) st) 0))
tick_grows g l (Halted verdict w) = grows_none w

ticks_grow : (g : Setting) (l : Linear) (n : ℕ) (m : Machine) → MachineGrows (world_at m) (ticks g l n m)
ticks_grow g l zero m = grows_none (world_at m)
ticks_grow g l (suc n) m = grows_then (world_at m) (world_at (tick g l m)) (world_at (ticks g l n (tick g l m))) (tick_grows g l m) (ticks_grow g l n (tick g l m))

-- with more ticks there is only more to see
pub grows_between : (g : Setting) (l : Linear) (a b : ℕ) (m : Machine) → a ≤ b → IsPrefix (world_at (ticks g l a m)).trace (world_at (ticks g l b m)).trace
grows_between g l a b m le = subst (λ x. IsPrefix (world_at (ticks g l a m)).trace (world_at x).trace) (sym (ticks_from g l a b m le)) (ticks_grow g l (b - a) (ticks g l a m))
