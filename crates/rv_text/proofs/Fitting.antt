-- Each instruction of the text fits its format.
use Rattle.std.proofs.Common.{◌≡◌, ℕ, ◌+◌, ◌*◌, ◌<◌, ◌≤◌, List, [], ◌∷◌, ◌++◌, length, Bool, true, false, refl, arith}
use Rattle.std.specs.Prelude.{◌&&◌, nat_eq}
use Rattle.std.specs.Int.{w32, cast_unsigned}
use Rattle.std.specs.List.{AllByRecursion as Each}
use Rattle.std.proofs.lemmas.Bool.{ltb-true}
use Rattle.tu_base.specs.Kind.{kind_number}
use Rattle.rv_isa.specs.declared.instr.Instr.{Instr}
use Rattle.rv_isa.specs.declared.instr.Instr.TheVariants.{Jalr, Load as LoadInto, Store as StoreFrom, Branch as BranchIf, Register}
use Rattle.rv_isa.specs.declared.instr.Relation.TheVariants.{Less, GreaterOrEqualUnsigned}
use Rattle.rv_isa.specs.declared.instr.StoreKind.TheVariants.{Word as whole_word}
use Rattle.rv_isa.specs.declared.instr.RegisterOp.TheVariants.{Sub}
use Rattle.rv_isa.specs.declared.service.Service.{Service}
use Rattle.rv_isa.specs.declared.service.Service.TheVariants.{End, Stop, PutConsole, GetConsole, Open, Close, PutStream, GetStream, State}
use Rattle.rv_isa.specs.Encoding.{Fits, IsUpper, IsSigned}
use Rattle.ir_form.specs.declared.op.Range.{Range}
use Rattle.ir_form.specs.declared.plain.Plain.{Plain as PlainOp}
use Rattle.ir_form.specs.declared.plain.Plain.TheVariants.{Constant, Global, Heap, Frame, Text, Compute, Load, Store, Ask, Call, Raise, Throw, Take, Give}
use Rattle.ir_form.specs.Plain.{storage}
use Rattle.ir_form.specs.Values.{asked}
use Rattle.ir_form.specs.Units.{Head}
use Rattle.rv_flat.specs.declared.linear.Instruction.{Instruction}
use Rattle.rv_flat.specs.declared.linear.Instruction.TheVariants.{Plain, Guarded, Open as Opens, Branch, Within, Hand, Jump, Label, Back}
use Rattle.rv_flat.specs.declared.linear.LinearRoutine.{LinearRoutine}
use Rattle.rv_flat.specs.declared.linear.Linear.{Linear}
use Rattle.rv_flat.specs.Units.{head_of}
use Rattle.rv_runs.specs.Stands.{AllFit}
use Rattle.rv_runs.proofs.Places.{fit_both}
use Rattle.rv_layout.specs.Pieces.{upper, lower, minus, copy, is_near, long, constant_by, constant, far_from, load_by, load_word, store_by, store_word, address_by, address_word, go_to, call_to, ask, stopping, raising}
use Rattle.rv_layout.specs.Rooms.{cut, room_bytes, slot, head_at, load_value, store_value}
use Rattle.rv_layout.specs.Moves.{Move, Copy, Swap, moves, are_near, is_mixed, copy_words, swap_words, move_words, handing}
use Rattle.rv_layout.specs.Calling.{tests_room, takes_room, entering_by, entering, passing, taking_each, receiving, calling, giving_each, returning, takes_words, taking, handing_back, opening, entering_length}
use Rattle.rv_layout.specs.Words.{Addresses, service_number, load_kind, store_kind, load_each, asking, plain_words, within, instruction_words, code_words, far_jump}
use Rattle.rv_text.specs.Lengths.{routine_length}
use Rattle.rv_text.specs.Text.{addresses, exit_at, entry_at, label_at, routine_words, routines_words, around, routines_at, all_words}
use Rattle.rv_layout.proofs.Access.{both}
use Rattle.rv_layout.proofs.Flow.{kind_in_range}
use Rattle.rv_layout.proofs.Moving.{Names, named}

pub upper_fits : (w : ℕ) → IsUpper (upper w)
upper_fits w = (omega arith, omega arith)

pub lower_fits : (w : ℕ) → IsSigned 2048 (lower w)
lower_fits w = (omega arith, omega arith)

pub near_fits : (o : ℕ) → o < 2048 → IsSigned 2048 o
near_fits o h = (omega arith, omega arith)

-- the short sequences
far_fits : (base o : ℕ) → base < 32 → AllFit (far_from base o)
far_fits base o b = let u = upper_fits o in ((omega arith, u), ((omega arith, omega arith, b), tt))

load_by_fits : (near : Bool) (to base o : ℕ) → (near ≡ true → o < 2048) → to < 32 → base < 32 → AllFit (load_by near to base o)
load_by_fits true to base o h t b = ((t, b, near_fits o (h refl)), tt)
load_by_fits false to base o h t b = let f = far_fits base o b in (f.0, (f.1.0, ((t, omega arith, lower_fits o), tt)))

store_by_fits : (near : Bool) (from base o : ℕ) → (near ≡ true → o < 2048) → from < 32 → base < 32 → AllFit (store_by near from base o)
store_by_fits true from base o h t b = ((b, t, near_fits o (h refl)), tt)
store_by_fits false from base o h t b = let f = far_fits base o b in (f.0, (f.1.0, ((omega arith, t, lower_fits o), tt)))

address_by_fits : (near : Bool) (to base o : ℕ) → (near ≡ true → o < 2048) → to < 32 → base < 32 → AllFit (address_by near to base o)
address_by_fits true to base o h t b = ((t, b, near_fits o (h refl)), tt)
address_by_fits false to base o h t b = let f = far_fits base o b in (f.0, (f.1.0, ((t, omega arith, lower_fits o), tt)))

long_fits : (to w : ℕ) → to < 32 → AllFit (long to w)
long_fits to w t = ((t, upper_fits w), ((t, t, lower_fits w), tt))

constant_by_fits : (near : Bool) (to w : ℕ) → (near ≡ true → w < 2048) → to < 32 → AllFit (constant_by near to w)
constant_by_fits true to w h t = ((t, omega arith, near_fits w (h refl)), tt)
constant_by_fits false to w h t = long_fits to w t

is_below : (o : ℕ) → is_near o ≡ true → o < 2048
is_below o h = ltb-true o 2048 h

load_fits : (to base o : ℕ) → to < 32 → base < 32 → AllFit (load_word to base o)
load_fits to base o t b = load_by_fits (is_near o) to base o (is_below o) t b

store_fits : (from base o : ℕ) → from < 32 → base < 32 → AllFit (store_word from base o)
store_fits from base o t b = store_by_fits (is_near o) from base o (is_below o) t b

constant_fits : (to w : ℕ) → to < 32 → AllFit (constant to w)
constant_fits to w t = constant_by_fits (is_near w) to w (is_below w) t

go_to_fits : (a : ℕ) → AllFit (go_to a)
go_to_fits a = ((omega arith, upper_fits a), ((omega arith, omega arith, lower_fits a), tt))

call_to_fits : (a : ℕ) → AllFit (call_to a)
call_to_fits a = ((omega arith, upper_fits a), ((omega arith, omega arith, lower_fits a), tt))

ask_fits : (n : ℕ) → n < 2048 → AllFit (ask n)
ask_fits n h = ((omega arith, omega arith, near_fits n h), (tt, tt))

raising_fits : (kind line : ℕ) → kind < 2048 → AllFit (raising kind line)
raising_fits kind line h = ((omega arith, omega arith, near_fits kind h), fit_both (long 11 line) (ask 1) (long_fits 11 line (omega arith)) (ask_fits 1 (omega arith)))

load_value_fits : (h : Head) (to v : ℕ) → to < 32 → AllFit (load_value h to v)
load_value_fits h to v t = load_fits to 2 (slot h v) t (omega arith)

store_value_fits : (h : Head) (from v : ℕ) → from < 32 → AllFit (store_value h from v)
store_value_fits h from v t = store_fits from 2 (slot h v) t (omega arith)

takes_words_fit : AllFit takes_words
takes_words_fit = search arith

takes_room_fit : AllFit takes_room
takes_room_fit = search arith

-- calls and returns
entering_by_fits : (flat : Bool) (h : Head) → AllFit (entering_by flat h)
entering_by_fits true h =
    fit_both (tests_room h) takes_room
    ((omega arith, omega arith, omega arith), fit_both (constant 6 (room_bytes h)) (BranchIf GreaterOrEqualUnsigned 5 6 8 ∷ Jalr 0 8 0 ∷ []) (constant_fits 6 (room_bytes h) (omega arith)) (search arith))
    takes_room_fit
entering_by_fits false h = fit_both (constant 6 (room_bytes h)) takes_room (constant_fits 6 (room_bytes h) (omega arith)) takes_room_fit

entering_fits : (h : Head) → AllFit (entering h)
entering_fits h = entering_by_fits (nat_eq h.depth 0) h

passing_fits : (caller callee : Head) (to arguments : List ℕ) → AllFit (passing caller callee to arguments)
passing_fits caller callee [] arguments = tt
passing_fits caller callee (t ∷ ts) [] = tt
passing_fits caller callee (t ∷ ts) (x ∷ xs) =
    fit_both (load_value caller 5 x) _ (load_value_fits caller 5 x (omega arith))
    (fit_both (store_word 5 1 (slot callee t)) _ (store_fits 5 1 (slot callee t) (omega arith) (omega arith)) (passing_fits caller callee ts xs))

jump_fits : Fits (Jalr 8 8 0)
jump_fits = search arith

taking_each_fits : (h : Head) (to : List ℕ) → AllFit (taking_each h to)
taking_each_fits h [] = search arith
taking_each_fits h (t ∷ ts) = fit_both (store_word 5 9 (slot h t)) _ (store_fits 5 9 (slot h t) (omega arith) (omega arith)) (jump_fits, taking_each_fits h ts)

receiving_fits : (h : Head) (to : List ℕ) → AllFit (receiving h to)
receiving_fits h to = ((omega arith, omega arith, (omega arith, omega arith)), taking_each_fits h to)

giving_each_fits : (h : Head) (values : List ℕ) → AllFit (giving_each h values)
giving_each_fits h [] = search arith
giving_each_fits h (v ∷ vs) = fit_both (load_value h 5 v) _ (load_value_fits h 5 v (omega arith)) (jump_fits, giving_each_fits h vs)

calling_fits : (entry : ℕ) (caller callee : Head) (arguments to : List ℕ) (line : ℕ) → AllFit (calling entry caller callee arguments to line)
calling_fits entry caller callee arguments to line =
    let ends : List Instr = Jalr 8 8 0 ∷ receiving caller to in
    let puts : List Instr = passing caller callee callee.parameters arguments ++ ends in
    let ends_fit : AllFit ends = (jump_fits, receiving_fits caller to) in
    fit_both (call_to entry) (raising storage line ++ puts) (call_to_fits entry)
    (fit_both (raising storage line) puts (raising_fits storage line (omega arith))
    (fit_both (passing caller callee callee.parameters arguments) ends (passing_fits caller callee callee.parameters arguments) ends_fit))

returning_fits : (h : Head) (values : List ℕ) → AllFit (returning h values)
returning_fits h values =
    fit_both (constant 1 (room_bytes h)) _ (constant_fits 1 (room_bytes h) (omega arith))
    ((omega arith, omega arith, omega arith), ((omega arith, omega arith, (omega arith, omega arith)), giving_each_fits h values))

taking_fits : (shared : ℕ) (h : Head) (to words line : ℕ) → AllFit (taking shared h to words line)
taking_fits shared h to words line =
    let ends : List Instr = raising storage line ++ store_value h 1 to in
    fit_both (load_value h 5 words) (call_to shared ++ ends) (load_value_fits h 5 words (omega arith))
    (fit_both (call_to shared) ends (call_to_fits shared) (fit_both (raising storage line) (store_value h 1 to) (raising_fits storage line (omega arith)) (store_value_fits h 1 to (omega arith))))

handing_back_fits : (h : Head) (words : ℕ) → AllFit (handing_back h words)
handing_back_fits h words = fit_both (load_value h 5 words) _ (load_value_fits h 5 words (omega arith)) (search arith)

opening_fits : (room exit first : ℕ) → AllFit (opening room exit first)
opening_fits room exit first =
    let ends : List Instr = StoreFrom whole_word 2 8 (minus 4) ∷ copy 2 1 ∷ go_to first in
    let ends_fit : AllFit ends = ((omega arith, omega arith, (omega arith, omega arith)), ((omega arith, omega arith, (omega arith, omega arith)), go_to_fits first)) in
    let link : List Instr = long 8 exit ++ ends in
    let rest : List Instr = Register Sub 1 2 6 ∷ link in
    let rest_fit : AllFit rest = ((omega arith, omega arith, omega arith), fit_both (long 8 exit) ends (long_fits 8 exit (omega arith)) ends_fit) in
    let all : AllFit (long 6 room ++ rest) = fit_both (long 6 room) rest (long_fits 6 room (omega arith)) rest_fit in
    ((omega arith, (omega arith, omega arith)), ((omega arith, omega arith, omega arith), all))

-- a service asks for at most three values, in registers from 10 on
load_each_fits : (h : Head) (to : ℕ) (values : List ℕ) → to + length values ≤ 32 → AllFit (load_each h to values)
load_each_fits h to [] le = tt
load_each_fits h to (v ∷ vs) le = fit_both (load_value h to v) (load_each h (to + 1) vs) (load_value_fits h to v (omega arith)) (load_each_fits h (to + 1) vs (omega arith))

pub few_asked : (s : Service) → (length (asked s) ≤ 3) × (service_number s < 9)
few_asked End = (omega arith, omega arith)
few_asked (Stop kind line) = (omega arith, omega arith)
few_asked (PutConsole at size) = (omega arith, omega arith)
few_asked GetConsole = (omega arith, omega arith)
few_asked (Open at size mode) = (omega arith, omega arith)
few_asked (Close stream) = (omega arith, omega arith)
few_asked (PutStream stream at size) = (omega arith, omega arith)
few_asked (GetStream stream) = (omega arith, omega arith)
few_asked (State stream) = (omega arith, omega arith)

asking_fits : (h : Head) (to : ℕ) (s : Service) → AllFit (asking h to s)
asking_fits h to s =
    let n = few_asked s in
    let few = n.0 in
    let low = n.1 in
    fit_both (load_each h 10 (asked s)) (ask (service_number s) ++ store_value h 10 to) (load_each_fits h 10 (asked s) (omega arith))
    (fit_both (ask (service_number s)) (store_value h 10 to) (ask_fits (service_number s) (omega arith)) (store_value_fits h 10 to (omega arith)))

-- the accesses of a hand-over are near only where all its values are
abbrev IsNearBy : Head → Bool → ℕ → Type 0
IsNearBy h near v = near ≡ true → slot h v < 2048

copy_fits : (h : Head) (near mixed : Bool) (t f : ℕ) → IsNearBy h near t → IsNearBy h near f → AllFit (copy_words near mixed (slot h t) (slot h f))
copy_fits h near false t f p q =
    fit_both (load_by near 5 2 (slot h f)) (store_by near 5 2 (slot h t)) (load_by_fits near 5 2 (slot h f) q (omega arith) (omega arith)) (store_by_fits near 5 2 (slot h t) p (omega arith) (omega arith))
copy_fits h near true t f p q =
    let s2 : List Instr = store_by near 5 2 (slot h t) ++ store_by near 5 2 (slot h f) in
    fit_both (load_by near 5 2 (slot h f)) (load_by near 6 2 (slot h t) ++ s2) (load_by_fits near 5 2 (slot h f) q (omega arith) (omega arith))
    (fit_both (load_by near 6 2 (slot h t)) s2 (load_by_fits near 6 2 (slot h t) p (omega arith) (omega arith))
    (fit_both (store_by near 5 2 (slot h t)) (store_by near 5 2 (slot h f)) (store_by_fits near 5 2 (slot h t) p (omega arith) (omega arith)) (store_by_fits near 5 2 (slot h f) q (omega arith) (omega arith))))

swap_fits : (h : Head) (near : Bool) (t f : ℕ) → IsNearBy h near t → IsNearBy h near f → AllFit (swap_words near (slot h t) (slot h f))
swap_fits h near t f p q =
    let s2 : List Instr = store_by near 5 2 (slot h t) ++ store_by near 6 2 (slot h f) in
    fit_both (load_by near 5 2 (slot h f)) (load_by near 6 2 (slot h t) ++ s2) (load_by_fits near 5 2 (slot h f) q (omega arith) (omega arith))
    (fit_both (load_by near 6 2 (slot h t)) s2 (load_by_fits near 6 2 (slot h t) p (omega arith) (omega arith))
    (fit_both (store_by near 5 2 (slot h t)) (store_by near 6 2 (slot h f)) (store_by_fits near 5 2 (slot h t) p (omega arith) (omega arith)) (store_by_fits near 6 2 (slot h f) q (omega arith) (omega arith))))

moves_fit : (h : Head) (near mixed : Bool) (ms : List Move) → Names (IsNearBy h near) ms → AllFit (move_words h near mixed ms)
moves_fit h near mixed [] n = tt
moves_fit h near mixed (Copy t f ∷ ms) n = fit_both (copy_words near mixed (slot h t) (slot h f)) (move_words h near mixed ms) (copy_fits h near mixed t f n.0 n.1) (moves_fit h near mixed ms n.2)
moves_fit h near mixed (Swap t f ∷ ms) n = fit_both (swap_words near (slot h t) (slot h f)) (move_words h near mixed ms) (swap_fits h near t f n.0 n.1) (moves_fit h near mixed ms n.2)

-- whatever holds of near values where both tests say so
all_near : (h : Head) (near : Bool) (vs : List ℕ) → (near ≡ true → are_near h vs ≡ true) → Each (IsNearBy h near) vs
all_near h near [] e = tt
all_near h near (v ∷ vs) e = (λ p. is_below (slot h v) (both (is_near (slot h v)) (are_near h vs) (e p)).0, all_near h near vs (λ p. (both (is_near (slot h v)) (are_near h vs) (e p)).1))

handing_fits : (h : Head) (to from : List ℕ) → AllFit (handing h to from)
handing_fits h to from =
    let near : Bool = are_near h to && are_near h from in
    let n = named (IsNearBy h near) to from (all_near h near to (λ p. (both (are_near h to) (are_near h from) p).0)) (all_near h near from (λ p. (both (are_near h to) (are_near h from) p).1)) in
    ((omega arith, omega arith, (omega arith, omega arith)), moves_fit h near (is_mixed to from) (moves to from) n)

plain_fits : (a : Addresses) (rs : List LinearRoutine) (h : Head) (p : PlainOp) → AllFit (plain_words a rs h p)
plain_fits a rs h (Constant to word) = fit_both (constant 5 word) (store_value h 5 to) (constant_fits 5 word (omega arith)) (store_value_fits h 5 to (omega arith))
plain_fits a rs h (Global to word) = fit_both (long 5 (a.globals + 4 * word)) (store_value h 5 to) (long_fits 5 (a.globals + 4 * word) (omega arith)) (store_value_fits h 5 to (omega arith))
plain_fits a rs h (Heap to) = store_value_fits h 4 to (omega arith)
plain_fits a rs h (Frame to word) =
    fit_both (address_word 5 2 (4 * cut word)) (store_value h 5 to) (address_by_fits (is_near (4 * cut word)) 5 2 (4 * cut word) (is_below (4 * cut word)) (omega arith) (omega arith)) (store_value_fits h 5 to (omega arith))
plain_fits a rs h (Text to byte) = fit_both (long 5 (a.texts + byte)) (store_value h 5 to) (long_fits 5 (a.texts + byte) (omega arith)) (store_value_fits h 5 to (omega arith))
plain_fits a rs h (Compute to op left right) =
    let ends : List Instr = Register op 5 5 6 ∷ store_value h 5 to in
    let ends_fit : AllFit ends = ((omega arith, omega arith, omega arith), store_value_fits h 5 to (omega arith)) in
    fit_both (load_value h 5 left) (load_value h 6 right ++ ends) (load_value_fits h 5 left (omega arith)) (fit_both (load_value h 6 right) ends (load_value_fits h 6 right (omega arith)) ends_fit)
plain_fits a rs h (Load to width at) =
    let ends : List Instr = LoadInto (load_kind width) 5 5 0 ∷ store_value h 5 to in
    let ends_fit : AllFit ends = ((omega arith, omega arith, (omega arith, omega arith)), store_value_fits h 5 to (omega arith)) in
    fit_both (load_value h 5 at) ends (load_value_fits h 5 at (omega arith)) ends_fit
plain_fits a rs h (Store width at from) =
    let ends : List Instr = StoreFrom (store_kind width) 5 6 0 ∷ [] in
    let ends_fit : AllFit ends = ((omega arith, omega arith, (omega arith, omega arith)), tt) in
    fit_both (load_value h 5 at) (load_value h 6 from ++ ends) (load_value_fits h 5 at (omega arith)) (fit_both (load_value h 6 from) ends (load_value_fits h 6 from (omega arith)) ends_fit)
plain_fits a rs h (Ask to service) = asking_fits h to service
plain_fits a rs h (Call routine arguments to line) = calling_fits (a.entry routine) h (head_at rs routine) arguments to line
plain_fits a rs h (Raise kind line) = let k = kind_in_range kind in let high = k.1 in raising_fits (kind_number kind) line (omega arith)
plain_fits a rs h (Throw kind line) =
    fit_both (load_value h 10 kind) (load_value h 11 line ++ stopping) (load_value_fits h 10 kind (omega arith)) (fit_both (load_value h 11 line) stopping (load_value_fits h 11 line (omega arith)) (ask_fits 1 (omega arith)))
plain_fits a rs h (Take to words line) = taking_fits a.shared h to words line
plain_fits a rs h (Give words) = handing_back_fits h words

within_fits : (h : Head) (value : ℕ) (range : Range) (place : ℕ) → AllFit (within h value range (go_to place))
within_fits h value range place =
    let high : List Instr = BranchIf Less 6 5 12 ∷ go_to place in
    let high_fit : AllFit high = ((omega arith, omega arith, (omega arith, omega arith), refl), go_to_fits place) in
    let u : ℕ = cast_unsigned w32 range.high in
    let low : List Instr = BranchIf Less 5 6 24 ∷ (long 6 u ++ high) in
    let low_fit : AllFit low = ((omega arith, omega arith, (omega arith, omega arith), refl), fit_both (long 6 u) high (long_fits 6 u (omega arith)) high_fit) in
    let v : ℕ = cast_unsigned w32 range.low in
    fit_both (load_value h 5 value) (long 6 v ++ low) (load_value_fits h 5 value (omega arith)) (fit_both (long 6 v) low (long_fits 6 v (omega arith)) low_fit)

pub instruction_fits : (a : Addresses) (rs : List LinearRoutine) (h : Head) (f : ℕ → ℕ) (x : Instruction) → AllFit (instruction_words a rs h (far_jump f) x)
instruction_fits a rs h f (Plain p) = plain_fits a rs h p
instruction_fits a rs h f (Guarded p handler) = plain_fits a rs h p
instruction_fits a rs h f (Opens mark) = tt
instruction_fits a rs h f (Branch relation left right label) =
    let ends : List Instr = BranchIf relation 5 6 12 ∷ go_to (f label) in
    let ends_fit : AllFit ends = ((omega arith, omega arith, (omega arith, omega arith), refl), go_to_fits (f label)) in
    fit_both (load_value h 5 left) (load_value h 6 right ++ ends) (load_value_fits h 5 left (omega arith)) (fit_both (load_value h 6 right) ends (load_value_fits h 6 right (omega arith)) ends_fit)
instruction_fits a rs h f (Within value range label) = within_fits h value range (f label)
instruction_fits a rs h f (Hand to from) = handing_fits h to from
instruction_fits a rs h f (Jump label) = go_to_fits (f label)
instruction_fits a rs h f (Label label marked) = ((omega arith, omega arith, (omega arith, omega arith)), tt)
instruction_fits a rs h f (Back values) = returning_fits h values

code_fits : (a : Addresses) (rs : List LinearRoutine) (h : Head) (f : ℕ → ℕ) (code : List Instruction) → AllFit (code_words a rs h (far_jump f) code)
code_fits a rs h f [] = tt
code_fits a rs h f (x ∷ xs) = fit_both (instruction_words a rs h (far_jump f) x) (code_words a rs h (far_jump f) xs) (instruction_fits a rs h f x) (code_fits a rs h f xs)

routines_fit : (a : Addresses) (rs : List LinearRoutine) (start : ℕ) (more : List LinearRoutine) → AllFit (routines_words a rs start more)
routines_fit a rs start [] = tt
routines_fit a rs start (r ∷ more) =
    fit_both (routine_words a rs start r) (routines_words a rs (start + 4 * routine_length rs r) more)
    (fit_both (entering (head_of r)) (code_words a rs (head_of r) (far_jump (label_at rs start r)) r.code) (entering_fits (head_of r)) (code_fits a rs (head_of r) (label_at rs start r) r.code))
    (routines_fit a rs (start + 4 * routine_length rs r) more)

around_fits : (l : Linear) → AllFit (around l)
around_fits l =
    let first : ℕ = entry_at l.routines l.main + 4 * entering_length (head_at l.routines l.main) in
    let room : ℕ = room_bytes (head_at l.routines l.main) in
    fit_both (opening room exit_at first) (ask 0 ++ takes_words) (opening_fits room exit_at first) (fit_both (ask 0) takes_words (ask_fits 0 (omega arith)) takes_words_fit)

-- with no premise
pub all_words_fit : (l : Linear) → AllFit (all_words l)
all_words_fit l = fit_both (around l) (routines_words (addresses l) l.routines routines_at l.routines) (around_fits l) (routines_fit (addresses l) l.routines routines_at l.routines)
