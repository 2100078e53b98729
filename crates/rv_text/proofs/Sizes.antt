-- How many words instructions take, wherever they lie.
use Rattle.std.proofs.Common.{◌≡◌, ℕ, suc, ◌+◌, ◌*◌, min, List, [], ◌∷◌, ◌++◌, length, length-append, Bool, true, false, refl, arith, ap, ◌∙◌}
use Rattle.std.specs.Prelude.{◌&&◌, if◌then◌else◌, nat_eq, map}
use Rattle.std.specs.List.{list_any}
use Rattle.rv_isa.specs.declared.instr.Instr.{Instr}
use Rattle.rv_isa.specs.declared.instr.Instr.TheVariants.{Jalr}
use Rattle.ir_form.specs.declared.plain.Plain.{Plain as PlainOp}
use Rattle.ir_form.specs.declared.plain.Plain.TheVariants.{Constant, Global, Heap, Frame, Text, Compute, Load, Store, Ask, Call, Raise, Throw, Take, Give}
use Rattle.ir_form.specs.Units.{Head}
use Rattle.rv_flat.specs.declared.linear.Instruction.{Instruction}
use Rattle.rv_flat.specs.declared.linear.Instruction.TheVariants.{Plain, Guarded, Open as Opens, Branch, Within, Hand, Jump, Label, Back}
use Rattle.rv_flat.specs.declared.linear.LinearRoutine.{LinearRoutine}
use Rattle.rv_flat.specs.Units.{head_of}
use Rattle.rv_layout.specs.Pieces.{is_near, constant_by, constant, load_by, load_word, store_by, store_word, address_by, address_word, constant_length, reach}
use Rattle.rv_layout.specs.Rooms.{room_bytes, slot, head_at, load_value}
use Rattle.rv_layout.specs.Moves.{Move, Copy, Swap, is_among, exchanged, moves, are_near, is_mixed, move_words, handing, handing_length}
use Rattle.rv_layout.specs.Calling.{entering_by, entering, passing, taking_each, receiving, calling, giving_each, returning, entering_length, passing_length, each_length, calling_length, returning_length}
use Rattle.rv_layout.specs.Words.{Addresses, load_each, plain_words, instruction_words, code_words, far_jump}
use Rattle.rv_text.specs.Lengths.{load_length, plain_length, instruction_length, code_length, routine_length, routines_length}
use Rattle.rv_text.specs.Text.{label_at, routine_words, routines_words}
use Rattle.rv_layout.proofs.Moving.{either, length_map}

abbrev two_lists : (xs ys : List Instr) → length (xs ++ ys) ≡ length xs + length ys
two_lists xs ys = length-append xs ys

load_by_size : (near : Bool) (to base o : ℕ) → length (load_by near to base o) ≡ (if near then 1 else 3)
load_by_size true to base o = refl
load_by_size false to base o = refl

store_by_size : (near : Bool) (from base o : ℕ) → length (store_by near from base o) ≡ (if near then 1 else 3)
store_by_size true from base o = refl
store_by_size false from base o = refl

address_by_size : (near : Bool) (to base o : ℕ) → length (address_by near to base o) ≡ (if near then 1 else 3)
address_by_size true to base o = refl
address_by_size false to base o = refl

constant_by_size : (near : Bool) (to w : ℕ) → length (constant_by near to w) ≡ (if near then 1 else 2)
constant_by_size true to w = refl
constant_by_size false to w = refl

pub load_size : (to base o : ℕ) → length (load_word to base o) ≡ reach o
load_size to base o = load_by_size (is_near o) to base o

pub store_size : (from base o : ℕ) → length (store_word from base o) ≡ reach o
store_size from base o = store_by_size (is_near o) from base o

pub address_size : (to base o : ℕ) → length (address_word to base o) ≡ reach o
address_size to base o = address_by_size (is_near o) to base o

pub constant_size : (to w : ℕ) → length (constant to w) ≡ constant_length w
constant_size to w = constant_by_size (is_near w) to w

-- calls and returns
entering_by_size : (flat : Bool) (h : Head) → length (entering_by flat h) ≡ (if flat then 9 else 6) + constant_length (room_bytes h)
entering_by_size true h = simp (length-append {A = Instr}, constant_size) (omega arith)
entering_by_size false h = simp (length-append {A = Instr}, constant_size) (omega arith)

pub entering_size : (h : Head) → length (entering h) ≡ entering_length h
entering_size h = entering_by_size (nat_eq h.depth 0) h

pub passing_size : (caller callee : Head) (to arguments : List ℕ) → length (passing caller callee to arguments) ≡ passing_length caller callee to arguments
passing_size caller callee [] arguments = refl
passing_size caller callee (t ∷ ts) [] = refl
passing_size caller callee (t ∷ ts) (x ∷ xs) =
    let a = two_lists (load_value caller 5 x) (store_word 5 1 (slot callee t) ++ passing caller callee ts xs) in
    let b = two_lists (store_word 5 1 (slot callee t)) (passing caller callee ts xs) in
    let c = load_size 5 2 (slot caller x) in
    let d = store_size 5 1 (slot callee t) in
    let e = passing_size caller callee ts xs in
    omega arith

taking_each_size : (h : Head) (to : List ℕ) → length (taking_each h to) ≡ each_length h to + 1
taking_each_size h [] = refl
taking_each_size h (t ∷ ts) =
    let a = two_lists (store_word 5 9 (slot h t)) (Jalr 8 8 0 ∷ taking_each h ts) in
    let b = store_size 5 9 (slot h t) in
    let c = taking_each_size h ts in
    omega arith

pub receiving_size : (h : Head) (to : List ℕ) → length (receiving h to) ≡ each_length h to + 2
receiving_size h to = let a = taking_each_size h to in omega arith

giving_each_size : (h : Head) (values : List ℕ) → length (giving_each h values) ≡ each_length h values + 1
giving_each_size h [] = refl
giving_each_size h (v ∷ vs) =
    let a = two_lists (load_value h 5 v) (Jalr 8 8 0 ∷ giving_each h vs) in
    let b = load_size 5 2 (slot h v) in
    let c = giving_each_size h vs in
    omega arith

calling_size : (entry : ℕ) (caller callee : Head) (arguments to : List ℕ) (line : ℕ) → length (calling entry caller callee arguments to line) ≡ calling_length caller callee arguments to
calling_size entry caller callee arguments to line =
    let a = two_lists (passing caller callee callee.parameters arguments) (Jalr 8 8 0 ∷ receiving caller to) in
    let b = passing_size caller callee callee.parameters arguments in
    let c = receiving_size caller to in
    omega arith

returning_size : (h : Head) (values : List ℕ) → length (returning h values) ≡ returning_length h values
returning_size h values =
    let a = constant_size 1 (room_bytes h) in
    let b = giving_each_size h values in
    simp (length-append {A = Instr}, constant_size) (omega arith)

-- a service, and a hand-over
load_each_size : (h : Head) (to : ℕ) (values : List ℕ) → length (load_each h to values) ≡ load_length h values
load_each_size h to [] = refl
load_each_size h to (v ∷ vs) =
    let a = two_lists (load_value h to v) (load_each h (to + 1) vs) in
    let b = load_size to 2 (slot h v) in
    let c = load_each_size h (to + 1) vs in
    omega arith

moves_at : (t f : ℕ) (ts fs : List ℕ) (b : Bool) → ((gs : List ℕ) → length (moves ts gs) ≡ min (length ts) (length gs)) →
    length (if b then Swap t f ∷ moves ts (map (exchanged t f) fs) else moves ts fs ++ Copy t f ∷ []) ≡ min (suc (length ts)) (suc (length fs))
moves_at t f ts fs true ih = let e = length_map (exchanged t f) fs in let c = ih (map (exchanged t f) fs) in omega arith
moves_at t f ts fs false ih = let e = length-append (moves ts fs) (Copy t f ∷ []) in let c = ih fs in omega arith

moves_size : (to from : List ℕ) → length (moves to from) ≡ min (length to) (length from)
moves_size [] from = omega arith
moves_size (t ∷ ts) [] = omega arith
moves_size (t ∷ ts) (f ∷ fs) = moves_at t f ts fs (is_among ts f) (λ gs. moves_size ts gs)

-- where values are mixed, each move has four accesses
mixed_size : (h : Head) (near : Bool) (ms : List Move) → length (move_words h near true ms) ≡ (if near then 1 else 3) * (4 * length ms)
mixed_size h true [] = refl
mixed_size h false [] = refl
mixed_size h true (Copy t f ∷ ms) = let e = mixed_size h true ms in omega arith
mixed_size h false (Copy t f ∷ ms) = let e = mixed_size h false ms in omega arith
mixed_size h true (Swap t f ∷ ms) = let e = mixed_size h true ms in omega arith
mixed_size h false (Swap t f ∷ ms) = let e = mixed_size h false ms in omega arith

-- and elsewhere all are copies, with two
abbrev OnlyCopies : List Move → Type 0
OnlyCopies [] = Unit {0}
OnlyCopies (Copy t f ∷ ms) = OnlyCopies ms
OnlyCopies (Swap t f ∷ ms) = ⊥

only_last : (ms : List Move) (t f : ℕ) → OnlyCopies ms → OnlyCopies (ms ++ Copy t f ∷ [])
only_last [] t f h = tt
only_last (Copy a b ∷ ms) t f h = only_last ms t f h
only_last (Swap a b ∷ ms) t f h = absurd h

any_less : (t : ℕ) (ts fs : List ℕ) → list_any (is_among (t ∷ ts)) fs ≡ false → list_any (is_among ts) fs ≡ false
any_less t ts [] e = refl
any_less t ts (f ∷ fs) e =
    let o = either (is_among (t ∷ ts) f) (list_any (is_among (t ∷ ts)) fs) e in
    let p = either (nat_eq f t) (is_among ts f) o.0 in
    rw (p.1, any_less t ts fs o.1) refl

only_at : (t f : ℕ) (ts fs : List ℕ) (b : Bool) → b ≡ false → OnlyCopies (moves ts fs) → OnlyCopies (if b then Swap t f ∷ moves ts (map (exchanged t f) fs) else moves ts fs ++ Copy t f ∷ [])
only_at t f ts fs true e h = absurd (cc)
only_at t f ts fs false e h = only_last (moves ts fs) t f h

only_copies : (to from : List ℕ) → is_mixed to from ≡ false → OnlyCopies (moves to from)
only_copies [] from e = tt
only_copies (t ∷ ts) [] e = tt
only_copies (t ∷ ts) (f ∷ fs) e =
    let o = either (is_among (t ∷ ts) f) (list_any (is_among (t ∷ ts)) fs) e in
    let p = either (nat_eq f t) (is_among ts f) o.0 in
    only_at t f ts fs (is_among ts f) p.1 (only_copies ts fs (any_less t ts fs o.1))

copies_size : (h : Head) (near : Bool) (ms : List Move) → OnlyCopies ms → length (move_words h near false ms) ≡ (if near then 1 else 3) * (2 * length ms)
copies_size h true [] c = refl
copies_size h false [] c = refl
copies_size h true (Copy t f ∷ ms) c = let e = copies_size h true ms c in omega arith
copies_size h false (Copy t f ∷ ms) c = let e = copies_size h false ms c in omega arith
copies_size h near (Swap t f ∷ ms) c = absurd c

hand_by : (h : Head) (to from : List ℕ) (near mixed : Bool) → is_mixed to from ≡ mixed → length (move_words h near mixed (moves to from)) ≡ (if near then 1 else 3) * ((if mixed then 4 else 2) * min (length to) (length from))
hand_by h to from near true e = mixed_size h near (moves to from) ∙ ap (λ n. (if near then 1 else 3) * (4 * n)) (moves_size to from)
hand_by h to from near false e = copies_size h near (moves to from) (only_copies to from e) ∙ ap (λ n. (if near then 1 else 3) * (2 * n)) (moves_size to from)

pub handing_size : (h : Head) (to from : List ℕ) → length (handing h to from) ≡ handing_length h to from
handing_size h to from = let e = hand_by h to from (are_near h to && are_near h from) (is_mixed to from) refl in omega arith

-- each operation, and each instruction
pub plain_length_is : (a : Addresses) (rs : List LinearRoutine) (h : Head) (p : PlainOp) → length (plain_words a rs h p) ≡ plain_length rs h p
plain_length_is a rs h (Constant to word) = simp (length-append {A = Instr}, constant_size, store_size) refl
plain_length_is a rs h (Global to word) = simp (store_size) (omega arith)
plain_length_is a rs h (Heap to) = store_size 4 2 (slot h to)
plain_length_is a rs h (Frame to word) = simp (length-append {A = Instr}, address_size, store_size) refl
plain_length_is a rs h (Text to byte) = simp (store_size) (omega arith)
plain_length_is a rs h (Compute to op left right) = simp (length-append {A = Instr}, load_size, store_size) (omega arith)
plain_length_is a rs h (Load to width at) = simp (length-append {A = Instr}, load_size, store_size) (omega arith)
plain_length_is a rs h (Store width at from) = simp (length-append {A = Instr}, load_size) (omega arith)
plain_length_is a rs h (Ask to service) = simp (length-append {A = Instr}, load_each_size, store_size) (omega arith)
plain_length_is a rs h (Call routine arguments to line) = calling_size (a.entry routine) h (head_at rs routine) arguments to line
plain_length_is a rs h (Raise kind line) = refl
plain_length_is a rs h (Throw kind line) = simp (length-append {A = Instr}, load_size) (omega arith)
plain_length_is a rs h (Take to words line) = simp (length-append {A = Instr}, load_size, store_size) (omega arith)
plain_length_is a rs h (Give words) = simp (length-append {A = Instr}, load_size) (omega arith)

pub instruction_length_is : (a : Addresses) (rs : List LinearRoutine) (h : Head) (f : ℕ → ℕ) (x : Instruction) → length (instruction_words a rs h (far_jump f) x) ≡ instruction_length rs h x
instruction_length_is a rs h f (Plain p) = plain_length_is a rs h p
instruction_length_is a rs h f (Guarded p handler) = plain_length_is a rs h p
instruction_length_is a rs h f (Opens mark) = refl
instruction_length_is a rs h f (Branch relation left right label) = simp (length-append {A = Instr}, load_size) (omega arith)
instruction_length_is a rs h f (Within value range label) = simp (length-append {A = Instr}, load_size) (omega arith)
instruction_length_is a rs h f (Hand to from) = handing_size h to from
instruction_length_is a rs h f (Jump label) = refl
instruction_length_is a rs h f (Label label marked) = refl
instruction_length_is a rs h f (Back values) = returning_size h values

pub code_length_is : (a : Addresses) (rs : List LinearRoutine) (h : Head) (f : ℕ → ℕ) (code : List Instruction) → length (code_words a rs h (far_jump f) code) ≡ code_length rs h code
code_length_is a rs h f [] = refl
code_length_is a rs h f (x ∷ xs) = length-append (instruction_words a rs h (far_jump f) x) (code_words a rs h (far_jump f) xs) ∙ (let e = instruction_length_is a rs h f x in let d = code_length_is a rs h f xs in omega arith)

pub routine_length_is : (a : Addresses) (rs : List LinearRoutine) (start : ℕ) (r : LinearRoutine) → length (routine_words a rs start r) ≡ routine_length rs r
routine_length_is a rs start r =
    length-append (entering (head_of r)) (code_words a rs (head_of r) (far_jump (label_at rs start r)) r.code) ∙ (let e = entering_size (head_of r) in let d = code_length_is a rs (head_of r) (label_at rs start r) r.code in omega arith)

pub routines_length_is : (a : Addresses) (rs : List LinearRoutine) (start : ℕ) (more : List LinearRoutine) → length (routines_words a rs start more) ≡ routines_length rs more
routines_length_is a rs start [] = refl
routines_length_is a rs start (r ∷ more) =
    length-append (routine_words a rs start r) (routines_words a rs (start + 4 * routine_length rs r) more) ∙ (let e = routine_length_is a rs start r in let d = routines_length_is a rs (start + 4 * routine_length rs r) more in omega arith)
