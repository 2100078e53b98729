-- Branches, jumps, labels and exceptions run in lock step.
use Rattle.std.proofs.Common.{◌≡◌, ℕ, suc, ◌+◌, ◌*◌, ◌%◌, ◌^◌, ◌<◌, ◌≤◌, Bool, true, false, cond, leb, ℤ, pos, negsuc, List, [], ◌∷◌, ◌++◌, length, Some, refl, arith, ap, sym, ◌∙◌, subst}
use Rattle.std.specs.Prelude.{slice_get, ◌&&◌, not, int_lt, if◌then◌else◌}
use Rattle.std.specs.Int.{w32, cast_unsigned, cast_signed}
use Rattle.std.specs.Int.RustNames.{FitsSigned}
use Rattle.std.proofs.lemmas.Bool.{le-leb}
use Rattle.std.proofs.lemmas.Int.{to_z-of_z}
use Rattle.tu_base.specs.Kind.{kind_number}
use Rattle.tu_base.specs.declared.kind.Kind.{Kind}
use Rattle.tu_base.specs.declared.kind.Kind.TheVariants.{Overflow, Divide, Subscript, Range, Unset, Tag, Pointer, Overlap, StringSize, StringPlace, Case, Assert, Pre, Post, Invariant, Result, Input, EndOfInput, Stream, Bounds, Storage}
use Rattle.rv_isa.specs.declared.instr.Instr.{Instr}
use Rattle.rv_isa.specs.declared.instr.Instr.TheVariants.{Branch as BranchIf}
use Rattle.rv_isa.specs.declared.instr.ImmediateOp.TheVariants.{Addi}
use Rattle.rv_isa.specs.declared.instr.Relation.{Relation}
use Rattle.rv_isa.specs.declared.instr.Relation.TheVariants.{Less}
use Rattle.rv_isa.specs.declared.service.Service.TheVariants.{Stop}
use Rattle.rv_isa.specs.Arithmetic.{holds, signed_of}
use Rattle.rv_isa.specs.Memory.{Memory}
use Rattle.rv_isa.specs.Step.{Registers, with_any}
use Rattle.rv_image.specs.Streams.{World, StoppedBy, traced, kept}
use Rattle.ir_form.specs.declared.op.Range.{Range as Numbers}
use Rattle.ir_form.specs.declared.plain.Plain.{Plain as PlainOp}
use Rattle.ir_form.specs.declared.plain.Plain.TheVariants.{Raise, Throw}
use Rattle.ir_form.specs.Cost.{plain_price}
use Rattle.ir_form.specs.Plain.{does}
use Rattle.ir_form.specs.Place.{Setting}
use Rattle.ir_form.specs.State.{State, Stuck, raised, over}
use Rattle.ir_form.specs.Units.{Head}
use Rattle.rv_flat.specs.declared.linear.Instruction.{Instruction}
use Rattle.rv_flat.specs.declared.linear.Instruction.TheVariants.{Plain, Branch, Within, Jump, Label}
use Rattle.rv_flat.specs.declared.linear.LinearRoutine.{LinearRoutine}
use Rattle.rv_flat.specs.declared.linear.Linear.{Linear}
use Rattle.rv_flat.specs.Linear.{price}
use Rattle.rv_flat.specs.Units.{head_of}
use Rattle.rv_flat.specs.Flow.{place_of_label}
use Rattle.rv_frames.specs.Frames.{Caller, Running, executes, goes_on_run, no_calls, leaves, all_kept}
use Rattle.rv_runs.specs.Moments.{Ground, Moment, Live, Finished, Comes}
use Rattle.rv_runs.proofs.Comes.{done, widen, comes_then}
use Rattle.rv_runs.proofs.Places.{stands_left}
use Rattle.rv_runs.proofs.Steps.{cpu, nothing, immediate, branch, ask, asked_stop}
use Rattle.rv_layout.specs.Pieces.{small, long, stopping, raising}
use Rattle.rv_layout.specs.Words.{skip}
use Rattle.rv_layout.specs.Rooms.{head_at}
use Rattle.rv_layout.specs.Held.{Code, Layout, Laid, Arrived, lowest, Holds, Fast, LiveAt, Same, NoGuards}
use Rattle.rv_layout.proofs.Slots.{behind, after, long_then}
use Rattle.rv_layout.proofs.Stores.{below_unguarded}
use Rattle.rv_layout.proofs.Begins.{Sane, needed, wanted, value_then, begins, goes_on}

-- an exception that no guard takes leaves all activations
pub leaves_so : (g : Ground) (gs : Setting) (l : Linear) (y : Layout) (routine kind line : ℕ) (st : State) (callers : List Caller) (x : Moment) → NoGuards callers → x ≡ Finished (StoppedBy kind line) (all_kept st.world) → Same g gs l y (leaves routine kind line st callers) x
leaves_so g gs l y routine kind line st [] x none e = e
leaves_so g gs l y routine kind line st (f ∷ callers) x none e = (e, none)

pub stops : (g : Ground) (gs : Setting) (l : Linear) (y : Layout) (h : Head) (routine kind line : ℕ) (st : State) (m : Memory) (callers : List Caller) (lo hi : ℕ) (x : Moment) → Holds g gs l y h st callers m → Comes g lo hi x (λ z. z ≡ Finished (StoppedBy kind line) (all_kept st.world)) →
    Comes g lo hi x (Same g gs l y (leaves routine kind line st callers))
stops g gs l y h routine kind line st m callers lo hi x me c = record {
  count = c.count;
  low = c.low;
  high = c.high;
  there = leaves_so g gs l y routine kind line st callers _ (below_unguarded g gs l y m h st.frame callers me.below) c.there;
}

-- the program is stopped by an exception whose number and line are in registers
stop_then : (g : Ground) (kind line : ℕ) (q : Registers) (m : Memory) (pc to : ℕ) (w : World) → (leb 1 kind && leb kind 21) ≡ true → q 0 ≡ 0 → q 10 ≡ kind → q 11 ≡ line → Code g.space pc stopping to →
    Comes g 2 2 (Live (cpu q m pc) w) (λ x. x ≡ Finished (StoppedBy kind line) (traced w (kept w.streams)))
unfolding with_any
stop_then g kind line q m pc to w known z ten eleven code =
    let d : (q 0 + 1) % 2 ^ 32 ≡ 1 = ap (λ n. (n + 1) % 2 ^ 32) z in
    immediate g (0 + 1) (0 + 1) q m pc w _ Addi 17 0 1 1 code.stand.0 refl d
    (ask g 0 0 (with_any q 17 1) m (pc + 4) w _ (Stop kind line) code.stand.1.0 (asked_stop g.space (with_any q 17 1) kind line refl ten eleven known)
    (done g _ (λ x. x ≡ Finished (StoppedBy kind line) (traced w (kept w.streams))) refl))

-- the program is stopped by an exception
pub raise_then : (g : Ground) (kind line : ℕ) (q : Registers) (m : Memory) (pc to : ℕ) (w : World) → 1 ≤ kind → kind ≤ 21 → line < 4294967296 → q 0 ≡ 0 → Code g.space pc (raising kind line) to →
    Comes g 5 5 (Live (cpu q m pc) w) (λ x. x ≡ Finished (StoppedBy kind line) (traced w (kept w.streams)))
unfolding with_any
raise_then g kind line q m pc to w lo hi ll z code =
    let e1 : (0 + kind) % 2 ^ 32 ≡ kind = omega arith in
    let d1 : (q 0 + kind) % 2 ^ 32 ≡ kind = ap (λ n. (n + kind) % 2 ^ 32) z ∙ e1 in
    let f1 : leb 1 kind ≡ true = le-leb 1 kind lo in
    let f2 : leb kind 21 ≡ true = le-leb kind 21 hi in
    let known : (leb 1 kind && leb kind 21) ≡ true = rw (f1, f2) refl in
    let c1 = after g.space pc to (small 10 kind) (long 11 line ++ stopping) code in
    let c2 = behind g.space (pc + 4) to (long 11 line) stopping c1 in
    let q1 : Registers = with_any q 10 kind in
    widen g (2 + 2 + 1) (2 + 2 + 1) 5 5 _ _
    (immediate g (2 + 2) (2 + 2) q m pc w _ Addi 10 0 kind kind code.stand.0 refl d1
    (long_then g 2 2 q1 m (pc + 4) w _ 11 line (stands_left g.space (pc + 4) (long 11 line) stopping c1.stand) refl ll
    (stop_then g kind line (with_any q1 11 line) m (pc + 4 + 8) to w known z refl refl c2)))
    (omega arith) (omega arith)

pub kind_in_range : (kind : Kind) → (1 ≤ kind_number kind) × (kind_number kind ≤ 21)
kind_in_range Overflow = (omega arith, omega arith)
kind_in_range Divide = (omega arith, omega arith)
kind_in_range Subscript = (omega arith, omega arith)
kind_in_range Range = (omega arith, omega arith)
kind_in_range Unset = (omega arith, omega arith)
kind_in_range Tag = (omega arith, omega arith)
kind_in_range Pointer = (omega arith, omega arith)
kind_in_range Overlap = (omega arith, omega arith)
kind_in_range StringSize = (omega arith, omega arith)
kind_in_range StringPlace = (omega arith, omega arith)
kind_in_range Case = (omega arith, omega arith)
kind_in_range Assert = (omega arith, omega arith)
kind_in_range Pre = (omega arith, omega arith)
kind_in_range Post = (omega arith, omega arith)
kind_in_range Invariant = (omega arith, omega arith)
kind_in_range Result = (omega arith, omega arith)
kind_in_range Input = (omega arith, omega arith)
kind_in_range EndOfInput = (omega arith, omega arith)
kind_in_range Stream = (omega arith, omega arith)
kind_in_range Bounds = (omega arith, omega arith)
kind_in_range Storage = (omega arith, omega arith)

bits_small : (z : ℤ) → FitsSigned w32 z → cast_unsigned w32 z < 4294967296
bits_small (pos n) h = omega arith
bits_small (negsuc n) h = omega arith

module _ (g : Ground) (gs : Setting) (l : Linear) (y : Layout) (laid : Laid g gs l y) (k i : ℕ) (r : LinearRoutine) (here : slice_get l.routines k ≡ Some r) (callers : List Caller) where
  abbrev h : Head
  h = head_of r

  abbrev to : ℕ
  to = y.place k (i + 1)

  abbrev jump : ℕ → List Instr
  jump label = y.jump k i label

  -- what an operation is done by
  abbrev Locked_plain : PlainOp → Type 0
  Locked_plain p = (st : State) (c : Moment) → slice_get r.code i ≡ Some (Plain p) → Sane l r (Plain p) → LiveAt g gs l y k i (head_at l.routines k) st callers c →
      Comes g 1 (plain_price p) c (Same g gs l y (goes_on_run k (i + 1) callers (does gs no_calls p st 0)))

  abbrev Locked : Instruction → Type 0
  Locked x = (st : State) (c : Moment) → slice_get r.code i ≡ Some x → Sane l r x → LiveAt g gs l y k i (head_at l.routines k) st callers c →
      Comes g 1 (price x) c (Same g gs l y (executes gs l r k i callers x st))

  pub raise_lock : (kind : Kind) (line : ℕ) → Locked_plain (Raise kind line)
  raise_lock kind line st c at ok is =
      begins g gs l y laid k i r here callers (Plain (Raise kind line)) st 1 20 c _ at is (λ q m pc me e code.
      let n = kind_in_range kind in
      widen g 5 5 1 20 _ _
      (stops g gs l y h k (kind_number kind) line st m callers 5 5 _ me (raise_then g (kind_number kind) line q m pc to st.world n.0 n.1 ok.small e.0 code))
      (omega arith) (omega arith))

  -- by whether the number is that of an exception
  throw_by : (t : Bool) (a b v w : ℕ) (st : State) (c : Moment) → (leb 1 v && leb v 21) ≡ t → st.env a ≡ Some v → st.env b ≡ Some w → slice_get r.code i ≡ Some (Plain (Throw a b)) → LiveAt g gs l y k i (head_at l.routines k) st callers c →
      Comes g 1 20 c (Same g gs l y (goes_on_run k (i + 1) callers (if t then raised v w st 0 else over Stuck st 0)))
  unfolding with_any
  throw_by false a b v w st c e va wb at is = record { count = 1; low = omega arith; high = omega arith; there = tt }
  throw_by true a b v w st c e va wb at is =
      begins g gs l y laid k i r here callers (Plain (Throw a b)) st 1 20 c _ at is (λ q m pc me fast code.
      widen g (2 + 1 + 1) (2 + 3 + 3) 1 20 _ _
      (stops g gs l y h k v w st m callers (2 + 1 + 1) (2 + 3 + 3) _ me
      (value_then g gs l y laid k i r here callers (2 + 1) (2 + 3) st q m pc to 10 a v _ _ me fast.2 va refl code (λ z n code1.
      value_then g gs l y laid k i r here callers 2 2 st (with_any (with_any q 7 z) 10 v) m n to 11 b w _ _ me fast.2 wb refl code1 (λ z2 n2 code2.
      stop_then g v w (with_any (with_any (with_any (with_any q 7 z) 10 v) 7 z2) 11 w) m n2 to st.world e fast.0 refl refl code2))))
      (omega arith) (omega arith))

  pub throw_lock : (a b : ℕ) → Locked_plain (Throw a b)
  throw_lock a b st c at ok is =
      needed g gs l y laid k i r here callers (i + 1) (st.env a) st 0 _ c 1 20 (omega arith) (λ v va.
      needed g gs l y laid k i r here callers (i + 1) (st.env b) st 0 _ c 1 20 (omega arith) (λ w wb.
      throw_by (leb 1 v && leb v 21) a b v w st c refl va wb at is))

  pub label_lock : (label : ℕ) (marked : Bool) → Locked (Label label marked)
  label_lock label marked st c at ok is =
      begins g gs l y laid k i r here callers (Label label marked) st 1 1 c _ at is (λ q m pc me e code.
      widen g (0 + 1) (0 + 1) 1 1 _ _
      (nothing g 0 0 q m pc st.world _ Addi 0 0 code.stand.0 (goes_on g gs l y laid k i r here callers st q m (pc + 4) (i + 1) me e code.end))
      (omega arith) (omega arith))

  -- on to a label
  goes_to : (st : State) (q : Registers) (m : Memory) (pc label : ℕ) → Holds g gs l y h st callers m → Fast gs q (lowest gs st.rooms st.deeper) st.frame → Code g.space pc (jump label) to →
      Comes g 1 2 (Live (cpu q m pc) st.world) (Same g gs l y (Running k (place_of_label label r.code) st callers))
  unfolding with_any
  goes_to st q m pc label me e code =
      let p : ℕ = y.place k (place_of_label label r.code) in
      widen g (1 + 0) (2 + 0) 1 2 _ _
      (comes_then g 1 2 0 0 (Live (cpu q m pc) st.world) (Arrived q m st.world p) _ (laid.leads k i label pc r here code q m st.world) (λ x there.
      subst (λ n. Comes g 0 0 n (Same g gs l y (Running k (place_of_label label r.code) st callers))) (sym there.is)
      (goes_on g gs l y laid k i r here callers st (with_any q 7 there.seven) m p (place_of_label label r.code) me e refl)))
      (omega arith) (omega arith)

  pub jump_lock : (label : ℕ) → Locked (Jump label)
  jump_lock label st c at ok is =
      begins g gs l y laid k i r here callers (Jump label) st 1 2 c _ at is (λ q m pc me e code. goes_to st q m pc label me e code)

  -- a test that skips the jump behind it where it holds
  turns : (t : Bool) (test : Instr) (st : State) (q : Registers) (m : Memory) (pc label : ℕ) → Holds g gs l y h st callers m → Fast gs q (lowest gs st.rooms st.deeper) st.frame → Code g.space pc (test ∷ jump label) to →
      Comes g 0 2 (Live (cpu q m (cond t ((pc + skip (length (jump label))) % 4294967296) (pc + 4))) st.world) (Same g gs l y (Running k (if t then i + 1 else place_of_label label r.code) st callers))
  turns true test st q m pc label me e code =
      let end : pc + 4 * suc (length (jump label)) ≡ to = code.end in
      let small = (laid.even_place k (i + 1)).small in
      widen g 0 0 0 2 _ _ (goes_on g gs l y laid k i r here callers st q m ((pc + skip (length (jump label))) % 4294967296) (i + 1) me e (omega arith)) (omega arith) (omega arith)
  turns false test st q m pc label me e code =
      widen g 1 2 0 2 _ _ (goes_to st q m (pc + 4) label me e (after g.space pc to test (jump label) code)) (omega arith) (omega arith)

  pub branch_lock : (relation : Relation) (a b label : ℕ) → Locked (Branch relation a b label)
  unfolding with_any
  branch_lock relation a b label st c at ok is =
      wanted g gs l y laid k i r here callers (st.env a) st _ c 1 9 (omega arith) (λ v va.
      wanted g gs l y laid k i r here callers (st.env b) st _ c 1 9 (omega arith) (λ w wb.
      begins g gs l y laid k i r here callers (Branch relation a b label) st 1 9 c _ at is (λ q m pc me e code.
      widen g (0 + 1 + 1 + 1) (2 + 1 + 3 + 3) 1 9 _ _
      (value_then g gs l y laid k i r here callers (0 + 1 + 1) (2 + 1 + 3) st q m pc to 5 a v _ _ me e.2 va refl code (λ z n code1.
      value_then g gs l y laid k i r here callers (0 + 1) (2 + 1) st (with_any (with_any q 7 z) 5 v) m n to 6 b w _ _ me e.2 wb refl code1 (λ z2 n2 code2.
      let q2 : Registers = with_any (with_any (with_any (with_any q 7 z) 5 v) 7 z2) 6 w in
      branch g 0 2 q2 m n2 st.world _ relation 5 6 (skip (length (jump label))) (holds relation v w) code2.stand.0 refl
      (turns (holds relation v w) (BranchIf relation 5 6 (skip (length (jump label)))) st q2 m n2 label me e code2))))
      (omega arith) (omega arith))))

  -- both ends of a range are compared
  abbrev second : Numbers → ℕ → List Instr
  second range label = long 6 (cast_unsigned w32 range.high) ++ (BranchIf Less 6 5 (skip (length (jump label))) ∷ jump label)

  chosen : (label : ℕ) (a b : Bool) → (if a then i + 1 else if b then i + 1 else place_of_label label r.code) ≡ (if not a && not b then place_of_label label r.code else i + 1)
  chosen label true b = refl
  chosen label false true = refl
  chosen label false false = refl

  within_high : (st : State) (q : Registers) (m : Memory) (pc label v : ℕ) (range : Numbers) → Holds g gs l y h st callers m → Fast gs q (lowest gs st.rooms st.deeper) st.frame → FitsSigned w32 range.high → q 5 ≡ v → Code g.space pc (second range label) to →
      Comes g 3 5 (Live (cpu q m pc) st.world) (Same g gs l y (Running k (if int_lt range.high (signed_of v) then i + 1 else place_of_label label r.code) st callers))
  unfolding with_any
  within_high st q m pc label v range me e fits five code =
      let u : ℕ = cast_unsigned w32 range.high in
      let rest : List Instr = BranchIf Less 6 5 (skip (length (jump label))) ∷ jump label in
      let same : cast_signed w32 u ≡ range.high = to_z-of_z w32 range.high fits in
      let c1 = behind g.space pc to (long 6 u) rest code in
      let q1 : Registers = with_any q 6 u in
      widen g (0 + 1 + 2) (2 + 1 + 2) 3 5 _ _
      (long_then g (0 + 1) (2 + 1) q m pc st.world _ 6 u (stands_left g.space pc (long 6 u) rest code.stand) refl (bits_small range.high fits)
      (branch g 0 2 q1 m (pc + 8) st.world _ Less 6 5 (skip (length (jump label))) (int_lt range.high (signed_of v)) c1.stand.0 (rw (five, same) refl)
      (turns (int_lt range.high (signed_of v)) (BranchIf Less 6 5 (skip (length (jump label)))) st q1 m (pc + 8) label me e c1)))
      (omega arith) (omega arith)

  within_low : (a : Bool) (st : State) (q : Registers) (m : Memory) (pc label v : ℕ) (range : Numbers) → Holds g gs l y h st callers m → Fast gs q (lowest gs st.rooms st.deeper) st.frame → FitsSigned w32 range.high → q 5 ≡ v →
      Code g.space pc (BranchIf Less 5 6 (skip (3 + length (jump label))) ∷ second range label) to →
      Comes g 0 5 (Live (cpu q m (cond a ((pc + skip (3 + length (jump label))) % 4294967296) (pc + 4))) st.world) (Same g gs l y (Running k (if a then i + 1 else if int_lt range.high (signed_of v) then i + 1 else place_of_label label r.code) st callers))
  within_low true st q m pc label v range me e fits five code =
      let end : pc + 4 * suc (suc (suc (suc (length (jump label))))) ≡ to = code.end in
      let small = (laid.even_place k (i + 1)).small in
      widen g 0 0 0 5 _ _ (goes_on g gs l y laid k i r here callers st q m ((pc + skip (3 + length (jump label))) % 4294967296) (i + 1) me e (omega arith)) (omega arith) (omega arith)
  within_low false st q m pc label v range me e fits five code =
      widen g 3 5 0 5 _ _ (within_high st q m (pc + 4) label v range me e fits five (after g.space pc to (BranchIf Less 5 6 (skip (3 + length (jump label)))) (second range label) code)) (omega arith) (omega arith)

  pub within_lock : (value : ℕ) (range : Numbers) (label : ℕ) → Locked (Within value range label)
  unfolding with_any
  within_lock value range label st c at ok is =
      wanted g gs l y laid k i r here callers (st.env value) st _ c 1 11 (omega arith) (λ v va.
      let low : Bool = int_lt (signed_of v) range.low in
      let u : ℕ = cast_unsigned w32 range.low in
      let same : cast_signed w32 u ≡ range.low = to_z-of_z w32 range.low ok.small.low in
      let rest : List Instr = BranchIf Less 5 6 (skip (3 + length (jump label))) ∷ second range label in
      subst (λ j. Comes g 1 11 c (Same g gs l y (Running k j st callers))) (chosen label low (int_lt range.high (signed_of v)))
      (begins g gs l y laid k i r here callers (Within value range label) st 1 11 c _ at is (λ q m pc me e code.
      widen g (0 + 1 + 2 + 1) (5 + 1 + 2 + 3) 1 11 _ _
      (value_then g gs l y laid k i r here callers (0 + 1 + 2) (5 + 1 + 2) st q m pc to 5 value v (long 6 u ++ rest) _ me e.2 va refl code (λ z n code1.
      let q1 : Registers = with_any (with_any q 7 z) 5 v in
      let code2 = behind g.space n to (long 6 u) rest code1 in
      long_then g (0 + 1) (5 + 1) q1 m n st.world _ 6 u (stands_left g.space n (long 6 u) rest code1.stand) refl (bits_small range.low ok.small.low)
      (branch g 0 5 (with_any q1 6 u) m (n + 8) st.world _ Less 5 6 (skip (3 + length (jump label))) low code2.stand.0 (rw same refl)
      (within_low low st (with_any q1 6 u) m (n + 8) label v range me e ok.small.high refl code2))))
      (omega arith) (omega arith))))
