-- What operations with regions do, and those that leave a loop.
use Rattle.std.proofs.Common.{◌≡◌, ℕ, ◌+◌, ◌%◌, ◌<◌, List, [], ◌∷◌, Bool, true, false, Option, Some, None, refl, ap, ◌∙◌, map, arith, ◌≤◌}
use Rattle.std.specs.Prelude.{◌==◌, ◌&&◌, ◌||◌, nat_le, if◌then◌else◌}
use Rattle.std.proofs.lemmas.Bool.Decides.{nat_tests}
use mathlib.Core.Former.{Count}
use Rattle.tu_base.specs.Trace.{Put}
use Rattle.rv_isa.specs.Arithmetic.{holds, register_value}
use Rattle.rv_isa.specs.declared.instr.RegisterOp.{RegisterOp}
use Rattle.rv_isa.specs.declared.instr.Relation.{Relation}
use Rattle.rv_isa.specs.declared.service.Service.{Service}
use Rattle.rv_isa.specs.declared.service.Service.TheVariants.{PutConsole}
use Rattle.rv_image.specs.Streams.{World, bytes_at, traced, Replies}
use Rattle.ir_form.specs.declared.plain.Width.TheVariants.{Byte as one_byte}
use Rattle.ir_form.specs.declared.op.Op.{Op, If', Loop', Row_of-Op, end_of-Op, more_of-Op, items-the_row-Op, items_hidden-the_row-Op-0}
use Rattle.ir_form.specs.Cells.{is_open, memory_of, with_byte, Cells, are_set}
use Rattle.ir_form.specs.Place.{Setting, end_at}
use Rattle.ir_form.specs.State.{Env, State, Left, Run, next, chosen, on_run, needs, listed}
use Rattle.ir_form.specs.Plain.{Calls, two, on_word, service_of, lends, asks, replied}
use Rattle.ir_form.specs.Meaning.{Cycle, gives, hands, takes_words, looped, run, run_all, run_list}
use Rattle.ir_code.specs.Pieces.{compute, store, ask}
use Rattle.ir_code.proofs.Steps.{set, Goes, AllGo, compute_goes, store_goes}
use Rattle.rt_stream.specs.Pieces.{branch, cycle_of, leave_with}

-- the machine's difference of a number and 1
pub below_one : (a : ℕ) → a < 4294967295 → (a + 1 + 4294967295) % 4294967296 ≡ a
below_one a lt = omega arith

-- the operations of a region, as a row and as a list
run_row : (g : Setting) (calls : Calls) {n : _} (row : Row_of-Op n) → run_all g calls row ≡ run_list g calls (items-the_row-Op n row)
run_row g calls end_of-Op = refl
run_row g calls (more_of-Op op ops) = λ i st c. on_run (run g calls op st c) (run_row g calls ops i)

abbrev first_row : Op → (n : Count) × Row_of-Op n
first_row (If' relation left right _ _ x _ _ _ y _ to) = (_, x)
first_row (Loop' marked start _ _ x _ to) = (_, x)
first_row _ = (_, end_of-Op)

abbrev second_row : Op → (n : Count) × Row_of-Op n
second_row (If' relation left right _ _ x _ _ _ y _ to) = (_, y)
second_row _ = (_, end_of-Op)

branch_runs : (g : Setting) (calls : Calls) (relation : Relation) (left right : ℕ) (first : List Op) (rs : List ℕ) (others : List Op) (os to : List ℕ) (st : State) (c : ℕ) → run g calls (branch relation left right first rs others os to) st c ≡ two st left right (c + 13) (λ v w. chosen (holds relation v w) (gives (run_list g calls first) to rs) (gives (run_list g calls others) to os) st (c + 13))
branch_runs g calls relation left right first rs others os to st c =
    let op : Op = branch relation left right first rs others os to in
    let x : run_all g calls (first_row op).1 ≡ run_list g calls first = run_row g calls (first_row op).1 ∙ ap (run_list g calls) (items_hidden-the_row-Op-0 first) in
    let y : run_all g calls (second_row op).1 ≡ run_list g calls others = run_row g calls (second_row op).1 ∙ ap (run_list g calls) (items_hidden-the_row-Op-0 others) in
    λ i. two st left right (c + 13) (λ v w. chosen (holds relation v w) (gives (x i) to rs) (gives (y i) to os) st (c + 13))

abbrev pub cycle_with : (parameters results to : List ℕ) → Cycle
cycle_with parameters results to = record { marked = false; parameters = parameters; results = results; to = to }

pub cycle_runs : (g : Setting) (calls : Calls) (start parameters : List ℕ) (ops : List Op) (results to : List ℕ) (st : State) (c : ℕ) → run g calls (cycle_of start parameters ops results to) st c ≡ looped (cycle_with parameters results to) start (run_list g calls ops) st c
cycle_runs g calls start parameters ops results to st c =
    let op : Op = cycle_of start parameters ops results to in
    let x : run_all g calls (first_row op).1 ≡ run_list g calls ops = run_row g calls (first_row op).1 ∙ ap (run_list g calls) (items_hidden-the_row-Op-0 ops) in
    λ i. looped (cycle_with parameters results to) start (x i) st c

two_runs : (left right v w : ℕ) (st : State) (c : ℕ) (go : ℕ → ℕ → Run) → st.env left ≡ Some v → st.env right ≡ Some w → two st left right c go ≡ go v w
two_runs left right v w st c go e f = ap (λ x. needs x st c (λ a. needs (st.env right) st c (go a))) e ∙ ap (λ x. needs x st c (go v)) f

chosen_runs : (g : Setting) (calls : Calls) (relation : Relation) (left right v w : ℕ) (first : List Op) (rs : List ℕ) (others : List Op) (os to : List ℕ) (b : Bool) (st : State) (c : ℕ) → st.env left ≡ Some v → st.env right ≡ Some w → holds relation v w ≡ b → run g calls (branch relation left right first rs others os to) st c ≡ chosen b (gives (run_list g calls first) to rs) (gives (run_list g calls others) to os) st (c + 13)
chosen_runs g calls relation left right v w first rs others os to b st c e f h =
    branch_runs g calls relation left right first rs others os to st c
    ∙ two_runs left right v w st (c + 13) (λ v w. chosen (holds relation v w) (gives (run_list g calls first) to rs) (gives (run_list g calls others) to os) st (c + 13)) e f
    ∙ ap (λ x. chosen x (gives (run_list g calls first) to rs) (gives (run_list g calls others) to os) st (c + 13)) h

-- an operation, or several, that leave the innermost loop with words
pub record Leaves (g : Setting) (calls : Calls) (op : Op) (st : State) (c : ℕ) (ws : List ℕ) (su : State) (k : ℕ) : Type 0 where
  pub is : run g calls op st c ≡ record { how = Left 0 ws; state = su; cost = k }

pub record AllLeave (g : Setting) (calls : Calls) (ops : List Op) (st : State) (c : ℕ) (ws : List ℕ) (su : State) (k : ℕ) : Type 0 where
  pub is : run_list g calls ops st c ≡ record { how = Left 0 ws; state = su; cost = k }

-- one value is given
one_given : (x r u : ℕ) (st : State) (c : ℕ) → st.env r ≡ Some u → hands (x ∷ []) (r ∷ []) st c ≡ next (set st x u) (c + 12)
one_given x r u st c e = ap (λ o. needs (listed o (Some [])) st c (λ ws. takes_words (x ∷ []) ws st (c + 12))) e

module _ {g : Setting} {calls : Calls} where
  infixr 8 ◌▷◌
  pub ◌▷◌ : {op : Op} {ops : List Op} {ws : List ℕ} {st su sv : State} {c k i : ℕ} → Goes g calls op st c su k → AllLeave g calls ops su k ws sv i → AllLeave g calls (op ∷ ops) st c ws sv i
  ◌▷◌ {ops = ops} e f = record { is = ap (λ r. on_run r (run_list g calls ops)) e.is ∙ f.is }

  pub leaves : {op : Op} (ops : List Op) {ws : List ℕ} {st su : State} {c k : ℕ} → Leaves g calls op st c ws su k → AllLeave g calls (op ∷ ops) st c ws su k
  leaves ops e = record { is = ap (λ r. on_run r (run_list g calls ops)) e.is }

  pub leave_goes : (x w : ℕ) {st : State} {c : ℕ} → st.env x ≡ Some w → Leaves g calls (leave_with x) st c (w ∷ []) st (c + 7 + 12)
  leave_goes x w {st} {c} e = record { is = ap (λ o. needs (listed o (Some [])) st (c + 7) (λ ws. record { how = Left 0 ws; state = st; cost = c + 7 + 12 })) e }

  pub compute_gives : (to : ℕ) (op : RegisterOp) (left right v w u : ℕ) {st : State} {c : ℕ} → st.env left ≡ Some v → st.env right ≡ Some w → register_value op v w ≡ u → Goes g calls (compute to op left right) st c (set st to u) (c + 10)
  compute_gives to op left right v w u {st} {c} e f h = record { is = (compute_goes {g = g} {calls = calls} to op left right {v = v} {w = w} {st = st} {c = c} e f).is ∙ ap (λ x. next (set st to x) (c + 10)) h }

  pub byte_goes : (at from a w : ℕ) {st : State} {c : ℕ} → st.env at ≡ Some a → st.env from ≡ Some w → is_open (st.cells a) ≡ true → w < 256 → Goes g calls (store one_byte at from) st c (record st { cells = with_byte st.cells a w }) (c + 7)
  byte_goes at from a w {st} {c} e f h lt =
      let small : w % 256 ≡ w = omega arith in
      store_goes {g = g} {calls = calls} one_byte at from {a = a} {w = w} {cells = with_byte st.cells a w} {st = st} {c = c} e f (λ i. if h i then Some (with_byte st.cells a (small i)) else None)

  -- the first region gives a value, or the other one does
  pub first_gives : (relation : Relation) (left right v w : ℕ) (first : List Op) (r : ℕ) (others : List Op) (o x u : ℕ) {st su : State} {c k : ℕ} → st.env left ≡ Some v → st.env right ≡ Some w → holds relation v w ≡ true → AllGo g calls first st (c + 13) su k → su.env r ≡ Some u → Goes g calls (branch relation left right first (r ∷ []) others (o ∷ []) (x ∷ [])) st c (set su x u) (k + 12)
  first_gives relation left right v w first r others o x u {st} {su} {c} {k} e f h a d = record {
    is =
        chosen_runs g calls relation left right v w first (r ∷ []) others (o ∷ []) (x ∷ []) true st c e f h
        ∙ ap (λ q. on_run q (hands (x ∷ []) (r ∷ []))) a.is ∙ one_given x r u su k d;
  }

  pub other_gives : (relation : Relation) (left right v w : ℕ) (first : List Op) (r : ℕ) (others : List Op) (o x u : ℕ) {st su : State} {c k : ℕ} → st.env left ≡ Some v → st.env right ≡ Some w → holds relation v w ≡ false → AllGo g calls others st (c + 13) su k → su.env o ≡ Some u → Goes g calls (branch relation left right first (r ∷ []) others (o ∷ []) (x ∷ [])) st c (set su x u) (k + 12)
  other_gives relation left right v w first r others o x u {st} {su} {c} {k} e f h a d = record {
    is =
        chosen_runs g calls relation left right v w first (r ∷ []) others (o ∷ []) (x ∷ []) false st c e f h
        ∙ ap (λ q. on_run q (hands (x ∷ []) (o ∷ []))) a.is ∙ one_given x o u su k d;
  }

  -- one region has no operations, and the other one leaves the loop
  pub first_leaves : (relation : Relation) (left right v w : ℕ) (first : List Op) {ws : List ℕ} {st su : State} {c k : ℕ} → st.env left ≡ Some v → st.env right ≡ Some w → holds relation v w ≡ true → AllLeave g calls first st (c + 13) ws su k → Leaves g calls (branch relation left right first [] [] [] []) st c ws su k
  first_leaves relation left right v w first {ws} {st} {su} {c} {k} e f h a = record { is = chosen_runs g calls relation left right v w first [] [] [] [] true st c e f h ∙ ap (λ q. on_run q (hands [] [])) a.is }

  pub other_leaves : (relation : Relation) (left right v w : ℕ) (others : List Op) {ws : List ℕ} {st su : State} {c k : ℕ} → st.env left ≡ Some v → st.env right ≡ Some w → holds relation v w ≡ false → AllLeave g calls others st (c + 13) ws su k → Leaves g calls (branch relation left right [] [] others [] []) st c ws su k
  other_leaves relation left right v w others {ws} {st} {su} {c} {k} e f h a = record { is = chosen_runs g calls relation left right v w [] [] others [] [] false st c e f h ∙ ap (λ q. on_run q (hands [] [])) a.is }

  pub first_stays : (relation : Relation) (left right v w : ℕ) (others : List Op) {st : State} {c : ℕ} → st.env left ≡ Some v → st.env right ≡ Some w → holds relation v w ≡ true → Goes g calls (branch relation left right [] [] others [] []) st c st (c + 13 + 0)
  first_stays relation left right v w others {st} {c} e f h = record { is = chosen_runs g calls relation left right v w [] [] others [] [] true st c e f h }

  pub other_stays : (relation : Relation) (left right v w : ℕ) (first : List Op) {st : State} {c : ℕ} → st.env left ≡ Some v → st.env right ≡ Some w → holds relation v w ≡ false → Goes g calls (branch relation left right first [] [] [] []) st c st (c + 13 + 0)
  other_stays relation left right v w first {st} {c} e f h = record { is = chosen_runs g calls relation left right v w first [] [] [] [] false st c e f h }

named : (env : Env) (x w : ℕ) (go : ℕ → Option Service) → env x ≡ Some w → on_word env x go ≡ go w
named env x w go e = ap on e
  where
    on : Option ℕ → Option Service
    on o = elim o [ Some v ↦ go v | None ↦ None ]

service_named : (env : Env) (at size a n : ℕ) → env at ≡ Some a → env size ≡ Some n → service_of env (PutConsole at size) ≡ Some (PutConsole a n)
service_named env at size a n e f = named env at a (λ v. on_word env size (λ w. Some (PutConsole v w))) e ∙ named env size n (λ w. Some (PutConsole a w)) f

-- bytes are put
pub put_goes : {g : Setting} {calls : Calls} (to at size a n : ℕ) (bytes : List ℕ) {st : State} {c : ℕ} → st.env at ≡ Some a → st.env size ≡ Some n → lends g st.cells a n ≡ true → bytes_at (memory_of st.cells) a n ≡ bytes → Goes g calls (ask to (PutConsole at size)) st c (set (record st { world = traced st.world (map Put bytes) }) to 0) (c + 14)
put_goes {g} to at size a n bytes {st} {c} e f l b = record {
  is =
      ap (λ o. needs o st (c + 14) (λ what. asks g to what st (c + 14))) (service_named st.env at size a n e f)
      ∙ ap (λ t. needs (if t then Some (PutConsole a n) else None) st (c + 14) (λ s. answered s)) l
      ∙ ap (λ bs. replied to (Replies 0 (traced st.world (map Put bs))) st (c + 14)) b;
}
  where
    answered : Service → Run
    answered s = replied to (Rattle.rv_image.specs.Streams.served g.folder (memory_of st.cells) s st.world) st (c + 14)

or_true : (b : Bool) → (b || true) ≡ true
or_true true = refl
or_true false = refl

test_le : (x y : ℕ) → x ≤ y → nat_le x y ≡ true
test_le x y h = grind (arith, nat_tests)

-- set bytes in memory may be put
pub lent : (g : Setting) (cells : Cells) (at size : ℕ) → size ≤ 1048576 → 65536 ≤ at → at + size ≤ end_at g → are_set cells at size ≡ true → lends g cells at size ≡ true
lent g cells at size few low high s =
    (λ i. test_le size 1048576 few i && (((size == 0) || (test_le 65536 at low i && test_le (at + size) (end_at g) high i)) && s i))
    ∙ ap (λ b. b && true) (or_true (size == 0))
