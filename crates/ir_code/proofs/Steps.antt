-- One operation after the other: what each does to the state.
use Rattle.std.proofs.Common.{◌≡◌, ℕ, ◌+◌, ◌*◌, ◌<◌, List, [], ◌∷◌, Bool, true, false, Some, refl, ap, ◌∙◌, arith}
use Rattle.std.specs.Prelude.{◌==◌, if◌then◌else◌}
use Rattle.std.proofs.lemmas.Bool.Decides.{nat_tests}
use Rattle.tu_base.specs.declared.kind.Kind.{Kind}
use Rattle.tu_base.specs.Kind.{kind_number}
use Rattle.rv_isa.specs.Arithmetic.{holds, register_value}
use Rattle.rv_isa.specs.declared.instr.RegisterOp.{RegisterOp}
use Rattle.rv_isa.specs.declared.instr.Relation.{Relation}
use Rattle.ir_form.specs.declared.op.Op.{Op}
use Rattle.ir_form.specs.declared.plain.Width.{Width}
use Rattle.ir_form.specs.Cells.{Cells, loaded, stored}
use Rattle.ir_form.specs.Place.{Setting}
use Rattle.ir_form.specs.State.{Env, State, Run, next, raised, chosen, on_run, needs, with_value}
use Rattle.ir_form.specs.Plain.{Calls, two}
use Rattle.ir_form.specs.Meaning.{run, run_list}
use Rattle.ir_code.specs.Pieces.{constant, global, frame, compute, load, store, raise_unless, choice}
use Rattle.ir_code.specs.Laws.{done, raised_unless}
use Rattle.ir_code.proofs.Running.{choice_runs, raise_runs}

-- a state with another word for a value
abbrev pub set : State → (x w : ℕ) → State
set st x w = record st { env = with_value st.env x w }

same : (x : ℕ) → (x == x) ≡ true
same x = grind (arith, nat_tests)

apart_test : (x j : ℕ) → j < x → (j == x) ≡ false
apart_test x j lt = grind (arith, nat_tests)

above_test : (x j : ℕ) → x < j → (j == x) ≡ false
above_test x j lt = grind (arith, nat_tests)

pub set_same : (env : Env) (x w : ℕ) → with_value env x w x ≡ Some w
set_same env x w = ap (λ b. if b then Some w else env x) (same x)

pub set_below : (env : Env) (x w j : ℕ) → j < x → with_value env x w j ≡ env j
set_below env x w j lt = ap (λ b. if b then Some w else env j) (apart_test x j lt)

pub set_above : (env : Env) (x w j : ℕ) → x < j → with_value env x w j ≡ env j
set_above env x w j lt = ap (λ b. if b then Some w else env j) (above_test x j lt)

-- an operation, or several, from a state at a cost to another one
pub record Goes (g : Setting) (calls : Calls) (op : Op) (st : State) (c : ℕ) (su : State) (k : ℕ) : Type 0 where
  pub is : run g calls op st c ≡ next su k

pub record Stops (g : Setting) (calls : Calls) (op : Op) (st : State) (c kind line : ℕ) (su : State) (k : ℕ) : Type 0 where
  pub is : run g calls op st c ≡ raised kind line su k

pub record AllGo (g : Setting) (calls : Calls) (ops : List Op) (st : State) (c : ℕ) (su : State) (k : ℕ) : Type 0 where
  pub is : run_list g calls ops st c ≡ next su k

pub record AllStop (g : Setting) (calls : Calls) (ops : List Op) (st : State) (c kind line : ℕ) (su : State) (k : ℕ) : Type 0 where
  pub is : run_list g calls ops st c ≡ raised kind line su k

two_runs : (left right v w : ℕ) (st : State) (c : ℕ) (go : ℕ → ℕ → Run) → st.env left ≡ Some v → st.env right ≡ Some w → two st left right c go ≡ go v w
two_runs left right v w st c go e f = ap (λ x. needs x st c (λ a. needs (st.env right) st c (go a))) e ∙ ap (λ x. needs x st c (go v)) f

module _ (g : Setting) (calls : Calls) where
  check_runs : (relation : Relation) (left right v w : ℕ) (kind : Kind) (line : ℕ) (b : Bool) (st : State) (c : ℕ) → st.env left ≡ Some v → st.env right ≡ Some w → holds relation v w ≡ b → run g calls (raise_unless relation left right kind line) st c ≡ raised_unless b (kind_number kind) line st (c + 13)
  check_runs relation left right v w kind line b st c e f h =
      raise_runs g calls relation left right kind line st c
      ∙ two_runs left right v w st (c + 13) (λ v w. raised_unless (holds relation v w) (kind_number kind) line st (c + 13)) e f
      ∙ ap (λ x. raised_unless x (kind_number kind) line st (c + 13)) h

  pub chosen_runs : (relation : Relation) (left right v w : ℕ) (first others : List Op) (b : Bool) (st : State) (c : ℕ) → st.env left ≡ Some v → st.env right ≡ Some w → holds relation v w ≡ b → run g calls (choice relation left right first others) st c ≡ chosen b (done g calls first) (done g calls others) st (c + 13)
  chosen_runs relation left right v w first others b st c e f h =
      choice_runs g calls relation left right first others st c
      ∙ two_runs left right v w st (c + 13) (λ v w. chosen (holds relation v w) (done g calls first) (done g calls others) st (c + 13)) e f
      ∙ ap (λ x. chosen x (done g calls first) (done g calls others) st (c + 13)) h

module _ {g : Setting} {calls : Calls} where
  pub none : {st : State} {c : ℕ} → AllGo g calls [] st c st c
  none = record { is = refl }

  infixr 8 ◌▸◌
  pub ◌▸◌ : {op : Op} {ops : List Op} {st su sv : State} {c k i : ℕ} → Goes g calls op st c su k → AllGo g calls ops su k sv i → AllGo g calls (op ∷ ops) st c sv i
  ◌▸◌ {ops = ops} e f = record { is = ap (λ r. on_run r (run_list g calls ops)) e.is ∙ f.is }

  pub stops : {op : Op} (ops : List Op) {st su : State} {c k kind line : ℕ} → Stops g calls op st c kind line su k → AllStop g calls (op ∷ ops) st c kind line su k
  stops ops e = record { is = ap (λ r. on_run r (run_list g calls ops)) e.is }

  infixr 8 ◌▹◌
  pub ◌▹◌ : {op : Op} {ops : List Op} {st su sv : State} {c k i kind line : ℕ} → Goes g calls op st c su k → AllStop g calls ops su k kind line sv i → AllStop g calls (op ∷ ops) st c kind line sv i
  ◌▹◌ {ops = ops} e f = record { is = ap (λ r. on_run r (run_list g calls ops)) e.is ∙ f.is }

  pub constant_goes : (to word : ℕ) {st : State} {c : ℕ} → Goes g calls (constant to word) st c (set st to word) (c + 5)
  constant_goes to word = record { is = refl }

  pub global_goes : (to word : ℕ) {st : State} {c : ℕ} → Goes g calls (global to word) st c (set st to (g.place.globals_at + 4 * word)) (c + 7)
  global_goes to word = record { is = refl }

  pub frame_goes : (to word : ℕ) {st : State} {c : ℕ} → Goes g calls (frame to word) st c (set st to (st.frame + 4 * word)) (c + 7)
  frame_goes to word = record { is = refl }

  pub compute_goes : (to : ℕ) (op : RegisterOp) (left right : ℕ) {v w : ℕ} {st : State} {c : ℕ} → st.env left ≡ Some v → st.env right ≡ Some w → Goes g calls (compute to op left right) st c (set st to (register_value op v w)) (c + 10)
  compute_goes to op left right {v} {w} {st} {c} e f = record {
    is =
        ap (λ x. needs x st (c + 10) (λ a. needs (st.env right) st (c + 10) (λ b. next (set st to (register_value op a b)) (c + 10)))) e
        ∙ ap (λ x. needs x st (c + 10) (λ b. next (set st to (register_value op v b)) (c + 10))) f;
  }

  pub load_goes : (to : ℕ) (width : Width) (at : ℕ) {a w : ℕ} {st : State} {c : ℕ} → st.env at ≡ Some a → loaded width st.cells a ≡ Some w → Goes g calls (load to width at) st c (set st to w) (c + 7)
  load_goes to width at {a} {w} {st} {c} e f = record {
    is =
        ap (λ x. needs x st (c + 7) (λ b. needs (loaded width st.cells b) st (c + 7) (λ v. next (set st to v) (c + 7)))) e
        ∙ ap (λ x. needs x st (c + 7) (λ v. next (set st to v) (c + 7))) f;
  }

  pub store_goes : (width : Width) (at from : ℕ) {a w : ℕ} {cells : Cells} {st : State} {c : ℕ} → st.env at ≡ Some a → st.env from ≡ Some w → stored width st.cells a w ≡ Some cells → Goes g calls (store width at from) st c (record st { cells = cells }) (c + 7)
  store_goes width at from {a} {w} {cells} {st} {c} e f s = record {
    is =
        ap (λ x. needs x st (c + 7) (λ b. needs (st.env from) st (c + 7) (λ v. needs (stored width st.cells b v) st (c + 7) (λ cells. next (record st { cells = cells }) (c + 7))))) e
        ∙ ap (λ x. needs x st (c + 7) (λ v. needs (stored width st.cells a v) st (c + 7) (λ cells. next (record st { cells = cells }) (c + 7)))) f
        ∙ ap (λ x. needs x st (c + 7) (λ cells. next (record st { cells = cells }) (c + 7))) s;
  }

  pub check_goes : (relation : Relation) (left right : ℕ) (kind : Kind) (line : ℕ) {v w : ℕ} {st : State} {c : ℕ} → st.env left ≡ Some v → st.env right ≡ Some w → holds relation v w ≡ true → Goes g calls (raise_unless relation left right kind line) st c st (c + 13)
  check_goes relation left right kind line {v} {w} {st} {c} e f h = record { is = check_runs _ _ relation left right v w kind line true st c e f h }

  pub check_stops : (relation : Relation) (left right : ℕ) (kind : Kind) (line : ℕ) {v w : ℕ} {st : State} {c : ℕ} → st.env left ≡ Some v → st.env right ≡ Some w → holds relation v w ≡ false → Stops g calls (raise_unless relation left right kind line) st c (kind_number kind) line st (c + 33)
  check_stops relation left right kind line {v} {w} {st} {c} e f h = record { is = check_runs _ _ relation left right v w kind line false st c e f h ∙ ap (λ k. raised (kind_number kind) line st k) (together c) }
    where
      together : (c : ℕ) → c + 13 + 20 ≡ c + 33
      together c = omega arith
