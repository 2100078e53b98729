-- Pieces of code run as they are written.
use Rattle.std.proofs.Common.{◌≡◌, ℕ, zero, suc, ◌+◌, List, [], ◌∷◌, ◌++◌, Bool, true, false, Option, Some, None, refl, ap, ◌∙◌, arith}
use mathlib.Core.Former.{Count}
use Rattle.rv_isa.specs.Arithmetic.{holds}
use Rattle.tu_base.specs.declared.kind.Kind.{Kind}
use Rattle.tu_base.specs.Kind.{kind_number}
use Rattle.ir_form.specs.declared.op.Op.{Op, If', Loop', Row_of-Op, end_of-Op, more_of-Op, items-the_row-Op, items_hidden-the_row-Op-0}
use Rattle.ir_form.specs.Place.{Setting}
use Rattle.ir_form.specs.State.{State, How, Next, Left, Ends, Throws, Over, Run, next, chosen, on_how, on_run, needs, begins}
use Rattle.ir_form.specs.Plain.{Calls}
use Rattle.ir_form.specs.Meaning.{Cycle, gives, hands, looped, rounds, after_round, after_run, run, run_all, run_list}
use Rattle.ir_code.specs.Pieces.{choice, once, raise, repeat}
use Rattle.ir_code.specs.Laws.{RunsInOrder, ChoiceRuns, RaiseRuns, OnceRuns, RepeatRuns, done, raised_unless, cycle}

-- what follows may be written in two ways
on_same : (how : How) (st : State) (c : ℕ) (f h : State → ℕ → Run) → ((su : State) (k : ℕ) → f su k ≡ h su k) → on_how how st c f ≡ on_how how st c h
on_same Next st c f h e = e st c
on_same (Left k ws) st c f h e = refl
on_same (Ends ws) st c f h e = refl
on_same (Throws kind line) st c f h e = refl
on_same (Over v) st c f h e = refl

on_both : (how : How) (st : State) (c : ℕ) (f both h : State → ℕ → Run) → ((su : State) (k : ℕ) → both su k ≡ on_run (f su k) h) → on_how how st c both ≡ on_run (on_how how st c f) h
on_both Next st c f both h e = e st c
on_both (Left k ws) st c f both h e = refl
on_both (Ends ws) st c f both h e = refl
on_both (Throws kind line) st c f both h e = refl
on_both (Over v) st c f both h e = refl

pub runs_in_order : RunsInOrder
runs_in_order g calls [] ys st c = refl
runs_in_order g calls (x ∷ xs) ys st c =
    let r = run g calls x st c in on_both r.how r.state r.cost (run_list g calls xs) (run_list g calls (xs ++ ys)) (run_list g calls ys) (runs_in_order g calls xs ys)

module _ (g : Setting) (calls : Calls) where
  run_row : {n : _} (row : Row_of-Op n) (st : State) (c : ℕ) → run_all g calls row st c ≡ run_list g calls (items-the_row-Op n row) st c
  run_row end_of-Op st c = refl
  run_row (more_of-Op op ops) st c = let r = run g calls op st c in on_same r.how r.state r.cost (run_all g calls ops) (run_list g calls (items-the_row-Op _ ops)) (run_row ops)

-- the rows in an operation
abbrev first_row : Op → (n : Count) × Row_of-Op n
first_row (If' relation left right _ _ x _ _ _ y _ to) = (_, x)
first_row (Loop' marked start _ _ x _ to) = (_, x)
first_row _ = (_, end_of-Op)

abbrev second_row : Op → (n : Count) × Row_of-Op n
second_row (If' relation left right _ _ x _ _ _ y _ to) = (_, y)
second_row _ = (_, end_of-Op)

two_same : (a b : Option ℕ) (st : State) (c : ℕ) (f h : ℕ → ℕ → Run) → ((v w : ℕ) → f v w ≡ h v w) → needs a st c (λ v. needs b st c (f v)) ≡ needs a st c (λ v. needs b st c (h v))
two_same None b st c f h e = refl
two_same (Some v) None st c f h e = refl
two_same (Some v) (Some w) st c f h e = e v w

chosen_same : (b : Bool) (x y z w : State → ℕ → Run) (st : State) (c : ℕ) → x st c ≡ z st c → y st c ≡ w st c → chosen b x y st c ≡ chosen b z w st c
chosen_same true x y z w st c e f = e
chosen_same false x y z w st c e f = f

given_same : (f h : State → ℕ → Run) (st : State) (c : ℕ) → f st c ≡ h st c → gives f [] [] st c ≡ gives h [] [] st c
given_same f h st c e = ap (λ r. on_run r (hands [] [])) e

pub choice_runs : ChoiceRuns
choice_runs g calls relation left right first others st c =
    let op : Op = choice relation left right first others in
    let x : (su : State) (k : ℕ) → run_all g calls (first_row op).1 su k ≡ run_list g calls first su k = λ su k. run_row g calls (first_row op).1 su k ∙ ap (λ z. run_list g calls z su k) (items_hidden-the_row-Op-0 first) in
    let y : (su : State) (k : ℕ) → run_all g calls (second_row op).1 su k ≡ run_list g calls others su k = λ su k. run_row g calls (second_row op).1 su k ∙ ap (λ z. run_list g calls z su k) (items_hidden-the_row-Op-0 others) in
    two_same (st.env left) (st.env right) st (c + 13) _ _ λ v w.
    chosen_same (holds relation v w) (gives (run_all g calls (first_row op).1) [] []) (gives (run_all g calls (second_row op).1) [] []) (done g calls first) (done g calls others) st (c + 13) (given_same (run_all g calls (first_row op).1) (run_list g calls first) st (c + 13) (x st (c + 13))) (given_same (run_all g calls (second_row op).1) (run_list g calls others) st (c + 13) (y st (c + 13)))

plus_none : (c : ℕ) → c + 0 ≡ c
plus_none c = omega arith

raise_chosen : (g : Setting) (calls : Calls) (b : Bool) (kind : Kind) (line : ℕ) (st : State) (c : ℕ) → chosen b (done g calls []) (done g calls (raise kind line ∷ [])) st c ≡ raised_unless b (kind_number kind) line st c
raise_chosen g calls true kind line st c = ap (λ k. next st k) (plus_none c)
raise_chosen g calls false kind line st c = refl

pub raise_runs : RaiseRuns
raise_runs g calls relation left right kind line st c = choice_runs g calls relation left right [] (raise kind line ∷ []) st c ∙ two_same (st.env left) (st.env right) st (c + 13) _ _ (λ v w. raise_chosen g calls (holds relation v w) kind line st (c + 13))

-- rounds of a body that may be written in two ways
after_same : (y : Cycle) (how : How) (st : State) (c : ℕ) (f h : State → ℕ → Run) → ((su : State) (k : ℕ) → f su k ≡ h su k) → after_round y f how st c ≡ after_round y h how st c
after_same y Next st c f h e = let r = hands y.parameters y.results st (c + 4) in on_same r.how r.state r.cost f h e
after_same y (Left zero ws) st c f h e = refl
after_same y (Left (suc k) ws) st c f h e = refl
after_same y (Ends ws) st c f h e = refl
after_same y (Throws kind line) st c f h e = refl
after_same y (Over v) st c f h e = refl

rounds_same : (y : Cycle) (f h : State → ℕ → Run) → ((su : State) (k : ℕ) → f su k ≡ h su k) → (n : ℕ) (again : Bool) (st : State) (c : ℕ) → rounds y f n again st c ≡ rounds y h n again st c
rounds_same y f h e zero again st c = refl
rounds_same y f h e (suc n) again st c =
    let r = begins y.marked again st c in
    on_same r.how r.state r.cost _ _ λ su k.
    ap (after_run y (rounds y f n true)) (e su k) ∙ (let q = h su k in after_same y q.how q.state q.cost (rounds y f n true) (rounds y h n true) (rounds_same y f h e n true))

looped_same : (y : Cycle) (start : List ℕ) (f h : State → ℕ → Run) → ((su : State) (k : ℕ) → f su k ≡ h su k) → (st : State) (c : ℕ) → looped y start f st c ≡ looped y start h st c
looped_same y start f h e st c =
    let r = hands y.parameters start st (c + 4) in
    on_same r.how r.state r.cost _ _ λ su k. rounds_same y f h e (suc (suc (su.turns + su.others))) false su k

loop_row : (g : Setting) (calls : Calls) (ops : List Op) (op : Op) → items-the_row-Op _ (first_row op).1 ≡ ops → (su : State) (k : ℕ) → run_all g calls (first_row op).1 su k ≡ run_list g calls ops su k
loop_row g calls ops op e su k = run_row g calls (first_row op).1 su k ∙ ap (λ z. run_list g calls z su k) e

pub once_runs : OnceRuns
once_runs g calls ops st c = looped_same (cycle false) [] (run_all g calls (first_row (once ops)).1) (run_list g calls ops) (loop_row g calls ops (once ops) (items_hidden-the_row-Op-0 ops)) st c

pub repeat_runs : RepeatRuns
repeat_runs g calls ops st c = looped_same (cycle true) [] (run_all g calls (first_row (repeat ops)).1) (run_list g calls ops) (loop_row g calls ops (repeat ops) (items_hidden-the_row-Op-0 ops)) st c
