-- How region code that is made of pieces runs.
use Rattle.std.specs.Prelude.{◌≡◌, ℕ, ◌+◌, Bool, true, false, List, [], ◌++◌}
use Rattle.tu_base.specs.declared.kind.Kind.{Kind}
use Rattle.tu_base.specs.Kind.{kind_number}
use Rattle.rv_isa.specs.Arithmetic.{holds}
use Rattle.rv_isa.specs.declared.instr.Relation.{Relation}
use Rattle.ir_form.specs.declared.op.Op.{Op}
use Rattle.ir_form.specs.Place.{Setting}
use Rattle.ir_form.specs.State.{State, Run, next, raised, chosen, on_run}
use Rattle.ir_form.specs.Plain.{Calls, two}
use Rattle.ir_form.specs.Meaning.{Cycle, gives, looped, run, run_list}
use Rattle.ir_code.specs.Pieces.{choice, once, raise_unless, repeat}

-- the one, and then the other
abbrev pub RunsInOrder : Type 0
RunsInOrder = (g : Setting) (calls : Calls) (xs ys : List Op) (st : State) (c : ℕ) → run_list g calls (xs ++ ys) st c ≡ on_run (run_list g calls xs st c) (run_list g calls ys)

-- operations as a region that gives nothing
abbrev pub done : Setting → Calls → List Op → State → ℕ → Run
done g calls ops st c = gives (run_list g calls ops) [] [] st c

abbrev pub ChoiceRuns : Type 0
ChoiceRuns = (g : Setting) (calls : Calls) (relation : Relation) (left right : ℕ) (first others : List Op) (st : State) (c : ℕ) →
    run g calls (choice relation left right first others) st c ≡ two st left right (c + 13) (λ v w. chosen (holds relation v w) (done g calls first) (done g calls others) st (c + 13))

abbrev pub raised_unless : Bool → (kind line : ℕ) → State → ℕ → Run
raised_unless true kind line st c = next st c
raised_unless false kind line st c = raised kind line st (c + 20)

abbrev pub RaiseRuns : Type 0
RaiseRuns = (g : Setting) (calls : Calls) (relation : Relation) (left right : ℕ) (kind : Kind) (line : ℕ) (st : State) (c : ℕ) →
    run g calls (raise_unless relation left right kind line) st c ≡ two st left right (c + 13) (λ v w. raised_unless (holds relation v w) (kind_number kind) line st (c + 13))

abbrev pub cycle : Bool → Cycle
cycle marked = record { marked = marked; parameters = []; results = []; to = [] }

abbrev pub OnceRuns : Type 0
OnceRuns = (g : Setting) (calls : Calls) (ops : List Op) (st : State) (c : ℕ) → run g calls (once ops) st c ≡ looped (cycle false) [] (run_list g calls ops) st c

abbrev pub RepeatRuns : Type 0
RepeatRuns = (g : Setting) (calls : Calls) (ops : List Op) (st : State) (c : ℕ) → run g calls (repeat ops) st c ≡ looped (cycle true) [] (run_list g calls ops) st c
