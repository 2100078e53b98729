-- Rounds that are no turns, and what a loop comes to.
use Rattle.std.proofs.Common.{◌≡◌, ℕ, zero, suc, ◌+◌, ◌≤◌, List, Bool, true, false, Some, refl, ap, ◌∙◌, arith}
use Rattle.ir_form.specs.Cells.{Cells}
use Rattle.ir_form.specs.State.{Env, State, Run, next, begins, other_from}
use Rattle.rt_stream.proofs.Buffer.{Known, Lies}

-- a round begins, where another one is left
pub record Begun (again : Bool) (st : State) (c : ℕ) : Type 0 where
  pub others : ℕ
  pub is : begins false again st c ≡ next (record st { others = others }) c
  pub enough : st.others ≤ others + 1

pub begun_by : (again : Bool) (o : ℕ) (st : State) (c : ℕ) → st.others ≡ o → 1 ≤ o → Begun again st c
begun_by false o st c e le = record { others = st.others; is = refl; enough = omega arith }
begun_by true zero st c e le = absurd (omega arith)
begun_by true (suc o) st c e le = record { others = o; is = ap (λ z. other_from z st c) e; enough = omega arith }

-- A run goes on. It changes values, cells of the buffer and other rounds alone, of which it takes at most so many; the bytes now lie in the buffer
-- up to its end, and the value is where they begin.
pub record Comes (word width base : ℕ) (before : Cells) (value : ℕ) (bytes : List ℕ) (used most : ℕ) (st : State) (c : ℕ) (r : Run) : Type 0 where
  pub env : Env
  pub cells : Cells
  pub others : ℕ
  pub cost : ℕ
  pub at : ℕ
  pub is : r ≡ next (record st { env = env; cells = cells; others = others }) cost
  pub first : env value ≡ Some at
  pub known : Known word width (base + 256) env
  pub lies : Lies base before at bytes cells
  pub left : st.others ≤ others + used
  pub paid : st.others + c ≤ others + cost
  pub begun : c ≤ cost
  pub bound : cost ≤ c + most

-- what a run comes to that goes on as another one does, from a state with other values, cells and other rounds
pub carried : {word width base value : ℕ} {before : Cells} {bytes : List ℕ} {u m : ℕ} (used most : ℕ) (st : State) (c : ℕ) (env : Env) (cells : Cells) (others i : ℕ) {q r : Run} → q ≡ r → Comes word width base before value bytes u m (record st { env = env; cells = cells; others = others }) i r → st.others + u ≤ others + used → st.others + c ≤ others + i → c ≤ i → i + m ≤ c + most → Comes word width base before value bytes used most st c q
carried {u = u} {m = m} used most st c env cells others i e p enough paid le bound = record {
  env = p.env;
  cells = p.cells;
  others = p.others;
  cost = p.cost;
  at = p.at;
  is = e ∙ p.is;
  first = p.first;
  known = p.known;
  lies = p.lies;
  left = let w : others ≤ p.others + u = p.left in omega arith;
  paid = let w : others + i ≤ p.others + p.cost = p.paid in omega arith;
  begun = let w : i ≤ p.cost = p.begun in omega arith;
  bound = let w : p.cost ≤ i + m = p.bound in omega arith;
}
