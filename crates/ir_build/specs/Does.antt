-- Code that does a step of the meaning, in its place behind the code so far.
use Rattle.std.specs.Prelude.{◌≡◌, ℕ, ◌<◌, ◌≤◌, Bool, List, ◌++◌}
use Rattle.tu_base.specs.Trace.{Trace}
use Rattle.rv_image.specs.Streams.{traced}
use Rattle.ir_form.specs.declared.op.Op.{Op}
use Rattle.ir_form.specs.Meaning.{run_list}
use Rattle.ir_form.specs.Plain.{Calls}
use Rattle.ir_form.specs.State.{State as CodeState}
use Rattle.ir_code.specs.declared.code.Code.{Code}
use Rattle.tu_tree_meaning.specs.Steps.{State, Step}
use Rattle.tu_tree_meaning.specs.Store.{Store}
use Rattle.tu_tree_meaning.specs.Values.{Value}
use Rattle.ir_build.specs.Keeps.{Site, Holds, Keeps, Gives, Tells}
use Rattle.ir_build.specs.Code.{Made, Tested}

-- The step gives an int, which is the code's value.
pub record Does (x : Site) (calls : Calls) (m : Step Store Value) (code : Code) (made : Made) : Type 0 where
  pub ops : List Op
  pub is : made.code.ops ≡ code.ops ++ ops
  pub more : code.next ≤ made.code.next
  pub value : made.value < made.code.next
  pub keeps : (left : ℕ) (s : State Store) (st : CodeState) (c : ℕ) (tr : Trace) (b : ℕ) → Holds x left s st c → st.world ≡ traced x.world tr → c ≤ b → Keeps x (Gives x left made.value code.next st.env) tr b (m s) (run_list x.setting calls ops st c)

-- The step gives a truth value, which two values of the code tell by how they compare.
pub record TestDoes (x : Site) (calls : Calls) (m : Step Store Bool) (code : Code) (t : Tested) : Type 0 where
  pub ops : List Op
  pub is : t.code.ops ≡ code.ops ++ ops
  pub more : code.next ≤ t.code.next
  pub first_below : t.left < t.code.next
  pub second_below : t.right < t.code.next
  pub keeps : (left : ℕ) (s : State Store) (st : CodeState) (c : ℕ) (tr : Trace) (b : ℕ) → Holds x left s st c → st.world ≡ traced x.world tr → c ≤ b → Keeps x (Tells x left t.comparison t.left t.right code.next st.env) tr b (m s) (run_list x.setting calls ops st c)
