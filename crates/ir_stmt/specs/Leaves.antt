-- How the code of a statement ends.
use Rattle.std.specs.Prelude.{◌≡◌, ℕ, Bool, true, []}
use Rattle.ir_form.specs.State.{State as CodeState, How, Next as goes_on, Left}
use Rattle.tu_tree_meaning.specs.Interpreter.{Flow, Next, Exits}
use Rattle.tu_tree_meaning.specs.Steps.{State}
use Rattle.tu_tree_meaning.specs.Store.{Store}
use Rattle.ir_build.specs.Keeps.{Site, Holds}

-- It goes on, or leaves the innermost loop of the program, which lies so many loops outside. There is one where it is inside one.
abbrev pub LeftAs : (is_inside : Bool) → (outside : ℕ) → Flow → How → Type 0
LeftAs is_inside outside Next how = how ≡ goes_on
LeftAs is_inside outside Exits how = (how ≡ Left outside []) × (is_inside ≡ true)

pub record Leaves (x : Site) (left : ℕ) (is_inside : Bool) (outside : ℕ) (flow : Flow) (s : State Store) (how : How) (st : CodeState) (c : ℕ) : Type 0 where
  pub way : LeftAs is_inside outside flow how
  pub holds : Holds x left s st c

-- It goes on.
pub record GoesOn (x : Site) (left : ℕ) (u : Unit {0}) (s : State Store) (how : How) (st : CodeState) (c : ℕ) : Type 0 where
  pub way : how ≡ goes_on
  pub holds : Holds x left s st c
