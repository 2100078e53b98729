-- What assigned code keeps of linear code, and when it is lawful.
use Rattle.std.specs.Prelude.{◌≢◌, ℕ, List, length, All}
use Rattle.rv_image.specs.Streams.{Folder}
use Rattle.ir_form.specs.Place.{Place, IsPlace}
use Rattle.ir_form.specs.State.{Stuck}
use Rattle.rv_flat.specs.declared.linear.Linear.{Linear}
use Rattle.rv_flat.specs.declared.linear.LinearRoutine.{LinearRoutine}
use Rattle.rv_flat.specs.Parts.{HasItsLabels, TakesOnce}
use Rattle.rv_flat.specs.Keeps.{Cheaper}
use Rattle.rv_flat.specs.Lawful.{IsSoundLinear}
use Rattle.rv_flat.specs.Units.{linear_meaning}
use Rattle.rv_alloc.specs.declared.assigned.Assigned.{Assigned}
use Rattle.rv_alloc.specs.Assigned.{assigned_meaning}

-- wherever things lie, on every input and over every folder, within all bounds
pub record Keeps (l : Linear) (a : Assigned) : Type 0 where
  pub keeps : (place : Place) (input : List ℕ) (folder : Folder) (t s : ℕ) → Cheaper (assigned_meaning a place input folder t s) (linear_meaning l place input folder t s)

-- lawful assigned code: what it names is there, its labels stand once, it takes no value twice at once, and no run of it is stuck
pub record IsLawful (a : Assigned) : Type 0 where
  pub sound : IsSoundLinear a.linear
  pub labels : All (λ (r : LinearRoutine). HasItsLabels r.code) a.linear.routines
  pub once : All TakesOnce a.linear.routines
  pub never_stuck : (place : Place) (input : List ℕ) (folder : Folder) (t s : ℕ) → IsPlace place (length a.linear.texts) → (assigned_meaning a place input folder t s).verdict ≢ Stuck
