use Rattle.tu_core.proofs.WellTyped.{well_formed_is_typed}
use Rattle.tu_core.proofs.laws.well_formed_is_typed.Goals as goal

pub returns : goal.returns
returns c program = well_formed_is_typed program
