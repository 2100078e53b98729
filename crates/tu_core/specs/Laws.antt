-- What the test of cores says of a program.
use Rattle.std.specs.Prelude.{◌≡◌, true}
use Rattle.tu_core.specs.Core.{Program}
use Rattle.tu_core.specs.Typed.{IsTyped}
use Rattle.tu_core.specs.WellFormed.{is_well_formed}

-- The rules on overlap can rest on it.
abbrev pub WellFormedIsTyped : Program → Type 0
WellFormedIsTyped program = is_well_formed program ≡ true → IsTyped program
