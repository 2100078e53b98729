-- What the list of changed locals says.
use Rattle.std.specs.Prelude.{◌≡◌, ℕ}
use Rattle.tu_core.specs.declared.names.Variable.TheVariants.{Local}
use Rattle.tu_core.specs.Core.{Block}
use Rattle.tu_core.specs.Measures.{of_block}
use Rattle.tu_core.specs.Rooms.{changes}
use Rattle.tu_room_changes.specs.Changed.{times, changed}

abbrev pub TellsChanges : (x : ℕ) → Block → Type 0
TellsChanges x text = times x (of_block changed text) ≡ of_block (changes (Local x)) text
