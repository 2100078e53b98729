-- The acts of all texts of a program.
use Rattle.std.specs.Prelude.{◌≡◌, map}
use Rattle.tu_core.specs.Core.{Program}
use Rattle.tu_core.specs.Acts.{main_acts, routine_acts}
use Rattle.tu_acts.specs.declared.routines.Texts.{Texts}

abbrev pub AreTexts : Program → Texts → Type 0
AreTexts program texts = (texts.main ≡ main_acts program) × (texts.routines ≡ map routine_acts program.routines)
