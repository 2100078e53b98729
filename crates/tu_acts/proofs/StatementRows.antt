-- The acts of rows of statements are those of their elements.
use Rattle.std.specs.Prelude.{List, [], ◌∷◌, map, Option}
use Rattle.std.proofs.Common.{refl}
use Rattle.tu_core.specs.declared.names.At.{At}
use Rattle.tu_core.specs.declared.names.Variable.{Variable}
use Rattle.tu_core.specs.Core.{Start, Block}
use Rattle.tu_core.specs.Acts.{Act, Declaring, arms_acts, block_acts, otherwise_acts, shown_acts, starts_acts, taken_acts}
use Rattle.tu_core_types.specs.declared.plain.Shown.{Shown}
use Rattle.tu_core_types.specs.declared.plain.Taken.{Taken}
use Rattle.tu_core_types.specs.declared.statement.Elsif.{Elsif}
use Rattle.tu_core_types.specs.declared.statement.Arm.{Arm}
use Rattle.tu_core_types.specs.declared.statement.Part.{Part}
use Rattle.tu_core_types.specs.StatementViews.{starts_view, shown_view, taken_view, elsifs_view, arms_view, parts_view}
use Rattle.tu_acts.proofs.Adding.{Adds}

abbrev pub all_starts : List Start → List Act
all_starts xs = starts_acts (starts_view xs)

abbrev pub declares : At → Variable → List Act
declares at x = Declaring at x ∷ []

pub add_variables : (at : At) → Adds (map (Declaring at)) (declares at) []
add_variables at = record { none = refl; more = λ x xs. refl }

abbrev pub all_shown : List Shown → List Act
all_shown xs = shown_acts (shown_view xs)

abbrev pub all_taken : List Taken → List Act
all_taken xs = taken_acts (taken_view xs)

abbrev pub all_elsifs : Block → List Elsif → List Act
all_elsifs last xs = otherwise_acts (elsifs_view xs last)

abbrev pub all_arms : Option Block → List Arm → List Act
all_arms last xs = arms_acts (arms_view xs last)

abbrev pub all_parts : List Part → List Act
all_parts xs = block_acts (parts_view xs)
