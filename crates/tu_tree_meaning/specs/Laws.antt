-- The laws of a meaning in the number of turns, whatever F says of the files that can be opened.
use Rattle.std.specs.Prelude.{◌≡◌, ◌≢◌, ℕ, ◌+◌, ◌≤◌, List}
use Rattle.tu_base.specs.declared.event.Verdict.TheVariants.{Going}
use Rattle.tu_tree_meaning.specs.Meaning.{Meant}
use Rattle.tu_base.specs.Prefix.{IsPrefix}

-- what is meant on an input, with files, within so many turns
abbrev pub Meaning : Type 0 → Type 0
Meaning F = (input : List ℕ) → (files : F) → (t : ℕ) → Meant

-- a verdict other than Going is the same at each larger number of turns, with its trace and its units
abbrev pub IsFinal : {F : Type 0} → Meaning F → Type 0
IsFinal {F} m = (input : List ℕ) (files : F) (t u : ℕ) → t ≤ u → (m input files t).verdict ≢ Going → m input files u ≡ m input files t

-- with one more turn the trace only goes on
abbrev pub TraceGrows : {F : Type 0} → Meaning F → Type 0
TraceGrows {F} m = (input : List ℕ) (files : F) (t : ℕ) → IsPrefix (m input files t).trace (m input files (t + 1)).trace

-- with one more turn the units do not fall
abbrev pub UnitsGrow : {F : Type 0} → Meaning F → Type 0
UnitsGrow {F} m = (input : List ℕ) (files : F) (t : ℕ) → (m input files t).units ≤ (m input files (t + 1)).units
