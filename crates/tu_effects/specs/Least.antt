-- The first of the places where something holds.
use Rattle.std.specs.Prelude.{Bool, nat_lt, ◌≤◌, Option, Some, None, if◌then◌else◌}
use Rattle.tu_core.specs.declared.names.At.{At}

abbrev pub earlier : Option At → Option At → Option At
earlier None second = second
earlier (Some one) None = Some one
earlier (Some one) (Some other) = if nat_lt other.start one.start then Some other else Some one

abbrev pub at_if : Bool → At → Option At
at_if holds at = if holds then Some at else None

-- the first of the places, or that there is none
abbrev pub IsLeast : (At → Type 0) → Option At → Type 0
IsLeast Has None = (at : At) → Has at → ⊥
IsLeast Has (Some least) = Has least × ((at : At) → Has at → least.start ≤ at.start)
