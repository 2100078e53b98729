-- What calls of a console record.
use Rattle.std.specs.Prelude.{◌≡◌, ℕ, List, [], ◌∷◌, map, Option, Some, None}
use Rattle.tu_base.specs.declared.event.Event.{Event}
use Rattle.tu_base.specs.declared.event.Event.TheVariants.{Put, Got, AtEnd}
use Rattle.tu_outside.specs.Told.{with_first}

-- bytes that were written
abbrev pub puts : List ℕ → List Event
puts bytes = map Put bytes

-- a byte that was read, or the end that was seen
abbrev pub got : Option ℕ → List Event
got (Some byte) = Got byte ∷ []
got None = AtEnd ∷ []

-- what is left of the input lost its first byte, or was empty and stays so
abbrev pub Takes : Option (List ℕ) → Option ℕ → Option (List ℕ) → Type 0
Takes old (Some byte) new = old ≡ with_first byte new
Takes old None new = (new ≡ old) × ((bytes : List ℕ) → old ≡ Some bytes → bytes ≡ [])
