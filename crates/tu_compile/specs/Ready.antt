-- What the passes need of a code, and what they say of the code that they make.
use Rattle.std.specs.Prelude.{◌≡◌, ℕ, ◌*◌, ◌≤◌, length}
use Rattle.std.specs.List.{AllZip}
use Rattle.tu_base.specs.declared.limits.TheConstants.{MOST_LITERAL_BYTES}
use Rattle.rv_image.specs.Picture.{Picture}
use Rattle.ir_form.specs.declared.unit.Unit.{Unit as RegionUnit}
use Rattle.ir_form.specs.Lawful.{IsLawful as IsLawfulUnit}
use Rattle.ir_form.specs.Valid.{IsValid}
use Rattle.ir_form.specs.Weight.{unit_weight}
use Rattle.rv_flat.specs.declared.linear.Linear.{Linear}
use Rattle.rv_flat.specs.Lawful.{IsLawful as IsLawfulLinear}
use Rattle.rv_flat.specs.Parts.{KeepsParts, IsUnguarded, IsUnguardedUnit}
use Rattle.rv_flat.specs.Size.{linear_size}
use Rattle.rv_alloc.specs.declared.assigned.Assigned.{Assigned}
use Rattle.rv_alloc.specs.Assigned.{placed_code, assigned_size}
use Rattle.rv_alloc.specs.Holds.{HoldsRoutine, IsSlotted, HasRoom}
use Rattle.rv_alloc.specs.Keeps.{IsLawful as IsLawfulAssigned}
use Rattle.rv_text.specs.Text.{image_of}

-- how much a unit weighs at most, how many words of text its code then takes at most, and how many bytes its literals have at most
abbrev pub most_weight : ℕ
most_weight = 1179648

abbrev pub most_words : ℕ
most_words = 14 * most_weight

abbrev pub most_texts : ℕ
most_texts = MOST_LITERAL_BYTES

-- region code that can become linear code; the emitter makes no instructions of Guards yet
pub record IsReadyUnit (unit : RegionUnit) : Type 0 where
  pub valid : IsValid unit
  pub lawful : IsLawfulUnit unit
  pub unguarded : IsUnguardedUnit unit
  pub weight : unit_weight unit ≤ most_weight
  pub texts : length unit.texts ≤ most_texts

-- linear code that can be given places for its values
pub record IsReadyLinear (linear : Linear) : Type 0 where
  pub lawful : IsLawfulLinear linear
  pub unguarded : IsUnguarded linear
  pub size : linear_size linear ≤ most_words
  pub texts : length linear.texts ≤ most_texts

-- what holds of a unit and its linear code
pub record IsFlattened (unit : RegionUnit) (linear : Linear) : Type 0 where
  pub ready : IsReadyLinear linear
  pub parts : KeepsParts unit linear

-- assigned code, with each value in a slot, that can become instructions of the machine
pub record IsReadyAssigned (assigned : Assigned) : Type 0 where
  pub lawful : IsLawfulAssigned assigned
  pub unguarded : IsUnguarded assigned.linear
  pub places : AllZip HoldsRoutine assigned.linear.routines assigned.places
  pub slots : AllZip IsSlotted assigned.linear.routines assigned.places
  pub room : AllZip HasRoom assigned.linear.routines assigned.places
  pub size : assigned_size assigned ≤ most_words
  pub texts : length assigned.linear.texts ≤ most_texts

-- what holds of linear code and its places
pub record IsAssigned (linear : Linear) (assigned : Assigned) : Type 0 where
  pub ready : IsReadyAssigned assigned
  pub code : assigned.linear ≡ linear

-- what holds of a unit and its assigned code
pub record IsPlacedCode (unit : RegionUnit) (assigned : Assigned) : Type 0 where
  pub ready : IsReadyAssigned assigned
  pub parts : KeepsParts unit assigned.linear

-- an image is that of a unit's assigned code
pub record IsImageOfUnit (unit : RegionUnit) (image : Picture) : Type 0 where
  pub assigned : Assigned
  pub placed : IsPlacedCode unit assigned
  pub is : image ≡ image_of (placed_code assigned)
