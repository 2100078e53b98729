-- What stands outside a command.
use Rattle.std.specs.Prelude.{◌≡◌, ℕ, List, Option, Some}
use Rattle.std.specs.FinMap as map
use Rattle.tu_base.specs.declared.event.Event.{Event}
use Rattle.tu_base.specs.Files.{Files}
use Rattle.rv_host.specs.Told.{Told}

-- what console and cabinet hold, where they tell it, and how often they have failed
pub record Outside : Type 0 where
  pub left : Option (List ℕ)
  pub events : Option (List Event)
  pub files : Option Files
  pub console_faults : ℕ
  pub cabinet_faults : ℕ

abbrev pub told_of : Outside → Told
told_of outside = record { left = outside.left; events = outside.events; files = outside.files }

-- console and cabinet tell that they hold these
pub record Tells (outside : Outside) (input : List ℕ) (events : List Event) (files : Files) : Type 0 where
  pub left : outside.left ≡ Some input
  pub done : outside.events ≡ Some events
  pub kept : outside.files ≡ Some files

-- these files are told, and one of them has this contents
pub record HoldsFile (told : Option Files) (file contents : List ℕ) : Type 0 where
  pub files : Files
  pub known : told ≡ Some files
  pub found : map.get files file ≡ Some contents
