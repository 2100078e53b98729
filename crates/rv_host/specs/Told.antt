-- What console and cabinet tell of a run.
use Rattle.std.specs.Prelude.{◌≡◌, ℕ, List, ◌++◌, Option, Some}
use Rattle.tu_base.specs.declared.event.Event.{Event}
use Rattle.tu_base.specs.Files.{Files}
use Rattle.tu_base.specs.Prefix.{IsPrefix}
use Rattle.tu_base.specs.Trace.{Trace, events_of, files_of}

-- the input still to come, what was written and read so far, and the files
pub record Told : Type 0 where
  pub left : Option (List ℕ)
  pub events : Option (List Event)
  pub files : Option Files

-- They tell all of a trace: its events behind those before it, and what it does to the opening files.
pub record ShowsTrace (events : List Event) (files : Files) (trace : Trace) (told : Told) : Type 0 where
  pub done : told.events ≡ Some (events ++ events_of trace)
  pub kept : told.files ≡ Some (files_of files trace)

-- They tell a first part of a trace, and no less than what was due.
pub record ShowsPart (events : List Event) (files : Files) (due trace : Trace) (told : Told) : Type 0 where
  pub done : Trace
  pub shows : ShowsTrace events files done told
  pub nothing_held_back : IsPrefix due done
  pub nothing_else : IsPrefix done trace
