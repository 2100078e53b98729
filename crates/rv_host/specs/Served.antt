-- What a host does about a service, and what console, cabinet and streams hold of it.
use Rattle.std.specs.Prelude.{◌≡◌, ◌≢◌, ◌≤◌, ℕ, true, false, List, [], length, nat_le, ◌==◌, if◌then◌else◌, replicate, Option, Some, None, Result, Ok, Err}
use Rattle.std.specs.FinMap as finite
use Rattle.tu_base.specs.declared.limits.TheConstants.{MOST_FILE_BYTES}
use Rattle.tu_base.specs.declared.event.Event.{Event}
use Rattle.tu_base.specs.Files.{Files}
use Rattle.tu_base.specs.Kind.{kind_number}
use Rattle.rv_isa.specs.declared.service.Service.{Service}
use Rattle.rv_isa.specs.declared.service.Service.TheVariants.{End, Stop, PutConsole, GetConsole, Open, Close, PutStream, GetStream, State}
use Rattle.rv_image.specs.Streams.{Folder, Holding, Stream, Free, Reading, Writing, World, AtItsEnd, StoppedBy, Served, Finishes, Replies}
use Rattle.rv_host.specs.Told.{Told, ShowsTrace, ShowsPart}
use Rattle.rv_host.specs.Slots.{shown}
use Rattle.rv_host.specs.declared.stream.Stream.{Stream as Slot}
use Rattle.rv_host.specs.declared.service.Reply.{Reply}
use Rattle.rv_host.specs.declared.service.Reply.TheVariants.{Word, Ended, Stopped}
use Rattle.rv_host.specs.declared.service.ServiceError.{ServiceError}
use Rattle.rv_host.specs.declared.service.ServiceError.TheVariants.{Console}

-- what console and cabinet tell, and the streams
pub record Seen : Type 0 where
  pub told : Told
  pub streams : List Stream

abbrev pub seen : Option (List ℕ) → Option (List Event) → Option Files → List Stream → Seen
seen left events files streams = record { told = record { left = left; events = events; files = files }; streams = streams }

-- What is seen is what a world has, over the events and the files before the run.
pub record ShowsWorld (events : List Event) (files : Files) (now : Seen) (w : World) : Type 0 where
  pub input : now.told.left ≡ Some w.left
  pub shows : ShowsTrace events files w.trace now.told
  pub streams : now.streams ≡ w.streams

-- Before the program has asked to open a stream, none is open.
abbrev pub IsClosed : World → Type 0
IsClosed w = w.opened ≡ false → w.streams ≡ replicate 10 Free

-- the reply stands for this
abbrev pub served_as : Reply → World → Served
served_as (Word reply) w = Replies reply w
served_as Ended w = Finishes AtItsEnd w
served_as (Stopped kind line) w = Finishes (StoppedBy (kind_number kind) line) w

abbrev pub world_of : Served → World
world_of (Finishes how w) = w
world_of (Replies reply w) = w

-- the reply is the one that the service is to have, and the world after it is seen
pub record IsServed (reply : Reply) (service : Served) (events : List Event) (files : Files) (now : Seen) : Type 0 where
  pub world : World
  pub is : service ≡ served_as reply world
  pub told : ShowsWorld events files now world

-- A service was not done, or only a first part of it, and all that was done before it is there. But for the console a service is
-- cut off only where the program has asked to open a stream.
pub record IsCut (error : ServiceError) (w : World) (service : Served) (events : List Event) (files : Files) (told : Told) : Type 0 where
  pub part : ShowsPart events files w.trace (world_of service).trace told
  pub opened : error ≢ Console → IsClosed w → (world_of service).opened ≡ true

-- what the result of a service says, which came to a world
abbrev pub IsDone : Result Reply ServiceError → World → Served → List Event → Files → Seen → Type 0
IsDone (Ok reply) w service events files now = IsServed reply service events files now
IsDone (Err error) w service events files now = IsCut error w service events files now.told

-- the same of each world that may have been before it
abbrev pub Serves : (Folder → World → Served) → Seen → Seen → Result Reply ServiceError → Type 0
Serves service before after result =
    (w : World) (events : List Event) (files : Files) → ShowsWorld events files before w → IsDone result w (service (Holding files) w) events files after

-- the stream that is opened to read a file
abbrev pub reading_of : List ℕ → Option (List ℕ) → Option Stream
reading_of name None = None
reading_of name (Some contents) = if nat_le (length contents) MOST_FILE_BYTES then Some (Reading name contents) else None

-- the stream that is opened, where there are these files
abbrev pub opened_of : Files → List ℕ → ℕ → Option Stream
opened_of files name mode = if mode == 0 then reading_of name (finite.get files name) else Some (Writing name [])

abbrev pub shown_option : Option Slot → Option Stream
shown_option None = None
shown_option (Some slot) = Some (shown slot)

-- an exception has a number from 1 to 21
abbrev pub HasKind : Service → Type 0
HasKind End = Unit {0}
HasKind (Stop kind line) = (1 ≤ kind) × (kind ≤ 21)
HasKind (PutConsole at size) = Unit {0}
HasKind GetConsole = Unit {0}
HasKind (Open at size mode) = Unit {0}
HasKind (Close stream) = Unit {0}
HasKind (PutStream stream at size) = Unit {0}
HasKind (GetStream stream) = Unit {0}
HasKind (State stream) = Unit {0}
