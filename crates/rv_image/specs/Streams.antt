-- The services of a host: a console, and files by streams.
use Rattle.std.specs.Prelude.{ℕ, zero, suc, ◌+◌, ◌-◌, ◌%◌, Bool, true, false, ◌==◌, nat_le, ◌&&◌, ◌||◌, not, if◌then◌else◌, List, [], ◌∷◌, ◌++◌, length, map, replicate, Option, Some, None, slice_get, slice_set}
use Rattle.std.specs.List.{list_all, list_any}
use Rattle.std.specs.Char.{is_ascii_alphanumeric}
use Rattle.std.specs.Ordering.{nat_cmp, eq_by_cmp}
use Rattle.std.specs.Cmp.Lexicographic.{slice_cmp}
use Rattle.std.specs.FinMap as finite
use Rattle.tu_base.specs.declared.limits.TheConstants.{MOST_FILE_BYTES}
use Rattle.tu_base.specs.Files.{Files}
use Rattle.tu_base.specs.Trace.{Put, Got, AtEnd, Keep, Trace, files_of}
use Rattle.rv_isa.specs.Memory.{Memory, byte_at}
use Rattle.rv_isa.specs.declared.service.Service.{Service}
use Rattle.rv_isa.specs.declared.service.Service.TheVariants.{End, Stop, PutConsole, GetConsole, Open, Close, PutStream, GetStream, State}

-- Example: a program reads two bytes of the input 7 and ends. Its world begins as `start_world (7 ∷ [])`. The first GetConsole replies 7 and adds
-- `Got 7`, the second replies `no_byte` and adds `AtEnd`, and End finishes with the trace `Got 7 ∷ AtEnd ∷ []` and nothing left.
-- Example: with the file `a` of the byte 5, Open of `a` to be read replies 1, the least free stream; GetStream 1 replies 5 and then `no_byte`;
-- Close 1 replies 0, and a second Close 1 replies 1, as the stream is free again. Reading a file adds nothing to the trace. A file that is
-- written adds its `Keep` where it is closed, or where the program ends or is stopped.

-- what can be opened: nothing at all, or these files and those that are kept in the run
pub data Folder : Type 0 where
  Closed : Folder
  Holding : (files : Files) → Folder

-- A stream is free, or reads what is left of a file, or has written this much of one.
pub data Stream : Type 0 where
  Free : Stream
  Reading : (name left : List ℕ) → Stream
  Writing : (name contents : List ℕ) → Stream

-- the input still to come, what was done so far, the streams from 1 to 10, and whether the program has asked to open one, which no service
-- looks at: a host takes no memory before that
pub record World : Type 0 where
  pub left : List ℕ
  pub trace : Trace
  pub streams : List Stream
  pub opened : Bool

abbrev pub start_world : List ℕ → World
start_world input = record { left = input; trace = []; streams = replicate 10 Free; opened = false }

-- how a program is over: at its end, or stopped by the exception of this number at a line
pub data Over : Type 0 where
  AtItsEnd : Over
  StoppedBy : (kind line : ℕ) → Over

-- what the host does about a service: it is the last one, or there is a reply
pub data Served : Type 0 where
  Finishes : (how : Over) → (world : World) → Served
  Replies : (reply : ℕ) → (world : World) → Served

-- the size bytes from a on
abbrev pub bytes_at : Memory → ℕ → ℕ → List ℕ
bytes_at m a zero = []
bytes_at m a (suc size) = byte_at m a ∷ bytes_at m (a + 1) size

-- the reply where there is no byte
abbrev pub no_byte : ℕ
no_byte = 4294967295

abbrev pub traced : World → Trace → World
traced w actions = record w { trace = w.trace ++ actions }

abbrev pub stream : World → ℕ → Stream
stream w zero = Free
stream w (suc i) = elim (slice_get w.streams i) [ Some s ↦ s | None ↦ Free ]

abbrev pub with_stream : World → ℕ → Stream → World
with_stream w i s = record w { streams = slice_set w.streams (i - 1) s }

-- the files that are written are kept, in the order of their streams
abbrev pub kept : List Stream → Trace
kept [] = []
kept (Free ∷ streams) = kept streams
kept (Reading name left ∷ streams) = kept streams
kept (Writing name contents ∷ streams) = Keep name contents ∷ kept streams

-- The byte that is taken of a number of an input or of a file: its remainder by 256. A number that is a byte is taken as it is, so that
-- the lists of all numbers need no premise: of 300 the byte 44 is taken, and of 4294967295 the byte 255, which is not `no_byte`.
abbrev pub taken : ℕ → ℕ
taken b = b % 256

-- A byte of the console. `AtEnd` is added at each read at the end; that a program reads there once at most is the program's doing.
abbrev pub got : World → List ℕ → Served
got w [] = Replies no_byte (traced w (AtEnd ∷ []))
got w (b ∷ left) = Replies (taken b) (record w { left = left; trace = w.trace ++ Got (taken b) ∷ [] })

-- a letter, a digit, `.`, `_` or `-`
abbrev pub is_name_byte : ℕ → Bool
is_name_byte b = is_ascii_alphanumeric b || ((b == 46) || ((b == 95) || (b == 45)))

abbrev pub begins_well : List ℕ → Bool
begins_well [] = false
begins_well (b ∷ name) = not ((b == 46) || (b == 45))

-- from 1 to 64 such bytes, the first of them neither `.` nor `-`
abbrev pub is_file_name : List ℕ → Bool
is_file_name name = begins_well name && (nat_le (length name) 64 && list_all is_name_byte name)

abbrev pub is_named : List ℕ → Stream → Bool
is_named name Free = false
is_named name (Reading other left) = eq_by_cmp (slice_cmp nat_cmp) name other
is_named name (Writing other contents) = eq_by_cmp (slice_cmp nat_cmp) name other

-- the least free stream from i on, or 0
abbrev pub free_stream : List Stream → ℕ → ℕ
free_stream [] i = 0
free_stream (Free ∷ streams) i = i
free_stream (Reading name left ∷ streams) i = free_stream streams (i + 1)
free_stream (Writing name contents ∷ streams) i = free_stream streams (i + 1)

abbrev pub reads : World → ℕ → List ℕ → Option (List ℕ) → Served
reads w i name None = Replies 0 w
reads w i name (Some contents) = if nat_le (length contents) MOST_FILE_BYTES then Replies i (with_stream w i (Reading name contents)) else Replies 0 w

abbrev pub opens_at : Folder → World → ℕ → List ℕ → ℕ → Served
opens_at Closed w i name mode = Replies 0 w
opens_at (Holding files) w i name mode = if mode == 0 then reads w i name (finite.get (files_of files w.trace) name) else Replies i (with_stream w i (Writing name []))

-- The reply is the least free stream. It is 0 where no stream is free, the name is not allowed, a stream with that name is open, or a file
-- that is to be read is absent or above 16,777,216 bytes.
abbrev pub opens : Folder → World → List ℕ → ℕ → Served
opens folder w name mode =
    let i = free_stream w.streams 1 in
    if not (i == 0) && (is_file_name name && not (list_any (is_named name) w.streams)) then opens_at folder w i name mode else Replies 0 w

abbrev pub closes : World → ℕ → Stream → Served
closes w i Free = Replies 1 w
closes w i (Reading name left) = Replies 0 (with_stream w i Free)
closes w i (Writing name contents) = Replies 0 (traced (with_stream w i Free) (Keep name contents ∷ []))

abbrev pub puts : World → ℕ → List ℕ → Stream → Served
puts w i bytes Free = Replies 1 w
puts w i bytes (Reading name left) = Replies 1 w
puts w i bytes (Writing name contents) =
    if nat_le (length contents + length bytes) MOST_FILE_BYTES then Replies 0 (with_stream w i (Writing name (contents ++ bytes))) else Replies 2 w

abbrev pub gets : World → ℕ → Stream → Served
gets w i Free = Replies no_byte w
gets w i (Reading name []) = Replies no_byte w
gets w i (Reading name (b ∷ left)) = Replies (taken b) (with_stream w i (Reading name left))
gets w i (Writing name contents) = Replies no_byte w

abbrev pub state : Stream → ℕ
state Free = 0
state (Reading name left) = 1
state (Writing name contents) = 2

abbrev pub served : Folder → Memory → Service → World → Served
served folder m End w = Finishes AtItsEnd (traced w (kept w.streams))
served folder m (Stop kind line) w = Finishes (StoppedBy kind line) (traced w (kept w.streams))
served folder m (PutConsole at size) w = Replies 0 (traced w (map Put (bytes_at m at size)))
served folder m GetConsole w = got w w.left
served folder m (Open at size mode) w = opens folder (record w { opened = true }) (bytes_at m at size) mode
served folder m (Close i) w = closes w i (stream w i)
served folder m (PutStream i at size) w = puts w i (bytes_at m at size) (stream w i)
served folder m (GetStream i) w = gets w i (stream w i)
served folder m (State i) w = Replies (state (stream w i)) w
