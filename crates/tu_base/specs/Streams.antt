-- The streams that a program has open.
use Rattle.std.specs.Prelude.{ℕ, zero, suc, ◌+◌, ◌-◌, ◌==◌, Bool, true, false, not, ◌&&◌, ◌||◌, List, [], ◌∷◌, ◌++◌, length, replicate, Option, Some, None, ℤ, pos, unsigned_abs, int_le, nat_le, slice_get, slice_set, if◌then◌else◌}
use Rattle.std.specs.List.{list_all, list_any}
use Rattle.tu_base.specs.declared.limits.TheConstants.{MOST_FILE_BYTES}
use Rattle.tu_base.specs.Trace.{Trace, Keep}
use Rattle.tu_base.specs.Texts.{are_equal_texts, is_digit}
use Rattle.tu_base.specs.Reading.{Source, source_of}

-- for `get` what its file had as it was opened, for `put` what was put so far
pub data Stream : Type 0 where
  Reads : (name : List ℕ) → Source → Stream
  Writes : (name contents : List ℕ) → Stream

-- ten streams, by their numbers from 1
abbrev pub Streams : Type 0
Streams = List (Option Stream)

abbrev pub most_streams : ℕ
most_streams = 10

abbrev pub no_streams : Streams
no_streams = replicate most_streams None

abbrev pub stream_from : Streams → ℕ → Option Stream
stream_from streams zero = None
stream_from streams (suc k) = elim (slice_get streams k) [ None ↦ None | Some s ↦ s ]

abbrev pub stream_at : Streams → ℤ → Option Stream
stream_at streams k = if int_le (pos 1) k then stream_from streams (unsigned_abs k) else None

abbrev pub with_stream : Streams → ℤ → Option Stream → Streams
with_stream streams k s = slice_set streams (unsigned_abs k - 1) s

abbrev pub name_of : Stream → List ℕ
name_of (Reads name source) = name
name_of (Writes name contents) = name

abbrev pub is_named : List ℕ → Option Stream → Bool
is_named name None = false
is_named name (Some s) = are_equal_texts (name_of s) name

-- the least free number from k on, or 0
abbrev pub free_from : (k : ℕ) → Streams → ℕ
free_from k [] = 0
free_from k (None ∷ more) = k
free_from k (Some s ∷ more) = free_from (suc k) more

abbrev pub is_letter : ℕ → Bool
is_letter b = (nat_le 65 b && nat_le b 90) || (nat_le 97 b && nat_le b 122)

-- a letter, a digit, `.`, `_` or `-`
abbrev pub is_name_byte : ℕ → Bool
is_name_byte b = is_letter b || (is_digit b || ((b == 46) || ((b == 95) || (b == 45))))

abbrev pub begins_a_name : List ℕ → Bool
begins_a_name [] = false
begins_a_name (b ∷ more) = not (b == 46) && not (b == 45)

-- 1 to 64 bytes of a name, of which the first is neither `.` nor `-`
abbrev pub is_file_name : List ℕ → Bool
is_file_name name = nat_le (length name) 64 && (begins_a_name name && list_all is_name_byte name)

-- the files that can be opened, by their names
abbrev pub Folder : Type 0
Folder = (name : List ℕ) → Option (List ℕ)

-- with one more file, or with another one under its name
abbrev pub with_file : Folder → (name contents : List ℕ) → Folder
with_file files name contents = λ other. elim (are_equal_texts other name) [ true ↦ Some contents | false ↦ files other ]

abbrev pub reader_of : (name : List ℕ) → Option (List ℕ) → Option Stream
reader_of name None = None
reader_of name (Some contents) = if nat_le (length contents) MOST_FILE_BYTES then Some (Reads name (source_of contents)) else None

-- A stream for `put` begins empty, one for `get` is there where the file is, and is not too long.
abbrev pub stream_for : (is_put : Bool) → (name : List ℕ) → Folder → Option Stream
stream_for true name files = Some (Writes name [])
stream_for false name files = reader_of name (files name)

-- the console, the files that can be opened, unless all are closed, and the streams
pub record Outside : Type 0 where
  pub console : Source
  pub files : Option Folder
  pub streams : Streams

-- as a program begins
abbrev pub outside_of : (input : List ℕ) → Option Folder → Outside
outside_of input files = record { console = source_of input; files = files; streams = no_streams }

-- what `open` comes to: the number of the stream, or 0 where nothing changes
abbrev pub added_stream : Outside → (number : ℕ) → Option Stream → ℕ × Outside
added_stream w zero s = (0, w)
added_stream w (suc k) None = (0, w)
added_stream w (suc k) (Some s) = (suc k, record w { streams = with_stream w.streams (pos (suc k)) (Some s) })

-- 0 where the name is not allowed, no stream is free, a stream with that name is open, or the file cannot be read
abbrev pub opened_from : Option Folder → (is_put : Bool) → (name : List ℕ) → Outside → ℕ × Outside
opened_from None is_put name w = (0, w)
opened_from (Some files) is_put name w =
    if is_file_name name && not (list_any (is_named name) w.streams) then added_stream w (free_from 1 w.streams) (stream_for is_put name files) else (0, w)

abbrev pub open_stream : (is_put : Bool) → (name : List ℕ) → Outside → ℕ × Outside
open_stream is_put name w = opened_from w.files is_put name w

abbrev pub kept_in : Option Folder → (name contents : List ℕ) → Option Folder
kept_in None name contents = None
kept_in (Some files) name contents = Some (with_file files name contents)

-- what `close` adds to the trace; nothing where the stream is not open
abbrev pub closed_from : Option Stream → ℤ → Outside → Option Trace × Outside
closed_from None k w = (None, w)
closed_from (Some (Reads name source)) k w = (Some [], record w { streams = with_stream w.streams k None })
closed_from (Some (Writes name contents)) k w = (Some (Keep name contents ∷ []), record w { streams = with_stream w.streams k None; files = kept_in w.files name contents })

abbrev pub close_stream : ℤ → Outside → Option Trace × Outside
close_stream k w = closed_from (stream_at w.streams k) k w

-- Bytes are put to a stream, whole, unless it is not open for that or would be too long.
abbrev pub put_behind : Option Stream → ℤ → (bytes : List ℕ) → Outside → Bool × Outside
put_behind None k bytes w = (false, w)
put_behind (Some (Reads name source)) k bytes w = (false, w)
put_behind (Some (Writes name contents)) k bytes w = if nat_le (length contents + length bytes) MOST_FILE_BYTES then (true, record w { streams = with_stream w.streams k (Some (Writes name (contents ++ bytes))) }) else (false, w)

abbrev pub put_stream : ℤ → (bytes : List ℕ) → Outside → Bool × Outside
put_stream k bytes w = put_behind (stream_at w.streams k) k bytes w

-- what a stream that is open for `get` is read from
abbrev pub source_in : Option Stream → Option Source
source_in None = None
source_in (Some (Reads name source)) = Some source
source_in (Some (Writes name contents)) = None

abbrev pub source_at : Outside → ℤ → Option Source
source_at w k = source_in (stream_at w.streams k)

abbrev pub moved_in : Source → Option Stream → Option Stream
moved_in source None = None
moved_in source (Some (Reads name old)) = Some (Reads name source)
moved_in source (Some (Writes name contents)) = Some (Writes name contents)

-- a stream is read from further on
abbrev pub with_source : ℤ → Source → Outside → Outside
with_source k source w = record w { streams = with_stream w.streams k (moved_in source (stream_at w.streams k)) }

-- the streams that are still open for `put` are kept, in the order of their numbers
abbrev pub kept : Streams → Trace
kept [] = []
kept (None ∷ more) = kept more
kept (Some (Reads name source) ∷ more) = kept more
kept (Some (Writes name contents) ∷ more) = Keep name contents ∷ kept more
