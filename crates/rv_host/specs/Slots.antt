-- The streams of a host, and what is done about them.
use Rattle.std.specs.Prelude.{◌≡◌, ℕ, zero, suc, List, [], ◌∷◌, take, drop, Option, Some, None, slice_get, slice_set, length, ◌+◌, ◌++◌, nat_le, if◌then◌else◌}
use Rattle.std.specs.Option.{option_map}
use Rattle.tu_base.specs.declared.limits.TheConstants.{MOST_FILE_BYTES}
use Rattle.tu_base.specs.Files.{Files}
use Rattle.tu_base.specs.Trace.{Trace, files_of}
use Rattle.rv_image.specs.Streams.{Stream, Free, Reading, Writing, World, Served, Replies}
use Rattle.rv_host.specs.declared.stream.Stream.{Stream as Slot}
use Rattle.rv_host.specs.declared.stream.Stream.TheVariants.{Free as free, Reading as reading, Writing as writing}

-- the stream that a value stands for
abbrev pub shown : Slot → Stream
shown free = Free
shown (reading name contents next) = Reading name (drop next contents)
shown (writing name contents) = Writing name contents

-- the stream of this number, where there are none but these
abbrev pub stream_at : List Stream → ℕ → Stream
stream_at streams zero = Free
stream_at streams (suc i) = elim (slice_get streams i) [ Some s ↦ s | None ↦ Free ]

-- A service on these streams comes to this reply, and leaves those.
abbrev pub Comes : (World → Served) → ℕ → List Stream → List Stream → Type 0
Comes service reply old new = (w : World) → w.streams ≡ old → service w ≡ Replies reply (record w { streams = new })

-- the files that are told, with those of a trace kept
abbrev pub with_trace : Option Files → Trace → Option Files
with_trace told trace = option_map (λ files. files_of files trace) told

-- the files that are told, with those of a first part of a trace kept
pub record HasPartOf (old new : Option Files) (trace : Trace) : Type 0 where
  pub count : ℕ
  pub is : new ≡ with_trace old (take count trace)

abbrev pub first : List ℕ → Option ℕ
first [] = None
first (byte ∷ bytes) = Some byte

abbrev pub rest : List ℕ → List ℕ
rest [] = []
rest (byte ∷ bytes) = bytes

-- the byte that a stream gives
abbrev pub next_byte : Stream → Option ℕ
next_byte Free = None
next_byte (Reading name left) = first left
next_byte (Writing name contents) = None

abbrev pub after_next : Stream → Stream
after_next Free = Free
after_next (Reading name left) = Reading name (rest left)
after_next (Writing name contents) = Writing name contents

-- the answer where bytes go to a file of these contents, and then its contents
abbrev pub append_answer : List ℕ → List ℕ → ℕ
append_answer contents bytes = if nat_le (length contents + length bytes) MOST_FILE_BYTES then 0 else 2

abbrev pub after_append : List ℕ → List ℕ → List ℕ
after_append contents bytes = if nat_le (length contents + length bytes) MOST_FILE_BYTES then contents ++ bytes else contents

-- the same of a stream
abbrev pub put_answer : Stream → List ℕ → ℕ
put_answer Free bytes = 1
put_answer (Reading name left) bytes = 1
put_answer (Writing name contents) bytes = append_answer contents bytes

abbrev pub after_put : Stream → List ℕ → Stream
after_put Free bytes = Free
after_put (Reading name left) bytes = Reading name left
after_put (Writing name contents) bytes = Writing name (after_append contents bytes)

-- the streams with another in the place of this number
abbrev pub placed : List Stream → ℕ → Stream → List Stream
placed streams zero s = streams
placed streams (suc i) s = slice_set streams i s
