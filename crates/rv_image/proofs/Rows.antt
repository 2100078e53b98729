-- Worked rows of the definitions.
use Rattle.std.proofs.Common.{◌≡◌, ℕ, List, [], ◌∷◌, Result, Ok, Err, true, false, replicate, take, slice_set, codes, refl}
use Rattle.rv_image.specs.Picture.{Picture, spelling}
use Rattle.rv_image.specs.Reading.{reading}
use Rattle.tu_base.specs.Trace.{Got}
use Rattle.rv_isa.specs.Memory.{Memory}
use Rattle.rv_isa.specs.declared.service.Service.TheVariants.{GetConsole, GetStream}
use Rattle.rv_image.specs.Streams.{Closed, Free, Reading, Replies, served, start_world, with_stream, is_file_name, free_stream}
use Rattle.rv_image.specs.declared.image.ImageError.{ImageError}
use Rattle.rv_image.specs.declared.image.ImageError.TheVariants.{Short, Magic, Version, Length, Entry, Globals}

-- an ECALL alone
abbrev image : Picture
image = record { text = 0x73 ∷ []; globals = 0; entry = 0 }

abbrev bytes : List ℕ
bytes =
    0x54 ∷ (0x55 ∷ (0x52 ∷ (0x49 ∷ (0x01 ∷ (0x00 ∷ (0x00 ∷ (0x00 ∷ (0x01 ∷ (0x00 ∷ (0x00 ∷ (0x00 ∷ (
    0x00 ∷ (0x00 ∷ (0x00 ∷ (0x00 ∷ (0x00 ∷ (0x00 ∷ (0x00 ∷ (0x00 ∷ (0x73 ∷ (0x00 ∷ (0x00 ∷ (0x00 ∷ [])))))))))))))))))))))))

-- the bytes with another byte at a place
abbrev changed : ℕ → ℕ → List ℕ
changed i byte = slice_set bytes i byte

spelled : spelling image ≡ bytes
spelled = refl

abbrev answer : Result Picture ImageError → List ℕ → Type 0
answer r b = reading b ≡ r

is_read : answer (Ok image) bytes
is_read = refl

-- no byte, too few for a header, and one too few or too many
lengths : answer (Err Short) [] × answer (Err Short) (take 19 bytes) × answer (Err Length) (take 23 bytes) × answer (Err Length) (changed 8 2)
lengths = (refl, refl, refl, refl)

-- another magic, the version 2, entries 2 and 4, and 4,259,841 words of globals
conditions : answer (Err Magic) (changed 0 0x55) × answer (Err Version) (changed 4 2) × answer (Err Entry) (changed 16 2) × answer (Err Entry) (changed 16 4)
conditions = (refl, refl, refl, refl)

globals : answer (Err Globals) (slice_set (slice_set bytes 12 0x01) 14 0x41) × answer (Ok (record image { globals = 4259840 })) (changed 14 0x41)
globals = (refl, refl)

-- the first of two conditions that fail
first : answer (Err Version) (slice_set (changed 4 2) 8 2) × answer (Err Length) (slice_set (changed 8 2) 16 2)
first = (refl, refl)

free : (free_stream (replicate 10 Free) 1 ≡ 1) × (free_stream (Reading (codes "a") [] ∷ replicate 9 Free) 1 ≡ 2) × (free_stream (replicate 10 (Reading (codes "a") [])) 1 ≡ 0)
free = (refl, refl, refl)

names : (is_file_name (codes "a.t") ≡ true) × (is_file_name (codes "../x") ≡ false) × (is_file_name (codes ".x") ≡ false) × (is_file_name [] ≡ false)
names = (refl, refl, refl, refl)

-- 64 bytes are enough, and 65 too many
name_sizes : (is_file_name (replicate 64 0x61) ≡ true) × (is_file_name (replicate 65 0x61) ≡ false)
name_sizes = (refl, refl)

abbrev no_memory : Memory
no_memory = λ a. 0

-- what is taken of a number is a byte, and is not the reply where there is none
taken_console : (served Closed no_memory GetConsole (start_world (300 ∷ [])) ≡ Replies 44 (record (start_world []) { trace = Got 44 ∷ [] })) ×
    (served Closed no_memory GetConsole (start_world (4294967295 ∷ [])) ≡ Replies 255 (record (start_world []) { trace = Got 255 ∷ [] }))
taken_console = (refl, refl)

taken_stream : (served Closed no_memory (GetStream 1) (with_stream (start_world []) 1 (Reading (codes "a") (300 ∷ []))) ≡ Replies 44 (with_stream (start_world []) 1 (Reading (codes "a") []))) ×
    (served Closed no_memory (GetStream 1) (with_stream (start_world []) 1 (Reading (codes "a") (4294967295 ∷ []))) ≡ Replies 255 (with_stream (start_world []) 1 (Reading (codes "a") [])))
taken_stream = (refl, refl)
