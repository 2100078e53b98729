-- The room of a text by blocks, where the words of shapes and results are known.
use Rattle.std.specs.Prelude.{ℕ, ◌+◌, ◌*◌, List, sum_by}
use Rattle.tu_base.specs.Shapes.{all_words}
use Rattle.tu_core.specs.Core.{Block, Handler, NoHandler, Handles, Routine, Program}
use Rattle.tu_core.specs.Measures.{of_block}
use Rattle.tu_core.specs.Nodes.{nodes}
use Rattle.tu_core.specs.Rooms.{all_joins, formal_words, result_words, local_words, one_if, above_two, room_of}
use Rattle.tu_room_parts.specs.declared.count.Count.{Count}
use Rattle.tu_room_parts.specs.Capped.{capped}
use Rattle.tu_room_parts.specs.Counts.{counting}

-- the words of a routine's result, or 0 where they are two or less
abbrev pub result_known : (known : List ℕ) → Routine → ℕ
result_known known r = capped (above_two (result_words known r.gives))

abbrev pub block_room_of : (results : Count) → (scalars : List ℕ) → Block → ℕ
block_room_of results scalars b = 12 * (of_block nodes b + of_block (all_joins scalars) b) + of_block (counting results) b

abbrev pub handler_room_of : (results : Count) → (scalars : List ℕ) → Handler → ℕ
handler_room_of results scalars NoHandler = 0
handler_room_of results scalars (Handles at name block) = 24 + block_room_of results scalars block

abbrev pub own_words_of : (known : List ℕ) → Routine → ℕ
own_words_of known r = sum_by formal_words r.formals + (result_words known r.gives + (one_if r.is_invariant + sum_by (local_words known) r.locals))

abbrev pub blocks_room_of : (results : Count) → (scalars : List ℕ) → Routine → ℕ
blocks_room_of results scalars r =
    block_room_of results scalars r.before + (block_room_of results scalars r.body + (block_room_of results scalars r.after + handler_room_of results scalars r.handler))

abbrev pub routine_room_of : (known : List ℕ) → (results : Count) → (scalars : List ℕ) → Routine → ℕ
routine_room_of known results scalars r = 64 + (own_words_of known r + (12 * r.stars + blocks_room_of results scalars r))

-- the room of a routine of a program, cut off
abbrev pub room_at : Program → Routine → ℕ
room_at p r = capped (room_of p.shapes (all_words p.shapes) p.routines r)
