-- Parts of `put`.
use Rattle.std.proofs.Common.{◌≡◌, ℕ, ◌+◌, ◌%◌, ◌<◌, ◌≤◌, List, [], ◌∷◌, inl, ◌∙◌, ap, arith, None}
use Rattle.std.specs.Prelude.{◌==◌, ◌&&◌, if◌then◌else◌}
use Rattle.ir_form.specs.declared.plain.Width.TheVariants.{Word}
use Rattle.ir_form.specs.declared.unit.Routine.{Routine}
use Rattle.ir_form.specs.Cells.{Cells, byte_of, is_open, loaded, is_open_word, word_of as word_from}
use Rattle.ir_form.specs.Place.{Setting, heap_at}
use Rattle.ir_form.specs.State.{State as CodeState, Env, Run}
use Rattle.tu_tree_meaning.specs.Steps.{State}
use Rattle.tu_tree_meaning.specs.Store.{Store}
use Rattle.rt_stream.specs.Laws.{Puts}
use Rattle.ir_build.specs.Keeps.{Named, Site, word_at, AllLie, Holds}

-- a word's four bytes are as before
word_same : (cells new : Cells) (a : ℕ) → new a ≡ cells a → new (a + 1) ≡ cells (a + 1) → new (a + 2) ≡ cells (a + 2) → new (a + 3) ≡ cells (a + 3) → loaded Word new a ≡ loaded Word cells a
word_same cells new a e f h k =
    ap (λ z. if a % 4 == 0 then word_from (byte_of z) (byte_of (new (a + 1))) (byte_of (new (a + 2))) (byte_of (new (a + 3))) else None) e
    ∙ ap (λ z. if a % 4 == 0 then word_from (byte_of (cells a)) (byte_of z) (byte_of (new (a + 2))) (byte_of (new (a + 3))) else None) f
    ∙ ap (λ z. if a % 4 == 0 then word_from (byte_of (cells a)) (byte_of (cells (a + 1))) (byte_of z) (byte_of (new (a + 3))) else None) h
    ∙ ap (λ z. if a % 4 == 0 then word_from (byte_of (cells a)) (byte_of (cells (a + 1))) (byte_of (cells (a + 2))) (byte_of z) else None) k

open_same : (cells new : Cells) (a : ℕ) → new a ≡ cells a → new (a + 1) ≡ cells (a + 1) → new (a + 2) ≡ cells (a + 2) → new (a + 3) ≡ cells (a + 3) → is_open_word new a ≡ is_open_word cells a
open_same cells new a e f h k =
    ap (λ z. (a % 4 == 0) && (is_open z && (is_open (new (a + 1)) && (is_open (new (a + 2)) && is_open (new (a + 3)))))) e
    ∙ ap (λ z. (a % 4 == 0) && (is_open (cells a) && (is_open z && (is_open (new (a + 2)) && is_open (new (a + 3)))))) f
    ∙ ap (λ z. (a % 4 == 0) && (is_open (cells a) && (is_open (cells (a + 1)) && (is_open z && is_open (new (a + 3)))))) h
    ∙ ap (λ z. (a % 4 == 0) && (is_open (cells a) && (is_open (cells (a + 1)) && (is_open (cells (a + 2)) && is_open z)))) k

-- nothing below the stack has changed
abbrev pub KeepsLow : Setting → Cells → Cells → Type 0
KeepsLow g cells new = (a : ℕ) → a < heap_at g → new a ≡ cells a

low_word : (g : Setting) (cells new : Cells) (word : ℕ) → KeepsLow g cells new → word < g.globals → loaded Word new (word_at g word) ≡ loaded Word cells (word_at g word)
low_word g cells new word h lt = let a = word_at g word in word_same cells new a (h a (omega (arith, lt))) (h (a + 1) (omega (arith, lt))) (h (a + 2) (omega (arith, lt))) (h (a + 3) (omega (arith, lt)))

low_open : (g : Setting) (cells new : Cells) (word : ℕ) → KeepsLow g cells new → word < g.globals → is_open_word new (word_at g word) ≡ is_open_word cells (word_at g word)
low_open g cells new word h lt = let a = word_at g word in open_same cells new a (h a (omega (arith, lt))) (h (a + 1) (omega (arith, lt))) (h (a + 2) (omega (arith, lt))) (h (a + 3) (omega (arith, lt)))

lie_low : (x : Site) (s : Store) (st su : CodeState) → su.env ≡ st.env → KeepsLow x.setting st.cells su.cells → (names : List Named) → AllLie x s st names → AllLie x s su names
lie_low x s st su e h [] l = tt
lie_low x s st su e h (n ∷ names) l = (record { below = l.0.below; address = ap (λ (z : Env). z n.at) e ∙ l.0.address; inside = l.0.inside; stored = low_word x.setting st.cells su.cells n.word h l.0.inside ∙ l.0.stored }, lie_low x s st su e h names l.1)

keeps_low : (x : Site) (r : Routine) (bytes : List ℕ) (most : ℕ) (st : CodeState) (c : ℕ) (f : Run) → r.room ≤ 512 → st.rooms + st.deeper ≤ 8388608 → Puts x.setting r bytes most st c f → KeepsLow x.setting st.cells f.state.cells
keeps_low x r bytes most st c f room rooms p a lt = p.cells a (inl (omega (arith, room, rooms, lt)))

-- a routine that puts bytes leaves the program's state as it was
pub puts_holds : (x : Site) (left : ℕ) (s : State Store) (r : Routine) (bytes : List ℕ) (most : ℕ) (st : CodeState) (c : ℕ) (f : Run) → r.room ≤ 512 → Holds x left s st c → Puts x.setting r bytes most st c f → Holds x left s f.state f.cost
puts_holds x left s r bytes most st c f room h p =
    let low = keeps_low x r bytes most st c f room h.rooms p in
    record {
      fixed = record { zero_below = h.fixed.zero_below; zero_is = ap (λ (z : Env). z x.fixed.zero) p.env ∙ h.fixed.zero_is; top_below = h.fixed.top_below; top_is = ap (λ (z : Env). z x.fixed.top) p.env ∙ h.fixed.top_is };
      variables = lie_low x s.store st f.state p.env low x.names h.variables;
      values = h.values;
      writable = λ word lt. low_open x.setting st.cells f.state.cells word low lt ∙ h.writable word lt;
      turns = let q = h.turns in let e = p.turns in omega arith;
      few = let q = h.few in let e = p.turns in omega arith;
      others = let q = h.others in let e = p.paid in omega arith;
      rooms = let q = h.rooms in let e = p.rooms in let d = p.deeper in omega arith;
    }
