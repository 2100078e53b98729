-- Where things lie, as far as it is known.
use Rattle.std.specs.Prelude.{◌≡◌, ℕ, ◌+◌, ◌/◌, List, length, slice_get, nat_eq, Bool, false, Some, None, if◌then◌else◌}
use Rattle.std.specs.HashMap.{get}
use Rattle.std.specs.Option.{unwrap_or, is_some}
use Rattle.rv_flat.specs.declared.linear.Instruction.{Instruction}
use Rattle.rv_flat.specs.declared.linear.Instruction.TheVariants.{Plain, Guarded, Open, Branch, Within, Hand, Jump, Label, Back}
use Rattle.rv_layout.specs.Words.{Addresses}
use Rattle.rv_flat.specs.declared.linear.LinearRoutine.{LinearRoutine}
use Rattle.rv_flat.specs.declared.linear.Linear.{Linear}
use Rattle.rv_text.specs.Lengths.{routines_length}
use Rattle.rv_text.specs.Text.{shared_at, entry_at, label_at, texts_at, globals_at}
use Rattle.rv_emit.specs.declared.site.Site.{Site}
use Rattle.rv_emit.specs.declared.site.Labels.{Labels}

abbrev pub addresses_of : Site → Addresses
addresses_of s = record { globals = s.globals; texts = s.texts; shared = shared_at; entry = λ k. unwrap_or (slice_get s.entries.items k) s.texts }

abbrev pub label_place : Labels → ℕ → ℕ
label_place l label = unwrap_or (get nat_eq l.places label) l.end

-- whether a label stands there
abbrev pub stands : Instruction → ℕ → Bool
stands (Plain p) label = false
stands (Guarded p handler) label = false
stands (Open mark) label = false
stands (Branch relation left right other) label = false
stands (Within value range other) label = false
stands (Hand to from) label = false
stands (Jump other) label = false
stands (Label other marked) label = nat_eq other label
stands (Back values) label = false

-- a label that stands there has its place, unless it has one
pub record Passes (before after : Labels) (instruction : Instruction) (at : ℕ) : Type 0 where
  pub places : (label : ℕ) → get nat_eq after.places label
      ≡ (if is_some (get nat_eq before.places label) then get nat_eq before.places label else if stands instruction label then Some at else None)

-- how many words the text has: those around, those of the routines and those of the texts
abbrev pub word_count : Linear → ℕ
word_count l = 20 + routines_length l.routines l.routines + (length l.texts + 3) / 4

-- the labels of a routine
pub record HasLabels (rs : List LinearRoutine) (k : ℕ) (labels : Labels) : Type 0 where
  pub places : (r : LinearRoutine) → slice_get rs k ≡ Some r → (label : ℕ) → label_place labels label ≡ label_at rs (entry_at rs k) r label

-- where all things lie
pub record IsSite (l : Linear) (s : Site) : Type 0 where
  pub globals : s.globals ≡ globals_at l
  pub texts : s.texts ≡ texts_at l
  pub entries : (k : ℕ) → (addresses_of s).entry k ≡ entry_at l.routines k
  pub labels : (k : ℕ) (labels : Labels) → slice_get s.labels.items k ≡ Some labels → HasLabels l.routines k labels
  pub count : length s.labels.items ≡ length l.routines
