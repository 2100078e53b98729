-- Numbers in rows, and what leads along them.
use Rattle.std.specs.Prelude.{◌≡◌, ℕ, ◌≤◌, List, [], length, slice_index_or, ◌⊎◌}
use Rattle.std.specs.List.{Contains}
use Rattle.tu_core.specs.Effects.{Leads}

-- for so many texts
pub record RowsOf : Type 0 where
  pub texts : ℕ
  pub rows : List (List ℕ)

-- Past the last row all rows are empty.
abbrev pub row : List (List ℕ) → ℕ → List ℕ
row rows k = slice_index_or rows k []

abbrev pub HasNumber : List (List ℕ) → (k a : ℕ) → Type 0
HasNumber rows k a = Contains (row rows k) a

-- Text a calls text b, where the row of each text has those that call it.
abbrev pub IsCaller : List (List ℕ) → (a b : ℕ) → Type 0
IsCaller callers a b = HasNumber callers b a

-- a sequence of calls, which may be empty, leads from a to one of these texts
abbrev pub LeadsToOne : (callers : List (List ℕ)) → List ℕ → ℕ → Type 0
LeadsToOne callers texts a = (b : ℕ) × Leads (IsCaller callers) a b × Contains texts b

-- the same rows, and perhaps empty ones behind them
pub record IsExtended (old new : List (List ℕ)) : Type 0 where
  pub same : (k : ℕ) → row new k ≡ row old k
  pub long : length old ≤ length new

-- the numbers of some rows, and one more
pub record HasOneMore (old new : List (List ℕ)) (k a : ℕ) : Type 0 where
  pub added : HasNumber new k a
  pub kept : (l b : ℕ) → HasNumber old l b → HasNumber new l b
  pub only : (l b : ℕ) → HasNumber new l b → HasNumber old l b ⊎ ((l ≡ k) × (b ≡ a))
