-- What a run means: what it did, how it stands, and what it cost.
use Rattle.std.specs.Prelude.{ℕ, List, [], ◌++◌}
use Rattle.tu_base.specs.Trace.{Trace}
use Rattle.tu_base.specs.declared.kind.Kind.{Kind}
use Rattle.tu_base.specs.Streams.{kept}
use Rattle.tu_meaning.specs.Steps.{Note, Added, Outcome, Done, Raised, Going, NoRule}

-- How a run stands. No rule says what comes where a core is not well formed.
pub data Standing : Type 0 where
  Ends : Standing
  Stops : Kind → (line : ℕ) → Standing
  GoesOn : Standing
  IsStuck : Standing

-- What a program does within so many turns, how it then stands, what that cost, and what the log tells. The files that it leaves are those
-- that its trace makes.
pub record Meant : Type 0 where
  pub trace : Trace
  pub standing : Standing
  pub units : ℕ
  pub log : List Note

abbrev pub stands : {S A : Type 0} → Outcome S A → Standing
stands (Done a s) = Ends
stands (Raised kind line s) = Stops kind line
stands (Going s) = GoesOn
stands (NoRule s) = IsStuck

-- As a program ends or is stopped, the streams that are still open for writing are kept.
abbrev pub last_kept : {S A : Type 0} → Outcome S A → Trace
last_kept (Done a s) = kept s.world.outside.streams
last_kept (Raised kind line s) = kept s.world.outside.streams
last_kept (Going s) = []
last_kept (NoRule s) = []

abbrev pub meant : {S A : Type 0} → Added × Outcome S A → Meant
meant r = record { trace = r.0.trace ++ last_kept r.1; standing = stands r.1; units = r.0.units; log = r.0.log }
