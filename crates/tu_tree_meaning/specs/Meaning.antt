-- What a run means: what it did, how it stands, and what it cost.
use Rattle.std.specs.Prelude.{ℕ}
use Rattle.tu_base.specs.Trace.{Trace}
use Rattle.tu_base.specs.declared.event.Verdict.{Verdict}
use Rattle.tu_base.specs.declared.event.Verdict.TheVariants.{Ended, Stopped, Going as verdict_going}
use Rattle.tu_tree_meaning.specs.Steps.{Added, Outcome, Done, Raised, Going}

-- What a program does within so many turns, how it then stands, and what that cost. The files that it leaves are those that `files_of`
-- makes of the trace.
pub record Meant : Type 0 where
  pub trace : Trace
  pub verdict : Verdict
  pub units : ℕ

abbrev pub verdict_of : {S A : Type 0} → Outcome S A → Verdict
verdict_of (Done a s) = Ended
verdict_of (Raised kind line s) = Stopped kind line
verdict_of (Going s) = verdict_going

abbrev pub meant : {S A : Type 0} → Added × Outcome S A → Meant
meant r = record { trace = r.0.trace; verdict = verdict_of r.1; units = r.0.units }
