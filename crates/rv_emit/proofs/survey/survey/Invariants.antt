use Rattle.std.proofs.Common.{◌≡◌, ℕ, ◌-◌, ◌<◌, ◌≤◌, length, get_or, Some}
use Rattle.std.specs.Prelude.{slice_get}
use Rattle.rv_text.specs.Text.{entry_at}
use Rattle.rv_emit.specs.declared.site.Labels.{Labels}
use Rattle.rv_emit.specs.Placed.{routines_of}
use Rattle.rv_emit.specs.Site.{HasLabels}
use Rattle.rv_emit.proofs.survey.survey.Given as goal

abbrev pub invariant-loop-frame : goal.invariant-loop-frame
invariant-loop-frame l = record {
  within : length l.labels.items ≤ length (routines_of l.assigned);
  at : l.at ≡ entry_at (routines_of l.assigned) (length l.labels.items);
  count : length l.entries.items ≡ length l.labels.items;
  entries : (k : ℕ) → k < length l.entries.items → get_or l.entries.items k 0 ≡ entry_at (routines_of l.assigned) k;
  labels : (k : ℕ) (labels : Labels) → slice_get l.labels.items k ≡ Some labels → HasLabels (routines_of l.assigned) k labels;
}

abbrev pub decreases-loop-frame : goal.decreases-loop-frame
decreases-loop-frame l = length (routines_of l.assigned) - length l.labels.items
