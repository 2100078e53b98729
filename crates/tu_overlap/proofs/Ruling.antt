-- No fault is that all rules are kept.
use Rattle.tu_core.specs.Core.{Program}
use Rattle.tu_core.specs.declared.names.At.{At}
use Rattle.tu_effects.specs.declared.fault.EffectKind.{EffectKind}
use Rattle.tu_effects.specs.declared.fault.EffectKind.TheVariants as effect
use Rattle.tu_effects.specs.Faults as effect_faults
use Rattle.tu_overlap.specs.declared.fault.OverlapKind.{OverlapKind}
use Rattle.tu_overlap.specs.declared.fault.OverlapKind.TheVariants as overlap
use Rattle.tu_overlap.specs.Faults as overlap_faults
use Rattle.tu_overlap.specs.Laws.{KeepsAllRules, NoFaultIsAllRules}

no_effects : (program : Program) → KeepsAllRules program → (kind : EffectKind) (at : At) → effect_faults.HasFault program kind at → ⊥
no_effects program k effect.FunctionVar at h = k.0.no_var at h
no_effects program k effect.FunctionWrites at h = k.0.no_writes at h
no_effects program k effect.FunctionTalks at h = k.1 at h
no_effects program k effect.UnlistedWrite at h = k.2 at h

no_overlaps : (program : Program) → KeepsAllRules program → (kind : OverlapKind) (at : At) → overlap_faults.HasFault program kind at → ⊥
no_overlaps program k overlap.SharedActual at h = k.0.no_shared at h
no_overlaps program k overlap.ImportedActual at h = k.0.no_imported at h
no_overlaps program k overlap.HiddenRoot at h = k.0.no_hidden at h
no_overlaps program k overlap.ChangedBound at h = k.0.no_changed at h

pub no_fault_is_all_rules : NoFaultIsAllRules
no_fault_is_all_rules program = (
  λ (e, o). (
    record {
      no_var = e effect.FunctionVar;
      no_writes = e effect.FunctionWrites;
      no_shared = o overlap.SharedActual;
      no_imported = o overlap.ImportedActual;
      no_hidden = o overlap.HiddenRoot;
      no_changed = o overlap.ChangedBound;
    },
    e effect.FunctionTalks,
    e effect.UnlistedWrite,
  ),
  λ k. (no_effects program k, no_overlaps program k),
)
