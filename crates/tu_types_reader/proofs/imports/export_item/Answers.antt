use Rattle.std.proofs.Common.{refl}
use Rattle.tu_reader.proofs.Steps.{◌▸◌, ◌▹◌, rule_takes, rule_stops, exits}
use Rattle.tu_token.specs.declared.class.Class.TheVariants.{WordOpaque}
use Rattle.tu_types_reader.proofs.Flags.{flag_takes}
use Rattle.tu_types_reader.proofs.imports.export_item.Goals as goal

pub returns-in_err-name-clause-reads : goal.returns-in_err-name-clause-reads
returns-in_err-name-clause-reads c = exits _ _ _ _ c.from_residual.ensures.1 (rule_stops c.mark-at.ensures.marks ((flag_takes WordOpaque c.eat-is_opaque.result c.eat-is_opaque.ensures.eats) ▹ c.in_err-name.ensures.reads))

pub returns-clause-reads : goal.returns-clause-reads
returns-clause-reads c = rule_takes refl c.mark-at.ensures.marks ((flag_takes WordOpaque c.eat-is_opaque.result c.eat-is_opaque.ensures.eats) ▸ c.in_ok-name.ensures.reads)
