use Rattle.std.proofs.Common.{refl}
use Rattle.tu_reader.proofs.Steps.{◌▸◌, ◌▹◌, first_stops, rule_takes, rule_stops, exits}
use Rattle.tu_token.specs.declared.class.Class.TheVariants.{WordVar}
use Rattle.tu_types_reader.proofs.Flags.{flag_takes}
use Rattle.tu_parse.proofs.subprograms.formal.Goals as goal

pub returns-in_err-names-clause-reads : goal.returns-in_err-names-clause-reads
returns-in_err-names-clause-reads c = exits _ _ _ _ c.from_residual.ensures.1 (rule_stops c.mark-at.ensures.marks ((flag_takes WordVar c.eat-is_var.result c.eat-is_var.ensures.eats) ▹ first_stops c.in_err-names.ensures.reads))

pub returns-in_err-expect-clause-reads : goal.returns-in_err-expect-clause-reads
returns-in_err-expect-clause-reads c = exits _ _ _ _ c.from_residual-in_err-expect.ensures.1 (rule_stops c.mark-at.ensures.marks ((flag_takes WordVar c.eat-is_var.result c.eat-is_var.ensures.eats) ▹ c.in_ok-names.ensures.reads ▹ first_stops c.in_err-expect.ensures.reads))

pub returns-in_err-spec-clause-reads : goal.returns-in_err-spec-clause-reads
returns-in_err-spec-clause-reads c = exits _ _ _ _ c.from_residual-in_err-spec.ensures.1 (rule_stops c.mark-at.ensures.marks ((flag_takes WordVar c.eat-is_var.result c.eat-is_var.ensures.eats) ▹ c.in_ok-names.ensures.reads ▹ c.in_ok-expect.ensures.reads ▹ c.in_err-spec.ensures.reads))

pub returns-clause-reads : goal.returns-clause-reads
returns-clause-reads c = rule_takes refl c.mark-at.ensures.marks ((flag_takes WordVar c.eat-is_var.result c.eat-is_var.ensures.eats) ▸ c.in_ok-names.ensures.reads ▸ c.in_ok-expect.ensures.reads ▸ c.in_ok-spec.ensures.reads)
