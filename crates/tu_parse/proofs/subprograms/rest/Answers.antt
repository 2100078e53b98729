use Rattle.std.proofs.Common.{refl}
use Rattle.tu_reader.proofs.Steps.{◌▸◌, ◌▹◌, first_stops, rule_takes, rule_stops, exits}
use Rattle.tu_parse.proofs.subprograms.rest.Goals as goal

pub returns-in_err-pre-clause-reads : goal.returns-in_err-pre-clause-reads
returns-in_err-pre-clause-reads c = exits _ _ _ _ c.from_residual.ensures.1 (rule_stops c.mark-at.ensures.marks (first_stops c.in_err-pre.ensures.reads))

pub returns-in_err-givens-clause-reads : goal.returns-in_err-givens-clause-reads
returns-in_err-givens-clause-reads c = exits _ _ _ _ c.from_residual-in_err-givens.ensures.1 (rule_stops c.mark-at.ensures.marks (c.in_ok-pre.ensures.reads ▹ first_stops c.in_err-givens.ensures.reads))

pub returns-in_err-post-clause-reads : goal.returns-in_err-post-clause-reads
returns-in_err-post-clause-reads c = exits _ _ _ _ c.from_residual-in_err-post.ensures.1 (rule_stops c.mark-at.ensures.marks (c.in_ok-pre.ensures.reads ▹ c.in_ok-givens.ensures.reads ▹ first_stops c.in_err-post.ensures.reads))

pub returns-in_err-handler-clause-reads : goal.returns-in_err-handler-clause-reads
returns-in_err-handler-clause-reads c = exits _ _ _ _ c.from_residual-in_err-handler.ensures.1 (rule_stops c.mark-at.ensures.marks (c.in_ok-pre.ensures.reads ▹ c.in_ok-givens.ensures.reads ▹ c.in_ok-post.ensures.reads ▹ c.in_err-handler.ensures.reads))

pub returns-clause-reads : goal.returns-clause-reads
returns-clause-reads c = rw (c.into_inner-givens.ensures, c.new-givens.ensures) (rule_takes refl c.mark-at.ensures.marks (c.in_ok-pre.ensures.reads ▸ c.in_ok-givens.ensures.reads ▸ c.in_ok-post.ensures.reads ▸ c.in_ok-handler.ensures.reads))
