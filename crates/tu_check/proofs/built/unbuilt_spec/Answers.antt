use Rattle.std.proofs.Common.{sym}
use Rattle.tu_check.proofs.Levels.{fails}
use Rattle.tu_check.proofs.Declarations.{spec_more}
use Rattle.tu_check.proofs.built.unbuilt_spec.Goals as goal

pub returns-then-not-is_empty : goal.returns-then-not-is_empty
returns-then-not-is_empty c = sym (spec_more c.args.spec.now _ c.spec.inside.arrays c.spec.inside.base c.spec.view_is (fails c.is_empty.ensures.1 c.if-not-is_empty.true))
