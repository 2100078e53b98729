use Rattle.std.proofs.Common.{refl}
use Rattle.ir_build.specs.Keeps.{variables_of}
use Rattle.ir_stmt.proofs.Declaring.{not_named, new_begin, new_at}
use Rattle.ir_stmt.proofs.declarations.declare_listed.Goals as goal

pub declare-requires-clause-new : goal.declare-requires-clause-new
declare-requires-clause-new c =
    not_named c.as_slice.result.now c.args.names.now (new_begin (variables_of c.args.names.now) c.args.listed.now _ c.listed.inside.first c.listed.inside.more c.listed.inside.more c.as_slice.result.now c.listed.view_is refl c.as_slice.ensures c.requires.new).0

pub declare-requires-in-loop-name-clause-new : goal.declare-requires-in-loop-name-clause-new
declare-requires-in-loop-name-clause-new c =
    not_named c.as_slice-in-loop-name.result.now c.loop-name.names
    (new_at (variables_of c.loop-name.names) c.as_slice-name-items.result.now c.loop-name.name-index c.name-item.result c.as_slice-in-loop-name.result.now c.loop-name-test.true c.name-item.is c.as_slice-in-loop-name.ensures c.loop-name.invariant.new).0
