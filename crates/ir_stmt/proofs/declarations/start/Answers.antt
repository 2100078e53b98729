use Rattle.std.proofs.Common.{◌≡◌}
use Rattle.std.proofs.lemmas.Result.{on_ok_weaker}
use Rattle.tu_tree_meaning.specs.Interpreter.{names_of}
use Rattle.ir_build.specs.Code.{made}
use Rattle.ir_stmt.specs.Code.{started, store_all}
use Rattle.ir_stmt.specs.Made.{declared}
use Rattle.ir_stmt.proofs.Declaring.{start_made}
use Rattle.ir_stmt.proofs.declarations.start.Goals as goal

pub returns-clause-code : goal.returns-clause-code
returns-clause-code c =
    let names = c.args.environment.now.names.now in
    let variables = names_of c.args.listed.now in
    let x = made c.expression.new.code c.in_ok-from.from in
    let whole : c.store_in_all.new.code ≡ store_all c.args.environment.now.fixed names x.value variables x.code
    → declared c.store_in_all.new.code names ≡ started c.args.environment.now.fixed c.args.line variables c.args.value.now (declared c.args.code.now names) =
    start_made c.args.environment.now.fixed names c.args.line variables c.args.value.now c.args.code.now c.store_in_all.new.code x c.in_ok-from.ensures.made in
    on_ok_weaker c.store_in_all.result whole (c.store_in_all.ensures.code c.args.environment.now.fixed)
