use Rattle.std.proofs.Common.{ap, ◌∙◌}
use Rattle.std.specs.Option.{option_map}
use Rattle.ir_build.specs.Code.{named}
use Rattle.ir_build.proofs.Entries.{value_found}
use Rattle.ir_build.proofs.names.Names.find.Goals as goal

pub returns : goal.returns
returns c =
    c.copied.ensures ∙ (c.get.ensures.value ∙ (value_found (λ k. k.items) c.args.name.now c.self.inside.values.entries c.self.invariant
    ∙ ap (λ names. option_map (λ n. n.at) (named c.args.name.now names)) c.self.view_is))
