use Rattle.std.proofs.Common.{◌∙◌, sym, ap}
use Rattle.tu_check.specs.Built.{is_declared}
use Rattle.tu_check.proofs.Names.{among}
use Rattle.tu_check.proofs.declared.Declared.contains.Goals as goal

pub returns : goal.returns
returns c = c.contains.ensures ∙ (sym (among c.args.name.now c.self.inside.names.keys) ∙ ap (λ d. is_declared d c.args.name.now) c.self.view_is)
