use Rattle.std.proofs.Common.{◌∙◌, sym, ap}
use Rattle.std.specs.Prelude.{not, ◌∷◌, if◌then◌else◌}
use Rattle.tu_check.specs.Built.{is_declared}
use Rattle.tu_check.proofs.Names.{among, inserted}
use Rattle.tu_check.proofs.declared.Declared.declare.Goals as goal

pub returns-clause-fresh : goal.returns-clause-fresh
returns-clause-fresh c = c.in_ok-insert.ensures.added ∙ ap not (sym (among c.args.name.now c.self.inside.names.keys) ∙ ap (λ d. is_declared d c.args.name.now) c.self.view_is)

pub returns-clause-added : goal.returns-clause-added
returns-clause-added c =
    inserted c.self.inside.names.keys c.insert.new.self.keys c.args.name c.in_ok-insert.field-0 c.in_ok-insert.ensures.added c.in_ok-insert.ensures.keys
    ∙ ap (λ d. if c.in_ok-insert.field-0 then c.args.name.now ∷ d else d) c.self.view_is
