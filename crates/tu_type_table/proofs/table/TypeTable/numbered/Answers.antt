use Rattle.tu_type_table.proofs.Numbering.{numbered_whole}
use Rattle.tu_type_table.proofs.table.TypeTable.numbered.Goals as goal

pub returns-in_default : goal.returns-in_default
returns-in_default c = numbered_whole c.entered.result c.args.self.now c.entered.new.self c.args.home c.args.form c.in_default.not-SetOf c.in_default.not-ArrayOf c.entered.ensures
