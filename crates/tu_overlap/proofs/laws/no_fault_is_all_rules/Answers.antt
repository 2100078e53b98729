use Rattle.tu_overlap.proofs.Ruling.{no_fault_is_all_rules as proved}
use Rattle.tu_overlap.proofs.laws.no_fault_is_all_rules.Goals as goal

pub returns : goal.returns
returns c = proved
