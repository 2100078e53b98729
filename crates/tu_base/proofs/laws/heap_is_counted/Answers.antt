use Rattle.tu_base.proofs.Counting.{heap_is_counted as proved}
use Rattle.tu_base.proofs.laws.heap_is_counted.Goals as goal

pub returns : goal.returns
returns c = proved
