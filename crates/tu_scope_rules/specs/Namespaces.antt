-- Namespaces by number.
use Rattle.std.specs.Prelude.{ℕ}
use Rattle.tu_scope_rules.specs.declared.table.Namespace.{Namespace}
use Rattle.tu_scope_rules.specs.declared.table.Namespace.TheVariants.{Declared, Member, Imported, Exported, Early, Outcome, ForwardProcedure, ForwardFunction, BodyProcedure, BodyFunction}

abbrev pub namespace_number : Namespace → ℕ
namespace_number Declared = 0
namespace_number Member = 1
namespace_number Imported = 2
namespace_number Exported = 3
namespace_number Early = 4
namespace_number Outcome = 5
namespace_number ForwardProcedure = 6
namespace_number ForwardFunction = 7
namespace_number BodyProcedure = 8
namespace_number BodyFunction = 9
