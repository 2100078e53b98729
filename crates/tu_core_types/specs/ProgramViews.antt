-- A handler, which a body may have, as the form of the core.
use Rattle.std.specs.Prelude.{Option, Some, None}
use Rattle.tu_core.specs.Core as core
use Rattle.tu_core_types.specs.declared.program.Handler.{Handler}

abbrev pub handler_view : Option Handler → core.Handler
handler_view None = core.NoHandler
handler_view (Some h) = core.Handles h.at h.name h.block
