-- Lists one behind the other.
use Rattle.std.proofs.Common.{append_assoc, append-nil}

pub ruleset appending = (append_assoc, append-nil)
