-- Lists behind one another.
use Rattle.std.proofs.Common.{append_assoc, append-nil}

pub ruleset in_order = (append_assoc, append-nil)
