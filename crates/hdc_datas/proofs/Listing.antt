-- Lists that are put together from the left.
use Rattle.std.proofs.Common.{append_assoc, append-nil}

pub ruleset in_order = (append_assoc, append-nil)
