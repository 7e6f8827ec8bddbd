use Rattle.std.proofs.Common.{◌≡◌, ◌++◌, length}
use Rattle.hdc_resolving.proofs.pile.Pile.of.Given as goal

abbrev pub invariant-loop-item : goal.invariant-loop-item
invariant-loop-item g l = l.fn.items ≡ l.rest ++ l.pile

abbrev pub decreases-loop-item : goal.decreases-loop-item
decreases-loop-item g l = length l.rest
