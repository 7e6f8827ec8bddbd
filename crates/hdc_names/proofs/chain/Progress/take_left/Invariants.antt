use Rattle.std.proofs.Common.{◌≡◌, length}
use Rattle.hdc_names.specs.Chain as spec
use Rattle.hdc_names.proofs.chain.Progress.take_left.Given as goal

abbrev pub invariant-loop-waiting : goal.invariant-loop-waiting
invariant-loop-waiting l = spec.left_taken l.fn.self.stack l.fn.self.steps l.fn.fixity ≡ spec.left_taken l.self.stack l.self.steps l.fn.fixity

abbrev pub decreases-loop-waiting : goal.decreases-loop-waiting
decreases-loop-waiting l = length l.self.stack
