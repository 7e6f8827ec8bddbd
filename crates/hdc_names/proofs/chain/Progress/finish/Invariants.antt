use Rattle.std.proofs.Common.{◌≡◌, length}
use Rattle.hdc_names.specs.Chain as spec
use Rattle.hdc_names.proofs.chain.Progress.finish.Given as goal

abbrev pub invariant-loop-waiting : goal.invariant-loop-waiting
invariant-loop-waiting l = spec.all_taken l.fn.self.stack l.fn.self.steps ≡ spec.all_taken l.stack l.steps

abbrev pub decreases-loop-waiting : goal.decreases-loop-waiting
decreases-loop-waiting l = length l.stack
