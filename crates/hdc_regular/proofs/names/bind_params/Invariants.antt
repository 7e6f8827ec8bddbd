use Rattle.std.proofs.Common.{◌≡◌, ◌≤◌, drop, length}
use Rattle.hdc_regular.specs.Resolving.{params_from}
use Rattle.hdc_regular.proofs.names.bind_params.Given as goal

abbrev pub invariant-loop-count : goal.invariant-loop-count
invariant-loop-count l = (l.count ≤ length l.params) × (l.scope ≡ params_from l.count (drop l.count l.params))

abbrev pub decreases-loop-count : goal.decreases-loop-count
decreases-loop-count l = l.count
