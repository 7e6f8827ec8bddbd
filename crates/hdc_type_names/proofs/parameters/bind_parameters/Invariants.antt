use Rattle.std.proofs.Common.{◌≡◌, ◌≤◌, drop, length}
use Rattle.hdc_type_names.specs.Variables.{places_from}
use Rattle.hdc_type_names.proofs.parameters.bind_parameters.Given as goal

abbrev pub invariant-loop-count : goal.invariant-loop-count
invariant-loop-count l = (l.count ≤ length l.parameters) × (l.scope ≡ places_from l.count (drop l.count l.parameters))

abbrev pub decreases-loop-count : goal.decreases-loop-count
decreases-loop-count l = l.count
