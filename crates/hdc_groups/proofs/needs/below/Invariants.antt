use Rattle.std.proofs.Common.{◌≡◌, ◌++◌, drop}
use Rattle.hdc_groups.specs.Needs as spec
use Rattle.hdc_groups.proofs.needs.below.Given as goal

abbrev pub invariant-loop-number : goal.invariant-loop-number
invariant-loop-number l = spec.below l.count l.numbers ≡ l.below ++ spec.below l.count (drop l.number-index l.numbers)
