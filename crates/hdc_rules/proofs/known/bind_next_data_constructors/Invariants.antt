use Rattle.std.proofs.Common.{◌≡◌, ◌≤◌, ◌++◌, length, drop}
use Rattle.hdc_rules.specs.Known.{constructors_behind}
use Rattle.hdc_rules.proofs.known.bind_next_data_constructors.Given as goal

abbrev pub invariant-loop-count : goal.invariant-loop-count
invariant-loop-count l = record {
  within : l.count ≤ length l.parts;
  put : l.scope ≡ constructors_behind (drop l.count l.parts) ++ l.initial.scope;
}

abbrev pub decreases-loop-count : goal.decreases-loop-count
decreases-loop-count l = l.count
