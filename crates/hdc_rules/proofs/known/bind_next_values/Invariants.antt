use Rattle.std.proofs.Common.{◌≡◌, ◌≤◌, ◌++◌, length, drop}
use Rattle.hdc_written.specs.Mirror.{tops_behind}
use Rattle.hdc_rules.specs.Known.{values_of}
use Rattle.hdc_rules.proofs.known.bind_next_values.Given as goal

abbrev pub invariant-loop-count : goal.invariant-loop-count
invariant-loop-count l = record {
  within : l.count ≤ length l.tops;
  put : l.scope ≡ values_of (tops_behind (drop l.count l.tops)) ++ l.initial.scope;
}

abbrev pub decreases-loop-count : goal.decreases-loop-count
decreases-loop-count l = l.count
