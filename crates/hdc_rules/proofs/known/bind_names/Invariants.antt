use Rattle.std.proofs.Common.{◌≡◌, ◌≤◌, ◌++◌, length, drop}
use Rattle.hdc_rules.specs.Known.{each_bound}
use Rattle.hdc_rules.proofs.known.bind_names.Given as goal

abbrev pub invariant-loop-count : goal.invariant-loop-count
invariant-loop-count g l = record {
  within : l.count ≤ length l.names;
  put : l.scope ≡ each_bound l.what (drop l.count l.names) ++ l.initial.scope;
}

abbrev pub decreases-loop-count : goal.decreases-loop-count
decreases-loop-count g l = l.count
