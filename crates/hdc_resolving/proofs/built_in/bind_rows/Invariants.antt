use Rattle.std.proofs.Common.{◌≡◌, ◌≤◌, ◌++◌, length, drop}
use Rattle.hdc_resolving.specs.Standing.{each_row}
use Rattle.hdc_resolving.proofs.built_in.bind_rows.Given as goal

abbrev pub invariant-loop-count : goal.invariant-loop-count
invariant-loop-count l = record {
  within : l.count ≤ length l.rows;
  put : l.scope ≡ each_row (drop l.count l.rows) ++ l.initial.scope;
}

abbrev pub decreases-loop-count : goal.decreases-loop-count
decreases-loop-count l = l.count
