use Rattle.std.proofs.Common.{◌≡◌, ◌≤◌, ◌++◌, length, drop}
use Rattle.hdc_written.specs.Mirror.{tops_behind}
use Rattle.hdc_names.specs.Fixities.{all_declared}
use Rattle.hdc_names.proofs.operator.declare_tops.Given as goal

abbrev pub invariant-loop-count : goal.invariant-loop-count
invariant-loop-count l = record {
  within : l.count ≤ length l.tops;
  put : l.declarations ≡ all_declared (tops_behind (drop l.count l.tops)) ++ l.initial.declarations;
}

abbrev pub decreases-loop-count : goal.decreases-loop-count
decreases-loop-count l = l.count
