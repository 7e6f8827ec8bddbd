use Rattle.std.proofs.Common.{◌≡◌, ◌≤◌, ◌++◌, length, drop}
use Rattle.hdc_names.specs.Fixities.{saying}
use Rattle.hdc_names.proofs.operator.declare.Given as goal

abbrev pub invariant-loop-count : goal.invariant-loop-count
invariant-loop-count l = record {
  within : l.count ≤ length l.rest;
  put : l.declarations ≡ saying l.fixity (drop l.count l.rest) ++ l.initial.declarations;
}

abbrev pub decreases-loop-count : goal.decreases-loop-count
decreases-loop-count l = l.count
