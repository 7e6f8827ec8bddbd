use Rattle.std.proofs.Common.{◌≡◌}
use Rattle.hdc_regular.specs.Demands.{no_demand}
use Rattle.hdc_regular.specs.Judged.{repeat_of}
use Rattle.hdc_regular.proofs.passes.no_demands.Given as goal

abbrev pub invariant-loop-place : goal.invariant-loop-place
invariant-loop-place l = l.demands ≡ repeat_of no_demand l._place
