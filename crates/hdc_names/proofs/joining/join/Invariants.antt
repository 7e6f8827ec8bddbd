use Rattle.std.proofs.Common.{◌≡◌, length}
use Rattle.hdc_written.specs.Mirror.{exp_of}
use Rattle.hdc_names.specs.Walk.{turned}
use Rattle.hdc_names.proofs.joining.join.Given as goal

abbrev pub invariant-loop-step : goal.invariant-loop-step
invariant-loop-step l = turned (exp_of l.exp) l.initial.steps l.initial.joining ≡ turned (exp_of l.exp) l.steps l.joining

abbrev pub decreases-loop-step : goal.decreases-loop-step
decreases-loop-step l = length l.steps
