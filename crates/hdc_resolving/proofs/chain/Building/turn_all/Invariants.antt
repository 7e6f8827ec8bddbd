use Rattle.std.proofs.Common.{◌≡◌, drop}
use Rattle.hdc_written.specs.Mirror.{exp_of}
use Rattle.hdc_resolving.specs.Grouped.{turned}
use Rattle.hdc_resolving.specs.Placing.{building}
use Rattle.hdc_resolving.proofs.chain.Building.turn_all.Given as goal

abbrev pub invariant-loop-step : goal.invariant-loop-step
invariant-loop-step l = turned l.known.src (exp_of l.exp) l.uses l.steps (building l.initial.self) ≡ turned l.known.src (exp_of l.exp) l.uses (drop l.step-index l.steps) (building l.self)
