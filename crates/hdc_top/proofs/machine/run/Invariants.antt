use Rattle.std.proofs.Common.{◌-◌, length}
use Rattle.hdc_code.specs.Sound.{Reaches}
use Rattle.hdc_top.specs.Runs.{config_of}
use Rattle.hdc_top.proofs.machine.run.Given as goal

-- the machine has come here by steps
abbrev pub invariant-steps : goal.invariant-steps
invariant-steps l = Reaches l.code (config_of l.machine)

abbrev pub decreases-steps : goal.decreases-steps
decreases-steps l = length l.code - l.machine.place
