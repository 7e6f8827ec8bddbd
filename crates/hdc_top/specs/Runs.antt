-- What the machine in memory stands for.
use Rattle.std.specs.Prelude.{◌≡◌, Option, Some, None, reverse}
use Rattle.hdc_value.specs.declared.outcome.Outcome.{Outcome}
use Rattle.hdc_code.specs.Machine.{Config, running_at, ended_with}
use Rattle.hdc_top.specs.declared.machine.Machine.{Machine}

-- its configuration; the stack's top is the last of the items
abbrev pub config_of : Machine → Config
config_of m = running_at m.place (reverse m.stack.items) m.ticks

-- what comes next is where the machine is now, or the end with this outcome
abbrev pub Leads : Option Config → Option Outcome → Machine → Type 0
Leads next None m = next ≡ Some (config_of m)
Leads next (Some result) m = next ≡ Some (ended_with result m.ticks)
