-- The machine in memory goes the code's path.
use Rattle.std.proofs.Common.{◌≡◌, List, Option, Some, None, subst, ⊎_elim}
use Rattle.std.specs.Prelude.{IsSome}
use Rattle.hdc_value.specs.declared.outcome.Outcome.{Outcome}
use Rattle.hdc_code.specs.declared.instr.Instr.{Instr}
use Rattle.hdc_code.specs.Machine.{Config, ended_with, step}
use Rattle.hdc_code.specs.Sound.{Reaches, IsSound}
use Rattle.hdc_code.proofs.Paths.{reaches_next}
use Rattle.hdc_top.specs.declared.machine.Machine.{Machine}
use Rattle.hdc_top.specs.Runs.{config_of, Leads}

-- a running machine on a sound path has a step
pub has_step : (code : List Instr) (m : Machine) → IsSound code → Reaches code (config_of m) → IsSome (step code (config_of m))
has_step code m sound reached = ⊎_elim (λ over. absurd over) (λ some. some) (sound (config_of m) reached)

pub reaches_end : (code : List Instr) (c : Config) (o : Option Outcome) (result : Outcome) (m : Machine) → Reaches code c → o ≡ Some result → Leads (step code c) o m → Reaches code (ended_with result m.ticks)
reaches_end code c o result m reached e h = reaches_next code c _ reached (subst (λ x. Leads (step code c) x m) e h)

pub reaches_on : (code : List Instr) (c : Config) (o : Option Outcome) (m : Machine) → Reaches code c → o ≡ None → Leads (step code c) o m → Reaches code (config_of m)
reaches_on code c o m reached e h = reaches_next code c _ reached (subst (λ x. Leads (step code c) x m) e h)
