use Rattle.std.proofs.Common.{sym, subst}
use Rattle.hdc_code.specs.Machine.{ended_with}
use Rattle.hdc_code.specs.Sound.{IsSound, Reaches}
use Rattle.hdc_top.proofs.Running.{has_step, reaches_end, reaches_on}
use Rattle.hdc_top.proofs.machine.run.Goals as goal

pub step-requires : goal.step-requires
step-requires c = has_step c.as_slice-code.result.now c.steps.machine (subst IsSound (sym c.as_slice-code.ensures) c.requires) c.steps.invariant

pub returns-in-Some : goal.returns-in-Some
returns-in-Some c = subst (λ code. Reaches code (ended_with c.in-Some.outcome c.step.new.self.ticks)) c.as_slice-code.ensures (reaches_end _ _ _ c.in-Some.outcome c.step.new.self c.steps.invariant c.in-Some.is c.in_ok-outcome.ensures.leads)

pub steps-preserved : goal.steps-preserved
steps-preserved c = reaches_on _ _ _ c.step.new.self c.steps.invariant c.in_default.is c.in_ok-outcome.ensures.leads
