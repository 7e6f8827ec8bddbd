use Rattle.std.proofs.Common.{◌≡◌, length}
use Rattle.hdc_layout.specs.Progress.{after_step, removes}
use Rattle.hdc_layout.specs.Rules.{close_while}
use Rattle.hdc_layout.proofs.rules.Layout.close.Given as goal

-- the layout is still to be left as it was to be
abbrev pub invariant-loop-cause : goal.invariant-loop-cause
invariant-loop-cause l = after_step l.self (close_while (removes l.cause) l.at l.self.stack) ≡ after_step l.initial.self (close_while (removes l.cause) l.at l.initial.self.stack)

abbrev pub decreases-loop-cause : goal.decreases-loop-cause
decreases-loop-cause l = length l.self.stack
