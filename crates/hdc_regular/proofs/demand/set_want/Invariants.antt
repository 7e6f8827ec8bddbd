use Rattle.std.proofs.Common.{◌≡◌, ◌-◌, ◌+◌, length}
use Rattle.hdc_regular.specs.Demands.{want_set}
use Rattle.hdc_regular.proofs.demand.set_want.Given as goal

abbrev pub invariant-loop-wanted : goal.invariant-loop-wanted
invariant-loop-wanted l = want_set l.initial.wanted l.place l.want ≡ want_set l.wanted l.place l.want

abbrev pub decreases-loop-wanted : goal.decreases-loop-wanted
decreases-loop-wanted l = (l.place + 1) - length l.wanted
