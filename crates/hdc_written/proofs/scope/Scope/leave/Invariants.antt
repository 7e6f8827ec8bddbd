use Rattle.std.proofs.Common.{◌≡◌, ◌-◌, length, drop}
use Rattle.hdc_written.proofs.scope.Scope.leave.Given as goal

-- what is to be left is still the same
abbrev pub invariant-loop-self : goal.invariant-loop-self
invariant-loop-self g l = drop (length l.self - l.size) l.self ≡ drop (length l.initial.self - l.size) l.initial.self

abbrev pub decreases-loop-self : goal.decreases-loop-self
decreases-loop-self g l = length l.self
