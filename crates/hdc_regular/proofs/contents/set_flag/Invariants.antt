use Rattle.std.proofs.Common.{◌≡◌, ◌-◌, ◌+◌, length}
use Rattle.hdc_regular.specs.Contents.{flag_set}
use Rattle.hdc_regular.proofs.contents.set_flag.Given as goal

abbrev pub invariant-loop-flags : goal.invariant-loop-flags
invariant-loop-flags l = flag_set l.initial.flags l.place ≡ flag_set l.flags l.place

abbrev pub decreases-loop-flags : goal.decreases-loop-flags
decreases-loop-flags l = (l.place + 1) - length l.flags
