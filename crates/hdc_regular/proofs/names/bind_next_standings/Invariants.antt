use Rattle.std.proofs.Common.{◌≡◌, ◌≤◌, ◌+◌, ◌++◌, suc, drop, length}
use Rattle.hdc_written.specs.Mirror.{tops_behind}
use Rattle.hdc_regular.specs.Standings.{each_standing}
use Rattle.hdc_regular.proofs.names.bind_next_standings.Given as goal

abbrev pub invariant-loop-count : goal.invariant-loop-count
invariant-loop-count l = (l.count ≤ length l.tops) × (l.names ≡ each_standing l.sounds (suc l.base + l.count) (tops_behind (drop l.count l.tops)) ++ l.initial.names)

abbrev pub decreases-loop-count : goal.decreases-loop-count
decreases-loop-count l = l.count
