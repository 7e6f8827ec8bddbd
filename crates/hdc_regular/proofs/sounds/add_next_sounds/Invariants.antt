use Rattle.std.proofs.Common.{◌≡◌, ◌++◌, suc, drop}
use Rattle.hdc_written.specs.Mirror.{tops_behind}
use Rattle.hdc_regular.specs.Standings.{each_sound}
use Rattle.hdc_regular.proofs.sounds.add_next_sounds.Given as goal

abbrev pub invariant-loop-index : goal.invariant-loop-index
invariant-loop-index l = l.initial.sounds ++ each_sound l.types l.cyclic 1 (tops_behind l.parts) ≡ l.sounds ++ each_sound l.types l.cyclic (suc l.index) (tops_behind (drop l.index l.parts))
