use Rattle.std.proofs.Common.{◌≡◌, drop}
use Rattle.hdc_written.specs.Mirror.{tops_behind}
use Rattle.hdc_names.specs.Walk.{walk_tops}
use Rattle.hdc_names.proofs.check.walk_tops.Given as goal

abbrev pub invariant-loop-part : goal.invariant-loop-part
invariant-loop-part l = walk_tops (tops_behind l.parts) l.initial.walk ≡ walk_tops (tops_behind (drop l.part-index l.parts)) l.walk
