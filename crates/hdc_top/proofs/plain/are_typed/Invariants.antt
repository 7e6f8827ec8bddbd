use Rattle.std.proofs.Common.{◌≡◌, drop}
use Rattle.hdc_written.specs.Mirror.{tops_behind}
use Rattle.hdc_top.specs.Main.{are_typed}
use Rattle.hdc_top.proofs.plain.are_typed.Given as goal

abbrev pub invariant-loop-part : goal.invariant-loop-part
invariant-loop-part l = are_typed (tops_behind l.tops) ≡ are_typed (tops_behind (drop l.part-index l.tops))
