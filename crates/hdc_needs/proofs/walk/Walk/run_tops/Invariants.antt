use Rattle.std.proofs.Common.{take}
use Rattle.hdc_written.specs.Mirror.{tops_behind}
use Rattle.hdc_needs.specs.Agrees.{Describes}
use Rattle.hdc_needs.specs.Walk.{State, run_tops}
use Rattle.hdc_needs.proofs.walk.Walk.run_tops.Given as goal

abbrev pub invariant-loop-part : goal.invariant-loop-part
invariant-loop-part l = (state : State) → Describes l.initial.self state → Describes l.self (run_tops (tops_behind (take l.part-index l.tops)) state)
