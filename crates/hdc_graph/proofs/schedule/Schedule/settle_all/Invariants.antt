use Rattle.hdc_graph.specs.Schedule.{IsScheduling, IsSettling, left}
use Rattle.hdc_graph.proofs.schedule.Schedule.settle_all.Given as goal

abbrev pub invariant-loop-component : goal.invariant-loop-component
invariant-loop-component l = record { under_way : IsScheduling l.self; settling : IsSettling l.initial.self l.self }

abbrev pub decreases-loop-component : goal.decreases-loop-component
decreases-loop-component l = left l.self
