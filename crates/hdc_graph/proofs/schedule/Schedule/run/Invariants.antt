use Rattle.std.proofs.Common.{◌≡◌, []}
use Rattle.hdc_graph.specs.Schedule.{IsScheduling, IsLater, untaken}
use Rattle.hdc_graph.proofs.schedule.Schedule.run.Given as goal

abbrev pub invariant-loop-self : goal.invariant-loop-self
invariant-loop-self l = record { under_way : IsScheduling l.self; later : IsLater l.fn.self l.self; settled : l.self.restless ≡ [] }

abbrev pub decreases-loop-self : goal.decreases-loop-self
decreases-loop-self l = untaken l.self.places
