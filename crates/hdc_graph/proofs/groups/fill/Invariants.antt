use Rattle.hdc_graph.specs.Filling.{AreFilledTo}
use Rattle.hdc_graph.proofs.groups.fill.Given as goal

abbrev pub invariant-loop-node : goal.invariant-loop-node
invariant-loop-node l = AreFilledTo l.labels l.places l.count l.groups l.node
