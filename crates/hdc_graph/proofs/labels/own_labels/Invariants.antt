use Rattle.hdc_graph.specs.Labels.{AreOwn}
use Rattle.hdc_graph.proofs.labels.own_labels.Given as goal

abbrev pub invariant-loop-node : goal.invariant-loop-node
invariant-loop-node l = AreOwn l.labels l.node l.own
