use Rattle.hdc_graph.specs.Labels.{AreNoted}
use Rattle.hdc_graph.proofs.labels.label_needs.Given as goal

abbrev pub invariant-loop-node : goal.invariant-loop-node
invariant-loop-node l = AreNoted l.graph l.labels l.needs l.node
