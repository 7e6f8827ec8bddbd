use Rattle.hdc_graph.specs.Labels.{AreLabelled}
use Rattle.hdc_graph.proofs.labels.label_nodes.Given as goal

abbrev pub invariant-loop-node : goal.invariant-loop-node
invariant-loop-node l = AreLabelled l.numbers l.firsts l.labels l.node
