use Rattle.hdc_graph.proofs.Noting.{own_more, own_same}
use Rattle.hdc_graph.proofs.labels.own_labels.Goals as goal
use Rattle.hdc_graph.proofs.labels.own_labels.Goals.{then-labels-node+in_ok-push, else-labels-node}

pub loop-node-preserved : goal.loop-node-preserved
loop-node-preserved c = elim c.if-labels-node.branch [
  | then-labels-node+in_ok-push w ↦ rw (w.own-is, w.in_ok-push.ensures.ok) (own_more c.args.labels.now c.loop-node.own c.loop-node.node c.loop-node.invariant w.if-labels-node.true)
  | else-labels-node w ↦ rw w.own-is (own_same c.args.labels.now c.loop-node.own c.loop-node.node c.loop-node.invariant w.if-labels-node.false)
]
