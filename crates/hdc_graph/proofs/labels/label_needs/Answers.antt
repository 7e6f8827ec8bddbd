use Rattle.std.proofs.Common.{◌<◌, length, arith}
use Rattle.hdc_graph.proofs.Noting.{noted_more, noted_all, needed_labelled, within_labels}
use Rattle.hdc_graph.proofs.labels.label_needs.Goals as goal

pub note_needs-requires-clause-needed : goal.note_needs-requires-clause-needed
note_needs-requires-clause-needed c = rw c.needs.ensures (needed_labelled c.args.graph.now c.args.labels.now c.len.ensures.closed c.requires c.loop-node.node)

pub loop-node-preserved : goal.loop-node-preserved
loop-node-preserved c =
    let k = c.loop-node.invariant in
    let lies : c.loop-node.node < length c.args.graph.now = omega arith in
    let label = c.requires.lies c.loop-node.node lies in
    noted_more c.args.graph.now c.args.labels.now c.loop-node.needs c.note_needs.new.needs c.loop-node.node k (omega (arith, label, k.each, c.requires.each)) (rw c.needs.ensures at c.in_ok-note_needs.ensures)

pub returns-clause-within : goal.returns-clause-within
returns-clause-within c = within_labels c.args.graph.now c.args.labels.now c.loop-node.needs c.len.ensures.closed c.requires (noted_all c.args.graph.now c.args.labels.now c.loop-node.needs c.loop-node.node (omega arith) c.loop-node.invariant)
