use Rattle.std.proofs.Common.{refl}
use Rattle.hdc_graph.proofs.Noting.{noted_one}
use Rattle.hdc_graph.proofs.labels.note_needs.Goals as goal

pub loop-node-preserved : goal.loop-node-preserved
loop-node-preserved c =
    noted_one c.args.labels.now c.args.needs.now c.loop-node.needs c.push.new.self c.args.label c.loop-node.node-index _ c.args.needed.now c.requires.label c.loop-node.invariant c.loop-node-test.true refl c.in_ok-push.ensures
