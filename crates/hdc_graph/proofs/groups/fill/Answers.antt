use Rattle.std.proofs.Common.{arith, sym, ◌∙◌}
use Rattle.hdc_graph.proofs.Filling.{filled_some, filled_none, filled_all}
use Rattle.hdc_graph.proofs.groups.fill.Goals as goal
use Rattle.hdc_graph.proofs.groups.fill.Goals.{in-Some+in_ok-push, in_default}

pub loop-node-preserved : goal.loop-node-preserved
loop-node-preserved c = elim c.match-slot.branch [
  | in-Some+in_ok-push w ↦ (let below = c.requires.below _ _ (sym w.in-Some.ensures) in let each = c.loop-node.invariant.each in
      filled_some c.args.labels.now c.args.places.now c.args.count c.loop-node.groups _ c.loop-node.node c.loop-node.invariant w.in-Some.place (sym w.in-Some.ensures) (omega (arith, below, each)) (w.groups-is ∙ w.in_ok-push.ensures))
  | in_default w ↦ filled_none c.args.labels.now c.args.places.now c.args.count c.loop-node.groups _ c.loop-node.node c.loop-node.invariant (sym w.in_default.ensures) w.groups-is
]

pub returns : goal.returns
returns c = filled_all c.args.labels.now c.args.places.now c.args.count c.loop-node.groups c.loop-node.node (omega arith) c.loop-node.invariant
