use Rattle.std.proofs.Common.{ℕ, ◌<◌, List, Option, length, get_or, arith, ap, ◌∙◌}
use Rattle.hdc_graph.specs.Lists.{place_in}
use Rattle.hdc_graph.proofs.Labelling.{labelled_known_now, labelled_new_now}
use Rattle.hdc_graph.proofs.labels.label_nodes.Goals as goal
use Rattle.hdc_graph.proofs.labels.label_nodes.Goals.{in-Some+in_ok-push-in-Some, in-None+in_ok-push-in-None}

pub loop-node-preserved : goal.loop-node-preserved
loop-node-preserved c =
    let k = c.loop-node.invariant in
    let lies : c.loop-node.node < length c.args.graph.now = omega arith in
    let below = c.requires.below c.loop-node.node lies in
    elim c.match-slot.branch [
      | in-Some+in_ok-push-in-Some w ↦ labelled_known_now c.args.numbers.now c.loop-node.firsts _ c.loop-node.labels _ _ c.loop-node.node _ k (w.in-Some.ensures ∙ ap (λ (xs : List (Option ℕ)). place_in xs (get_or c.args.numbers.now c.loop-node.node 0)) c.as_slice.ensures) w.firsts-is w.labels-is w.in_ok-push-in-Some.ensures.ok
      | in-None+in_ok-push-in-None w ↦ labelled_new_now c.args.numbers.now c.loop-node.firsts _ _ c.loop-node.labels _ _ c.loop-node.node k (omega (arith, below, k.firsts_each, c.requires.numbering.each)) (w.in-None.ensures ∙ ap (λ (xs : List (Option ℕ)). place_in xs (get_or c.args.numbers.now c.loop-node.node 0)) c.as_slice.ensures) w.firsts-is w.set.ensures w.labels-is w.in_ok-push-in-None.ensures.ok
    ]
