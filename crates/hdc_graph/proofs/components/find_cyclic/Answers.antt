use Rattle.std.proofs.Common.{◌+◌, ◌<◌, ◌∷◌, [], ap, ◌∙◌, length, length-append, arith}
use Rattle.hdc_graph.proofs.Numbering.{needed_lies, looped_more}
use Rattle.hdc_graph.proofs.components.find_cyclic.Goals as goal

pub needs_number-requires : goal.needs_number-requires
needs_number-requires c = rw c.needs.ensures (λ i l. needed_lies c.args.graph.now c.args.numbers.now c.len-node-end.ensures.closed c.requires c.loop-node.node i l)

pub loop-node-preserved : goal.loop-node-preserved
loop-node-preserved c =
    let k = c.loop-node.invariant in
    let lies : c.loop-node.node < length c.args.graph.now = omega arith in
    rw c.in_ok-push.ensures.ok (record {
      each = length-append c.loop-node.cyclic (c.needs_number.result ∷ []) ∙ ap (λ n. n + 1) k.each;
      reaches = looped_more c.args.graph.now c.args.numbers.now c.len-node-end.ensures.closed c.requires c.loop-node.cyclic c.loop-node.node c.needs_number.result k.each lies k.reaches (rw c.needs.ensures at c.needs_number.ensures);
    })
